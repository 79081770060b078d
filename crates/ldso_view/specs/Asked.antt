-- What the words of the command line ask for.
use Rattle.std.specs.Prelude.{◌≡◌, ◌≢◌, codes, Some, option_map}
use Rattle.clap.specs.Matches.{first_value}
use Rattle.clap.specs.declared.parser.matches.Found.{Found}
use Rattle.trace_view.specs.declared.shown.Form.{Form}
use Rattle.trace_view.specs.View.{word_of}
use Rattle.ldso_view.specs.declared.words.Asked.{Asked}

-- the form is the one that its word names, and folder and journal are the words given for them
pub record IsAsked (found : Found) (asked : Asked) : Type 0 where
  pub form : first_value found (codes "form") ≡ Some (word_of asked.form)
  pub folder : option_map (λ word. word.now) asked.folder ≡ first_value found (codes "lib")
  pub journal : option_map (λ word. word.now) asked.journal ≡ first_value found (codes "journal")

-- no form has the word that stands for it
abbrev pub NamesNoForm : Found → Type 0
NamesNoForm found = (form : Form) → first_value found (codes "form") ≢ Some (word_of form)
