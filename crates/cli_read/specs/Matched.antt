-- Words of a form, and what is found of them.
use Rattle.std.specs.Prelude.{List, codes}
use Rattle.clap.specs.Walk.{rows_of}
use Rattle.clap.specs.declared.parser.matches.Found.{Found}
use Rattle.cli_read.specs.declared.clap_words.form.Form.{Form}
use Rattle.cli_read.specs.ClapWords.Taken.{Match}
use Rattle.cli_read.specs.Judged.{IsOf}
use Rattle.cli_read.specs.SaidWords.Words.{Text}

-- how the kit's reader calls the command; it prints no text
abbrev pub program_name : Text
program_name = codes "ldso"

-- the words are of the form, and their values are found
pub record IsMatched (form : Form) (words : List Text) (found : Found) : Type 0 where
  pub of : IsOf form words
  pub matches : Match form of.pieces of.others (rows_of found)
