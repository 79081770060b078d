-- Words that are taken, and the matches that they have.
use Rattle.std.specs.Prelude.{◌≡◌, true, false, List, [], ◌∷◌, length, Some}
use Rattle.clap.specs.Simple.{is_simple, matches_of}
use Rattle.clap.specs.Takes.{takes}
use Rattle.clap.specs.Values.{bool_text}
use Rattle.clap.specs.Walk.{Row, Text, first_of, one_of}
use Rattle.cli_words.specs.declared.switch.Switch.{Switch}
use Rattle.cli_words.specs.Options.{Piece, given, has_value, name_of, option_in, stands}
use Rattle.cli_words.specs.Reads.{Are}
use Rattle.cli_read.specs.declared.clap_words.form.Form.{Form}
use Rattle.cli_read.specs.ClapWords.Forms.{app_of, id_of, names_of, options_of}

-- the other words have their names, one by one
abbrev pub AreNamed : List Text → List Text → List Row → Type 0
AreNamed [] words rows = words ≡ []
AreNamed (name ∷ names) [] rows = ⊥
AreNamed (name ∷ names) (word ∷ words) rows = (first_of name rows ≡ Some word) × AreNamed names words rows

-- the matches have the values that the pieces give
pub record Match (form : Form) (pieces : List Piece) (others : List Text) (rows : List Row) : Type 0 where
  pub values : (c : Switch) → has_value c ≡ true → first_of (id_of c) rows ≡ given c pieces
  pub flags : (c : Switch) → has_value c ≡ false → option_in (options_of form) (name_of c) ≡ Some c
      → one_of (id_of c) rows ≡ Some (bool_text (stands c pieces))
  pub words : AreNamed (names_of form) others rows

-- behind the command's own word
pub record IsTaken (form : Form) (name : Text) (words : List Text) (pieces : List Piece) (others : List Text) : Type 0 where
  pub simple : is_simple (app_of name form) ≡ true
  pub takes : takes (app_of name form) words ≡ true
  pub matches : Match form pieces others (matches_of (app_of name form) words)

abbrev pub AreTaken : Type 0
AreTaken = (form : Form) (name word : Text) (words : List Text) (pieces : List Piece) (others : List Text) → Are (options_of form) words pieces others
    → length others ≡ length (names_of form) → IsTaken form name (word ∷ words) pieces others
