-- Words behind a command that are of its form.
use Rattle.std.specs.Prelude.{◌≡◌, ◌^◌, ◌-◌, ℕ, List, [], length, Option, Some, None}
use Rattle.std.specs.Bool.{⊤}
use Rattle.std.specs.List.{slice_get}
use Rattle.std.specs.Option.{option_copied}
use Rattle.cli_words.specs.declared.switch.Switch.TheVariants as switches
use Rattle.cli_words.specs.Options.{Piece, given}
use Rattle.cli_words.specs.Reads.{Are}
use Rattle.cli_words.specs.Values.{AreFolders, AreHarts, ArePreloads, IsFuel, IsNumber, parts_by}
use Rattle.cli_read.specs.declared.clap_words.form.Form.{Form}
use Rattle.cli_read.specs.declared.clap_words.form.Form.TheVariants as forms
use Rattle.cli_read.specs.ClapWords.Forms.{names_of, options_of}
use Rattle.cli_read.specs.SaidWords.Words.{Text}
use Rattle.cli_read.specs.declared.said_words.said.Said.{Said}

-- ---- values that options may have

abbrev pub HasFolders : Option Text → Type 0
HasFolders given = (names : List Text) × AreFolders given names

abbrev pub HasPreloads : Option Text → Type 0
HasPreloads given = (names : List Text) × ArePreloads given names

abbrev pub HasHarts : Option Text → Type 0
HasHarts given = (names : List Text) × AreHarts given names

abbrev pub HasFuel : Option Text → Type 0
HasFuel given = (fuel : ℕ) × IsFuel given fuel

-- each option has a value that it may have
pub record HaveValues (lib preload harts fuel : Option Text) : Type 0 where
  pub folders : HasFolders lib
  pub preloads : HasPreloads preload
  pub names : HasHarts harts
  pub turns : HasFuel fuel

abbrev pub SaidValues : Said → Type 0
SaidValues said = HaveValues (option_copied said.lib) (option_copied said.preload) (option_copied said.harts) (option_copied said.fuel)

abbrev pub GivenValues : List Piece → Type 0
GivenValues pieces = HaveValues (given switches.Lib pieces) (given switches.Preload pieces) (given switches.Harts pieces) (given switches.Fuel pieces)

-- the parts of a value, if there is one
abbrev pub parts_in : ℕ → Option Text → List Text
parts_in byte None = []
parts_in byte (Some value) = parts_by byte value

-- ---- the other words

-- the word is a number, where the form has one
abbrev pub IsSomeNumber : Option Text → Type 0
IsSomeNumber None = ⊥
IsSomeNumber (Some word) = (number : ℕ) × IsNumber 0 (2 ^ 32 - 1) word number

abbrev pub HasNumber : Form → Option Text → Type 0
HasNumber forms.Bind first = ⊤
HasNumber forms.Turns first = ⊤
HasNumber forms.Run first = ⊤
HasNumber forms.Check first = ⊤
HasNumber forms.Path first = ⊤
HasNumber forms.Number first = IsSomeNumber first

-- ---- words of a form

-- they say its options, each at most once and with a value that it may have, and as many other words as it has
pub record IsOf (form : Form) (words : List Text) : Type 0 where
  pub pieces : List Piece
  pub others : List Text
  pub are : Are (options_of form) words pieces others
  pub count : length others ≡ length (names_of form)
  pub values : GivenValues pieces
  pub number : HasNumber form (slice_get others 0)
