-- What words say, as a value of each option.
use Rattle.std.specs.Prelude.{◌≡◌, ◌+◌, Bool, true, false, IsTrue, length, List, Option, Some, is_some}
use Rattle.std.specs.Borrow.{Bor}
use Rattle.std.specs.List.{slice_get}
use Rattle.std.specs.Option.{option_copied, option_or}
use Rattle.cli_words.specs.declared.switch.Switch.{Switch}
use Rattle.cli_words.specs.declared.switch.Switch.TheVariants as switches
use Rattle.cli_words.specs.Options.{Piece, Says, given, stand_once, stands, words_of}
use Rattle.cli_read.specs.SaidWords.Words.{Text}
use Rattle.cli_read.specs.declared.said_words.said.Said.{Said}

-- these are what pieces say
pub record Tells (pieces : List Piece) (said : Said) : Type 0 where
  pub lib : option_copied said.lib ≡ given switches.Lib pieces
  pub preload : option_copied said.preload ≡ given switches.Preload pieces
  pub harts : option_copied said.harts ≡ given switches.Harts pieces
  pub fuel : option_copied said.fuel ≡ given switches.Fuel pieces
  pub now : said.now ≡ stands switches.Now pieces
  pub trace : said.trace ≡ stands switches.Trace pieces
  pub others : said.others ≡ length (words_of pieces)
  pub first : option_copied said.first ≡ slice_get (words_of pieces) 0

-- words say options, each once, and other words, and these are what they say
pub record IsSaid (known : List Switch) (words : List Text) (said : Said) : Type 0 where
  pub pieces : List Piece
  pub says : Says known false words pieces
  pub once : IsTrue (stand_once pieces)
  pub tells : Tells pieces said

-- words say no options and other words, each option once
abbrev pub IsUnsaid : List Switch → List Text → Type 0
IsUnsaid known words = (pieces : List Piece) → Says known false words pieces → IsTrue (stand_once pieces) → ⊥

-- ---- one more

abbrev pub has_option : Said → Switch → Bool
has_option said switches.Lib = is_some said.lib
has_option said switches.Preload = is_some said.preload
has_option said switches.Harts = is_some said.harts
has_option said switches.Fuel = is_some said.fuel
has_option said switches.Now = said.now
has_option said switches.Trace = said.trace

abbrev pub with_option : Said → Switch → Option (Bor Text) → Said
with_option said switches.Lib value = record said { lib = value }
with_option said switches.Preload value = record said { preload = value }
with_option said switches.Harts value = record said { harts = value }
with_option said switches.Fuel value = record said { fuel = value }
with_option said switches.Now value = record said { now = true }
with_option said switches.Trace value = record said { trace = true }

abbrev pub with_word : Said → Bor Text → Said
with_word said word = record said { others = said.others + 1; first = option_or said.first (Some word) }
