-- The words behind a command: its options, and the other words.
use Rattle.std.specs.Prelude.{◌≡◌, ℕ, ◌+◌, Bool, true, false, not, ◌&&◌, ◌==◌, nat_lt, nat_le, List, [], ◌∷◌, length, filter, find, drop, take_while, Option}
use Rattle.std.specs.Prelude.{Some, None, codes}
use Rattle.std.specs.List.{list_all, list_any, slice_get}
use Rattle.std.specs.Option.{option_map_or}
use Rattle.std.specs.Str.{bytes_eq}
use Rattle.cli_words.specs.declared.switch.Switch.{Switch}
use Rattle.cli_words.specs.declared.switch.Switch.TheVariants as switches

-- ---- options

abbrev pub name_of : Switch → List ℕ
name_of switches.Lib = codes "--lib"
name_of switches.Preload = codes "--preload"
name_of switches.Harts = codes "--harts"
name_of switches.Fuel = codes "--fuel"
name_of switches.Now = codes "--now"
name_of switches.Trace = codes "--trace"

-- some have a value, and some stand alone
abbrev pub has_value : Switch → Bool
has_value switches.Lib = true
has_value switches.Preload = true
has_value switches.Harts = true
has_value switches.Fuel = true
has_value switches.Now = false
has_value switches.Trace = false

-- ---- words

-- the word begins with a dash
abbrev pub has_dash : List ℕ → Bool
has_dash word = option_map_or (λ b. b == 45) (slice_get word 0) false

-- a word with a dash that has more is an option
abbrev pub is_option : List ℕ → Bool
is_option word = has_dash word && nat_lt 1 (length word)

-- behind two dashes no word is
abbrev pub is_end : List ℕ → Bool
is_end word = bytes_eq word (codes "--")

-- a value may be joined to its option by an equals sign
abbrev pub is_joined : List ℕ → Bool
is_joined word = list_any (λ b. b == 61) word

abbrev pub front_of : List ℕ → List ℕ
front_of word = take_while (λ b. not (b == 61)) word

abbrev pub value_of : List ℕ → List ℕ
value_of word = drop (length (front_of word) + 1) word

-- the option that is called so, of those that a command has
abbrev pub option_in : List Switch → List ℕ → Option Switch
option_in known name = find (λ c. bytes_eq (name_of c) name) known

-- ---- pieces

-- an option, with its value if it has one, or another word
pub data Piece : Type 0 where
  flag : Switch → Piece
  valued : Switch → List ℕ → Piece
  other : List ℕ → Piece

-- what words say: of an option with a value that isn't joined to it, the next word, which has no dash, is the value
pub data Says (known : List Switch) : (ended : Bool) → List (List ℕ) → List Piece → Type 0 where
  no_more : (ended : Bool) → Says known ended [] []
  ends : (rest : List (List ℕ)) (pieces : List Piece) → Says known true rest pieces → Says known false (codes "--" ∷ rest) pieces
  is_word : (word : List ℕ) (rest : List (List ℕ)) (pieces : List Piece) → is_option word ≡ false → Says known false rest pieces
      → Says known false (word ∷ rest) (Piece.other word ∷ pieces)
  is_behind : (word : List ℕ) (rest : List (List ℕ)) (pieces : List Piece) → Says known true rest pieces
      → Says known true (word ∷ rest) (Piece.other word ∷ pieces)
  is_flag : (switch : Switch) (word : List ℕ) (rest : List (List ℕ)) (pieces : List Piece) → is_option word ≡ true → is_joined word ≡ false
      → option_in known word ≡ Some switch → has_value switch ≡ false
      → Says known false rest pieces → Says known false (word ∷ rest) (Piece.flag switch ∷ pieces)
  is_valued : (switch : Switch) (word value : List ℕ) (rest : List (List ℕ)) (pieces : List Piece) → is_option word ≡ true → is_joined word ≡ false
      → option_in known word ≡ Some switch
      → has_value switch ≡ true → has_dash value ≡ false → Says known false rest pieces
      → Says known false (word ∷ value ∷ rest) (Piece.valued switch value ∷ pieces)
  is_joined_value : (switch : Switch) (word : List ℕ) (rest : List (List ℕ)) (pieces : List Piece) → is_option word ≡ true → is_joined word ≡ true
      → option_in known (front_of word) ≡ Some switch → has_value switch ≡ true
      → Says known false rest pieces → Says known false (word ∷ rest) (Piece.valued switch (value_of word) ∷ pieces)

-- ---- what pieces hold

abbrev pub is_switch : Switch → Switch → Bool
is_switch c d = bytes_eq (name_of c) (name_of d)

abbrev pub is_of : Switch → Piece → Bool
is_of c (Piece.flag d) = is_switch c d
is_of c (Piece.valued d value) = is_switch c d
is_of c (Piece.other word) = false

-- each option stands at most once
abbrev pub all_switches : List Switch
all_switches = switches.Lib ∷ switches.Preload ∷ switches.Harts ∷ switches.Fuel ∷ switches.Now ∷ switches.Trace ∷ []

abbrev pub stand_once : List Piece → Bool
stand_once pieces = list_all (λ c. nat_le (length (filter (is_of c) pieces)) 1) all_switches

abbrev pub value_in : Piece → Option (List ℕ)
value_in (Piece.flag c) = None
value_in (Piece.valued c value) = Some value
value_in (Piece.other word) = None

-- the value of an option, if it stands
abbrev pub given : Switch → List Piece → Option (List ℕ)
given c pieces = elim (find (is_of c) pieces) [ Some piece ↦ value_in piece | None ↦ None ]

abbrev pub stands : Switch → List Piece → Bool
stands c pieces = list_any (is_of c) pieces

-- the other words, in order
abbrev pub words_of : List Piece → List (List ℕ)
words_of [] = []
words_of (Piece.flag c ∷ rest) = words_of rest
words_of (Piece.valued c value ∷ rest) = words_of rest
words_of (Piece.other word ∷ rest) = word ∷ words_of rest

-- words say one list of pieces
abbrev pub OneSaying : Type 0
OneSaying = (known : List Switch) (words : List (List ℕ)) (pieces others : List Piece) → Says known false words pieces → Says known false words others
    → pieces ≡ others
