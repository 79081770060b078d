-- Lists as lines have them, read back. For the code of this crate alone.
use Rattle.std.specs.Prelude.{ℕ, ◌==◌, if◌then◌else◌, List, [], ◌∷◌, Option, Some, option_map}
use Rattle.std.specs.List.{slice_split}
use Rattle.std.specs.Str.{bytes_eq}
use Rattle.ld_base.specs.declared.linking.TlsPlace.{TlsPlace}
use Rattle.history_event.specs.declared.event_line.NewLine.{NewLine}
use Rattle.std.specs.Prelude.{codes}
use Rattle.trace_read.specs.Pieces.{◌>>=◌, labelled, pair, with_option}
use Rattle.trace_read.specs.Numbers.{numeral}
use Rattle.trace_read.specs.Names.{name_of}

-- what each text is
abbrev pub each : {A : Type 0} → (List ℕ → Option A) → List (List ℕ) → Option (List A)
each read [] = Some []
each read (text ∷ texts) = read text >>= λ a. each read texts >>= λ items. Some (a ∷ items)

-- what stands between commas
abbrev pub parts_of : List ℕ → List (List ℕ)
parts_of text = slice_split (λ byte. byte == 44) text

-- a list with commas between, or - where there is nothing
unfoldable pub list_of : {A : Type 0} → (List ℕ → Option A) → List ℕ → Option (List A)
list_of read text = if bytes_eq text (45 ∷ []) then Some [] else each read (parts_of text)

abbrev pub hexadecimal : List ℕ → Option ℕ
hexadecimal text = labelled (numeral 16) (codes "0x") text

abbrev pub place_of_parts : ℕ × Option ℕ → TlsPlace
place_of_parts p = record { number = p.0; offset = p.1 }

-- a module's number, and the offset of a static one
abbrev pub place : List ℕ → Option TlsPlace
place text = option_map place_of_parts (with_option 43 (numeral 10) hexadecimal text)

abbrev pub new_line_of_parts : ℕ × (List ℕ × (ℕ × Option TlsPlace)) → NewLine
new_line_of_parts p = record { serial = p.0; path = p.1.0; base = p.1.1.0; «module» = p.1.1.1 }

-- a new object
unfoldable pub new_line : List ℕ → Option NewLine
new_line text = option_map new_line_of_parts (pair 58 (numeral 10) (pair 64 name_of (with_option 47 hexadecimal place)) text)
