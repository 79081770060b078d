-- Packed relative relocations word by word, for loops of this crate alone: `NamePlaces` says what it gives.
use Rattle.std.specs.Prelude.{ℕ, ◌+◌, ◌-◌, ◌*◌, ◌/◌, ◌%◌, ◌==◌, Bool, false, if◌then◌else◌, List, [], ◌∷◌, ◌++◌, length, map}
use Rattle.std.specs.List.{slice_get}
use Rattle.std.specs.Option.{option_map_or}
use Rattle.ld_base.specs.Field.{field}
use Rattle.elf_head.specs.AcceptancePart.Table.{table}
pub use Rattle.elf_head.specs.DynTable.Bits.{has_bit}
unfoldable pub use Rattle.elf_dynamic.specs.Parts.{bits_of}

-- the 64-bit words of the table's bytes
abbrev pub relr_words : List ℕ → List ℕ
relr_words bytes = table (field 8 bytes) 0 8 (length bytes / 8)

-- the places that a word names, bits counted from a place on: a word without its lowest bit is a place by itself, any other stands for one doubleword
-- a bit; and the place from which the next word's bits count
abbrev pub word_places : ℕ → ℕ → List ℕ
word_places next word = if word % 2 == 0 then word ∷ [] else map (λ i. next + 8 * (i - 1)) (bits_of word)

abbrev pub after_word : ℕ → ℕ → ℕ
after_word next word = if word % 2 == 0 then word + 8 else next + 504

-- the places that words name
abbrev pub places_from : ℕ → List ℕ → List ℕ
places_from next [] = []
places_from next (word ∷ words) = word_places next word ++ places_from (after_word next word) words

-- the places that a table names, in order
abbrev pub relr_places : List ℕ → List ℕ
relr_places bytes = places_from 0 (relr_words bytes)

-- the first word has to name a place by itself
abbrev pub begins_odd : List ℕ → Bool
begins_odd words = option_map_or (λ word. word % 2 == 1) (slice_get words 0) false
