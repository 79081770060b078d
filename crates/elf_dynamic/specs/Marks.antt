-- Sets of doublewords as bits of words: for loops of this crate alone.
use Rattle.std.specs.Prelude.{◌≡◌, ℕ, ◌*◌, ◌/◌, ◌%◌, ◌==◌, Bool, false, List}
use Rattle.std.specs.List.{list_any, slice_get}
use Rattle.std.specs.Option.{option_map_or}
use Rattle.std.specs.Int.{bit_at}
use Rattle.ld_base.specs.declared.object.Span.{Span}
use Rattle.elf_dynamic.specs.Memory.{overlaps}
use Rattle.elf_dynamic.specs.Named.{doubleword}

-- the doubleword of this number is in the set
unfoldable pub is_marked : List ℕ → ℕ → Bool
is_marked words d = option_map_or (λ word. bit_at word (d % 64) == 1) (slice_get words (d / 64)) false

-- the set has the doublewords of which these ranges have a byte
abbrev pub AreMarks : List ℕ → List Span → Type 0
AreMarks words ranges = (d : ℕ) → is_marked words d ≡ list_any (overlaps (doubleword (8 * d))) ranges
