-- The first of a list that is bad, for loops of this crate alone.
use Rattle.std.specs.Prelude.{ℕ, suc, ◌||◌, Bool, List, [], ◌∷◌, ◌++◌, Option, Some, None, option_map, if◌then◌else◌}
use Rattle.std.specs.List.{list_any}
use Rattle.ld_base.specs.declared.object.Span.{Span}
use Rattle.elf_dynamic.specs.Memory.{overlaps}

-- the first element that is bad by itself, or whose range has a byte in common with one of these ranges or with that of an element before it
abbrev pub first_again : {X : Type 0} → (X → Bool) → (X → Span) → List Span → List X → Option ℕ
first_again bad range ranges [] = None
first_again bad range ranges (x ∷ xs) =
    if bad x || list_any (overlaps (range x)) ranges then Some 0 else option_map suc (first_again bad range (ranges ++ range x ∷ []) xs)
