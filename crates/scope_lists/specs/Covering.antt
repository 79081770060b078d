-- What the global list of a namespace has: for the code of this crate alone.
use Rattle.std.specs.Prelude.{◌≡◌, ℕ, true, ◌++◌}
use Rattle.scope_rule.specs.Breadth.{breadth, has}
use Rattle.scope_rule.specs.Seen.{Seen}
use Rattle.scope_lists.specs.Brought.{brought_in}
use Rattle.scope_lists.specs.declared.covering.Covering.{Covering}

-- it has what openings bring to an object, and what the object leads to
abbrev pub IsCovered : Seen → ℕ → Type 0
IsCovered s serial = (x : ℕ) → has (brought_in s serial ++ breadth s serial) x ≡ true → has s.global x ≡ true

-- so it is of these objects
abbrev pub IsCovering : Seen → Covering → Type 0
IsCovering s c = (serial : ℕ) → has c.serials.keys serial ≡ true → IsCovered s serial
