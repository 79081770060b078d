-- Rules of acceptance: each is kept, or broken with a number.
use Rattle.std.specs.Prelude.{ℕ, suc, Bool, Option, None, Some, if◌then◌else◌, List, [], ◌∷◌}
use Rattle.ld_base.specs.declared.fault.NotAccepted.{NotAccepted}

-- a rule that a test breaks, with the number 0
abbrev pub broken_if : Bool → Option ℕ
broken_if test = if test then Some 0 else None

-- the first rule that is broken, of rules from this one on, each told by the number with which it is broken
abbrev pub first_broken : ℕ → List (Option ℕ) → Option NotAccepted
first_broken rule [] = None
first_broken rule (None ∷ numbers) = first_broken (suc rule) numbers
first_broken rule (Some number ∷ numbers) = Some (record { rule = rule; number = number })
