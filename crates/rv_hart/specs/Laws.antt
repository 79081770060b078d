-- Laws of steps and of trails.
use Rattle.std.specs.Prelude.{◌≡◌, ℕ, ◌-◌, ◌^◌, Bool, List, [], ◌++◌}
use Rattle.std.specs.Int.{w64}
use Rattle.rv_hart.specs.declared.bus.BusFault.{BusFault}
use Rattle.rv_hart.specs.declared.bus.Item.{Item}
use Rattle.rv_hart.specs.declared.stepping.Stop.TheVariants.{Refused}
use Rattle.rv_hart.specs.Arithmetic.{quotient, remainder, unsigned_quotient, unsigned_remainder, all_ones}
use Rattle.rv_hart.specs.Registers.{Registers}
use Rattle.rv_hart.specs.Items.{StepLeaves}
use Rattle.rv_hart.specs.Trail.{Place, Ready, Stopped, Leads, IsStep}

-- from a place, the same calls lead to one place
abbrev pub OneEnd : Type 0
OneEnd = (start : Place) (items : List Item) (one other : Place) → Leads start items one → Leads start items other → one ≡ other

-- the calls of a step lead the hart by the instructions
abbrev pub StepLeads : Type 0
StepLeads = (r : Registers) (items : List Item) (end : Place) → IsStep r items end → Leads (Ready r) items end

-- calls that lead to a place, and then more from there, lead on together
abbrev pub LeadsJoin : Type 0
LeadsJoin = (start between end : Place) (items more : List Item) → Leads start items between → Leads between more end → Leads start (items ++ more) end

-- only a step whose fetch is refused leaves nothing
abbrev pub SilentSteps : Type 0
SilentSteps = (has_word : ℕ → Bool) (r : Registers) (end : Place) → StepLeaves has_word r [] end → (fault : BusFault) × (end ≡ Stopped r (Refused r.pc fault))

-- division by zero, and the one signed division that overflows (Unprivileged ISA 20191213, "Division Operations")
abbrev pub DivisionEdges : Type 0
DivisionEdges = (a : ℕ) → (unsigned_quotient w64 a 0 ≡ 2 ^ 64 - 1) × (unsigned_remainder a 0 ≡ a) × (quotient w64 a 0 ≡ all_ones w64)
    × (remainder w64 a 0 ≡ a) × (quotient w64 (2 ^ 63) (all_ones w64) ≡ 2 ^ 63) × (remainder w64 (2 ^ 63) (all_ones w64) ≡ 0)
