use Rattle.std.proofs.Common.{◌≡◌, ℕ, Some, eqb, cond, take}
use Rattle.std.specs.HashMap.{get}
use Rattle.init_order.specs.declared.walk.Mark.TheVariants.{Settled}
use Rattle.init_order.specs.Walking.{is_in}
use Rattle.init_order.proofs.walk.mark_settled.Given as goal

-- the serials so far are marked, and no others
abbrev pub invariant-loop-serial : goal.invariant-loop-serial
invariant-loop-serial l = (q : ℕ) → get eqb l.marks q ≡ cond (is_in (take l.serial-index l.serials) q) (Some (Settled l.component)) (get eqb l.fn.marks q)
