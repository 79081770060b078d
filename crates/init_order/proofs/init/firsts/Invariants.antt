use Rattle.std.proofs.Common.{◌≡◌, ℕ, eqb}
use Rattle.std.specs.HashSet.{contains}
use Rattle.std.specs.List.{list_any}
use Rattle.init_order.specs.Jobs.{AreFirstsTo}
use Rattle.init_order.proofs.init.firsts.Given as goal

-- the serials so far are in the line and in the set, each where it stood first
abbrev pub invariant-loop-serial : goal.invariant-loop-serial
invariant-loop-serial l = record {
  line : AreFirstsTo l.serials l.serial-index l.line.items;
  seen : (q : ℕ) → contains eqb l.seen q ≡ list_any (eqb q) l.line.items;
}
