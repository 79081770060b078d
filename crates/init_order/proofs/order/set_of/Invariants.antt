use Rattle.std.proofs.Common.{◌≡◌, ℕ, eqb, take}
use Rattle.std.specs.HashSet.{contains}
use Rattle.history_graph.specs.Initialised.{is_one_of}
use Rattle.init_order.proofs.order.set_of.Given as goal

-- the serials so far are in the set, and no others
abbrev pub invariant-loop-serial : goal.invariant-loop-serial
invariant-loop-serial l = (q : ℕ) → contains eqb l.set q ≡ is_one_of (take l.serial-index l.serials) q
