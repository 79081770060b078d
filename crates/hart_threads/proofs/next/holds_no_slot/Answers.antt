use Rattle.hart_moves.specs.Due.{due}
use Rattle.hart_threads.proofs.Running.{next_holds_none}
use Rattle.hart_threads.proofs.next.holds_no_slot.Goals as goal

pub returns-in_default : goal.returns-in_default
returns-in_default c = λ free s. next_holds_none c.args.hart.now.hart (due s c.args.hart.now.hart) c.next_turn.result (c.next_turn.ensures s) c.in_default.not-Bind
