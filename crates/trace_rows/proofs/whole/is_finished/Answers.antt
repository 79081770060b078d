use Rattle.std.proofs.Common.{not, sym, ap}
use Rattle.trace_rows.proofs.Settled.{finalised_so, finished_so}
use Rattle.trace_rows.proofs.Tests.{or_else}
use Rattle.trace_rows.proofs.whole.is_finished.Goals as goal

pub returns-else-not-are_finals : goal.returns-else-not-are_finals
returns-else-not-are_finals c = λ w s same x.
    or_else (not c.are_finals.result) c.are_finalised.result (ap not c.if-not-are_finals.false)
    (finished_so w s c.are_finals.result c.are_finalised.result (c.are_finals.ensures w s same (sym x.endings)) (finalised_so s c.args.replay.now c.are_finalised.result x c.are_finalised.ensures))
