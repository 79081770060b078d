-- A schedule is UTF-8.
use Rattle.std.proofs.Common.{arith}
use Rattle.ldso_cli.proofs.Schedules.{schedule_utf8}
use Rattle.ldso_cli.proofs.turns.items_of.Goals as goal

pub returns-in-Err-clause-not_turns : goal.returns-in-Err-clause-not_turns
returns-in-Err-clause-not_turns c = λ same items says.
    (rw c.as_bytes.ensures at c.in-Err.ensures.cases).0 (schedule_utf8 c.args.harts c.args.schedule.now items (omega (arith, c.ranges.harts.fits)) says)
