use Rattle.history_journal.specs.Following.{machine_of}
use Rattle.trace_rows.proofs.Closed.{closes_so}
use Rattle.trace_rows.proofs.rows.closing.may_close.Goals as goal

pub returns : goal.returns
returns c = λ w past same x.
    closes_so c.one_answer.ensures.calls (machine_of c.args.replay.now.harts) w past c.args.handle c.in_ok-expected.expected c.args.answer.now c.same_closing.result same x.lawful
    (c.in_ok-expected.ensures past x) c.same_closing.ensures
