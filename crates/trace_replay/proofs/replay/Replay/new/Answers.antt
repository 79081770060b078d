use Rattle.std.proofs.Common.{[], sym, ap, subst, arith}
use Rattle.trace_replay.specs.Lists.{Lists}
use Rattle.trace_replay.specs.Shown.{Shows}
use Rattle.trace_replay.proofs.Opened.{shown_before}
use Rattle.trace_replay.proofs.replay.Replay.new.Goals as goal

pub invariant_of-result : goal.invariant_of-result
invariant_of-result c = record {
  history = record { past = []; shows = subst (Shows []) (sym c.in_ok-tables.ensures) (shown_before c.args.harts) };
  few = omega (arith, ap (λ (l : Lists). l.next) c.in_ok-tables.ensures);
}

pub returns-clause-shows : goal.returns-clause-shows
returns-clause-shows c = subst (Shows []) (sym c.in_ok-tables.ensures) (shown_before c.args.harts)
