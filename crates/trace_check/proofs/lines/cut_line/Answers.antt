use Rattle.std.proofs.Common.{rules, None, Some, Option, subst, sym}
use Rattle.std.specs.Prelude.{IfNone}
use Rattle.trace_check.specs.Lines.{HasNoFeed, IsLine}
use Rattle.trace_check.proofs.Splitting.{first_line, no_line}
use Rattle.trace_check.proofs.lines.cut_line.Goals as goal

if_none : {A : Type 0} (P : Type 0) (o : Option A) → P → IfNone o P
if_none P None p = p
if_none P (Some a) p = tt

pub returns-clause-line : goal.returns-clause-line
returns-clause-line c = subst IsLine (sym c.split_at.ensures.front) (first_line c.args.text.now c.in_ok-feed.feed (search rules))

pub returns-in_err-feed-clause-none : goal.returns-in_err-feed-clause-none
returns-in_err-feed-clause-none c = if_none (HasNoFeed c.args.text.now) c.from_residual.result (no_line c.args.text.now (search rules))
