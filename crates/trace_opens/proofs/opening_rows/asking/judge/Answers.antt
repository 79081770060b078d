use Rattle.std.proofs.Common.{sym, ◌∙◌}
use Rattle.history_calls.specs.Laws.{long, flags}
use Rattle.trace_opens.proofs.opening_rows.asking.judge.Goals as goal

pub returns-then-is_too_long : goal.returns-then-is_too_long
returns-then-is_too_long c = λ s started are. record {
  refuses = long (sym (c.is_too_long.ensures s started) ∙ c.if-is_too_long.true);
  known = c.is_overlong.ensures.no c.if-is_overlong.false;
}

pub returns-then-not-are_flags : goal.returns-then-not-are_flags
returns-then-not-are_flags c = λ s started are. record {
  refuses = flags (sym (c.is_too_long.ensures s started) ∙ c.if-is_too_long.false) (sym c.are_flags.ensures ∙ c.if-not-are_flags.true);
  known = c.is_overlong.ensures.no c.if-is_overlong.false;
}

pub returns-in-Err : goal.returns-in-Err
returns-in-Err c = λ s started are. record {
  refuses = c.in-Err.ensures.refused s are (sym (c.is_too_long.ensures s started) ∙ c.if-is_too_long.false) (sym c.are_flags.ensures ∙ c.if-not-are_flags.false);
  known = c.is_overlong.ensures.no c.if-is_overlong.false;
}
