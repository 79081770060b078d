use Rattle.std.proofs.Common.{take}
use Rattle.std.specs.List.{AllPass}
use Rattle.history_state.specs.Setting.{is_exit}
use Rattle.trace_text.proofs.run_texts.run_end.RunEnd.of.Given as goal

-- the harts so far ended by exit
abbrev pub invariant-loop-number : goal.invariant-loop-number
invariant-loop-number l = AllPass is_exit (take l.number l.ends)
