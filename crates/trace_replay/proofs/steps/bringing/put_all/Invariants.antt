use Rattle.std.proofs.Common.{◌≡◌, ◌+◌, ◌≤◌, ◌++◌, length, map}
use Rattle.std.specs.Vec.{vec_capacity, vec_len}
use Rattle.history_state.specs.State.{State}
use Rattle.trace_replay.specs.Opened.{chosen_by}
use Rattle.trace_replay.proofs.steps.bringing.put_all.Given as goal

-- what those so far chose stands at the end, and there is room for the others'
abbrev pub invariant-loop-new : goal.invariant-loop-new
invariant-loop-new l = record {
  items : (s : State) → s.namespaces ≡ l.namespaces → l.chosen.items ≡ l.initial.chosen.items ++ map (chosen_by s) l.yielded;
  room : vec_len l.chosen + vec_len l.fn.news ≤ vec_capacity l.chosen + length l.yielded;
}
