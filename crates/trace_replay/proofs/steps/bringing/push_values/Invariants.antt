use Rattle.std.proofs.Common.{◌≡◌, ◌+◌, ◌≤◌, ◌++◌, length, map, take}
use Rattle.std.specs.Option.{option_map}
use Rattle.std.specs.Vec.{vec_capacity, vec_len}
use Rattle.history_state.specs.Addresses.{address}
use Rattle.history_state.specs.State.{State}
use Rattle.trace_replay.proofs.steps.bringing.push_values.Given as goal

-- those of the slots so far stand at the end, and there is room for the rest
abbrev pub invariant-loop-choice : goal.invariant-loop-choice
invariant-loop-choice l = record {
  items : (s : State) → s.namespaces ≡ l.namespaces → l.values.items ≡ l.initial.values.items ++ map (option_map (address s)) (take l.choice-index l.choices);
  room : vec_len l.values + length l.choices ≤ vec_capacity l.values + l.choice-index;
}
