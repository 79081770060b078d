use Rattle.std.proofs.Common.{◌≡◌, ◌+◌, ◌≤◌, ◌++◌, length, map, take}
use Rattle.std.specs.Vec.{vec_capacity, vec_len}
use Rattle.history_state.specs.Objects.{serial_of}
use Rattle.link_lists.proofs.load_record.record.push_serials.Given as goal

-- the serials of those in front are there, and there is room for the rest
abbrev pub invariant-loop-object : goal.invariant-loop-object
invariant-loop-object l = record {
  items : l.serials.items ≡ l.initial.serials.items ++ map serial_of (take l.object-index l.objects);
  room : vec_len l.serials + length l.objects ≤ vec_capacity l.serials + l.object-index;
}
