use Rattle.std.proofs.Common.{◌≡◌, ◌+◌, ◌++◌, length}
use Rattle.link_open_images.proofs.opening_steps.parts.keep_all.Given as goal

-- those so far are there, and the room for them is spent
abbrev pub invariant-loop-part : goal.invariant-loop-part
invariant-loop-part l = record {
  parts : l.kept.parts ≡ l.initial.kept.parts ++ l.yielded;
  room : l.kept.room + length l.yielded ≡ l.initial.kept.room;
}
