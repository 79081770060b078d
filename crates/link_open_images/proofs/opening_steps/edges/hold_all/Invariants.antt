use Rattle.std.proofs.Common.{◌≡◌, ◌+◌, ◌++◌, take}
use Rattle.link_open_images.proofs.opening_steps.edges.hold_all.Given as goal

-- those in front are there, and the room for them is spent
abbrev pub invariant-loop-edge : goal.invariant-loop-edge
invariant-loop-edge l = record {
  edges : l.held.edges ≡ l.initial.held.edges ++ take l.edge-index l.edges;
  room : l.held.room + l.edge-index ≡ l.initial.held.room;
}
