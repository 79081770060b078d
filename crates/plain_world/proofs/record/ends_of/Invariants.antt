use Rattle.std.proofs.Common.{◌≡◌, take}
use Rattle.std.specs.Vec.{vec_capacity, vec_len}
use Rattle.world_answers.specs.ReturnsPart.Settling.{harts_in}
use Rattle.plain_world.specs.Ends.{AreEndsOf}
use Rattle.plain_world.proofs.record.ends_of.Given as goal

-- those of the harts so far, and there is room for those of the others
abbrev pub invariant-loop-hart : goal.invariant-loop-hart
invariant-loop-hart l = record {
  ends : AreEndsOf (harts_in (take l.hart-index l.harts)) l.ends.items;
  long : vec_len l.ends ≡ l.hart-index;
  room : vec_capacity l.ends ≡ vec_capacity l.fn.room;
}
