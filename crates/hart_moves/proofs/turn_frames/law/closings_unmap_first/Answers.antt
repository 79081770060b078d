use Rattle.hart_moves.specs.TurnFrames.Lemmas.Closing.{closes_at_once, returns_behind, unmaps_all, unmaps_next}
use Rattle.hart_moves.proofs.turn_frames.law.closings_unmap_first.Goals as goal

pub returns-clause-at_once : goal.returns-clause-at_once
returns-clause-at_once c = closes_at_once

pub returns-clause-next : goal.returns-clause-next
returns-clause-next c = unmaps_next

pub returns-clause-behind : goal.returns-clause-behind
returns-clause-behind c = returns_behind

pub returns-clause-gone : goal.returns-clause-gone
returns-clause-gone c = unmaps_all c.memory_changes.ensures
