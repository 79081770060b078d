use Rattle.word_rule.specs.Lemmas.Lanes.{first_lane_is, hart_leaves, keeper_leaves, lane_stays}
use Rattle.word_rule.proofs.law.lanes_stay.Goals as goal

pub returns-clause-first : goal.returns-clause-first
returns-clause-first c = first_lane_is

pub returns-clause-stays : goal.returns-clause-stays
returns-clause-stays c = lane_stays

pub returns-clause-harts : goal.returns-clause-harts
returns-clause-harts c = hart_leaves

pub returns-clause-keeper : goal.returns-clause-keeper
returns-clause-keeper c = λ kind k n leaves. (keeper_leaves kind k n leaves).0
