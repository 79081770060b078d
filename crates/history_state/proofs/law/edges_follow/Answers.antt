use Rattle.history_state.specs.Lemmas.HeldEdges.{edges_are, edges_follow}
use Rattle.history_state.proofs.law.edges_follow.Goals as goal

pub returns-clause-are : goal.returns-clause-are
returns-clause-are c = edges_are

pub returns-clause-follow : goal.returns-clause-follow
returns-clause-follow c = edges_follow (record { serials = c.serials_follow.ensures; leads = c.found_stands.ensures.names; founds = c.found_stands.ensures.founds })
