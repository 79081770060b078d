use Rattle.history_state.specs.Lemmas.LeftOut.{left_out, scopes_whole}
use Rattle.history_state.proofs.law.nothing_left_out.Goals as goal

pub returns-clause-none : goal.returns-clause-none
returns-clause-none c = left_out (record { serials = c.serials_follow.ensures; leads = c.found_stands.ensures.names; founds = c.found_stands.ensures.founds })

pub returns-clause-parts : goal.returns-clause-parts
returns-clause-parts c = scopes_whole (record { serials = c.serials_follow.ensures; leads = c.found_stands.ensures.names; founds = c.found_stands.ensures.founds })
