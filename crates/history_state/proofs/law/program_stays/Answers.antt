use Rattle.history_state.specs.Lemmas.ProgramStays.{program_stays}
use Rattle.history_state.proofs.law.program_stays.Goals as goal

pub returns : goal.returns
returns c = program_stays (record { serials = c.serials_follow.ensures; leads = c.found_stands.ensures.names; founds = c.found_stands.ensures.founds })
