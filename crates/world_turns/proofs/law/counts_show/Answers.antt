use Rattle.world_turns.proofs.Counting.{counts_join, none_invented, nothing_shows, runs_show}
use Rattle.world_turns.proofs.law.counts_show.Goals as goal

pub returns-clause-join : goal.returns-clause-join
returns-clause-join c = counts_join

pub returns-clause-runs : goal.returns-clause-runs
returns-clause-runs c = runs_show

pub returns-clause-nothing : goal.returns-clause-nothing
returns-clause-nothing c = nothing_shows

pub returns-clause-not_invented : goal.returns-clause-not_invented
returns-clause-not_invented c = none_invented
