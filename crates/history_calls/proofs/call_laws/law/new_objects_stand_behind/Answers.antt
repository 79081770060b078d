use Rattle.history_calls.proofs.CallLaws.Future.{by_place, stand_behind}
use Rattle.history_calls.proofs.call_laws.law.new_objects_stand_behind.Goals as goal

pub returns-clause-place : goal.returns-clause-place
returns-clause-place c = by_place

pub returns-clause-found : goal.returns-clause-found
returns-clause-found c = stand_behind
    (record { serials = c.serials_follow.ensures; leads = c.found_stands.ensures.names; founds = c.found_stands.ensures.founds })
