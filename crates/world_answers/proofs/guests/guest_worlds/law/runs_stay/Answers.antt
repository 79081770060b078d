use Rattle.std.proofs.Common.{refl}
use Rattle.history_journal.specs.Following.{machine_of}
use Rattle.world_answers.proofs.GuestsPart.GuestWorlds.Staying.{Laws, finals_begin_at, finals_lack_at, start_is_at, turns_stay_at}
use Rattle.world_answers.proofs.guests.guest_worlds.law.runs_stay.Goals as goal

laws : (c : goal.After-files_only_narrow) → Laws
laws c = record {
  only = λ count. c.accepted_object.ensures.machine (machine_of count) refl;
  untold_events = c.files_only_narrow.ensures.events;
  untold_calls = c.files_only_narrow.ensures.calls;
  untold_starts = c.files_only_narrow.ensures.starts;
  start_runs = c.runs_go_on.ensures.start;
  start_ends = c.ends_fit.ensures.start;
  start_writes = c.worlds_keep_writes.ensures.start;
  turns_run = c.runs_go_on.ensures.turns;
  turns_before = c.ends_fit.ensures.turns;
  turns_write = c.worlds_keep_writes.ensures.turns;
  finals_run = c.runs_go_on.ensures.finals;
  finals_write = c.worlds_keep_writes.ensures.finals;
  lack_runs = c.runs_go_on.ensures.no_memory;
  lack_writes = c.worlds_keep_writes.ensures.no_memory;
}

pub returns-clause-start : goal.returns-clause-start
returns-clause-start c = start_is_at (laws c)

pub returns-clause-turns : goal.returns-clause-turns
returns-clause-turns c = turns_stay_at (laws c)

pub returns-clause-begins : goal.returns-clause-begins
returns-clause-begins c = finals_begin_at (laws c)

pub returns-clause-lacks : goal.returns-clause-lacks
returns-clause-lacks c = finals_lack_at (laws c)
