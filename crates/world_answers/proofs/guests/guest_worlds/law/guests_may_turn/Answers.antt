use Rattle.std.proofs.Common.{refl}
use Rattle.history_journal.specs.Following.{machine_of}
use Rattle.world_answers.proofs.GuestsPart.GuestWorlds.Meeting.{Laws, calls_now, ends_now, finals_now, first_ends_now, passes_now, settles_now}
use Rattle.world_answers.proofs.guests.guest_worlds.law.guests_may_turn.Goals as goal

laws : (c : goal.After-finals_go_on) → Laws
laws c = record {
  only = λ count. c.accepted_object.ensures.machine (machine_of count) refl;
  may_settle = c.settling_may_come.ensures.all;
  settled = c.runs_go_on.ensures.settling;
  settled_writes = c.worlds_keep_writes.ensures.settling;
  may_end = c.turns_meet_premises.ensures.ends;
  few_ends = c.ends_are_few.ensures;
  free = c.turns_meet_premises.ensures.free;
  finished = c.turns_meet_premises.ensures.unmaps;
  written = c.turns_keep_writes.ensures.served;
  passes = c.turns_meet_premises.ensures.completes;
  finalises = c.turns_meet_premises.ensures.finalises;
  next_passes = c.finals_may_pass.ensures.next;
  goes_on = c.finals_go_on.ensures;
}

pub returns-clause-settles : goal.returns-clause-settles
returns-clause-settles c = settles_now (laws c)

pub returns-clause-ends : goal.returns-clause-ends
returns-clause-ends c = ends_now (laws c)

pub returns-clause-first : goal.returns-clause-first
returns-clause-first c = first_ends_now (laws c)

pub returns-clause-calls : goal.returns-clause-calls
returns-clause-calls c = calls_now (laws c)

pub returns-clause-passes : goal.returns-clause-passes
returns-clause-passes c = passes_now (laws c)

pub returns-clause-finals : goal.returns-clause-finals
returns-clause-finals c = finals_now (laws c)
