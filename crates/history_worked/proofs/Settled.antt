-- How grants are settled, faults told, and ends noted, event by event.
use Rattle.std.proofs.Common.{◌≡◌, inr, [], ◌∷◌, ◌++◌, take, Some, None, refl, sym, ◌∙◌}
use Rattle.std.proofs.lemmas.Bool.{true≢false}
use Rattle.ld_base.specs.declared.fault.DlFault.{DlFault}
use Rattle.ld_base.specs.declared.fault.DlFault.TheVariants.{BadHandle}
use Rattle.history_event.specs.declared.event.Event.TheVariants.{Bound, Fini, Lost, Told, Ended}
use Rattle.history_event.specs.declared.hart_end.HartEnd.TheVariants.{Exit, Memory}
use Rattle.history_state.specs.After.{after, after_from}
use Rattle.history_state.specs.Allowed.{Allowed}
use Rattle.history_state.specs.Cycle as cycles
use Rattle.history_state.specs.Legal.{Legal}
use Rattle.history_state.specs.Race as race
use Rattle.history_state.specs.Slots.{MayBind, MayLose}
use Rattle.history_state.specs.State.{State}
use Rattle.history_state.specs.Step.{die, initialise, loaded, lower, unmap}
use Rattle.history_state.specs.Lemmas.Cycled.{cycle_legal}
use Rattle.history_state.specs.Lemmas.History.{legal_push, legal_take}
use Rattle.history_state.specs.Lemmas.Played.{may_bind as binds}
use Rattle.history_state.specs.Lemmas.Raced.{race_legal}
use Rattle.history_worked.specs.Settling.{both_exited, both_granted, bound_twice, ended_again, ended_early, ended_thrice, finalised_early, lost_behind}
use Rattle.history_worked.specs.Settling.{one_exited, other_again, out_of_order}
use Rattle.history_worked.specs.Settling.{saw_its_own, saw_the_lazy_word, told, told_none, told_twice}
use Rattle.history_worked.proofs.Needed.{bound_first, lost_sees, lost_to_bound, not_ended, not_finalised}

-- ---- two grants of one slot

abbrev granted : State
granted = after both_granted

granted_legal : Legal race.setting both_granted
granted_legal = legal_take race.setting race.race 15 race_legal

one_binds : MayBind granted 4
unfolding loaded initialise after_from
one_binds = binds granted 4 3 refl refl refl refl refl

bound_legal : Legal race.setting (both_granted ++ Bound 4 ∷ [])
bound_legal = legal_push race.setting both_granted (Bound 4) granted_legal one_binds

abbrev bound : State
bound = after (both_granted ++ Bound 4 ∷ [])

other_lost : MayLose bound 3 0x3c000
unfolding loaded initialise after_from
other_lost = lost_to_bound bound 3 0x3c000 2 3 refl refl refl refl refl refl refl refl

pub lost_legal : Legal race.setting lost_behind
lost_legal = legal_push race.setting (both_granted ++ Bound 4 ∷ []) (Lost 3 0x3c000) bound_legal other_lost

pub not_its_own : Legal race.setting saw_its_own → ⊥
unfolding Legal loaded initialise after_from
not_its_own legal = true≢false (sym (lost_sees granted 3 0x39000 (at (legal 15 (Lost 3 0x39000) refl))) ∙ refl)
  where
    at : Allowed race.setting (take 15 saw_its_own) (Lost 3 0x39000) → MayLose granted 3 0x39000
    at h = h

pub not_lazy : Legal race.setting saw_the_lazy_word → ⊥
unfolding Legal loaded initialise after_from
not_lazy legal = true≢false (sym (lost_sees granted 3 0x34000 (at (legal 15 (Lost 3 0x34000) refl))) ∙ refl)
  where
    at : Allowed race.setting (take 15 saw_the_lazy_word) (Lost 3 0x34000) → MayLose granted 3 0x34000
    at h = h

pub not_bound_twice : Legal race.setting bound_twice → ⊥
unfolding Legal loaded initialise after_from
not_bound_twice legal = true≢false (sym (bound_first bound 3 (at (legal 16 (Bound 3) refl))) ∙ refl)
  where
    at : Allowed race.setting (take 16 bound_twice) (Bound 3) → MayBind bound 3
    at h = h

-- ---- a fault, until it is told

told_legal : Legal cycles.setting told
told_legal = legal_take cycles.setting cycles.cycle 19 cycle_legal

pub none_is_told : Legal cycles.setting told_none
unfolding loaded initialise lower die unmap after_from
none_is_told = legal_push cycles.setting told (Told 0 None) told_legal refl

some_is_none : (fault : DlFault) → Some fault ≡ None → ⊥
some_is_none fault e = cc

pub not_told_twice : Legal cycles.setting told_twice → ⊥
unfolding Legal loaded initialise lower die unmap after_from
not_told_twice legal = some_is_none (BadHandle 3) (at (legal 19 (Told 0 (Some (BadHandle 3))) refl))
  where
    at : Allowed cycles.setting (take 19 told_twice) (Told 0 (Some (BadHandle 3))) → Some (BadHandle 3) ≡ None
    at h = h

-- ---- the end of the race

exited_legal : Legal race.setting both_exited
exited_legal = legal_take race.setting race.race 19 race_legal

pub libf_not_first : Legal race.setting out_of_order → ⊥
unfolding Legal loaded initialise after_from
libf_not_first legal = not_finalised race.setting both_exited (after both_exited) 0 3 refl refl (legal 19 (Fini 0 3) refl)

pub not_while_one_runs : Legal race.setting finalised_early → ⊥
unfolding Legal loaded initialise after_from
not_while_one_runs legal = not_finalised race.setting one_exited (after one_exited) 0 4 refl refl (legal 18 (Fini 0 4) refl)

pub again_legal : Legal race.setting ended_again
unfolding loaded initialise after_from
again_legal = legal_push race.setting both_exited (Ended 0 Memory) exited_legal (inr (refl, refl))

pub not_early : Legal race.setting ended_early → ⊥
unfolding Legal loaded initialise after_from
not_early legal = not_ended race.setting (after one_exited) 0 refl refl (legal 18 (Ended 0 Memory) refl)

pub not_thrice : Legal race.setting ended_thrice → ⊥
unfolding Legal loaded initialise after_from
not_thrice legal = not_ended race.setting (after ended_again) 0 refl refl (legal 20 (Ended 0 Memory) refl)

pub not_another : Legal race.setting other_again → ⊥
unfolding Legal loaded initialise after_from
not_another legal = not_ended race.setting (after both_exited) 1 refl refl (legal 19 (Ended 1 (Exit 7)) refl)
