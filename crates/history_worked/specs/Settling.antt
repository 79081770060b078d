-- Neighbours of worked histories: how grants are settled, faults told, and ends noted.
use Rattle.std.specs.Prelude.{List, [], ◌∷◌, ◌++◌, Some, None, take}
use Rattle.ld_base.specs.declared.fault.DlFault.TheVariants.{BadHandle}
use Rattle.ld_base.specs.declared.linking.Choice.TheVariants.{Def}
use Rattle.history_event.specs.declared.event.Event.{Event}
use Rattle.history_event.specs.declared.event.Event.TheVariants.{Grant, Bound, Lost, Fini, Told, Ended}
use Rattle.history_event.specs.declared.hart_end.HartEnd.TheVariants.{Exit, Memory}
use Rattle.history_state.specs.Cycle.{cycle}
use Rattle.history_state.specs.Race.{before, race}

-- ---- two grants of one slot: hart 0's number 3, of 0x39000, and then hart 1's number 4, of 0x3c000

abbrev pub both_granted : List Event
both_granted = before ++ Grant 4 1 2 0 (Def 4 1) 0x3c000 ∷ []

-- hart 1 won; hart 0 finds its value in the slot
abbrev pub lost_behind : List Event
lost_behind = both_granted ++ Bound 4 ∷ Lost 3 0x3c000 ∷ []

-- the same, but that hart 0 found what it was to put there itself
abbrev pub saw_its_own : List Event
saw_its_own = both_granted ++ Lost 3 0x39000 ∷ []

-- the same, but that it found the slot lazy
abbrev pub saw_the_lazy_word : List Event
saw_the_lazy_word = both_granted ++ Lost 3 0x34000 ∷ []

-- the same, but that both won
abbrev pub bound_twice : List Event
bound_twice = both_granted ++ Bound 4 ∷ Bound 3 ∷ []

-- ---- a fault, until it is told

abbrev pub told : List Event
told = take 19 cycle

abbrev pub told_none : List Event
told_none = told ++ Told 0 None ∷ []

abbrev pub told_twice : List Event
told_twice = told ++ Told 0 (Some (BadHandle 3)) ∷ []

-- ---- the end of the race

abbrev pub one_exited : List Event
one_exited = take 18 race

abbrev pub both_exited : List Event
both_exited = take 19 race

-- the library that came last is finalised first, not the one that came first
abbrev pub out_of_order : List Event
out_of_order = both_exited ++ Fini 0 3 ∷ []

-- a destructor runs while hart 1 does
abbrev pub finalised_early : List Event
finalised_early = one_exited ++ Fini 0 4 ∷ []

-- hart 0 has no memory for the final destructors
abbrev pub ended_again : List Event
ended_again = both_exited ++ Ended 0 Memory ∷ []

abbrev pub ended_early : List Event
ended_early = one_exited ++ Ended 0 Memory ∷ []

abbrev pub ended_thrice : List Event
ended_thrice = ended_again ++ Ended 0 Memory ∷ []

abbrev pub other_again : List Event
other_again = both_exited ++ Ended 1 (Exit 7) ∷ []
