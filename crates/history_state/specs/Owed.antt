-- Events that are sure to come, or may come without being asked for: room for them is kept from the event on that brings them, so that none wants
-- memory when it comes.
use Rattle.std.specs.Prelude.{ℕ, ◌+◌, ◌-◌, ◌*◌, ◌<◌, Bool, ◌==◌, if◌then◌else◌, List, length, filter, count_by, sum_by}
use Rattle.std.specs.List.{range_with_len}
use Rattle.history_event.specs.declared.event.CloseAnswer.{CloseAnswer}
use Rattle.history_event.specs.declared.event.CloseAnswer.TheVariants as closes
use Rattle.history_event.specs.declared.event.Event.{Event}
use Rattle.history_event.specs.declared.event.Event.TheVariants as events
use Rattle.history_event.specs.declared.event.OpenAnswer.{OpenAnswer}
use Rattle.history_event.specs.declared.event.OpenAnswer.TheVariants as opens
use Rattle.history_event.specs.declared.state.Ending.{Ending}
use Rattle.history_state.specs.State.{State}
use Rattle.history_state.specs.Grants.{is_open}
use Rattle.history_state.specs.Step.{closing_of}

-- ---- ends

-- hart 0 may end twice, the second time in the final destructors, and each other hart once
abbrev pub ends_at_most : ℕ → ℕ
ends_at_most hart = if hart == 0 then 2 else 1

abbrev pub is_end_of : ℕ → Ending → Bool
is_end_of hart e = e.hart == hart

-- how often a hart has ended
abbrev pub times_ended : ℕ → List Ending → ℕ
times_ended hart endings = count_by (is_end_of hart) endings

-- the ends that are left to so many harts
abbrev pub ends_left : ℕ → List Ending → ℕ
ends_left harts endings = sum_by (λ hart. ends_at_most hart - times_ended hart endings) (range_with_len 0 harts)

-- ---- all of them

-- how many objects were ever loaded: serials are given one after another, from 1 on
abbrev pub ever_loaded : State → ℕ
ever_loaded s = s.next - 1

-- an open grant is settled, each object that was loaded is initialised and finalised, a closing is followed by its unmapping, and harts end
unfoldable pub owed : ℕ → State → ℕ
owed harts s =
    length (filter is_open s.grants) + (ever_loaded s - length s.inits) + (ever_loaded s - length s.finis) + length s.closings + ends_left harts s.endings

-- ---- what an event does to them

-- so many more come with it: an Init and a Fini of each new object, the unmapping of a closing, the settling of a grant
abbrev pub opening_brings : OpenAnswer → ℕ
opening_brings (opens.Done id root added ranges) = 2 * length added
opening_brings opens.Absent = 0
opening_brings (opens.Refused fault) = 0

abbrev pub closing_brings : CloseAnswer → ℕ
closing_brings (closes.Done set) = length (closing_of 0 set)
closing_brings (closes.Refused fault) = 0

abbrev pub brings : Event → ℕ
brings (events.Open hart ask answer) = opening_brings answer
brings (events.Close hart handle answer) = closing_brings answer
brings (events.Grant number hart owner slot choice value) = 1
brings other = 0

-- it is one of them: room for it was kept
abbrev pub IsOwed : ℕ → State → Event → Type 0
IsOwed harts s (events.Unmapped hart set) = Unit {0}
IsOwed harts s (events.Bound number) = Unit {0}
IsOwed harts s (events.Lost number saw) = Unit {0}
IsOwed harts s (events.Init hart object) = Unit {0}
IsOwed harts s (events.Fini hart object) = Unit {0}
IsOwed harts s (events.Ended hart reason) = (hart < harts) × (times_ended hart s.endings < ends_at_most hart)
IsOwed harts s other = ⊥
