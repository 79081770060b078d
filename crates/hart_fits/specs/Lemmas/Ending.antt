-- An event ends a hart, or leaves the ends of a state.
use Rattle.std.proofs.Common.{◌≡◌, ℕ, refl}
use Rattle.history_event.specs.declared.event.CloseAnswer.TheVariants as closes
use Rattle.history_event.specs.declared.event.Event.{Event}
use Rattle.history_event.specs.declared.event.Event.TheVariants as events
use Rattle.history_event.specs.declared.event.OpenAnswer.TheVariants as opens
use Rattle.history_event.specs.declared.event.SymAnswer.TheVariants as syms
use Rattle.history_event.specs.declared.hart_end.HartEnd.{HartEnd}
use Rattle.history_state.specs.State.{State}
use Rattle.history_state.specs.Step.{die, initialise, loaded, lower, step, unmap}

pub data Ends (s : State) (e : Event) : Type 0 where
  none : (step s e).endings ≡ s.endings → Ends s e
  one : (h : ℕ) (reason : HartEnd) → e ≡ events.Ended h reason → Ends s e

pub ends : (s : State) (e : Event) → Ends s e
unfolding loaded die lower unmap initialise
ends s (events.Open hart ask (opens.Done id root added ranges)) = Ends.none refl
ends s (events.Open hart ask opens.Absent) = Ends.none refl
ends s (events.Open hart ask (opens.Refused fault)) = Ends.none refl
ends s (events.Close hart handle (closes.Done set)) = Ends.none refl
ends s (events.Close hart handle (closes.Refused fault)) = Ends.none refl
ends s (events.Unmapped hart set) = Ends.none refl
ends s (events.Grant number hart owner slot choice value) = Ends.none refl
ends s (events.Bound number) = Ends.none refl
ends s (events.Lost number saw) = Ends.none refl
ends s (events.Unresolved hart owner slot choice) = Ends.none refl
ends s (events.Sym hart ask (syms.Found serial index value)) = Ends.none refl
ends s (events.Sym hart ask (syms.Refused fault)) = Ends.none refl
ends s (events.Tls hart owner address) = Ends.none refl
ends s (events.Init hart object) = Ends.none refl
ends s (events.Fini hart object) = Ends.none refl
ends s (events.Wrote hart bytes) = Ends.none refl
ends s (events.Told hart fault) = Ends.none refl
ends s (events.Ended hart reason) = Ends.one hart reason refl
