-- An image that is there stays through all events but its unmapping.
use Rattle.std.proofs.Common.{◌≡◌, ℕ, true, List, [], ◌∷◌, ◌++◌}
use Rattle.std.specs.List.{AllByRecursion, Contains}
use Rattle.std.proofs.lemmas.Bool.{false≢true}
use Rattle.std.proofs.lemmas.List.Elements.{Contains-append_left}
use Rattle.history_event.specs.declared.event.CloseAnswer.TheVariants as closes
use Rattle.history_event.specs.declared.event.Event.{Event}
use Rattle.history_event.specs.declared.event.Event.TheVariants as events
use Rattle.history_event.specs.declared.event.OpenAnswer.TheVariants as opens
use Rattle.history_event.specs.declared.event.SymAnswer.TheVariants as syms
use Rattle.history_event.specs.declared.hart_end.HartEnd.{HartEnd}
use Rattle.history_state.specs.State.{Linked, State}
use Rattle.history_state.specs.Step.{die, initialise, loaded, lower, step}
use Rattle.hart_moves.specs.TurnEvents.Appends.{NoneEndsOrUnmaps, neither_ends_nor_unmaps}

sparing_keeps : (s : State) (e : Event) → neither_ends_nor_unmaps e ≡ true → (i : Linked) → Contains s.images i → Contains (step s e).images i
unfolding loaded die lower initialise
sparing_keeps s (events.Open hart ask (opens.Done id root added ranges)) spares i there = Contains-append_left s.images _ i there
sparing_keeps s (events.Open hart ask opens.Absent) spares i there = there
sparing_keeps s (events.Open hart ask (opens.Refused fault)) spares i there = there
sparing_keeps s (events.Close hart handle (closes.Done set)) spares i there = there
sparing_keeps s (events.Close hart handle (closes.Refused fault)) spares i there = there
sparing_keeps s (events.Unmapped hart set) spares i there = absurd (false≢true spares)
sparing_keeps s (events.Grant number hart owner slot choice value) spares i there = there
sparing_keeps s (events.Bound number) spares i there = there
sparing_keeps s (events.Lost number saw) spares i there = there
sparing_keeps s (events.Unresolved hart owner slot choice) spares i there = there
sparing_keeps s (events.Sym hart ask (syms.Found serial index value)) spares i there = there
sparing_keeps s (events.Sym hart ask (syms.Refused fault)) spares i there = there
sparing_keeps s (events.Tls hart owner address) spares i there = there
sparing_keeps s (events.Init hart object) spares i there = there
sparing_keeps s (events.Fini hart object) spares i there = there
sparing_keeps s (events.Wrote hart bytes) spares i there = there
sparing_keeps s (events.Told hart fault) spares i there = there
sparing_keeps s (events.Ended hart reason) spares i there = there

-- each of the events keeps each image
abbrev pub KeepsImages : Event → Type 0
KeepsImages e = (s : State) (i : Linked) → Contains s.images i → Contains (step s e).images i

abbrev pub AllKeep : List Event → Type 0
AllKeep events = AllByRecursion KeepsImages events

pub sparing_all : (added : List Event) → NoneEndsOrUnmaps added → AllKeep added
sparing_all [] spares = tt
sparing_all (e ∷ rest) spares = (λ s i there. sparing_keeps s e spares.0 i there, sparing_all rest spares.1)

pub with_end : (front : List Event) (h : ℕ) (reason : HartEnd) → NoneEndsOrUnmaps front → AllKeep (front ++ events.Ended h reason ∷ [])
with_end [] h reason spares = (λ s i there. there, tt)
with_end (e ∷ rest) h reason spares = (λ s i there. sparing_keeps s e spares.0 i there, with_end rest h reason spares.1)
