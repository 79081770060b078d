-- How the edges change that relocations and bound slots are.
use Rattle.std.specs.Prelude.{◌≡◌, ◌⊎◌, ℕ, Bool, false, ◌&&◌, ◌==◌, if◌then◌else◌, List, [], map, flat_map, Contains}
use Rattle.history_event.specs.declared.event.Event.{Event}
use Rattle.history_event.specs.declared.event.Event.TheVariants as events
use Rattle.history_event.specs.declared.event.OpenAnswer.{OpenAnswer}
use Rattle.history_event.specs.declared.event.OpenAnswer.TheVariants as opens
use Rattle.history_event.specs.declared.event.OpenAsk.{OpenAsk}
use Rattle.history_event.specs.declared.state.Granting.{Granting}
use Rattle.history_graph.specs.declared.graph.Edge.{Edge}
use Rattle.history_state.specs.State.{State}
use Rattle.history_state.specs.Bound.{chosen_of}
use Rattle.history_state.specs.Grants.{is_open, target_of}
use Rattle.history_state.specs.Links.{chosen_edges, edges_to, held_edges}
use Rattle.history_state.specs.Objects.{has}
use Rattle.history_state.specs.Step.{binds, loaded, seen_after, step}

-- an opening brings what the new objects' relocations choose
abbrev pub opening_gains : State → ℕ → OpenAsk → OpenAnswer → List Edge
opening_gains s hart ask (opens.Done id root added ranges) =
    flat_map chosen_edges (map (chosen_of (loaded s hart ask id root added ranges) (seen_after s ask id root added) (binds s ask)) added)
opening_gains s hart ask opens.Absent = []
opening_gains s hart ask (opens.Refused fault) = []

-- a grant that is bound brings what its slot leads to
abbrev pub bound_gains : ℕ → Granting → List Edge
bound_gains number g = if g.number == number && is_open g then edges_to g.owner (target_of g.choice) else []

abbrev pub gained : State → Event → List Edge
gained s (events.Open hart ask answer) = opening_gains s hart ask answer
gained s (events.Bound number) = flat_map (bound_gains number) s.grants
gained s other = []

-- an unmapping takes those from its objects away
abbrev pub loses : Event → Edge → Bool
loses (events.Unmapped hart set) x = has set x.source
loses other x = false

-- the edges after an event are those before that it doesn't take away, and those that it brings
pub record EdgesFollow (s : State) (e : Event) : Type 0 where
  pub from : (x : Edge) → Contains (held_edges (step s e)) x → Contains (gained s e) x ⊎ (Contains (held_edges s) x × (loses e x ≡ false))
  pub gains : (x : Edge) → Contains (gained s e) x → Contains (held_edges (step s e)) x
  pub keeps : (x : Edge) → Contains (held_edges s) x → loses e x ≡ false → Contains (held_edges (step s e)) x
