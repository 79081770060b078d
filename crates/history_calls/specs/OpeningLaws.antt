-- What holds of every opening: where the order of startup ends, what its relocations see of its namespace, and what its objects' names found.
use Rattle.std.specs.Prelude.{◌≡◌, ℕ, ◌==◌, if◌then◌else◌, List, [], ◌∷◌, ◌++◌, Some, Bool}
use Rattle.std.specs.List.{slice_get}
use Rattle.ld_base.specs.declared.linking.Loaded.{Loaded}
use Rattle.history_event.specs.declared.event.Event.{Event}
use Rattle.history_event.specs.declared.event.Event.TheVariants.{Open}
use Rattle.history_event.specs.declared.event.OpenAnswer.TheVariants.{Done}
use Rattle.history_event.specs.declared.event.OpenAsk.{OpenAsk}
use Rattle.history_event.specs.declared.event.Range.{Range}
use Rattle.history_event.specs.declared.handed.Function.{Function}
use Rattle.history_calls.specs.declared.link_served.startup.Setup.{Setup}
use Rattle.history_calls.specs.declared.link_served.startup.Started.{Started}
use Rattle.scope_rule.specs.Load.{Brings, Load, Walk, asks, preload_of, records_of}
use Rattle.scope_rule.specs.Loads.{IsFound}
use Rattle.scope_rule.specs.Seen.{seen_in}
use Rattle.scope_rule.specs.declared.namespace.Namespace.{Namespace}
use Rattle.history_state.specs.Objects.{namespace_of}
use Rattle.history_state.specs.Setting.{Setting}
use Rattle.history_state.specs.State.{State}
use Rattle.history_state.specs.Step.{seen_after, step}
use Rattle.history_calls.specs.Startup.{Starts}

-- the functions that startup has run end with the program's
abbrev pub ProgramIsLast : Type 0
ProgramIsLast = (w : Setting) (setup : Setup) (journal : List Event) (started : Started) → Starts w setup journal started
    → (front : List Function) × (last : Function) × (started.functions ≡ front ++ last ∷ []) × (last.object ≡ 1)

-- the namespace that the relocations of an opening see is the one of the state after it
abbrev pub OpeningsSeeTheStateAfter : Type 0
OpeningsSeeTheStateAfter = (s : State) (hart id root : ℕ) (ask : OpenAsk) (added : List Loaded) (ranges : List Range)
    → (ns : Namespace) × (namespace_of (step s (Open hart ask (Done id root added ranges))) id ≡ Some ns) × (seen_in ns ≡ seen_after s ask id root added)

-- the names of the new object at a place: of a program those that are preloaded and then those that it needs
abbrev pub names_of : Load → ℕ → Loaded → List (List ℕ)
names_of load place o = (if place == 0 then preload_of load else []) ++ o.object.needed

-- what stands in `found` of a new object at the place of one of its names is what that name found
abbrev pub FoundByName : Type 0
FoundByName = (load : Load) (deep : Bool) (walk : Walk) → Brings load walk → (j k serial : ℕ) (o : Loaded) (name : List ℕ)
    → slice_get (records_of load deep walk) j ≡ Some o → slice_get (names_of load j o) k ≡ Some name → slice_get o.found k ≡ Some serial
    → (place : ℕ) × (slice_get (asks load walk.arrivals) place ≡ Some name) × IsFound load walk place serial
