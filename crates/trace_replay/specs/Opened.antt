-- What an opening brings.
use Rattle.std.specs.Prelude.{◌≡◌, ℕ, ◌+◌, ◌^◌, ◌<◌, ◌≤◌, Bool, ◌&&◌, ◌||◌, ◌==◌, List, [], ◌∷◌, ◌++◌, drop, filter, length, map, take, Option, Some, None, if◌then◌else◌, Contains}
use Rattle.std.specs.List.{flat_map, slice_get}
use Rattle.std.specs.Option.{option_map}
use Rattle.std.specs.Vec.{vec_capacity}
use Rattle.history_event.specs.declared.event.OpenAnswer.{OpenAnswer}
use Rattle.history_event.specs.declared.event.OpenAnswer.TheVariants as opens
use Rattle.history_event.specs.declared.event.Range.{Range}
use Rattle.history_event.specs.declared.state.Chosen.{Chosen}
use Rattle.history_event.specs.declared.state.Loading.{Loading}
use Rattle.history_graph.specs.Initialised.{InitOrder, program_last}
use Rattle.history_state.specs.Accepted.{IsStorage}
use Rattle.history_state.specs.Addresses.{address}
use Rattle.history_state.specs.Bound.{binds_now}
use Rattle.history_state.specs.Flags.{is_global, is_now}
use Rattle.history_state.specs.Links.{found_edges}
use Rattle.history_state.specs.Objects.{serial_of}
use Rattle.history_state.specs.State.{State}
use Rattle.history_state.specs.Step.{has_module, pinned_by, with_namespace}
use Rattle.history_state.specs.Storage.{HaveModules, with_modules}
use Rattle.ld_base.specs.declared.linking.Choice.{Choice}
use Rattle.ld_base.specs.declared.linking.Loaded.{Loaded}
use Rattle.ld_base.specs.declared.object.TlsSeg.{TlsSeg}
use Rattle.link_open_images.specs.OpeningSteps.Steps.{statics_after}
use Rattle.link_spaces.specs.Numbered.{AreNumberedApart}
use Rattle.link_spaces.specs.ReservedPagesPart.Laid.{AreLaid}
use Rattle.scope_rule.specs.Opening.{opened}
use Rattle.trace_replay.specs.Lists.{Lists}
use Rattle.trace_replay.specs.Steps.{kept_of}
use Rattle.trace_replay.specs.declared.steps.bringing.Brings.{Brings as Made}
use Rattle.trace_replay.specs.declared.steps.bringing.NewChoices.{NewChoices}

-- ---- what new objects chose

-- there is a choice for each relocation at least
abbrev pub HasChoices : Loaded → Option (List Choice) → Type 0
HasChoices o (Some choices) = length o.object.relocs ≤ length choices
HasChoices o None = ⊥

abbrev pub option_of : Bool → Choice → Option Choice
option_of bound choice = if bound then Some choice else None

-- there is room for the values of the slots
pub record HasRoom (n : NewChoices) : Type 0 where
  pub none : n.values.items ≡ []
  pub room : length n.slots.items ≤ vec_capacity n.values

-- what an object chose, with room for the values of its slots
pub record IsNew (now : Bool) (o : Loaded) (own : List Choice) (n : NewChoices) : Type 0 where
  pub owner : n.owner ≡ o.serial
  pub slots : n.slots.items ≡ map (option_of (binds_now now o.object)) (drop (length o.object.relocs) own)
  pub choices : n.choices.items ≡ map (λ choice. Some choice) (take (length o.object.relocs) own) ++ n.slots.items
  pub room : HasRoom n

pub record AreNew (now : Bool) (added : List Loaded) (choices : List (List Choice)) (news : List NewChoices) : Type 0 where
  pub count : length news ≡ length added
  pub each : (k : ℕ) (o : Loaded) (own : List Choice) (n : NewChoices) → slice_get added k ≡ Some o → slice_get choices k ≡ Some own → slice_get news k ≡ Some n
      → IsNew now o own n

-- with the values of the slots
abbrev pub chosen_by : State → NewChoices → Chosen
chosen_by s n = record { owner = n.owner; choices = n.choices.items; values = map (option_map (address s)) n.slots.items }

-- ---- what is left to be initialised

-- the new objects, in the order in which they are initialised; a loading that has none doesn't stand there
abbrev pub starting_of : ℕ → List ℕ → List Loading
starting_of hart [] = []
starting_of hart (d ∷ rest) = record { hart = hart; serials = d ∷ rest } ∷ []

pub record Starts (hart : ℕ) (added : List Loaded) (old new : List Loading) : Type 0 where
  pub order : List ℕ
  pub ordered : InitOrder (flat_map found_edges added) (program_last (Some 1) (map serial_of added)) order
  pub is : new ≡ old ++ starting_of hart order

-- ---- the lists

-- what an opening of new objects asks for: their modules come one after another, their pages are free, and there are choices for each
pub record CanBring (l : Lists) (added : List Loaded) (ranges : List Range) (lists : List (List Choice)) : Type 0 where
  pub apart : AreNumberedApart l.namespaces
  pub have : HaveModules l.begins l.modules l.statics added
  pub storage : (o : Loaded) (seg : TlsSeg) → Contains added o → o.object.tls ≡ Some seg → IsStorage o.object seg
  pub laid : AreLaid l.ranges ranges
  pub count : length lists ≡ length added
  pub choices : (k : ℕ) (o : Loaded) → slice_get added k ≡ Some o → HasChoices o (slice_get lists k)

abbrev pub CanOpen : Lists → OpenAnswer → List (List Choice) → Type 0
CanOpen l (opens.Done id root added ranges) choices = CanBring l added ranges choices
CanOpen l opens.Absent choices = Unit {0}
CanOpen l (opens.Refused fault) choices = Unit {0}

-- slots are bound by the opening
abbrev pub binds_by : Lists → ℕ → Bool
binds_by l flags = (if l.begins then is_now flags else l.binds) || is_now flags

-- with the new objects
abbrev pub brought : Lists → ℕ → ℕ → ℕ → List Loaded → List Range → List Chosen → List Loading → Lists
brought l flags id root added ranges chosen starting = record l {
  begins = l.begins && length added == 0;
  binds = if l.begins then is_now flags else l.binds;
  namespaces = with_namespace id (λ ns. opened ns added root (is_global flags)) l.namespaces;
  next = l.next + length added;
  ranges = l.ranges ++ ranges;
  modules = with_modules added l.modules;
  statics = statics_after l.begins added l.statics;
  generation = l.generation + length (filter has_module added);
  startup = if l.begins then map serial_of added else l.startup;
  chosen = l.chosen ++ chosen;
  pinned = l.pinned ++ pinned_by l.pinned flags root;
  starting = starting;
}

-- the lists once the new objects are there, whose slots have their values in these lists
pub record Brings (l : Lists) (hart flags id root : ℕ) (added : List Loaded) (ranges : List Range) (choices : List (List Choice)) (new : Lists) : Type 0 where
  pub news : List NewChoices
  pub are : AreNew (binds_by l flags) added choices news
  pub is : (s : State) → s.namespaces ≡ new.namespaces → new ≡ brought l flags id root added ranges (map (chosen_by s) news) new.starting
  pub starts : Starts hart added l.starting new.starting
  pub few : new.next < 2 ^ 62

abbrev pub OpensAs : Lists → ℕ → ℕ → OpenAnswer → List (List Choice) → Lists → Type 0
OpensAs l hart flags (opens.Done id root added ranges) choices new = Brings l hart flags id root added ranges choices new
OpensAs l hart flags opens.Absent choices new = new ≡ l
OpensAs l hart flags (opens.Refused fault) choices new = new ≡ record l { kept = kept_of hart fault l.kept }

-- ---- for the code of this crate alone

abbrev pub AreRoomy : List NewChoices → Type 0
AreRoomy news = (k : ℕ) (n : NewChoices) → slice_get news k ≡ Some n → HasRoom n

-- what is made before, put into the lists
abbrev pub put_by : State → ℕ → ℕ → Made → Lists → Lists
put_by s hart flags b l = record l {
  begins = if l.begins then length b.serials.items == 0 else l.begins;
  binds = if l.begins then is_now flags else l.binds;
  next = l.next + length b.serials.items;
  modules = b.modules.modules;
  statics = record { size = b.modules.size; tp = b.modules.tp };
  generation = b.modules.generation;
  startup = if l.begins then b.serials.items else l.startup;
  chosen = l.chosen ++ map (chosen_by s) b.news.items;
  starting = l.starting ++ starting_of hart b.order.items;
}
