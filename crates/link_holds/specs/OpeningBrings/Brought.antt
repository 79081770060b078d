-- What an opening brings to a linker's lists.
use Rattle.std.specs.Prelude.{◌≡◌, ℕ, ◌+◌, Bool, List, filter, length}
use Rattle.link_images.specs.ImageReads.Reads.{ArePrepared}
use Rattle.ld_base.specs.declared.linking.Choice.{Choice}
use Rattle.ld_base.specs.declared.linking.Loaded.{Loaded}
use Rattle.history_event.specs.declared.event.Event.{Event}
use Rattle.history_event.specs.declared.event.Event.TheVariants.{Open}
use Rattle.history_event.specs.declared.event.OpenAnswer.TheVariants.{Done}
use Rattle.history_event.specs.declared.event.OpenAsk.{OpenAsk}
use Rattle.history_event.specs.declared.event.Range.{Range}
use Rattle.history_state.specs.Flags.{is_global}
use Rattle.history_state.specs.Held.{gained}
use Rattle.history_state.specs.State.{State, empty_state}
use Rattle.history_state.specs.Step.{has_module, open_done, seen_after}
use Rattle.history_state.specs.Storage.{with_modules}
use Rattle.history_calls.specs.Served.{AreInstalls}
use Rattle.link_holds.specs.declared.opening_brings.bringing.Brings.{Brings}
use Rattle.link_holds.specs.declared.opening_brings.bringing.Planned.{Planned}
use Rattle.link_open_images.specs.Relocated.{AreChoices}
use Rattle.link_open_images.specs.OpeningSteps.Steps.{statics_of}
use Rattle.scope_rule.specs.Opening.{opened}
use Rattle.scope_rule.specs.Seen.{Seen, seen_in}
use Rattle.scope_rule.specs.declared.namespace.Namespace.{Namespace}
use Rattle.link_holds.specs.OpeningBrings.StartupAreas.Laws.{parts_made, statics_then}
use Rattle.tls_blocks.specs.Numbers.{ModuleTable}

-- the event of an opening
abbrev pub done : Planned → Event
done p = Open p.hart p.ask.now (Done p.ns p.root p.added.now p.ranges.now)

-- the state after it
abbrev pub done_state : State → Planned → State
done_state s p = open_done s p.hart p.ask.now p.ns p.root p.added.now p.ranges.now

-- what is seen of its namespace then
abbrev pub seen_of : State → Planned → Seen
seen_of s p = seen_after s p.ask.now p.ns p.root p.added.now

-- that depends on the namespaces alone
abbrev pub seen_with : List Namespace → Planned → Seen
seen_with namespaces p = seen_of (record empty_state { namespaces = namespaces }) p

-- what is seen of a namespace that is opened so
abbrev pub seen_over : Namespace → Planned → Seen
seen_over ns p = seen_in (opened ns p.added.now p.root (is_global p.ask.now.flags))

-- there is a list of choices for each new object: those of what is seen then
abbrev pub AreChosenFor : State → Planned → Bool → List (List Choice) → Type 0
AreChosenFor s p now choices = AreChoices (seen_of s p) now p.added.now choices

-- the modules are the state's
pub record AreModules (s : State) (table : ModuleTable) : Type 0 where
  pub modules : table.modules ≡ s.modules
  pub statics : statics_of table ≡ s.statics
  pub generation : table.generation ≡ s.generation

-- what an opening brings to the lists is what they have in the state after it
pub record OfLists (s : State) (hart : ℕ) (ask : OpenAsk) (id root : ℕ) (added : List Loaded) (ranges : List Range) (b : Brings) : Type 0 where
  pub modules : b.modules.modules ≡ with_modules added s.modules
  pub statics : statics_of b.modules ≡ statics_then s added
  pub generation : b.modules.generation ≡ s.generation + length (filter has_module added)
  pub edges : b.edges.items ≡ gained s (Open hart ask (Done id root added ranges))
  pub parts : b.parts.items ≡ parts_made s hart ask id root added ranges

-- and what it brings to memory is what that state asks for
pub record IsBrought (s : State) (p : Planned) (b : Brings) : Type 0 where
  pub lists : OfLists s p.hart p.ask.now p.ns p.root p.added.now p.ranges.now b
  pub installs : AreInstalls (done_state s p) p.added.now p.ranges.now b.installs
  -- each image is of the record that this state has
  pub prepared : ArePrepared (done_state s p) p.added.now b.installs.images
