-- The linker's state: a few lists, which the events of a journal change.
use Rattle.std.specs.Prelude.{ℕ, Bool, false, List, [], ◌∷◌}
use Rattle.ld_base.specs.declared.object.Object.{Object}
use Rattle.history_event.specs.declared.event.Range.{Range}
use Rattle.history_event.specs.declared.state.Block.{Block}
use Rattle.history_event.specs.declared.state.Chosen.{Chosen}
use Rattle.history_event.specs.declared.state.Closing.{Closing}
use Rattle.history_event.specs.declared.state.Ending.{Ending}
use Rattle.history_event.specs.declared.state.Granting.{Granting}
use Rattle.history_event.specs.declared.state.Kept.{Kept}
use Rattle.history_event.specs.declared.state.Loading.{Loading}
use Rattle.history_event.specs.declared.state.Module.{Module}
use Rattle.relocator.specs.declared.binding.Binding.{Binding}
use Rattle.relocator.specs.declared.binding.ModulePlace.{ModulePlace}
use Rattle.scope_rule.specs.declared.namespace.Namespace.{Namespace}

-- what the image of a mapped object is made of: the object at its base, what its relocations were bound to when it was loaded, and the
-- modules that were there then
pub record Linked : Type 0 where
  pub serial : ℕ
  pub object : Object
  pub base : ℕ
  pub bindings : List Binding
  pub places : List ModulePlace

-- the static blocks of a hart: where the last one ends behind tp, and tp's distance from the start of the hart's area
pub record Statics : Type 0 where
  pub size : ℕ
  pub tp : ℕ

-- each list grows at its end, but that modules stand in the order of their numbers
pub record State : Type 0 where
  -- each opening binds its slots at load: startup's had RTLD_NOW
  pub now : Bool
  pub namespaces : List Namespace
  -- the serial of the next new object
  pub next : ℕ
  pub ranges : List Range
  pub modules : List Module
  pub statics : Statics
  -- how many modules were added and removed
  pub generation : ℕ
  pub blocks : List Block
  pub grants : List Granting
  -- what each opening loaded that loaded something; the first is startup's
  pub loadings : List Loading
  pub chosen : List Chosen
  pub images : List Linked
  -- the roots of openings with RTLD_NODELETE
  pub pinned : List ℕ
  -- the closings whose objects aren't unmapped yet
  pub closings : List Closing
  -- the objects whose constructors have run, in the order in which they did, and those whose destructors have
  pub inits : List ℕ
  pub finis : List ℕ
  pub kept : List Kept
  pub endings : List Ending

-- a namespace without objects
abbrev pub empty_namespace : ℕ → Namespace
empty_namespace id = record { id = id; objects = []; global = []; opens = [] }

-- before the first event: the base namespace, with nothing in it
abbrev pub empty_state : State
empty_state = record {
  now = false;
  namespaces = empty_namespace 0 ∷ [];
  next = 1;
  ranges = [];
  modules = [];
  statics = record { size = 0; tp = 0 };
  generation = 0;
  blocks = [];
  grants = [];
  loadings = [];
  chosen = [];
  images = [];
  pinned = [];
  closings = [];
  inits = [];
  finis = [];
  kept = [];
  endings = [];
}
