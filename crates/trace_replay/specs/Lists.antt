-- The lists that a history is replayed into.
use Rattle.std.specs.Prelude.{ℕ, Bool, List}
use Rattle.history_event.specs.declared.event.Range.{Range}
use Rattle.history_event.specs.declared.state.Block.{Block}
use Rattle.history_event.specs.declared.state.Chosen.{Chosen}
use Rattle.history_event.specs.declared.state.Closing.{Closing}
use Rattle.history_event.specs.declared.state.Ending.{Ending}
use Rattle.history_event.specs.declared.state.Granting.{Granting}
use Rattle.history_event.specs.declared.state.Kept.{Kept}
use Rattle.history_event.specs.declared.state.Loading.{Loading}
use Rattle.history_event.specs.declared.state.Module.{Module}
use Rattle.history_state.specs.State.{Statics}
use Rattle.scope_rule.specs.declared.namespace.Namespace.{Namespace}

pub record Lists : Type 0 where
  -- how many harts there are
  pub harts : ℕ
  -- nothing was loaded yet: the next opening is startup's
  pub begins : Bool
  -- slots are bound at load in the whole run
  pub binds : Bool
  pub namespaces : List Namespace
  -- the serial of the next new object
  pub next : ℕ
  pub ranges : List Range
  pub modules : List Module
  pub statics : Statics
  -- how many modules were added and removed
  pub generation : ℕ
  pub blocks : List Block
  pub grants : List Granting
  -- what startup loaded
  pub startup : List ℕ
  pub chosen : List Chosen
  -- the roots of openings with RTLD_NODELETE
  pub pinned : List ℕ
  pub closings : List Closing
  -- the objects that were initialised and not finalised, in the order of their initialisation
  pub unfinished : List ℕ
  pub kept : List Kept
  pub endings : List Ending
  -- of each loading whose objects aren't all initialised those that are left, in the order in which they will be
  pub starting : List Loading
  -- the objects that were the next to be finalised of all that are mapped, at some moment since every hart exited
  pub heads : List ℕ
