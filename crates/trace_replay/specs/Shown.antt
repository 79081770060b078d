-- The history that lists show.
use Rattle.std.specs.Prelude.{◌≡◌, ℕ, List, [], ◌∷◌, Contains}
use Rattle.history_calls.specs.Functions.{AreLeft}
use Rattle.history_event.specs.declared.event.Event.{Event}
use Rattle.history_event.specs.declared.state.Loading.{Loading}
use Rattle.history_journal.specs.Following.{machine_of}
use Rattle.history_state.specs.After.{after}
use Rattle.history_state.specs.Allowed.{WasNext}
use Rattle.history_state.specs.Legal.{Lawful}
use Rattle.history_state.specs.Links.{unfinished}
use Rattle.history_state.specs.Objects.{is_startup, startup_serials}
use Rattle.history_state.specs.Setting.{Setting}
use Rattle.history_state.specs.State.{State}
use Rattle.trace_replay.specs.Lists.{Lists}

-- the lists are those of the state
pub record IsShown (s : State) (l : Lists) : Type 0 where
  pub begins : l.begins ≡ is_startup s
  pub binds : l.binds ≡ s.now
  pub namespaces : l.namespaces ≡ s.namespaces
  pub next : l.next ≡ s.next
  pub ranges : l.ranges ≡ s.ranges
  pub modules : l.modules ≡ s.modules
  pub statics : l.statics ≡ s.statics
  pub generation : l.generation ≡ s.generation
  pub blocks : l.blocks ≡ s.blocks
  pub grants : l.grants ≡ s.grants
  pub startup : l.startup ≡ startup_serials s
  pub chosen : l.chosen ≡ s.chosen
  pub pinned : l.pinned ≡ s.pinned
  pub closings : l.closings ≡ s.closings
  pub unfinished : l.unfinished ≡ unfinished s
  pub kept : l.kept ≡ s.kept
  pub endings : l.endings ≡ s.endings

-- the list has a hart with these objects, if there are some
abbrev pub IsListed : List Loading → ℕ → List ℕ → Type 0
IsListed starting hart [] = Unit {0}
IsListed starting hart (d ∷ rest) = Contains starting (record { hart = hart; serials = d ∷ rest })

-- these objects of a loading of the hart are left to be initialised
pub record IsLeftOf (s : State) (unready : Loading) : Type 0 where
  pub loading : Loading
  pub there : Contains s.loadings loading
  pub by : loading.hart ≡ unready.hart
  pub left : AreLeft s loading unready.serials

-- what is left of a loading is listed
pub record IsKeptOf (s : State) (starting : List Loading) (loading : Loading) : Type 0 where
  pub rest : List ℕ
  pub left : AreLeft s loading rest
  pub listed : IsListed starting loading.hart rest

-- what is left of each loading, where something is
pub record AreStarting (s : State) (starting : List Loading) : Type 0 where
  pub each : (unready : Loading) → Contains starting unready → IsLeftOf s unready
  pub every : (loading : Loading) → Contains s.loadings loading → IsKeptOf s starting loading

-- the objects that were next, whatever a run with so many harts is given
pub record AreHeads (past : List Event) (harts : ℕ) (heads : List ℕ) : Type 0 where
  pub each : (w : Setting) (object : ℕ) → w.machine ≡ machine_of harts → Contains heads object → WasNext w past object
  pub every : (w : Setting) (object : ℕ) → w.machine ≡ machine_of harts → WasNext w past object → Contains heads object

-- the events are a lawful history of so many harts, and the lists are those of the state after it
pub record Shows (past : List Event) (l : Lists) : Type 0 where
  pub lawful : Lawful (machine_of l.harts) past
  pub state : IsShown (after past) l
  pub starting : AreStarting (after past) l.starting
  pub heads : AreHeads past l.harts l.heads

-- there is such a history
pub record IsHistory (l : Lists) : Type 0 where
  pub past : List Event
  pub shows : Shows past l
