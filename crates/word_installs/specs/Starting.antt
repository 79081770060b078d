-- A run has started: its events are counted and its objects installed, and no hart has done anything. For whoever makes the keeper.
use Rattle.std.specs.Prelude.{◌≡◌, ℕ, ◌≤◌, true, false, cond, List, [], ◌∷◌, Contains}
use Rattle.history_event.specs.declared.event.Event.{Event}
use Rattle.word_rule.specs.declared.view.KeeperView.{KeeperView}
use Rattle.word_rule.specs.Layout.{harts_at_most}
use Rattle.word_rule.specs.Views.{IsLong, kept_at, no_row, row_of, unmapped}
use Rattle.word_memory.specs.WordSeats.Making.{in_linker_page, linker_word}
use Rattle.history_calls.specs.Served.{AreInstalls}
use Rattle.history_calls.specs.declared.link_served.installs.Installs.{Installs}
use Rattle.history_state.specs.Accepted.{AcceptsOnly}
use Rattle.history_state.specs.After.{after}
use Rattle.history_state.specs.Changes.{reserved}
use Rattle.history_state.specs.Legal.{Legal}
use Rattle.history_state.specs.Objects.{is_startup}
use Rattle.history_state.specs.Setting.{Setting}
use Rattle.hart_trails.specs.Owners.{AreOfHarts}
use Rattle.kept_words.specs.Keeping.{remakes_memory}
use Rattle.kept_words.specs.Kept.{AreKept}
use Rattle.kept_words.specs.Staying.{leaves_memory}
use Rattle.word_installs.specs.Installed.{IsInstalled, MayInstall}
use Rattle.world_memory.specs.TurnAnswers.Changes.{loaded_objects}

-- startup's journal: an event that brings objects, and others that leave memory; and what the first one installs, in the state behind them all
pub record IsStartup (w : Setting) (begun : List Event) (installs : Installs) : Type 0 where
  pub accepts : AcceptsOnly w.machine
  pub few : w.machine.harts ≤ harts_at_most
  pub legal : Legal w begun
  pub started : is_startup (after begun) ≡ false
  pub own : AreOfHarts w begun
  pub first : Event
  pub rest : List Event
  pub are : begun ≡ first ∷ rest
  pub brings : remakes_memory first ≡ true
  pub quiet : (e : Event) → Contains rest e → leaves_memory e ≡ true
  pub installed : AreInstalls (after begun) (loaded_objects first) (reserved (after []) first) installs

-- memory has the linker's own page, the harts' seats are made and the events are counted
pub record IsFresh (w : Setting) (begun : List Event) (k : KeeperView) : Type 0 where
  pub words : (d : ℕ) → kept_at k d ≡ cond (in_linker_page 512 d) linker_word unmapped
  pub rows : (m : ℕ) → row_of k m ≡ no_row
  pub harts : k.harts ≡ w.machine.harts
  pub events : k.events ≡ begun
  pub none_retired : k.retired ≡ []

-- its objects may be installed
abbrev pub StartupMayCome : Type 0
StartupMayCome = (w : Setting) (begun : List Event) (installs : Installs) (k : KeeperView)
    → IsStartup w begun installs → IsFresh w begun k → MayInstall k installs

-- and once they are, with the generation of the state, the keeper's record is as it has to be
abbrev pub StartupKept : Type 0
StartupKept = (w : Setting) (begun : List Event) (installs : Installs) (k l : KeeperView) → IsStartup w begun installs → IsFresh w begun k → IsLong l
    → IsInstalled installs k l → l.generation ≡ (after begun).generation → AreKept w begun l
