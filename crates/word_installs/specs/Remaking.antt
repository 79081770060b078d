-- What an event puts into memory and takes away, as the keeper does it: when it may, and what its view is then.
use Rattle.std.specs.Prelude.{◌≡◌, ℕ, ◌<◌, List, [], length, Some}
use Rattle.history_event.specs.declared.event.Event.{Event}
use Rattle.word_rule.specs.declared.entry.Grant.{Grant}
use Rattle.word_rule.specs.declared.view.KeeperView.{KeeperView}
use Rattle.word_rule.specs.Allowed.{IsOf}
use Rattle.word_rule.specs.Layout.{harts_at_most, place_of}
use Rattle.word_rule.specs.Views.{IsLong, kept_at, row_of}
use Rattle.history_calls.specs.Served.{AreInstalls}
use Rattle.history_calls.specs.declared.link_served.installs.Installs.{Installs}
use Rattle.history_state.specs.Accepted.{AcceptsOnly}
use Rattle.history_state.specs.After.{after}
use Rattle.history_state.specs.Allowed.{Allowed}
use Rattle.history_state.specs.Changes.{reserved, taken}
use Rattle.history_state.specs.Legal.{Lawful}
use Rattle.history_state.specs.Setting.{Setting}
use Rattle.history_state.specs.State.{State}
use Rattle.history_state.specs.Step.{step}
use Rattle.world_memory.specs.TurnAnswers.Changes.{loaded_objects}
use Rattle.word_holds.specs.Shared.{IsOfState}
use Rattle.kept_words.specs.Keeping.{IsRemadeView}
use Rattle.kept_words.specs.Remade.{IsRemade}
use Rattle.word_installs.specs.Installed.{IsInstalled, MayInstall}
use Rattle.word_installs.specs.Unmapped.{IsUnmapped, MayUnmap}

-- ---- what an event brings

-- these are the words of what the event reserves, and the slots of what it loads
abbrev pub AreInstallsOf : State → Event → Installs → Type 0
AreInstallsOf s e installs = AreInstalls (step s e) (loaded_objects e) (reserved s e) installs

-- the keeper's view is that of the state after these events, and the next one may come
pub record ComesNext (w : Setting) (past : List Event) (e : Event) (k : KeeperView) (number : ℕ → Grant → ℕ) : Type 0 where
  pub accepts : AcceptsOnly w.machine
  pub lawful : Lawful w.machine past
  pub may : Allowed w past e
  pub words : IsOfState (after past) k number

-- ---- an event that reserves

abbrev pub InstallsMayCome : Type 0
InstallsMayCome = (w : Setting) (past : List Event) (e : Event) (k : KeeperView) (number : ℕ → Grant → ℕ) (installs : Installs)
    → ComesNext w past e k number → AreInstallsOf (after past) e installs → MayInstall k installs

abbrev pub InstalledIsRemade : Type 0
InstalledIsRemade = (w : Setting) (past : List Event) (e : Event) (k l : KeeperView) (number : ℕ → Grant → ℕ) (installs : Installs)
    → ComesNext w past e k number → AreInstallsOf (after past) e installs → taken (after past) e ≡ [] → IsInstalled installs k l
    → IsRemade (after past) e (length k.events) k l

-- with the generation of the state after the event it is the view that the keeper counts the event in
abbrev pub InstalledIsView : Type 0
InstalledIsView = (w : Setting) (past : List Event) (e : Event) (k l : KeeperView) (number : ℕ → Grant → ℕ) (installs : Installs)
    → ComesNext w past e k number → AreInstallsOf (after past) e installs → taken (after past) e ≡ [] → IsInstalled installs k l → IsLong l
    → l.generation ≡ (step (after past) e).generation → IsRemadeView (after past) e k l

-- ---- an event that takes away

-- the slot of each grant whose fate isn't known is there
abbrev pub PendingAreThere : KeeperView → Type 0
PendingAreThere k = (m : ℕ) (g : Grant) → m < harts_at_most → (row_of k m).pending ≡ Some g → IsOf (kept_at k) (place_of g.entry.slot) g

abbrev pub RangesMayGo : Type 0
RangesMayGo = (w : Setting) (past : List Event) (e : Event) (k : KeeperView) (number : ℕ → Grant → ℕ)
    → ComesNext w past e k number → IsLong k → PendingAreThere k
    → MayUnmap k (taken (after past) e)

abbrev pub UnmappedIsRemade : Type 0
UnmappedIsRemade = (s : State) (e : Event) (k l : KeeperView) (count : ℕ) → reserved s e ≡ [] → IsUnmapped (taken s e) k l → IsRemade s e count k l

abbrev pub UnmappedIsView : Type 0
UnmappedIsView = (s : State) (e : Event) (k l : KeeperView) → reserved s e ≡ [] → IsUnmapped (taken s e) k l → IsLong l
    → l.generation ≡ (step s e).generation → IsRemadeView s e k l
