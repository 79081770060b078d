-- A run whose program is opened, and whose harts are being looked up.
use Rattle.std.specs.Prelude.{◌≡◌, ℕ, ◌+◌, ◌*◌, ◌^◌, ◌<◌, ◌≤◌, List, [], ◌∷◌, Contains, IsTrue}
use Rattle.ld_base.specs.declared.linking.Loaded.{Loaded}
use Rattle.history_event.specs.declared.event.Event.{Event}
use Rattle.history_event.specs.declared.event.Event.TheVariants.{Open}
use Rattle.history_event.specs.declared.event.OpenAnswer.TheVariants.{Done}
use Rattle.history_event.specs.declared.event.OpenAsk.{OpenAsk}
use Rattle.history_event.specs.declared.event.Range.{Range}
use Rattle.history_state.specs.After.{after}
use Rattle.history_state.specs.Storage.{is_static_area}

-- the program's opening in the base namespace came first, and what came since changed nothing
pub record HasLoaded (events : List Event) : Type 0 where
  pub hart : ℕ
  pub ask : OpenAsk
  pub root : ℕ
  pub added : List Loaded
  pub ranges : List Range
  pub found : List Event
  pub are : events ≡ Open hart ask (Done 0 root added ranges) ∷ found
  pub same : after events ≡ after (Open hart ask (Done 0 root added ranges) ∷ [])

-- ---- pages

-- reserved pages end in the first 2 ^ 32 bytes
abbrev pub AreGuests : List Range → Type 0
AreGuests ranges = (r : Range) → Contains ranges r → 0 < r.pages → r.address + 4096 * r.pages ≤ 2 ^ 32

-- a tp that stands so far behind the start of a static area is an address
abbrev pub HaveRoom : ℕ → List Range → Type 0
HaveRoom tp ranges = (r : Range) (hart : ℕ) → Contains ranges r → IsTrue (is_static_area hart r.purpose) → r.address + tp < 2 ^ 64
