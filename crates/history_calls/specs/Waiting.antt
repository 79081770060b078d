-- When a hart has to try again.
use Rattle.std.specs.Prelude.{◌≡◌, ◌≢◌, ℕ, ◌≤◌, ◌⊎◌, List, [], Contains}
use Rattle.ld_base.specs.declared.fault.Shown.{Shown}
use Rattle.ld_base.specs.declared.fault.Shown.TheVariants as shown
use Rattle.history_event.specs.declared.event.OpenAsk.{OpenAsk}
use Rattle.history_event.specs.declared.state.Closing.{Closing}
use Rattle.history_event.specs.declared.state.Granting.{Granting}
use Rattle.history_event.specs.declared.state.Standing.TheVariants.{Open}
use Rattle.scope_rule.specs.Finding.{Reading}
use Rattle.scope_rule.specs.Load.{Stops, waits}
use Rattle.history_state.specs.Grants.{target_of}
use Rattle.history_state.specs.Links.{finis_of}
use Rattle.history_state.specs.Opening.{IsNamed}
use Rattle.history_state.specs.Setting.{Readings, Setting, load_of}
use Rattle.history_state.specs.Slots.{IsOpenGrant}
use Rattle.history_state.specs.State.{State}
use Rattle.history_calls.specs.Call.{Call, opens, unmaps}

-- ---- for another hart's objects

-- the load comes to an object that another hart starts or closes
pub record Waits (w : Setting) (s : State) (hart : ℕ) (ask : OpenAsk) (for : Shown) : Type 0 where
  pub name : List ℕ
  pub id : ℕ
  pub named : IsNamed s ask name id
  pub reading : List ℕ → Reading
  pub read : Readings w s ask name reading
  pub stops : Stops (load_of w s hart id name reading) (waits for)

-- ---- for an open grant

-- the objects of a closing of this hart, whose destructors have run
pub record HasFinished (s : State) (hart : ℕ) (set : List ℕ) : Type 0 where
  pub some : set ≢ []
  pub closing : Closing
  pub there : Contains s.closings closing
  pub by : closing.hart ≡ hart
  pub whole : closing.set ≡ set
  pub done : finis_of s set ≡ []

-- owner or target of the grant is one of the set
abbrev pub Touches : Granting → List ℕ → Type 0
Touches g set = (d : ℕ) × Contains set d × ((g.owner ≡ d) ⊎ Contains (target_of g.choice) d)

-- of the open grants that touch the set this is the one of the least number
pub record IsHeldBy (s : State) (set : List ℕ) (number : ℕ) : Type 0 where
  pub grant : Granting
  pub is : IsOpenGrant s number grant
  pub touches : Touches grant set
  pub least : (other : Granting) → Contains s.grants other → other.standing ≡ Open → Touches other set → number ≤ other.number

-- ---- both

-- nothing comes of the call yet, because of this
pub data Shows (w : Setting) (s : State) (hart : ℕ) : Call → Shown → Type 0 where
  by_load : (ask : OpenAsk) (for : Shown) → Waits w s hart ask for → Shows w s hart (opens ask) for
  by_grant : (set : List ℕ) (number : ℕ) → HasFinished s hart set → IsHeldBy s set number → Shows w s hart (unmaps set) (shown.OpenGrant number)
