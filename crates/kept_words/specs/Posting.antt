-- A grant is made, and posted to its hart: when that may be, and that the keeper's record stays as it has to be. For the keeper, which posts it.
use Rattle.std.specs.Prelude.{◌≡◌, ℕ, ◌+◌, ◌≤◌, ◌<◌, List, length, None}
use Rattle.ld_base.specs.declared.linking.Choice.{Choice}
use Rattle.history_event.specs.declared.event.Event.{Event}
use Rattle.history_event.specs.declared.event.Event.TheVariants as events
use Rattle.history_event.specs.declared.handed.Offer.{Offer}
use Rattle.history_event.specs.declared.state.Granting.{Granting}
use Rattle.history_event.specs.declared.state.Standing.TheVariants.{Open}
use Rattle.word_rule.specs.declared.view.KeeperView.{KeeperView}
use Rattle.word_rule.specs.KeeperSteps.{Waits}
use Rattle.word_rule.specs.Views.{row_of}
use Rattle.word_steps.specs.Knowing.{counted}
use Rattle.slot_bind.specs.Grants.{MayPost, grant_of, posted}
use Rattle.history_state.specs.Accepted.{AcceptsOnly}
use Rattle.history_state.specs.After.{after}
use Rattle.history_state.specs.Allowed.{Allowed}
use Rattle.history_state.specs.Setting.{Setting}
use Rattle.hart_moves.specs.Harts.{Offered}
use Rattle.hart_moves.specs.Moves.{IsOffer}
use Rattle.kept_words.specs.Kept.{AreKept}

-- a grant's event, and what the state has of it
pub record NewGrant : Type 0 where
  pub number : ℕ
  pub hart : ℕ
  pub owner : ℕ
  pub slot : ℕ
  pub choice : Choice
  pub value : ℕ

abbrev pub event_of : NewGrant → Event
event_of g = events.Grant g.number g.hart g.owner g.slot g.choice g.value

abbrev pub granting_of : NewGrant → Granting
granting_of g = record { number = g.number; hart = g.hart; owner = g.owner; slot = g.slot; choice = g.choice; value = g.value; standing = Open }

-- the offer as it is posted: with the number of its event, which comes behind these
abbrev pub offer_behind : List Event → Offered → Offer
offer_behind past o = record { event = length past + 1; slot = o.slot; lazy = o.lazy; value = o.value }

-- the keeper is about to count and post a grant that may come, to a hart none of whose grants is unknown
pub record IsNew (w : Setting) (begun : List Event) (k : KeeperView) (g : NewGrant) (o : Offered) : Type 0 where
  pub accepts : AcceptsOnly w.machine
  pub kept : AreKept w begun k
  pub hart : g.hart < w.machine.harts
  pub settled : (row_of k g.hart).pending ≡ None
  pub may : Allowed w k.events (event_of g)
  pub offer : IsOffer (after k.events) (granting_of g) o

-- once its event is counted it may be posted to the hart, which was found calling before
abbrev pub NewMayPost : Type 0
NewMayPost = (w : Setting) (begun : List Event) (k : KeeperView) (g : NewGrant) (o : Offered) (since : ℕ) → IsNew w begun k g o → Waits k g.hart since
    → since ≤ length k.events → MayPost (counted (event_of g) k) g.hart (offer_behind k.events o)

-- and the record is as it has to be then
abbrev pub PostedKept : Type 0
PostedKept = (w : Setting) (begun : List Event) (k : KeeperView) (g : NewGrant) (o : Offered) → IsNew w begun k g o
    → AreKept w begun (posted g.hart (grant_of (offer_behind k.events o) k.generation) (counted (event_of g) k))
