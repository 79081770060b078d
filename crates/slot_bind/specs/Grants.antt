-- What the calls on grants leave in the views of a hart and of the keeper.
use Rattle.std.specs.Prelude.{◌≡◌, ◌≢◌, ℕ, ◌%◌, ◌<◌, Bool, true, false, List, [], ◌∷◌, ◌++◌, length, None, Some}
use Rattle.history_event.specs.declared.handed.Offer.{Offer}
use Rattle.word_rule.specs.declared.entry.Exchange.{Exchange}
use Rattle.word_rule.specs.declared.entry.Grant.{Grant}
use Rattle.word_rule.specs.declared.view.Fate.TheVariants.{Won as FateWon, Lost as FateLost}
use Rattle.word_rule.specs.declared.view.HartView.{HartView}
use Rattle.word_rule.specs.declared.view.KeeperView.{KeeperView}
use Rattle.word_rule.specs.declared.view.Offer.{Offer as ReadOffer}
use Rattle.word_rule.specs.declared.view.OpenRow.{OpenRow}
use Rattle.word_rule.specs.declared.view.Row.{Row}
use Rattle.word_rule.specs.declared.view.TrailItem.TheVariants.{Done, Exchanged}
use Rattle.word_rule.specs.Allowed.{IsPostable}
use Rattle.word_rule.specs.HartSteps.{entered, finished, or_zero, with_lane_of}
use Rattle.word_rule.specs.KeeperSteps.{TellsSlot, fixed_by, losing, settled_as, with_kept, with_row}
use Rattle.word_rule.specs.Layout.{place_of}
use Rattle.word_rule.specs.Views.{grant_in, kept_at, row_of}
use Rattle.slot_bind.specs.Rows.{IsWaiting, full_offer, offer_of}
use Rattle.slot_bind.specs.declared.slot.Asked.{Asked}
use Rattle.slot_bind.specs.declared.slot.Asked.TheVariants.{Open, Won as SaysWon, Lost as SaysLost}
use Rattle.slot_bind.specs.declared.slot.Bound.{Bound}
use Rattle.slot_bind.specs.declared.slot.Bound.TheVariants.{Won, Lost}

-- ---- a hart

-- it made an exchange
abbrev pub exchanged : Exchange → HartView → HartView
exchanged x h = entered (Exchanged x) (with_lane_of (record h.lane { tried = Some x }) h)

-- it gave the row of an exchange back
abbrev pub given_back : Exchange → HartView → HartView
given_back x h = entered Done (with_lane_of (finished (Some x) h.lane) h)

-- the grant in its row, as far as it has read it
abbrev pub grant_by : ReadOffer → Grant
grant_by o = record {
  entry = record { mark = o.mark; number = or_zero o.number; slot = or_zero o.slot; value = or_zero o.value; generation = or_zero o.generation };
  lazy = or_zero o.lazy;
}

abbrev pub grant_read : HartView → Grant
grant_read h = grant_by (offer_of h)

-- the hart has read a grant in its row, which is the offer
pub record IsOffered (h : HartView) (offer : Offer) : Type 0 where
  pub full : h.lane.offer ≡ Some (full_offer (grant_read h))
  pub mark : (grant_read h).entry.mark ≡ 3
  pub event : offer.event ≡ (grant_read h).entry.number
  pub slot : offer.slot ≡ (grant_read h).entry.slot
  pub lazy : offer.lazy ≡ (grant_read h).lazy
  pub value : offer.value ≡ (grant_read h).entry.value

-- the word that an exchange found
abbrev pub found_by : Grant → Bound → ℕ
found_by g Won = g.lazy
found_by g (Lost saw) = saw

abbrev pub is_won : Bound → Bool
is_won Won = true
is_won (Lost saw) = false

-- an exchange is lost exactly where it found another word than the lazy one
abbrev pub IsBound : ℕ → Bound → Type 0
IsBound lazy Won = Unit {0}
IsBound lazy (Lost saw) = saw ≢ lazy

abbrev pub exchange_of : Grant → Bound → Exchange
exchange_of g bound = record { grant = g; found = found_by g bound }

-- where the hart goes on: at the chosen value, or at the word found
abbrev pub leads_to : Offer → Bound → ℕ
leads_to offer Won = offer.value
leads_to offer (Lost saw) = saw

-- ---- the keeper

-- the grant that an offer is, at this generation
abbrev pub grant_of : Offer → ℕ → Grant
grant_of x generation = record { entry = record { mark = 3; number = x.event; slot = x.slot; value = x.value; generation = generation }; lazy = x.lazy }

-- the grant is posted in the hart's row
abbrev pub row_posted : Grant → Row → Row
row_posted g r = record r {
  number = g.entry.number;
  slot = g.entry.slot;
  lazy = g.lazy;
  value = g.entry.value;
  generation = g.entry.generation;
  issued = r.issued ++ g.entry ∷ [];
  since = None;
  pending = Some g;
}

abbrev pub posted : ℕ → Grant → KeeperView → KeeperView
posted m g k = with_row m (row_posted g (row_of k m)) k

-- a grant may be posted: its number is the count, and came since the hart was found calling; its slot is there, with its lazy
-- word, since a lower count; its value is another, and 0 or in an RX word
pub record MayPost (k : KeeperView) (m : ℕ) (x : Offer) : Type 0 where
  pub waits : IsWaiting k m
  pub number : x.event ≡ length k.events
  pub new : waits.0 < x.event
  pub postable : IsPostable (kept_at k) (grant_of x k.generation)

-- what an ask tells, of the state found
abbrev pub Says : ℕ → Asked → Type 0
Says state Open = state % 8 ≡ 3
Says state SaysWon = state % 8 ≡ 4
Says state (SaysLost saw) = state % 8 ≡ 5

-- the hart's row after it
abbrev pub asked_row : Asked → Row → Row
asked_row Open r = record r { found_open = true }
asked_row SaysWon r = settled_as FateWon r.pending r
asked_row (SaysLost saw) r = settled_as FateLost r.pending r

-- a row that was found open behind so many events is kept in mind
abbrev pub opens_by : (m number : ℕ) → Asked → List OpenRow → List OpenRow
opens_by m number Open before = before ++ record { hart = m; number = number } ∷ []
opens_by m number _ before = before

-- the keeper's view once the grant's fate is known
abbrev pub fated_view : ℕ → Asked → KeeperView → KeeperView
fated_view m answer k = record (with_row m (asked_row answer (row_of k m)) k) { opens = opens_by m (length k.events) answer k.opens }

-- a slot was looked at, for the lost grant in a hart's row
abbrev pub with_look : ℕ → ℕ → ℕ → KeeperView → KeeperView
with_look m d word k = losing m (grant_in (row_of k m)) word (with_kept d (fixed_by word (kept_at k d)) k)

-- the word of the slot of a lost grant stays, and is what its exchange found
abbrev pub seen_if : ℕ → Grant → Asked → KeeperView → KeeperView
seen_if m g (SaysLost word) k = let d = place_of g.entry.slot in losing m g word (with_kept d (record (kept_at k d) { fixed = Some word }) k)
seen_if m g _ k = k

-- the keeper's view after it
abbrev pub asked_view : ℕ → Asked → KeeperView → KeeperView
asked_view m answer k = seen_if m (grant_in (row_of k m)) answer (fated_view m answer k)

-- of a lost grant the slot's word was found
abbrev pub Saw : KeeperView → Grant → Asked → Type 0
Saw k g (SaysLost saw) = TellsSlot k (place_of g.entry.slot) saw
Saw k g _ = Unit {0}
