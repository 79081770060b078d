-- What the calls on rows leave in the views of a hart and of the keeper.
use Rattle.std.specs.Prelude.{◌≡◌, ◌⊎◌, ℕ, ◌≤◌, ◌<◌, true, false, nat_lt, [], ◌∷◌, ◌++◌, length, Option, None, Some}
use Rattle.word_rule.specs.declared.entry.Entry.{Entry}
use Rattle.word_rule.specs.declared.entry.Grant.{Grant}
use Rattle.word_rule.specs.declared.view.HartView.{HartView}
use Rattle.word_rule.specs.declared.view.KeeperView.{KeeperView}
use Rattle.word_rule.specs.declared.view.Offer.{Offer}
use Rattle.word_rule.specs.declared.view.Row.{Row}
use Rattle.word_rule.specs.declared.view.TrailItem.TheVariants.{Took}
use Rattle.word_rule.specs.HartSteps.{arrived_if, entered, with_lane_of}
use Rattle.word_rule.specs.KeeperSteps.{Waits, handed, with_row}
use Rattle.word_rule.specs.Views.{fresh_offer, row_of}

-- ---- a hart

-- it has begun a call, after it saw this count
abbrev pub begun : ℕ → HartView → HartView
begun seen h = with_lane_of (record h.lane { calling = true; seen = seen }) h

-- it found its row in this state. The view keeps the state, so that no call answers what it hasn't found
abbrev pub found_state : ℕ → HartView → HartView
found_state state h = with_lane_of (arrived_if state (nat_lt state 8) h.lane) h

-- it knows this of its row
abbrev pub with_offer : Offer → HartView → HartView
with_offer o h = with_lane_of (record h.lane { offer = Some o }) h

-- all words of a row, read
abbrev pub full_offer : Grant → Offer
full_offer g = record {
  mark = g.entry.mark;
  number = Some g.entry.number;
  slot = Some g.entry.slot;
  lazy = Some g.lazy;
  value = Some g.entry.value;
  generation = Some g.entry.generation;
}

-- what it knows of its row, where it has an offer
abbrev pub offer_or : Option Offer → Offer
offer_or None = fresh_offer 0
offer_or (Some o) = o

abbrev pub offer_of : HartView → Offer
offer_of h = offer_or h.lane.offer

-- it found the row its own
abbrev pub HasRow : HartView → Type 0
HasRow h = h.lane.offer ≡ Some (offer_of h)

-- an entry is that of a row, by what was read of the row before
pub record IsEntryOf (o : Offer) (e : Entry) : Type 0 where
  pub mark : e.mark ≡ o.mark
  pub number : (x : ℕ) → o.number ≡ Some x → e.number ≡ x
  pub slot : (x : ℕ) → o.slot ≡ Some x → e.slot ≡ x
  pub value : (x : ℕ) → o.value ≡ Some x → e.value ≡ x
  pub generation : (x : ℕ) → o.generation ≡ Some x → e.generation ≡ x

-- so is a row's entry with its lazy word
pub record IsRowOf (o : Offer) (g : Grant) : Type 0 where
  pub entry : IsEntryOf o g.entry
  pub lazy : (x : ℕ) → o.lazy ≡ Some x → g.lazy ≡ x

-- it took an entry
abbrev pub with_taken : Entry → HartView → HartView
with_taken e h = entered (Took e) (with_lane_of (record h.lane { calling = false; taken = h.lane.taken ++ e ∷ []; offer = None }) h)

-- ---- the keeper

-- the hart is known to call, and the fate of its last grant is known
abbrev pub IsWaiting : KeeperView → ℕ → Type 0
IsWaiting k m = (since : ℕ) × Waits k m since

-- the hart's row has the entry's words
abbrev pub row_with : Entry → Row → Row
row_with e r = record r { number = e.number; slot = e.slot; value = e.value; generation = e.generation }

-- the entry is handed to the hart
abbrev pub handed_over : ℕ → Entry → KeeperView → KeeperView
handed_over m e k = with_row m (handed e.mark (row_with e (row_of k m))) k

-- an entry of mark 1, 2 or 6 may be handed over: its number is the count, and an event's came since the hart was found calling;
-- one that shows an open grant comes where the row of each open grant was found open
pub record MayHand (k : KeeperView) (m : ℕ) (e : Entry) : Type 0 where
  pub waits : IsWaiting k m
  pub mark : (e.mark ≡ 1) ⊎ (e.mark ≡ 2) ⊎ (e.mark ≡ 6)
  pub number : e.number ≡ length k.events
  pub new : e.mark ≡ 1 → waits.0 < e.number
  pub generation : e.generation ≤ k.generation
  pub open_rows : e.mark ≡ 6 → e.slot ≡ 3 → (j : ℕ) (g : Grant) → (row_of k j).pending ≡ Some g → (row_of k j).found_open ≡ true
