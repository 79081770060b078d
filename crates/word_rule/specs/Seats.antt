-- Who the seats are. A hart's last view is that of its seat, or the one that the keeper's view keeps since the seat was joined.
use Rattle.std.specs.Prelude.{◌≡◌, ◌⊎◌, ℕ, ◌≤◌, ◌<◌, List, length, None, Some, slice_get, slice_index_or}
use mathlib.Core.Option.{some}
use lib.ListN.{get_elem?}
use Rattle.history_event.specs.declared.event.Event.{Event}
use Rattle.word_rule.specs.declared.view.HartView.{HartView}
use Rattle.word_rule.specs.declared.view.KeeperView.{KeeperView}
use Rattle.word_rule.specs.declared.view.Row.{Row}
use Rattle.word_rule.specs.declared.view.Slip.{Slip}
use Rattle.word_rule.specs.declared.view.Slip.TheVariants.{OfHart, OfKeeper}
use Rattle.word_rule.specs.declared.view.View.{View}
use Rattle.word_rule.specs.declared.view.View.TheVariants.{Keeper, Hart, Note, Spent}
use Rattle.word_rule.specs.Layout.{doublewords, harts_at_most}
use Rattle.word_rule.specs.Views.{BeginsWith, first_hart, no_row, NoneAbove, row_of}
use Rattle.word_rule.specs.HartSteps.{HartHeard}
use Rattle.word_rule.specs.KeeperSteps.{KeeperHeard}

-- a row of the keeper's then and now: its entries begin those that were issued since; and where none was, and the hart isn't known to call, the row
-- has the lazy word that it had
pub record GoesOn (before now : Row) : Type 0 where
  pub issued : BeginsWith now.issued before.issued
  pub lazy : now.since ≡ None → now.issued ≡ before.issued → (before.since ≡ None) × (now.lazy ≡ before.lazy)

-- a note's entries are issued, and no generation that a hart read is above the keeper's
abbrev pub Issued : KeeperView → Slip → Type 0
Issued kept (OfHart m entries readings) = BeginsWith (row_of kept m).issued entries × NoneAbove kept.generation readings
Issued kept (OfKeeper rows) = (m : ℕ) → GoesOn (slice_index_or rows m no_row) (row_of kept m)

-- what is true of one seat's view: there is one keeper's view, and one view of a hart's number
abbrev pub Fits : KeeperView → ℕ → (ℕ → ℕ) → (ℕ → HartView) → ℕ → View → Type 0
Fits kept keeper seat_of hart seat (Keeper k) = (k ≡ kept) × (seat ≡ keeper)
Fits kept keeper seat_of hart seat (Hart h) = (h.number < kept.harts) × (seat_of h.number ≡ seat) × (hart h.number ≡ h)
Fits kept keeper seat_of hart seat (Note events slip) = BeginsWith kept.events events × Issued kept slip
Fits kept keeper seat_of hart seat Spent = Unit {0}

-- a hart whose seat was joined has no other seat
abbrev pub Gone : KeeperView → ℕ → (ℕ → ℕ) → (ℕ → HartView) → HartView → Type 0
Gone kept keeper seat_of hart j = (j.number < kept.harts) × (seat_of j.number ≡ keeper) × (hart j.number ≡ j)

-- where a hart's last view stands: it is that of its seat, or one that the keeper keeps
abbrev pub IsLastView : List View → KeeperView → (ℕ → ℕ) → (ℕ → HartView) → ℕ → Type 0
IsLastView views kept seat_of hart m = (get_elem? views (seat_of m) ≡ some (Hart (hart m))) ⊎ ((i : ℕ) × (slice_get kept.joined i ≡ Some (hart m)))

-- `hart` gives each hart's last view, and that of a new hart where no seat was made yet
pub record Seats (views : List View) (kept : KeeperView) (keeper : ℕ) (seat_of : ℕ → ℕ) (hart : ℕ → HartView) : Type 0 where
  pub here : get_elem? views keeper ≡ some (Keeper kept)
  pub each : (seat : ℕ) (v : View) → get_elem? views seat ≡ some v → Fits kept keeper seat_of hart seat v
  pub gone : (i : ℕ) (j : HartView) → slice_get kept.joined i ≡ Some j → Gone kept keeper seat_of hart j
  -- a hart's seat is joined once
  pub once : (i n : ℕ) (j l : HartView) → slice_get kept.joined i ≡ Some j → slice_get kept.joined n ≡ Some l → j.number ≡ l.number → i ≡ n
  pub there : (m : ℕ) → m < kept.harts → IsLastView views kept seat_of hart m
  pub unborn : (m : ℕ) → kept.harts ≤ m → hart m ≡ first_hart m
  pub few : kept.harts ≤ harts_at_most
  pub words_known : length kept.words ≡ doublewords
  pub rows_known : length kept.rows ≡ harts_at_most
  pub told : KeeperHeard kept.note kept

-- each hart's number is its own, and the events that it heard of begin the keeper's; so does what it keeps of a note
pub record HartFits (events : List Event) (m : ℕ) (h : HartView) : Type 0 where
  pub numbered : h.number ≡ m
  pub heard : BeginsWith events h.heard
  pub told : HartHeard h.note h

abbrev pub Heard : List Event → (ℕ → HartView) → Type 0
Heard events hart = (m : ℕ) → HartFits events m (hart m)
