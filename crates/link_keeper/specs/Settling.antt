-- How grants are settled before a hart is served. For the code of this crate alone.
use Rattle.std.specs.Prelude.{◌≡◌, ◌≢◌, ◌⊎◌, ℕ, ◌<◌, true, List, [], ◌∷◌, ◌++◌, Some, None}
use Rattle.history_event.specs.declared.event.Event.{Event}
use Rattle.word_rule.specs.declared.entry.Grant.{Grant}
use Rattle.word_rule.specs.declared.view.KeeperView.{KeeperView}
use Rattle.word_rule.specs.declared.view.OpenRow.{OpenRow}
use Rattle.word_rule.specs.declared.view.Row.{Row}
use Rattle.word_rule.specs.Views.{row_of}
use Rattle.history_state.specs.Setting.{Setting}
use Rattle.hart_trails.specs.Owners.{AreNobodys}
use Rattle.link_keeper.specs.Finishing.{IsSettlingOf, SettledUpTo}
use Rattle.link_keeper.specs.Rounds.{CameAmong, IsRound, IsSettling, WasFoundOpen}

-- a row whose grant isn't settled was found open, and its hart isn't known to call
abbrev pub IsFoundOpen : Row → Type 0
IsFoundOpen r = (g : Grant) → r.pending ≡ Some g → (r.found_open ≡ true) × (r.since ≡ None)

-- grants were settled: nobody's events came, in the order of the harts, and no row is another but for its grants. Each row below this number was asked
-- whose grant was open, and found open where it still is
pub record HasSettled (asked : ℕ) (k l : KeeperView) : Type 0 where
  pub more : List Event
  pub events : l.events ≡ k.events ++ more
  pub nobodys : AreNobodys more
  pub in_order : SettledUpTo l.events asked more
  pub harts : l.harts ≡ k.harts
  pub joined : l.joined ≡ k.joined
  pub issued : (m : ℕ) → (row_of l m).issued ≡ (row_of k m).issued
  pub since : (m : ℕ) → (row_of l m).since ≡ (row_of k m).since
  pub found : (m : ℕ) → m < asked → IsFoundOpen (row_of l m)
  pub opens : List OpenRow
  pub opened : l.opens ≡ k.opens ++ opens
  pub meanwhile : CameAmong k.events more opens
  pub left_open : (m : ℕ) (g : Grant) → m < asked → (row_of l m).pending ≡ Some g → WasFoundOpen m opens

-- behind what the keeper had counted, each grant that was open is settled, or its row was found open meanwhile
pub record SettlesAll (k l : KeeperView) : Type 0 where
  pub settled : List Event
  pub events : l.events ≡ k.events ++ settled
  pub asked : List OpenRow
  pub opened : l.opens ≡ k.opens ++ asked
  pub settling : IsSettling k.events settled asked

-- a turn of this hart under the lock is a round behind what the keeper had counted
pub record SettlesFirst (w : Setting) (h : ℕ) (k l : KeeperView) : Type 0 where
  pub settled : List Event
  pub own : List Event
  pub events : l.events ≡ k.events ++ (settled ++ own)
  pub asked : List OpenRow
  pub opened : l.opens ≡ k.opens ++ asked
  pub round : IsRound w k.events settled own h asked

-- or nothing came
abbrev pub SettlesOrRests : Setting → ℕ → KeeperView → KeeperView → Type 0
SettlesOrRests w h k l = (l ≡ k) ⊎ SettlesFirst w h k l

-- of one row: one grant at most
pub record SettlesOne (id : ℕ) (k l : KeeperView) : Type 0 where
  pub more : List Event
  pub events : l.events ≡ k.events ++ more
  pub nobodys : AreNobodys more
  pub settles : (more ≡ []) ⊎ ((e : Event) × (more ≡ e ∷ []) × IsSettlingOf l.events id e)
  pub harts : l.harts ≡ k.harts
  pub joined : l.joined ≡ k.joined
  pub others : (m : ℕ) → m ≢ id → row_of l m ≡ row_of k m
  pub issued : (row_of l id).issued ≡ (row_of k id).issued
  pub since : (row_of l id).since ≡ (row_of k id).since
  pub found : IsFoundOpen (row_of l id)
  pub opens : List OpenRow
  pub opened : l.opens ≡ k.opens ++ opens
  pub meanwhile : CameAmong k.events more opens
  pub left_open : (g : Grant) → (row_of l id).pending ≡ Some g → WasFoundOpen id opens
  pub unasked : (row_of l id).pending ≡ None → opens ≡ []
