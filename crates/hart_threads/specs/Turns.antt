-- A turn of a hart, and the way on that turns make. For the loop of a hart.
use Rattle.std.specs.Prelude.{◌≡◌, ℕ, ◌+◌, ◌≤◌, ◌<◌, List, ◌++◌, length, take, IsSome}
use Rattle.word_rule.specs.declared.view.HartView.{HartView}
use Rattle.word_rule.specs.declared.view.TrailItem.{TrailItem}
use Rattle.word_rule.specs.Views.{BeginsWith}
use Rattle.history_state.specs.Setting.{Setting}
use Rattle.hart_moves.specs.Follows.{HasNone, Turned, TurnsAt}
use Rattle.hart_moves.specs.Harts.{HartState}
use Rattle.hart_moves.specs.Moves.{events_of}
use Rattle.hart_trails.specs.Trails.{FollowsBy, Leaves}
use Rattle.hart_threads.specs.Next.{HoldsSlot}

-- one turn, over all events that the hart knows then: none of its own came since it heard of them last, and its own stand last; and what it left
pub record TakesTurn (w : Setting) (before now : HartView) (b c : HartState) (items : List TrailItem) : Type 0 where
  pub same : now.number ≡ before.number
  pub longer : BeginsWith now.heard before.heard
  pub turn : Turned
  pub since : length before.heard ≤ turn.at
  pub none : HasNone now.heard before.number (length before.heard) turn.at
  pub turns : TurnsAt w now.heard before.number turn b c
  pub last : length now.heard ≡ turn.at + length (events_of turn.did)
  pub leaves : Leaves (take turn.at now.heard) b turn.beside turn.did items

-- it spent a turn that it had left; or the two of a slot that was granted, which it doesn't hold any more; or it has ended
pub data SpendsTurns (b c : HartState) : Type 0 where
  one : b.turns < b.fuel → c.turns ≡ b.turns + 1 → SpendsTurns b c
  of_slot : HoldsSlot b → (HoldsSlot c → ⊥) → c.turns ≡ b.turns + 2 → SpendsTurns b c
  last : IsSome c.«end» → SpendsTurns b c

-- how many turns it may take stays, and so its fuel is used up sooner or later
pub record SpendsFuel (b c : HartState) : Type 0 where
  pub fuel : c.fuel ≡ b.fuel
  pub turns : SpendsTurns b c

-- from a state behind so many events the hart has followed to its present one, as far as it has heard; its trail has what that left behind what
-- stood there
pub record RunsBy (w : Setting) (from : ℕ) (first : HartState) (begun : List TrailItem) (seat : HartView) (b : HartState) : Type 0 where
  pub turns : List Turned
  pub own : List TrailItem
  pub to : ℕ
  pub follows : FollowsBy w seat.heard seat.number from first turns own to b
  pub late : to ≤ length seat.heard
  pub none : HasNone seat.heard seat.number to (length seat.heard)
  pub trail : seat.trail ≡ begun ++ own

-- whatever way brought the hart here goes on to there
pub record Proceeds (w : Setting) (before now : HartView) (b c : HartState) : Type 0 where
  pub same : now.number ≡ before.number
  pub longer : BeginsWith now.heard before.heard
  pub on : (from : ℕ) (first : HartState) (begun : List TrailItem) → RunsBy w from first begun before b → RunsBy w from first begun now c
