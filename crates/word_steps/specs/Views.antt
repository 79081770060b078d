-- The views of seats between two calls.
use Rattle.std.specs.Prelude.{◌≡◌, None}
use Rattle.word_rule.specs.declared.view.HartView.{HartView}
use Rattle.word_rule.specs.declared.view.KeeperView.{KeeperView}
use Rattle.word_rule.specs.declared.view.View.{View}
use Rattle.word_rule.specs.declared.view.View.TheVariants.{Keeper, Hart}
use Rattle.word_rule.specs.Views.{first_hart, nothing_locked}
use Rattle.word_rule.specs.Start.{first_keeper}

-- the view of a hart's seat
abbrev pub hart_of : View → HartView
hart_of (Hart h) = h
hart_of _ = first_hart 0

-- the view of the keeper's seat
abbrev pub keeper_of : View → KeeperView
keeper_of (Keeper k) = k
keeper_of _ = first_keeper

-- between two accesses of a hart: nothing is locked, and nothing is kept of a note
pub record IsIdle (h : HartView) : Type 0 where
  pub access : h.access ≡ nothing_locked
  pub note : h.note ≡ None

-- between two calls of the keeper: nothing is locked, and nothing is kept of a note
pub record IsResting (k : KeeperView) : Type 0 where
  pub access : k.access ≡ nothing_locked
  pub note : k.note ≡ None
