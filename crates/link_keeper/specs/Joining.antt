-- How the harts' seats are joined and the last grants are settled. For the code of this crate alone.
use Rattle.std.specs.Prelude.{◌≡◌, ℕ, ◌≤◌, ◌<◌, List, ◌++◌, length, map, None, Some}
use Rattle.history_event.specs.declared.event.Event.{Event}
use Rattle.word_rule.specs.declared.entry.Grant.{Grant}
use Rattle.word_rule.specs.declared.view.HartView.{HartView}
use Rattle.word_rule.specs.declared.view.KeeperView.{KeeperView}
use Rattle.word_rule.specs.KeeperSteps.{HasEnded, HasTakenAll}
use Rattle.word_rule.specs.Views.{BeginsWith, row_of}
use Rattle.hart_moves.specs.Follows.{HasNone}
use Rattle.link_keeper.specs.Finishing.{knows}
use Rattle.link_keeper.specs.Settling.{HasSettled}

-- what a hart has heard is a front of the journal, and nothing of its own stands behind
pub record IsFront (journal : List Event) (h : HartView) : Type 0 where
  pub longer : BeginsWith journal h.heard
  pub none : HasNone journal h.number (length h.heard) (length journal)

-- these seats were joined, each told of all events before
abbrev pub joins : List HartView → KeeperView → KeeperView
joins seats k = record k { joined = k.joined ++ map (knows k.events) seats }

-- a hart with a grant whose fate isn't known has ended
abbrev pub HasEndedThere : KeeperView → ℕ → Type 0
HasEndedThere k m = (g : Grant) → (row_of k m).pending ≡ Some g → (j : HartView) × HasEnded k m j

-- the rows below this number were asked and have no grant left whose fate isn't known, and none was found open; the others are as they were
pub record SettlesEnded (asked : ℕ) (k l : KeeperView) : Type 0 where
  pub settled : HasSettled asked k l
  pub none : (m : ℕ) → m < asked → (row_of l m).pending ≡ None
  pub rest : (m : ℕ) → asked ≤ m → row_of l m ≡ row_of k m
  pub unasked : l.opens ≡ k.opens

-- each of the first harts has taken all that was issued to it
abbrev pub HaveTakenAll : ℕ → KeeperView → Type 0
HaveTakenAll harts k = (m : ℕ) (j : HartView) → m < harts → HasEnded k m j → (state : ℕ) × HasTakenAll k m state j
