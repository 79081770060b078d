-- The final destructors of a run begin under the keeper's lock. For the loop that goes on with the first hart once each hart's has ended.
use Rattle.std.specs.Prelude.{◌≡◌, false, List, [], ◌∷◌, ◌++◌, length}
use Rattle.history_event.specs.declared.event.Event.{Event}
use Rattle.history_event.specs.declared.event.Event.TheVariants.{Ended}
use Rattle.history_event.specs.declared.hart_end.HartEnd.TheVariants.{Memory}
use Rattle.word_rule.specs.declared.view.HartView.{HartView}
use Rattle.word_rule.specs.declared.view.TrailItem.TheVariants.{Took}
use Rattle.rv_hart.specs.Registers.{Registers}
use Rattle.history_state.specs.After.{after}
use Rattle.history_state.specs.Setting.{Setting, have_exited}
use Rattle.hart_moves.specs.Follows.{BeginsFinals, HasNone, LacksList}
use Rattle.hart_moves.specs.Harts.{HartState}
use Rattle.hart_moves.specs.Moves.{all_finis}
use Rattle.hart_trails.specs.Entries.{entry_behind}
use Rattle.hart_fits.specs.Fits.{HartFits}
use Rattle.hart_linker.specs.declared.finals.Beginning.{Beginning}
use Rattle.hart_linker.specs.declared.finals.Beginning.TheVariants as beginnings

-- none of its events stands behind what it had heard
abbrev pub HasNoneSince : HartView → HartView → Type 0
HasNoneSince before now = HasNone now.heard before.number (length before.heard) (length now.heard)

-- it was told of events, and nothing else of it has changed
abbrev pub OnlyHears : HartView → HartView → Type 0
OnlyHears before now = now ≡ record before { heard = now.heard }

-- what came of it, over all events that the first hart knows then
pub data BeginsLast (w : Setting) (registers : Registers) (before now : HartView) (b c : HartState) : Beginning → Type 0 where
  others_run : have_exited w (after now.heard) ≡ false → HasNoneSince before now → OnlyHears before now → c ≡ b
      → BeginsLast w registers before now b c beginnings.HartsRun
  none_is_left : all_finis (after now.heard) ≡ [] → HasNoneSince before now → OnlyHears before now → c ≡ b
      → BeginsLast w registers before now b c beginnings.NoneLeft
  begins : BeginsFinals w now.heard registers (length before.heard) b (length now.heard) c → OnlyHears before now → HartFits w now.heard 0 c
      → BeginsLast w registers before now b c beginnings.Begun
  lacks_memory : (past : List Event) → now.heard ≡ past ++ Ended 0 Memory ∷ [] → LacksList w now.heard (length before.heard) b (length past)
      → now.trail ≡ before.trail ++ Took (entry_behind past (Ended 0 Memory)) ∷ [] → c ≡ b
      → BeginsLast w registers before now b c beginnings.Memory
