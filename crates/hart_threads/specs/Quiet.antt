-- Turns over shared memory that ask nothing of the linker.
use Rattle.std.specs.Prelude.{◌≡◌, ℕ, false, List, map, Option, Some, None}
use Rattle.history_event.specs.declared.event.Event.{Event}
use Rattle.history_event.specs.declared.hart_end.HartEnd.{HartEnd}
use Rattle.rv_hart.specs.declared.bus.Item.{Item}
use Rattle.rv_hart.specs.Items.{items_left}
use Rattle.word_rule.specs.declared.view.HartView.{HartView}
use Rattle.word_rule.specs.declared.view.TrailItem.TheVariants.{Call}
use Rattle.word_access.specs.Accesses.{in_memory, with_items}
use Rattle.history_state.specs.Setting.{Setting}
use Rattle.hart_moves.specs.Due.{Due}
use Rattle.hart_moves.specs.Harts.{HartState}
use Rattle.hart_moves.specs.Moves.{MovesAs}
use Rattle.hart_turns.specs.Turns.{LeavesSpent, TurnsTo, is_own}
use Rattle.hart_turns.specs.declared.turned.Turned.{Turned}
use Rattle.hart_turns.specs.declared.turned.Turned.TheVariants.{Again, Ends, Over}

-- the calls of the turn stand at the end of the trail, and nothing else of the view is another
pub record Quietly (before now : HartView) (d : Due) (b c : HartState) (result : Turned) : Type 0 where
  pub items : List Item
  pub trail : now ≡ with_items (map Call (items_left in_memory items)) before
  pub turn : (w : Setting) (past : List Event) (h : ℕ) → TurnsTo (MovesAs w past h b d) w past h items result c

-- the turn was taken, if it is one of these; else nothing was done
abbrev pub TakesQuiet : (before now : HartView) → Due → (b c : HartState) → Option Turned → Type 0
TakesQuiet before now d b c (Some result) = Quietly before now d b c result × LeavesSpent b result c
TakesQuiet before now d b c None = (is_own d ≡ false) × (now ≡ before) × (c ≡ b)

-- how the turn ends its hart, if it does
abbrev pub end_of : Option Turned → Option HartEnd
end_of None = None
end_of (Some Over) = None
end_of (Some (Again shown)) = None
end_of (Some (Ends reason)) = Some reason
