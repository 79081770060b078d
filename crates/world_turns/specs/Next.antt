-- What a hart's next turn is: the world says it, and what is settled first changes nothing of that.
use Rattle.std.specs.Prelude.{◌≡◌, ℕ, List, ◌++◌}
use Rattle.history_event.specs.declared.event.Event.{Event}
use Rattle.history_state.specs.After.{after}
use Rattle.history_state.specs.Setting.{Setting}
use Rattle.hart_moves.specs.Due.{due}
use Rattle.hart_moves.specs.Harts.{HartState}
use Rattle.world_turns.specs.Turn.{Turn}
use Rattle.world_turns.specs.World.{World, found_journal, settling}

-- grants that are settled neither map objects nor take stacks away
abbrev pub SettlingKeepsDue : Type 0
SettlingKeepsDue = (past : List Event) (harts : List HartState) (b : HartState) → due (after (past ++ settling harts)) b ≡ due (after past) b

-- so two turns of one hart, from one world, are turns of one kind
abbrev pub OneDue : Type 0
OneDue = (w : Setting) (h : ℕ) (old new other : World) (one : Turn w h old new) (two : Turn w h old other)
    → due (after (found_journal old one.did)) one.before ≡ due (after (found_journal old two.did)) two.before
