-- A hart's own move leaves its frames fit.
use Rattle.history_state.specs.Setting.{Machine}
use Rattle.world_turns.specs.WorldFrames.Lemmas.Leaving.{FrameLaws, left_by_move}
use Rattle.hart_fits.specs.Own.{OwnMovesKeepFrames}

pub own_moves : ((m : Machine) → FrameLaws m) → OwnMovesKeepFrames
own_moves laws w past h b c did lawful none x moves = (left_by_move w (laws w.machine) past lawful h b c did none x moves).own
