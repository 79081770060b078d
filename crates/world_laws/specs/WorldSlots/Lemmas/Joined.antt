-- Steps behind steps are steps.
use Rattle.history_state.specs.Setting.{Setting}
use Rattle.world_turns.specs.World.{World}
use Rattle.world_laws.specs.WorldSlots.Later.{Later, Part}

pub joined : (w : Setting) (part middle last : Part) (old between new : World) → Later w part old middle between → Later w middle between last new
    → Later w part old last new
joined w part middle last old between new (Later.no_more _ _) more = more
joined w part middle last old between new (Later.one_more _ next _ _ other _ step rest) more =
    Later.one_more part next last old other new step (joined w next middle last other between new rest more)
