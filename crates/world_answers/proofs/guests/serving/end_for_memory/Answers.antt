use Rattle.std.proofs.Common.{[], None, refl}
use Rattle.history_state.specs.Setting.{Setting}
use Rattle.world_answers.proofs.GuestsPart.Moved.{setting_with}
use Rattle.world_answers.proofs.guests.serving.end_for_memory.Goals as goal

pub ended-requires : goal.ended-requires
ended-requires c =
    let w : Setting = setting_with c.args.state.now.harts [] [] None in
    record { hart = c.requires.hart; times = c.requires.times; may = record { setting = w; machine = refl; may = c.requires.may w refl } }
