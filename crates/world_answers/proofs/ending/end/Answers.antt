use Rattle.std.proofs.Common.{[], None, refl}
use Rattle.history_state.specs.Setting.{Setting}
use Rattle.world_answers.proofs.Came.{given_to}
use Rattle.world_answers.proofs.ending.end.Goals as goal

pub ended-requires : goal.ended-requires
ended-requires c =
    let w : Setting = given_to c.args.state.now.harts [] None in
    record {
      hart = c.requires.hart;
      times = c.ends_are_few.ensures w c.args.state.now.events c.args.id c.journal.ensures.lawful (c.requires.may_end w refl);
      may = record { setting = w; machine = refl; may = c.requires.may_end w refl };
    }
