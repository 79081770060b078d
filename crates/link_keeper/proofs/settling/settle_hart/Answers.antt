use Rattle.std.proofs.Common.{ap}
use Rattle.history_state.specs.Setting.{Machine}
use Rattle.link_keeper.proofs.Settled.{pending_in, settles_none_in, settles_told}
use Rattle.link_keeper.proofs.settling.settle_hart.Goals as goal

pub settle_one-requires-clause-pending : goal.settle_one-requires-clause-pending
settle_one-requires-clause-pending g c = pending_in g.J.RunNaming.setting g.J.RunNaming.journal c.args.state.now c.args.keeper.now c.requires.keeps
    (c.accepted_object.ensures.machine g.J.RunNaming.setting.machine (ap (λ (m : Machine). m.verdict) c.requires.keeps.machine)) c.slots_stand.ensures.granted c.args.id c.in-Some.grant c.in-Some.ensures.pending

pub returns-in-Some-clause-settled : goal.returns-in-Some-clause-settled
returns-in-Some-clause-settled g c =
    let at = pending_in g.J.RunNaming.setting g.J.RunNaming.journal c.args.state.now c.args.keeper.now c.requires.keeps
    (c.accepted_object.ensures.machine g.J.RunNaming.setting.machine (ap (λ (m : Machine). m.verdict) c.requires.keeps.machine)) c.slots_stand.ensures.granted c.args.id c.in-Some.grant c.in-Some.ensures.pending in
    settles_told g.J.RunNaming.setting g.J.RunNaming.journal c.args.state.now c.args.keeper.now c.requires.keeps c.args.id c.requires.low at.0 at.1 c.in-Some.grant at.2 c.settle_one.new.keeper c.settle_one.result
    c.settle_one.ensures.told.0 c.settle_one.ensures.told.1 c.settle_one.ensures.told.2 c.settle_one.ensures.keeper

pub returns-in-None-clause-settled : goal.returns-in-None-clause-settled
returns-in-None-clause-settled g c = settles_none_in g.J.RunNaming.setting g.J.RunNaming.journal c.args.state.now c.args.keeper.now c.requires.keeps c.args.id c.requires.low c.in-None.ensures.none
