use Rattle.world_answers.proofs.GuestsPart.Ended.{ends_among, ends_in}
use Rattle.world_answers.proofs.guests.ending.end_hart.Goals as goal

pub ended-requires : goal.ended-requires
ended-requires c =
    let may = ends_in c.args.state.now c.settle_all.new.state c.args.harts.now c.args.id c.args.reason c.settle_all.ensures.journal c.requires.ends in
    record { hart = may.hart; times = may.times; may = may.may }

pub returns-clause-harts : goal.returns-clause-harts
returns-clause-harts c =
    ends_among c.args.harts.now c.settle_all.new.harts c.stop.new.harts c.args.id c.args.reason c.requires.hart c.settle_all.ensures.harts c.stop.ensures
