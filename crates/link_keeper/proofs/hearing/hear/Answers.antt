use Rattle.std.proofs.Common.{◌<◌, subst}
use Rattle.link_keeper.proofs.Heard.{hears_of}
use Rattle.link_keeper.proofs.hearing.hear.Goals as goal

pub returns-clause-hears : goal.returns-clause-hears
returns-clause-hears g c = hears_of c.entries_are_events.ensures.tail g.J.RunNaming.setting g.J.RunNaming.journal c.args.keeper.now c.args.seat.now c.tell.new.seat c.requires.keeps c.requires.heard
    (subst (λ n. n < 16) c.number.ensures.number c.number.ensures.low) c.tell.ensures.heard c.tell.ensures.begun c.tell.ensures.issued
