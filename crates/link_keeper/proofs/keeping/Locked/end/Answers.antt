use Rattle.link_keeper.proofs.Left.{one_round_more}
use Rattle.link_keeper.proofs.Shown.{begun_least, shown_on}
use Rattle.link_keeper.proofs.keeping.Locked.end.Goals as goal

pub invariant_of-self : goal.invariant_of-self
invariant_of-self g c = record {
  keeps = c.end_hart.ensures.keeps;
  folders_are = c.self.invariant.folders_are;
  files_are = c.self.invariant.files_are;
  shown = shown_on c.counts_show.ensures.join g.J.RunNaming.setting.folders g.J.RunNaming.journal c.self.inside.seat.events c.end_hart.new.keeper.events g.J.RunNaming.counts _
      (begun_least g.J.RunNaming.setting g.J.RunNaming.journal c.self.inside.state c.self.inside.seat c.self.invariant.keeps) c.end_hart.ensures.opened c.self.invariant.shown;
  rounds = one_round_more g.J.RunNaming.setting g.J.RunNaming.journal c.args.seat.now.number c.self.inside.seat c.end_hart.new.keeper c.self.invariant.rounds c.end_hart.ensures.settled;
}
