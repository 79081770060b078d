use Rattle.std.proofs.Common.{◌≡◌, ◌⊎◌, drop, length, Some, subst}
use Rattle.std.specs.List.{Contains}
use Rattle.history_event.specs.declared.event.Event.{Event}
use Rattle.history_calls.specs.Laws.{hart_of}
use Rattle.word_rule.specs.declared.view.KeeperView.{KeeperView}
use Rattle.link_keeper.specs.Settling.{SettlesOrRests}
use Rattle.link_keeper.proofs.Left.{one_or_none_more}
use Rattle.link_keeper.proofs.Shown.{begun_least, shown_on}
use Rattle.link_keeper.proofs.keeping.Locked.finalise.Goals as goal

pub invariant_of-self : goal.invariant_of-self
invariant_of-self g c = record {
  keeps = c.finalise_hart.ensures.keeps;
  folders_are = c.self.invariant.folders_are;
  files_are = c.self.invariant.files_are;
  shown = shown_on c.counts_show.ensures.join g.J.RunNaming.setting.folders g.J.RunNaming.journal c.self.inside.seat.events c.finalise_hart.new.keeper.events g.J.RunNaming.counts _
      (begun_least g.J.RunNaming.setting g.J.RunNaming.journal c.self.inside.state c.self.inside.seat c.self.invariant.keeps) c.finalise_hart.ensures.opened c.self.invariant.shown;
  rounds = one_or_none_more g.J.RunNaming.setting g.J.RunNaming.journal c.args.seat.now.number c.self.inside.seat c.finalise_hart.new.keeper c.self.invariant.rounds c.finalise_hart.ensures.settled;
}

pub returns-clause-settled : goal.returns-clause-settled
returns-clause-settled g c = subst (λ (k : KeeperView). SettlesOrRests g.J.RunNaming.setting c.args.seat.now.number k c.finalise_hart.new.keeper) c.self.view_is c.finalise_hart.ensures.settled

pub returns-clause-only : goal.returns-clause-only
returns-clause-only g c = subst (λ (k : KeeperView). (c.finalise_hart.new.keeper.events ≡ k.events)
    ⊎ ((e : Event) × Contains (drop (length k.events) c.finalise_hart.new.keeper.events) e × (hart_of e ≡ Some 0))) c.self.view_is c.finalise_hart.ensures.only
