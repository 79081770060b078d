use Rattle.std.proofs.Common.{ℕ, List, drop, length, sym, subst, ◌∙◌}
use Rattle.word_rule.specs.declared.view.KeeperView.{KeeperView}
use Rattle.world_turns.specs.Counts.{ShowInCounts}
use Rattle.link_keeper.specs.Settling.{SettlesFirst}
use Rattle.link_keeper.proofs.Left.{one_round_more}
use Rattle.link_keeper.proofs.Shown.{begun_least, more_shown}
use Rattle.link_keeper.proofs.keeping.Locked.serve.Goals as goal

pub serve_hart-requires-clause-over : goal.serve_hart-requires-clause-over
serve_hart-requires-clause-over g c = record {
  machine = c.self.invariant.keeps.machine;
  folders_are = c.self.invariant.folders_are;
  files_are = c.self.invariant.files_are;
}

pub invariant_of-self : goal.invariant_of-self
invariant_of-self g c = record {
  keeps = c.serve_hart.ensures.keeps;
  folders_are = c.self.invariant.folders_are;
  files_are = c.self.invariant.files_are ∙ sym c.serve_hart.ensures.files;
  shown = more_shown c.counts_show.ensures.join g.J.RunNaming.setting.folders g.J.RunNaming.journal c.self.inside.seat.events c.serve_hart.new.keeper.events g.J.RunNaming.counts _ _
      (begun_least g.J.RunNaming.setting g.J.RunNaming.journal c.self.inside.state c.self.inside.seat c.self.invariant.keeps) c.serve_hart.ensures.longer c.self.invariant.shown
      (subst (λ (folders : List (List ℕ)). ShowInCounts folders (drop (length c.self.inside.seat.events) c.serve_hart.new.keeper.events)
      (record { faults = g.L.Library.faults c.self.inside.library; misses = g.L.Library.misses c.self.inside.library })
      (record { faults = g.L.Library.faults c.serve_hart.new.library; misses = g.L.Library.misses c.serve_hart.new.library })) (sym c.self.invariant.folders_are) c.serve_hart.ensures.shown);
  rounds = one_round_more g.J.RunNaming.setting g.J.RunNaming.journal c.args.seat.now.number c.self.inside.seat c.serve_hart.new.keeper c.self.invariant.rounds c.serve_hart.ensures.settled;
}

pub returns-clause-settled : goal.returns-clause-settled
returns-clause-settled g c = subst (λ (k : KeeperView). SettlesFirst g.J.RunNaming.setting c.args.seat.now.number k c.serve_hart.new.keeper) c.self.view_is c.serve_hart.ensures.settled
