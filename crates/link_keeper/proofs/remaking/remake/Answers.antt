use Rattle.std.proofs.Common.{◌≤◌, ℕ, ap, sym, subst, ◌∙◌}
use Rattle.history_calls.specs.declared.link_served.installs.Installs.{Installs}
use Rattle.history_state.specs.Setting.{Machine}
use Rattle.word_rule.specs.declared.view.KeeperView.{KeeperView}
use Rattle.link_keeper.specs.Remaking.{IsMade, MayMake, Remakes}
use Rattle.link_keeper.proofs.Remade.{may_make, remakes, rises}
use Rattle.link_keeper.proofs.remaking.remake.Goals as goal

pub make-requires-clause-may : goal.make-requires-clause-may
make-requires-clause-may g c =
    let x = c.requires.comes in
    subst (λ (i : Installs). MayMake c.args.change.now i c.args.keeper.now) (sym c.made_block.ensures)
    (may_make g.J.RunNaming.setting g.J.RunNaming.journal c.args.state.now c.args.keeper.now x.0 x.1 c.args.change.now
    (c.accepted_object.ensures.machine g.J.RunNaming.setting.machine (ap (λ (m : Machine). m.verdict) c.requires.machine)) c.requires.view x.2 c.installs_remake.ensures.may c.unmappings_remake.ensures.may)

pub make-requires-clause-rises : goal.make-requires-clause-rises
make-requires-clause-rises g c =
    let x = c.requires.comes in
    subst (λ (n : ℕ). c.args.keeper.now.generation ≤ n) (sym (c.generation-generation.ensures ∙ c.modules.ensures.generation))
    (rises g.J.RunNaming.setting g.J.RunNaming.journal c.args.state.now c.args.keeper.now x.0 x.1 c.args.change.now
    (c.accepted_object.ensures.machine g.J.RunNaming.setting.machine (ap (λ (m : Machine). m.verdict) c.requires.machine)) c.requires.view x.2)

pub returns : goal.returns
returns g c = λ e rest comes.
    subst (λ (k : KeeperView). Remakes g.J.RunNaming.setting g.J.RunNaming.journal e c.args.keeper.now k) (sym c.recall.ensures.same)
    (remakes g.J.RunNaming.setting g.J.RunNaming.journal c.args.state.now c.args.keeper.now e rest c.args.change.now
    (c.accepted_object.ensures.machine g.J.RunNaming.setting.machine (ap (λ (m : Machine). m.verdict) c.requires.machine)) c.requires.view comes
    c.make.new.keeper c.generation-generation.result c.recall.ensures.long (c.generation-generation.ensures ∙ c.modules.ensures.generation)
    c.installs_remake.ensures.view c.unmappings_remake.ensures.view c.records_stay.ensures.alike
    (subst (λ (i : Installs). IsMade c.args.change.now i c.generation-generation.result c.args.keeper.now c.make.new.keeper) c.made_block.ensures c.make.ensures))
