use Rattle.std.proofs.Common.{◌∙◌, ap, sym, subst}
use Rattle.word_rule.specs.declared.view.KeeperView.{KeeperView}
use Rattle.world_threads.specs.Setting.{IsSetUp}
use Rattle.world_threads.proofs.Memory.{fresh_at, is_set_up}
use Rattle.world_threads.proofs.setting_up.starting_memory.Goals as goal

pub install-requires-clause-may : goal.install-requires-clause-may
install-requires-clause-may g c =
    c.startup_is_kept.ensures.may g.J.RunNaming.setting c.args.state.now.events c.args.installs.now c.count_all.new.keeper c.requires.brings
    (fresh_at g.J.RunNaming.setting c.args.state.now.events c.harts.result c.in_ok-memory.seats.keeper c.count_all.new.keeper c.in_ok-memory.ensures.keeper (c.requires.harts ∙ sym c.harts.ensures)
    (c.count_all.ensures ∙ ap (λ events. record c.in_ok-memory.seats.keeper { events = events }) (c.as_slice.ensures ∙ c.journal.ensures.events)))

pub returns-clause-keeper : goal.returns-clause-keeper
returns-clause-keeper g c =
    let fresh = fresh_at g.J.RunNaming.setting c.args.state.now.events c.harts.result c.in_ok-memory.seats.keeper c.count_all.new.keeper c.in_ok-memory.ensures.keeper (c.requires.harts ∙ sym c.harts.ensures)
    (c.count_all.ensures ∙ ap (λ events. record c.in_ok-memory.seats.keeper { events = events }) (c.as_slice.ensures ∙ c.journal.ensures.events)) in
    subst (IsSetUp g.J.RunNaming.setting c.args.state.now.events) (sym c.knows_all.ensures.keeper)
    (is_set_up c.startup_is_kept.ensures.kept g.J.RunNaming.setting c.args.state.now.events c.args.installs.now c.count_all.new.keeper c.install.new.keeper c.requires.brings fresh
    (ap (λ (k : KeeperView). k.joined) c.count_all.ensures ∙ c.in_ok-memory.ensures.keeper.none_joined)
    (ap (λ (k : KeeperView). k.opens) c.count_all.ensures ∙ c.in_ok-memory.ensures.keeper.none_open)
    c.knows_all.ensures.long c.install.ensures.installed (c.install.ensures.generation ∙ c.generation.ensures ∙ c.modules.ensures.generation))
