use Rattle.std.proofs.Common.{List, ◌++◌, map, ap, sym, subst, ◌∙◌, arith}
use Rattle.history_state.specs.Setting.{Machine}
use Rattle.word_rule.specs.declared.view.HartView.{HartView}
use Rattle.word_rule.specs.declared.view.KeeperView.{KeeperView}
use Rattle.kept_words.specs.Over.{IsOver}
use Rattle.link_keeper.specs.Finishing.{RunIsOver, knows}
use Rattle.link_keeper.specs.Keeping.{KeepsView}
use Rattle.link_keeper.specs.Rounds.{AreAllRounds, AreRounds}
use Rattle.link_keeper.proofs.Finished.{alone, are_there, have_ended, joined_state, over}
use Rattle.link_keeper.proofs.Left.{all_rounds}
use Rattle.link_keeper.proofs.Settled.{none_open}
use Rattle.link_keeper.proofs.finishing.finish.Goals as goal

pub settle_ended-requires-clause-keeps : goal.settle_ended-requires-clause-keeps
settle_ended-requires-clause-keeps g c = joined_state c.records_stay.ensures.alike g.J.RunNaming.setting g.J.RunNaming.journal c.args.state.now c.args.keeper.now c.join_all.new.keeper c.args.seats.items c.requires.keeps c.join_all.ensures.joined

pub settle_ended-requires-clause-ended : goal.settle_ended-requires-clause-ended
settle_ended-requires-clause-ended g c =
    let keeps = joined_state c.records_stay.ensures.alike g.J.RunNaming.setting g.J.RunNaming.journal c.args.state.now c.args.keeper.now c.join_all.new.keeper c.args.seats.items c.requires.keeps c.join_all.ensures.joined in
    have_ended c.run_is_over.ensures.whole c.run_is_over.ensures.trails c.run_is_over.ensures.fates g.J.RunNaming.setting g.J.RunNaming.journal
    (c.accepted_object.ensures.machine g.J.RunNaming.setting.machine (ap (λ (m : Machine). m.verdict) c.requires.keeps.machine)) c.args.keeper.now c.join_all.new.keeper c.join_all.new.keeper c.args.seats.items
    c.join_all.ensures.joined c.join_all.ensures.fronts c.requires.numbers c.requires.calling c.requires.all keeps.view keeps.view.kept.own

pub look_over-requires-clause-ended : goal.look_over-requires-clause-ended
look_over-requires-clause-ended g c = λ m low.
    are_there c.run_is_over.ensures.whole c.run_is_over.ensures.trails c.run_is_over.ensures.fates g.J.RunNaming.setting g.J.RunNaming.journal
    (c.accepted_object.ensures.machine g.J.RunNaming.setting.machine (ap (λ (x : Machine). x.verdict) c.requires.keeps.machine)) c.args.keeper.now c.join_all.new.keeper c.join_all.new.keeper c.args.seats.items
    c.join_all.ensures.joined c.join_all.ensures.fronts c.requires.numbers c.requires.calling c.requires.all c.settle_ended.new.keeper c.settle_ended.ensures.settled m (omega (arith, low, c.requires.all))

pub returns-clause-over : goal.returns-clause-over
returns-clause-over g c =
    let view = c.settle_ended.ensures.keeps.view in
    subst (λ (k : KeeperView). RunIsOver g.J.RunNaming.setting g.J.RunNaming.journal c.args.keeper.now.events k.events c.args.seats.items) (sym c.look_over.ensures.same)
    (over c.run_is_over.ensures.whole c.run_is_over.ensures.trails c.run_is_over.ensures.fates g.J.RunNaming.setting g.J.RunNaming.journal
    (c.accepted_object.ensures.machine g.J.RunNaming.setting.machine (ap (λ (x : Machine). x.verdict) c.requires.keeps.machine)) c.args.keeper.now c.join_all.new.keeper c.settle_ended.new.keeper c.args.seats.items
    c.join_all.ensures.joined c.join_all.ensures.fronts c.requires.numbers c.requires.calling c.requires.all c.settle_ended.ensures.settled view view.kept.own
    (λ m j low ended. c.look_over.ensures.taken m j (omega (arith, low, c.requires.all)) ended) c.look_over.ensures.decided)

pub returns-clause-state : goal.returns-clause-state
returns-clause-state g c = sym c.settle_ended.ensures.keeps.same ∙ ap (λ (k : KeeperView). k.events) (sym c.look_over.ensures.same)

pub returns-clause-joined : goal.returns-clause-joined
returns-clause-joined g c =
    ap (λ (k : KeeperView). k.joined) c.look_over.ensures.same ∙ c.settle_ended.ensures.settled.settled.joined ∙ ap (λ (k : KeeperView). k.joined) c.join_all.ensures.joined
    ∙ ap (λ (front : List HartView). front ++ map (knows c.args.keeper.now.events) c.args.seats.items)
    (alone c.run_is_over.ensures.whole c.run_is_over.ensures.trails c.run_is_over.ensures.fates g.J.RunNaming.setting g.J.RunNaming.journal
    (c.accepted_object.ensures.machine g.J.RunNaming.setting.machine (ap (λ (x : Machine). x.verdict) c.requires.keeps.machine)) c.args.keeper.now c.join_all.new.keeper c.join_all.new.keeper c.args.seats.items
    c.join_all.ensures.joined c.join_all.ensures.fronts c.requires.numbers c.requires.calling c.requires.all c.settle_ended.new.keeper c.settle_ended.ensures.settled.settled.joined c.look_over.ensures.once
    c.settle_ended.ensures.keeps.view.kept.harts)

pub returns-clause-keeps : goal.returns-clause-keeps
returns-clause-keeps g c = subst (KeepsView g.J.RunNaming.setting g.J.RunNaming.journal) (sym c.look_over.ensures.same) c.settle_ended.ensures.keeps.view

pub returns-clause-known : goal.returns-clause-known
returns-clause-known g c = subst IsOver (sym c.look_over.ensures.same) (record { settled = c.settle_ended.ensures.settled.none; decided = c.look_over.ensures.decided })

pub returns-clause-rounds : goal.returns-clause-rounds
returns-clause-rounds g c =
    let begun = g.J.RunNaming.journal in
    let before = subst (λ (k : KeeperView). AreRounds g.J.RunNaming.setting begun k.events k.opens) (sym c.join_all.ensures.joined) c.requires.rounds in
    let free = none_open g.J.RunNaming.setting begun c.settle_ended.new.state c.settle_ended.new.keeper c.settle_ended.ensures.keeps
    (c.accepted_object.ensures.machine g.J.RunNaming.setting.machine (ap (λ (m : Machine). m.verdict) c.requires.keeps.machine)) c.slots_stand.ensures.granted in
    subst (λ (k : KeeperView). AreAllRounds g.J.RunNaming.setting begun k.events k.opens) (sym c.look_over.ensures.same)
    (all_rounds g.J.RunNaming.setting begun c.join_all.new.keeper c.settle_ended.new.keeper before c.settle_ended.ensures.settled free)
