use Rattle.std.proofs.Common.{List, [], ◌∷◌, ◌++◌, refl, sym, ap, ◌∙◌}
use Rattle.history_event.specs.declared.event.Event.{Event}
use Rattle.history_event.specs.declared.event.Event.TheVariants.{Bound, Lost}
use Rattle.word_rule.specs.declared.view.KeeperView.{KeeperView}
use Rattle.word_steps.specs.Knowing.{counted}
use Rattle.history_state.specs.Setting.{Machine}
use Rattle.link_state.specs.Table.{LinkTable}
use Rattle.link_keeper.proofs.Settled.{keeps_lost, keeps_open, keeps_won, may_bind, may_lose}
use Rattle.link_keeper.proofs.settling.settle_one.Goals as goal

pub settle-requires : goal.settle-requires
settle-requires g c = may_bind c.fates_settle.ensures.won g.J.RunNaming.setting g.J.RunNaming.journal c.args.state.now c.args.keeper.now c.requires.keeps
    (c.accepted_object.ensures.machine g.J.RunNaming.setting.machine (ap (λ (m : Machine). m.verdict) c.requires.keeps.machine)) c.args.id c.requires.low c.requires.pending.0 c.requires.pending.1
    c.in-Won.ensures.told.0 c.args.grant c.requires.pending.2 c.in-Won.ensures.told.2 c.in-Won.ensures.told.1

pub count_last-requires : goal.count_last-requires
count_last-requires g c = (
  Bound c.args.grant,
  ap (λ (t : LinkTable). t.events) c.settle.ensures ∙ ap (λ (es : List Event). es ++ Bound c.args.grant ∷ []) (sym c.requires.keeps.same ∙ sym (ap (λ (k : KeeperView). k.events) c.in-Won.ensures.asked)),
)

pub settle-requires-in-Lost : goal.settle-requires-in-Lost
settle-requires-in-Lost g c = may_lose c.fates_settle.ensures.lost g.J.RunNaming.setting g.J.RunNaming.journal c.args.state.now c.args.keeper.now c.requires.keeps
    (c.accepted_object.ensures.machine g.J.RunNaming.setting.machine (ap (λ (m : Machine). m.verdict) c.requires.keeps.machine)) c.args.id c.requires.low c.requires.pending.0 c.requires.pending.1
    c.in-Lost.ensures.told.0 c.args.grant c.in-Lost.saw c.requires.pending.2 c.in-Lost.ensures.told.2 (c.in-Lost.ensures.saw c.requires.pending.0 c.requires.pending.1)

pub count_last-requires-in-Lost : goal.count_last-requires-in-Lost
count_last-requires-in-Lost g c = (
  Lost c.args.grant c.in-Lost.saw,
  ap (λ (t : LinkTable). t.events) c.settle-in-Lost.ensures ∙ ap (λ (es : List Event). es ++ Lost c.args.grant c.in-Lost.saw ∷ []) (sym c.requires.keeps.same ∙ sym (ap (λ (k : KeeperView). k.events) c.in-Lost.ensures.asked)),
)

pub returns-in-Open-clause-keeps : goal.returns-in-Open-clause-keeps
returns-in-Open-clause-keeps g c = keeps_open g.J.RunNaming.setting g.J.RunNaming.journal c.args.state.now c.args.keeper.now c.requires.keeps c.asks_settle.ensures
    (c.accepted_object.ensures.machine g.J.RunNaming.setting.machine (ap (λ (m : Machine). m.verdict) c.requires.keeps.machine)) c.args.id c.requires.low c.requires.pending.0 c.requires.pending.1
    c.in-Open.ensures.told.0 c.args.grant c.requires.pending.2 c.in-Open.ensures.told.2 c.args.state.now c.ask.new.keeper refl refl c.in-Open.ensures.asked c.in-Open.ensures.told.1

pub returns-in-Won-clause-keeps : goal.returns-in-Won-clause-keeps
returns-in-Won-clause-keeps g c =
    let events = ap (λ (t : LinkTable). t.events) c.settle.ensures in
    let ahead = events ∙ ap (λ (es : List Event). es ++ Bound c.args.grant ∷ []) (sym c.requires.keeps.same ∙ sym (ap (λ (k : KeeperView). k.events) c.in-Won.ensures.asked)) in
    keeps_won g.J.RunNaming.setting g.J.RunNaming.journal c.args.state.now c.args.keeper.now c.requires.keeps c.asks_settle.ensures
    (c.accepted_object.ensures.machine g.J.RunNaming.setting.machine (ap (λ (m : Machine). m.verdict) c.requires.keeps.machine)) c.args.id c.requires.low c.requires.pending.0 c.requires.pending.1
    c.in-Won.ensures.told.0 c.args.grant c.requires.pending.2 c.in-Won.ensures.told.2 c.settle.new.self c.count_last.new.keeper (ap (λ (t : LinkTable). t.harts) c.settle.ensures) events
    (c.count_last.ensures (Bound c.args.grant) ahead ∙ ap (counted (Bound c.args.grant)) c.in-Won.ensures.asked) c.in-Won.ensures.told.1

pub returns-in-Won-clause-keeper : goal.returns-in-Won-clause-keeper
returns-in-Won-clause-keeper g c =
    let ahead = ap (λ (t : LinkTable). t.events) c.settle.ensures ∙ ap (λ (es : List Event). es ++ Bound c.args.grant ∷ []) (sym c.requires.keeps.same ∙ sym (ap (λ (k : KeeperView). k.events) c.in-Won.ensures.asked)) in
    c.count_last.ensures (Bound c.args.grant) ahead ∙ ap (counted (Bound c.args.grant)) c.in-Won.ensures.asked

pub returns-in-Lost-clause-keeps : goal.returns-in-Lost-clause-keeps
returns-in-Lost-clause-keeps g c =
    let events = ap (λ (t : LinkTable). t.events) c.settle-in-Lost.ensures in
    let ahead = events ∙ ap (λ (es : List Event). es ++ Lost c.args.grant c.in-Lost.saw ∷ []) (sym c.requires.keeps.same ∙ sym (ap (λ (k : KeeperView). k.events) c.in-Lost.ensures.asked)) in
    keeps_lost g.J.RunNaming.setting g.J.RunNaming.journal c.args.state.now c.args.keeper.now c.requires.keeps c.asks_settle.ensures
    (c.accepted_object.ensures.machine g.J.RunNaming.setting.machine (ap (λ (m : Machine). m.verdict) c.requires.keeps.machine)) c.args.id c.requires.low c.requires.pending.0 c.requires.pending.1
    c.in-Lost.ensures.told.0 c.args.grant c.requires.pending.2 c.in-Lost.ensures.told.2 c.settle-in-Lost.new.self c.count_last-in-Lost.new.keeper (ap (λ (t : LinkTable). t.harts) c.settle-in-Lost.ensures)
    c.in-Lost.saw events (c.count_last-in-Lost.ensures (Lost c.args.grant c.in-Lost.saw) ahead ∙ ap (counted (Lost c.args.grant c.in-Lost.saw)) c.in-Lost.ensures.asked) c.in-Lost.ensures.told.1
    (c.in-Lost.ensures.saw c.requires.pending.0 c.requires.pending.1)

pub returns-in-Lost-clause-keeper : goal.returns-in-Lost-clause-keeper
returns-in-Lost-clause-keeper g c =
    let ahead = ap (λ (t : LinkTable). t.events) c.settle-in-Lost.ensures ∙ ap (λ (es : List Event). es ++ Lost c.args.grant c.in-Lost.saw ∷ []) (sym c.requires.keeps.same ∙ sym (ap (λ (k : KeeperView). k.events) c.in-Lost.ensures.asked)) in
    c.count_last-in-Lost.ensures (Lost c.args.grant c.in-Lost.saw) ahead ∙ ap (counted (Lost c.args.grant c.in-Lost.saw)) c.in-Lost.ensures.asked
