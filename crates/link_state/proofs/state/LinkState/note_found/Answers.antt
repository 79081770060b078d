use Rattle.std.proofs.Common.{List, [], ◌∷◌, ◌++◌, sym, ap, subst, ◌∙◌}
use Rattle.history_journal.specs.Following.{MayFollow}
use Rattle.history_event.specs.declared.event.Event.{Event}
use Rattle.history_event.specs.declared.event.Event.TheVariants.{Sym}
use Rattle.history_event.specs.declared.event.SymAnswer.TheVariants.{Found}
use Rattle.link_state.specs.Table.{LinkTable}
use Rattle.link_holds.specs.Lemmas.Held.{follows}
use Rattle.link_state.proofs.Looked.{noted}
use Rattle.link_state.proofs.state.LinkState.note_found.Goals as goal

pub push-requires-clause-may : goal.push-requires-clause-may
push-requires-clause-may c =
    let e : Event = Sym c.args.hart c.args.ask (Found c.args.serial c.args.index c.args.value) in
    subst (λ (x : Event). MayFollow c.make_room.new.self.harts c.make_room.new.self.events x) (sym c.found_event.ensures)
    (subst (λ (es : List Event). MayFollow c.make_room.new.self.harts es e) (sym (c.make_room.ensures.events ∙ ap (λ (v : LinkTable). v.events) c.self.view_is))
    (follows c.make_room.new.self.harts c.args.self.now.events e c.requires))

pub returns-clause-ok : goal.returns-clause-ok
returns-clause-ok c =
    let e : Event = Sym c.args.hart c.args.ask (Found c.args.serial c.args.index c.args.value) in
    noted c.args.self.now (record { harts = c.push.new.self.harts; events = c.push.new.self.events; made = c.nothing.result }) c.args.hart c.args.ask c.args.serial c.args.index c.args.value c.requires
    (c.push.ensures.events ∙ ap (λ (x : Event). c.make_room.new.self.events ++ x ∷ []) c.found_event.ensures
    ∙ ap (λ (es : List Event). es ++ e ∷ []) (c.make_room.ensures.events ∙ ap (λ (v : LinkTable). v.events) c.self.view_is))
    (c.push.ensures.harts ∙ c.make_room.ensures.harts ∙ ap (λ (v : LinkTable). v.harts) c.self.view_is) c.nothing.ensures
