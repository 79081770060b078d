use Rattle.std.proofs.Common.{◌≡◌, ◌+◌, ◌-◌, ◌<◌, ◌≤◌, List, [], ◌∷◌, ◌++◌, ap, sym, subst, ◌∙◌, arith}
use Rattle.history_event.specs.declared.event.Event.{Event}
use Rattle.history_state.specs.After.{after}
use Rattle.history_state.specs.Owed.{brings, owed}
use Rattle.history_state.specs.Step.{step}
use Rattle.history_journal.specs.Following.{LawfulEvents, MayFollow}
use Rattle.history_journal.proofs.Keeps.{kept_push}
use Rattle.history_journal.proofs.journal.LawfulJournal.push.Goals as goal

pub push-requires : goal.push-requires
push-requires c =
    let enough : brings c.args.event < c.self.inside.journal.room - owed c.self.inside.harts (after c.self.inside.journal.events) = subst (λ (v : LawfulEvents). brings c.args.event < v.spare) (sym c.self.view_is) c.requires.room in
    omega (arith, enough)

pub invariant_of-self : goal.invariant_of-self
invariant_of-self c =
    let next : MayFollow c.self.inside.harts c.self.inside.journal.events c.args.event =
    subst (λ (v : LawfulEvents). MayFollow v.harts v.events c.args.event) (sym c.self.view_is) c.requires.may in
    let enough : brings c.args.event < c.self.inside.journal.room - owed c.self.inside.harts (after c.self.inside.journal.events) =
    subst (λ (v : LawfulEvents). brings c.args.event < v.spare) (sym c.self.view_is) c.requires.room in
    kept_push c.legal_step_by_step.ensures.lawful_push c.self.inside.harts c.self.inside.journal.events c.push.new.self.events c.args.event c.self.inside.journal.room c.push.new.self.room (brings c.args.event)
    c.push.ensures.events c.self.invariant next (c.events_are_owed.ensures.rises c.self.inside.harts c.self.inside.journal.events c.args.event) c.push.ensures.room enough

pub returns-clause-state : goal.returns-clause-state
returns-clause-state c =
    ap after c.push.ensures.events ∙ c.legal_step_by_step.ensures.state c.self.inside.journal.events c.args.event
    ∙ ap (λ (v : LawfulEvents). step (after v.events) c.args.event) c.self.view_is

pub returns-clause-spare : goal.returns-clause-spare
returns-clause-spare c =
    let spare : c.self.inside.journal.room - owed c.self.inside.harts (after c.self.inside.journal.events) ≡ c.args.self.now.spare = ap (λ (v : LawfulEvents). v.spare) c.self.view_is in
    let rises : owed c.self.inside.harts (after (c.self.inside.journal.events ++ c.args.event ∷ [])) ≤ owed c.self.inside.harts (after c.self.inside.journal.events) + brings c.args.event =
    c.events_are_owed.ensures.rises c.self.inside.harts c.self.inside.journal.events c.args.event in
    let same : owed c.self.inside.harts (after c.push.new.self.events) ≡ owed c.self.inside.harts (after (c.self.inside.journal.events ++ c.args.event ∷ [])) =
    ap (λ (es : List Event). owed c.self.inside.harts (after es)) c.push.ensures.events in
    omega (arith, spare, rises, same, c.push.ensures.room)
