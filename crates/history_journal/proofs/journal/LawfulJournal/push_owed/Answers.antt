use Rattle.std.proofs.Common.{◌≡◌, ◌+◌, ◌-◌, ◌≤◌, List, [], ◌∷◌, ◌++◌, ap, sym, subst, ◌∙◌, arith}
use Rattle.history_event.specs.declared.event.Event.{Event}
use Rattle.history_state.specs.After.{after}
use Rattle.history_state.specs.Owed.{IsOwed, owed}
use Rattle.history_state.specs.Step.{step}
use Rattle.history_journal.specs.Following.{LawfulEvents, MayFollow, machine_of}
use Rattle.history_journal.specs.Keeping.{IsKept}
use Rattle.history_journal.proofs.Keeps.{kept_spend}
use Rattle.history_journal.proofs.journal.LawfulJournal.push_owed.Goals as goal

pub push-requires : goal.push-requires
push-requires c =
    let next : MayFollow c.self.inside.harts c.self.inside.journal.events c.args.event = subst (λ (v : LawfulEvents). MayFollow v.harts v.events c.args.event) (sym c.self.view_is) c.requires.may in
    let is_owed : IsOwed c.self.inside.harts (after c.self.inside.journal.events) c.args.event = subst (λ (v : LawfulEvents). IsOwed v.harts (after v.events) c.args.event) (sym c.self.view_is) c.requires.owed in
    let kept : IsKept c.self.inside.harts c.self.inside.journal.events c.self.inside.journal.room = c.self.invariant in
    let falls : owed c.self.inside.harts (after (c.self.inside.journal.events ++ c.args.event ∷ [])) + 1 ≤ owed c.self.inside.harts (after c.self.inside.journal.events) =
    c.events_are_owed.ensures.spends (machine_of c.self.inside.harts) next.setting c.self.inside.harts c.self.inside.journal.events c.args.event next.machine kept.lawful next.may is_owed in
    omega (arith, falls, kept.owed)

pub invariant_of-self : goal.invariant_of-self
invariant_of-self c =
    let next : MayFollow c.self.inside.harts c.self.inside.journal.events c.args.event = subst (λ (v : LawfulEvents). MayFollow v.harts v.events c.args.event) (sym c.self.view_is) c.requires.may in
    let is_owed : IsOwed c.self.inside.harts (after c.self.inside.journal.events) c.args.event = subst (λ (v : LawfulEvents). IsOwed v.harts (after v.events) c.args.event) (sym c.self.view_is) c.requires.owed in
    let kept : IsKept c.self.inside.harts c.self.inside.journal.events c.self.inside.journal.room = c.self.invariant in
    kept_spend c.legal_step_by_step.ensures.lawful_push c.self.inside.harts c.self.inside.journal.events c.push.new.self.events c.args.event c.self.inside.journal.room c.push.new.self.room
    c.push.ensures.events kept next
    (c.events_are_owed.ensures.spends (machine_of c.self.inside.harts) next.setting c.self.inside.harts c.self.inside.journal.events c.args.event next.machine kept.lawful next.may is_owed) c.push.ensures.room

pub returns-clause-state : goal.returns-clause-state
returns-clause-state c =
    ap after c.push.ensures.events ∙ c.legal_step_by_step.ensures.state c.self.inside.journal.events c.args.event
    ∙ ap (λ (v : LawfulEvents). step (after v.events) c.args.event) c.self.view_is

pub returns-clause-spare : goal.returns-clause-spare
returns-clause-spare c =
    let next : MayFollow c.self.inside.harts c.self.inside.journal.events c.args.event = subst (λ (v : LawfulEvents). MayFollow v.harts v.events c.args.event) (sym c.self.view_is) c.requires.may in
    let is_owed : IsOwed c.self.inside.harts (after c.self.inside.journal.events) c.args.event = subst (λ (v : LawfulEvents). IsOwed v.harts (after v.events) c.args.event) (sym c.self.view_is) c.requires.owed in
    let kept : IsKept c.self.inside.harts c.self.inside.journal.events c.self.inside.journal.room = c.self.invariant in
    let spare : c.self.inside.journal.room - owed c.self.inside.harts (after c.self.inside.journal.events) ≡ c.args.self.now.spare = ap (λ (v : LawfulEvents). v.spare) c.self.view_is in
    let falls : owed c.self.inside.harts (after (c.self.inside.journal.events ++ c.args.event ∷ [])) + 1 ≤ owed c.self.inside.harts (after c.self.inside.journal.events) =
    c.events_are_owed.ensures.spends (machine_of c.self.inside.harts) next.setting c.self.inside.harts c.self.inside.journal.events c.args.event next.machine kept.lawful next.may is_owed in
    let same : owed c.self.inside.harts (after c.push.new.self.events) ≡ owed c.self.inside.harts (after (c.self.inside.journal.events ++ c.args.event ∷ [])) =
    ap (λ (es : List Event). owed c.self.inside.harts (after es)) c.push.ensures.events in
    omega (arith, spare, falls, same, c.push.ensures.room, kept.owed)
