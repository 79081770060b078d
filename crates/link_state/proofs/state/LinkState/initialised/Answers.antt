use Rattle.std.proofs.Common.{◌≡◌, ℕ, ◌+◌, ◌-◌, ◌<◌, ◌≤◌, false, [], ◌∷◌, ◌++◌, length, map, sym, subst, arith}
use Rattle.history_event.specs.declared.event.Event.TheVariants.{Init}
use Rattle.history_state.specs.After.{after}
use Rattle.history_state.specs.Held.{EdgesFollow}
use Rattle.history_state.specs.Laws.{FinalisedOnce}
use Rattle.history_state.specs.Objects.{has}
use Rattle.history_state.specs.Owed.{owed}
use Rattle.history_state.specs.State.{State}
use Rattle.history_state.specs.Step.{initialise, ready_in}
use Rattle.history_journal.specs.Following.{MayFollow, machine_of}
use Rattle.link_state.specs.Inside.{lists_of}
use Rattle.link_state.specs.Table.{LinkTable}
use Rattle.link_holds.specs.Lemmas.Advance.{all_initialised, not_finished, some_left}
use Rattle.link_holds.specs.Lemmas.Held.{holds_after}
use Rattle.link_state.proofs.state.LinkState.initialised.Goals as goal

pub push-requires : goal.push-requires
push-requires c =
    let next : MayFollow c.self.inside.journal.harts c.self.inside.journal.events (Init c.args.hart c.args.serial) =
    subst (λ (v : LinkTable). MayFollow v.harts v.events (Init c.args.hart c.args.serial)) (sym c.self.view_is) c.requires in
    let falls : owed c.self.inside.journal.harts (after (c.self.inside.journal.events ++ Init c.args.hart c.args.serial ∷ [])) + 1 ≤ owed c.self.inside.journal.harts (after c.self.inside.journal.events) =
    c.events_are_owed.ensures.spends (machine_of c.self.inside.journal.harts) next.setting c.self.inside.journal.harts c.self.inside.journal.events (Init c.args.hart c.args.serial) next.machine
    c.journal.ensures.lawful next.may tt in
    let one : owed c.self.inside.journal.harts (initialise c.args.serial (after c.self.inside.journal.events)) + 1 ≤ owed c.self.inside.journal.harts (after c.self.inside.journal.events) =
    subst (λ (x : State). owed c.self.inside.journal.harts x + 1 ≤ owed c.self.inside.journal.harts (after c.self.inside.journal.events))
    (c.legal_step_by_step.ensures.state c.self.inside.journal.events (Init c.args.hart c.args.serial)) falls in
    above ((after c.self.inside.journal.events).next - 1 - length ((after c.self.inside.journal.events).inits ++ c.args.serial ∷ []))
    ((after c.self.inside.journal.events).next - 1 - length (after c.self.inside.journal.events).inits) c.self.inside.unfinished.room
    (some_left c.self.inside.journal.harts (after c.self.inside.journal.events) c.args.serial one) c.self.invariant.running.room
  where
    above : (a b r : ℕ) → a + 1 ≤ b → b ≤ r → 0 < r
    above a b r falls room = omega (arith, falls, room)

pub invariant_of-self : goal.invariant_of-self
invariant_of-self c =
    let next : MayFollow c.self.inside.journal.harts c.self.inside.journal.events (Init c.args.hart c.args.serial) =
    subst (λ (v : LinkTable). MayFollow v.harts v.events (Init c.args.hart c.args.serial)) (sym c.self.view_is) c.requires in
    let falls : owed c.self.inside.journal.harts (after (c.self.inside.journal.events ++ Init c.args.hart c.args.serial ∷ [])) + 1 ≤ owed c.self.inside.journal.harts (after c.self.inside.journal.events) =
    c.events_are_owed.ensures.spends (machine_of c.self.inside.journal.harts) next.setting c.self.inside.journal.harts c.self.inside.journal.events (Init c.args.hart c.args.serial) next.machine
    c.journal.ensures.lawful next.may tt in
    let one : owed c.self.inside.journal.harts (initialise c.args.serial (after c.self.inside.journal.events)) + 1 ≤ owed c.self.inside.journal.harts (after c.self.inside.journal.events) =
    subst (λ (x : State). owed c.self.inside.journal.harts x + 1 ≤ owed c.self.inside.journal.harts (after c.self.inside.journal.events))
    (c.legal_step_by_step.ensures.state c.self.inside.journal.events (Init c.args.hart c.args.serial)) falls in
    let finished : FinalisedOnce (after c.self.inside.journal.events) = c.finalised_once.ensures (machine_of c.self.inside.journal.harts) c.self.inside.journal.events c.journal.ensures.lawful in
    let unfinished : has (after c.self.inside.journal.events).finis c.args.serial ≡ false =
    not_finished (after c.self.inside.journal.events).inits (after c.self.inside.journal.events).finis c.args.serial finished.initialised next.may.next.may.undone in
    let ready : c.make_ready.new.self ≡ map (ready_in c.args.serial) c.self.inside.namespaces =
    c.make_ready.ensures in
    let follow : EdgesFollow (after c.self.inside.journal.events) (Init c.args.hart c.args.serial) =
    c.edges_follow.ensures.follow (machine_of c.self.inside.journal.harts) next.setting c.self.inside.journal.events (Init c.args.hart c.args.serial) c.journal.ensures.lawful next.may in
    holds_after (initialise c.args.serial (after c.self.inside.journal.events)) (after c.push_owed.new.self.events)
    (record (lists_of c.self.inside) { unfinished = c.push.new.self; namespaces = c.make_ready.new.self })
    c.push_owed.ensures.state
    (all_initialised (after c.self.inside.journal.events) c.args.hart c.args.serial (lists_of c.self.inside) c.push.new.self
    c.make_ready.new.self
    c.self.invariant follow unfinished (some_left c.self.inside.journal.harts (after c.self.inside.journal.events) c.args.serial one) c.push.ensures.serials c.push.ensures.room ready)
