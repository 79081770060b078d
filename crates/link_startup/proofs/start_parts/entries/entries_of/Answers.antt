use Rattle.std.proofs.Common.{◌≤◌, ◌∷◌, [], ◌++◌, List, take, sym, ap, ◌∙◌, arith}
use Rattle.history_journal.specs.Following.{machine_of}
use Rattle.history_event.specs.declared.handed.HartEntry.{HartEntry}
use Rattle.history_state.specs.After.{after}
use Rattle.history_state.specs.State.{State}
use Rattle.history_calls.specs.Startup.{entries_from}
use Rattle.link_startup.proofs.StartParts.Opened.{all_ranges}
use Rattle.link_startup.proofs.StartParts.Registers.{are_guests, entries_next, have_room}
use Rattle.link_startup.proofs.start_parts.entries.entries_of.Goals as goal

pub entry_at-requires-clause-guests : goal.entry_at-requires-clause-guests
entry_at-requires-clause-guests c =
    are_guests (after c.args.state.now.events) c.startup_objects.result.1.now
    (all_ranges c.args.state.now.events c.requires.loaded ∙ sym (c.startup_objects.ensures.ranges c.requires.loaded))
    (c.ranges_apart.ensures (machine_of c.args.state.now.harts) c.args.state.now.events c.journal.ensures.lawful)

pub entry_at-requires-clause-room : goal.entry_at-requires-clause-room
entry_at-requires-clause-room c =
    let some : 1 ≤ c.args.state.now.harts = omega (arith, c.loop-index-test.true, c.requires.harts) in
    have_room (machine_of c.args.state.now.harts) (after c.args.state.now.events) c.startup_objects.result.1.now c.tp-tp.result
    (all_ranges c.args.state.now.events c.requires.loaded ∙ sym (c.startup_objects.ensures.ranges c.requires.loaded))
    (sym (c.tp-tp.ensures ∙ c.modules.ensures.tp)) some
    (c.ranges_apart.ensures (machine_of c.args.state.now.harts) c.args.state.now.events c.journal.ensures.lawful)
    (c.static_areas_have_room.ensures (machine_of c.args.state.now.harts) c.args.state.now.events c.journal.ensures.lawful)
    (c.modules_are_few.ensures (machine_of c.args.state.now.harts) c.args.state.now.events c.journal.ensures.lawful)

pub loop-index-preserved : goal.loop-index-preserved
loop-index-preserved c =
    let s : State = after c.args.state.now.events in
    c.in_ok-push.ensures.ok
    ∙ ap (λ (es : List HartEntry). es ++ c.entry_at.result ∷ []) c.loop-index.invariant
    ∙ ap (λ (e : HartEntry). entries_from s 0 (take c.loop-index.index c.args.starts.now) ++ e ∷ [])
    (c.entry_at.ensures s (all_ranges c.args.state.now.events c.requires.loaded ∙ sym (c.startup_objects.ensures.ranges c.requires.loaded))
    (sym (c.tp-tp.ensures ∙ c.modules.ensures.tp)))
    ∙ entries_next s c.args.starts.now c.loop-index.index c.loop-index-test.true
