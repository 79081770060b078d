use Rattle.std.proofs.Common.{List, sym, ap, subst, ◌∙◌}
use Rattle.std.specs.List.{find, flat_map}
use Rattle.history_journal.specs.Following.{machine_of}
use Rattle.history_state.specs.After.{after}
use Rattle.history_state.specs.Objects.{has_object}
use Rattle.link_spaces.specs.ObjectHolders.Holders.{AllAccepted}
use Rattle.scope_rule.specs.Loading.{with_serial}
use Rattle.scope_rule.specs.declared.namespace.Namespace.{Namespace}
use Rattle.trace_rows.proofs.Granted.{all_accepted, is_slot, not_home, not_mapped, not_slot, slot_of}
use Rattle.trace_rows.proofs.rows.slots.slot_choice.Goals as goal

pub returns-in_default : goal.returns-in_default
returns-in_default c = λ past x. not_home (after past) c.args.replay.now c.args.owner c.args.slot x.state (c.in_default.ensures ∙ ap (λ (nss : List Namespace). find (has_object c.args.owner) nss) c.namespaces-namespaces.ensures)

pub returns-in_default-object_in : goal.returns-in_default-object_in
returns-in_default-object_in c = λ past x.
    not_mapped (after past) c.args.replay.now c.args.owner c.args.slot (c.objects_are_apart.ensures (machine_of c.args.replay.now.harts) past x.lawful) x.state (c.in_default-object_in.ensures ∙ ap (λ (nss : List Namespace). with_serial (flat_map (λ (ns : Namespace). ns.objects) nss) c.args.owner) c.namespaces-namespaces.ensures)

pub returns-in_default-slot_at : goal.returns-in_default-slot_at
returns-in_default-slot_at c = λ past x.
    not_slot (after past) c.args.replay.now c.args.owner c.args.slot c.in-Some-object_in.object.now (c.objects_are_apart.ensures (machine_of c.args.replay.now.harts) past x.lawful) x.state (c.in-Some-object_in.ensures ∙ ap (λ (nss : List Namespace). with_serial (flat_map (λ (ns : Namespace). ns.objects) nss) c.args.owner) c.namespaces-namespaces.ensures) (sym c.in_default-slot_at.ensures.none)

pub choice_of-requires-clause-accepted : goal.choice_of-requires-clause-accepted
choice_of-requires-clause-accepted c = subst AllAccepted (sym c.namespaces-namespaces.ensures) (all_accepted c.objects_are_read.ensures.mapped c.one_image.ensures.read c.args.replay.now c.has_history.ensures)

pub choice_of-requires-clause-slot : goal.choice_of-requires-clause-slot
choice_of-requires-clause-slot c =
    slot_of c.objects_are_read.ensures.mapped c.one_image.ensures.read c.one_object.ensures.names c.args.replay.now c.has_history.ensures c.args.owner c.args.slot c.in-Some-object_in.object.now c.in-Some-slot_at.reloc.now
    (c.in-Some-object_in.ensures ∙ ap (λ (nss : List Namespace). with_serial (flat_map (λ (ns : Namespace). ns.objects) nss) c.args.owner) c.namespaces-namespaces.ensures) c.in-Some-slot_at.ensures.found

pub returns : goal.returns
returns c = λ past x.
    is_slot (after past) c.args.replay.now c.args.owner c.args.slot c.in-Some.namespace.now c.in-Some-object_in.object.now c.in-Some-slot_at.reloc.now c.in_ok-chosen.chosen (c.objects_are_apart.ensures (machine_of c.args.replay.now.harts) past x.lawful) x.state
    (c.in-Some.ensures ∙ ap (λ (nss : List Namespace). find (has_object c.args.owner) nss) c.namespaces-namespaces.ensures) (c.in-Some-object_in.ensures ∙ ap (λ (nss : List Namespace). with_serial (flat_map (λ (ns : Namespace). ns.objects) nss) c.args.owner) c.namespaces-namespaces.ensures) c.in-Some-slot_at.ensures.found
    (c.in_ok-chosen.ensures (after past) (sym (c.namespaces-namespaces.ensures ∙ x.state.namespaces)))
