use Rattle.std.proofs.Common.{◌≡◌, ◌-◌, List, ◌++◌, drop, length, map, take, None, Some, sym, ap, subst, ◌∙◌, arith, rules}
use Rattle.std.specs.List.{filter, find}
use Rattle.std.proofs.lemmas.Fn.{filter_same}
use Rattle.history_event.specs.declared.state.Granting.{Granting}
use Rattle.history_state.specs.Step.{settled_as}
use Rattle.trace_replay.specs.Granted.{is_another, is_numbered}
use Rattle.trace_replay.specs.Indexed.{IsIndexed}
use Rattle.trace_replay.proofs.Settled.{IsPlaced, Notes, indexed_settled, none_found, placed, settled_so}
use Rattle.trace_replay.proofs.grants.GrantTable.settle.Goals as goal

pub returns-in_default-clause-ok : goal.returns-in_default-clause-ok
returns-in_default-clause-ok c =
    let none : find (is_numbered c.args.number) c.self.inside.open.items ≡ None = sym (c.in_default.ensures ∙ ap (find (is_numbered c.args.number)) c.as_slice.ensures.value) in
    sym (subst (λ (gs : List Granting). map (settled_as c.args.number c.args.standing) gs ≡ gs) c.self.view_is
    (none_found c.args.number c.args.standing c.self.inside.all.items (subst (λ (gs : List Granting). find (is_numbered c.args.number) gs ≡ None) c.self.invariant.pending_are none)))

pub overflow_sub-place : goal.overflow_sub-place
overflow_sub-place c =
    let place : IsPlaced c.self.inside.all.items c.args.number c.in-Some.grant = placed c.self.inside.all.items c.self.inside.open.items c.self.inside.bound.entries c.args.number c.in-Some.grant c.self.invariant
    (sym (c.in-Some.ensures ∙ ap (find (is_numbered c.args.number)) c.as_slice.ensures.value)) in
    omega (arith, place.positive, c.number.ensures)

pub settle_at-requires : goal.settle_at-requires
settle_at-requires c =
    let place : IsPlaced c.self.inside.all.items c.args.number c.in-Some.grant = placed c.self.inside.all.items c.self.inside.open.items c.self.inside.bound.entries c.args.number c.in-Some.grant c.self.invariant
    (sym (c.in-Some.ensures ∙ ap (find (is_numbered c.args.number)) c.as_slice.ensures.value)) in
    omega (arith, place.within, c.number.ensures, ap (λ (gs : List Granting). length gs) c.as_mut_slice.ensures.value)

pub invariant_of-self-2 : goal.invariant_of-self-2
invariant_of-self-2 c =
    let found : find (is_numbered c.args.number) c.self.inside.open.items ≡ Some c.in-Some.grant = sym (c.in-Some.ensures ∙ ap (find (is_numbered c.args.number)) c.as_slice.ensures.value) in
    let place : IsPlaced c.self.inside.all.items c.args.number c.in-Some.grant = placed c.self.inside.all.items c.self.inside.open.items c.self.inside.bound.entries c.args.number c.in-Some.grant c.self.invariant found in
    let after : take c.self.inside.all.len (c.settle_at.new.grants ++ drop (length c.settle_at.new.grants) c.self.inside.all.items) ≡ map (settled_as c.args.number c.args.standing) c.self.inside.all.items =
    settled_so c.self.inside.all c.settle_at.new.grants c.as_mut_slice.result.now c.self.inside.open.items c.self.inside.bound.entries c.args.number c.number.result c.args.standing c.in-Some.grant c.self.invariant place
    c.number.ensures c.as_mut_slice.ensures.value c.settle_at.ensures in
    let left : c.retain.new.self.items ≡ filter (is_another c.args.number) c.self.inside.open.items = filter_same _ _ _ (λ x b f' k. search rules) c.self.inside.open.items c.retain.new.self.items c.retain.ensures.filtered in
    let notes : Notes c.self.inside.bound.entries c.args.standing c.in-Some.grant.owner c.in-Some.grant.slot (c.args.number - 1) c.note.new.bound.entries =
    subst (λ n. Notes c.self.inside.bound.entries c.args.standing c.in-Some.grant.owner c.in-Some.grant.slot (n - 1) c.note.new.bound.entries) c.number.ensures c.in_ok-note.ensures.ok in
    subst (λ (gs : List Granting). IsIndexed gs c.retain.new.self.items c.note.new.bound.entries) (sym after)
    (indexed_settled c.self.inside.all.items c.self.inside.open.items c.self.inside.bound.entries c.note.new.bound.entries c.args.number c.args.standing c.in-Some.grant c.self.invariant place notes
    c.retain.new.self.items left c.requires)

pub returns-clause-ok : goal.returns-clause-ok
returns-clause-ok c =
    let found : find (is_numbered c.args.number) c.self.inside.open.items ≡ Some c.in-Some.grant = sym (c.in-Some.ensures ∙ ap (find (is_numbered c.args.number)) c.as_slice.ensures.value) in
    let place : IsPlaced c.self.inside.all.items c.args.number c.in-Some.grant = placed c.self.inside.all.items c.self.inside.open.items c.self.inside.bound.entries c.args.number c.in-Some.grant c.self.invariant found in
    settled_so c.self.inside.all c.settle_at.new.grants c.as_mut_slice.result.now c.self.inside.open.items c.self.inside.bound.entries c.args.number c.number.result c.args.standing c.in-Some.grant c.self.invariant place
    c.number.ensures c.as_mut_slice.ensures.value c.settle_at.ensures
    ∙ ap (map (settled_as c.args.number c.args.standing)) c.self.view_is
