use Rattle.std.proofs.Common.{◌≡◌, ◌&&◌, Bool, true, Some, cond, sym, ap, ◌∙◌}
use Rattle.history_state.specs.Grants.{is_bound_standing}
use Rattle.trace_replay.specs.Indexed.{place_of, same_slot}
use Rattle.trace_replay.proofs.grants.note.Goals as goal

pub returns-in_ok-insert-clause-ok : goal.returns-in_ok-insert-clause-ok
returns-in_ok-insert-clause-ok c = λ o s.
    let bound : is_bound_standing c.args.standing ≡ true = sym c.is_bound.ensures ∙ c.if-is_bound.true in
    c.in_ok-insert.ensures.updates.0 (o, s)
    ∙ ap (λ (t : Bool). cond (t && same_slot (c.args.owner, c.args.slot) (o, s)) (Some c.args.place) (place_of c.args.bound.now.entries o s)) (sym bound)
