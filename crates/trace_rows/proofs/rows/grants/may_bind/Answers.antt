use Rattle.std.proofs.Common.{List, None, Some, ap, ◌∙◌}
use Rattle.std.specs.List.{filter, find}
use Rattle.history_event.specs.declared.state.Granting.{Granting}
use Rattle.history_journal.specs.Following.{machine_of}
use Rattle.history_state.specs.After.{after}
use Rattle.history_state.specs.Grants.{is_open}
use Rattle.trace_replay.specs.Granted.{is_numbered}
use Rattle.trace_rows.proofs.Valued.{FindsOpen, bound_so, not_bound}
use Rattle.trace_rows.proofs.rows.grants.may_bind.Goals as goal

pub returns-in_default : goal.returns-in_default
returns-in_default c = λ w past same x.
    let found : FindsOpen c.args.replay.now c.args.number None =
    c.in_default.ensures ∙ ap (λ (gs : List Granting). find (is_numbered c.args.number) (filter is_open gs)) c.grants.ensures in
    not_bound (after past) c.args.replay.now c.args.number x.state found

pub returns : goal.returns
returns c = λ w past same x.
    let found : FindsOpen c.args.replay.now c.args.number (Some c.in-Some.grant) =
    c.in-Some.ensures ∙ ap (λ (gs : List Granting). find (is_numbered c.args.number) (filter is_open gs)) c.grants.ensures in
    bound_so (after past) c.args.replay.now c.args.number c.in-Some.grant c.slot_value.result c.is_none.result
    (c.grants_are_tidy.ensures (machine_of c.args.replay.now.harts) past x.lawful) x.state found (c.slot_value.ensures (after past) x.state) c.is_none.ensures
