use Rattle.std.proofs.Common.{Bool, eqb, List, None, Some, refl, ap, ◌∙◌}
use Rattle.std.specs.Option.{option_eq}
use Rattle.std.proofs.lemmas.Bool.Decides.{Decides-at}
use Rattle.std.specs.List.{filter, find, list_any}
use Rattle.history_event.specs.declared.state.Granting.{Granting}
use Rattle.history_journal.specs.Following.{machine_of}
use Rattle.history_state.specs.After.{after}
use Rattle.history_state.specs.Grants.{is_open}
use Rattle.trace_replay.specs.Granted.{is_numbered}
use Rattle.trace_rows.specs.Grants.{is_other}
use Rattle.trace_rows.proofs.Tests.{option_so, or_else, or_then}
use Rattle.trace_rows.proofs.Valued.{FindsOpen, OtherOpen, lost_so, not_lost}
use Rattle.trace_rows.proofs.rows.grants.may_lose.Goals as goal

pub returns-in_default : goal.returns-in_default
returns-in_default c = λ w past same x.
    let found : FindsOpen c.args.replay.now c.args.number None =
    c.in_default.ensures ∙ ap (λ (gs : List Granting). find (is_numbered c.args.number) (filter is_open gs)) c.grants.ensures in
    not_lost (after past) c.args.replay.now c.args.number c.args.saw x.state found

pub returns-then-eq : goal.returns-then-eq
returns-then-eq c = λ w past same x.
    let found : FindsOpen c.args.replay.now c.args.number (Some c.in-Some.grant) =
    c.in-Some.ensures ∙ ap (λ (gs : List Granting). find (is_numbered c.args.number) (filter is_open gs)) c.grants.ensures in
    let other : Bool = list_any (is_other c.in-Some.grant c.args.saw) (filter is_open c.args.replay.now.grants) in
    or_then c.eq.result other c.if-eq.true
    (lost_so (after past) c.args.replay.now c.args.number c.args.saw c.in-Some.grant c.slot_value.result c.eq.result other
    (c.grants_are_tidy.ensures (machine_of c.args.replay.now.harts) past x.lawful) x.state found (c.slot_value.ensures (after past) x.state) (Decides-at c.eq.result (option_eq eqb c.slot_value.result (Some c.args.saw)) c.eq.ensures (option_so c.slot_value.result c.args.saw)) refl)

pub returns-else-eq : goal.returns-else-eq
returns-else-eq c = λ w past same x.
    let found : FindsOpen c.args.replay.now c.args.number (Some c.in-Some.grant) =
    c.in-Some.ensures ∙ ap (λ (gs : List Granting). find (is_numbered c.args.number) (filter is_open gs)) c.grants.ensures in
    let other : OtherOpen c.args.replay.now c.in-Some.grant c.args.saw c.has_other.result =
    c.has_other.ensures ∙ ap (λ (gs : List Granting). list_any (is_other c.in-Some.grant c.args.saw) gs) (c.open.ensures ∙ ap (λ (gs : List Granting). filter is_open gs) c.grants-else-eq.ensures) in
    or_else c.eq.result c.has_other.result c.if-eq.false
    (lost_so (after past) c.args.replay.now c.args.number c.args.saw c.in-Some.grant c.slot_value.result c.eq.result c.has_other.result
    (c.grants_are_tidy.ensures (machine_of c.args.replay.now.harts) past x.lawful) x.state found (c.slot_value.ensures (after past) x.state) (Decides-at c.eq.result (option_eq eqb c.slot_value.result (Some c.args.saw)) c.eq.ensures (option_so c.slot_value.result c.args.saw)) other)
