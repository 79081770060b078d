use Rattle.std.proofs.Common.{◌≡◌, ◌+◌, ℕ, ◌&&◌, not, eqb, List, length, ap, subst, ◌∙◌}
use Rattle.std.specs.Bool.{Decides}
use Rattle.std.specs.List.{filter, list_all}
use Rattle.std.proofs.lemmas.Bool.Decides.{Decides-at}
use Rattle.history_event.specs.declared.state.Granting.{Granting}
use Rattle.history_journal.specs.Following.{machine_of}
use Rattle.history_state.specs.After.{after}
use Rattle.history_state.specs.Grants.{is_open}
use Rattle.trace_rows.proofs.Granted.{grants_so, none_open}
use Rattle.trace_rows.proofs.Tests.{all_three}
use Rattle.trace_rows.proofs.rows.slots.may_grant.Goals as goal

pub returns : goal.returns
returns c = λ w past same x.
    Decides-at c.all.result ((c.is_next-numbered.result && c.has_no_grant-is_free.result) && c.leads_to-leads.result)
    (c.all.ensures ∙ all_three c.is_next-numbered.result c.has_no_grant-is_free.result c.leads_to-leads.result)
    (grants_so (after past) c.args.replay.now c.args.grant.now.number c.args.grant.now.hart c.args.grant.now.owner c.args.grant.now.slot c.args.grant.now.choice c.args.grant.now.value
    c.in_ok-chosen.chosen c.is_next-numbered.result c.has_no_grant-is_free.result c.leads_to-leads.result (c.objects_are_apart.ensures (machine_of c.args.replay.now.harts) past x.lawful) x.state
    (c.in_ok-chosen.ensures past x)
    (subst (λ (n : ℕ). Decides c.is_next-numbered.result (c.args.grant.now.number ≡ n + 1)) (c.len.ensures ∙ ap (λ (gs : List Granting). length gs) c.grants.ensures) c.is_next-numbered.ensures)
    (none_open (after past) c.args.replay.now c.args.grant.now.hart c.has_no_grant-is_free.result x.state
    (c.has_no_grant-is_free.ensures ∙ ap (λ (gs : List Granting). list_all (λ (g : Granting). not (eqb g.hart c.args.grant.now.hart)) gs) (c.open.ensures ∙ ap (λ (gs : List Granting). filter is_open gs) c.grants-2.ensures)))
    c.leads_to-leads.ensures)
