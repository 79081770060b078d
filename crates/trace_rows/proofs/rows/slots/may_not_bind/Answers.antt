use Rattle.std.proofs.Common.{◌&&◌, not, eqb, List, ap, ◌∙◌}
use Rattle.std.specs.List.{filter, list_all}
use Rattle.std.proofs.lemmas.Bool.Decides.{Decides-at}
use Rattle.history_event.specs.declared.state.Granting.{Granting}
use Rattle.history_journal.specs.Following.{machine_of}
use Rattle.history_state.specs.After.{after}
use Rattle.history_state.specs.Grants.{is_open}
use Rattle.trace_rows.proofs.Granted.{none_open, unbound_so}
use Rattle.trace_rows.proofs.Tests.{all_two}
use Rattle.trace_rows.proofs.rows.slots.may_not_bind.Goals as goal

pub returns : goal.returns
returns c = λ w past same x.
    Decides-at c.all.result (c.has_no_grant-is_free.result && c.leads_nowhere-leads.result) (c.all.ensures ∙ all_two c.has_no_grant-is_free.result c.leads_nowhere-leads.result)
    (unbound_so (after past) c.args.hart c.args.owner c.args.slot c.args.choice c.in_ok-chosen.chosen c.has_no_grant-is_free.result c.leads_nowhere-leads.result
    (c.objects_are_apart.ensures (machine_of c.args.replay.now.harts) past x.lawful) (c.in_ok-chosen.ensures past x)
    (none_open (after past) c.args.replay.now c.args.hart c.has_no_grant-is_free.result x.state
    (c.has_no_grant-is_free.ensures ∙ ap (λ (gs : List Granting). list_all (λ (g : Granting). not (eqb g.hart c.args.hart)) gs) (c.open.ensures ∙ ap (λ (gs : List Granting). filter is_open gs) c.grants.ensures)))
    c.leads_nowhere-leads.ensures)
