use Rattle.std.proofs.Common.{ℕ, ◌&&◌, not, List, reverse, ap, ◌∙◌}
use Rattle.std.specs.List.{filter, find, list_any}
use Rattle.std.specs.Option.{option_map}
use Rattle.std.proofs.lemmas.Bool.Decides.{Decides-at}
use Rattle.close_mark.specs.UnmapSteps.Touched.{is_touching}
use Rattle.history_event.specs.declared.state.Closing.{Closing}
use Rattle.history_event.specs.declared.state.Granting.{Granting}
use Rattle.history_graph.specs.Initialised.{is_one_of}
use Rattle.history_state.specs.After.{after}
use Rattle.history_state.specs.Grants.{is_open}
use Rattle.history_state.specs.Step.{is_closing}
use Rattle.trace_rows.proofs.Tests.{all_four}
use Rattle.trace_rows.proofs.Unmapped.{unmaps_so}
use Rattle.trace_rows.proofs.rows.unmapping.may_unmap.Goals as goal

pub returns : goal.returns
returns c = λ w past same x.
    Decides-at c.all.result (((not c.is_empty.result && c.has_closing.result) && c.is_none.result) && c.is_none-2.result)
    (c.all.ensures ∙ all_four (not c.is_empty.result) c.has_closing.result c.is_none.result c.is_none-2.result)
    (unmaps_so (after past) c.args.replay.now c.args.hart c.args.set.now c.is_empty.result c.has_closing.result c.is_none.result c.is_none-2.result c.next_of-next.result c.holding-holder.result x.state
    (c.first_is_least.ensures.none past c.args.set.now) c.is_empty.ensures
    (c.has_closing.ensures ∙ ap (λ (cs : List Closing). list_any (is_closing c.args.hart c.args.set.now) cs) c.closings.ensures)
    (c.next_of-next.ensures ∙ ap (λ (ds : List ℕ). find (is_one_of c.args.set.now) (reverse ds)) c.unfinished.ensures) c.is_none.ensures
    (c.holding-holder.ensures ∙ ap (λ (gs : List Granting). option_map (λ (g : Granting). g.number) (find (is_touching c.args.set.now) gs))
    (c.open.ensures ∙ ap (λ (gs : List Granting). filter is_open gs) c.grants.ensures)) c.is_none-2.ensures)
