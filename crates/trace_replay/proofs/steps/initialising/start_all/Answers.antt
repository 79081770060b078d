use Rattle.std.proofs.Common.{◌≡◌, List, length, map, sym, ap, ◌∙◌, rules}
use Rattle.std.specs.List.{filter}
use Rattle.std.proofs.lemmas.Fn.{filter_same}
use Rattle.std.proofs.lemmas.List.{length-map, with_items_is}
use Rattle.history_event.specs.declared.state.Loading.{Loading}
use Rattle.trace_replay.specs.Steps.{has_some, without_first}
use Rattle.trace_replay.proofs.steps.initialising.start_all.Goals as goal

pub returns : goal.returns
returns c =
    let each : c.start_each.new.starting ≡ map (without_first c.args.object) c.args.starting.now.items = c.start_each.ensures ∙ ap (map (without_first c.args.object)) c.as_mut_slice.ensures.value in
    let long : length c.start_each.new.starting ≡ c.args.starting.now.len =
    ap (λ (ls : List Loading). length ls) each ∙ length-map c.args.starting.now.items (without_first c.args.object) ∙ sym c.args.starting.now.ok.0 in
    filter_same _ has_some _ (λ x b f' k. search rules) _ _ c.retain.ensures.filtered
    ∙ ap (filter has_some) (with_items_is c.args.starting.now c.start_each.new.starting long ∙ each)
