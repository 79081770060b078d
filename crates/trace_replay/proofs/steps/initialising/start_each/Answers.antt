use Rattle.std.proofs.Common.{◌<◌, length, sym, ap, ◌∙◌, arith}
use Rattle.std.proofs.Math.ListN.{set}
use Rattle.std.proofs.lemmas.List.Edits.{map_over_more}
use Rattle.history_event.specs.declared.state.Loading.{Loading}
use Rattle.trace_replay.specs.Steps.{without_first}
use Rattle.trace_replay.proofs.steps.initialising.start_each.Goals as goal

pub loop-left-preserved : goal.loop-left-preserved
loop-left-preserved c =
    let within : c.loop-left.left-index < length c.args.starting.now = omega arith in
    ap (λ (g : Loading). set c.loop-left.starting c.loop-left.left-index g)
    (c.start.ensures ∙ ap (without_first c.args.object) (sym c.left-item.is))
    ∙ map_over_more (without_first c.args.object) c.args.starting.now c.loop-left.starting c.loop-left.left-index c.left-item.result within c.loop-left.invariant c.left-item.is
