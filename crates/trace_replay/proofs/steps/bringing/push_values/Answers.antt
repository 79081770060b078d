use Rattle.std.proofs.Common.{◌∙◌, arith}
use Rattle.std.specs.Option.{option_map}
use Rattle.history_state.specs.Addresses.{address}
use Rattle.trace_replay.proofs.Pushed.{map_all, map_taken}
use Rattle.trace_replay.proofs.steps.bringing.push_values.Goals as goal

pub loop-choice-preserved : goal.loop-choice-preserved
loop-choice-preserved c = record {
  items = λ s are. c.push_reserved.ensures.items
      ∙ map_taken (option_map (address s)) c.args.values.now.items c.loop-choice.values.items c.args.choices.now c.loop-choice.choice-index c.choice-item.result c.value_of.result
      (omega arith) c.choice-item.is (c.loop-choice.invariant.items s are) (c.value_of.ensures s are);
  room = omega (arith, c.push_reserved.ensures.len, c.push_reserved.ensures.capacity, c.loop-choice.invariant.room);
}

pub returns : goal.returns
returns c = λ s are. c.loop-choice.invariant.items s are ∙ map_all (option_map (address s)) c.args.values.now.items c.args.choices.now c.loop-choice.choice-index (omega arith)
