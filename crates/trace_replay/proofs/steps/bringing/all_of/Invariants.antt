use Rattle.std.proofs.Common.{◌≡◌, map, take, Some}
use Rattle.ld_base.specs.declared.linking.Choice.{Choice}
use Rattle.trace_replay.proofs.steps.bringing.all_of.Given as goal

-- those of the relocations so far are there
abbrev pub invariant-loop-choice : goal.invariant-loop-choice
invariant-loop-choice l = l.all.items ≡ map (λ (choice : Choice). Some choice) (take l.choice-index l.relocs)
