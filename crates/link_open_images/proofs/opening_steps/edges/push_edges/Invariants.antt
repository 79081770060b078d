use Rattle.std.proofs.Common.{◌≡◌, ◌++◌, take}
use Rattle.std.specs.List.{flat_map}
use Rattle.link_open_images.specs.OpeningSteps.Steps.{choice_edges}
use Rattle.link_open_images.proofs.opening_steps.edges.push_edges.Given as goal

-- those of the choices in front
abbrev pub invariant-loop-choice : goal.invariant-loop-choice
invariant-loop-choice l = l.edges.items ≡ l.initial.edges.items ++ flat_map (choice_edges l.source) (take l.choice-index l.choices)
