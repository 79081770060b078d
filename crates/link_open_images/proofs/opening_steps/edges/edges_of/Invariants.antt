use Rattle.std.proofs.Common.{◌≡◌, ◌++◌, drop}
use Rattle.link_open_images.proofs.OpeningSteps.Chosen.{edges_among}
use Rattle.link_open_images.proofs.opening_steps.edges.edges_of.Given as goal

-- those of the objects in front, beside those that are left
abbrev pub invariant-loop-index : goal.invariant-loop-index
invariant-loop-index l = l.edges.items ++ edges_among (drop l.index l.objects) (drop l.index l.choices) ≡ edges_among l.objects l.choices
