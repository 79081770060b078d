use Rattle.std.proofs.Common.{◌≡◌, ◌++◌, map, take}
use Rattle.scope_rule.specs.Relocation.{choice_at}
use Rattle.link_open_images.specs.ObjectBindings.Bindings.{binding_in}
use Rattle.link_open_images.proofs.object_bindings.binding.push_bound.Given as goal

-- those of the slots in front
abbrev pub invariant-loop-index : goal.invariant-loop-index
invariant-loop-index l = l.bindings ≡ l.initial.bindings ++ map (λ r. binding_in l.indexed r (choice_at l.indexed l.owner r)) (take l.index l.slot-items)
