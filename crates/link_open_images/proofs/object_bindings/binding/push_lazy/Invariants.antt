use Rattle.std.proofs.Common.{◌≡◌, ◌++◌, map}
use Rattle.std.specs.List.{range_with_len}
use Rattle.history_state.specs.Bound.{no_binding}
use Rattle.link_open_images.proofs.object_bindings.binding.push_lazy.Given as goal

-- those so far
abbrev pub invariant-loop : goal.invariant-loop
invariant-loop l = l.bindings ≡ l.initial.bindings ++ map (λ k. no_binding) (range_with_len 0 l.counter)
