use Rattle.std.proofs.Common.{◌≡◌, ◌∷◌, ◌++◌, take}
use Rattle.std.specs.List.{flat_map}
use Rattle.std.specs.String.{string_bytes}
use Rattle.trace_text.specs.Lists.{new_text}
use Rattle.trace_text.proofs.lists.write_more_added.Given as goal

-- the objects so far are written
abbrev pub invariant-loop-object : goal.invariant-loop-object
invariant-loop-object l = string_bytes l.text ≡ string_bytes l.fn.text ++ flat_map (λ o. 44 ∷ new_text o) (take l.object-index l.added)
