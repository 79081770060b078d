use Rattle.std.proofs.Common.{◌≡◌, ◌++◌, map, take}
use Rattle.scope_lists.specs.Links.{found_once}
use Rattle.scope_lists.proofs.links.append_found.Given as goal

-- those of the objects so far
abbrev pub invariant-loop-object : goal.invariant-loop-object
invariant-loop-object l = l.found.items ≡ l.fn.found.items ++ map found_once (take l.object-index l.objects)
