use Rattle.std.proofs.Common.{◌≡◌, ◌++◌, take, map}
use Rattle.scope_lists.specs.VersionPlaces.Places.{places_of}
use Rattle.scope_lists.proofs.lists.append_names.Given as goal

-- the names of the objects so far
abbrev pub invariant-loop-object : goal.invariant-loop-object
invariant-loop-object l = l.names.items ≡ l.fn.names.items ++ map (λ o. places_of o.object) (take l.object-index l.objects)
