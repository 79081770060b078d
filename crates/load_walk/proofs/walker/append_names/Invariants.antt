use Rattle.std.proofs.Common.{◌≡◌, ◌++◌, take}
use Rattle.load_walk.proofs.walker.append_names.Given as goal

-- those so far are at the end
abbrev pub invariant-loop-name : goal.invariant-loop-name
invariant-loop-name l = l.names ≡ l.initial.names ++ take l.name-index l.more
