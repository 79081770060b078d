use Rattle.std.specs.List.{AllZip}
use Rattle.lib_gen.specs.Set.{IsObjectOf}
use Rattle.lib_gen.proofs.set.library_set.Given as goal

-- the objects of the sources so far are there
abbrev pub invariant-loop-source : goal.invariant-loop-source
invariant-loop-source l = AllZip IsObjectOf l.yielded l.files
