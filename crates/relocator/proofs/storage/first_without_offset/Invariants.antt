use Rattle.std.proofs.Common.{◌≡◌, drop}
use Rattle.std.specs.List.{find}
use Rattle.relocator.specs.Bindings.{relas_of}
use Rattle.relocator.specs.Storage.{lacks_offset}
use Rattle.relocator.proofs.storage.first_without_offset.Given as goal

abbrev pub invariant-loop-index : goal.invariant-loop-index
invariant-loop-index l =
    find (lacks_offset l.serial l.places) (drop l.index (relas_of l.object l.bindings)) ≡ find (lacks_offset l.serial l.places) (relas_of l.object l.bindings)
