use Rattle.std.proofs.Common.{◌≡◌, drop}
use Rattle.relocator.specs.Storage.{place_of}
use Rattle.relocator.proofs.storage.place_of.Given as goal

abbrev pub invariant-loop-place : goal.invariant-loop-place
invariant-loop-place l = place_of (drop l.place-index l.places) l.serial ≡ place_of l.places l.serial
