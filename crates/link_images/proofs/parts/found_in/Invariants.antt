use Rattle.std.proofs.Common.{◌≡◌, drop}
use Rattle.std.specs.Prelude.{◌==◌}
use Rattle.std.specs.List.{find}
use Rattle.link_images.proofs.parts.found_in.Given as goal

-- the search of the rest is the search of the whole
abbrev pub invariant-loop-part : goal.invariant-loop-part
invariant-loop-part l = find (λ p. p.serial == l.serial) (drop l.part-index l.parts) ≡ find (λ p. p.serial == l.serial) l.parts
