use Rattle.std.proofs.Common.{◌≡◌, drop}
use Rattle.scope_rule.specs.Loading.{with_serial}
use Rattle.link_open_images.proofs.object_bindings.copying.place_of.Given as goal

-- the search of the rest is the search of the whole
abbrev pub invariant-loop-place : goal.invariant-loop-place
invariant-loop-place l = with_serial (drop l.place l.objects) l.serial ≡ with_serial l.objects l.serial
