use Rattle.std.proofs.Common.{◌≡◌, drop}
use Rattle.scope_rule.specs.Loading.{with_serial}
use Rattle.link_startup.proofs.start_parts.entries.object_with.Given as goal

-- the search of the rest is the search of the whole
abbrev pub invariant-loop-object : goal.invariant-loop-object
invariant-loop-object l = with_serial (drop l.object-index l.objects) l.serial ≡ with_serial l.objects l.serial
