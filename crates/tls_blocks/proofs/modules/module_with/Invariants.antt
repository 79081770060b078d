use Rattle.std.proofs.Common.{◌≡◌, drop}
use Rattle.tls_blocks.specs.Numbers.{module_at}
use Rattle.tls_blocks.proofs.modules.module_with.Given as goal

-- the search of the rest is the search of the whole
abbrev pub invariant-loop-module : goal.invariant-loop-module
invariant-loop-module l = module_at (drop l.module-index l.modules) l.number ≡ module_at l.modules l.number
