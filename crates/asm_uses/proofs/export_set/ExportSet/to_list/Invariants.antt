use Rattle.std.proofs.Common.{◌≡◌, take}
use Rattle.std.specs.Prelude.{map}
use Rattle.asm_uses.specs.Exports.{exported_as}
use Rattle.asm_uses.proofs.export_set.ExportSet.to_list.Given as goal

-- the symbols of the keys so far
abbrev pub invariant-loop-key : goal.invariant-loop-key
invariant-loop-key l = l.list ≡ map exported_as (take l.key-index l.key-items)
