use Rattle.std.proofs.Common.{◌≡◌, ◌++◌, take, map}
use Rattle.elf_head.specs.DynTable.TagNumbers.{dt_needed}
use Rattle.asm_write.specs.Sizes.{tells_number}
use Rattle.asm_write.proofs.dynamic.push_names.Given as goal

abbrev pub invariant-loop-name : goal.invariant-loop-name
invariant-loop-name l = l.entries ≡ l.initial.entries ++ map (tells_number dt_needed) (take l.name-index l.contents.needed)
