use Rattle.std.proofs.Common.{◌≡◌, map, take}
use Rattle.elf_head.specs.DynTable.Name.{string_in}
use Rattle.elf_dynamic.proofs.reader.needed_in.Given as goal

-- the names so far are those of the offsets so far
abbrev pub invariant-loop-offset : goal.invariant-loop-offset
invariant-loop-offset l = l.names ≡ map (string_in l.strings) (take l.offset-index l.offset-items)
