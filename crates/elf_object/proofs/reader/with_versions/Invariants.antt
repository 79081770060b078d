use Rattle.std.proofs.Common.{◌≡◌, map, take, drop, ◌++◌, length}
use Rattle.std.specs.List.{enumerate_from}
use Rattle.elf_object.specs.Object.{with_version}
use Rattle.elf_object.proofs.reader.with_versions.Given as goal

-- the symbols so far have their versions
abbrev pub invariant-loop-index : goal.invariant-loop-index
invariant-loop-index l = record {
  versions : l.versioned.items ≡ map (with_version l.versym) (take l.index (enumerate_from 0 l.fn.symbols)) ++ drop l.index l.fn.symbols;
  len : length l.versioned.items ≡ length l.fn.symbols;
}
