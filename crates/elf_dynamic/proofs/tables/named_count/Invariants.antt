use Rattle.std.proofs.Common.{◌≡◌, ◌+◌, ◌<◌, ◌^◌, take}
use Rattle.std.specs.Prelude.{fold, max}
use Rattle.ld_base.specs.declared.object.Reloc.{Reloc}
use Rattle.elf_dynamic.proofs.tables.named_count.Given as goal

-- the count so far is that of the relocations so far
abbrev pub invariant-loop-reloc : goal.invariant-loop-reloc
invariant-loop-reloc l = record {
  count : l.count ≡ fold (λ n (r : Reloc). max n (r.symbol + 1)) l.least (take l.reloc-index l.relocs);
  few : l.count < 2 ^ 33;
}
