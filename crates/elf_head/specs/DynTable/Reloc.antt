-- Relocations with addends (gABI, "Relocation"; ELF-64, Elf64_Rela).
use Rattle.std.specs.Prelude.{ℕ, ◌+◌, ◌/◌, ◌%◌, ◌^◌, List, length}
use Rattle.std.specs.Int.{w64, cast_signed}
use Rattle.ld_base.specs.Field.{field}
use Rattle.ld_base.specs.declared.object.Reloc.{Reloc}
use Rattle.elf_head.specs.AcceptancePart.Table.{table}

-- the relocation at a place: r_info has the symbol in its upper 32 bits and the type in its lower 32
unfoldable pub reloc_at : List ℕ → ℕ → Reloc
reloc_at bytes at = record {
  place = field 8 bytes at;
  kind = field 8 bytes (at + 8) % 2 ^ 32;
  symbol = field 8 bytes (at + 8) / 2 ^ 32;
  addend = cast_signed w64 (field 8 bytes (at + 16));
}

-- the whole entries of the table's bytes
unfoldable pub relocs_of : List ℕ → List Reloc
relocs_of bytes = table (reloc_at bytes) 0 24 (length bytes / 24)
