-- Program headers (gABI, "Program Header").
use Rattle.std.specs.Prelude.{ℕ, ◌+◌, Bool, ◌&&◌, ◌==◌, nat_lt, List}
use Rattle.ld_base.specs.Field.{field}
use Rattle.ld_base.specs.declared.parts.Header.{Header}
use Rattle.elf_head.specs.AcceptancePart.Table.{table}

-- the header at a place of the file
unfoldable pub header_at : List ℕ → ℕ → Header
header_at bytes at = record {
  kind = field 4 bytes at;
  flags = field 4 bytes (at + 4);
  offset = field 8 bytes (at + 8);
  vaddr = field 8 bytes (at + 16);
  filesz = field 8 bytes (at + 32);
  memsz = field 8 bytes (at + 40);
  align = field 8 bytes (at + 48);
}

-- e_phoff, e_phentsize and e_phnum of the ELF header
abbrev pub table_start : List ℕ → ℕ
table_start bytes = field 8 bytes 32

abbrev pub entry_size : List ℕ → ℕ
entry_size bytes = field 2 bytes 54

abbrev pub header_count : List ℕ → ℕ
header_count bytes = field 2 bytes 56

-- the program headers, in file order
unfoldable pub headers_of : List ℕ → List Header
headers_of bytes = table (header_at bytes) (table_start bytes) 56 (header_count bytes)

-- a segment that is mapped (PT_LOAD is 1): a header that takes no memory stands for nothing
abbrev pub is_loaded : Header → Bool
is_loaded h = h.kind == 1 && nat_lt 0 h.memsz
