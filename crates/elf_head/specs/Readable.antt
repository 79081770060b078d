-- Which addresses have bytes in the file (gABI, "Program Header": p_offset, p_vaddr, p_filesz).
use Rattle.std.specs.Prelude.{ℕ, ◌+◌, ◌-◌, Bool, ◌&&◌, ◌||◌, ◌==◌, nat_le, Option, Some, if◌then◌else◌, List, [], find, slice_range}
use Rattle.std.specs.Option.{option_map, option_map_or}
use Rattle.std.specs.List.{list_any}
use Rattle.ld_base.specs.declared.parts.Header.{Header}
use Rattle.elf_head.specs.Header.{is_loaded}

-- the segment is mapped, and so many addresses from start on lie in its bytes of the file
abbrev pub covers : ℕ → ℕ → Header → Bool
covers start size h = is_loaded h && nat_le h.vaddr start && nat_le (start + size) (h.vaddr + h.filesz)

-- so many addresses from start on lie in the bytes of one segment; a range of none is readable anywhere
abbrev pub readable : List Header → ℕ → ℕ → Bool
readable headers start size = size == 0 || list_any (covers start size) headers

-- where the file has the first of these bytes, which a range of none has at its begin
unfoldable pub file_offset : List Header → ℕ → ℕ → Option ℕ
file_offset headers start size =
    if size == 0 then Some 0 else option_map (λ h. h.offset + (start - h.vaddr)) (find (covers start size) headers)

-- these bytes, where the range is readable
unfoldable pub file_bytes : List ℕ → List Header → ℕ → ℕ → Option (List ℕ)
file_bytes bytes headers start size = option_map (λ at. slice_range bytes at (at + size)) (file_offset headers start size)

-- the bytes of the file from an address on, up to the last of its segment; none where no segment has the address
unfoldable pub bytes_from : List ℕ → List Header → ℕ → List ℕ
bytes_from bytes headers start =
    option_map_or (λ h. slice_range bytes (h.offset + (start - h.vaddr)) (h.offset + h.filesz)) (find (covers start 1) headers) []
