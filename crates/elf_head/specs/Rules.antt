-- The ELF header (gABI, "ELF Header"; psABI, "File Header"), and the first nine rules of acceptance.
use Rattle.std.specs.Prelude.{ℕ, ◌+◌, ◌*◌, Bool, not, ◌&&◌, ◌||◌, ◌==◌, nat_lt, Option, Result, Ok, Err, if◌then◌else◌, nat_eq, bit_and, List, [], ◌∷◌, ◌++◌}
use Rattle.std.specs.Prelude.{length, slice_index}
use Rattle.std.specs.List.{starts_with}
use Rattle.std.specs.Option.{option_map_or}
use Rattle.ld_base.specs.Field.{field}
use Rattle.ld_base.specs.declared.fault.NotAccepted.{NotAccepted}
use Rattle.ld_base.specs.declared.object.Kind.{Kind}
use Rattle.ld_base.specs.declared.object.Kind.TheVariants.{Exec, Dyn}
use Rattle.ld_base.specs.declared.parts.Head.{Head}
use Rattle.elf_head.specs.AcceptancePart.Broken.{broken_if, first_broken}
use Rattle.elf_head.specs.Header.{headers_of, table_start, entry_size, header_count}
use Rattle.elf_head.specs.Segments.{bad_segment}

-- rule 1: too few bytes for an ELF header
abbrev pub is_too_short : List ℕ → Bool
is_too_short bytes = nat_lt (length bytes) 64

-- rule 2: not 0x7f, E, L, F
abbrev pub is_not_elf : List ℕ → Bool
is_not_elf bytes = not (starts_with nat_eq bytes (127 ∷ 69 ∷ 76 ∷ 70 ∷ []))

-- rule 3: not ELFCLASS64, ELFDATA2LSB and twice EV_CURRENT
abbrev pub is_not_class64_little : List ℕ → Bool
is_not_class64_little bytes =
    not (slice_index bytes 4 == 2 && slice_index bytes 5 == 1 && slice_index bytes 6 == 1 && field 4 bytes 20 == 1)

-- rule 4: not EM_RISCV
abbrev pub is_not_riscv : List ℕ → Bool
is_not_riscv bytes = not (field 2 bytes 18 == 243)

-- rule 5: neither ET_EXEC nor ET_DYN
abbrev pub is_not_linked : List ℕ → Bool
is_not_linked bytes = not (field 2 bytes 16 == 2 || field 2 bytes 16 == 3)

-- rule 6: EF_RISCV_RVC, a float ABI or EF_RISCV_RVE
abbrev pub needs_extension : List ℕ → Bool
needs_extension bytes = not (bit_and (field 4 bytes 48) 15 == 0)

-- rule 7: no table of 1 to 128 program headers of 56 bytes that the file holds
abbrev pub has_bad_program_headers : List ℕ → Bool
has_bad_program_headers bytes =
    not (entry_size bytes == 56) || header_count bytes == 0 || nat_lt 128 (header_count bytes)
    || nat_lt (length bytes) (table_start bytes + 56 * header_count bytes)

-- rule 9: more than 8 MiB
abbrev pub is_too_big : List ℕ → Bool
is_too_big bytes = nat_lt 8_388_608 (length bytes)

-- the rules 1 to 7, on the ELF header alone
abbrev pub header_rules : List ℕ → List (Option ℕ)
header_rules bytes =
    broken_if (is_too_short bytes)
    ∷ broken_if (is_not_elf bytes)
    ∷ broken_if (is_not_class64_little bytes)
    ∷ broken_if (is_not_riscv bytes)
    ∷ broken_if (is_not_linked bytes)
    ∷ broken_if (needs_extension bytes)
    ∷ broken_if (has_bad_program_headers bytes)
    ∷ []

-- the rules 8 and 9
abbrev pub file_rules : List ℕ → List (Option ℕ)
file_rules bytes = bad_segment (length bytes) (headers_of bytes) ∷ broken_if (is_too_big bytes) ∷ []

-- the first of the rules 1 to 9 that is broken, with its number
unfoldable pub head_broken : List ℕ → Option NotAccepted
head_broken bytes = first_broken 1 (header_rules bytes ++ file_rules bytes)

-- ET_EXEC, or else ET_DYN
abbrev pub kind_of : List ℕ → Kind
kind_of bytes = if field 2 bytes 16 == 2 then Exec else Dyn

-- what the ELF header and the program headers say, whatever the rules
unfoldable pub head_of : List ℕ → Head
head_of bytes = record { kind = kind_of bytes; entry = field 8 bytes 24; headers = headers_of bytes }

-- the head of a file that breaks none of the rules, or else the first rule that it breaks
unfoldable pub head_verdict : List ℕ → Result Head NotAccepted
head_verdict bytes = option_map_or Err (head_broken bytes) (Ok (head_of bytes))
