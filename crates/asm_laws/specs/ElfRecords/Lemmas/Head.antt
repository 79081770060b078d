-- The ELF header.
use Rattle.std.proofs.Common.{◌≡◌, ◌∙◌, ap, refl, ℕ, ◌^◌, ◌<◌, false, List, ◌++◌, arith, length, drop, slice_index}
use Rattle.ld_base.specs.Field.{field}
use Rattle.ld_base.specs.declared.object.Kind.{Kind}
use Rattle.ld_base.specs.declared.object.Kind.TheVariants.{Exec, Dyn}
use Rattle.elf_head.specs.Rules.{is_not_elf, is_not_linked, kind_of}
use Rattle.asm_write.specs.declared.field.Field.TheVariants.{Half, Word, Doubleword}
use Rattle.asm_write.specs.Fields.{record_bytes}
use Rattle.asm_write.specs.Records.{type_of, head_fields}
use Rattle.asm_laws.specs.ElfRecords.Reads.{ReadsHead}
use Rattle.asm_laws.specs.ElfRecords.Standing.{StandAt}
use Rattle.asm_laws.specs.ElfRecords.Lemmas.Fields.{one_read}
use Rattle.asm_laws.specs.ElfRecords.Lemmas.Standing.{begun, field_read}

-- the bytes of identification, whatever stands behind the header
marks : (kind : Kind) (entry headers : ℕ) (rest : List ℕ) →
    (is_not_elf (record_bytes (head_fields kind entry headers) ++ rest) ≡ false)
    × (slice_index (record_bytes (head_fields kind entry headers) ++ rest) 4 ≡ 2)
    × (slice_index (record_bytes (head_fields kind entry headers) ++ rest) 5 ≡ 1)
    × (slice_index (record_bytes (head_fields kind entry headers) ++ rest) 6 ≡ 1)
unfolding record_bytes head_fields
marks kind entry headers rest = (refl, refl, refl, refl)

kind_read : (bytes : List ℕ) (kind : Kind) → field 2 bytes 16 ≡ type_of kind → (is_not_linked bytes ≡ false) × (kind_of bytes ≡ kind)
kind_read bytes Exec is = (rw is refl, rw is refl)
kind_read bytes Dyn is = (rw is refl, rw is refl)

type_fits : (kind : Kind) → type_of kind < 2 ^ 16
type_fits Exec = omega arith
type_fits Dyn = omega arith

pub head : (bytes : List ℕ) (kind : Kind) (entry headers : ℕ) → entry < 2 ^ 64 → headers < 2 ^ 16 → StandAt bytes 0 (record_bytes (head_fields kind entry headers))
    → ReadsHead bytes kind entry headers
unfolding field record_bytes head_fields
head bytes kind entry headers entry_fits count_fits stand =
    let part = record_bytes (head_fields kind entry headers) in
    let whole = begun bytes part stand in
    let mark = marks kind entry headers (drop (length part) bytes) in
    let elf : is_not_elf bytes ≡ false = ap (λ all. is_not_elf all) whole ∙ mark.0 in
    let class : slice_index bytes 4 ≡ 2 = ap (λ all. slice_index all 4) whole ∙ mark.1 in
    let order : slice_index bytes 5 ≡ 1 = ap (λ all. slice_index all 5) whole ∙ mark.2 in
    let version : slice_index bytes 6 ≡ 1 = ap (λ all. slice_index all 6) whole ∙ mark.3 in
    let type_is : field 2 bytes 16 ≡ type_of kind = field_read 2 bytes part 0 16 stand (omega arith) ∙ one_read (Half (type_of kind)) (type_fits kind) in
    let machine_is : field 2 bytes 18 ≡ 243 = field_read 2 bytes part 0 18 stand (omega arith) ∙ one_read (Half 243) (omega arith) in
    let version_is : field 4 bytes 20 ≡ 1 = field_read 4 bytes part 0 20 stand (omega arith) ∙ one_read (Word 1) (omega arith) in
    let entry_is : field 8 bytes 24 ≡ entry = field_read 8 bytes part 0 24 stand (omega arith) ∙ one_read (Doubleword entry) entry_fits in
    let start_is : field 8 bytes 32 ≡ 64 = field_read 8 bytes part 0 32 stand (omega arith) ∙ one_read (Doubleword 64) (omega arith) in
    let flags_is : field 4 bytes 48 ≡ 0 = field_read 4 bytes part 0 48 stand (omega arith) ∙ one_read (Word 0) (omega arith) in
    let size_is : field 2 bytes 54 ≡ 56 = field_read 2 bytes part 0 54 stand (omega arith) ∙ one_read (Half 56) (omega arith) in
    let count_is : field 2 bytes 56 ≡ headers = field_read 2 bytes part 0 56 stand (omega arith) ∙ one_read (Half headers) count_fits in
    let kinds = kind_read bytes kind type_is in
    record {
      elf = elf;
      class64_little = rw (class, order, version, version_is) refl;
      riscv = rw machine_is refl;
      linked = kinds.0;
      plain = rw flags_is refl;
      kind_is = kinds.1;
      entry_is = entry_is;
      start = start_is;
      size = size_is;
      count = count_is;
    }
