-- What it is to be the head of a file, and to be refused: as relations.
use Rattle.std.specs.Prelude.{◌≡◌, ◌⊎◌, ℕ, ◌+◌, ◌*◌, ◌<◌, IsTrue, Some, true, false, List, length}
use Rattle.std.specs.List.{slice_get, list_any}
use Rattle.ld_base.specs.Field.{field}
use Rattle.ld_base.specs.declared.fault.NotAccepted.{NotAccepted}
use Rattle.ld_base.specs.declared.object.Kind.TheVariants.{Exec, Dyn}
use Rattle.ld_base.specs.declared.parts.Head.{Head}
use Rattle.ld_base.specs.declared.parts.Header.{Header}
use Rattle.elf_head.specs.AcceptancePart.First.{IsFirstBroken, NoneBroken}
use Rattle.elf_head.specs.Header.{header_at, headers_of, header_count, is_loaded, table_start}
use Rattle.elf_head.specs.Rules.{is_too_short, is_not_elf, is_not_class64_little, is_not_riscv, is_not_linked, needs_extension, has_bad_program_headers}
use Rattle.elf_head.specs.Rules.{is_too_big}
use Rattle.elf_head.specs.Segments.{is_bad_at}

-- this header is bad, or none is and none is mapped: then k is their number. No header before k is bad
pub record IsFirstBad (size : ℕ) (headers : List Header) (k : ℕ) : Type 0 where
  pub bad : (is_bad_at size headers k ≡ true) ⊎ ((k ≡ length headers) × (list_any is_loaded headers ≡ false))
  pub before : (j : ℕ) → j < k → is_bad_at size headers j ≡ false

-- the bytes break the rule with this number
pub data Breaks (bytes : List ℕ) : ℕ → ℕ → Type 0 where
  too_short : IsTrue (is_too_short bytes) → Breaks bytes 1 0
  not_elf : IsTrue (is_not_elf bytes) → Breaks bytes 2 0
  not_class64_little : IsTrue (is_not_class64_little bytes) → Breaks bytes 3 0
  not_riscv : IsTrue (is_not_riscv bytes) → Breaks bytes 4 0
  not_linked : IsTrue (is_not_linked bytes) → Breaks bytes 5 0
  needs_an_extension : IsTrue (needs_extension bytes) → Breaks bytes 6 0
  bad_program_headers : IsTrue (has_bad_program_headers bytes) → Breaks bytes 7 0
  bad_segment_at : (k : ℕ) → IsFirstBad (length bytes) (headers_of bytes) k → Breaks bytes 8 k
  too_big : IsTrue (is_too_big bytes) → Breaks bytes 9 0

-- no rule is broken, and each field of the head stands at its place
pub record SpellsHead (bytes : List ℕ) (head : Head) : Type 0 where
  pub kept : NoneBroken (Breaks bytes)
  pub kind : ((field 2 bytes 16 ≡ 2) × (head.kind ≡ Exec)) ⊎ ((field 2 bytes 16 ≡ 3) × (head.kind ≡ Dyn))
  pub entry : head.entry ≡ field 8 bytes 24
  pub count : length head.headers ≡ header_count bytes
  pub headers : (i : ℕ) → i < header_count bytes → slice_get head.headers i ≡ Some (header_at bytes (table_start bytes + 56 * i))

-- the rule is broken with this number, and no rule before it is broken
abbrev pub BreaksFirst : List ℕ → NotAccepted → Type 0
BreaksFirst bytes fault = IsFirstBroken (Breaks bytes) fault
