-- What follows for the tables that were read, rule by rule.
use Rattle.std.proofs.Common.{ℕ, ◌+◌, ◌/◌, ◌≤◌, ◌-◌, List, length, drop, arith, length-drop, Option, Some, None, ◌≡◌, ◌*◌, ◌<◌, ◌^◌, Bool, true, false}
use Rattle.std.proofs.Common.{inl, inr, ◌∷◌, Ok, Err}
use Rattle.std.specs.Prelude.{option_map, slice_range, IsTrue, if◌then◌else◌}
use Rattle.std.proofs.lemmas.List.{length-take}
use Rattle.ld_base.specs.declared.object.Span.{Span}
use Rattle.ld_base.specs.declared.parts.Header.{Header}
use Rattle.elf_head.specs.Readable.{file_bytes, covers, readable}
use Rattle.elf_head.specs.AcceptancePart.Lemmas.Tables.{length-table}
use Rattle.elf_head.specs.DynTable.Reloc.{reloc_at, relocs_of}
use Rattle.elf_dynamic.specs.Tables.{bytes_in}
use Rattle.ld_base.specs.declared.parts.HashTable.{HashTable}
use Rattle.ld_base.specs.declared.parts.Tag.{Tag}
use Rattle.std.specs.Option.{option_or, option_map_or}
use Rattle.std.proofs.lemmas.List.Folds.{Any-from_list_any, list_any-append}
use Rattle.elf_head.specs.Accepted.{AllFit, Fits}
use Rattle.elf_head.specs.Header.{is_loaded}
use Rattle.std.proofs.lemmas.Bool.{cases_lt}
use Rattle.elf_dynamic.specs.Rules.{bad_table, first_bad, lacks_symbols, table_checks}
use Rattle.elf_head.specs.DynTable.Tag.{value_of}
use Rattle.elf_head.specs.DynTable.TagNumbers.{dt_symtab}
use Rattle.ld_base.specs.declared.fault.ReadFault.{ReadFault}
use Rattle.elf_head.specs.AcceptancePart.Broken.{first_broken}
use Rattle.elf_head.specs.AcceptancePart.Gives.{Faults}
use Rattle.elf_dynamic.specs.Judged.{broken_at, FaultIs}

-- ---- how long the parts of a file may be

range_within : (bytes : List ℕ) (i j : ℕ) → length (slice_range bytes i j) ≤ length bytes
range_within bytes i j = omega (arith, length-take (j - i) (drop i bytes), length-drop i bytes)

pub short_part : (bytes : List ℕ) (headers : List Header) (span : Option Span) → length (bytes_in bytes headers span) ≤ length bytes
unfolding file_bytes
short_part bytes headers span = grind (arith, range_within)

-- and has no more relocations than bytes
pub few_relocs : (bytes : List ℕ) → length (relocs_of bytes) ≤ length bytes
unfolding relocs_of
few_relocs bytes = omega (arith, length-table (reloc_at bytes) 0 24 (length bytes / 24))

pub ruleset short_parts = (short_part, few_relocs)

-- ---- what follows for symbols that a file has

-- where no table is bad, no symbol lacks
last_good : (tables : Option ℕ) (lacks : Bool) → option_or tables (if lacks then Some dt_symtab else None) ≡ None → lacks ≡ false
last_good tables lacks e = grind arith

good_last : (headers : List Header) (tags : List Tag) (words : HashTable) (count : ℕ) → bad_table headers tags words count ≡ None
    → lacks_symbols headers tags count ≡ false
unfolding bad_table
good_last headers tags words count none = last_good (first_bad (table_checks headers tags words)) (lacks_symbols headers tags count) none

-- then all symbols are in the file
pub all_symbols : (headers : List Header) (tags : List Tag) (words : HashTable) (count : ℕ) → bad_table headers tags words count ≡ None
    → readable headers (value_of tags dt_symtab) (24 * count) ≡ true
all_symbols headers tags words count none = grind (arith, good_last headers tags words count none)

-- what an accepted file has bytes for lies in the first 4 GiB
end_of : (size start count : ℕ) (h : Header) → (IsTrue (is_loaded h) → Fits size h) → covers start count h ≡ true → start + count ≤ 2 ^ 32
end_of size start count h fits covered =
    let fit = fits (grind arith) in omega (arith, fit.memory, fit.low, (let ends : start + count ≤ h.vaddr + h.filesz = grind arith in ends))

low_readable : (size : ℕ) (headers : List Header) (start count : ℕ) → AllFit size headers → readable headers start count ≡ true → 0 < count
    → start + count ≤ 2 ^ 32
low_readable size headers start count fit can some =
    let at = Any-from_list_any (covers start count) headers (grind arith) in
    end_of size start count at.1 (rw at.3 at (fit at.0 at.1 at.2)) at.4

-- so there are few symbols
pub few_symbols : (size : ℕ) (headers : List Header) (tags : List Tag) (words : HashTable) (count : ℕ) → AllFit size headers
    → bad_table headers tags words count ≡ None → count < 2 ^ 32
few_symbols size headers tags words count fit none =
    elim (cases_lt 0 count) [
      | inl some ↦ (let end = low_readable size headers (value_of tags dt_symtab) (24 * count) fit (all_symbols headers tags words count none)
          (omega arith) in omega arith)
      | inr none ↦ omega arith
    ]

-- ---- the rules from 11 on, one after the other

-- what is found first of two counts for both
pub first_fault : (o p : Option ℕ) (fault : ReadFault) → FaultIs (option_map (broken_at 14) o) fault → FaultIs (option_map (broken_at 14) (option_or o p)) fault
first_fault o p fault e = grind arith

pub later_fault : (o p : Option ℕ) (n : ℕ) (fault : ReadFault) → o ≡ None → FaultIs (option_map (λ k. broken_at 14 (n + k)) p) fault
    → FaultIs (option_map (broken_at 14) (option_or o (option_map (λ k. n + k) p))) fault
later_fault o p n fault none e = grind arith

-- the first rule, and the others
module _ {P : Type 0} (bad : Option ℕ) (rest : List (Option ℕ)) (parts : P) where
  pub table_fault : (fault : ReadFault) → FaultIs (option_map (broken_at 11) bad) fault
      → Faults fault (option_map_or Err (first_broken 11 (bad ∷ rest)) (Ok parts))
  table_fault fault e = grind arith

  pub rest_fault : (fault : ReadFault) → bad ≡ None → FaultIs (first_broken 12 rest) fault
      → Faults fault (option_map_or Err (first_broken 11 (bad ∷ rest)) (Ok parts))
  rest_fault fault none e = grind arith

-- ---- what holds of the elements of two lists, one after the other

-- whether one passes of both lists
pub ruleset any_of_both = (list_any-append)
