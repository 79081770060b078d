-- The bytes of the first segment, from a part on.
use Rattle.std.proofs.Common.{◌≡◌, ap, sym, subst, refl, ℕ, ◌+◌, ◌-◌, ◌<◌, ◌≤◌, ◌==◌, ◌&&◌, Bool, true, false, nat_le, nat_lt, if◌then◌else◌, List, [], ◌∷◌, length, find, fold, slice_range, arith, ltb-true}
use Rattle.std.specs.Prelude.{Some, ⊤}
use Rattle.std.specs.Option.{option_map_or}
use Rattle.std.proofs.lemmas.Bool.{and_parts, le-leb, lt-ltb, ne_eqb}
use Rattle.ld_base.specs.declared.parts.Header.{Header}
use Rattle.elf_head.specs.Readable.{bytes_from, covers}
use Rattle.asm_write.specs.declared.contents.Contents.{Contents}
use Rattle.asm_write.specs.declared.entries.SegmentKind.TheVariants as segments
use Rattle.asm_write.specs.declared.part.Part.{Part}
use Rattle.asm_write.specs.declared.part.Part.TheVariants as parts
use Rattle.asm_write.specs.declared.starts.Starts.{Starts}
use Rattle.asm_write.specs.Parts.{number_of}
use Rattle.asm_write.specs.Records.{end_behind, file_end, header_of}
use Rattle.asm_write.specs.Sizes.{segments_of}
use Rattle.asm_write.specs.Starts.{size_in, start_in, starts_of, wrapped}
use Rattle.asm_laws.specs.ElfWritten.Standing.{EndsInside}
use Rattle.asm_laws.specs.ElfRecords.Standing.{StandAt}
use Rattle.asm_laws.specs.ElfRecords.Lemmas.Standing.{cut_stands}
use Rattle.asm_laws.specs.ElfSpelled.Said.{said_head}
use Rattle.asm_laws.specs.ElfSpelled.Lemmas.Starting.{Apart}

-- The end of a segment is behind each of its parts

abbrev AllBehind : Starts → ℕ → List Part → Type 0
AllBehind starts bound [] = ⊤
AllBehind starts bound (part ∷ rest) = (bound ≤ start_in starts part) × AllBehind starts bound rest

kept : (starts : Starts) → EndsInside starts → (bound end : ℕ) (part : Part) → bound ≤ end → bound ≤ start_in starts part → bound ≤ end_behind starts end part
kept starts ends bound end part below behind =
    let P : Bool → Type 0 = λ none. bound ≤ (if none then end else wrapped (start_in starts part + size_in starts part)) in
    let fits = ends part in
    let cases : (none : Bool) → P none = λ none. elim none as P [ true ↦ below | false ↦ omega (arith, behind, fits) ] in
    cases (size_in starts part == 0)

all_kept : (starts : Starts) → EndsInside starts → (bound end : ℕ) (all : List Part) → bound ≤ end → AllBehind starts bound all → bound ≤ fold (end_behind starts) end all
all_kept starts ends bound end [] below behind = below
all_kept starts ends bound end (part ∷ rest) below (here, behind) = all_kept starts ends bound (end_behind starts end part) rest (kept starts ends bound end part below here) behind

reached : (starts : Starts) → EndsInside starts → (end : ℕ) (part : Part) (rest : List Part) → 0 < size_in starts part → AllBehind starts (start_in starts part + size_in starts part) rest
    → start_in starts part + size_in starts part ≤ fold (end_behind starts) end (part ∷ rest)
reached starts ends end part rest some behind =
    let bound = start_in starts part + size_in starts part in
    let no : (size_in starts part == 0) ≡ false = ne_eqb (size_in starts part) 0 (λ is. absurd (omega (arith, is, some))) in
    let here : end_behind starts end part ≡ wrapped bound = ap (λ none. if none then end else wrapped bound) no in
    let fits = ends part in
    let first : bound ≤ end_behind starts end part = omega (arith, here, fits) in
    all_kept starts ends bound (end_behind starts end part) rest first behind

-- parts of higher numbers
abbrev are_later : ℕ → List Part → Bool
are_later number [] = true
are_later number (part ∷ rest) = nat_lt number (number_of part) && are_later number rest

module _ (apart : Apart) (contents : Contents) (ends : EndsInside (starts_of contents)) where
  later_behind : (part : Part) (all : List Part) → are_later (number_of part) all ≡ true → AllBehind (starts_of contents) (start_in (starts_of contents) part + size_in (starts_of contents) part) all
  later_behind part [] later = tt
  later_behind part (other ∷ all) later =
      let (first, rest) = and_parts (nat_lt (number_of part) (number_of other)) (are_later (number_of part) all) later in
      (apart contents part other (ltb-true (number_of part) (number_of other) first), later_behind part all rest)

  abbrev read_end : ℕ
  read_end = file_end (starts_of contents) segments.Read

  pub gnu_inside : 0 < size_in (starts_of contents) parts.GnuHash → start_in (starts_of contents) parts.GnuHash + size_in (starts_of contents) parts.GnuHash ≤ read_end
  gnu_inside some =
      let rest = parts.SysvHash ∷ parts.Symbols ∷ parts.Strings ∷ parts.Versym ∷ parts.Verdef ∷ parts.Verneed ∷ parts.Rela ∷ parts.Relr ∷ parts.Jmprel ∷ parts.Rodata ∷ [] in
      let starts = starts_of contents in
      reached starts ends (end_behind starts (start_in starts parts.Head) parts.Head) parts.GnuHash rest some (later_behind parts.GnuHash rest refl)

  pub sysv_inside : 0 < size_in (starts_of contents) parts.SysvHash → start_in (starts_of contents) parts.SysvHash + size_in (starts_of contents) parts.SysvHash ≤ read_end
  sysv_inside some =
      let rest = parts.Symbols ∷ parts.Strings ∷ parts.Versym ∷ parts.Verdef ∷ parts.Verneed ∷ parts.Rela ∷ parts.Relr ∷ parts.Jmprel ∷ parts.Rodata ∷ [] in
      let starts = starts_of contents in
      reached starts ends (end_behind starts (end_behind starts (start_in starts parts.Head) parts.Head) parts.GnuHash) parts.SysvHash rest some (later_behind parts.SysvHash rest refl)

  -- the first header covers what stands before that end
  abbrev first_header : Header
  first_header = header_of (starts_of contents) contents.sections segments.Read

  covered : (start : ℕ) → start_in (starts_of contents) parts.Head ≤ start → start < read_end → covers start 1 first_header ≡ true
  unfolding header_of
  covered start from before =
      let head = start_in (starts_of contents) parts.Head in
      let least : nat_le head start ≡ true = le-leb head start from in
      let most : nat_le (start + 1) (head + (read_end - head)) ≡ true = le-leb (start + 1) (head + (read_end - head)) (omega (arith, from, before)) in
      let loaded : nat_lt 0 (read_end - head) ≡ true = lt-ltb 0 (read_end - head) (omega (arith, from, before)) in
      rw (loaded, least, most) refl

  found : (start : ℕ) → start_in (starts_of contents) parts.Head ≤ start → start < read_end → find (covers start 1) (said_head contents).headers ≡ Some first_header
  unfolding segments_of
  found start from before = rw (covered start from before) refl

  pub bytes_stand : (bytes : List ℕ) (start : ℕ) (part : List ℕ) → start_in (starts_of contents) parts.Head ≤ start → 0 < length part → start + length part ≤ read_end
      → StandAt bytes (start - start_in (starts_of contents) parts.Head) part → StandAt (bytes_from bytes (said_head contents).headers start) 0 part
  unfolding bytes_from header_of
  bytes_stand bytes start part from some inside stand =
      let head = start_in (starts_of contents) parts.Head in
      let cut : Header → List ℕ = λ h. slice_range bytes (h.offset + (start - h.vaddr)) (h.offset + h.filesz) in
      let is = ap (λ o. option_map_or cut o []) (found start from (omega (arith, some, inside))) in
      let place : start - head ≡ head - head + (start - head) = omega arith in
      let here = subst (λ n. StandAt bytes n part) place stand in
      let room : head - head + (start - head) + length part ≤ head - head + (read_end - head) = omega (arith, from, inside) in
      subst (λ (all : List ℕ). StandAt all 0 part) (sym is) (cut_stands bytes part (head - head + (start - head)) (head - head + (read_end - head)) here room)
