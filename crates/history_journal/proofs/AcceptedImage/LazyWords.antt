-- The word that a file has for a slot leads to code.
use Rattle.std.proofs.Common.{◌≡◌, ◌∙◌, ap, sym, subst, refl, ℕ, ◌+◌, ◌-◌, ◌*◌, ◌<◌, ◌≤◌, List, length, drop, Some, None, arith}
use Rattle.std.specs.Prelude.{◌&&◌, nat_le, nat_lt, Option, find, slice_index, slice_range}
use Rattle.std.specs.List.{slice_get, Contains}
use Rattle.std.specs.Option.{option_map, option_map_or}
use Rattle.std.proofs.lemmas.Bool.{cond-false, le-ltb, and_parts, leb-true}
use Rattle.std.proofs.lemmas.List.{get_or-drop, get_or-take}
use Rattle.std.proofs.lemmas.Option.{slice_get-get_or}
use Rattle.ld_base.specs.Field.{field}
use Rattle.ld_base.specs.declared.object.Object.{Object}
use Rattle.ld_base.specs.declared.object.Reloc.{Reloc}
use Rattle.ld_base.specs.declared.object.Segment.{Segment}
use Rattle.ld_base.specs.declared.parts.DynParts.{DynParts}
use Rattle.ld_base.specs.declared.parts.Head.{Head}
use Rattle.ld_base.specs.declared.parts.Header.{Header}
use Rattle.elf_head.specs.Accepted.{AllFit}
use Rattle.elf_head.specs.Header.{is_loaded}
use Rattle.elf_head.specs.Readable.{covers, file_bytes, file_offset}
use Rattle.elf_head.specs.Verdict.{SpellsHead}
use Rattle.elf_dynamic.specs.Breaks.{LeadsToCode}
use Rattle.elf_dynamic.specs.Keeps.{IsSlot, Keeps}
use Rattle.elf_object.specs.Segments.{segment_at as segment_of, segments_of}
use Rattle.seg_image.specs.Pages.{end_of, segment_at, start_of}
use Rattle.seg_image.specs.Words.{byte_in, file_byte, file_word, word_of}
use Rattle.history_state.specs.Accepted.{IsExecutable}
use Rattle.history_journal.proofs.AcceptedImage.Accepting.{fits, to_segment}
use Rattle.history_journal.proofs.AcceptedImage.Lists.{find_get, same_some, Passing}

pub element_at : (r : Reloc) (rs : List Reloc) → Contains rs r → (k : ℕ) × (slice_get rs k ≡ Some r)
element_at r rs (k, within, is) = (k, slice_get-get_or rs k r within ∙ ap Some is)

-- eight bytes make the number of their field
joined : (a b c d e f g h : ℕ)
    → a + b * 256 + c * 65536 + d * 16777216 + e * 4294967296 + f * 1099511627776 + g * 281474976710656 + h * 72057594037927936
    ≡ a + 256 * (b + 256 * (c + 256 * (d + 256 * (e + 256 * (f + 256 * (g + 256 * (h + 256 * 0)))))))
joined a b c d e f g h = omega arith

word_is : (byte : ℕ → ℕ) (v : ℕ) (part : List ℕ) → ((i : ℕ) → i < 8 → byte (v + i) ≡ slice_index part i) → word_of byte v ≡ field 8 part 0
unfolding word_of field
word_is byte v part same =
    rw (same 0 (omega arith), same 1 (omega arith), same 2 (omega arith), same 3 (omega arith), same 4 (omega arith), same 5 (omega arith), same 6 (omega arith), same 7 (omega arith))
    (joined _ _ _ _ _ _ _ _)

at_range : (bytes : List ℕ) (from to i : ℕ) → i < to - from → slice_index (slice_range bytes from to) i ≡ slice_index bytes (from + i)
at_range bytes from to i less = get_or-take (to - from) (drop from bytes) i 0 less ∙ get_or-drop from bytes i 0

-- the bytes that stand for a range are of one segment
abbrev StandsIn : List ℕ → List Header → ℕ → List ℕ → Type 0
StandsIn bytes headers place part =
    (h : Header) × Passing (covers place 8) headers h × (part ≡ slice_range bytes (h.offset + (place - h.vaddr)) (h.offset + (place - h.vaddr) + 8))

stands_in : (bytes : List ℕ) (headers : List Header) (place : ℕ) (part : List ℕ) → file_bytes bytes headers place 8 ≡ Some part → StandsIn bytes headers place part
unfolding file_bytes file_offset
stands_in bytes headers place part stands = by_found (find (covers place 8) headers) refl stands
  where
    by_found : (found : Option Header) → find (covers place 8) headers ≡ found
        → option_map (λ at. slice_range bytes at (at + 8)) (option_map (λ (h : Header). h.offset + (place - h.vaddr)) found) ≡ Some part → StandsIn bytes headers place part
    by_found None is e = absurd cc
    by_found (Some h) is e = (h, find_get (covers place 8) headers h is, sym (same_some e))

-- the byte that a segment has for an address of its file bytes
its_byte : (bytes : List ℕ) (h : Header) (v : ℕ) → h.vaddr ≤ v → v < h.vaddr + h.filesz → byte_in (segment_of bytes h) v ≡ slice_index bytes (h.offset + (v - h.vaddr))
unfolding segment_of
its_byte bytes h v low high =
    cond-false (nat_lt v h.vaddr) 0 (slice_index (segment_of bytes h).bytes (v - h.vaddr)) (le-ltb v h.vaddr low)
    ∙ at_range bytes h.offset (h.offset + h.filesz) (v - h.vaddr) (omega arith)

its_pages : (bytes : List ℕ) (h : Header) (v : ℕ) → h.vaddr ≤ v → v < h.vaddr + h.memsz → (start_of (segment_of bytes h) ≤ v) × (v < end_of (segment_of bytes h))
unfolding segment_of
its_pages bytes h v low high = (omega arith, omega arith)

module _ (bytes : List ℕ) (head : Head) (o : Object) (is_head : SpellsHead bytes head) (fit : AllFit (length bytes) head.headers)
    (segments : o.segments ≡ segments_of bytes head.headers)
    (one : (k : ℕ) (g : Segment) (v : ℕ) → slice_get o.segments k ≡ Some g → start_of g ≤ v → v < end_of g → segment_at o v ≡ Some g) where
  -- the object's word is that of the file
  word_stands : (place : ℕ) (part : List ℕ) → file_bytes bytes head.headers place 8 ≡ Some part → file_word o place ≡ field 8 part 0
  unfolding file_word file_byte
  word_stands place part stands =
      let (h, (k, is, covered), at) = stands_in bytes head.headers place part stands in
      let (begins, to) = and_parts (is_loaded h && nat_le h.vaddr place) (nat_le (place + 8) (h.vaddr + h.filesz)) covered in
      let (loaded, from) = and_parts (is_loaded h) (nat_le h.vaddr place) begins in
      let low = leb-true h.vaddr place from in
      let high = leb-true (place + 8) (h.vaddr + h.filesz) to in
      let memory = (fits bytes head o is_head fit segments k h is loaded).memory in
      let (i, there) = to_segment bytes head o is_head fit segments k h is loaded in
      word_is (λ v. option_map_or (λ g. byte_in g v) (segment_at o v) 0) place part (λ j small.
      let pages = its_pages bytes h (place + j) (omega arith) (omega arith) in
      let from_segment = ap (λ (s : Option Segment). option_map_or (λ (g : Segment). byte_in g (place + j)) s 0) (one i (segment_of bytes h) (place + j) there pages.0 pages.1) in
      let offset : h.offset + (place + j - h.vaddr) ≡ h.offset + (place - h.vaddr) + j = omega arith in
      from_segment ∙ its_byte bytes h (place + j) (omega arith) (omega arith) ∙ ap (slice_index bytes) offset
      ∙ sym (ap (λ (bs : List ℕ). slice_index bs j) at ∙ at_range bytes (h.offset + (place - h.vaddr)) (h.offset + (place - h.vaddr) + 8) j (omega arith)))

  leads : (place : ℕ) → LeadsToCode bytes head.headers place → IsExecutable o (file_word o place)
  unfolding segment_of
  leads place l =
      let code = l.code in
      let (i, there) = to_segment bytes head o is_head fit segments code.index code.segment code.is code.mapped in
      let low = code.low in
      let high = code.high in
      rw (word_stands place l.word l.stands) (record {
        inside = record { segment = segment_of bytes code.segment; at = i; is = there; low = low; high = omega arith };
        executable = code.flagged;
      })

  -- the slots by themselves
  pub are_slots : (parts : DynParts) → Keeps bytes head.headers parts → o.plt_relocs ≡ parts.plt_relocs → (r : Reloc) → Contains o.plt_relocs r → (r.kind ≡ 5) × IsExecutable o (file_word o r.place)
  are_slots parts kept slots r among = ((its_slot r among).type, leads r.place (its_slot r among).code)
    where
      its_slot : (r : Reloc) → Contains o.plt_relocs r → IsSlot bytes head.headers parts.symbols r
      its_slot r among =
          let (k, is) = element_at r parts.plt_relocs (subst (λ (rs : List Reloc). Contains rs r) slots among) in
          kept.slots k r is
