-- An object that a file spells is one of which an image can be made.
use Rattle.std.proofs.Common.{◌≡◌, ◌≢◌, ◌∙◌, ap, sym, subst, refl, ℕ, zero, suc, ◌+◌, ◌-◌, ◌*◌, ◌/◌, ◌%◌, ◌<◌, ◌≤◌, ◌==◌, ◌||◌, Bool, true, false, not, List, [], ◌∷◌, length, map, drop, Some, arith, inl, inr}
use Rattle.std.specs.Prelude.{filter, IsTrue, if◌then◌else◌}
use Rattle.std.specs.List.{enumerate_from, slice_get, All, AllPairs}
use Rattle.std.specs.Option.{option_map_or}
use Rattle.std.proofs.lemmas.Bool.{cases_lt, eqb-true}
use Rattle.std.proofs.lemmas.Bool.Decides.{nat_tests}
use Rattle.std.proofs.lemmas.List.{length-take}
use Rattle.std.proofs.lemmas.Option.{get_or_from_slice_get, slice_get_within}
use Rattle.ld_base.specs.declared.object.Object.{Object}
use Rattle.ld_base.specs.declared.object.Reloc.{Reloc}
use Rattle.ld_base.specs.declared.object.Segment.{Segment}
use Rattle.ld_base.specs.declared.object.Span.{Span}
use Rattle.ld_base.specs.declared.object.Symbol.{Symbol}
use Rattle.ld_base.specs.declared.parts.DynParts.{DynParts}
use Rattle.ld_base.specs.declared.parts.Head.{Head}
use Rattle.ld_base.specs.declared.parts.Header.{Header}
use Rattle.elf_head.specs.Accepted.{AllFit, Fits}
use Rattle.elf_head.specs.Header.{is_loaded}
use Rattle.elf_head.specs.Verdict.{SpellsHead}
use Rattle.elf_dynamic.specs.Breaks.{IsSlotTable}
use Rattle.elf_dynamic.specs.Keeps.{all_named, Keeps}
use Rattle.elf_dynamic.specs.Named.{size_of, slot_ranges}
use Rattle.elf_dynamic.specs.Named.{named_by as range_of}
use Rattle.elf_dynamic.specs.Ranges.{LiesIn, Share}
use Rattle.elf_dynamic.specs.Ranges.{is_writable as writable_header, IsPlace as HeaderPlace, IsWritable as HeaderWritable}
use Rattle.elf_object.specs.Object.{with_version, with_versions}
use Rattle.elf_object.specs.Segments.{segment_at, segments_of}
use Rattle.seg_image.specs.Accepted.{doubleword, named, named_by, symbol_size, Accepted, AreApart, IsPlace, IsReloc, IsSegment, IsTable, IsWritable}
use Rattle.seg_image.specs.Pages.{end_of, start_of}
use Rattle.history_journal.proofs.AcceptedImage.Heads.{ascending, some_loaded}
use Rattle.history_journal.proofs.AcceptedImage.Lists.{all_of, any_get, filter_get, get_filter, get_map, map_get, pair_filter, pairs_of}

-- ---- symbols

-- versions change no size
size_same : (versym : List ℕ) (symbols : List Symbol) (n i : ℕ) → option_map_or (λ (s : Symbol). s.size) (slice_get (map (with_version versym) (enumerate_from n symbols)) i) 0 ≡ size_of symbols i
size_same versym [] n i = refl
size_same versym (s ∷ symbols) n zero = refl
size_same versym (s ∷ symbols) n (suc i) = size_same versym symbols (n + 1) i

-- ---- segments

-- the pages of a segment end where those of the next one begin, or before
pages_apart : (v m w : ℕ) → 0 < m → (v + m - 1) / 4096 < w / 4096 → (v + m + (4096 - 1)) / 4096 * 4096 ≤ w / 4096 * 4096
pages_apart v m w some below = omega arith

module _ (bytes : List ℕ) (head : Head) (o : Object) (is_head : SpellsHead bytes head) (fit : AllFit (length bytes) head.headers)
    (segments : o.segments ≡ segments_of bytes head.headers) where
  loaded_size : (h : Header) → is_loaded h ≡ true → 0 < h.memsz
  loaded_size h loaded = grind (arith, nat_tests)

  pub fits : (k : ℕ) (h : Header) → slice_get head.headers k ≡ Some h → is_loaded h ≡ true → Fits (length bytes) h
  fits k h is loaded =
      let within = slice_get_within head.headers k h is in
      let own = get_or_from_slice_get head.headers k h h is in
      subst (Fits (length bytes)) own (fit k h within (rw own loaded))

  -- the segment of an index is that of a mapped header
  from_header : (k : ℕ) (g : Segment) → slice_get o.segments k ≡ Some g → (h : Header) × ((i : ℕ) × (slice_get head.headers i ≡ Some h) × (is_loaded h ≡ true)) × (segment_at bytes h ≡ g)
  unfolding segments_of
  from_header k g is =
      let (h, at, same) = get_map (segment_at bytes) (filter is_loaded head.headers) k g (rw segments at is) in
      (h, get_filter is_loaded head.headers h k at, same)

  pub to_segment : (k : ℕ) (h : Header) → slice_get head.headers k ≡ Some h → is_loaded h ≡ true → (i : ℕ) × (slice_get o.segments i ≡ Some (segment_at bytes h))
  unfolding segments_of
  to_segment k h is loaded = let (i, at) = filter_get is_loaded head.headers h k is loaded in (i, rw segments (map_get (segment_at bytes) (filter is_loaded head.headers) i h at))

  its_bytes : (h : Header) → Fits (length bytes) h → length (segment_at bytes h).bytes ≤ h.memsz
  unfolding segment_at
  its_bytes h f = let memory = f.memory in let size : h.offset + h.filesz - h.offset ≡ h.filesz = omega arith in rw size (omega (arith, length-take h.filesz (drop h.offset bytes)))

  module _ (closed : (i : ℕ) (h : Header) → slice_get head.headers i ≡ Some h → IsTrue (is_loaded h) → IsTrue (writable_header h) → IsTrue (h.flags % 2 == 1) → ⊥) where
    its_segment : (h : Header) (i : ℕ) → slice_get head.headers i ≡ Some h → is_loaded h ≡ true → IsSegment (segment_at bytes h)
    unfolding segment_at
    its_segment h i is loaded =
        let f = fits i h is loaded in record {
          memory = loaded_size h loaded;
          low = f.low;
          bytes = its_bytes h f;
          closed = λ writable executable. closed i h is loaded writable executable;
        }

    pub all_segments : All IsSegment o.segments
    all_segments = all_of IsSegment o.segments (λ k g is. let (h, (i, at, loaded), same) = from_header k g is in subst IsSegment same (its_segment h i at loaded))

  pub some_segment : 0 < length o.segments
  some_segment =
      let (h, (k, is, loaded)) = any_get is_loaded head.headers (some_loaded bytes head is_head) in
      let (i, at) = to_segment k h is loaded in
      let within = slice_get_within o.segments i (segment_at bytes h) at in
      omega arith

  pub ordered : AllPairs (λ g h. end_of g ≤ start_of h) o.segments
  unfolding segments_of segment_at
  ordered = pairs_of (λ g h. end_of g ≤ start_of h) o.segments (λ i j g h below one two.
      let (a, at_a, same_a) = get_map (segment_at bytes) (filter is_loaded head.headers) i g (rw segments at one) in
      let (b, at_b, same_b) = get_map (segment_at bytes) (filter is_loaded head.headers) j h (rw segments at two) in
      let (m, n, less, is_a, is_b, loaded_a, loaded_b) = pair_filter is_loaded head.headers a b i j below at_a at_b in
      let apart = ascending bytes head is_head m n a b less is_a is_b loaded_a loaded_b in
      rw (← same_a, ← same_b) (pages_apart a.vaddr a.memsz b.vaddr (loaded_size a loaded_a) apart))

  -- ---- ranges

  -- a part of a range that lies in one writable segment
  lies : (s t : Span) → s.start ≤ t.start → t.start + t.size ≤ s.start + s.size → LiesIn head.headers writable_header s → IsWritable o t
  unfolding segment_at
  lies s t low high l =
      let (i, at) = to_segment l.index l.segment l.is l.mapped in
      let from = l.low in
      let to = l.high in
      record { segment = segment_at bytes l.segment; at = i; is = at; writable = l.flagged; low = omega arith; high = omega arith }

  writable : (s t : Span) → s.start ≤ t.start → t.start + t.size ≤ s.start + s.size → 0 < s.size → HeaderWritable head.headers s → IsWritable o t
  writable s t low high some (inl none) = absurd (omega arith)
  writable s t low high some (inr l) = lies s t low high l

  its_place : (v : ℕ) → HeaderPlace head.headers v → IsPlace o v
  its_place v p = record { aligned = p.aligned; writable = writable (doubleword v) (doubleword v) (omega arith) (omega arith) (omega arith) p.writable }

  -- ---- relocations

  module _ (parts : DynParts) (kept : Keeps bytes head.headers parts) (versym : List ℕ) (symbols : o.symbols ≡ with_versions parts.symbols versym)
      (relocs : o.relocs ≡ parts.relocs) (packed : o.relr ≡ parts.relr) (slots : o.plt_relocs ≡ parts.plt_relocs) (pltgot : o.pltgot ≡ parts.pltgot) where
    size_is : (r : Reloc) → symbol_size o r ≡ size_of parts.symbols r.symbol
    unfolding with_versions
    size_is r = rw symbols (size_same versym parts.symbols 0 r.symbol)

    range_same : (r : Reloc) → named_by o r ≡ range_of parts.symbols r
    range_same r = rw size_is (by_kind (r.kind == 0) (r.kind == 4))
      where
        by_kind : (a b : Bool) → (if a then (let s : Span = record { start = r.place; size = 0 } in s) else if b then record { start = r.place; size = size_of parts.symbols r.symbol } else doubleword r.place)
            ≡ record { start = r.place; size = if a then 0 else if b then size_of parts.symbols r.symbol else 8 }
        by_kind true b = refl
        by_kind false true = refl
        by_kind false false = refl

    ranges_same : (rs : List Reloc) → map (named_by o) rs ≡ map (range_of parts.symbols) rs
    ranges_same [] = refl
    ranges_same (r ∷ rs) = ap (λ s. s ∷ map (named_by o) rs) (range_same r) ∙ ap (λ ss. range_of parts.symbols r ∷ ss) (ranges_same rs)

    slots_same : (rs : List Reloc) → ((i : ℕ) (r : Reloc) → slice_get rs i ≡ Some r → r.kind ≡ 5) → map (λ (r : Reloc). doubleword r.place) rs ≡ slot_ranges parts.symbols rs
    slots_same [] five = refl
    slots_same (r ∷ rs) five =
        let own : doubleword r.place ≡ range_of parts.symbols r = rw (five 0 r refl) refl in
        ap (λ s. s ∷ map (λ (x : Reloc). doubleword x.place) rs) own ∙ ap (λ ss. range_of parts.symbols r ∷ ss) (slots_same rs (λ i x is. five (suc i) x is))

    named_same : named o ≡ all_named parts
    unfolding named
    named_same =
        rw (relocs, packed, slots, ranges_same, slots_same parts.plt_relocs (λ i r is. (kept.slots i r is).type))
        refl

    touch : (a b : Span) → (Share a b → ⊥) → AreApart a b
    touch a b none a_some b_some one two =
        elim (cases_lt a.start b.start) [
          | inl below ↦ none (record { byte = b.start; first = (omega arith, omega arith); second = (omega arith, omega arith) })
          | inr above ↦ none (record { byte = a.start; first = (omega arith, omega arith); second = (omega arith, omega arith) })
        ]

    its_reloc : (k : ℕ) (r : Reloc) → slice_get o.relocs k ≡ Some r → IsReloc o r
    its_reloc k r is =
        let own = kept.relocs k r (rw relocs at is) in record {
          place = λ test. its_place r.place (own.place (λ none. kind_not r.kind none test) (λ four. kind_not_four r.kind four test));
          copy = λ test some. copied own.copy (eqb-true r.kind 4 test) some;
        }
      where
        kind_not : (n : ℕ) → n ≡ 0 → not (n == 0 || n == 4) ≡ true → ⊥
        kind_not n same test = absurd (let fails : not (n == 0 || n == 4) ≡ false = rw same refl in cc)

        kind_not_four : (n : ℕ) → n ≡ 4 → not (n == 0 || n == 4) ≡ true → ⊥
        kind_not_four n same test = absurd (let fails : not (n == 0 || n == 4) ≡ false = rw same refl in cc)

        copied : (r.kind ≡ 4 → (r.symbol ≢ 0) × HeaderWritable head.headers (range_of parts.symbols r)) → r.kind ≡ 4 → 0 < symbol_size o r → IsWritable o (named_by o r)
        copied copy four some =
            let size : (range_of parts.symbols r).size ≡ symbol_size o r = rw four (sym (size_is r)) in
            rw range_same (writable (range_of parts.symbols r) (range_of parts.symbols r) (omega arith) (omega arith) (omega (arith, size)) (copy four).1)

    its_table : (start : ℕ) → IsSlotTable head.headers (all_named parts) start → IsTable o start
    its_table start t =
        let aligned = t.aligned in
        let head_span : Span = record { start = start; size = 16 } in
        record {
          first = record { aligned = t.aligned; writable = writable (record { start = start; size = 16 }) (doubleword start) (omega arith) (omega arith) (omega arith) t.writable };
          second = record { aligned = omega arith; writable = writable (record { start = start; size = 16 }) (doubleword (start + 8)) (omega arith) (omega arith) (omega arith) t.writable };
          apart = rw named_same (all_of (AreApart (record { start = start; size = 16 })) (all_named parts) (λ k s is. touch (record { start = start; size = 16 }) s (t.free k s is)));
        }

    pub is_accepted : Accepted o
    is_accepted = record {
      some = some_segment;
      segments = all_segments kept.closed;
      ordered = ordered;
      relocs = all_of (IsReloc o) o.relocs its_reloc;
      packed = all_of (IsPlace o) o.relr (λ k v is. its_place v (kept.packed k v (rw packed at is)));
      slots = all_of (λ r. IsPlace o r.place) o.plt_relocs (λ k r is. its_place r.place (kept.slots k r (rw slots at is)).place);
      apart = rw named_same (pairs_of AreApart (all_named parts) (λ i j a b below one two. touch a b (kept.apart i j a b below one two)));
      table = λ some. (let (start, at, t) = kept.table (rw slots at some) in (start, pltgot ∙ at, its_table start t));
    }
