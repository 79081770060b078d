-- What the rules of acceptance say of an object's thread-local storage, its arrays of functions and its copies.
use Rattle.std.proofs.Common.{◌≡◌, ◌≢◌, ◌∙◌, ap, sym, subst, refl, ℕ, zero, suc, ◌+◌, ◌%◌, ◌<◌, ◌≤◌, ◌==◌, ◌||◌, ◌&&◌, Bool, true, false, not, List, [], ◌∷◌, ◌++◌, length, map, Option, Some, None, take, arith, inl, inr}
use Rattle.std.specs.Prelude.{IsSome, find, nat_le, nat_lt, ◌^◌}
use Rattle.std.specs.Int.{is_power_of_two}
use Rattle.std.specs.List.{enumerate_from, list_any, slice_get}
use Rattle.std.specs.Option.{option_map}
use Rattle.std.proofs.lemmas.Bool.{and_parts, cases_lt, eqb-true, leb-true, or_parts}
use Rattle.std.proofs.lemmas.Bool.Decides.{nat_tests}
use Rattle.ld_base.specs.Symbol.{is_defined, is_tls}
use Rattle.ld_base.specs.declared.object.Object.{Object}
use Rattle.ld_base.specs.declared.object.Reloc.{Reloc}
use Rattle.ld_base.specs.declared.object.Span.{Span}
use Rattle.ld_base.specs.declared.object.Symbol.{Symbol}
use Rattle.ld_base.specs.declared.object.TlsSeg.{TlsSeg}
use Rattle.ld_base.specs.declared.parts.DynParts.{DynParts}
use Rattle.ld_base.specs.declared.parts.Head.{Head}
use Rattle.ld_base.specs.declared.parts.Header.{Header}
use Rattle.elf_head.specs.DynTable.HashWords.{hash_words}
use Rattle.elf_head.specs.Accepted.{AllFit}
use Rattle.elf_head.specs.Header.{headers_of, is_loaded}
use Rattle.elf_head.specs.Readable.{covers, readable}
use Rattle.elf_head.specs.Segments.{has_bad_align, has_kind, is_bad, is_bad_dynamic, is_bad_load, is_bad_storage, is_bad_tls, is_incongruent, is_misshapen, is_overfull, is_oversized, passes_end, passes_limit}
use Rattle.elf_head.specs.Verdict.{SpellsHead}
use Rattle.elf_dynamic.specs.Breaks.{AreAddresses, HasFeature, IsArray as IsArrayTag, IsBadSymbol, IsBadSymbolAt, IsBadTable}
use Rattle.elf_dynamic.specs.Parts.{IsRange, IsThat}
use Rattle.elf_dynamic.specs.Verdict.{Breaks, SpellsDynamic, TablesBreak}
use Rattle.elf_object.specs.Object.{with_version, with_versions}
use Rattle.elf_object.specs.Segments.{is_kind, segment_at, segments_of, tls_of}
use Rattle.history_state.specs.Accepted.{IsArray, IsStorage, IsWithin}
use Rattle.history_journal.proofs.AcceptedImage.Accepting.{fits, to_segment}
use Rattle.history_journal.proofs.AcceptedImage.Heads.{headers_are, none_bad}
use Rattle.history_journal.proofs.AcceptedImage.Lists.{any_get, find_get, same_some}

in_front : {X : Type 0} (xs ys : List X) (i : ℕ) (x : X) → slice_get xs i ≡ Some x → slice_get (xs ++ ys) i ≡ Some x
in_front [] ys i x e = absurd cc
in_front (y ∷ xs) ys zero x e = e
in_front (y ∷ xs) ys (suc i) x e = in_front xs ys i x e

less : (a b : ℕ) → a < b → nat_lt a b ≡ true
less a b below = grind (arith, nat_tests)

is_not : (n : ℕ) → (n == 0) ≡ false → n ≡ 0 → ⊥
is_not n differs same = absurd (let d : true ≡ false = sym (ap (λ k. k == 0) same) ∙ differs in cc)

not_less : (a b : ℕ) → nat_lt a b ≡ false → b ≤ a
not_less a b e = elim (cases_lt a b) [ inl below ↦ absurd (let d : true ≡ false = sym (less a b below) ∙ e in cc) | inr above ↦ above ]

not_not : (b : Bool) → not b ≡ false → b ≡ true
not_not true e = refl
not_not false e = absurd cc

behind_true : (a b : Bool) → a ≡ true → (a && b) ≡ false → b ≡ false
behind_true true b is e = e
behind_true false b is e = absurd cc

-- ---- no number is bad where none is the first that is

module _ (bytes : List ℕ) (head : Head) (program : Bool) (parts : DynParts) (s : SpellsDynamic bytes head program parts) where
  no_bad_symbol : (n i : ℕ) → i < n → IsBadSymbolAt head.headers parts.symbols i → ⊥
  no_bad_symbol zero i below bad = absurd (omega (arith, below))
  no_bad_symbol (suc n) i below bad =
      s.kept 13 i (Breaks.by_tables parts s.say 13 i (TablesBreak.bad_symbol i (record { bad = bad; before = λ j less. no_bad_symbol n j (omega (arith, below, less)) })))

  no_feature : (n i : ℕ) → i < n → HasFeature head program parts.tags parts.symbols (parts.relocs ++ parts.plt_relocs) i → ⊥
  no_feature zero i below has = absurd (omega (arith, below))
  no_feature (suc n) i below has =
      s.kept 15 i (Breaks.by_tables parts s.say 15 i (TablesBreak.has_feature i (record { bad = has; before = λ j less. no_feature n j (omega (arith, below, less)) })))

  no_bad_table : (n tag : ℕ) → tag < n → IsBadTable head.headers parts.tags (hash_words bytes head.headers parts.tags) tag → ⊥
  no_bad_table zero tag below bad = absurd (omega (arith, below))
  no_bad_table (suc n) tag below bad =
      s.kept 11 tag (Breaks.by_tables parts s.say 11 tag (TablesBreak.bad_table tag (record { bad = bad; before = λ j less. no_bad_table n j (omega (arith, below, less)) })))

  -- a library has no copies
  pub no_copies : program ≡ false → (i : ℕ) (r : Reloc) → slice_get parts.relocs i ≡ Some r → r.kind ≢ 4
  no_copies library i r is copy = no_feature 9 8 (omega arith) (HasFeature.copy_in_library library (i, r, in_front parts.relocs parts.plt_relocs i r is, copy))

  -- ---- arrays

  addresses : (tag size : ℕ) → IsArrayTag tag size → (span : Span) → IsRange parts.tags tag size span → AreAddresses head.headers span
  addresses tag size array span range =
      by (span.size % 8 == 0) refl (span.start % 8 == 0) refl (readable head.headers span.start span.size) refl
    where
      bad : (AreAddresses head.headers span → ⊥) → ⊥
      bad none = no_bad_table (suc tag) tag (omega arith) (IsBadTable.bad_array tag size array span range none)

      by : (a : Bool) → (span.size % 8 == 0) ≡ a → (b : Bool) → (span.start % 8 == 0) ≡ b → (c : Bool) → readable head.headers span.start span.size ≡ c → AreAddresses head.headers span
      by true one true two true three = record { whole = eqb-true (span.size % 8) 0 one; aligned = eqb-true (span.start % 8) 0 two; held = three }
      by false one b two c three = absurd (bad (λ a. is_not (span.size % 8) one a.whole))
      by true one false two c three = absurd (bad (λ a. is_not (span.start % 8) two a.aligned))
      by true one true two false three = absurd (bad (λ a. absurd (let d : true ≡ false = sym a.held ∙ three in cc)))

-- ---- symbols

-- versions change neither a symbol's type nor its section
same_symbol : (versym : List ℕ) (symbols : List Symbol) (n i : ℕ) (s : Symbol) → slice_get (map (with_version versym) (enumerate_from n symbols)) i ≡ Some s
    → (q : Symbol) × (slice_get symbols i ≡ Some q) × (is_defined s ≡ is_defined q) × (is_tls s ≡ is_tls q)
same_symbol versym [] n i s e = absurd cc
same_symbol versym (q ∷ symbols) n zero s e =
    let same : with_version versym (n, q) ≡ s = same_some e in
    (q, refl, ap (λ (x : Symbol). is_defined x) (sym same), ap (λ (x : Symbol). is_tls x) (sym same))
same_symbol versym (q ∷ symbols) n (suc i) s e = same_symbol versym symbols (n + 1) i s e

none_found : {X : Type 0} (p : X → Bool) (xs : List X) → find p xs ≡ None → (i : ℕ) (x : X) → slice_get xs i ≡ Some x → p x ≡ false
none_found p [] none i x is = absurd cc
none_found {X} p (y ∷ xs) none zero x is = by (p y) refl (ap p (same_some is))
  where
    by : (t : Bool) → p y ≡ t → p y ≡ p x → p x ≡ false
    by true e same = absurd (let d : Some y ≡ None = sym (rw e refl) ∙ none in cc)
    by false e same = sym same ∙ e
none_found {X} p (y ∷ xs) none (suc i) x is = by (p y) refl (λ rest. none_found p xs rest i x is)
  where
    by : (t : Bool) → p y ≡ t → (find p xs ≡ None → p x ≡ false) → p x ≡ false
    by true e next = absurd (let d : Some y ≡ None = sym (rw e refl) ∙ none in cc)
    by false e next = next (sym (rw e refl) ∙ none)

module _ (bytes : List ℕ) (head : Head) (program : Bool) (parts : DynParts) (s : SpellsDynamic bytes head program parts) (o : Object) (tls : o.tls ≡ tls_of head.headers) where
  pub stored : (versym : List ℕ) → o.symbols ≡ with_versions parts.symbols versym → (i : ℕ) (symbol : Symbol) → slice_get o.symbols i ≡ Some symbol → is_defined symbol ≡ true → is_tls symbol ≡ true → IsSome o.tls
  unfolding with_versions tls_of
  stored versym symbols i symbol is defined storage = by (find (is_kind 7) head.headers) refl
    where
      q : (q : Symbol) × (slice_get parts.symbols i ≡ Some q) × (is_defined symbol ≡ is_defined q) × (is_tls symbol ≡ is_tls q)
      q = same_symbol versym parts.symbols 0 i symbol (rw symbols at is)

      by : (found : Option Header) → find (is_kind 7) head.headers ≡ found → IsSome o.tls
      by (Some h) e = rw (tls, e) refl
      by None e = absurd (no_bad_symbol bytes head program parts s (suc i) i (omega arith) (
        q.0,
        q.1,
        IsBadSymbol.no_storage (sym q.2 ∙ defined) (sym q.3 ∙ storage)
            (λ j h there seven. absurd (let d : true ≡ false = sym (rw seven refl) ∙ none_found (is_kind 7) head.headers e j h there in cc)),
      ))

-- ---- ranges

module _ (bytes : List ℕ) (head : Head) (o : Object) (is_head : SpellsHead bytes head) (fit : AllFit (length bytes) head.headers) (segments : o.segments ≡ segments_of bytes head.headers) where
  -- what has its bytes in the file lies in a segment
  within : (start size : ℕ) → 0 < size → readable head.headers start size ≡ true → IsWithin o (record { start = start; size = size })
  unfolding segment_at
  within start size some held =
      let (h, (k, is, covered)) = any_get (covers start size) head.headers (there held) in
      let (begins, to) = and_parts (is_loaded h && nat_le h.vaddr start) (nat_le (start + size) (h.vaddr + h.filesz)) covered in
      let (loaded, from) = and_parts (is_loaded h) (nat_le h.vaddr start) begins in
      let low = leb-true h.vaddr start from in
      let high = leb-true (start + size) (h.vaddr + h.filesz) to in
      let memory = (fits bytes head o is_head fit segments k h is loaded).memory in
      let (i, there) = to_segment bytes head o is_head fit segments k h is loaded in
      record { segment = segment_at bytes h; at = i; is = there; low = low; high = omega (arith, high, memory) }
    where
      there : (size == 0 || list_any (covers start size) head.headers) ≡ true → list_any (covers start size) head.headers ≡ true
      there held = by (size == 0) refl held
        where
          by : (t : Bool) → (size == 0) ≡ t → (t || list_any (covers start size) head.headers) ≡ true → list_any (covers start size) head.headers ≡ true
          by true e any = absurd (let none : size ≡ 0 = eqb-true size 0 e in omega (arith, none, some))
          by false e any = any

  module _ (program : Bool) (parts : DynParts) (s : SpellsDynamic bytes head program parts) where
    pub array : (tag size : ℕ) → IsArrayTag tag size → (range : Option Span) → IsThat (IsRange parts.tags tag size) range → (span : Span) → range ≡ Some span → IsArray o span
    array tag size is range that span e =
        let named = (that span).0 e in
        let kept = addresses bytes head program parts s tag size is span named in
        record { aligned = kept.aligned; whole = kept.whole; within = within span.start span.size named.some kept.held }

  -- ---- thread-local storage

  good : (k : ℕ) (h : Header) → slice_get head.headers k ≡ Some h → is_bad (length bytes) head.headers (take k head.headers) h ≡ false
  good k h is =
      let same = headers_are bytes head is_head in
      let none = none_bad bytes head is_head (suc k) k (omega arith) in
      subst (λ (hs : List Header). is_bad (length bytes) hs (take k hs) h ≡ false) (sym same)
      (let at : slice_get (headers_of bytes) k ≡ Some h = subst (λ (hs : List Header). slice_get hs k ≡ Some h) same is in rw at at none)

  pub storage : (seg : TlsSeg) → tls_of head.headers ≡ Some seg → IsStorage o seg
  unfolding tls_of is_bad is_misshapen
  storage seg e = by (find (is_kind 7) head.headers) refl e
    where
      of : (h : Header) → find (is_kind 7) head.headers ≡ Some h → IsStorage o (record { vaddr = h.vaddr; filesz = h.filesz; memsz = h.memsz; align = h.align })
      of h found =
          let (k, is, kind) = find_get (is_kind 7) head.headers h found in
          let kept = good k h is in
          let test = (or_parts (is_bad_load (length bytes) (take k head.headers) h || is_bad_dynamic (take k head.headers) h) (is_bad_tls (length bytes) head.headers (take k head.headers) h) kept).1 in
          let bad = (or_parts (has_kind 7 (take k head.headers)) (is_bad_storage (length bytes) head.headers h) (behind_true (h.kind == 7) _ kind test)).1 in
          let most = or_parts (is_misshapen (length bytes) h || not (readable head.headers h.vaddr h.filesz)) (is_oversized h) bad in
          let size = or_parts (nat_lt 1_048_576 h.memsz) (nat_lt 1_048_576 h.align) most.1 in
          let parts = or_parts (is_misshapen (length bytes) h) (not (readable head.headers h.vaddr h.filesz)) most.0 in
          let even = or_parts (is_overfull h || passes_end (length bytes) h || passes_limit h || has_bad_align h) (is_incongruent h) parts.0 in
          let aligned = or_parts (is_overfull h || passes_end (length bytes) h || passes_limit h) (has_bad_align h) even.0 in
          let limit = or_parts (is_overfull h || passes_end (length bytes) h) (passes_limit h) aligned.0 in
          let full = or_parts (is_overfull h) (passes_end (length bytes) h) limit.0 in
          record {
            memory = not_less 1_048_576 h.memsz size.0;
            align = not_less 1_048_576 h.align size.1;
            power = λ some. not_not (is_power_of_two h.align) (behind_true (nat_lt 0 h.align) _ (less 0 h.align some) aligned.1);
            bytes = not_less h.memsz h.filesz full.0;
            low = not_less (2 ^ 32) (h.vaddr + h.memsz) limit.1;
            within = λ some. within h.vaddr h.filesz some (not_not (readable head.headers h.vaddr h.filesz) parts.1);
          }

      by : (found : Option Header) → find (is_kind 7) head.headers ≡ found → option_map (λ h. record { vaddr = h.vaddr; filesz = h.filesz; memsz = h.memsz; align = h.align }) found ≡ Some seg → IsStorage o seg
      by None is e = absurd cc
      by (Some h) is e = subst (IsStorage o) (same_some e) (of h is)
