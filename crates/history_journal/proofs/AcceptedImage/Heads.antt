-- What an accepted head says of mapped segments.
use Rattle.std.proofs.Common.{◌≡◌, ◌∙◌, sym, refl, ℕ, zero, suc, ◌<◌, ◌||◌, ◌&&◌, Bool, true, false, List, length, take, Some, arith, inl, inr, nat_le}
use Rattle.std.specs.List.{list_any, slice_get}
use Rattle.std.proofs.lemmas.Bool.{cases_Bool, cases_lt, le-leb, or_parts}
use Rattle.elf_head.specs.AcceptancePart.Lemmas.Tables.{get-table, length-table, same_elements}
use Rattle.ld_base.specs.declared.parts.Head.{Head}
use Rattle.ld_base.specs.declared.parts.Header.{Header}
use Rattle.elf_head.specs.Header.{header_at, header_count, headers_of, is_loaded, table_start}
use Rattle.elf_head.specs.Segments.{first_page, is_bad, is_bad_at, is_misplaced, last_page}
use Rattle.elf_head.specs.Verdict.{SpellsHead}
use Rattle.elf_head.specs.Verdict.Breaks.{bad_segment_at}
use Rattle.history_journal.proofs.AcceptedImage.Lists.{any_of, take_get}

module _ (bytes : List ℕ) (head : Head) (s : SpellsHead bytes head) where
  pub headers_are : head.headers ≡ headers_of bytes
  unfolding headers_of
  headers_are =
      let count = length-table (header_at bytes) (table_start bytes) 56 (header_count bytes) in
      same_elements head.headers _ (s.count ∙ sym count)
      (λ i within. s.headers i (omega (arith, count)) ∙ sym (get-table (header_at bytes) (table_start bytes) 56 (header_count bytes) i (omega (arith, count))))

  -- no header is bad
  pub none_bad : (n j : ℕ) → j < n → is_bad_at (length bytes) (headers_of bytes) j ≡ false
  none_bad zero j below = absurd (omega arith)
  none_bad (suc n) j below =
      elim (cases_Bool (is_bad_at (length bytes) (headers_of bytes) j)) [
        | inl bad ↦ absurd (s.kept 8 j (bad_segment_at j (record { bad = inl bad; before = λ i less. none_bad n i (omega arith) })))
        | inr good ↦ good
      ]

  pub some_loaded : list_any is_loaded head.headers ≡ true
  some_loaded =
      rw headers_are
      (elim (cases_Bool (list_any is_loaded (headers_of bytes))) [
        | inl some ↦ some
        | inr none ↦ absurd (s.kept 8 (length (headers_of bytes)) (bad_segment_at (length (headers_of bytes)) (record { bad = inr (refl, none); before = λ i less. none_bad (length (headers_of bytes)) i less })))
      ])

  placed : (k : ℕ) (h : Header) → slice_get (headers_of bytes) k ≡ Some h → is_loaded h ≡ true → is_misplaced (take k (headers_of bytes)) h ≡ false
  unfolding is_bad
  placed k h is loaded =
      let good = rw is at (none_bad (suc k) k (omega arith)) in
      by_tests (is_loaded h) _ _ _ _ loaded good
    where
      by_tests : (a b c d e : Bool) → a ≡ true → ((a && (b || c)) || d || e) ≡ false → c ≡ false
      by_tests a b c d e loaded good = let load : (a && (b || c)) ≡ false = (or_parts (a && (b || c)) d (or_parts ((a && (b || c)) || d) e good).0).0 in (or_parts b c (rw loaded at load)).1

  -- mapped segments stand in ascending order, on pages of their own
  pub ascending : (j k : ℕ) (g h : Header) → j < k → slice_get head.headers j ≡ Some g → slice_get head.headers k ≡ Some h → is_loaded g ≡ true → is_loaded h ≡ true → last_page g < first_page h
  unfolding is_misplaced
  ascending j k g h below one two loaded also =
      let at_g : slice_get (headers_of bytes) j ≡ Some g = rw headers_are at one in
      let at_h : slice_get (headers_of bytes) k ≡ Some h = rw headers_are at two in
      elim (cases_lt (last_page g) (first_page h)) [
        | inl apart ↦ apart
        | inr met ↦
            let test : (is_loaded g && nat_le (first_page h) (last_page g)) ≡ true = rw (loaded, le-leb (first_page h) (last_page g) met) refl in
            let found = any_of (λ e. is_loaded e && nat_le (first_page h) (last_page e)) (take k (headers_of bytes)) g j (take_get (λ e. is_loaded e) k j (headers_of bytes) g below at_g) test in
            let none = placed k h at_h also in
            absurd cc
      ]
