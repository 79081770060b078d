-- Lists are read back.
use Rattle.std.proofs.Common.{◌≡◌, ℕ, ◌+◌, true, false, not, ◌==◌}
use Rattle.std.proofs.Common.{List, [], ◌∷◌, ◌++◌, length, map, Option, Some, None, flat_map}
use Rattle.std.proofs.Common.{All, refl, sym, ap, ◌∙◌, subst, arith, inl, inr, bytes_eq, append-nil}
use Rattle.std.specs.List.{join_with_byte}
use Rattle.std.proofs.lemmas.Bool.{and_parts, cases_Bool, not-true, false_from_ne_true}
use Rattle.std.proofs.lemmas.List.Elements.{All-nil, All-cons, All-head, All-tail}
use Rattle.std.proofs.lemmas.List.Splits.{slice_split_none, slice_split_at, length-slice_split, join_with_byte-slice_split}
use Rattle.std.proofs.lemmas.Option.{none-some, same_Some}
use Rattle.std.proofs.lemmas.Slice.Eq.{bytes_eq-Decides}
use Rattle.trace_read.specs.Lists.{each, parts_of, list_of}
use Rattle.trace_read.proofs.Parts.{Reads, bound, free, free-append, if_true, if_false}

free-All : (mark : ℕ) (t : List ℕ) → free mark t ≡ true → All (λ c. (c == mark) ≡ false) t
free-All mark [] h = All-nil (λ c. (c == mark) ≡ false)
free-All mark (c ∷ cs) h =
    let parts = and_parts (not (c == mark)) (free mark cs) h in
    All-cons (λ c. (c == mark) ≡ false) c cs (not-true (c == mark) parts.0) (free-All mark cs parts.1)

-- a list with commas between
abbrev pub listed : {A : Type 0} → (A → List ℕ) → List A → List ℕ
listed text [] = 45 ∷ []
listed text (x ∷ xs) = text x ++ flat_map (λ y. 44 ∷ text y) xs

module _ {A : Type 0} {read : List ℕ → Option A} {text : A → List ℕ} {Fits : A → Type 0} (r : Reads read text Fits) where
  each-there : (xs : List A) → All Fits xs → each read (map text xs) ≡ Some xs
  each-there [] h = refl
  each-there (x ∷ xs) h = rw (r.there x (All-head Fits x xs h), each-there xs (All-tail Fits x xs h)) refl

  each-back : (ws : List (List ℕ)) (xs : List A) → each read ws ≡ Some xs → All Fits xs × (map text xs ≡ ws)
  each-back [] xs e = subst (λ ys. All Fits ys × (map text ys ≡ [])) (same_Some _ _ e) (All-nil Fits, refl)
  each-back (w ∷ ws) xs e =
      bound (read w) _ xs e (λ a ea e1.
      bound (each read ws) _ xs e1 (λ others eo same.
      let front = r.back w a ea in
      let rest = each-back ws others eo in
      subst (λ ys. All Fits ys × (map text ys ≡ w ∷ ws)) (same_Some _ _ same) (All-cons Fits a others front.0 rest.0, λ i. front.1 i ∷ rest.1 i)))

  module _ (bare : (a : A) → Fits a → free 44 (text a) ≡ true) (no_minus : read (45 ∷ []) ≡ None) where
    parts-there : (x : A) (xs : List A) → All Fits (x ∷ xs) → parts_of (listed text (x ∷ xs)) ≡ map text (x ∷ xs)
    parts-there x [] h =
        ap parts_of (append-nil (text x)) ∙ slice_split_none (λ byte. byte == 44) (text x) (free-All 44 (text x) (bare x (All-head Fits x [] h)))
    parts-there x (y ∷ ys) h =
        slice_split_at (λ byte. byte == 44) (text x) 44 (listed text (y ∷ ys)) (free-All 44 (text x) (bare x (All-head Fits x (y ∷ ys) h))) refl
        ∙ ap (λ parts. text x ∷ parts) (parts-there y ys (All-tail Fits x (y ∷ ys) h))

    joined : (x : A) (xs : List A) → join_with_byte 44 (map text (x ∷ xs)) ≡ listed text (x ∷ xs)
    joined x [] = sym (append-nil (text x))
    joined x (y ∷ ys) = ap (λ rest. text x ++ 44 ∷ rest) (joined y ys)

    list-there : (xs : List A) → All Fits xs → list_of read (listed text xs) ≡ Some xs
    unfolding list_of
    list-there [] h = refl
    list-there (x ∷ xs) h = rw minus (ap (each read) (parts-there x xs h) ∙ each-there (x ∷ xs) h)
      where
        minus : bytes_eq (listed text (x ∷ xs)) (45 ∷ []) ≡ false
        minus = false_from_ne_true _ (λ same.
            let at : listed text (x ∷ xs) ≡ 45 ∷ [] = (bytes_eq-Decides (listed text (x ∷ xs)) (45 ∷ [])).0 same in
            let none : each read ((45 ∷ []) ∷ []) ≡ None = rw no_minus refl in
            none-some (x ∷ xs) (sym none ∙ sym (ap (λ t. each read (parts_of t)) at) ∙ ap (each read) (parts-there x xs h) ∙ each-there
            (x ∷ xs) h))

    list-back : (w : List ℕ) (xs : List A) → list_of read w ≡ Some xs → All Fits xs × (listed text xs ≡ w)
    unfolding list_of
    list-back w xs e = elim (cases_Bool (bytes_eq w (45 ∷ []))) [
      | inl t ↦ subst (λ ys. All Fits ys × (listed text ys ≡ w)) (same_Some _ _ (if_true _ _ _ t e))
          (All-nil Fits, sym ((bytes_eq-Decides w (45 ∷ [])).0 t))
      | inr f ↦
          let it = each-back (parts_of w) xs (if_false _ _ _ f e) in
          (it.0, by xs it.1)
    ]
      where
        by : (ys : List A) → map text ys ≡ parts_of w → listed text ys ≡ w
        by [] same = absurd (omega (arith, ap length same, length-slice_split (λ byte. byte == 44) w))
        by (y ∷ ys) same = sym (joined y ys) ∙ ap (join_with_byte 44) same ∙ join_with_byte-slice_split 44 w

    pub list_reads : Reads (list_of read) (listed text) (All Fits)
    list_reads = record { there = list-there; back = list-back }

  -- the bytes of a list are none of these
  module _ (mark : ℕ) (no_minus : free mark (45 ∷ []) ≡ true) (no_comma : free mark (44 ∷ []) ≡ true)
      (bare : (a : A) → Fits a → free mark (text a) ≡ true) where
    more_free : (xs : List A) → All Fits xs → free mark (flat_map (λ y. 44 ∷ text y) xs) ≡ true
    more_free [] h = refl
    more_free (x ∷ xs) h =
        free-append mark (44 ∷ []) _ no_comma (free-append mark (text x) _ (bare x (All-head Fits x xs h)) (more_free xs (All-tail Fits x xs h)))

    pub list_free : (xs : List A) → All Fits xs → free mark (listed text xs) ≡ true
    list_free [] h = no_minus
    list_free (x ∷ xs) h = free-append mark (text x) _ (bare x (All-head Fits x xs h)) (more_free xs (All-tail Fits x xs h))
