-- Words that are put behind others, and words that change.
use Rattle.std.proofs.Common.{◌≡◌, ◌≢◌, ℕ, ◌+◌, ◌*◌, ◌^◌, ◌<◌, ◌≤◌, ◌⊎◌, Option, List, [], ◌∷◌, ◌++◌, length, set, Some, None, refl, arith, sym, ◌∙◌, ap, subst, inl, inr, length-append, get_or-set_same, get_or-set_other}
use Rattle.std.proofs.lemmas.Bool.{cases_lt, cases_eq}
use Rattle.std.proofs.lemmas.List.{get_or_append_left, get_or_push, length-set}
use Rattle.std.proofs.lemmas.Option.{slice_get-get_or}
use Rattle.std.specs.List.{slice_get}
use Rattle.ld_base.specs.declared.linking.Role.{Role}
use Rattle.seg_image.specs.declared.image.Word.{Word}
use Rattle.seg_image.specs.Images.{AreWords, with_role, with_value}

module _ {X : Type 0} where
  slice_get-append_left : (xs ys : List X) (k : ℕ) (d : X) → k < length xs → slice_get (xs ++ ys) k ≡ slice_get xs k
  slice_get-append_left xs ys k d less =
      slice_get-get_or (xs ++ ys) k d (omega (arith, length-append xs ys))
      ∙ ap Some (get_or_append_left xs ys d k less)
      ∙ sym (slice_get-get_or xs k d less)

  slice_get_push : (xs : List X) (x : X) → slice_get (xs ++ x ∷ []) (length xs) ≡ Some x
  slice_get_push xs x =
      slice_get-get_or (xs ++ x ∷ []) (length xs) x (let more = length-append xs (x ∷ []) in omega arith) ∙ ap Some (get_or_push xs x x (length xs) refl)

  slice_get-set_same : (xs : List X) (k : ℕ) (x : X) → k < length xs → slice_get (set xs k x) k ≡ Some x
  slice_get-set_same xs k x less =
      let within : k < length (set xs k x) = rw (length-set xs k x) less in
      slice_get-get_or (set xs k x) k x within ∙ ap Some (get_or-set_same xs k x x less)

  slice_get-set_other : (xs : List X) (k j : ℕ) (x : X) → j ≢ k → j < length xs → slice_get (set xs k x) j ≡ slice_get xs j
  slice_get-set_other xs k j x other less =
      let within : j < length (set xs k x) = rw (length-set xs k x) less in
      slice_get-get_or (set xs k x) j x within ∙ ap Some (get_or-set_other xs k j x x other) ∙ sym (slice_get-get_or xs j x less)

with_role_is : (ws : List Word) (k : ℕ) (role : Role) (w : Word) → slice_get ws k ≡ Some w → with_role ws k role ≡ set ws k (record { value = w.value; role = role })
with_role_is ws k role w at = ap (λ e. elim e [ Some x ↦ set ws k (record { value = x.value; role = role }) | None ↦ ws ]) at

with_value_is : (ws : List Word) (k value : ℕ) (w : Word) → slice_get ws k ≡ Some w → with_value ws k value ≡ set ws k (record { value = value; role = w.role })
with_value_is ws k value w at = ap (λ e. elim e [ Some x ↦ set ws k (record { value = value; role = x.role }) | None ↦ ws ]) at

module _ (low : ℕ) where
  pub no_words : (word : ℕ → Word) → AreWords low word []
  no_words word = record { each = λ k less. absurd (omega arith); fit = λ k less. absurd (omega arith) }

  pub word_pushed : (word : ℕ → Word) (ws : List Word) (w : Word) → AreWords low word ws → w ≡ word (low + 8 * length ws) → w.value < 2 ^ 64
      → AreWords low word (ws ++ w ∷ [])
  word_pushed word ws w are is fits = record {
    each = λ k less. by_place k (cases_lt k (length ws)) (omega (arith, length-append ws (w ∷ [])));
    fit = λ k less. fit_place k (cases_lt k (length ws)) (omega (arith, length-append ws (w ∷ [])));
  }
    where
      by_place : (k : ℕ) → (k < length ws) ⊎ (length ws ≤ k) → k ≤ length ws → slice_get (ws ++ w ∷ []) k ≡ Some (word (low + 8 * k))
      by_place k (inl before) less = slice_get-append_left ws (w ∷ []) k w before ∙ are.each k before
      by_place k (inr from) less =
          let last : length ws ≡ k = omega arith in
          subst (λ n. slice_get (ws ++ w ∷ []) n ≡ Some (word (low + 8 * n))) last (slice_get_push ws w ∙ ap Some is)

      fit_place : (k : ℕ) → (k < length ws) ⊎ (length ws ≤ k) → k ≤ length ws → (word (low + 8 * k)).value < 2 ^ 64
      fit_place k (inl before) less = are.fit k before
      fit_place k (inr from) less =
          let last : length ws ≡ k = omega arith in
          subst (λ n. (word (low + 8 * n)).value < 2 ^ 64) last (rw is at fits)

  -- the same, of what a vector holds after it
  pub words_after_push : (word : ℕ → Word) (ws after : List Word) (w : Word) (n : ℕ) → AreWords low word ws → after ≡ ws ++ w ∷ [] → length ws ≡ n
      → w ≡ word (low + 8 * n) → w.value < 2 ^ 64 → AreWords low word after
  words_after_push word ws after w n are is count same fits =
      rw is (word_pushed word ws w are (subst (λ m. w ≡ word (low + 8 * m)) (sym count) same) fits)

  -- one word changes
  pub word_set : (word after : ℕ → Word) (ws : List Word) (k : ℕ) (w : Word) → AreWords low word ws → k < length ws
      → w ≡ after (low + 8 * k) → w.value < 2 ^ 64 → ((j : ℕ) → j ≢ k → after (low + 8 * j) ≡ word (low + 8 * j)) → AreWords low after (set ws k w)
  word_set word after ws k w are within is fits others = record {
    each = λ j less. by_place j (cases_eq j k) (rw (length-set ws k w) at less);
    fit = λ j less. fit_place j (cases_eq j k) (rw (length-set ws k w) at less);
  }
    where
      by_place : (j : ℕ) → (j ≡ k) ⊎ (j ≡ k → ⊥) → j < length ws → slice_get (set ws k w) j ≡ Some (after (low + 8 * j))
      by_place j (inl same) less = subst (λ n. slice_get (set ws k w) n ≡ Some (after (low + 8 * n))) (sym same) (slice_get-set_same ws k w within ∙ ap Some is)
      by_place j (inr other) less = slice_get-set_other ws k j w other less ∙ are.each j less ∙ ap Some (sym (others j other))

      fit_place : (j : ℕ) → (j ≡ k) ⊎ (j ≡ k → ⊥) → j < length ws → (after (low + 8 * j)).value < 2 ^ 64
      fit_place j (inl same) less = subst (λ n. (after (low + 8 * n)).value < 2 ^ 64) (sym same) (rw is at fits)
      fit_place j (inr other) less = rw (others j other) (are.fit j less)

  -- the same words by another name
  pub words_same : (word after : ℕ → Word) (ws : List Word) → AreWords low word ws → ((k : ℕ) → k < length ws → after (low + 8 * k) ≡ word (low + 8 * k))
      → AreWords low after ws
  words_same word after ws are same = record {
    each = λ k less. are.each k less ∙ ap Some (sym (same k less));
    fit = λ k less. rw (same k less) (are.fit k less);
  }

  -- one role changes
  pub role_set : (word after : ℕ → Word) (ws : List Word) (k : ℕ) (role : Role) → AreWords low word ws → k < length ws
      → after (low + 8 * k) ≡ record { value = (word (low + 8 * k)).value; role = role } → ((v : ℕ) → v ≢ low + 8 * k → after v ≡ word v)
      → AreWords low after (with_role ws k role)
  role_set word after ws k role are within is others =
      rw (with_role_is ws k role (word (low + 8 * k)) (are.each k within)) (word_set word after ws k (record { value = (word (low + 8 * k)).value; role = role }) are within (sym is) (are.fit k within) (λ j other. others (low + 8 * j) (λ e. other (omega arith))))

  -- one value changes
  pub value_set : (word after : ℕ → Word) (ws : List Word) (k value : ℕ) → AreWords low word ws → k < length ws → value < 2 ^ 64
      → after (low + 8 * k) ≡ record { value = value; role = (word (low + 8 * k)).role } → ((j : ℕ) → j ≢ k → after (low + 8 * j) ≡ word (low + 8 * j))
      → AreWords low after (with_value ws k value)
  value_set word after ws k value are within fits is others =
      rw (with_value_is ws k value (word (low + 8 * k)) (are.each k within)) (word_set word after ws k (record { value = value; role = (word (low + 8 * k)).role }) are within (sym is) fits others)

pub length-with_value : (ws : List Word) (k value : ℕ) → length (with_value ws k value) ≡ length ws
length-with_value ws k value = by_element (slice_get ws k)
  where
    by_element : (e : Option Word) → length {A = Word} (elim e [ Some w ↦ set ws k (record { value = value; role = w.role }) | None ↦ ws ]) ≡ length ws
    by_element (Some w) = length-set ws k (record { value = value; role = w.role })
    by_element None = refl

pub length-with_role : (ws : List Word) (k : ℕ) (role : Role) → length (with_role ws k role) ≡ length ws
length-with_role ws k role = by_element (slice_get ws k)
  where
    by_element : (e : Option Word) → length {A = Word} (elim e [ Some w ↦ set ws k (record { value = w.value; role = role }) | None ↦ ws ]) ≡ length ws
    by_element (Some w) = length-set ws k (record { value = w.value; role = role })
    by_element None = refl
