-- What is known of a row, kept over changes of it.
use Rattle.std.proofs.Common.{◌≡◌, ◌≢◌, ◌⊎◌, ⊎_elim, inl, inr, ℕ, ◌+◌, ◌%◌, ◌≤◌, ◌<◌, List, [], ◌∷◌, ◌++◌, append_assoc, append-nil, Some, refl, sym, ap, subst, ◌∙◌, arith}
use mathlib.Core.Logic.{dite}
use native.Mathlib.Decide.{ℕ_discrete}
use Rattle.word_rule.specs.declared.entry.Entry.{Entry}
use Rattle.word_rule.specs.declared.entry.RowWord.{RowWord}
use Rattle.word_rule.specs.declared.entry.RowWord.TheVariants.{Number, Slot, Lazy, Value, Generation}
use Rattle.word_rule.specs.declared.view.Lane.{Lane}
use Rattle.word_rule.specs.declared.view.Offer.{Offer}
use Rattle.word_rule.specs.declared.view.Row.{Row}
use Rattle.word_rule.specs.declared.view.TrailItem.{TrailItem}
use Rattle.word_rule.specs.Layout.{harts_at_most, row_at, state_at, index_of}
use Rattle.word_rule.specs.Views.{put, entries_by, entries_of, field_of, with_field, offered, with_offered}
use Rattle.word_rule.specs.HartSteps.{Awaits, IsMark}
use Rattle.word_rule.specs.Calls.{Calls, Known, Rests, RowIs, Stage}
use Rattle.word_rule.specs.Lemmas.Put.{put_here, put_else}
use Rattle.word_rule.specs.Lemmas.HartLocks.{low_index}

-- ---- states

pub low_mark : (s : ℕ) → IsMark s → s < 8
low_mark s h = elim h [ inl e ↦ omega arith | inr h ↦ elim h [ inl e ↦ omega arith | inr h ↦ elim h [ inl e ↦ omega arith | inr e ↦ omega arith ] ] ]

pub low_rest : (s : ℕ) → Rests s → s < 8
low_rest s h = elim h [ inl e ↦ omega arith | inr h ↦ elim h [ inl e ↦ omega arith | inr e ↦ omega arith ] ]

pub high_awaits : (s : ℕ) → Awaits s → 8 ≤ s
high_awaits s h = elim h [ inl e ↦ omega arith | inr h ↦ elim h [ inl e ↦ omega arith | inr e ↦ omega arith ] ]

pub begins : (s : ℕ) → Rests s → Awaits ((s + 8) % 18446744073709551616)
begins s h = elim h [ inl e ↦ inl (omega arith) | inr h ↦ elim h [ inl e ↦ inr (inl (omega arith)) | inr e ↦ inr (inr (omega arith)) ] ]

pub not_both : (s : ℕ) → IsMark s → Awaits s → ⊥
not_both s m w = let a = low_mark s m in let b = high_awaits s w in omega arith

pub not_rest : (s : ℕ) → Rests s → Awaits s → ⊥
not_rest s m w = let a = low_rest s m in let b = high_awaits s w in omega arith

-- ---- rows

-- a row's words are as they were
abbrev pub Same : (ℕ → ℕ) → (ℕ → ℕ) → ℕ → Type 0
Same word word' m = (i : ℕ) → i < 6 → word' (row_at m i) ≡ word (row_at m i)

pub carry : (word word' : ℕ → ℕ) (count m : ℕ) (r : Row) (l : Lane) (es : List Entry) → Same word word' m → RowIs word count m r l es → RowIs word' count m r l es
carry word word' count m r l es same is = record {
  fields = λ i. same (index_of i) (low_index i) ∙ is.fields i;
  stage = subst (λ s. Stage s r l l.calling) (sym state) is.stage;
  known = λ c since. subst (λ s. Known s c count r l) (sym state) (is.known c since);
  seen = is.seen;
  trail = is.trail;
}
  where
    state : word' (state_at m) ≡ word (state_at m)
    state = same 0 (omega arith)

-- a word that is no row's changes
pub elsewhere : (word : ℕ → ℕ) (i x m : ℕ) → m < harts_at_most → (i < 8) ⊎ (128 ≤ i) → Same word (put word i x) m
elsewhere word i x m few out j low = put_else word i x (row_at m j) (λ e. ⊎_elim (λ (h : i < 8). omega arith) (λ (h : 128 ≤ i). omega arith) out)

-- a word of another row changes
pub other_row : (word : ℕ → ℕ) (n i x m : ℕ) → i < 6 → m ≢ n → Same word (put word (row_at n i) x) m
other_row word n i x m low' apart j low = put_else word (row_at n i) x (row_at m j) (λ e. apart (rows_apart m n j i low low' e))
  where
    rows_apart : (m n j i : ℕ) → j < 6 → i < 6 → row_at m j ≡ row_at n i → m ≡ n
    rows_apart m n j i low low' e = omega arith

-- nothing but the word i changes, which is no row's and isn't the count
pub beside_rows : (word : ℕ → ℕ) (i x count : ℕ) (row : ℕ → Row) (lane : ℕ → Lane) (entries : ℕ → List Entry) → i ≢ 2 → (i < 8) ⊎ (128 ≤ i)
    → Calls word count row lane entries → Calls (put word i x) count row lane entries
beside_rows word i x count row lane entries apart out is = record {
  counted = put_else word i x 2 (λ (e : 2 ≡ i). apart (sym e)) ∙ is.counted;
  each_row = λ m few. carry word (put word i x) count m (row m) (lane m) (entries m) (elsewhere word i x m few out) (is.each_row m few);
}

-- a word of the row n changes, or none, and what is known of that row
pub one_row : (word word' : ℕ → ℕ) (count n : ℕ) (row : ℕ → Row) (lane : ℕ → Lane) (entries : ℕ → List Entry) (r : Row) (l : Lane) (es : List Entry)
    → word' 2 ≡ word 2 → ((m : ℕ) → m < harts_at_most → m ≢ n → Same word word' m)
    → Calls word count row lane entries → RowIs word' count n r l es → Calls word' count (put row n r) (put lane n l) (put entries n es)
one_row word word' count n row lane entries r l es zero' others is mine = record {
  counted = zero' ∙ is.counted;
  each_row = λ m few. dite (ℕ_discrete m n)
      (λ (e : m ≡ n). subst (λ j. RowIs word' count j (put row n r j) (put lane n l j) (put entries n es j)) (sym e)
      (subst (λ (p : Row × Lane × List Entry). RowIs word' count n p.0 p.1 p.2) (λ i. (sym (put_here row n r) i, sym (put_here lane n l) i, sym (put_here entries n es) i)) mine))
      (λ (apart : m ≢ n). subst (λ (p : Row × Lane × List Entry). RowIs word' count m p.0 p.1 p.2)
      (λ i. (sym (put_else row n r m apart) i, sym (put_else lane n l m apart) i, sym (put_else entries n es m apart) i))
      (carry word word' count m (row m) (lane m) (entries m) (others m few apart) (is.each_row m few)));
}

-- ---- offers

pub offered_with : (i j : RowWord) (n x : ℕ) (o : Offer) → offered j (with_offered i n o) ≡ Some x → ((j ≡ i) × (n ≡ x)) ⊎ (offered j o ≡ Some x)
offered_with Number Number n x o e = inl (refl, let h : Some n ≡ Some x = e in cc)
offered_with Slot Slot n x o e = inl (refl, let h : Some n ≡ Some x = e in cc)
offered_with Lazy Lazy n x o e = inl (refl, let h : Some n ≡ Some x = e in cc)
offered_with Value Value n x o e = inl (refl, let h : Some n ≡ Some x = e in cc)
offered_with Generation Generation n x o e = inl (refl, let h : Some n ≡ Some x = e in cc)
offered_with i j n x o e = inr e

pub mark_with : (i : RowWord) (n : ℕ) (o : Offer) → (with_offered i n o).mark ≡ o.mark
mark_with Number n o = refl
mark_with Slot n o = refl
mark_with Lazy n o = refl
mark_with Value n o = refl
mark_with Generation n o = refl

-- ---- fields of rows

pub field_with : (i j : RowWord) (x : ℕ) (r : Row) → ((j ≡ i) × (field_of j (with_field i x r) ≡ x)) ⊎ ((index_of j ≢ index_of i) × (field_of j (with_field i x r) ≡ field_of j r))
field_with Number Number x r = inl (refl, refl)
field_with Slot Slot x r = inl (refl, refl)
field_with Lazy Lazy x r = inl (refl, refl)
field_with Value Value x r = inl (refl, refl)
field_with Generation Generation x r = inl (refl, refl)
field_with i j x r = inr ((λ e. omega arith), refl)

pub field_issued : (i : RowWord) (x : ℕ) (r : Row) → (with_field i x r).issued ≡ r.issued
field_issued Number x r = refl
field_issued Slot x r = refl
field_issued Lazy x r = refl
field_issued Value x r = refl
field_issued Generation x r = refl

pub field_since : (i : RowWord) (x : ℕ) (r : Row) → (with_field i x r).since ≡ r.since
field_since Number x r = refl
field_since Slot x r = refl
field_since Lazy x r = refl
field_since Value x r = refl
field_since Generation x r = refl

-- ---- trails

pub entries_push : (trail : List TrailItem) (item : TrailItem) → entries_of (trail ++ item ∷ []) ≡ entries_of trail ++ entries_by item
entries_push [] item = append-nil (entries_by item)
entries_push (x ∷ xs) item = ap (λ es. entries_by x ++ es) (entries_push xs item) ∙ sym (append_assoc (entries_by x) (entries_of xs) (entries_by item))
