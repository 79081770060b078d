-- The part on calls and rows, over the steps of the keeper.
use Rattle.std.proofs.Common.{◌≡◌, ◌≢◌, ◌⊎◌, ⊎_elim, inl, inr, ℕ, zero, suc, ◌+◌, ◌%◌, ◌≤◌, ◌<◌, Bool, true, false, eqb, nat_le, leb-true, List, [], ◌∷◌, ◌++◌, length, map, get_or, length-append, Option, Some, None, refl, sym, ap, subst, ◌∙◌, arith, slice_index_or, slice_set}
use Rattle.word_rule.specs.declared.entry.Entry.{Entry}
use Rattle.word_rule.specs.declared.entry.Grant.{Grant}
use Rattle.word_rule.specs.declared.entry.RowWord.{RowWord}
use Rattle.word_rule.specs.declared.entry.RowWord.TheVariants.{Number, Slot, Lazy, Value, Generation}
use Rattle.word_rule.specs.declared.kind.KeeperKind.{KeeperKind}
use Rattle.word_rule.specs.declared.kind.KeeperKind.TheVariants as kinds
use Rattle.word_rule.specs.declared.view.Fate.{Fate}
use Rattle.word_rule.specs.declared.view.Fate.TheVariants.{Won, Lost}
use Rattle.word_rule.specs.declared.view.KeeperView.{KeeperView}
use Rattle.word_rule.specs.declared.view.Lane.{Lane}
use Rattle.word_rule.specs.declared.view.Row.{Row}
use Rattle.word_rule.specs.declared.view.Settled.{Settled}
use Rattle.word_rule.specs.Layout.{harts_at_most, row_at, state_at, index_of, value_at, control_at}
use Rattle.word_rule.specs.Views.{put, entry_of, field_of, with_field, grant_in, no_row, row_of}
use Rattle.word_rule.specs.Operations.{becomes}
use Rattle.word_rule.specs.HartSteps.{Awaits, IsMark}
use Rattle.word_rule.specs.KeeperSteps.{KeeperReady, asked, asked_if, awaited_if, handed, heeding, keeper_word, keeper_op, keeper_after, keeps_if, not_found, opened, settled_as}
use Rattle.word_rule.specs.Calls.{Answered, Calls, IsEvent, Known, RowIs, Stage, Still}
use Rattle.word_rule.specs.Lemmas.Put.{put_here, put_else, put_same, set_put, ext}
use Rattle.word_rule.specs.Lemmas.HartLocks.{unmoved, low_index}
use Rattle.word_rule.specs.Lemmas.Rows.{beside_rows, carry, elsewhere, field_issued, field_since, field_with, low_mark, low_rest, not_both, not_rest, one_row, other_row, Same}

-- ---- what the keeper knows of grants is nothing to this part

abbrev pub with_rest : Option Grant → List Settled → Bool → Row → Row
with_rest p s f r = record r { pending = p; settled = s; found_open = f }

field_rest : (i : RowWord) (p : Option Grant) (s : List Settled) (f : Bool) (r : Row) → field_of i r ≡ field_of i (with_rest p s f r)
field_rest Number p s f r = refl
field_rest Slot p s f r = refl
field_rest Lazy p s f r = refl
field_rest Value p s f r = refl
field_rest Generation p s f r = refl

stage_rest : (p : Option Grant) (s : List Settled) (f : Bool) (state : ℕ) (r : Row) (l : Lane) (b : Bool) → Stage state r l b → Stage state (with_rest p s f r) l b
stage_rest p s f state r l false st = (st.0, record { all = st.1.all; no_offer = st.1.no_offer; no_try = st.1.no_try })
stage_rest p s f state r l true st = ⊎_elim
    (λ (w : Awaits state × Still r l). inl (w.0, record { all = w.1.all; no_offer = w.1.no_offer; no_try = w.1.no_try }))
    (λ (a : Answered state r l). inr (record {
      mark = a.mark;
      last = a.last;
      new = a.new;
      offer = λ o has. ((a.offer o has).0, λ i x e. (a.offer o has).1 i x e ∙ field_rest i p s f r);
      tried = a.tried;
    }))
    st

alike : (p : Option Grant) (s : List Settled) (f : Bool) (word : ℕ → ℕ) (count m : ℕ) (r : Row) (l : Lane) (es : List Entry) → RowIs word count m r l es → RowIs word count m (with_rest p s f r) l es
alike p s f word count m r l es is = record {
  fields = λ i. is.fields i ∙ field_rest i p s f r;
  stage = stage_rest p s f (word (state_at m)) r l l.calling is.stage;
  known = λ c since. let k = is.known c since in record { awaits = k.awaits; seen = k.seen; counted = k.counted };
  seen = is.seen;
  trail = is.trail;
}

settled_alike : (fate : Fate) (g : Option Grant) (word : ℕ → ℕ) (count m : ℕ) (r : Row) (l : Lane) (es : List Entry) → RowIs word count m r l es → RowIs word count m (settled_as fate g r) l es
settled_alike fate None word count m r l es is = is
settled_alike fate (Some g) word count m r l es is = alike None (r.settled ++ record { grant = g; fate = fate } ∷ []) r.found_open word count m r l es is

asked_alike : (a b c : Bool) (word : ℕ → ℕ) (count m : ℕ) (r : Row) (l : Lane) (es : List Entry) → RowIs word count m r l es → RowIs word count m (asked_if a b c r) l es
asked_alike true b c word count m r l es is = alike r.pending r.settled true word count m r l es is
asked_alike false true c word count m r l es is = settled_alike Won r.pending word count m r l es is
asked_alike false false true word count m r l es is = settled_alike Lost r.pending word count m r l es is
asked_alike false false false word count m r l es is = is

-- ---- the count

grown : (word : ℕ → ℕ) (count m : ℕ) (r : Row) (l : Lane) (es : List Entry) → RowIs word count m r l es → RowIs word (count + 1) m r l es
grown word count m r l es is = record {
  fields = is.fields;
  stage = is.stage;
  known = λ c since. let k = is.known c since in let low : c ≤ count = k.counted in record { awaits = k.awaits; seen = k.seen; counted = omega arith };
  seen = let low : l.seen ≤ count = is.seen in omega arith;
  trail = is.trail;
}

-- ---- rows that the keeper may change

pub record Waiting (state c count : ℕ) (r : Row) (l : Lane) : Type 0 where
  pub calls : l.calling ≡ true
  pub still : Still r l
  pub known : Known state c count r l

pub waiting : (word : ℕ → ℕ) (count m : ℕ) (r : Row) (l : Lane) (es : List Entry) (c : ℕ) → RowIs word count m r l es → r.since ≡ Some c → Waiting (word (state_at m)) c count r l
waiting word count m r l es c is since = go l.calling refl is.stage
  where
    k : Known (word (state_at m)) c count r l
    k = is.known c since

    go : (b : Bool) → l.calling ≡ b → Stage (word (state_at m)) r l b → Waiting (word (state_at m)) c count r l
    go false e st = absurd (not_rest (word (state_at m)) st.0 k.awaits)
    go true e st = ⊎_elim
        (λ (w : Awaits (word (state_at m)) × Still r l). record { calls = e; still = w.1; known = k })
        (λ (a : Answered (word (state_at m)) r l). absurd (not_both (word (state_at m)) a.mark k.awaits))
        st

fields_apart : (m : ℕ) (i : RowWord) → state_at m ≡ row_at m (index_of i) → ⊥
fields_apart m Number e = omega arith
fields_apart m Slot e = omega arith
fields_apart m Lazy e = omega arith
fields_apart m Value e = omega arith
fields_apart m Generation e = omega arith

filled : (word : ℕ → ℕ) (count m : ℕ) (r : Row) (l : Lane) (es : List Entry) (c : ℕ) (i : RowWord) (x : ℕ) → RowIs word count m r l es → r.since ≡ Some c
    → RowIs (put word (row_at m (index_of i)) x) count m (with_field i x r) l es
filled word count m r l es c i x is since =
    let w : Waiting (word (state_at m)) c count r l = waiting word count m r l es c is since in
    let here : put word (row_at m (index_of i)) x (state_at m) ≡ word (state_at m) = put_else word (row_at m (index_of i)) x (state_at m) (fields_apart m i) in record {
      fields = λ j. ⊎_elim
          (λ (t : (j ≡ i) × (field_of j (with_field i x r) ≡ x)). ap (λ j. put word (row_at m (index_of i)) x (row_at m (index_of j))) t.0 ∙ (put_here word (row_at m (index_of i)) x ∙ sym t.1))
          (λ (t : (index_of j ≢ index_of i) × (field_of j (with_field i x r) ≡ field_of j r)). put_else word (row_at m (index_of i)) x (row_at m (index_of j)) (λ e. t.0 (omega arith)) ∙ (is.fields j ∙ sym t.1))
          (field_with i j x r);
      stage = subst (Stage (put word (row_at m (index_of i)) x (state_at m)) (with_field i x r) l) (sym w.calls)
          (inl (subst Awaits (sym here) w.known.awaits, record { all = w.still.all ∙ sym (field_issued i x r); no_offer = w.still.no_offer; no_try = w.still.no_try }));
      known = λ n s. let k = is.known n (sym (field_since i x r) ∙ s) in subst (λ s. Known s n count (with_field i x r) l) (sym here) (record { awaits = k.awaits; seen = k.seen; counted = k.counted });
      seen = is.seen;
      trail = is.trail;
    }

abbrev pub handed_as : ℕ → Option Grant → Row → Row
handed_as mark p r = record r { issued = r.issued ++ entry_of mark r ∷ []; since = None; pending = p }

field_handed : (i : RowWord) (mark : ℕ) (p : Option Grant) (r : Row) → field_of i r ≡ field_of i (handed_as mark p r)
field_handed Number mark p r = refl
field_handed Slot mark p r = refl
field_handed Lazy mark p r = refl
field_handed Value mark p r = refl
field_handed Generation mark p r = refl

hands : (word : ℕ → ℕ) (count m : ℕ) (r : Row) (l : Lane) (es : List Entry) (c mark : ℕ) (p : Option Grant) → RowIs word count m r l es → r.since ≡ Some c → IsMark mark → (IsEvent mark → c < r.number)
    → RowIs (put word (state_at m) mark) count m (handed_as mark p r) l es
hands word count m r l es c mark p is since good new' =
    let w : Waiting (word (state_at m)) c count r l = waiting word count m r l es c is since in
    let here : put word (state_at m) mark (state_at m) ≡ mark = put_here word (state_at m) mark in
    let seen' : l.seen ≤ c = w.known.seen in record {
      fields = λ i. put_else word (state_at m) mark (row_at m (index_of i)) (λ e. fields_apart m i (sym e)) ∙ (is.fields i ∙ field_handed i mark p r);
      stage = subst (Stage (put word (state_at m) mark (state_at m)) (handed_as mark p r) l) (sym w.calls) (subst (λ s. Stage s (handed_as mark p r) l true) (sym here) (inr (record {
        mark = good;
        last = ap (λ es. es ++ entry_of mark r ∷ []) (sym w.still.all);
        new = λ e. let n : c < r.number = new' e in omega arith;
        offer = λ o has. let q : Some o ≡ None = sym has ∙ w.still.no_offer in absurd (cc);
        tried = λ x has. let q : Some x ≡ None = sym has ∙ w.still.no_try in absurd (cc);
      })));
      known = λ n s. let q : None ≡ Some n = s in absurd (cc);
      seen = is.seen;
      trail = is.trail;
    }

awaited : (word : ℕ → ℕ) (count m : ℕ) (r : Row) (l : Lane) (es : List Entry) → 8 ≤ word (state_at m) → RowIs word count m r l es → RowIs word count m (record r { since = Some count }) l es
awaited word count m r l es high is = record {
  fields = λ i. is.fields i ∙ field_since_only i;
  stage = stage' l.calling is.stage;
  known = λ c s. let q : Some count ≡ Some c = s in let e : count ≡ c = cc in subst (λ c. Known (word (state_at m)) c count (record r { since = Some count }) l) e
      (record { awaits = calls l.calling is.stage; seen = is.seen; counted = omega arith });
  seen = is.seen;
  trail = is.trail;
}
  where
    field_since_only : (i : RowWord) → field_of i r ≡ field_of i (record r { since = Some count })
    field_since_only Number = refl
    field_since_only Slot = refl
    field_since_only Lazy = refl
    field_since_only Value = refl
    field_since_only Generation = refl

    calls : (b : Bool) → Stage (word (state_at m)) r l b → Awaits (word (state_at m))
    calls false st = let low = low_rest (word (state_at m)) st.0 in absurd (omega arith)
    calls true st = ⊎_elim (λ (w : Awaits (word (state_at m)) × Still r l). w.0) (λ (a : Answered (word (state_at m)) r l). let low = low_mark (word (state_at m)) a.mark in absurd (omega arith)) st

    stage' : (b : Bool) → Stage (word (state_at m)) r l b → Stage (word (state_at m)) (record r { since = Some count }) l b
    stage' false st = (st.0, record { all = st.1.all; no_offer = st.1.no_offer; no_try = st.1.no_try })
    stage' true st = ⊎_elim
        (λ (w : Awaits (word (state_at m)) × Still r l). inl (w.0, record { all = w.1.all; no_offer = w.1.no_offer; no_try = w.1.no_try }))
        (λ (a : Answered (word (state_at m)) r l). let low = low_mark (word (state_at m)) a.mark in absurd (omega arith))
        st

-- ---- the list of rows

pub map_row : (rows : List Row) (j : ℕ) → not_found (get_or rows j no_row) ≡ get_or (map not_found rows) j no_row
map_row [] j = refl
map_row (r ∷ rs) zero = refl
map_row (r ∷ rs) (suc j) = map_row rs j

pub map_long : (rows : List Row) → length (map not_found rows) ≡ length rows
map_long [] = refl
map_long (r ∷ rs) = ap suc (map_long rs)

module _ (word : ℕ → ℕ) (k : KeeperView) (lane : ℕ → Lane) (entries : ℕ → List Entry) (is : Calls word (length k.events) (row_of k) lane entries) (rows_known : length k.rows ≡ harts_at_most) where
  abbrev count : ℕ
  count = length k.events

  abbrev After : (ℕ → ℕ) → KeeperView → Type 0
  After word' k' = Calls word' (length k'.events) (row_of k') lane entries

  old : (m : ℕ) → m < harts_at_most → RowIs word (length k.events) m (row_of k m) (lane m) (entries m)
  old m few = is.each_row m few

  far : (i x : ℕ) → i ≢ 2 → (i < 8) ⊎ (128 ≤ i) → Calls (put word i x) (length k.events) (row_of k) lane entries
  far i x apart out = beside_rows word i x (length k.events) (row_of k) lane entries apart out is

  at_value : (d x : ℕ) → Calls (put word (value_at d) x) (length k.events) (row_of k) lane entries
  at_value d x = far (value_at d) x (λ (e : value_at d ≡ 2). omega arith) (inr (omega arith))

  at_control : (d x : ℕ) → Calls (put word (control_at d) x) (length k.events) (row_of k) lane entries
  at_control d x = far (control_at d) x (λ (e : control_at d ≡ 2). omega arith) (inr (omega arith))

  -- one row of the list changes
  changed : (word' : ℕ → ℕ) (m : ℕ) (r : Row) → m < harts_at_most → word' 2 ≡ word 2 → ((j : ℕ) → j < harts_at_most → j ≢ m → Same word word' j)
      → RowIs word' (length k.events) m r (lane m) (entries m) → Calls word' (length k.events) (λ j. slice_index_or (slice_set k.rows m r) j no_row) lane entries
  changed word' m r few zero' others mine = subst (λ (f : ℕ → Row). Calls word' (length k.events) f lane entries) (set_put k.rows m r no_row (subst (λ n. m < n) (sym rows_known) few))
      (subst (λ (p : (ℕ → Lane) × (ℕ → List Entry)). Calls word' (length k.events) (put (row_of k) m r) p.0 p.1) (λ i. (put_same lane m (lane m) refl i, put_same entries m (entries m) refl i))
      (one_row word word' (length k.events) m (row_of k) lane entries r (lane m) (entries m) zero' others is mine))

  at_row : (m i x : ℕ) (r : Row) → m < harts_at_most → i < 6 → RowIs (put word (row_at m i) x) (length k.events) m r (lane m) (entries m)
      → Calls (put word (row_at m i) x) (length k.events) (λ j. slice_index_or (slice_set k.rows m r) j no_row) lane entries
  at_row m i x r few low = changed (put word (row_at m i) x) m r few (put_else word (row_at m i) x 2 (λ (e : 2 ≡ row_at m i). omega arith)) (λ j few' apart. other_row word m i x j low apart)

  counts : length k.events < 18446744073709551615 → Calls (put word 2 ((word 2 + 1) % 18446744073709551616)) (length k.events + 1) (row_of k) lane entries
  counts low = record {
    counted = put_here word 2 ((word 2 + 1) % 18446744073709551616) ∙ next (word 2) (length k.events) is.counted low;
    each_row = λ m few. grown (put word 2 ((word 2 + 1) % 18446744073709551616)) (length k.events) m (row_of k m) (lane m) (entries m)
        (carry word (put word 2 ((word 2 + 1) % 18446744073709551616)) (length k.events) m (row_of k m) (lane m) (entries m) (elsewhere word 2 ((word 2 + 1) % 18446744073709551616) m few (inl (omega arith))) (old m few));
  }
    where
      next : (n c : ℕ) → n ≡ c → c < 18446744073709551615 → (n + 1) % 18446744073709551616 ≡ c + 1
      next n c e low = omega arith

  awaits : (m : ℕ) (b : Bool) → m < harts_at_most → nat_le 8 (word (state_at m)) ≡ b → After word (awaited_if m b (heeding k))
  awaits m false few e = is
  awaits m true few e =
      let r : Row = record (not_found (row_of k m)) { since = Some (length k.events) } in
      let unfound : Calls word (length k.events) (λ j. not_found (row_of k j)) lane entries = record {
        counted = is.counted;
        each_row = λ j few'. alike (row_of k j).pending (row_of k j).settled false word (length k.events) j (row_of k j) (lane j) (entries j) (old j few');
      } in
      let rows' : (ℕ → Row) = λ j. slice_index_or (map not_found k.rows) j no_row in
      let same : (λ j. not_found (row_of k j)) ≡ rows' = ext (λ j. not_found (row_of k j)) rows' (map_row k.rows) in
      let mine : RowIs word (length k.events) m r (lane m) (entries m) = awaited word (length k.events) m (not_found (row_of k m)) (lane m) (entries m) (leb-true 8 (word (state_at m)) e)
      (alike (row_of k m).pending (row_of k m).settled false word (length k.events) m (row_of k m) (lane m) (entries m) (old m few)) in
      let long : m < length (map not_found k.rows) = subst (λ n. m < n) (sym (map_long k.rows ∙ rows_known)) few in
      subst (λ (f : ℕ → Row). Calls word (length k.events) f lane entries) (set_put (map not_found k.rows) m r no_row long)
      (subst (λ (p : (ℕ → Lane) × (ℕ → List Entry)). Calls word (length k.events) (put rows' m r) p.0 p.1) (λ i. (put_same lane m (lane m) refl i, put_same entries m (entries m) refl i))
      (one_row word word (length k.events) m rows' lane entries r (lane m) (entries m) refl (λ j few' apart i low. refl)
      (subst (λ (f : ℕ → Row). Calls word (length k.events) f lane entries) same unfound) mine))

  three_marks : (mark : ℕ) → (mark ≡ 1) ⊎ (mark ≡ 2) ⊎ (mark ≡ 6) → IsMark mark
  three_marks mark h = elim h [ inl e ↦ inl e | inr h ↦ elim h [ inl e ↦ inr (inl e) | inr e ↦ inr (inr (inr e)) ] ]

  not_three : (mark c number : ℕ) → (mark ≡ 1) ⊎ (mark ≡ 2) ⊎ (mark ≡ 6) → (mark ≡ 1 → c < number) → IsEvent mark → c < number
  not_three mark c number h one e = ⊎_elim one (λ (three : mark ≡ 3). elim h [ inl e ↦ absurd (omega arith) | inr h ↦ elim h [ inl e ↦ absurd (omega arith) | inr e ↦ absurd (omega arith) ] ]) e

  kept_rows : (d n : ℕ) (b : Bool) (word' : ℕ → ℕ) → Calls word' (length k.events) (row_of k) lane entries → After word' (keeps_if d b (heeding k))
  kept_rows d n true word' c = c
  kept_rows d n false word' c = c

  -- ---- the kinds

  abbrev KeepsCalls : KeeperKind → Type 0
  KeepsCalls kind = KeeperReady kind k → After (put word (keeper_word kind) (becomes (keeper_op kind) (word (keeper_word kind)))) (keeper_after kind k (word (keeper_word kind)))

  pub keeper_calls : (kind : KeeperKind) → KeepsCalls kind
  keeper_calls (kinds.Look d) ready = at_control d (word (control_at d))
  keeper_calls (kinds.Load d) ready = at_value d (word (value_at d))
  keeper_calls (kinds.Lock d control) ready =
      let x : ℕ = becomes (keeper_op (kinds.Lock d control)) (word (control_at d)) in
      kept_rows d x (eqb (word (control_at d)) control) (put word (control_at d) x) (at_control d x)
  keeper_calls (kinds.Store d x) ready = at_value d x
  keeper_calls (kinds.Unlock d role lazy) ready = at_control d (becomes (keeper_op (kinds.Unlock d role lazy)) (word (control_at d)))
  keeper_calls (kinds.Count e) ready = subst (λ n. Calls (put word 2 ((word 2 + 1) % 18446744073709551616)) n (row_of k) lane entries) (sym (length-append k.events (e.value ∷ []))) (counts ready)
  keeper_calls (kinds.Await m) ready = unmoved word (state_at m) (λ f. After f (awaited_if m (nat_le 8 (word (state_at m))) (heeding k))) (awaits m (nat_le 8 (word (state_at m))) ready refl)
  keeper_calls (kinds.Ask m) ready =
      let s : ℕ = word (state_at m) in
      let r : Row = asked s (row_of k m) in
      unmoved word (state_at m) (λ f. Calls f (length k.events) (λ j. slice_index_or (slice_set k.rows m r) j no_row) lane entries)
      (changed word m r ready.0 refl (λ j few' apart i low. refl)
      (asked_alike (eqb (s % 8) 3) (eqb (s % 8) 4) (eqb (s % 8) 5) word (length k.events) m (row_of k m) (lane m) (entries m) (old m ready.0)))
  keeper_calls (kinds.Saw d m) ready = at_value d (word (value_at d))
  keeper_calls (kinds.Fill m i x) ready = at_row m (index_of i) x (with_field i x (row_of k m)) ready.1.0 (low_index i)
      (filled word (length k.events) m (row_of k m) (lane m) (entries m) ready.0 i x (old m ready.1.0) ready.1.1)
  keeper_calls (kinds.Hand m mark) ready = at_row m 0 mark (handed mark (row_of k m)) ready.1.0 (omega arith)
      (hands word (length k.events) m (row_of k m) (lane m) (entries m) ready.0 mark (row_of k m).pending (old m ready.1.0) ready.1.1 (three_marks mark ready.2) (not_three mark ready.0 (row_of k m).number ready.2 ready.4))
  keeper_calls (kinds.Open m) ready = at_row m 0 3 (opened (row_of k m)) ready.1.0 (omega arith)
      (hands word (length k.events) m (row_of k m) (lane m) (entries m) ready.0 3 (Some (grant_in (row_of k m))) (old m ready.1.0) ready.1.1 (inr (inr (inl refl))) (λ _. ready.3))
  keeper_calls (kinds.RetireSlot d) ready = at_control d (becomes (keeper_op (kinds.RetireSlot d)) (word (control_at d)))
  keeper_calls (kinds.Retire d old) ready = at_control d (becomes (keeper_op (kinds.Retire d old)) (word (control_at d)))
  keeper_calls (kinds.Generation g) ready = far 1 g (λ (e : 1 ≡ 2). omega arith) (inl (omega arith))
  keeper_calls (kinds.Recall m i) ready = unmoved word (row_at m (index_of i)) (λ f. Calls f (length k.events) (row_of k) lane entries) is
  keeper_calls kinds.RecallGeneration ready = far 1 (word 1) (λ (e : 1 ≡ 2). omega arith) (inl (omega arith))
  keeper_calls (kinds.RecallRole d) ready = at_control d (word (control_at d))
  keeper_calls kinds.Listen ready = far 0 (word 0) (λ (e : 0 ≡ 2). omega arith) (inl (omega arith))
