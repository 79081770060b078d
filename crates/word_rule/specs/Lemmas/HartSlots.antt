-- The part on slots and grants, over the steps of harts.
use Rattle.std.proofs.Common.{◌≡◌, ◌≢◌, ⊎_elim, inl, inr, ℕ, suc, ◌+◌, ◌%◌, ◌≤◌, ◌<◌, Bool, true, false, cond, eqb, eqb-true, nat_lt, List, [], ◌∷◌, ◌++◌, append_assoc, append-nil, Option, Some, None, Contains, refl, sym, ap, subst, ◌∙◌, arith, ◌==◌}
use Rattle.std.proofs.lemmas.List.Elements.{Contains-append_left, Contains-push, Contains-push_cases}
use Rattle.std.proofs.lemmas.Bool.{eqb-false}
use mathlib.Core.Logic.{dite}
use native.Mathlib.Decide.{ℕ_discrete}
use prog.Atomic.{either}
use Rattle.ld_base.specs.declared.linking.Role.TheVariants.{Rw, Slot as SlotRole}
use Rattle.word_rule.specs.declared.entry.Entry.{Entry}
use Rattle.word_rule.specs.declared.entry.Exchange.{Exchange}
use Rattle.word_rule.specs.declared.entry.Grant.{Grant}
use Rattle.word_rule.specs.declared.entry.RowWord.{RowWord}
use Rattle.word_rule.specs.declared.entry.RowWord.TheVariants.{Number, Slot, Lazy, Value, Generation}
use Rattle.word_rule.specs.declared.kind.Ask.{Ask}
use Rattle.word_rule.specs.declared.kind.StoreAsk.{StoreAsk}
use Rattle.word_rule.specs.declared.kind.HartKind.{HartKind}
use Rattle.word_rule.specs.declared.kind.HartKind.TheVariants as kinds
use Rattle.word_rule.specs.declared.view.HartView.{HartView}
use Rattle.word_rule.specs.declared.view.Kept.{Kept}
use Rattle.word_rule.specs.declared.view.Lane.{Lane}
use Rattle.word_rule.specs.declared.view.Offer.{Offer}
use Rattle.word_rule.specs.declared.view.Row.{Row}
use Rattle.word_rule.specs.declared.view.TrailItem.{TrailItem}
use Rattle.word_rule.specs.declared.view.TrailItem.TheVariants.{Took, Exchanged, Done}
use Rattle.word_rule.specs.Layout.{address_of, doublewords, IsDoubleword, harts_at_most, place_of, row_at, state_at, value_at, control_at, index_of, role_in, lock_bit}
use Rattle.word_rule.specs.Views.{put, entry_of, grant_in, exchanges_by, exchanges_of}
use Rattle.word_rule.specs.Operations.{becomes}
use Rattle.word_rule.specs.HartSteps.{FindTells, HartReady, IsMark, hart_word, hart_op, hart_after, glanced, looked, locked_if, arrived_if, heeded, permits, ask_is_fresh, ask_place, load_place, store_place}
use Rattle.word_rule.specs.Allowed.{IsOf, IsSlot, Stands}
use Rattle.word_rule.specs.Calls.{Answered, Rests, RowIs, Still}
use Rattle.word_rule.specs.Slots.{Did, Fated, GrantsAre, HasWon, IsOpen, IsPending, Rising, SlotIs, Slots, Winner}
use Rattle.word_rule.specs.Lemmas.Put.{put_here, put_else, put_each, put_same}
use Rattle.word_rule.specs.Lemmas.HartLocks.{unmoved}
use Rattle.word_rule.specs.Lemmas.HartCalls.{answered_if, tried_if, read_entry, still_if, glanced_lane, locked_lane}
use Rattle.word_rule.specs.Lemmas.Rows.{begins, high_awaits, low_rest}
use Rattle.word_rule.specs.Lemmas.SlotFrames.{place_at, SameSlots, beside_slots, row_changes}

-- ---- trails

pub exchanges_push : (trail : List TrailItem) (item : TrailItem) → exchanges_of (trail ++ item ∷ []) ≡ exchanges_of trail ++ exchanges_by item
exchanges_push [] item = append-nil (exchanges_by item)
exchanges_push (x ∷ xs) item = ap (λ es. exchanges_by x ++ es) (exchanges_push xs item) ∙ sym (append_assoc (exchanges_by x) (exchanges_of xs) (exchanges_by item))

push_quiet : (trail : List TrailItem) (item : TrailItem) → exchanges_by item ≡ [] → exchanges_of (trail ++ item ∷ []) ≡ exchanges_of trail
push_quiet trail item e = exchanges_push trail item ∙ (ap (λ es. exchanges_of trail ++ es) e ∙ append-nil (exchanges_of trail))

glanced_exchanges : (ask : Ask) (control : ℕ) (a b c : Bool) (h : HartView) → exchanges_of (glanced ask control a b c h).trail ≡ exchanges_of h.trail
glanced_exchanges ask control true b c h = push_quiet h.trail _ refl
glanced_exchanges ask control false false c h = push_quiet h.trail _ refl
glanced_exchanges ask control false true false h = push_quiet h.trail _ refl
glanced_exchanges ask control false true true h = refl

locked_exchanges : (ask : StoreAsk) (c n : ℕ) (b : Bool) (h : HartView) → exchanges_of (locked_if ask c n b h).trail ≡ exchanges_of h.trail
locked_exchanges ask c n true h = refl
locked_exchanges ask c n false h = push_quiet h.trail _ refl

there : {A : Type 0} (x : A) (xs : List A) (y : A) → Contains xs y → Contains (x ∷ xs) y
there x xs y c = let low = c.1 in (suc c.0, omega arith, c.2)

rising_push : (xs : List Exchange) (e : Exchange) → Rising xs → ((x : Exchange) → Contains xs x → x.grant.entry.number < e.grant.entry.number) → Rising (xs ++ e ∷ [])
rising_push [] e r lt = ((λ y c. let low = c.1 in absurd (omega arith)), tt)
rising_push (x ∷ xs) e r lt = (
  (λ y c. ⊎_elim (λ (h : Contains xs y). r.0 y h) (λ (same : e ≡ y). subst (λ (y : Exchange). x.grant.entry.number < y.grant.entry.number) same (lt x (0, omega arith, refl))) (Contains-push_cases xs e y c)),
  rising_push xs e r.1 (λ y c. lt y (there x xs y c)),
)

abbrev winning : ℕ → Grant → Winner
winning m g = Some (m, g)

abbrev given_back : Bool → ℕ
given_back won = cond won 4 5

-- ---- one hart's grants, over a step of its row's state

restate : (known : ℕ → Kept) (locked : Option ℕ) (count : ℕ) (word word' : ℕ → ℕ) (winner : ℕ → Winner) (m : ℕ) (row : Row) (t t' : Option Exchange) (xs : List Exchange)
    → ((d : ℕ) → IsSlot known d → word' (value_at d) ≡ word (value_at d)) → (row.pending ≡ None → word' (state_at m) ≢ 3)
    → ((g : Grant) → row.pending ≡ Some g → (value : ℕ) (w : Winner) → (value ≡ word (value_at (place_of g.entry.slot))) → (w ≡ winner (place_of g.entry.slot)) → IsOf known (place_of g.entry.slot) g
    → Fated value (word (state_at m)) w m t xs g → Fated value (word' (state_at m)) w m t' xs g)
    → GrantsAre known locked count word winner m row t xs → GrantsAre known locked count word' winner m row t' xs
restate known locked count word word' winner m row t t' xs values closed' fates old = record {
  closed = closed';
  pending = λ g e.
      let d : ℕ = place_of g.entry.slot in
      let p : IsPending known locked (word (value_at d)) (word (state_at m)) (winner d) m row t xs g = old.pending g e in record {
        in_row = p.in_row;
        of_slot = p.of_slot;
        free = p.free;
        lazy_is = p.lazy_is;
        other = p.other;
        fate = subst (λ v. Fated v (word' (state_at m)) (winner d) m t' xs g) (sym (values d p.of_slot.0)) (fates g e (word (value_at d)) (winner d) refl refl p.of_slot p.fate);
      };
  won = old.won;
  lost = old.lost;
  counted = old.counted;
  granted = old.granted;
  rising = old.rising;
}

module _ (word : ℕ → ℕ) (known : ℕ → Kept) (locked : Option ℕ) (count : ℕ) (row : ℕ → Row) (tried : ℕ → Option Exchange) (exchanges : ℕ → List Exchange) (s : Slots word known locked count row tried exchanges)
    (h : HartView) (few : h.number < harts_at_most) (mine : tried h.number ≡ h.lane.tried) (trail_is : exchanges h.number ≡ exchanges_of h.trail)
    (es : List Entry) (r : RowIs word count h.number (row h.number) h.lane es) (writable : (d : ℕ) → h.access.locked ≡ Some d → (known d).role ≡ Rw) where
  abbrev After : (ℕ → ℕ) → HartView → Type 0
  After word' h' = Slots word' known locked count row (put tried h.number h'.lane.tried) (put exchanges h.number (exchanges_of h'.trail))

  abbrev state : ℕ
  state = word (state_at h.number)

  old : GrantsAre known locked count word s.winner h.number (row h.number) h.lane.tried (exchanges h.number)
  old = subst (λ t. GrantsAre known locked count word s.winner h.number (row h.number) t (exchanges h.number)) mine (s.each_hart h.number few)

  quiet : (word' : ℕ → ℕ) (h' : HartView) → h'.lane.tried ≡ h.lane.tried → exchanges_of h'.trail ≡ exchanges_of h.trail → SameSlots word word' known → After word' h'
  quiet word' h' same_tried same_trail same = subst (λ (p : (ℕ → Option Exchange) × (ℕ → List Exchange)). Slots word' known locked count row p.0 p.1)
      (λ i. (sym (put_same tried h.number h'.lane.tried (mine ∙ sym same_tried)) i, sym (put_same exchanges h.number (exchanges_of h'.trail) (trail_is ∙ sym same_trail)) i))
      (beside_slots word word' known locked count row tried exchanges same s)

  -- a word that is neither a value nor a state
  aside : (i x : ℕ) → ((d : ℕ) → IsSlot known d → value_at d ≢ i) → ((m : ℕ) → m < harts_at_most → state_at m ≢ i) → SameSlots word (put word i x) known
  aside i x values states = record { values = λ d here. put_else word i x (value_at d) (values d here); states = λ m low. put_else word i x (state_at m) (states m low) }

  at_control : (d x : ℕ) → SameSlots word (put word (control_at d) x) known
  at_control d x = aside (control_at d) x (λ e here (q : value_at e ≡ control_at d). omega arith) (λ m low (q : state_at m ≡ control_at d). omega arith)

  low_word : (i x : ℕ) → i < 8 → SameSlots word (put word i x) known
  low_word i x low = aside i x (λ e here (q : value_at e ≡ i). omega arith) (λ m few' (q : state_at m ≡ i). omega arith)

  same_word : (i : ℕ) → SameSlots word (put word i (word i)) known
  same_word i = unmoved word i (λ f. SameSlots word f known) (record { values = λ d here. refl; states = λ m low. refl })

  -- the value of a doubleword that the hart has locked
  at_locked : (d x : ℕ) → h.access.locked ≡ Some d → SameSlots word (put word (value_at d) x) known
  at_locked d x is = aside (value_at d) x
      (λ e here (q : value_at e ≡ value_at d). let same : e ≡ d = omega arith in let t : SlotRole ≡ Rw = sym here.1 ∙ (ap (λ n. (known n).role) same ∙ writable d is) in absurd (cc))
      (λ m low (q : state_at m ≡ value_at d). omega arith)

  -- the row's state is stored
  states_step : (x : ℕ) (h' : HartView) → exchanges_of h'.trail ≡ exchanges_of h.trail
      → GrantsAre known locked count (put word (state_at h.number) x) s.winner h.number (row h.number) h'.lane.tried (exchanges h.number) → After (put word (state_at h.number) x) h'
  states_step x h' same g =
      subst (λ (p : (ℕ → Row) × (ℕ → List Exchange)). Slots (put word (state_at h.number) x) known locked count p.0 (put tried h.number h'.lane.tried) p.1)
      (λ i. (put_same row h.number (row h.number) refl i, sym (put_same exchanges h.number (exchanges_of h'.trail) (trail_is ∙ sym same)) i))
      (row_changes word (put word (state_at h.number) x) known locked count row tried exchanges h.number (row h.number) h'.lane.tried few
      (λ d here. put_else word (state_at h.number) x (value_at d) (λ (q : value_at d ≡ state_at h.number). omega arith))
      (λ j low apart. put_else word (state_at h.number) x (state_at j) (λ (q : state_at j ≡ state_at h.number). apart (omega arith)))
      s
      (record { back = λ g st. inl st; forth = λ d g here e. ((s.each_slot d here).by h.number g e).1 })
      g)

  values_stay : (x d : ℕ) → IsSlot known d → put word (state_at h.number) x (value_at d) ≡ word (value_at d)
  values_stay x d here = put_else word (state_at h.number) x (value_at d) (λ (q : value_at d ≡ state_at h.number). omega arith)

  state_is : (x : ℕ) → put word (state_at h.number) x (state_at h.number) ≡ x
  state_is x = put_here word (state_at h.number) x

  begin : h.lane.calling ≡ false → After (put word (state_at h.number) ((state + 8) % 18446744073709551616)) (hart_after (kinds.Begin h.number) h state)
  begin idle =
      let rests : Rests state × Still (row h.number) h.lane = still_if state (row h.number) h.lane idle r.stage in
      let low : state < 8 = low_rest state rests.0 in
      let x : ℕ = (state + 8) % 18446744073709551616 in
      let high : 8 ≤ x = high_awaits x (begins state rests.0) in
      states_step x (hart_after (kinds.Begin h.number) h state) refl
      (restate known locked count word (put word (state_at h.number) x) s.winner h.number (row h.number) h.lane.tried h.lane.tried (exchanges h.number) (values_stay x)
      (λ none' e. let q : x ≡ 3 = sym (state_is x) ∙ e in omega arith)
      (λ g e value w _ _ _ f. subst (λ n. Fated value n w h.number h.lane.tried (exchanges h.number) g) (sym (state_is x)) (begun state x refl low rests.0 w g value f))
      old)
    where
      three : (n : ℕ) → Rests n → n ≡ 3 → ⊥
      three n rest e = elim rest [ inl a ↦ omega arith | inr a ↦ elim a [ inl b ↦ omega arith | inr b ↦ omega arith ] ]

      begun : (n x : ℕ) → x ≡ (n + 8) % 18446744073709551616 → n < 8 → Rests n → (w : Winner) (g : Grant) (value : ℕ) → Fated value n w h.number h.lane.tried (exchanges h.number) g → Fated value x w h.number h.lane.tried (exchanges h.number) g
      begun n x is low rest w g value f = elim f [
        | inl o ↦ absurd (three n rest o.0)
        | inr f ↦ elim f [
          | inl a ↦ inr (inl (let q = a.0 in omega arith, a.1))
          | inr b ↦ inr (inr (let q = b.0 in omega arith, b.1, b.2, b.3))
        ]
      ]

  accept : (e : Entry) → HartReady (kinds.Accept h.number e) h → After (put word (state_at h.number) 0) (hart_after (kinds.Accept h.number e) h state)
  accept e ready =
      let o : Offer = ready.2.0 in
      let has : h.lane.offer ≡ Some o = ready.2.1 in
      let a : Answered state (row h.number) h.lane = answered_if state (row h.number) h.lane o has h.lane.calling r.stage in
      let read : (state ≡ e.mark) × (e ≡ entry_of state (row h.number)) = read_entry state (row h.number) h.lane o e a has ready.2.2 in
      let other : state ≢ 3 = λ t. ready.1 (sym read.0 ∙ t) in
      states_step 0 (hart_after (kinds.Accept h.number e) h state) (push_quiet h.trail (Took e) refl)
      (restate known locked count word (put word (state_at h.number) 0) s.winner h.number (row h.number) h.lane.tried h.lane.tried (exchanges h.number) (values_stay 0)
      (λ none' t. let q : 0 ≡ 3 = sym (state_is 0) ∙ t in omega arith)
      (λ g p value w _ _ _ f. absurd (unfated state a.mark other w g value f))
      old)
    where
      unfated : (n : ℕ) → IsMark n → n ≢ 3 → (w : Winner) (g : Grant) (value : ℕ) → Fated value n w h.number h.lane.tried (exchanges h.number) g → ⊥
      unfated n mark other w g value f = elim f [
        | inl o ↦ other o.0
        | inr f ↦ elim f [
          | inl a ↦ at_four n mark a.0
          | inr b ↦ at_five n mark b.0
        ]
      ]
        where
          at_four : (n : ℕ) → IsMark n → n % 8 ≡ 4 → ⊥
          at_four n mark q = elim mark [ inl a ↦ omega arith | inr a ↦ elim a [ inl b ↦ omega arith | inr b ↦ elim b [ inl c ↦ omega arith | inr c ↦ omega arith ] ] ]

          at_five : (n : ℕ) → IsMark n → n % 8 ≡ 5 → ⊥
          at_five n mark q = elim mark [ inl a ↦ omega arith | inr a ↦ elim a [ inl b ↦ omega arith | inr b ↦ elim b [ inl c ↦ omega arith | inr c ↦ omega arith ] ] ]

  finish : (won : Bool) (x : Exchange) → h.lane.tried ≡ Some x → won ≡ eqb x.found x.grant.lazy → After (put word (state_at h.number) (cond won 4 5)) (hart_after (kinds.Finish h.number won) h state)
  finish won x is won_is =
      let a : Answered state (row h.number) h.lane = tried_if state (row h.number) h.lane x is h.lane.calling r.stage in
      let three : state ≡ 3 = (a.tried x is).0 in
      let y : ℕ = cond won 4 5 in
      let h' : HartView = hart_after (kinds.Finish h.number won) h state in
      states_step y h' (push_quiet h.trail Done refl)
      (restate known locked count word (put word (state_at h.number) y) s.winner h.number (row h.number) h.lane.tried h'.lane.tried (exchanges h.number) (values_stay y)
      (λ none' t. not_open won (sym (state_is y) ∙ t))
      (λ g p value w value_is w_is o f. subst (λ n. Fated value n w h.number h'.lane.tried (exchanges h.number) g) (sym (state_is y))
      (fated h'.lane.tried won (sym won_is) g value w value_is w_is o (opened state three w g value f)))
      old)
    where
      not_open : (won : Bool) → given_back won ≡ 3 → ⊥
      not_open true e = omega arith
      not_open false e = omega arith

      opened : (n : ℕ) → n ≡ 3 → (w : Winner) (g : Grant) (value : ℕ) → Fated value n w h.number h.lane.tried (exchanges h.number) g → IsOpen w h.number h.lane.tried (exchanges h.number) g
      opened n three w g value f = elim f [
        | inl o ↦ o.1
        | inr f ↦ elim f [
          | inl a ↦ (let q = a.0 in absurd (omega arith))
          | inr b ↦ (let q = b.0 in absurd (omega arith))
        ]
      ]

      fated : (t : Option Exchange) (won : Bool) → eqb x.found x.grant.lazy ≡ won → (g : Grant) (value : ℕ) (w : Winner) → value ≡ word (value_at (place_of g.entry.slot)) → w ≡ s.winner (place_of g.entry.slot) → IsOf known (place_of g.entry.slot) g
          → IsOpen w h.number h.lane.tried (exchanges h.number) g → Fated value (cond won 4 5) w h.number t (exchanges h.number) g
      fated t won won_is g value w value_is w_is o is_open = go won won_is
        where
          made : (x.grant ≡ g) × Contains (exchanges h.number) x
          made = is_open.made x is

          did : Did (word (value_at (place_of g.entry.slot))) (known (place_of g.entry.slot)).lazy (s.winner (place_of g.entry.slot)) h.number x
          did = subst (λ (q : Grant). Did (word (value_at (place_of q.entry.slot))) (known (place_of q.entry.slot)).lazy (s.winner (place_of q.entry.slot)) h.number x) made.0
              (s.each_exchange h.number few x made.1 (subst (λ (q : Grant). IsOf known (place_of q.entry.slot) q) (sym made.0) o))

          go : (won : Bool) → eqb x.found x.grant.lazy ≡ won → Fated value (cond won 4 5) w h.number t (exchanges h.number) g
          go true e = inr (inl (refl, w_is ∙ (did.won (eqb-true x.found x.grant.lazy e) ∙ ap (λ q. Some (h.number, q)) made.0)))
          go false e =
              let apart : x.found ≢ x.grant.lazy = eqb-false x.found x.grant.lazy e in
              let lost = did.lost apart in
              inr (inr (
                refl,
                (λ q. lost.0 (sym w_is ∙ (q ∙ ap (λ q. Some (h.number, q)) (sym made.0)))),
                (λ q. did.not_lazy (sym value_is ∙ (q ∙ (ap (λ (q : Grant). q.lazy) (sym made.0) ∙ did.lazy_is)))),
                (x.found, (λ q. apart (q ∙ ap (λ (q : Grant). q.lazy) (sym made.0))), subst (Contains (exchanges h.number)) (λ i. record { grant = made.0 i; found = x.found }) made.1),
              ))

  -- ---- the exchange

  -- the grant in the row is the one whose fate the keeper doesn't know
  pub record Aim (g : Grant) : Type 0 where
    pub three : state ≡ 3
    pub is_pending : (row h.number).pending ≡ Some g
    pub posted : let d = place_of g.entry.slot in IsPending known locked (word (value_at d)) state (s.winner d) h.number (row h.number) h.lane.tried (exchanges h.number) g
    pub is_open : IsOpen (s.winner (place_of g.entry.slot)) h.number h.lane.tried (exchanges h.number) g

  pub aims_at : (g : Grant) → HartReady (kinds.Exchange g) h → Aim g
  aims_at g ready = at (row h.number).pending refl
    where
      o : Offer
      o = ready.2.0

      a : Answered state (row h.number) h.lane
      a = answered_if state (row h.number) h.lane ready.2.0 ready.2.1 h.lane.calling r.stage

      read : (state ≡ g.entry.mark) × (g.entry ≡ entry_of state (row h.number))
      read = read_entry state (row h.number) h.lane ready.2.0 g.entry a ready.2.1 ready.2.2.0

      three : state ≡ 3
      three = read.0 ∙ ready.1

      lazy : g.lazy ≡ (row h.number).lazy
      lazy = (a.offer ready.2.0 ready.2.1).1 Lazy g.lazy ready.2.2.1

      same : g ≡ grant_in (row h.number)
      same i = record { entry = (read.1 ∙ ap (λ s. entry_of s (row h.number)) three) i; lazy = lazy i }

      opened : (n : ℕ) → n ≡ 3 → (p : Grant) (w : Winner) (value : ℕ) → Fated value n w h.number h.lane.tried (exchanges h.number) p → IsOpen w h.number h.lane.tried (exchanges h.number) p
      opened n is p w value f = elim f [
        | inl f ↦ f.1
        | inr f ↦ elim f [
          | inl f ↦ (let q = f.0 in absurd (omega arith))
          | inr f ↦ (let q = f.0 in absurd (omega arith))
        ]
      ]

      at : (p : Option Grant) → (row h.number).pending ≡ p → Aim g
      at None e = absurd (old.closed e three)
      at (Some p) e =
          let posted : IsPending known locked (word (value_at (place_of p.entry.slot))) state (s.winner (place_of p.entry.slot)) h.number (row h.number) h.lane.tried (exchanges h.number) p = old.pending p e in
          let is_open : IsOpen (s.winner (place_of p.entry.slot)) h.number h.lane.tried (exchanges h.number) p = opened state three p (s.winner (place_of p.entry.slot)) (word (value_at (place_of p.entry.slot))) posted.fate in
          let it : p ≡ g = posted.in_row ∙ sym same in
          subst Aim it (record { three = three; is_pending = e; posted = posted; is_open = is_open })

  -- the slot of the grant in the row is a doubleword of guest memory
  pub find_tells : (i : RowWord) → (o : Option Offer) → h.lane.offer ≡ o → FindTells i o (word (row_at h.number (index_of i)))
  find_tells Slot (Some o) has = λ mark. let a : Answered state (row h.number) h.lane = answered_if state (row h.number) h.lane o has h.lane.calling r.stage in
      subst IsDoubleword (sym (r.fields Slot)) (in_memory (sym (a.offer o has).0 ∙ mark) (row h.number).pending refl)
    where
      of_slot : (d n : ℕ) → n ≡ address_of d → d < doublewords → IsDoubleword n
      of_slot d n is low = ((let q = is in omega arith, subst (λ e. e < doublewords) (sym (ap place_of is ∙ place_at d)) low), let q = is in omega arith)

      in_memory : state ≡ 3 → (p : Option Grant) → (row h.number).pending ≡ p → IsDoubleword (row h.number).slot
      in_memory three None e = absurd (old.closed e three)
      in_memory three (Some g) e =
          let d : ℕ = place_of g.entry.slot in
          let posted : IsPending known locked (word (value_at d)) state (s.winner d) h.number (row h.number) h.lane.tried (exchanges h.number) g = old.pending g e in
          subst (λ (q : Grant). IsDoubleword q.entry.slot) posted.in_row (of_slot d g.entry.slot posted.of_slot.1 posted.of_slot.0.0)
  find_tells Slot None has = tt
  find_tells Number o has = tt
  find_tells Lazy o has = tt
  find_tells Value o has = tt
  find_tells Generation o has = tt

  -- what is new where the exchange left the value v' and the winner w'
  record Left (g : Grant) (v' : ℕ) (w' : Winner) (e : Exchange) : Type 0 where
    pub slot : SlotIs v' known count row (put exchanges h.number (exchanges h.number ++ e ∷ [])) w' (place_of g.entry.slot)
    pub did : Did v' (known (place_of g.entry.slot)).lazy w' h.number e
    pub fates : (j : ℕ) → j < harts_at_most → j ≢ h.number → (p : Grant) → p.lazy ≡ (known (place_of g.entry.slot)).lazy
        → Fated (word (value_at (place_of g.entry.slot))) (word (state_at j)) (s.winner (place_of g.entry.slot)) j (tried j) (exchanges j) p
        → Fated v' (word (state_at j)) w' j (tried j) (exchanges j) p
    pub before : (j : ℕ) (x : Exchange) → Did (word (value_at (place_of g.entry.slot))) (known (place_of g.entry.slot)).lazy (s.winner (place_of g.entry.slot)) j x → Did v' (known (place_of g.entry.slot)).lazy w' j x

  exchange_leaves : (g : Grant) (v' : ℕ) (w' : Winner) → HartReady (kinds.Exchange g) h → Aim g → Left g v' w' (record { grant = g; found = word (value_at (place_of g.entry.slot)) })
      → After (put word (value_at (place_of g.entry.slot)) v') (hart_after (kinds.Exchange g) h (word (value_at (place_of g.entry.slot))))
  exchange_leaves g v' w' ready aim left =
      subst (λ (f : ℕ → List Exchange). Slots word' known locked count row (put tried h.number (Some e)) f) (ap (λ xs. put exchanges h.number xs) (ap (λ xs. xs ++ e ∷ []) trail_is ∙ sym (exchanges_push h.trail (Exchanged e)))) (record {
        winner = winner';
        each_slot = λ n here. dite (ℕ_discrete n d)
            (λ (same : n ≡ d). subst (λ n. SlotIs (word' (value_at n)) known count row exchanges' (winner' n) n) (sym same)
            (subst (λ (p : ℕ × Winner). SlotIs p.0 known count row exchanges' p.1 d) (λ i. (sym (put_here word (value_at d) v') i, sym (put_here s.winner d w') i)) left.slot))
            (λ (apart : n ≢ d). subst (λ (p : ℕ × Winner). SlotIs p.0 known count row exchanges' p.1 n) (λ i. (sym (value_else n apart) i, sym (put_else s.winner d w' n apart) i)) (slot_more n (s.each_slot n here)));
        each_hart = λ j low. dite (ℕ_discrete j m)
            (λ (same : j ≡ m). subst (λ j. GrantsAre known locked count word' winner' j (row j) (put tried m (Some e) j) (exchanges' j)) (sym same)
            (subst (λ (p : Option Exchange × List Exchange). GrantsAre known locked count word' winner' m (row m) p.0 p.1) (λ i. (sym (put_here tried m (Some e)) i, sym (put_here exchanges m (exchanges m ++ e ∷ [])) i)) mine'))
            (λ (apart : j ≢ m). subst (λ (p : Option Exchange × List Exchange). GrantsAre known locked count word' winner' j (row j) p.0 p.1) (λ i. (sym (put_else tried m (Some e) j apart) i, sym (put_else exchanges m (exchanges m ++ e ∷ []) j apart) i)) (others j low apart));
        each_exchange = λ j low x c o. dite (ℕ_discrete j m)
            (λ (same : j ≡ m). ⊎_elim
            (λ (was : Contains (exchanges m) x). did_before j x (s.each_exchange j low x (subst (λ n. Contains (exchanges n) x) (sym same) was) o))
            (λ (new : e ≡ x). subst (λ (p : ℕ × Exchange). Did (word' (value_at (place_of p.1.grant.entry.slot))) (known (place_of p.1.grant.entry.slot)).lazy (winner' (place_of p.1.grant.entry.slot)) p.0 p.1) (λ i. (sym same i, new i))
            (subst (λ (p : ℕ × Winner). Did p.0 (known d).lazy p.1 m e) (λ i. (sym (put_here word (value_at d) v') i, sym (put_here s.winner d w') i)) left.did))
            (Contains-push_cases (exchanges m) e x (subst (λ xs. Contains xs x) (ap exchanges' same ∙ put_here exchanges m (exchanges m ++ e ∷ [])) c)))
            (λ (apart : j ≢ m). did_before j x (s.each_exchange j low x (subst (λ xs. Contains xs x) (put_else exchanges m (exchanges m ++ e ∷ []) j apart) c) o));
        no_more = s.no_more;
      })
    where
      m : ℕ
      m = h.number

      d : ℕ
      d = place_of g.entry.slot

      e : Exchange
      e = record { grant = g; found = word (value_at d) }

      word' : ℕ → ℕ
      word' = put word (value_at d) v'

      winner' : ℕ → Winner
      winner' = put s.winner d w'

      exchanges' : ℕ → List Exchange
      exchanges' = put exchanges m (exchanges m ++ e ∷ [])

      value_else : (n : ℕ) → n ≢ d → word' (value_at n) ≡ word (value_at n)
      value_else n apart = put_else word (value_at d) v' (value_at n) (λ (q : value_at n ≡ value_at d). apart (omega arith))

      state_else : (j : ℕ) → j < harts_at_most → word' (state_at j) ≡ word (state_at j)
      state_else j low = put_else word (value_at d) v' (state_at j) (λ (q : state_at j ≡ value_at d). omega arith)

      more : (j : ℕ) (x : Exchange) → Contains (exchanges j) x → Contains (exchanges' j) x
      more j x c = put_each (λ n xs. Contains (exchanges n) x → Contains xs x) exchanges m (exchanges m ++ e ∷ []) (λ n _ c. c) (λ c. Contains-append_left (exchanges m) (e ∷ []) x c) j c

      slot_more : (n : ℕ) → SlotIs (word (value_at n)) known count row exchanges (s.winner n) n → SlotIs (word (value_at n)) known count row exchanges' (s.winner n) n
      slot_more n o = record { since = o.since; image = o.image; bound = o.bound; by = λ j p is. ((o.by j p is).0, (o.by j p is).1, more j (record { grant = p; found = p.lazy }) (o.by j p is).2); lazy = o.lazy; leads = o.leads; fixed = o.fixed }

      did_before : (j : ℕ) (x : Exchange) → (let n = place_of x.grant.entry.slot in Did (word (value_at n)) (known n).lazy (s.winner n) j x) → (let n = place_of x.grant.entry.slot in Did (word' (value_at n)) (known n).lazy (winner' n) j x)
      did_before j x = at (place_of x.grant.entry.slot)
        where
          at : (n : ℕ) → Did (word (value_at n)) (known n).lazy (s.winner n) j x → Did (word' (value_at n)) (known n).lazy (winner' n) j x
          at n did = dite (ℕ_discrete n d)
              (λ (same : n ≡ d). subst (λ n. Did (word' (value_at n)) (known n).lazy (winner' n) j x) (sym same)
              (subst (λ (p : ℕ × Winner). Did p.0 (known d).lazy p.1 j x) (λ i. (sym (put_here word (value_at d) v') i, sym (put_here s.winner d w') i))
              (left.before j x (subst (λ n. Did (word (value_at n)) (known n).lazy (s.winner n) j x) same did))))
              (λ (apart : n ≢ d). subst (λ (p : ℕ × Winner). Did p.0 (known n).lazy p.1 j x) (λ i. (sym (value_else n apart) i, sym (put_else s.winner d w' n apart) i)) did)

      others : (j : ℕ) → j < harts_at_most → j ≢ m → GrantsAre known locked count word' winner' j (row j) (tried j) (exchanges j)
      others j low apart = let o : GrantsAre known locked count word s.winner j (row j) (tried j) (exchanges j) = s.each_hart j low in record {
        closed = λ none' t. o.closed none' (sym (state_else j low) ∙ t);
        pending = λ p is. let n : ℕ = place_of p.entry.slot in let q : IsPending known locked (word (value_at n)) (word (state_at j)) (s.winner n) j (row j) (tried j) (exchanges j) p = o.pending p is in record {
          in_row = q.in_row;
          of_slot = q.of_slot;
          free = q.free;
          lazy_is = q.lazy_is;
          other = q.other;
          fate = subst (λ n'. Fated (word' (value_at n)) n' (winner' n) j (tried j) (exchanges j) p) (sym (state_else j low)) (fate_at j low apart p n q.lazy_is q.fate);
        };
        won = o.won;
        lost = o.lost;
        counted = o.counted;
        granted = o.granted;
        rising = o.rising;
      }
        where
          fate_at : (j : ℕ) → j < harts_at_most → j ≢ m → (p : Grant) (n : ℕ) → p.lazy ≡ (known n).lazy → Fated (word (value_at n)) (word (state_at j)) (s.winner n) j (tried j) (exchanges j) p
              → Fated (word' (value_at n)) (word (state_at j)) (winner' n) j (tried j) (exchanges j) p
          fate_at j low apart p n lazy f = dite (ℕ_discrete n d)
              (λ (same : n ≡ d). subst (λ n. Fated (word' (value_at n)) (word (state_at j)) (winner' n) j (tried j) (exchanges j) p) (sym same)
              (subst (λ (q : ℕ × Winner). Fated q.0 (word (state_at j)) q.1 j (tried j) (exchanges j) p) (λ i. (sym (put_here word (value_at d) v') i, sym (put_here s.winner d w') i))
              (left.fates j low apart p (lazy ∙ ap (λ n. (known n).lazy) same) (subst (λ n. Fated (word (value_at n)) (word (state_at j)) (s.winner n) j (tried j) (exchanges j) p) same f))))
              (λ (other : n ≢ d). subst (λ (q : ℕ × Winner). Fated q.0 (word (state_at j)) q.1 j (tried j) (exchanges j) p) (λ i. (sym (value_else n other) i, sym (put_else s.winner d w' n other) i)) f)

      mine' : GrantsAre known locked count word' winner' m (row m) (Some e) (exchanges m ++ e ∷ [])
      mine' = record {
        closed = λ none' t. old.closed none' (sym (state_else m few) ∙ t);
        pending = λ p is. let q : Some g ≡ Some p = sym aim.is_pending ∙ is in let same : g ≡ p = cc in
            subst (λ (p : Grant). let n = place_of p.entry.slot in IsPending known locked (word' (value_at n)) (word' (state_at m)) (winner' n) m (row m) (Some e) (exchanges m ++ e ∷ []) p) same (record {
              in_row = aim.posted.in_row;
              of_slot = aim.posted.of_slot;
              free = aim.posted.free;
              lazy_is = aim.posted.lazy_is;
              other = aim.posted.other;
              fate = inl (
                state_else m few ∙ aim.three,
                record {
                  untried = λ t. let z : Some e ≡ None = t in absurd (cc);
                  new = λ t. let z : Some e ≡ None = t in absurd (cc);
                  made = λ x t. let z : Some e ≡ Some x = t in let same : e ≡ x = cc in subst (λ (x : Exchange). (x.grant ≡ g) × Contains (exchanges m ++ e ∷ []) x) same (refl, Contains-push (exchanges m) e);
                },
              );
            });
        won = λ p c. Contains-append_left (exchanges m) (e ∷ []) (record { grant = p; found = p.lazy }) (old.won p c);
        lost = λ p c. let l = old.lost p c in (l.0, l.1, Contains-append_left (exchanges m) (e ∷ []) (record { grant = p; found = l.0 }) l.2);
        counted = old.counted;
        granted = λ x c. ⊎_elim (λ (was : Contains (exchanges m) x). old.granted x was) (λ (new : e ≡ x). inl (aim.is_pending ∙ ap (λ (x : Exchange). Some x.grant) new)) (Contains-push_cases (exchanges m) e x c);
        rising = rising_push (exchanges m) e old.rising (aim.is_open.new ready.0);
      }

  exchange_step : (g : Grant) → HartReady (kinds.Exchange g) h → (b : Bool) → eqb (word (value_at (place_of g.entry.slot))) g.lazy ≡ b
      → After (put word (value_at (place_of g.entry.slot)) (either b g.entry.value (word (value_at (place_of g.entry.slot))))) (hart_after (kinds.Exchange g) h (word (value_at (place_of g.entry.slot))))
  exchange_step g ready false miss =
      let aim : Aim g = aims_at g ready in
      let d : ℕ = place_of g.entry.slot in
      let n : ℕ = word (value_at d) in
      let e : Exchange = record { grant = g; found = n } in
      let apart : n ≢ g.lazy = eqb-false n g.lazy miss in
      let o : SlotIs n known count row exchanges (s.winner d) d = s.each_slot d aim.posted.of_slot.0 in
      exchange_leaves g n (s.winner d) ready aim (record {
        slot = record { since = o.since; image = o.image; bound = o.bound; by = λ j p is. ((o.by j p is).0, (o.by j p is).1, more e j p (o.by j p is).2); lazy = o.lazy; leads = o.leads; fixed = o.fixed };
        did = record { lazy_is = aim.posted.lazy_is; not_lazy = λ q. apart (q ∙ sym aim.posted.lazy_is); won = λ q. absurd (apart q); lost = λ _. (aim.is_open.untried ready.0, refl) };
        fates = λ j low other p lazy f. f;
        before = λ j x did. did;
      })
    where
      more : (e : Exchange) (j : ℕ) (p : Grant) → HasWon (exchanges j) p → HasWon (put exchanges h.number (exchanges h.number ++ e ∷ []) j) p
      more e j p c = put_each (λ n xs. HasWon (exchanges n) p → HasWon xs p) exchanges h.number (exchanges h.number ++ e ∷ []) (λ n _ c. c) (λ c. Contains-append_left (exchanges h.number) (e ∷ []) (record { grant = p; found = p.lazy }) c) j c
  exchange_step g ready true hit =
      let aim : Aim g = aims_at g ready in
      let d : ℕ = place_of g.entry.slot in
      let n : ℕ = word (value_at d) in
      let e : Exchange = record { grant = g; found = n } in
      let same : n ≡ g.lazy = eqb-true n g.lazy hit in
      let o : SlotIs n known count row exchanges (s.winner d) d = s.each_slot d aim.posted.of_slot.0 in
      let none' : s.winner d ≡ None = nobody n d (s.winner d) refl o (same ∙ aim.posted.lazy_is) in
      exchange_leaves g g.entry.value (Some (h.number, g)) ready aim (record {
        slot = record {
          since = o.since;
          image = λ q. let z : Some (h.number, g) ≡ None = q in absurd (cc);
          bound = λ j p q. let z : Some (h.number, g) ≡ Some (j, p) = q in let y : (h.number, g) ≡ (j, p) = cc in
              subst (λ (x : ℕ × Grant). (g.entry.value ≡ x.1.entry.value) × (x.1.entry.value ≢ x.1.lazy) × (x.1.lazy ≡ (known d).lazy)) y (refl, aim.posted.other, aim.posted.lazy_is);
          by = λ j p q. let z : Some (h.number, g) ≡ Some (j, p) = q in let y : (h.number, g) ≡ (j, p) = cc in
              subst (λ (x : ℕ × Grant). IsOf known d x.1 × Stands (row x.0) x.1 × HasWon (put exchanges h.number (exchanges h.number ++ e ∷ []) x.0) x.1) y (
                aim.posted.of_slot,
                inl aim.is_pending,
                subst (λ xs. HasWon xs g) (sym (put_here exchanges h.number (exchanges h.number ++ e ∷ [])))
                    (subst (λ f. Contains (exchanges h.number ++ e ∷ []) (record { grant = g; found = f })) same (Contains-push (exchanges h.number) e)),
              );
          lazy = λ j p _. sym (o.image none') ∙ (same ∙ aim.posted.lazy_is);
          leads = o.leads;
          fixed = λ x q. let f = o.fixed x q in absurd (f.1 (sym f.0 ∙ (same ∙ aim.posted.lazy_is)));
        };
        did = record { lazy_is = aim.posted.lazy_is; not_lazy = λ q. aim.posted.other (q ∙ sym aim.posted.lazy_is); won = λ _. refl; lost = λ q. absurd (q same) };
        fates = λ j low other p lazy f. refated g d n j other p (lazy ∙ sym aim.posted.lazy_is) aim.posted.other none' f;
        before = λ j x did. absurd (did.not_lazy (same ∙ aim.posted.lazy_is));
      })
    where
      nobody : (n d : ℕ) (w : Winner) → s.winner d ≡ w → SlotIs n known count row exchanges (s.winner d) d → n ≡ (known d).lazy → s.winner d ≡ None
      nobody n d None is o lazy = is
      nobody n d (Some (j, p)) is o lazy = let b = o.bound j p is in absurd (b.1 (sym b.0 ∙ (lazy ∙ sym b.2)))

      refated : (g : Grant) (d n j : ℕ) → j ≢ h.number → (p : Grant) → p.lazy ≡ g.lazy → g.entry.value ≢ g.lazy → s.winner d ≡ None → Fated n (word (state_at j)) (s.winner d) j (tried j) (exchanges j) p
          → Fated g.entry.value (word (state_at j)) (Some (h.number, g)) j (tried j) (exchanges j) p
      refated g d n j apart p lazy other none' f = elim f [
        | inl o ↦ inl (o.0, record { untried = λ _. not_me g p j apart; new = o.1.new; made = o.1.made })
        | inr f ↦ elim f [
          | inl a ↦ (let q : None ≡ Some (j, p) = sym none' ∙ a.1 in absurd (cc))
          | inr b ↦ inr (inr (b.0, not_me g p j apart, (λ q. other (q ∙ lazy)), b.3))
        ]
      ]
        where
          not_me : (g p : Grant) (j : ℕ) → j ≢ h.number → winning h.number g ≢ winning j p
          not_me g p j apart q = let z : Some (h.number, g) ≡ Some (j, p) = q in let y : (h.number, g) ≡ (j, p) = cc in apart (sym (ap (λ (x : ℕ × Grant). x.0) y))

  -- ---- the kinds

  arrived_tried : (n : ℕ) (b : Bool) → (arrived_if n b h.lane).tried ≡ h.lane.tried
  arrived_tried n true = refl
  arrived_tried n false = refl

  abbrev KeepsSlots : HartKind → Type 0
  KeepsSlots kind = HartReady kind h → After (put word (hart_word kind) (becomes (hart_op kind) (word (hart_word kind)))) (hart_after kind h (word (hart_word kind)))

  pub hart_slots : (kind : HartKind) → KeepsSlots kind
  hart_slots (kinds.Look ask) ready =
      let n : ℕ = word (control_at (ask_place ask)) in
      quiet (put word (control_at (ask_place ask)) n) (looked ask n (heeded h))
      (ap (λ (l : Lane). l.tried) (glanced_lane ask n (lock_bit n == 1) (permits ask (role_in n)) (ask_is_fresh ask n) (heeded h)))
      (glanced_exchanges ask n (lock_bit n == 1) (permits ask (role_in n)) (ask_is_fresh ask n) (heeded h))
      (at_control (ask_place ask) n)
  hart_slots (kinds.Load ask) ready = quiet (put word (value_at (load_place ask)) (word (value_at (load_place ask)))) (hart_after (kinds.Load ask) h (word (value_at (load_place ask)))) refl (push_quiet h.trail _ refl) (same_word (value_at (load_place ask)))
  hart_slots (kinds.Hold ask) ready = quiet (put word (value_at (store_place ask)) (word (value_at (store_place ask)))) (hart_after (kinds.Hold ask) h (word (value_at (store_place ask)))) refl refl (same_word (value_at (store_place ask)))
  hart_slots (kinds.Lock ask control) ready =
      let n : ℕ = word (control_at (store_place ask)) in
      let x : ℕ = becomes (hart_op (kinds.Lock ask control)) n in
      quiet (put word (control_at (store_place ask)) x) (locked_if ask control n (eqb n control) (heeded h)) (ap (λ (l : Lane). l.tried) (locked_lane ask control n (eqb n control) (heeded h))) (locked_exchanges ask control n (eqb n control) (heeded h)) (at_control (store_place ask) x)
  hart_slots (kinds.Store ask x) ready = quiet (put word (value_at (store_place ask)) x) (hart_after (kinds.Store ask x) h (word (value_at (store_place ask)))) refl (push_quiet h.trail _ refl) (at_locked (store_place ask) x ready.0)
  hart_slots (kinds.Unlock d) ready = quiet (put word (control_at d) ((word (control_at d) + 8) % 18446744073709551616)) (hart_after (kinds.Unlock d) h (word (control_at d))) refl refl (at_control d ((word (control_at d) + 8) % 18446744073709551616))
  hart_slots kinds.Tally ready = quiet (put word 2 (word 2)) (hart_after kinds.Tally h (word 2)) refl refl (low_word 2 (word 2) (omega arith))
  hart_slots (kinds.Begin n) ready = subst (λ n. After (put word (state_at n) ((word (state_at n) + 8) % 18446744073709551616)) (hart_after (kinds.Begin n) h (word (state_at n)))) (sym ready.0) (begin ready.1)
  hart_slots (kinds.Arrive n) ready = quiet (put word (state_at n) (word (state_at n))) (hart_after (kinds.Arrive n) h (word (state_at n))) (arrived_tried (word (state_at n)) (nat_lt (word (state_at n)) 8)) refl (same_word (state_at n))
  hart_slots (kinds.Find n i) ready = quiet (put word (row_at n (index_of i)) (word (row_at n (index_of i)))) (hart_after (kinds.Find n i) h (word (row_at n (index_of i)))) refl refl (same_word (row_at n (index_of i)))
  hart_slots (kinds.Exchange g) ready = exchange_step g ready (eqb (word (value_at (place_of g.entry.slot))) g.lazy) refl
  hart_slots (kinds.Accept n e) ready = subst (λ n. After (put word (state_at n) 0) (hart_after (kinds.Accept n e) h (word (state_at n)))) (sym ready.0) (accept e (refl, ready.1, ready.2))
  hart_slots (kinds.Finish n won) ready = subst (λ n. After (put word (state_at n) (given_back won)) (hart_after (kinds.Finish n won) h (word (state_at n)))) (sym ready.0) (finish won ready.1.0 ready.1.1 ready.1.2)
  hart_slots (kinds.Generation number) ready = quiet (put word 1 (word 1)) (hart_after (kinds.Generation number) h (word 1)) refl (push_quiet h.trail _ refl) (low_word 1 (word 1) (omega arith))
  hart_slots kinds.Listen ready = quiet (put word 0 (word 0)) (hart_after kinds.Listen h (word 0)) refl refl (low_word 0 (word 0) (omega arith))
