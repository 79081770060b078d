-- The part on slots and grants, over the steps of the keeper.
use Rattle.std.proofs.Common.{◌≡◌, ◌≢◌, ◌⊎◌, ⊎_elim, inl, inr, ℕ, ◌+◌, ◌%◌, ◌≤◌, ◌<◌, Bool, true, false, eqb, eqb-true, nat_le, List, [], ◌∷◌, length, map, length-append, Option, Some, None, Contains, refl, sym, ap, subst, ◌∙◌, arith, slice_index_or, slice_set}
use Rattle.std.proofs.lemmas.List.Elements.{Contains-append_left, Contains-push, Contains-push_cases}
use Rattle.std.proofs.lemmas.Bool.{eqb-false}
use mathlib.Core.Logic.{dite}
use native.Mathlib.Decide.{ℕ_discrete}
use Rattle.ld_base.specs.declared.linking.Role.{Role}
use Rattle.ld_base.specs.declared.linking.Role.TheVariants.{None as NoRole, Ro, Rx, Rw, Slot as SlotRole}
use Rattle.word_rule.specs.declared.entry.Exchange.{Exchange}
use Rattle.word_rule.specs.declared.entry.Grant.{Grant}
use Rattle.word_rule.specs.declared.entry.RowWord.{RowWord}
use Rattle.word_rule.specs.declared.entry.RowWord.TheVariants.{Number, Slot, Lazy, Value, Generation}
use Rattle.word_rule.specs.declared.kind.KeeperKind.{KeeperKind}
use Rattle.word_rule.specs.declared.kind.KeeperKind.TheVariants as kinds
use Rattle.word_rule.specs.declared.view.Fate.{Fate}
use Rattle.word_rule.specs.declared.view.Fate.TheVariants.{Won, Lost}
use Rattle.word_rule.specs.declared.view.HartView.{HartView}
use Rattle.word_rule.specs.declared.view.KeeperView.{KeeperView}
use Rattle.word_rule.specs.declared.view.Kept.{Kept}
use Rattle.word_rule.specs.declared.view.Row.{Row}
use Rattle.word_rule.specs.declared.view.Settled.{Settled}
use Rattle.word_rule.specs.Layout.{doublewords, harts_at_most, address_of, place_of, row_at, state_at, value_at, control_at, index_of}
use Rattle.word_rule.specs.Views.{put, grant_in, kept_at, no_row, row_of, with_field, unmapped}
use Rattle.word_rule.specs.Operations.{becomes}
use Rattle.word_rule.specs.KeeperSteps.{HasEnded, KeeperReady, KeeperLearns, asked, asked_if, awaited_if, fixed_by, fixed_if, handed, heeding, keeper_word, keeper_op, keeper_after, keeps_if, not_found, opened, settled_as}
use Rattle.word_rule.specs.Allowed.{IsDecided, IsAllowed, IsOf, IsPostable, IsSlot, LeadsTo, Stands}
use Rattle.word_rule.specs.Slots.{Did, Fated, GrantsAre, HasLost, HasWon, IsGrant, IsPending, SlotIs, Slots, Winner}
use Rattle.word_rule.specs.Lemmas.Heeding.{known_same, unseen}
use Rattle.word_rule.specs.Lemmas.Put.{put_here, put_else, put_same, set_put, ext}
use Rattle.word_rule.specs.Lemmas.HartLocks.{unmoved}
use Rattle.word_rule.specs.Lemmas.KeeperCalls.{map_row, map_long}
use Rattle.word_rule.specs.Lemmas.HartLocks.{low_index}
use Rattle.word_rule.specs.Lemmas.Rows.{field_since}
use Rattle.word_rule.specs.Lemmas.SlotFrames.{at_place, FewerSlots, SameSlots, beside_slots, fewer, row_changes}

-- ---- what is known of one hart's grants, over a change of its row that leaves them

record SameRow (word word' : ℕ → ℕ) (known : ℕ → Kept) (count m : ℕ) (row row' : Row) : Type 0 where
  pub values : (d : ℕ) → IsSlot known d → word' (value_at d) ≡ word (value_at d)
  pub closed : row.pending ≡ None → word' (state_at m) ≢ 3
  pub state : (g : Grant) → row.pending ≡ Some g → (word' (state_at m) ≡ word (state_at m)) × (grant_in row ≡ grant_in row')
  pub pending : row'.pending ≡ row.pending
  pub settled : row'.settled ≡ row.settled
  pub since : (n : ℕ) → n ≤ count → ((c : ℕ) → row.since ≡ Some c → n ≤ c) → (c : ℕ) → row'.since ≡ Some c → n ≤ c

was_grant : (row row' : Row) (g : Grant) → row'.pending ≡ row.pending → row'.settled ≡ row.settled → IsGrant row' g → IsGrant row g
was_grant row row' g p q h = ⊎_elim (λ (e : row'.pending ≡ Some g). inl (sym p ∙ e)) (λ (c : (f : Fate) × Contains row'.settled (record { grant = g; fate = f })). inr (c.0, subst (λ l. Contains l (record { grant = g; fate = c.0 })) q c.1)) h

stood : (row row' : Row) (g : Grant) → row'.pending ≡ row.pending → row'.settled ≡ row.settled → Stands row' g → Stands row g
stood row row' g p q h = ⊎_elim (λ (e : row'.pending ≡ Some g). inl (sym p ∙ e)) (λ (c : Contains row'.settled (record { grant = g; fate = Won })). inr (subst (λ l. Contains l (record { grant = g; fate = Won })) q c)) h

regrant : (word word' : ℕ → ℕ) (known : ℕ → Kept) (locked : Option ℕ) (count : ℕ) (winner : ℕ → Winner) (m : ℕ) (row row' : Row) (t : Option Exchange) (xs : List Exchange)
    → SameRow word word' known count m row row' → GrantsAre known locked count word winner m row t xs → GrantsAre known locked count word' winner m row' t xs
regrant word word' known locked count winner m row row' t xs same old = record {
  closed = λ e. same.closed (sym same.pending ∙ e);
  pending = λ g e.
      let d : ℕ = place_of g.entry.slot in
      let e' : row.pending ≡ Some g = sym same.pending ∙ e in
      let p : IsPending known locked (word (value_at d)) (word (state_at m)) (winner d) m row t xs g = old.pending g e' in record {
        in_row = p.in_row ∙ (same.state g e').1;
        of_slot = p.of_slot;
        free = p.free;
        lazy_is = p.lazy_is;
        other = p.other;
        fate = subst (λ (q : ℕ × ℕ). Fated q.0 q.1 (winner d) m t xs g) (λ i. (sym (same.values d p.of_slot.0) i, sym (same.state g e').0 i)) p.fate;
      };
  won = λ g c. old.won g (subst (λ l. Contains l (record { grant = g; fate = Won })) same.settled c);
  lost = λ g c. old.lost g (subst (λ l. Contains l (record { grant = g; fate = Lost })) same.settled c);
  counted = λ g h. let o = old.counted g (was_grant row row' g same.pending same.settled h) in (o.0, same.since g.entry.number o.0 o.1);
  granted = λ x c. was_grant row' row x.grant (sym same.pending) (sym same.settled) (old.granted x c);
  rising = old.rising;
}

-- ---- where values lead while a role changes

leads_same : (known : ℕ → Kept) (d : ℕ) (k' : Kept) (v : ℕ) → ((known d).role ≡ Rx → k'.role ≡ Rx) ⊎ ((v ≡ 0) ⊎ (place_of v ≢ d)) → LeadsTo known v → LeadsTo (put known d k') v
leads_same known d k' v why l = ⊎_elim (λ (zero' : v ≡ 0). inl zero') (λ h. dite (ℕ_discrete (place_of v) d)
    (λ (same : place_of v ≡ d). ⊎_elim
    (λ (stays : (known d).role ≡ Rx → k'.role ≡ Rx). inr (h.0, ap (λ (x : Kept). x.role) (ap (put known d k') same ∙ put_here known d k') ∙ stays (ap (λ n. (known n).role) (sym same) ∙ h.1)))
    (λ (out : (v ≡ 0) ⊎ (place_of v ≢ d)). ⊎_elim (λ (zero' : v ≡ 0). inl zero') (λ (apart : place_of v ≢ d). absurd (apart same)) out)
    why)
    (λ (apart : place_of v ≢ d). inr (h.0, ap (λ (x : Kept). x.role) (put_else known d k' (place_of v) apart) ∙ h.1))) l

-- the knowledge of a doubleword that is no slot, or is one no more, changes
no_slot : (word : ℕ → ℕ) (known : ℕ → Kept) (locked' : Option ℕ) (row : ℕ → Row) (d : ℕ) (k' : Kept) → k'.role ≢ SlotRole
    → ((m : ℕ) (g : Grant) → m < harts_at_most → (row m).pending ≡ Some g → let e = place_of g.entry.slot in IsSlot known e → (e ≢ d) × (locked' ≢ Some e))
    → ((e v : ℕ) → IsSlot known e → IsAllowed known row e v → ((known d).role ≡ Rx → k'.role ≡ Rx) ⊎ ((v ≡ 0) ⊎ (place_of v ≢ d)))
    → FewerSlots word known (put known d k') locked' row
no_slot word known locked' row d k' other posted leads = record {
  was = λ e here. let p = was' e here in (p.0, ap unseen p.1);
  posted = λ m g few e here. let p = posted m g few e here in ((here.0, ap (λ (x : Kept). x.role) (put_else known d k' (place_of g.entry.slot) p.0) ∙ here.1), p.1);
  leads = λ e v here a l. leads_same known d k' v (leads e v (was' e here).0 a) l;
  fixed = λ e x here is. inl (ap (λ (q : Kept). q.fixed) (sym (was' e here).1) ∙ is);
}
  where
    was' : (e : ℕ) → IsSlot (put known d k') e → IsSlot known e × (put known d k' e ≡ known e)
    was' e here = dite (ℕ_discrete e d)
        (λ (same : e ≡ d). absurd (other (ap (λ (x : Kept). x.role) (sym (ap (put known d k') same ∙ put_here known d k')) ∙ here.1)))
        (λ (apart : e ≢ d). ((here.0, ap (λ (x : Kept). x.role) (sym (put_else known d k' e apart)) ∙ here.1), put_else known d k' e apart))

module _ (word : ℕ → ℕ) (k : KeeperView) (tried : ℕ → Option Exchange) (exchanges : ℕ → List Exchange) (s : Slots word (kept_at k) k.access.locked (length k.events) (row_of k) tried exchanges)
    (words_known : length k.words ≡ doublewords) (rows_known : length k.rows ≡ harts_at_most) where
  abbrev After : (ℕ → ℕ) → KeeperView → Type 0
  After word' k' = Slots word' (kept_at k') k'.access.locked (length k'.events) (row_of k') tried exchanges

  aside : (i x : ℕ) → ((d : ℕ) → IsSlot (kept_at k) d → value_at d ≢ i) → ((m : ℕ) → m < harts_at_most → state_at m ≢ i) → SameSlots word (put word i x) (kept_at k)
  aside i x values states = record { values = λ d here. put_else word i x (value_at d) (values d here); states = λ m low. put_else word i x (state_at m) (states m low) }

  at_control : (d x : ℕ) → SameSlots word (put word (control_at d) x) (kept_at k)
  at_control d x = aside (control_at d) x (λ e here (q : value_at e ≡ control_at d). omega arith) (λ m low (q : state_at m ≡ control_at d). omega arith)

  low_word : (i x : ℕ) → i < 8 → SameSlots word (put word i x) (kept_at k)
  low_word i x low = aside i x (λ e here (q : value_at e ≡ i). omega arith) (λ m few' (q : state_at m ≡ i). omega arith)

  same_word : (i : ℕ) → SameSlots word (put word i (word i)) (kept_at k)
  same_word i = unmoved word i (λ f. SameSlots word f (kept_at k)) (record { values = λ d here. refl; states = λ m low. refl })

  -- what is locked changes, from or to nothing that a grant is of
  relocked : (word' : ℕ → ℕ) (locked' : Option ℕ) → SameSlots word word' (kept_at k)
      → ((m : ℕ) (g : Grant) → m < harts_at_most → (row_of k m).pending ≡ Some g → let d = place_of g.entry.slot in IsSlot (kept_at k) d → locked' ≢ Some d)
      → Slots word' (kept_at k) locked' (length k.events) (row_of k) tried exchanges
  relocked word' locked' same free = fewer word word' (kept_at k) (kept_at k) k.access.locked locked' (length k.events) (row_of k) tried exchanges same
      (record { was = λ d here. (here, refl); posted = λ m g few e here. (here, free m g few e here); leads = λ d v here a l. l; fixed = λ d x here e. inl e }) s

  nothing : (e : ℕ) → ¬ (None ≡ Some e)
  nothing e q = let h : None ≡ Some e = q in absurd (cc)

  moved : (d : ℕ) (x : Kept) (word' : ℕ → ℕ) (locked' : Option ℕ) → d < doublewords → Slots word' (put (kept_at k) d x) locked' (length k.events) (row_of k) tried exchanges
      → Slots word' (λ j. slice_index_or (slice_set k.words d x) j unmapped) locked' (length k.events) (row_of k) tried exchanges
  moved d x word' locked' low p = subst (λ (f : ℕ → Kept). Slots word' f locked' (length k.events) (row_of k) tried exchanges) (set_put k.words d x unmapped (subst (λ n. d < n) (sym words_known) low)) p

  locks : (d x : ℕ) (b : Bool) → ((kept_at k d).role ≡ SlotRole → (m : ℕ) (g : Grant) → (row_of k m).pending ≡ Some g → place_of g.entry.slot ≢ d) → After (put word (control_at d) x) (keeps_if d b (heeding k))
  locks d x false un = relocked (put word (control_at d) x) None (at_control d x) (λ m g few e here. nothing (place_of g.entry.slot))
  locks d x true un = relocked (put word (control_at d) x) (Some d) (at_control d x)
      (λ m g few e here q. let z : Some d ≡ Some (place_of g.entry.slot) = q in let same : d ≡ place_of g.entry.slot = cc in un (ap (λ n. (kept_at k n).role) same ∙ here.1) m g e (sym same))

  -- the keeper has locked no slot that a grant is of
  unposted : (d : ℕ) → k.access.locked ≡ Some d → (m : ℕ) (g : Grant) → m < harts_at_most → (row_of k m).pending ≡ Some g → place_of g.entry.slot ≢ d
  unposted d is m g few e same = ((s.each_hart m few).pending g e).free (is ∙ ap Some (sym same))

  stores : (d x : ℕ) → d < doublewords → k.access.locked ≡ Some d → (kept_at k d).role ≢ SlotRole
      → Slots (put word (value_at d) x) (λ j. slice_index_or (slice_set k.words d (record (kept_at k d) { value = x })) j unmapped) k.access.locked (length k.events) (row_of k) tried exchanges
  stores d x low is other = moved d (record (kept_at k d) { value = x }) (put word (value_at d) x) k.access.locked low
      (fewer word (put word (value_at d) x) (kept_at k) (put (kept_at k) d (record (kept_at k d) { value = x })) k.access.locked k.access.locked (length k.events) (row_of k) tried exchanges
      (aside (value_at d) x (λ e here (q : value_at e ≡ value_at d). let same : e ≡ d = omega arith in other (ap (λ n. (kept_at k n).role) (sym same) ∙ here.1)) (λ m few (q : state_at m ≡ value_at d). omega arith))
      (no_slot word (kept_at k) k.access.locked (row_of k) d (record (kept_at k d) { value = x }) other
      (λ m g few e here. (unposted d is m g few e, ((s.each_hart m few).pending g e).free))
      (λ e v here a. inl (λ q. q)))
      s)

  -- a doubleword is unlocked, and is no slot
  unlocks : (d x : ℕ) (k' : Kept) → d < doublewords → k.access.locked ≡ Some d → k'.role ≢ SlotRole
      → ((e v : ℕ) → IsSlot (kept_at k) e → IsAllowed (kept_at k) (row_of k) e v → ((kept_at k d).role ≡ Rx → k'.role ≡ Rx) ⊎ ((v ≡ 0) ⊎ (place_of v ≢ d)))
      → Slots (put word (control_at d) x) (λ j. slice_index_or (slice_set k.words d k') j unmapped) None (length k.events) (row_of k) tried exchanges
  unlocks d x k' low is other leads = moved d k' (put word (control_at d) x) None low
      (fewer word (put word (control_at d) x) (kept_at k) (put (kept_at k) d k') k.access.locked None (length k.events) (row_of k) tried exchanges (at_control d x)
      (no_slot word (kept_at k) None (row_of k) d k' other (λ m g few e here. (unposted d is m g few e, nothing (place_of g.entry.slot))) leads)
      s)

  -- ---- a new slot

  stands_low : (m : ℕ) (g : Grant) → Stands (row_of k m) g → m < harts_at_most
  stands_low m g st = go (native.Mathlib.Decide.dec_le harts_at_most m)
    where
      go : Dec (harts_at_most ≤ m) → m < harts_at_most
      go (yes high) = absurd (s.no_more m g high st)
      go (no low) = Rattle.std.proofs.Common.lt_of_not-le low

  new_slot : (d x : ℕ) (k' : Kept) → d < doublewords → k.access.locked ≡ Some d → (kept_at k d).role ≢ SlotRole → (kept_at k d).role ≢ Rx → k'.role ≡ SlotRole → k'.since ≡ length k.events → k'.fixed ≡ None → word (value_at d) ≡ k'.value
      → LeadsTo (kept_at k) k'.value
      → Slots (put word (control_at d) x) (put (kept_at k) d k') None (length k.events) (row_of k) tried exchanges
  new_slot d x k' low is other unread slot since fixed value leads = record {
    winner = winner';
    each_slot = λ e here. dite (ℕ_discrete e d)
        (λ (same : e ≡ d). subst (λ n. SlotIs (word' (value_at n)) known' (length k.events) (row_of k) exchanges (winner' n) n) (sym same) mine)
        (λ (apart : e ≢ d). subst (λ w. SlotIs (word' (value_at e)) known' (length k.events) (row_of k) exchanges w e) (sym (put_else s.winner d None e apart)) (old_slot e apart here));
    each_hart = hart_old;
    each_exchange = λ m few y c o. dite (ℕ_discrete (place_of y.grant.entry.slot) d)
        (λ (same : place_of y.grant.entry.slot ≡ d). absurd (too_new m few y.grant (made m few y c) (subst (λ n. IsOf known' n y.grant) same o)))
        (λ (apart : place_of y.grant.entry.slot ≢ d). subst (λ (p : ℕ × Kept × Winner). Did p.0 p.1.lazy p.2 m y)
        (λ i. (sym (value_same (place_of y.grant.entry.slot)) i, sym (put_else (kept_at k) d k' (place_of y.grant.entry.slot) apart) i, sym (put_else s.winner d None (place_of y.grant.entry.slot) apart) i))
        (s.each_exchange m few y c (was_of (place_of y.grant.entry.slot) y.grant apart o)));
    no_more = s.no_more;
  }
    where
      word' : ℕ → ℕ
      word' = put word (control_at d) x

      known' : ℕ → Kept
      known' = put (kept_at k) d k'

      winner' : ℕ → Winner
      winner' = put s.winner d None

      here' : known' d ≡ k'
      here' = put_here (kept_at k) d k'

      value_same : (e : ℕ) → word' (value_at e) ≡ word (value_at e)
      value_same e = put_else word (control_at d) x (value_at e) (λ (q : value_at e ≡ control_at d). omega arith)

      was_of : (e : ℕ) (g : Grant) → e ≢ d → IsOf known' e g → IsOf (kept_at k) e g
      was_of e g apart o = subst (λ (q : Kept). ((e < doublewords) × (q.role ≡ SlotRole)) × (g.entry.slot ≡ address_of e) × (q.since < g.entry.number)) (put_else (kept_at k) d k' e apart) o

      now_of : (e : ℕ) (g : Grant) → e ≢ d → IsOf (kept_at k) e g → IsOf known' e g
      now_of e g apart o = subst (λ (q : Kept). ((e < doublewords) × (q.role ≡ SlotRole)) × (g.entry.slot ≡ address_of e) × (q.since < g.entry.number)) (sym (put_else (kept_at k) d k' e apart)) o

      leads' : (v : ℕ) → LeadsTo (kept_at k) v → LeadsTo known' v
      leads' v l = leads_same (kept_at k) d k' v (inl (λ q. absurd (unread q))) l

      made : (m : ℕ) → m < harts_at_most → (y : Exchange) → Contains (exchanges m) y → ((row_of k m).pending ≡ Some y.grant) ⊎ ((f : Fate) × Contains (row_of k m).settled (record { grant = y.grant; fate = f }))
      made m few y c = (s.each_hart m few).granted y c

      -- no grant so far is newer than the slot
      too_new : (m : ℕ) → m < harts_at_most → (g : Grant) → ((row_of k m).pending ≡ Some g) ⊎ ((f : Fate) × Contains (row_of k m).settled (record { grant = g; fate = f })) → IsOf known' d g → ⊥
      too_new m few g h o = ⊎_elim
          (λ (e : (row_of k m).pending ≡ Some g). other (ap (λ n. (kept_at k n).role) (sym (at_place g d o.1)) ∙ ((s.each_hart m few).pending g e).of_slot.0.1))
          (λ (c : (f : Fate) × Contains (row_of k m).settled (record { grant = g; fate = f })).
          let old : g.entry.number ≤ length k.events = ((s.each_hart m few).counted g (inr c)).0 in
          let new : length k.events < g.entry.number = subst (λ n. n < g.entry.number) (ap (λ (q : Kept). q.since) here' ∙ since) o.2 in omega arith)
          h

      stood : (m : ℕ) (g : Grant) → Stands (row_of k m) g → ((row_of k m).pending ≡ Some g) ⊎ ((f : Fate) × Contains (row_of k m).settled (record { grant = g; fate = f }))
      stood m g st = ⊎_elim (λ (e : (row_of k m).pending ≡ Some g). inl e) (λ (c : Contains (row_of k m).settled (record { grant = g; fate = Won })). inr (Won, c)) st

      mine : SlotIs (word' (value_at d)) known' (length k.events) (row_of k) exchanges (winner' d) d
      mine = record {
        since = subst (λ n. n ≤ length k.events) (sym (ap (λ (q : Kept). q.since) here' ∙ since)) (omega arith);
        image = λ _. value_same d ∙ (value ∙ ap (λ (q : Kept). q.value) (sym here'));
        bound = λ m g q. let z : None ≡ Some (m, g) = sym (put_here s.winner d None) ∙ q in absurd (cc);
        by = λ m g q. let z : None ≡ Some (m, g) = sym (put_here s.winner d None) ∙ q in absurd (cc);
        lazy = λ m g q. let z : None ≡ Some (m, g) = sym (put_here s.winner d None) ∙ q in absurd (cc);
        leads = λ v a. ⊎_elim
            (λ (e : v ≡ (known' d).value). subst (LeadsTo known') (sym (e ∙ ap (λ (q : Kept). q.value) here')) (leads' k'.value leads))
            (λ (h : (m : ℕ) × (g : Grant) × Stands (row_of k m) g × IsOf known' d g × (v ≡ g.entry.value)). absurd (too_new h.0 (stands_low h.0 h.1 h.2) h.1 (stood h.0 h.1 h.2) h.3))
            a;
        fixed = λ x q. let z : None ≡ Some x = sym (ap (λ (q : Kept). q.fixed) here' ∙ fixed) ∙ q in absurd (cc);
      }

      old_slot : (e : ℕ) → e ≢ d → IsSlot known' e → SlotIs (word' (value_at e)) known' (length k.events) (row_of k) exchanges (s.winner e) e
      old_slot e apart here =
          let same : known' e ≡ kept_at k e = put_else (kept_at k) d k' e apart in
          let o : SlotIs (word (value_at e)) (kept_at k) (length k.events) (row_of k) exchanges (s.winner e) e = s.each_slot e (here.0, ap (λ (q : Kept). q.role) (sym same) ∙ here.1) in record {
            since = subst (λ (q : Kept). q.since ≤ length k.events) (sym same) o.since;
            image = λ q. value_same e ∙ (o.image q ∙ ap (λ (q : Kept). q.value) (sym same));
            bound = λ m g q. let b = o.bound m g q in (value_same e ∙ b.0, b.1, b.2 ∙ ap (λ (q : Kept). q.lazy) (sym same));
            by = λ m g q. let b = o.by m g q in (now_of e g apart b.0, b.1, b.2);
            lazy = λ m g q. ap (λ (q : Kept). q.value) same ∙ (o.lazy m g q ∙ ap (λ (q : Kept). q.lazy) (sym same));
            leads = λ v a. leads' v (o.leads v (⊎_elim
                (λ (q : v ≡ (known' e).value). inl (q ∙ ap (λ (q : Kept). q.value) same))
                (λ (h : (m : ℕ) × (g : Grant) × Stands (row_of k m) g × IsOf known' e g × (v ≡ g.entry.value)). inr (h.0, h.1, h.2, was_of e h.1 apart h.3, h.4))
                a));
            fixed = λ x q. let f = o.fixed x (ap (λ (q : Kept). q.fixed) (sym same) ∙ q) in (value_same e ∙ f.0, λ z. f.1 (z ∙ ap (λ (q : Kept). q.lazy) same));
          }

      hart_old : (m : ℕ) → m < harts_at_most → GrantsAre known' None (length k.events) word' winner' m (row_of k m) (tried m) (exchanges m)
      hart_old m few = let o : GrantsAre (kept_at k) k.access.locked (length k.events) word s.winner m (row_of k m) (tried m) (exchanges m) = s.each_hart m few in record {
        closed = λ none' t. o.closed none' (sym (state_same m few) ∙ t);
        pending = λ g e.
            let n : ℕ = place_of g.entry.slot in
            let p : IsPending (kept_at k) k.access.locked (word (value_at n)) (word (state_at m)) (s.winner n) m (row_of k m) (tried m) (exchanges m) g = o.pending g e in
            let apart : n ≢ d = unposted d is m g few e in record {
              in_row = p.in_row;
              of_slot = now_of n g apart p.of_slot;
              free = nothing n;
              lazy_is = p.lazy_is ∙ ap (λ (q : Kept). q.lazy) (sym (put_else (kept_at k) d k' n apart));
              other = p.other;
              fate = subst (λ (q : ℕ × ℕ × Winner). Fated q.0 q.1 q.2 m (tried m) (exchanges m) g) (λ i. (sym (value_same n) i, sym (state_same m few) i, sym (put_else s.winner d None n apart) i)) p.fate;
            };
        won = o.won;
        lost = o.lost;
        counted = o.counted;
        granted = o.granted;
        rising = o.rising;
      }
        where
          state_same : (m : ℕ) → m < harts_at_most → word' (state_at m) ≡ word (state_at m)
          state_same m few = put_else word (control_at d) x (state_at m) (λ (q : state_at m ≡ control_at d). omega arith)

  -- ---- rows

  row_values : (m i x : ℕ) → m < harts_at_most → i < 6 → (d : ℕ) → IsSlot (kept_at k) d → put word (row_at m i) x (value_at d) ≡ word (value_at d)
  row_values m i x few low d here = put_else word (row_at m i) x (value_at d) (λ (q : value_at d ≡ row_at m i). omega arith)

  row_states : (m i x : ℕ) → i < 6 → (j : ℕ) → j < harts_at_most → j ≢ m → put word (row_at m i) x (state_at j) ≡ word (state_at j)
  row_states m i x low j few apart = put_else word (row_at m i) x (state_at j) (λ (q : state_at j ≡ row_at m i). apart (apart_rows j m i low q))
    where
      apart_rows : (j m i : ℕ) → i < 6 → state_at j ≡ row_at m i → j ≡ m
      apart_rows j m i low q = omega arith

  -- one row of a list of rows, which was the keeper's but for what isn't said here
  in_list : (rows : List Row) (m : ℕ) (r : Row) (word' : ℕ → ℕ) → m < length rows → Slots word' (kept_at k) k.access.locked (length k.events) (put (λ j. slice_index_or rows j no_row) m r) (put tried m (tried m)) exchanges
      → Slots word' (kept_at k) k.access.locked (length k.events) (λ j. slice_index_or (slice_set rows m r) j no_row) tried exchanges
  in_list rows m r word' low p = subst (λ (q : (ℕ → Row) × (ℕ → Option Exchange)). Slots word' (kept_at k) k.access.locked (length k.events) q.0 q.1 exchanges)
      (λ i. (set_put rows m r no_row low i, put_same tried m (tried m) refl i)) p

  long : (m : ℕ) → m < harts_at_most → m < length k.rows
  long m few = subst (λ n. m < n) (sym rows_known) few

  -- a row changes, and leaves its hart's grants
  alike : (word' : ℕ → ℕ) (m : ℕ) (r : Row) → m < harts_at_most → ((j : ℕ) → j < harts_at_most → j ≢ m → word' (state_at j) ≡ word (state_at j)) → SameRow word word' (kept_at k) (length k.events) m (row_of k m) r
      → Slots word' (kept_at k) k.access.locked (length k.events) (λ j. slice_index_or (slice_set k.rows m r) j no_row) tried exchanges
  alike word' m r few states same = in_list k.rows m r word' (long m few)
      (row_changes word word' (kept_at k) k.access.locked (length k.events) (row_of k) tried exchanges m r (tried m) few same.values states s
      (record {
        back = λ g st. inl (stood (row_of k m) r g same.pending same.settled st);
        forth = λ d g here e. stood r (row_of k m) g (sym same.pending) (sym same.settled) ((s.each_slot d here).by m g e).1;
      })
      (regrant word word' (kept_at k) k.access.locked (length k.events) s.winner m (row_of k m) r (tried m) (exchanges m) same (s.each_hart m few)))

  -- ---- the kinds on rows

  same_here : (m : ℕ) (r : Row) → r.pending ≡ (row_of k m).pending → r.settled ≡ (row_of k m).settled → grant_in (row_of k m) ≡ grant_in r
      → ((n : ℕ) → n ≤ length k.events → ((c : ℕ) → (row_of k m).since ≡ Some c → n ≤ c) → (c : ℕ) → r.since ≡ Some c → n ≤ c) → m < harts_at_most → SameRow word word (kept_at k) (length k.events) m (row_of k m) r
  same_here m r pending settled grant since few = record { values = λ d here. refl; closed = (s.each_hart m few).closed; state = λ g e. (refl, grant); pending = pending; settled = settled; since = since }

  -- each row is found open no more
  unfound : Slots word (kept_at k) k.access.locked (length k.events) (λ j. not_found (row_of k j)) tried exchanges
  unfound = record {
    winner = s.winner;
    each_slot = λ d here. let o = s.each_slot d here in record { since = o.since; image = o.image; bound = o.bound; by = o.by; lazy = o.lazy; leads = o.leads; fixed = o.fixed };
    each_hart = λ m few. regrant word word (kept_at k) k.access.locked (length k.events) s.winner m (row_of k m) (not_found (row_of k m)) (tried m) (exchanges m)
        (same_here m (not_found (row_of k m)) refl refl refl (λ n low before. before) few) (s.each_hart m few);
    each_exchange = s.each_exchange;
    no_more = s.no_more;
  }

  awaits : (m : ℕ) (b : Bool) → m < harts_at_most → After word (awaited_if m b (heeding k))
  unfolding unfound
  awaits m false few = s
  awaits m true few =
      let r : Row = record (not_found (row_of k m)) { since = Some (length k.events) } in
      let rows' : (ℕ → Row) = λ j. slice_index_or (map not_found k.rows) j no_row in
      let same : (λ j. not_found (row_of k j)) ≡ rows' = ext (λ j. not_found (row_of k j)) rows' (map_row k.rows) in
      in_list (map not_found k.rows) m r word (subst (λ n. m < n) (sym (map_long k.rows ∙ rows_known)) few)
      (subst (λ (f : ℕ → Row). Slots word (kept_at k) k.access.locked (length k.events) (put f m r) (put tried m (tried m)) exchanges) same
      (row_changes word word (kept_at k) k.access.locked (length k.events) (λ j. not_found (row_of k j)) tried exchanges m r (tried m) few (λ d here. refl) (λ j low apart. refl) unfound
      (record { back = λ g st. inl st; forth = λ d g here e. ((s.each_slot d here).by m g e).1 })
      (regrant word word (kept_at k) k.access.locked (length k.events) s.winner m (row_of k m) r (tried m) (exchanges m)
      (same_here m r refl refl refl (λ n low before c e. let q : Some (length k.events) ≡ Some c = e in let is : length k.events ≡ c = cc in subst (λ c. n ≤ c) is low) few)
      (s.each_hart m few))))

  fills : (m : ℕ) (i : RowWord) (x : ℕ) → m < harts_at_most → (row_of k m).pending ≡ None
      → Slots (put word (row_at m (index_of i)) x) (kept_at k) k.access.locked (length k.events) (λ j. slice_index_or (slice_set k.rows m (with_field i x (row_of k m))) j no_row) tried exchanges
  fills m i x few none' = alike (put word (row_at m (index_of i)) x) m (with_field i x (row_of k m)) few (row_states m (index_of i) x (low_index i)) (record {
    values = row_values m (index_of i) x few (low_index i);
    closed = λ e t. (s.each_hart m few).closed e (sym (put_else word (row_at m (index_of i)) x (state_at m) (λ (q : state_at m ≡ row_at m (index_of i)). apart i q)) ∙ t);
    state = λ g e. let q : None ≡ Some g = sym none' ∙ e in absurd (cc);
    pending = still_pending i;
    settled = still_settled i;
    since = λ n low before c e. before c (sym (field_since i x (row_of k m)) ∙ e);
  })
    where
      apart : (i : RowWord) → state_at m ≡ row_at m (index_of i) → ⊥
      apart Number q = omega arith
      apart Slot q = omega arith
      apart Lazy q = omega arith
      apart Value q = omega arith
      apart Generation q = omega arith

      still_pending : (i : RowWord) → (with_field i x (row_of k m)).pending ≡ (row_of k m).pending
      still_pending Number = refl
      still_pending Slot = refl
      still_pending Lazy = refl
      still_pending Value = refl
      still_pending Generation = refl

      still_settled : (i : RowWord) → (with_field i x (row_of k m)).settled ≡ (row_of k m).settled
      still_settled Number = refl
      still_settled Slot = refl
      still_settled Lazy = refl
      still_settled Value = refl
      still_settled Generation = refl

  hands : (m mark : ℕ) → m < harts_at_most → (row_of k m).pending ≡ None → mark ≢ 3
      → Slots (put word (state_at m) mark) (kept_at k) k.access.locked (length k.events) (λ j. slice_index_or (slice_set k.rows m (handed mark (row_of k m))) j no_row) tried exchanges
  hands m mark few none' other = alike (put word (state_at m) mark) m (handed mark (row_of k m)) few (row_states m 0 mark (omega arith)) (record {
    values = row_values m 0 mark few (omega arith);
    closed = λ e t. other (sym (put_here word (state_at m) mark) ∙ t);
    state = λ g e. let q : None ≡ Some g = sym none' ∙ e in absurd (cc);
    pending = refl;
    settled = refl;
    since = λ n low before c e. let q : None ≡ Some c = e in absurd (cc);
  })

  -- ---- what came of a grant

  asks : (m : ℕ) (g : Grant) → m < harts_at_most → (row_of k m).pending ≡ Some g → (a b c : Bool) → eqb (word (state_at m) % 8) 3 ≡ a → eqb (word (state_at m) % 8) 4 ≡ b → eqb (word (state_at m) % 8) 5 ≡ c
      → Slots word (kept_at k) k.access.locked (length k.events) (λ j. slice_index_or (slice_set k.rows m (asked_if a b c (row_of k m))) j no_row) tried exchanges
  asks m g few is true b c x y z = alike word m (record (row_of k m) { found_open = true }) few (λ j low apart. refl)
      (same_here m (record (row_of k m) { found_open = true }) refl refl refl (λ n low before. before) few)
  asks m g few is false true c x y z = subst (λ (p : Option Grant). Slots word (kept_at k) k.access.locked (length k.events) (λ j. slice_index_or (slice_set k.rows m (settled_as Won p (row_of k m))) j no_row) tried exchanges) (sym is)
      (in_list k.rows m r word (long m few) (row_changes word word (kept_at k) k.access.locked (length k.events) (row_of k) tried exchanges m r (tried m) few (λ d here. refl) (λ j low apart. refl) s
      (record { back = back; forth = λ d p here e. forth p ((s.each_slot d here).by m p e).1 })
      (record {
        closed = λ _ t. at_four (word (state_at m)) four t;
        pending = λ p e. let q : None ≡ Some p = e in absurd (cc);
        won = λ p t. ⊎_elim (λ (was : Contains (row_of k m).settled (record { grant = p; fate = Won })). old.won p was)
            (λ (e : record { grant = g; fate = Won } ≡ record { grant = p; fate = Won }). subst (HasWon (exchanges m)) (ap (λ (w : Settled). w.grant) e) has_won)
            (Contains-push_cases (row_of k m).settled (record { grant = g; fate = Won }) (record { grant = p; fate = Won }) t);
        lost = λ p t. ⊎_elim (λ (was : Contains (row_of k m).settled (record { grant = p; fate = Lost })). old.lost p was)
            (λ (e : record { grant = g; fate = Won } ≡ record { grant = p; fate = Lost }). let q : Won ≡ Lost = ap (λ (w : Settled). w.fate) e in absurd (cc))
            (Contains-push_cases (row_of k m).settled (record { grant = g; fate = Won }) (record { grant = p; fate = Lost }) t);
        counted = λ p h. old.counted p (back_grant p h);
        granted = λ y t. forth_grant y.grant (old.granted y t);
        rising = old.rising;
      })))
    where
      r : Row
      r = settled_as Won (Some g) (row_of k m)

      old : GrantsAre (kept_at k) k.access.locked (length k.events) word s.winner m (row_of k m) (tried m) (exchanges m)
      old = s.each_hart m few

      four : word (state_at m) % 8 ≡ 4
      four = eqb-true (word (state_at m) % 8) 4 y

      at_four : (n : ℕ) → n % 8 ≡ 4 → n ≡ 3 → ⊥
      at_four n a b = omega arith

      posted : let d = place_of g.entry.slot in IsPending (kept_at k) k.access.locked (word (value_at d)) (word (state_at m)) (s.winner d) m (row_of k m) (tried m) (exchanges m) g
      posted = old.pending g is

      has_won : HasWon (exchanges m) g
      has_won = elim posted.fate [
        | inl o ↦ absurd (at_four (word (state_at m)) four o.0)
        | inr f ↦ elim f [
          | inl a ↦ ((s.each_slot (place_of g.entry.slot) posted.of_slot.0).by m g a.1).2
          | inr b ↦ (let q = b.0 in let n = four in absurd (omega arith))
        ]
      ]

      back_grant : (p : Grant) → IsGrant r p → IsGrant (row_of k m) p
      back_grant p h = ⊎_elim (λ (e : None ≡ Some p). let q : None ≡ Some p = e in absurd (cc))
          (λ (t : (f : Fate) × Contains r.settled (record { grant = p; fate = f })). ⊎_elim (λ (was : Contains (row_of k m).settled (record { grant = p; fate = t.0 })). inr (t.0, was))
          (λ (e : record { grant = g; fate = Won } ≡ record { grant = p; fate = t.0 }). inl (is ∙ ap (λ (w : Settled). Some w.grant) e))
          (Contains-push_cases (row_of k m).settled (record { grant = g; fate = Won }) (record { grant = p; fate = t.0 }) t.1)) h

      forth_grant : (p : Grant) → IsGrant (row_of k m) p → IsGrant r p
      forth_grant p h = ⊎_elim (λ (e : (row_of k m).pending ≡ Some p). let q : Some g ≡ Some p = sym is ∙ e in let same : g ≡ p = cc in
          inr (Won, subst (λ p. Contains r.settled (record { grant = p; fate = Won })) same (Contains-push (row_of k m).settled (record { grant = g; fate = Won }))))
          (λ (t : (f : Fate) × Contains (row_of k m).settled (record { grant = p; fate = f })). inr (t.0, Contains-append_left (row_of k m).settled (record { grant = g; fate = Won } ∷ []) (record { grant = p; fate = t.0 }) t.1)) h

      back : (p : Grant) → Stands r p → Stands (row_of k m) p ⊎ ((d : ℕ) → IsOf (kept_at k) d p → LeadsTo (kept_at k) p.entry.value)
      back p h = ⊎_elim (λ (e : None ≡ Some p). let q : None ≡ Some p = e in absurd (cc))
          (λ (t : Contains r.settled (record { grant = p; fate = Won })). ⊎_elim (λ (was : Contains (row_of k m).settled (record { grant = p; fate = Won })). inl (inr was))
          (λ (e : record { grant = g; fate = Won } ≡ record { grant = p; fate = Won }). inl (inl (is ∙ ap (λ (w : Settled). Some w.grant) e)))
          (Contains-push_cases (row_of k m).settled (record { grant = g; fate = Won }) (record { grant = p; fate = Won }) t)) h

      forth : (p : Grant) → Stands (row_of k m) p → Stands r p
      forth p h = ⊎_elim (λ (e : (row_of k m).pending ≡ Some p). let q : Some g ≡ Some p = sym is ∙ e in let same : g ≡ p = cc in
          inr (subst (λ p. Contains r.settled (record { grant = p; fate = Won })) same (Contains-push (row_of k m).settled (record { grant = g; fate = Won }))))
          (λ (t : Contains (row_of k m).settled (record { grant = p; fate = Won })). inr (Contains-append_left (row_of k m).settled (record { grant = g; fate = Won } ∷ []) (record { grant = p; fate = Won }) t)) h
  asks m g few is false false true x y z = subst (λ (p : Option Grant). Slots word (kept_at k) k.access.locked (length k.events) (λ j. slice_index_or (slice_set k.rows m (settled_as Lost p (row_of k m))) j no_row) tried exchanges) (sym is)
      (in_list k.rows m r word (long m few) (row_changes word word (kept_at k) k.access.locked (length k.events) (row_of k) tried exchanges m r (tried m) few (λ d here. refl) (λ j low apart. refl) s
      (record { back = back; forth = λ d p here e. forth d p here e ((s.each_slot d here).by m p e) })
      (record {
        closed = λ _ t. at_five (word (state_at m)) five t;
        pending = λ p e. let q : None ≡ Some p = e in absurd (cc);
        won = λ p t. ⊎_elim (λ (was : Contains (row_of k m).settled (record { grant = p; fate = Won })). old.won p was)
            (λ (e : record { grant = g; fate = Lost } ≡ record { grant = p; fate = Won }). let q : Lost ≡ Won = ap (λ (w : Settled). w.fate) e in absurd (cc))
            (Contains-push_cases (row_of k m).settled (record { grant = g; fate = Lost }) (record { grant = p; fate = Won }) t);
        lost = λ p t. ⊎_elim (λ (was : Contains (row_of k m).settled (record { grant = p; fate = Lost })). old.lost p was)
            (λ (e : record { grant = g; fate = Lost } ≡ record { grant = p; fate = Lost }). subst (HasLost (exchanges m)) (ap (λ (w : Settled). w.grant) e) has_lost.1)
            (Contains-push_cases (row_of k m).settled (record { grant = g; fate = Lost }) (record { grant = p; fate = Lost }) t);
        counted = λ p h. old.counted p (back_grant p h);
        granted = λ y t. forth_grant y.grant (old.granted y t);
        rising = old.rising;
      })))
    where
      r : Row
      r = settled_as Lost (Some g) (row_of k m)

      old : GrantsAre (kept_at k) k.access.locked (length k.events) word s.winner m (row_of k m) (tried m) (exchanges m)
      old = s.each_hart m few

      five : word (state_at m) % 8 ≡ 5
      five = eqb-true (word (state_at m) % 8) 5 z

      at_five : (n : ℕ) → n % 8 ≡ 5 → n ≡ 3 → ⊥
      at_five n a b = omega arith

      posted : let d = place_of g.entry.slot in IsPending (kept_at k) k.access.locked (word (value_at d)) (word (state_at m)) (s.winner d) m (row_of k m) (tried m) (exchanges m) g
      posted = old.pending g is

      has_lost : (s.winner (place_of g.entry.slot) ≢ Some (m, g)) × HasLost (exchanges m) g
      has_lost = elim posted.fate [
        | inl o ↦ absurd (at_five (word (state_at m)) five o.0)
        | inr f ↦ elim f [
          | inl a ↦ (let q = a.0 in let n = five in absurd (omega arith))
          | inr b ↦ (b.1, b.3)
        ]
      ]

      back_grant : (p : Grant) → IsGrant r p → IsGrant (row_of k m) p
      back_grant p h = ⊎_elim (λ (e : None ≡ Some p). let q : None ≡ Some p = e in absurd (cc))
          (λ (t : (f : Fate) × Contains r.settled (record { grant = p; fate = f })). ⊎_elim (λ (was : Contains (row_of k m).settled (record { grant = p; fate = t.0 })). inr (t.0, was))
          (λ (e : record { grant = g; fate = Lost } ≡ record { grant = p; fate = t.0 }). inl (is ∙ ap (λ (w : Settled). Some w.grant) e))
          (Contains-push_cases (row_of k m).settled (record { grant = g; fate = Lost }) (record { grant = p; fate = t.0 }) t.1)) h

      forth_grant : (p : Grant) → IsGrant (row_of k m) p → IsGrant r p
      forth_grant p h = ⊎_elim (λ (e : (row_of k m).pending ≡ Some p). let q : Some g ≡ Some p = sym is ∙ e in let same : g ≡ p = cc in
          inr (Lost, subst (λ p. Contains r.settled (record { grant = p; fate = Lost })) same (Contains-push (row_of k m).settled (record { grant = g; fate = Lost }))))
          (λ (t : (f : Fate) × Contains (row_of k m).settled (record { grant = p; fate = f })). inr (t.0, Contains-append_left (row_of k m).settled (record { grant = g; fate = Lost } ∷ []) (record { grant = p; fate = t.0 }) t.1)) h

      back : (p : Grant) → Stands r p → Stands (row_of k m) p ⊎ ((d : ℕ) → IsOf (kept_at k) d p → LeadsTo (kept_at k) p.entry.value)
      back p h = ⊎_elim (λ (e : None ≡ Some p). let q : None ≡ Some p = e in absurd (cc))
          (λ (t : Contains r.settled (record { grant = p; fate = Won })). ⊎_elim (λ (was : Contains (row_of k m).settled (record { grant = p; fate = Won })). inl (inr was))
          (λ (e : record { grant = g; fate = Lost } ≡ record { grant = p; fate = Won }). let q : Lost ≡ Won = ap (λ (w : Settled). w.fate) e in absurd (cc))
          (Contains-push_cases (row_of k m).settled (record { grant = g; fate = Lost }) (record { grant = p; fate = Won }) t)) h

      forth : (d : ℕ) (p : Grant) → IsSlot (kept_at k) d → s.winner d ≡ Some (m, p) → IsOf (kept_at k) d p × Stands (row_of k m) p × HasWon (exchanges m) p → Stands r p
      forth d p here e by = ⊎_elim (λ (q : (row_of k m).pending ≡ Some p). let w : Some g ≡ Some p = sym is ∙ q in let same : g ≡ p = cc in
          absurd (has_lost.0 (ap s.winner (ap (λ (x : Grant). place_of x.entry.slot) same ∙ at_place p d by.0.1) ∙ (e ∙ ap (λ x. Some (m, x)) (sym same)))))
          (λ (t : Contains (row_of k m).settled (record { grant = p; fate = Won })). inr (Contains-append_left (row_of k m).settled (record { grant = g; fate = Lost } ∷ []) (record { grant = p; fate = Won }) t)) by.1
  asks m g few is false false false x y z = alike word m (row_of k m) few (λ j low apart. refl) (same_here m (row_of k m) refl refl refl (λ n low before. before) few)

  -- ---- a grant is posted

  opens : (m c : ℕ) → m < harts_at_most → (row_of k m).since ≡ Some c → (row_of k m).pending ≡ None → tried m ≡ None → (row_of k m).number ≡ length k.events → c < (row_of k m).number
      → IsPostable (kept_at k) (grant_in (row_of k m)) → k.access.locked ≡ None
      → Slots (put word (state_at m) 3) (kept_at k) k.access.locked (length k.events) (λ j. slice_index_or (slice_set k.rows m (opened (row_of k m))) j no_row) tried exchanges
  opens m c few since none' untried number newer postable free = in_list k.rows m r (put word (state_at m) 3) (long m few)
      (row_changes word (put word (state_at m) 3) (kept_at k) k.access.locked (length k.events) (row_of k) tried exchanges m r (tried m) few (row_values m 0 3 few (omega arith)) (row_states m 0 3 (omega arith)) s
      (record { back = back; forth = λ d p here e. forth p ((s.each_slot d here).by m p e).1 })
      (record {
        closed = λ e. let q : Some g ≡ None = e in absurd (cc);
        pending = λ p e. let q : Some g ≡ Some p = e in let same : g ≡ p = cc in
            subst (λ (p : Grant). let d = place_of p.entry.slot in IsPending (kept_at k) k.access.locked (put word (state_at m) 3 (value_at d)) (put word (state_at m) 3 (state_at m)) (s.winner d) m r (tried m) (exchanges m) p) same posted;
        won = old.won;
        lost = old.lost;
        counted = λ p h. (counted p h, λ n e. let q : None ≡ Some n = e in absurd (cc));
        granted = λ y t. ⊎_elim (λ (e : (row_of k m).pending ≡ Some y.grant). let q : None ≡ Some y.grant = sym none' ∙ e in absurd (cc)) (λ (t : (f : Fate) × Contains (row_of k m).settled (record { grant = y.grant; fate = f })). inr t) (old.granted y t);
        rising = old.rising;
      }))
    where
      r : Row
      r = opened (row_of k m)

      g : Grant
      g = grant_in (row_of k m)

      old : GrantsAre (kept_at k) k.access.locked (length k.events) word s.winner m (row_of k m) (tried m) (exchanges m)
      old = s.each_hart m few

      -- no grant of this hart so far is as new
      newest : (p : Grant) → IsGrant (row_of k m) p → p.entry.number < (row_of k m).number
      newest p h = let low : p.entry.number ≤ c = (old.counted p h).1 c since in let high : c < (row_of k m).number = newer in omega arith

      posted : let d = place_of g.entry.slot in IsPending (kept_at k) k.access.locked (put word (state_at m) 3 (value_at d)) (put word (state_at m) 3 (state_at m)) (s.winner d) m r (tried m) (exchanges m) g
      posted = record {
        in_row = refl;
        of_slot = postable.of_slot;
        free = λ q. nothing (place_of g.entry.slot) (sym free ∙ q);
        lazy_is = postable.lazy_is;
        other = postable.other;
        fate = inl (
          put_here word (state_at m) 3,
          record {
            untried = λ _ e. not_won ((s.each_slot (place_of g.entry.slot) postable.of_slot.0).by m g e).1;
            new = λ _ x t. newest x.grant (old.granted x t);
            made = λ x t. let q : None ≡ Some x = sym untried ∙ t in absurd (cc);
          },
        );
      }
        where
          not_won : Stands (row_of k m) g → ⊥
          not_won st = let n : g.entry.number < (row_of k m).number = newest g (⊎_elim (λ (e : (row_of k m).pending ≡ Some g). inl e) (λ (t : Contains (row_of k m).settled (record { grant = g; fate = Won })). inr (Won, t)) st) in omega arith

      counted : (p : Grant) → IsGrant r p → p.entry.number ≤ length k.events
      counted p h = ⊎_elim (λ (e : Some g ≡ Some p). let q : Some g ≡ Some p = e in let same : g ≡ p = cc in subst (λ (p : Grant). p.entry.number ≤ length k.events) same (subst (λ n. n ≤ length k.events) (sym number) (omega arith)))
          (λ (t : (f : Fate) × Contains (row_of k m).settled (record { grant = p; fate = f })). (old.counted p (inr t)).0) h

      back : (p : Grant) → Stands r p → Stands (row_of k m) p ⊎ ((d : ℕ) → IsOf (kept_at k) d p → LeadsTo (kept_at k) p.entry.value)
      back p h = ⊎_elim (λ (e : Some g ≡ Some p). let q : Some g ≡ Some p = e in let same : g ≡ p = cc in inr (λ d o. subst (λ (p : Grant). LeadsTo (kept_at k) p.entry.value) same postable.leads))
          (λ (t : Contains (row_of k m).settled (record { grant = p; fate = Won })). inl (inr t)) h

      forth : (p : Grant) → Stands (row_of k m) p → Stands r p
      forth p h = ⊎_elim (λ (e : (row_of k m).pending ≡ Some p). let q : None ≡ Some p = sym none' ∙ e in absurd (cc)) (λ (t : Contains (row_of k m).settled (record { grant = p; fate = Won })). inr t) h

  -- ---- the count

  counts : (x : ℕ) → Slots (put word 2 x) (kept_at k) k.access.locked (length k.events + 1) (row_of k) tried exchanges
  counts x = record {
    winner = now.winner;
    each_slot = λ d here. let o = now.each_slot d here in let low : (kept_at k d).since ≤ length k.events = o.since in record { since = omega arith; image = o.image; bound = o.bound; by = o.by; lazy = o.lazy; leads = o.leads; fixed = o.fixed };
    each_hart = λ m few. let o = now.each_hart m few in record {
      closed = o.closed;
      pending = o.pending;
      won = o.won;
      lost = o.lost;
      counted = λ g h. let low : g.entry.number ≤ length k.events = (o.counted g h).0 in (omega arith, (o.counted g h).1);
      granted = o.granted;
      rising = o.rising;
    };
    each_exchange = now.each_exchange;
    no_more = now.no_more;
  }
    where
      now : Slots (put word 2 x) (kept_at k) k.access.locked (length k.events) (row_of k) tried exchanges
      now = beside_slots word (put word 2 x) (kept_at k) k.access.locked (length k.events) (row_of k) tried exchanges (low_word 2 x (omega arith)) s

  -- ---- the kinds

  beside : (word' : ℕ → ℕ) → SameSlots word word' (kept_at k) → Slots word' (kept_at k) k.access.locked (length k.events) (row_of k) tried exchanges
  beside word' same = beside_slots word word' (kept_at k) k.access.locked (length k.events) (row_of k) tried exchanges same s

  freed : (word' : ℕ → ℕ) → SameSlots word word' (kept_at k) → Slots word' (kept_at k) None (length k.events) (row_of k) tried exchanges
  freed word' same = relocked word' None same (λ m g few e here. nothing (place_of g.entry.slot))

  -- a doubleword without a role is no slot, and none that may be run
  no_slot_there : (d : ℕ) → (kept_at k d).role ≡ NoRole → (kept_at k d).role ≢ SlotRole
  no_slot_there d free slot = let q : NoRole ≡ SlotRole = sym free ∙ slot in absurd (cc)

  no_code_there : (d : ℕ) → (kept_at k d).role ≡ NoRole → (kept_at k d).role ≢ Rx
  no_code_there d free rx = let q : NoRole ≡ Rx = sym free ∙ rx in absurd (cc)

  unlock : (d x : ℕ) (role : Role) (lazy : ℕ) → word (value_at d) ≡ (kept_at k d).value → KeeperReady (kinds.Unlock d role lazy) k → d < doublewords
      → Slots (put word (control_at d) x) (λ j. slice_index_or (slice_set k.words d (record { role = role; value = (kept_at k d).value; lazy = lazy; since = length k.events; fixed = None })) j unmapped) None (length k.events) (row_of k) tried exchanges
  unlock d x NoRole lazy value ready low = absurd (ready.2 refl)
  unlock d x Ro lazy value ready low =
      unlocks d x (record { role = Ro; value = (kept_at k d).value; lazy = lazy; since = length k.events; fixed = None }) low ready.0 (λ e. absurd (cc)) (λ e v here a. inl (λ rx. absurd (no_code_there d ready.1 rx)))
  unlock d x Rx lazy value ready low =
      unlocks d x (record { role = Rx; value = (kept_at k d).value; lazy = lazy; since = length k.events; fixed = None }) low ready.0 (λ e. absurd (cc)) (λ e v here a. inl (λ rx. absurd (no_code_there d ready.1 rx)))
  unlock d x Rw lazy value ready low =
      unlocks d x (record { role = Rw; value = (kept_at k d).value; lazy = lazy; since = length k.events; fixed = None }) low ready.0 (λ e. absurd (cc)) (λ e v here a. inl (λ rx. absurd (no_code_there d ready.1 rx)))
  unlock d x SlotRole lazy value ready low =
      let k' : Kept = record { role = SlotRole; value = (kept_at k d).value; lazy = lazy; since = length k.events; fixed = None } in
      moved d k' (put word (control_at d) x) None low (new_slot d x k' low ready.0 (no_slot_there d ready.1) (no_code_there d ready.1) refl refl refl value (ready.4 refl))

  -- a slot is looked at
  sees : (d : ℕ) → IsSlot (kept_at k) d
      → Slots (put word (value_at d) (word (value_at d))) (λ j. slice_index_or (slice_set k.words d (fixed_by (word (value_at d)) (kept_at k d))) j unmapped) k.access.locked (length k.events) (row_of k) tried exchanges
  sees d slot = moved d seen (put word (value_at d) (word (value_at d))) k.access.locked slot.0
      (fewer word (put word (value_at d) (word (value_at d))) (kept_at k) known' k.access.locked k.access.locked (length k.events) (row_of k) tried exchanges (same_word (value_at d))
      (record {
        was = λ e here. ((here.0, sym (role_is e) ∙ here.1), known_same (kept_at k) d (word (value_at d)) e);
        posted = λ m g few e here. ((here.0, role_is (place_of g.entry.slot) ∙ here.1), ((s.each_hart m few).pending g e).free);
        leads = λ e v here a l. ⊎_elim (λ (zero' : v ≡ 0). inl zero') (λ h. inr (h.0, role_is (place_of v) ∙ h.1)) l;
        fixed = λ e x here is. dite (ℕ_discrete e d)
            (λ (same : e ≡ d). subst (λ n. ((kept_at k n).fixed ≡ Some x) ⊎ ((word (value_at n) ≡ x) × (x ≢ (kept_at k n).lazy))) (sym same)
            (found x (eqb (word (value_at d)) (kept_at k d).lazy) refl (ap (λ (y : Kept). y.fixed) (sym (ap known' same ∙ put_here (kept_at k) d seen)) ∙ is)))
            (λ (apart : e ≢ d). inl (ap (λ (y : Kept). y.fixed) (sym (put_else (kept_at k) d seen e apart)) ∙ is));
      })
      s)
    where
      seen : Kept
      seen = fixed_by (word (value_at d)) (kept_at k d)

      known' : ℕ → Kept
      known' = put (kept_at k) d (fixed_by (word (value_at d)) (kept_at k d))

      role_is : (e : ℕ) → (put (kept_at k) d (fixed_by (word (value_at d)) (kept_at k d)) e).role ≡ (kept_at k e).role
      role_is e = ap (λ (x : Kept). x.role) (known_same (kept_at k) d (word (value_at d)) e)

      found : (x : ℕ) (b : Bool) → eqb (word (value_at d)) (kept_at k d).lazy ≡ b → (fixed_if (word (value_at d)) b (kept_at k d)).fixed ≡ Some x
          → ((kept_at k d).fixed ≡ Some x) ⊎ ((word (value_at d) ≡ x) × (x ≢ (kept_at k d).lazy))
      found x true e is = inl is
      found x false e is = let q : Some (word (value_at d)) ≡ Some x = is in let same : word (value_at d) ≡ x = cc in
          inr (same, λ z. eqb-false (word (value_at d)) (kept_at k d).lazy e (same ∙ z))

  abbrev KeepsSlots : KeeperKind → Type 0
  KeepsSlots kind = KeeperReady kind k → After (put word (keeper_word kind) (becomes (keeper_op kind) (word (keeper_word kind)))) (keeper_after kind k (word (keeper_word kind)))

  -- what the other parts tell: the keeper's locked word is in range and has the value that it holds, and a hart that was found calling has tried nothing
  pub keeper_slots : (place : (d : ℕ) → k.access.locked ≡ Some d → d < doublewords) → (held : (d x : ℕ) → k.access.locked ≡ Some d → k.access.held ≡ Some x → word (value_at d) ≡ x)
      → ((m c : ℕ) → m < harts_at_most → (row_of k m).since ≡ Some c → tried m ≡ None) → (kind : KeeperKind) → KeepsSlots kind
  keeper_slots place held still (kinds.Look d) ready = freed (put word (control_at d) (word (control_at d))) (at_control d (word (control_at d)))
  keeper_slots place held still (kinds.Load d) ready = freed (put word (value_at d) (word (value_at d))) (same_word (value_at d))
  keeper_slots place held still (kinds.Lock d control) ready = locks d (becomes (keeper_op (kinds.Lock d control)) (word (control_at d))) (eqb (word (control_at d)) control) ready.4
  keeper_slots place held still (kinds.Store d x) ready = stores d x (place d ready.0) ready.0 (no_slot_there d ready.1)
  keeper_slots place held still (kinds.Unlock d role lazy) ready = unlock d (becomes (keeper_op (kinds.Unlock d role lazy)) (word (control_at d))) role lazy (held d (kept_at k d).value ready.0 ready.3) ready (place d ready.0)
  keeper_slots place held still (kinds.Count e) ready = subst (λ n. Slots (put word 2 ((word 2 + 1) % 18446744073709551616)) (kept_at k) k.access.locked n (row_of k) tried exchanges) (sym (length-append k.events (e.value ∷ []))) (counts ((word 2 + 1) % 18446744073709551616))
  keeper_slots place held still (kinds.Await m) ready = unmoved word (state_at m) (λ f. After f (awaited_if m (nat_le 8 (word (state_at m))) (heeding k))) (awaits m (nat_le 8 (word (state_at m))) ready)
  keeper_slots place held still (kinds.Ask m) ready =
      let n : ℕ = word (state_at m) in
      unmoved word (state_at m) (λ f. Slots f (kept_at k) k.access.locked (length k.events) (λ j. slice_index_or (slice_set k.rows m (asked n (row_of k m))) j no_row) tried exchanges)
      (asks m ready.1.0 ready.0 ready.1.1 (eqb (n % 8) 3) (eqb (n % 8) 4) (eqb (n % 8) 5) refl refl refl)
  keeper_slots place held still (kinds.Saw d m) ready = sees d ready.2.0
  keeper_slots place held still (kinds.Fill m i x) ready = fills m i x ready.1.0 ready.1.2
  keeper_slots place held still (kinds.Hand m mark) ready = hands m mark ready.1.0 ready.1.2 (other mark ready.2)
    where
      other : (mark : ℕ) → (mark ≡ 1) ⊎ (mark ≡ 2) ⊎ (mark ≡ 6) → mark ≢ 3
      other mark h e = elim h [ inl a ↦ omega arith | inr a ↦ elim a [ inl b ↦ omega arith | inr b ↦ omega arith ] ]
  keeper_slots place held still (kinds.Open m) ready = opens m ready.0 ready.1.0 ready.1.1 ready.1.2 (still m ready.0 ready.1.0 ready.1.1) ready.2 ready.3 ready.5 ready.6
  keeper_slots place held still (kinds.RetireSlot d) ready = unlocks d (becomes (keeper_op (kinds.RetireSlot d)) (word (control_at d))) (record (kept_at k d) { role = NoRole }) (place d ready.0) ready.0 (λ e. absurd (cc))
      (λ e v here a. inl (λ rx. let q : SlotRole ≡ Rx = sym ready.1 ∙ rx in absurd (cc)))
  keeper_slots place held still (kinds.Retire d old) ready = unlocks d (becomes (keeper_op (kinds.Retire d old)) (word (control_at d))) (record (kept_at k d) { role = NoRole }) (place d ready.0) ready.0 (λ e. absurd (cc))
      (λ e v here a. inr (ready.4 e v here a))
  keeper_slots place held still (kinds.Generation g) ready = beside (put word 1 g) (low_word 1 g (omega arith))
  keeper_slots place held still (kinds.Recall m i) ready = beside (put word (row_at m (index_of i)) (word (row_at m (index_of i)))) (same_word (row_at m (index_of i)))
  keeper_slots place held still kinds.RecallGeneration ready = beside (put word 1 (word 1)) (low_word 1 (word 1) (omega arith))
  keeper_slots place held still (kinds.RecallRole d) ready = beside (put word (control_at d) (word (control_at d))) (at_control d (word (control_at d)))
  keeper_slots place held still kinds.Listen ready = beside (put word 0 (word 0)) (low_word 0 (word 0) (omega arith))

  -- ---- what the rule tells of slots

  -- a grant that is known as won is the winner
  won_is : (m : ℕ) (g : Grant) → m < harts_at_most → Contains (row_of k m).settled (record { grant = g; fate = Won }) → (d : ℕ) → IsOf (kept_at k) d g → s.winner d ≡ Some (m, g)
  won_is m g few c d o =
      let at : place_of g.entry.slot ≡ d = at_place g d o.1 in
      let did = s.each_exchange m few (record { grant = g; found = g.lazy }) ((s.each_hart m few).won g c) (subst (λ n. IsOf (kept_at k) n g) (sym at) o) in
      sym (ap s.winner at) ∙ did.won refl

  -- a slot with a grant that is known as lost isn't lazy
  not_lazy : (m : ℕ) (g : Grant) → m < harts_at_most → Contains (row_of k m).settled (record { grant = g; fate = Lost }) → (d : ℕ) → IsOf (kept_at k) d g → word (value_at d) ≢ (kept_at k d).lazy
  not_lazy m g few c d o q =
      let at : place_of g.entry.slot ≡ d = at_place g d o.1 in
      let l : HasLost (exchanges m) g = (s.each_hart m few).lost g c in
      let did = s.each_exchange m few (record { grant = g; found = l.0 }) l.2 (subst (λ n. IsOf (kept_at k) n g) (sym at) o) in
      subst (λ n. word (value_at n) ≢ (kept_at k n).lazy) at did.not_lazy q

  pub decides : (d : ℕ) → IsSlot (kept_at k) d → IsDecided (kept_at k) (row_of k) d
  decides d here = record {
    lost = λ m g few c o lazy. stands (s.winner d) refl (λ q. not_lazy m g few c d o (q ∙ lazy));
    won = λ m g x few c o seen. let at = s.each_slot d here in sym (at.bound m g (won_is m g few c d o)).0 ∙ (at.fixed x seen).0;
    one = λ m n g p few low c e o q.
        let z : Some (m, g) ≡ Some (n, p) = sym (won_is m g few c d o) ∙ won_is n p low e d q in
        let y : (m, g) ≡ (n, p) = cc in (ap (λ (x : ℕ × Grant). x.0) y, ap (λ (x : ℕ × Grant). x.1) y);
  }
    where
      stands : (w : Winner) → s.winner d ≡ w → word (value_at d) ≢ (kept_at k d).value → (i : ℕ) × (p : Grant) × (i < harts_at_most) × Stands (row_of k i) p × IsOf (kept_at k) d p
      stands None e other = absurd (other ((s.each_slot d here).image e))
      stands (Some (m, g)) e other = let b = (s.each_slot d here).by m g e in (m, g, stands_low m g b.1, b.1, b.0)

  pub ask_tells : (m : ℕ) → ((c : ℕ) → (row_of k m).since ≡ Some c → word (state_at m) % 8 ≢ 3) → ((j : HartView) → HasEnded k m j → word (state_at m) % 8 ≢ 3)
      → KeeperReady (kinds.Ask m) k → KeeperLearns (kinds.Ask m) k (word (state_at m))
  ask_tells m waits ended ready = record {
    state = stated (word (state_at m)) (pending ready.1.0 ready.1.1).fate;
    waits = waits;
    ended = ended;
    in_row = λ g is. (pending g is).in_row;
    of_slot = λ g is. (pending g is).of_slot;
    lazy_is = λ g is. (pending g is).lazy_is;
    won = λ g is four.
        let p = pending g is in
        let d : ℕ = place_of g.entry.slot in
        let w : s.winner d ≡ Some (m, g) = winning (word (state_at m)) four p.fate in
        ((s.each_slot d p.of_slot.0).lazy m g w, λ i q few c o. one d w i q few c o);
    fixed = λ g x is four seen.
        let p = pending g is in
        let d : ℕ = place_of g.entry.slot in
        let o = s.each_slot d p.of_slot.0 in
        sym (o.bound m g (winning (word (state_at m)) four p.fate)).0 ∙ (o.fixed x seen).0;
  }
    where
      pending : (g : Grant) → (row_of k m).pending ≡ Some g
          → let d = place_of g.entry.slot in IsPending (kept_at k) k.access.locked (word (value_at d)) (word (state_at m)) (s.winner d) m (row_of k m) (tried m) (exchanges m) g
      pending g is = (s.each_hart m ready.0).pending g is

      stated : (n : ℕ) {value : ℕ} {w : Winner} {g : Grant} → Fated value n w m (tried m) (exchanges m) g → (n % 8 ≡ 3) ⊎ (n % 8 ≡ 4) ⊎ (n % 8 ≡ 5)
      stated n f = elim f [
        | inl o ↦ inl (let q = o.0 in omega arith)
        | inr f ↦ elim f [ inl a ↦ inr (inl a.0) | inr b ↦ inr (inr b.0) ]
      ]

      winning : (n : ℕ) {value : ℕ} {w : Winner} {g : Grant} → n % 8 ≡ 4 → Fated value n w m (tried m) (exchanges m) g → w ≡ Some (m, g)
      winning n four f = elim f [
        | inl o ↦ (let q = o.0 in absurd (omega arith))
        | inr f ↦ elim f [ inl a ↦ a.1 | inr b ↦ (let q = b.0 in absurd (omega arith)) ]
      ]

      one : (d : ℕ) {g : Grant} → s.winner d ≡ Some (m, g) → (i : ℕ) (p : Grant) → i < harts_at_most → Contains (row_of k i).settled (record { grant = p; fate = Won }) → IsOf (kept_at k) d p → (i ≡ m) × (p ≡ g)
      one d {g} w i p few c o =
          let at : place_of p.entry.slot ≡ d = at_place p d o.1 in
          let h : HasWon (exchanges i) p = (s.each_hart i few).won p c in
          let did = s.each_exchange i few (record { grant = p; found = p.lazy }) h (subst (λ n. IsOf (kept_at k) n p) (sym at) o) in
          let z : Some (i, p) ≡ Some (m, g) = sym (did.won refl) ∙ (ap s.winner at ∙ w) in
          let y : (i, p) ≡ (m, g) = cc in (ap (λ (x : ℕ × Grant). x.0) y, ap (λ (x : ℕ × Grant). x.1) y)

  -- the exchange of a grant that is known as lost found the word that its slot has
  pub loss_is : (d m : ℕ) (g : Grant) → m < harts_at_most → Contains (row_of k m).settled (record { grant = g; fate = Lost }) → IsOf (kept_at k) d g → Contains (exchanges m) (record { grant = g; found = word (value_at d) })
  loss_is d m g few c o =
      let at : place_of g.entry.slot ≡ d = at_place g d o.1 in
      let l : HasLost (exchanges m) g = (s.each_hart m few).lost g c in
      let did = s.each_exchange m few (record { grant = g; found = l.0 }) l.2 (subst (λ n. IsOf (kept_at k) n g) (sym at) o) in
      subst (λ n. Contains (exchanges m) (record { grant = g; found = n })) (sym (did.lost l.1).1 ∙ ap (λ n. word (value_at n)) at) l.2

  pub saw_tells : (d m : ℕ) → KeeperReady (kinds.Saw d m) k → KeeperLearns (kinds.Saw d m) k (word (value_at d))
  saw_tells d m saw = record {
    allowed = allowed (s.winner d) refl;
    lost = λ m g few c o q.
        let l : HasLost (exchanges m) g = (s.each_hart m few).lost g c in
        let did : Did (word (value_at (place_of g.entry.slot))) (kept_at k (place_of g.entry.slot)).lazy (s.winner (place_of g.entry.slot)) m (record { grant = g; found = l.0 }) =
        s.each_exchange m few (record { grant = g; found = l.0 }) l.2 (subst (λ n. IsOf (kept_at k) n g) (sym (at_place g d o.1)) o) in
        did.not_lazy (ap (λ n. word (value_at n)) (at_place g d o.1) ∙ (q ∙ did.lazy_is));
    fixed = λ x seen. ((s.each_slot d saw.2.0).fixed x seen).0;
    won = λ m g few c o. ((s.each_slot d saw.2.0).bound m g (won_is m g few c d o)).0;
    bound = λ other. imaged other (s.winner d) refl;
  }
    where
      imaged : (kept_at k d).value ≢ (kept_at k d).lazy → (w : Winner) → s.winner d ≡ w → word (value_at d) ≡ (kept_at k d).value
      imaged other None e = (s.each_slot d saw.2.0).image e
      imaged other (Some (m, g)) e = absurd (other ((s.each_slot d saw.2.0).lazy m g e))

      allowed : (w : Winner) → s.winner d ≡ w → IsAllowed (kept_at k) (row_of k) d (word (value_at d))
      allowed None e = inl ((s.each_slot d saw.2.0).image e)
      allowed (Some (m, g)) e = let b = (s.each_slot d saw.2.0).by m g e in inr (m, g, b.1, b.0, ((s.each_slot d saw.2.0).bound m g e).0)
