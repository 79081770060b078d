-- The part on slots and grants, over changes that touch few of them.
use Rattle.std.proofs.Common.{◌≡◌, ◌≢◌, ◌⊎◌, ⊎_elim, inl, inr, ℕ, ◌+◌, ◌-◌, ◌*◌, ◌/◌, ◌≤◌, ◌<◌, List, Option, Some, refl, sym, ap, subst, ◌∙◌, arith, lt_of_not-le}
use mathlib.Core.Logic.{dite}
use native.Mathlib.Decide.{ℕ_discrete, dec_le}
use Rattle.word_rule.specs.declared.entry.Exchange.{Exchange}
use Rattle.word_rule.specs.declared.entry.Grant.{Grant}
use Rattle.word_rule.specs.declared.view.Kept.{Kept}
use Rattle.word_rule.specs.declared.view.Row.{Row}
use Rattle.word_rule.specs.Layout.{address_of, first_address, harts_at_most, place_of, state_at, value_at}
use Rattle.word_rule.specs.Views.{put}
use Rattle.word_rule.specs.Allowed.{IsAllowed, IsOf, IsSlot, LeadsTo, Stands}
use Rattle.word_rule.specs.Slots.{Did, Fated, GrantsAre, IsPending, SlotIs, Slots, Winner}
use Rattle.word_rule.specs.Lemmas.Heeding.{unseen}
use Rattle.word_rule.specs.Lemmas.Put.{put_here, put_else}

-- the doubleword of a slot's address
pub place_at : (d : ℕ) → place_of (address_of d) ≡ d
unfolding place_of
place_at d = go d (8 * d) refl
  where
    go : (d n : ℕ) → n ≡ 8 * d → (n + first_address - first_address) / 8 ≡ d
    go d n e = omega arith

pub at_place : (g : Grant) (d : ℕ) → g.entry.slot ≡ address_of d → place_of g.entry.slot ≡ d
at_place g d e = ap place_of e ∙ place_at d

-- a hart with a grant that stands has a row
pub in_reach : {word : ℕ → ℕ} {known : ℕ → Kept} {locked : Option ℕ} {count : ℕ} {row : ℕ → Row} {tried : ℕ → Option Exchange} {exchanges : ℕ → List Exchange}
    → Slots word known locked count row tried exchanges → (m : ℕ) (g : Grant) → Stands (row m) g → m < harts_at_most
in_reach {row} slots m g st = go (dec_le harts_at_most m)
  where
    go : Dec (harts_at_most ≤ m) → m < harts_at_most
    go (yes high) = absurd (slots.no_more m g high st)
    go (no low) = lt_of_not-le low

-- the words of slots and the states of rows are as they were
pub record SameSlots (word word' : ℕ → ℕ) (known : ℕ → Kept) : Type 0 where
  pub values : (d : ℕ) → IsSlot known d → word' (value_at d) ≡ word (value_at d)
  pub states : (m : ℕ) → m < harts_at_most → word' (state_at m) ≡ word (state_at m)

-- ---- the keeper's knowledge of doublewords changes: no slot appears, and what is known of slots stays, but for what was seen of them

pub record FewerSlots (word : ℕ → ℕ) (known known' : ℕ → Kept) (locked' : Option ℕ) (row : ℕ → Row) : Type 0 where
  pub was : (d : ℕ) → IsSlot known' d → IsSlot known d × (unseen (known' d) ≡ unseen (known d))
  pub posted : (m : ℕ) (g : Grant) → m < harts_at_most → (row m).pending ≡ Some g → let d = place_of g.entry.slot in IsSlot known d → IsSlot known' d × (locked' ≢ Some d)
  pub leads : (d v : ℕ) → IsSlot known' d → IsAllowed known row d v → LeadsTo known v → LeadsTo known' v
  pub fixed : (d x : ℕ) → IsSlot known' d → (known' d).fixed ≡ Some x → ((known d).fixed ≡ Some x) ⊎ ((word (value_at d) ≡ x) × (x ≢ (known d).lazy))

was_of : (known known' : ℕ → Kept) (d : ℕ) (g : Grant) → ((d : ℕ) → IsSlot known' d → IsSlot known d × (unseen (known' d) ≡ unseen (known d))) → IsOf known' d g → IsOf known d g
was_of known known' d g was o = ((was d o.0).0, o.1, subst (λ (k : Kept). k.since < g.entry.number) (was d o.0).1 o.2)

now_of : (known known' : ℕ → Kept) (d : ℕ) (g : Grant) → ((d : ℕ) → IsSlot known' d → IsSlot known d × (unseen (known' d) ≡ unseen (known d))) → IsSlot known' d → IsOf known d g → IsOf known' d g
now_of known known' d g was here o = (here, o.1, subst (λ (k : Kept). k.since < g.entry.number) (sym (was d here).1) o.2)

was_allowed : (known known' : ℕ → Kept) (row : ℕ → Row) (d v : ℕ) → ((d : ℕ) → IsSlot known' d → IsSlot known d × (unseen (known' d) ≡ unseen (known d))) → IsSlot known' d → IsAllowed known' row d v → IsAllowed known row d v
was_allowed known known' row d v was here a = ⊎_elim
    (λ (e : v ≡ (known' d).value). inl (e ∙ ap (λ (k : Kept). k.value) (was d here).1))
    (λ (h : (m : ℕ) × (g : Grant) × Stands (row m) g × IsOf known' d g × (v ≡ g.entry.value)). inr (h.0, h.1, h.2, was_of known known' d h.1 was h.3, h.4))
    a

pub fewer : (word word' : ℕ → ℕ) (known known' : ℕ → Kept) (locked locked' : Option ℕ) (count : ℕ) (row : ℕ → Row) (tried : ℕ → Option Exchange) (exchanges : ℕ → List Exchange)
    → SameSlots word word' known → FewerSlots word known known' locked' row → Slots word known locked count row tried exchanges → Slots word' known' locked' count row tried exchanges
fewer word word' known known' locked locked' count row tried exchanges same less s = record {
  winner = s.winner;
  each_slot = λ d here.
      let old : SlotIs (word (value_at d)) known count row exchanges (s.winner d) d = s.each_slot d (less.was d here).0 in
      let k : unseen (known' d) ≡ unseen (known d) = (less.was d here).1 in
      let v : word' (value_at d) ≡ word (value_at d) = same.values d (less.was d here).0 in record {
        since = subst (λ (x : Kept). x.since ≤ count) (sym k) old.since;
        image = λ e. v ∙ (old.image e ∙ ap (λ (x : Kept). x.value) (sym k));
        bound = λ m g e. let b = old.bound m g e in (v ∙ b.0, b.1, b.2 ∙ ap (λ (x : Kept). x.lazy) (sym k));
        by = λ m g e. let b = old.by m g e in (now_of known known' d g less.was here b.0, b.1, b.2);
        lazy = λ m g e. ap (λ (x : Kept). x.value) k ∙ (old.lazy m g e ∙ ap (λ (x : Kept). x.lazy) (sym k));
        leads = λ x a. let was = was_allowed known known' row d x less.was here a in less.leads d x here was (old.leads x was);
        fixed = λ x e. ⊎_elim
            (λ (q : (known d).fixed ≡ Some x). let f = old.fixed x q in (v ∙ f.0, λ z. f.1 (z ∙ ap (λ (x : Kept). x.lazy) k)))
            (λ (q : (word (value_at d) ≡ x) × (x ≢ (known d).lazy)). (v ∙ q.0, λ z. q.1 (z ∙ ap (λ (x : Kept). x.lazy) k)))
            (less.fixed d x here e);
      };
  each_hart = λ m few. let old : GrantsAre known locked count word s.winner m (row m) (tried m) (exchanges m) = s.each_hart m few in record {
    closed = λ e t. old.closed e (sym (same.states m few) ∙ t);
    pending = λ g e.
        let d : ℕ = place_of g.entry.slot in
        let p : IsPending known locked (word (value_at d)) (word (state_at m)) (s.winner d) m (row m) (tried m) (exchanges m) g = old.pending g e in
        let now : IsSlot known' d × (locked' ≢ Some d) = less.posted m g few e p.of_slot.0 in record {
          in_row = p.in_row;
          of_slot = now_of known known' d g less.was now.0 p.of_slot;
          free = now.1;
          lazy_is = p.lazy_is ∙ ap (λ (x : Kept). x.lazy) (sym (less.was d now.0).1);
          other = p.other;
          fate = subst (λ (q : ℕ × ℕ). Fated q.0 q.1 (s.winner d) m (tried m) (exchanges m) g) (λ i. (sym (same.values d p.of_slot.0) i, sym (same.states m few) i)) p.fate;
        };
    won = old.won;
    lost = old.lost;
    counted = old.counted;
    granted = old.granted;
    rising = old.rising;
  };
  each_exchange = λ m few x there o.
      let d : ℕ = place_of x.grant.entry.slot in
      let o' : IsOf known d x.grant = was_of known known' d x.grant less.was o in
      subst (λ (q : ℕ × Kept). Did q.0 q.1.lazy (s.winner d) m x) (λ i. (sym (same.values d o'.0) i, sym (less.was d o.0).1 i)) (s.each_exchange m few x there o');
  no_more = s.no_more;
}

-- words change that are no slot's and no row's state
pub beside_slots : (word word' : ℕ → ℕ) (known : ℕ → Kept) (locked : Option ℕ) (count : ℕ) (row : ℕ → Row) (tried : ℕ → Option Exchange) (exchanges : ℕ → List Exchange)
    → SameSlots word word' known → Slots word known locked count row tried exchanges → Slots word' known locked count row tried exchanges
beside_slots word word' known locked count row tried exchanges same s = fewer word word' known known locked locked count row tried exchanges same
    (record {
      was = λ d here. (here, refl);
      posted = λ m g few e here. (here, (((s.each_hart m few).pending g e).free));
      leads = λ d v here a l. l;
      fixed = λ d x here e. inl e;
    })
    s

-- ---- what is known of one hart's row changes, and perhaps the row's state and what the hart tried

-- its grants are as they were, or new and fit to be posted
pub record SameGrants (known : ℕ → Kept) (winner : ℕ → Winner) (m : ℕ) (row row' : Row) : Type 0 where
  pub back : (g : Grant) → Stands row' g → Stands row g ⊎ ((d : ℕ) → IsOf known d g → LeadsTo known g.entry.value)
  pub forth : (d : ℕ) (g : Grant) → IsSlot known d → winner d ≡ Some (m, g) → Stands row' g

pub row_changes : (word word' : ℕ → ℕ) (known : ℕ → Kept) (locked : Option ℕ) (count : ℕ) (row : ℕ → Row) (tried : ℕ → Option Exchange) (exchanges : ℕ → List Exchange) (m : ℕ) (r : Row) (t : Option Exchange)
    → m < harts_at_most → ((d : ℕ) → IsSlot known d → word' (value_at d) ≡ word (value_at d)) → ((j : ℕ) → j < harts_at_most → j ≢ m → word' (state_at j) ≡ word (state_at j))
    → (s : Slots word known locked count row tried exchanges) → SameGrants known s.winner m (row m) r
    → GrantsAre known locked count word' s.winner m r t (exchanges m)
    → Slots word' known locked count (put row m r) (put tried m t) exchanges
row_changes word word' known locked count row tried exchanges m r t few values states s grants mine = record {
  winner = s.winner;
  each_slot = λ d here. let old : SlotIs (word (value_at d)) known count row exchanges (s.winner d) d = s.each_slot d here in record {
    since = old.since;
    image = λ e. values d here ∙ old.image e;
    bound = λ j g e. let b = old.bound j g e in (values d here ∙ b.0, b.1, b.2);
    by = λ j g e. let b = old.by j g e in (b.0, stands_still d here j g e b.1, b.2);
    lazy = old.lazy;
    leads = λ v a. ⊎_elim
        (λ (e : v ≡ (known d).value). old.leads v (inl e))
        (λ (h : (j : ℕ) × (g : Grant) × Stands (put row m r j) g × IsOf known d g × (v ≡ g.entry.value)). leads_still d h.0 h.1 v (old.leads v) h.2 h.3 h.4)
        a;
    fixed = λ x e. let f = old.fixed x e in (values d here ∙ f.0, f.1);
  };
  each_hart = λ j low. dite (ℕ_discrete j m)
      (λ (e : j ≡ m). subst (λ n. GrantsAre known locked count word' s.winner n (put row m r n) (put tried m t n) (exchanges n)) (sym e)
      (subst (λ (p : Row × Option Exchange). GrantsAre known locked count word' s.winner m p.0 p.1 (exchanges m)) (λ i. (sym (put_here row m r) i, sym (put_here tried m t) i)) mine))
      (λ (apart : j ≢ m). subst (λ (p : Row × Option Exchange). GrantsAre known locked count word' s.winner j p.0 p.1 (exchanges j)) (λ i. (sym (put_else row m r j apart) i, sym (put_else tried m t j apart) i))
      (others j low (states j low apart)));
  each_exchange = λ j low x there o. let d : ℕ = place_of x.grant.entry.slot in
      subst (λ v. Did v (known d).lazy (s.winner d) j x) (sym (values d o.0)) (s.each_exchange j low x there o);
  no_more = λ j g high. subst (λ r. ¬ (Stands r g)) (sym (put_else row m r j (λ (e : j ≡ m). omega arith))) (s.no_more j g high);
}
  where
    stands_still : (d : ℕ) → IsSlot known d → (j : ℕ) (g : Grant) → s.winner d ≡ Some (j, g) → Stands (row j) g → Stands (put row m r j) g
    stands_still d here j g e st = dite (ℕ_discrete j m)
        (λ (same : j ≡ m). subst (λ x. Stands x g) (sym (ap (put row m r) same ∙ put_here row m r)) (grants.forth d g here (e ∙ ap (λ n. Some (n, g)) same)))
        (λ (apart : j ≢ m). subst (λ x. Stands x g) (sym (put_else row m r j apart)) st)

    leads_still : (d j : ℕ) (g : Grant) (v : ℕ) → (IsAllowed known row d v → LeadsTo known v) → Stands (put row m r j) g → IsOf known d g → v ≡ g.entry.value → LeadsTo known v
    leads_still d j g v old st o e = dite (ℕ_discrete j m)
        (λ (same : j ≡ m). ⊎_elim
        (λ (st : Stands (row m) g). old (inr (m, g, st, o, e)))
        (λ (new : (d : ℕ) → IsOf known d g → LeadsTo known g.entry.value). subst (LeadsTo known) (sym e) (new d o))
        (grants.back g (subst (λ x. Stands x g) (ap (put row m r) same ∙ put_here row m r) st)))
        (λ (apart : j ≢ m). old (inr (j, g, subst (λ x. Stands x g) (put_else row m r j apart) st, o, e)))

    others : (j : ℕ) → j < harts_at_most → word' (state_at j) ≡ word (state_at j) → GrantsAre known locked count word' s.winner j (row j) (tried j) (exchanges j)
    others j low state = let old : GrantsAre known locked count word s.winner j (row j) (tried j) (exchanges j) = s.each_hart j low in record {
      closed = λ e t. old.closed e (sym state ∙ t);
      pending = λ g e.
          let d : ℕ = place_of g.entry.slot in
          let p : IsPending known locked (word (value_at d)) (word (state_at j)) (s.winner d) j (row j) (tried j) (exchanges j) g = old.pending g e in record {
            in_row = p.in_row;
            of_slot = p.of_slot;
            free = p.free;
            lazy_is = p.lazy_is;
            other = p.other;
            fate = subst (λ (q : ℕ × ℕ). Fated q.0 q.1 (s.winner d) j (tried j) (exchanges j) g) (λ i. (sym (values d p.of_slot.0) i, sym state i)) p.fate;
          };
      won = old.won;
      lost = old.lost;
      counted = old.counted;
      granted = old.granted;
      rising = old.rising;
    }
