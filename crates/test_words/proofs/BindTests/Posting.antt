-- A hart's grant of the slot is posted, and its fate comes to be known.
use Rattle.std.proofs.Common.{◌≡◌, ◌≢◌, ⊎_elim, inr, ℕ, ◌+◌, ◌<◌, Bool, true, List, [], ◌∷◌, ◌++◌, length, length-append, length-set, map, None, Some, refl, sym, ap, subst, ◌∙◌, arith}
use Rattle.history_event.specs.declared.event.Event.{Event}
use Rattle.history_event.specs.declared.handed.Offer.{Offer}
use Rattle.word_rule.specs.declared.entry.Grant.{Grant}
use Rattle.word_rule.specs.declared.view.Fate.{Fate}
use Rattle.word_rule.specs.declared.view.Fate.TheVariants.{Won as FateWon, Lost as FateLost}
use Rattle.word_rule.specs.declared.view.HartView.{HartView}
use Rattle.word_rule.specs.declared.view.KeeperView.{KeeperView}
use Rattle.word_rule.specs.declared.view.Kept.{Kept}
use Rattle.word_rule.specs.declared.view.Row.{Row}
use Rattle.word_rule.specs.Allowed.{IsPostable, IsSlot, LeadsTo}
use Rattle.word_rule.specs.KeeperSteps.{TellsAsk, awaited_if, not_found, settled_as, with_row}
use Rattle.word_rule.specs.Layout.{address_of, doublewords, place_of}
use Rattle.word_rule.specs.Views.{IsLong, first_hart, kept_at, row_of}
use Rattle.word_rule.specs.Lemmas.Heeding.{kept_put, row_else, row_here, unseen}
use Rattle.word_rule.specs.Lemmas.KeeperCalls.{map_long, map_row}
use Rattle.word_rule.specs.Lemmas.Put.{put_each}
use Rattle.slot_bind.specs.Grants.{MayPost, asked_view, grant_of, posted, row_posted}
use Rattle.slot_bind.specs.declared.slot.Asked.{Asked}
use Rattle.slot_bind.specs.declared.slot.Asked.TheVariants.{Open, Won as SaysWon, Lost as SaysLost}
use Rattle.word_memory.specs.WordSeats.Making.{new_harts}
use Rattle.word_steps.specs.Knowing.{counted}
use Rattle.test_words.specs.BindTests.Stocked.{HasAsked, HasPosted, IsFor, IsNew, IsStocked}
use Rattle.test_words.proofs.BindTests.Places.{first_place, low_place, second_place, slot_place}

-- ---- a grant of the slot may be posted

postable : (known : ℕ → Kept) (x : Offer) (n generation : ℕ) → IsStocked known → IsFor x (n + 1) → IsPostable known (grant_of x generation)
postable known x n generation stocked is = record {
  of_slot = subst (λ s. IsSlot known (place_of s) × (s ≡ address_of (place_of s)) × ((known (place_of s)).since < x.event)) (sym is.slot) (
    (low_place (place_of 0x37010) 19970 slot_place (omega arith), stocked.role),
    (let p = slot_place in omega arith),
    subst (λ m. m < x.event) (sym stocked.since) (subst (λ m. 0 < m) (sym is.event) (omega arith)),
  );
  lazy_is = is.lazy ∙ (sym stocked.lazy ∙ ap (λ s. (known (place_of s)).lazy) (sym is.slot));
  other = λ e. ⊎_elim (λ (v : x.value ≡ 0x39000). apart 0x39000 (sym v ∙ (e ∙ is.lazy)) (λ q. absurd (omega arith))) (λ (v : x.value ≡ 0x3c000). apart 0x3c000 (sym v ∙ (e ∙ is.lazy)) (λ q. absurd (omega arith))) is.value;
  leads = ⊎_elim
      (λ (v : x.value ≡ 0x39000). subst (LeadsTo known) (sym v) (inr ((omega arith, low_place (place_of 0x39000) 20992 first_place (omega arith)), stocked.first_code)))
      (λ (v : x.value ≡ 0x3c000). subst (LeadsTo known) (sym v) (inr ((omega arith, low_place (place_of 0x3c000) 22528 second_place (omega arith)), stocked.second_code)))
      is.value;
}
  where
    apart : (v : ℕ) → v ≡ 0x35000 → (v ≡ 0x35000 → ⊥) → ⊥
    apart v e never = never e

module _ (k : KeeperView) (m : ℕ) (long : IsLong k) (low : m < 16) where
  -- the hart was found calling
  inside : m < length (map not_found k.rows)
  inside = subst (λ n. m < n) (sym (map_long k.rows ∙ long.1)) low

  here : row_of (awaited_if m true k) m ≡ record (not_found (row_of k m)) { since = Some (length k.events) }
  here = row_here (record k { rows = map not_found k.rows }) m (record (not_found (row_of k m)) { since = Some (length k.events) }) inside

  others : (j : ℕ) → j ≢ m → (row_of (awaited_if m true k) j).pending ≡ (row_of k j).pending
  others j apart = ap (λ (r : Row). r.pending) (row_else (record k { rows = map not_found k.rows }) m (record (not_found (row_of k m)) { since = Some (length k.events) }) inside j apart ∙ sym (map_row k.rows j))

  pub may_post : (b : Bool) (k1 k2 : KeeperView) (x : Offer) (e : Event) → b ≡ true → k1 ≡ awaited_if m b k → k2 ≡ counted e k1 → IsStocked (kept_at k) → (row_of k m).pending ≡ None → IsFor x (length k.events + 1) → MayPost k2 m x
  may_post b k1 k2 x e yes' e1 e2 stocked free is = subst (λ k. MayPost k m x) (sym (e2 ∙ ap (counted e) (e1 ∙ ap (λ b. awaited_if m b k) yes'))) (record {
    waits = (length k.events, (low, ap (λ (r : Row). r.since) here, ap (λ (r : Row). r.pending) here ∙ free));
    number = is.event ∙ sym (length-append k.events (e ∷ []));
    new = subst (λ n. length k.events < n) (sym is.event) (omega arith);
    postable = postable (kept_at k) x (length k.events) k.generation stocked is;
  })

  pub has_posted : (b : Bool) (k1 k2 k3 : KeeperView) (g : Grant) (e : Event) → b ≡ true → k1 ≡ awaited_if m b k → k2 ≡ counted e k1 → k3 ≡ posted m g k2 → HasPosted k k3 m
  has_posted b k1 k2 k3 g e yes' e1 e2 e3 = subst (λ k3. HasPosted k k3 m) (sym (e3 ∙ ap (posted m g) (e2 ∙ ap (counted e) (e1 ∙ ap (λ b. awaited_if m b k) yes')))) (record {
    pending = (g, ap (λ (r : Row). r.pending) (row_here (counted e (awaited_if m true k)) m (row_posted g (row_of (counted e (awaited_if m true k)) m)) inside'));
    others = λ j apart. ap (λ (r : Row). r.pending) (row_else (counted e (awaited_if m true k)) m (row_posted g (row_of (counted e (awaited_if m true k)) m)) inside' j apart) ∙ others j apart;
    known = refl;
    count = length-append k.events (e ∷ []);
  })
    where
      inside' : m < length (awaited_if m true k).rows
      inside' = subst (λ n. m < n) (sym (length-set (map not_found k.rows) m (record (not_found (row_of k m)) { since = Some (length k.events) }))) inside

-- ---- its fate comes to be known

-- the words of the tests are as they were, but for what was seen of them
restocked : (known known' : ℕ → Kept) → ((d : ℕ) → unseen (known' d) ≡ unseen (known d)) → IsStocked known → IsStocked known'
restocked known known' same s = record {
  role = ap (λ (x : Kept). x.role) (same (place_of 0x37010)) ∙ s.role;
  lazy = ap (λ (x : Kept). x.lazy) (same (place_of 0x37010)) ∙ s.lazy;
  since = ap (λ (x : Kept). x.since) (same (place_of 0x37010)) ∙ s.since;
  lazy_code = ap (λ (x : Kept). x.role) (same (place_of 0x35000)) ∙ s.lazy_code;
  first_code = ap (λ (x : Kept). x.role) (same (place_of 0x39000)) ∙ s.first_code;
  second_code = ap (λ (x : Kept). x.role) (same (place_of 0x3c000)) ∙ s.second_code;
  only = λ d is. s.only d (is.0, ap (λ (x : Kept). x.role) (sym (same d)) ∙ is.1);
}

module _ (k : KeeperView) (m n : ℕ) (long : IsLong k) (low : m < 16) (stocked : IsStocked (kept_at k)) (told : TellsAsk k m n) (g : Grant) (pending : (row_of k m).pending ≡ Some g) where
  settles : (f : Fate) → HasAsked k (with_row m (settled_as f (row_of k m).pending (row_of k m)) k) m
  settles f = record {
    pending = ap (λ (r : Row). r.pending) (row_here k m (settled_as f (row_of k m).pending (row_of k m)) (subst (λ i. m < i) (sym long.1) low)) ∙ ap (λ p. (settled_as f p (row_of k m)).pending) pending;
    others = λ j apart. ap (λ (r : Row). r.pending) (row_else k m (settled_as f (row_of k m).pending (row_of k m)) (subst (λ i. m < i) (sym long.1) low) j apart);
    stocked = stocked;
  }

  slot_inside : place_of (row_of k m).slot < length k.words
  slot_inside = subst (λ i. place_of (row_of k m).slot < i) (sym long.0) (subst (λ s. place_of s < doublewords) (ap (λ (g : Grant). g.entry.slot) (told.in_row g pending)) (told.of_slot g pending).0.0)

  pub has_asked : (k' : KeeperView) (a : Asked) → k' ≡ asked_view m a k → a ≢ Open → HasAsked k k' m
  has_asked k' Open e other = absurd (other refl)
  has_asked k' SaysWon e other = subst (λ k'. HasAsked k k' m) (sym e) (settles FateWon)
  has_asked k' (SaysLost saw) e other =
      let s : HasAsked k (with_row m (settled_as FateLost (row_of k m).pending (row_of k m)) k) m = settles FateLost in
      subst (λ k'. HasAsked k k' m) (sym e) (record {
        pending = s.pending;
        others = s.others;
        stocked = restocked (kept_at k) (kept_at (asked_view m (SaysLost saw) k)) same stocked;
      })
    where
      same : (d : ℕ) → unseen (kept_at (asked_view m (SaysLost saw) k) d) ≡ unseen (kept_at k d)
      same d = ap (λ f. unseen (f d)) (kept_put k (place_of (row_of k m).slot) (record (kept_at k (place_of (row_of k m).slot)) { fixed = Some saw }) slot_inside)
          ∙ put_each (λ d y. unseen y ≡ unseen (kept_at k d)) (kept_at k) (place_of (row_of k m).slot) (record (kept_at k (place_of (row_of k m).slot)) { fixed = Some saw }) (λ d _. refl) refl d

-- ---- a hart that has done nothing

pub first_new : (h : HartView) (n : ℕ) → h ≡ first_hart n → IsNew h
first_new h n is = subst IsNew (sym is) (record { idle = refl; no_offer = refl; untried = refl })

-- the seats of two harts, taken from the end of their list
pub two_left : (l l1 l2 : List HartView) (one zero' : HartView) → l ≡ new_harts 2 → l ≡ l1 ++ one ∷ [] → l1 ≡ l2 ++ zero' ∷ [] → (zero' ≡ first_hart 0) × (one ≡ first_hart 1)
two_left l l1 l2 one zero' all last before = go l2 (sym all ∙ (last ∙ ap (λ l. l ++ one ∷ []) before))
  where
    go : (l2 : List HartView) → first_hart 0 ∷ first_hart 1 ∷ [] ≡ (l2 ++ zero' ∷ []) ++ one ∷ [] → (zero' ≡ first_hart 0) × (one ≡ first_hart 1)
    go [] e = let q : first_hart 0 ∷ first_hart 1 ∷ [] ≡ zero' ∷ one ∷ [] = e in let a : first_hart 0 ≡ zero' = cc in let b : first_hart 1 ≡ one = cc in (sym a, sym b)
    go (x ∷ r) e =
        let n : length (first_hart 0 ∷ first_hart 1 ∷ []) ≡ length ((x ∷ r ++ zero' ∷ []) ++ one ∷ []) = ap length e in
        let m : length ((x ∷ r ++ zero' ∷ []) ++ one ∷ []) ≡ length (x ∷ r ++ zero' ∷ []) + 1 = length-append (x ∷ r ++ zero' ∷ []) (one ∷ []) in
        let k : length (x ∷ r ++ zero' ∷ []) ≡ length (x ∷ r) + 1 = length-append (x ∷ r) (zero' ∷ []) in absurd (omega arith)
