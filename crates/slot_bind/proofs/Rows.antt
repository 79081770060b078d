-- Views of the keeper over the steps of one call on a row.
use Rattle.std.proofs.Common.{◌≡◌, ◌≢◌, ◌⊎◌, ℕ, ◌≤◌, ◌<◌, true, nat_le, List, [], ◌∷◌, length, set, zero, suc, None, Some, refl, sym, ap, subst, ◌∙◌}
use mathlib.Core.Logic.{dite}
use native.Mathlib.Decide.{ℕ_discrete}
use Rattle.history_event.specs.declared.handed.Offer.{Offer}
use Rattle.word_rule.specs.declared.entry.Entry.{Entry}
use Rattle.word_rule.specs.declared.entry.Grant.{Grant}
use Rattle.word_rule.specs.declared.entry.RowWord.{RowWord}
use Rattle.word_rule.specs.declared.entry.RowWord.TheVariants.{Number, Slot, Lazy, Value, Generation}
use Rattle.word_rule.specs.declared.kind.KeeperKind.TheVariants as kinds
use Rattle.word_rule.specs.declared.view.KeeperView.{KeeperView}
use Rattle.word_rule.specs.declared.view.Row.{Row}
use Rattle.word_rule.specs.Allowed.{IsPostable}
use Rattle.word_rule.specs.KeeperSteps.{KeeperReady, awaited_if, handed, heeding, keeper_after, opened, with_row}
use Rattle.word_rule.specs.Views.{IsLong, grant_in, kept_at, row_of, with_field}
use Rattle.word_rule.specs.Lemmas.Rows.{field_since}
use Rattle.word_steps.specs.Views.{IsResting}
use Rattle.word_rule.specs.Lemmas.Heeding.{heeds, row_else, row_here}
use Rattle.slot_bind.specs.Rows.{IsWaiting, MayHand, handed_over, row_with}
use Rattle.slot_bind.specs.Grants.{MayPost, grant_of, posted}

-- ---- one row

set_twice : {A : Type 0} (l : List A) (i : ℕ) (a b : A) → set (set l i a) i b ≡ set l i b
set_twice [] i a b = refl
set_twice (x ∷ xs) zero a b = refl
set_twice (x ∷ xs) (suc i) a b = ap (λ l. x ∷ l) (set_twice xs i a b)

twice : (k : KeeperView) (m : ℕ) (r s : Row) → with_row m s (with_row m r k) ≡ with_row m s k
twice k m r s i = record k { rows = set_twice k.rows m r s i }

-- a row changes once more
chain : (k k1 k2 : KeeperView) (m : ℕ) (r : Row) (f : Row → Row) → m < length k.rows → k1 ≡ with_row m r k → k2 ≡ with_row m (f (row_of k1 m)) k1 → k2 ≡ with_row m (f r) k
chain k k1 k2 m r f low e1 e2 = e2 ∙ (ap (λ q. with_row m (f (row_of q m)) q) e1 ∙ (ap (λ s. with_row m (f s) (with_row m r k)) (row_here k m r low) ∙ twice k m r (f r)))

inside : (k : KeeperView) (m : ℕ) → IsLong k → m < 16 → m < length k.rows
inside k m long low = subst (λ n. m < n) (sym long.1) low

-- ---- a state is loaded

pub awaits : (k k' : KeeperView) (m n : ℕ) → IsResting k → k' ≡ keeper_after (kinds.Await m) k n → k' ≡ awaited_if m (nat_le 8 n) k
awaits k k' m n r e = e ∙ ap (λ k. awaited_if m (nat_le 8 n) k) (heeds k r.note)

-- ---- words are stored

pub fills : (k k' : KeeperView) (m x : ℕ) (i : RowWord) → IsResting k → k' ≡ keeper_after (kinds.Fill m i x) k x → k' ≡ with_row m (with_field i x (row_of k m)) k
fills k k' m x i r e = e ∙ ap (λ q. with_row m (with_field i x (row_of k m)) q) (heeds k r.note)

field_pending : (i : RowWord) (x : ℕ) (r : Row) → (with_field i x r).pending ≡ r.pending
field_pending Number x r = refl
field_pending Slot x r = refl
field_pending Lazy x r = refl
field_pending Value x r = refl
field_pending Generation x r = refl

pub waits_on : (k k' : KeeperView) (m x : ℕ) (i : RowWord) → IsLong k → m < 16 → k' ≡ keeper_after (kinds.Fill m i x) k x → IsWaiting k m → IsWaiting k' m
waits_on k k' m x i long low e w =
    let here : row_of k' m ≡ with_field i x (row_of k m) = ap (λ k. row_of k m) e ∙ row_here (heeding k) m (with_field i x (row_of k m)) (inside k m long low) in
    (w.0, (w.1.0, ap (λ (r : Row). r.since) here ∙ (field_since i x (row_of k m) ∙ w.1.1), ap (λ (r : Row). r.pending) here ∙ (field_pending i x (row_of k m) ∙ w.1.2)))

pub writes : (k k1 k2 k3 k4 : KeeperView) (m : ℕ) (e : Entry) → IsLong k → m < 16 → k1 ≡ with_row m (with_field Number e.number (row_of k m)) k → k2 ≡ with_row m (with_field Slot e.slot (row_of k1 m)) k1
    → k3 ≡ with_row m (with_field Value e.value (row_of k2 m)) k2 → k4 ≡ with_row m (with_field Generation e.generation (row_of k3 m)) k3 → k4 ≡ with_row m (row_with e (row_of k m)) k
writes k k1 k2 k3 k4 m e long low e1 e2 e3 e4 =
    let at = inside k m long low in
    let s2 = chain k k1 k2 m (with_field Number e.number (row_of k m)) (with_field Slot e.slot) at e1 e2 in
    let s3 = chain k k2 k3 m (with_field Slot e.slot (with_field Number e.number (row_of k m))) (with_field Value e.value) at s2 e3 in
    chain k k3 k4 m (with_field Value e.value (with_field Slot e.slot (with_field Number e.number (row_of k m)))) (with_field Generation e.generation) at s3 e4

-- ---- an entry is handed over

pub hand_ready : (k k1 : KeeperView) (m : ℕ) (e : Entry) → IsLong k → m < 16 → k1 ≡ with_row m (row_with e (row_of k m)) k → MayHand k m e → KeeperReady (kinds.Hand m e.mark) k1
hand_ready k k1 m e long low is may = subst (KeeperReady (kinds.Hand m e.mark)) (sym is) (subst
    (λ (r : Row). (c : ℕ) × ((m < 16) × (r.since ≡ Some c) × (r.pending ≡ None)) × ((e.mark ≡ 1) ⊎ (e.mark ≡ 2) ⊎ (e.mark ≡ 6)) × (r.number ≡ length k.events) × (e.mark ≡ 1 → c < r.number)
    × (r.generation ≤ k.generation) × (e.mark ≡ 6 → r.slot ≡ 3 → (j : ℕ) (g : Grant) → (row_of K j).pending ≡ Some g → (row_of K j).found_open ≡ true))
    (sym here)
    (may.waits.0, (low, may.waits.1.1, may.waits.1.2), may.mark, may.number, may.new, may.generation, (λ six three j g pending. others six three j g pending)))
  where
    K : KeeperView
    K = with_row m (row_with e (row_of k m)) k

    here : row_of (with_row m (row_with e (row_of k m)) k) m ≡ row_with e (row_of k m)
    here = row_here k m (row_with e (row_of k m)) (inside k m long low)

    others : e.mark ≡ 6 → e.slot ≡ 3 → (j : ℕ) (g : Grant) → (row_of (with_row m (row_with e (row_of k m)) k) j).pending ≡ Some g → (row_of (with_row m (row_with e (row_of k m)) k) j).found_open ≡ true
    others six three j g pending = dite (ℕ_discrete j m)
        (λ (same : j ≡ m). let q : None ≡ Some g = sym may.waits.1.2 ∙ (sym (ap (λ (r : Row). r.pending) here) ∙ (sym (ap (λ j. (row_of (with_row m (row_with e (row_of k m)) k) j).pending) same) ∙ pending)) in absurd (cc))
        (λ (apart : j ≢ m). let at = row_else k m (row_with e (row_of k m)) (inside k m long low) j apart in
        ap (λ (r : Row). r.found_open) at ∙ may.open_rows six three j g (sym (ap (λ (r : Row). r.pending) at) ∙ pending))

pub hands : (k k1 k2 : KeeperView) (m n : ℕ) (e : Entry) → IsResting k → IsLong k → m < 16 → k1 ≡ with_row m (row_with e (row_of k m)) k → k2 ≡ keeper_after (kinds.Hand m e.mark) k1 n → k2 ≡ handed_over m e k
hands k k1 k2 m n e r long low is now =
    let rest : heeding k1 ≡ k1 = ap heeding is ∙ (ap (λ q. with_row m (row_with e (row_of k m)) q) (heeds k r.note) ∙ sym is) in
    chain k k1 k2 m (row_with e (row_of k m)) (handed e.mark) (inside k m long low) is (now ∙ ap (λ q. with_row m (handed e.mark (row_of k1 m)) q) rest)

-- ---- a grant is posted

-- the words of a grant in a row
row_granted : Grant → Row → Row
row_granted g r = record (row_with g.entry r) { lazy = g.lazy }

grants : (k k0 k1 k2 : KeeperView) (m : ℕ) (g : Grant) → IsLong k → m < 16 → k0 ≡ k → k1 ≡ with_row m (row_with g.entry (row_of k0 m)) k0 → k2 ≡ with_row m (with_field Lazy g.lazy (row_of k1 m)) k1
    → k2 ≡ with_row m (row_granted g (row_of k m)) k
unfolding row_granted
grants k k0 k1 k2 m g long low same e1 e2 = chain k k1 k2 m (row_with g.entry (row_of k m)) (with_field Lazy g.lazy) (inside k m long low) (e1 ∙ ap (λ k. with_row m (row_with g.entry (row_of k m)) k) same) e2

pub open_ready : (k k0 k1 k2 : KeeperView) (m : ℕ) (x : Offer) → IsResting k → IsLong k → m < 16 → k0 ≡ k → k1 ≡ with_row m (row_with (grant_of x k.generation).entry (row_of k0 m)) k0
    → k2 ≡ with_row m (with_field Lazy x.lazy (row_of k1 m)) k1 → MayPost k m x → KeeperReady (kinds.Open m) k2
unfolding row_granted
open_ready k k0 k1 k2 m x rest long low same e1 e2 may = subst (KeeperReady (kinds.Open m)) (sym (grants k k0 k1 k2 m (grant_of x k.generation) long low same e1 e2)) (subst
    (λ (r : Row). (c : ℕ) × ((m < 16) × (r.since ≡ Some c) × (r.pending ≡ None)) × (r.number ≡ length k.events) × (c < r.number) × (r.generation ≡ k.generation) × IsPostable (kept_at k) (grant_in r) × (k.access.locked ≡ None))
    (sym (row_here k m (row_granted (grant_of x k.generation) (row_of k m)) (inside k m long low)))
    (may.waits.0, (low, may.waits.1.1, may.waits.1.2), may.number, may.new, refl, may.postable, ap (λ (a : Rattle.word_rule.specs.declared.view.Access.Access). a.locked) rest.access))

pub opens : (k k0 k1 k2 k3 : KeeperView) (m n : ℕ) (x : Offer) → IsResting k → IsLong k → m < 16 → k0 ≡ k → k1 ≡ with_row m (row_with (grant_of x k.generation).entry (row_of k0 m)) k0
    → k2 ≡ with_row m (with_field Lazy x.lazy (row_of k1 m)) k1 → k3 ≡ keeper_after (kinds.Open m) k2 n → k3 ≡ posted m (grant_of x k.generation) k
unfolding row_granted
opens k k0 k1 k2 k3 m n x r long low same e1 e2 now =
    let is : k2 ≡ with_row m (row_granted (grant_of x k.generation) (row_of k m)) k = grants k k0 k1 k2 m (grant_of x k.generation) long low same e1 e2 in
    let rest : heeding k2 ≡ k2 = ap heeding is ∙ (ap (λ q. with_row m (row_granted (grant_of x k.generation) (row_of k m)) q) (heeds k r.note) ∙ sym is) in
    chain k k2 k3 m (row_granted (grant_of x k.generation) (row_of k m)) opened (inside k m long low) is (now ∙ ap (λ q. with_row m (opened (row_of k2 m)) q) rest)
