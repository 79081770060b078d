-- Views of the keeper over the steps of one call.
use Rattle.std.proofs.Common.{◌≡◌, ◌≢◌, ◌⊎◌, ⊎_elim, inl, inr, ℕ, zero, suc, ◌-◌, ◌%◌, ◌<◌, Bool, true, false, eqb, eq-eqb, ne_eqb, ◌==◌, List, [], ◌∷◌, Some, None, length, set, refl, sym, ap, subst, ◌∙◌, arith}
use Rattle.std.proofs.lemmas.Bool.Decides.{nat_tests}
use mathlib.Core.Logic.{dite}
use native.Mathlib.Decide.{ℕ_discrete}
use Rattle.ld_base.specs.declared.fault.Shown.TheVariants.{Locked}
use Rattle.ld_base.specs.declared.linking.Role.{Role}
use Rattle.ld_base.specs.declared.linking.Role.TheVariants.{None as NoRole, Ro, Rx, Rw, Slot as SlotRole}
use Rattle.word_rule.specs.declared.kind.KeeperKind.TheVariants as kinds
use Rattle.word_rule.specs.declared.view.KeeperView.{KeeperView}
use Rattle.word_rule.specs.declared.view.Kept.{Kept}
use Rattle.word_rule.specs.Layout.{control_at, doublewords, lock_bit, place_of, role_code, role_in}
use Rattle.word_rule.specs.Views.{IsLong, kept_at, nothing_locked, row_of}
use Rattle.word_rule.specs.Allowed.{LeadsTo, NothingEnters}
use Rattle.word_rule.specs.Operations.{add}
use Rattle.word_rule.specs.KeeperSteps.{KeeperLearns, KeeperReady, Unposted, accessing, heeding, keeper_after, keeper_op, keeper_word, keeps_if, last_if, retired, shown_if, with_kept}
use Rattle.word_rule.specs.Lemmas.Heeding.{heeds, kept_else, kept_here}
use Rattle.word_rule.specs.Lemmas.Unlocking.{role_is}
use Rattle.word_steps.specs.Views.{IsResting}
use Rattle.word_access.specs.WordKeeping.Keeping.{control_found, has_locked, retiring, set_as, was_shown}

set_twice : {A : Type 0} (l : List A) (i : ℕ) (a b : A) → set (set l i a) i b ≡ set l i b
set_twice [] i a b = refl
set_twice (x ∷ xs) zero a b = refl
set_twice (x ∷ xs) (suc i) a b = ap (λ l. x ∷ l) (set_twice xs i a b)

-- a resting keeper's view, with what rests taken from it
pub rests : (k : KeeperView) → IsResting k → accessing nothing_locked (heeding k) ≡ k
rests k r i = record k { access = sym r.access i; note = sym r.note i }

-- ---- a look

bit_of : (n : ℕ) → (lock_bit n == 1) ≡ false → lock_bit n ≡ 0
bit_of n e = grind (arith, nat_tests)

-- the view by the lock bit that was found
abbrev found : ℕ → ℕ → KeeperView → ℕ → KeeperView
found d n k bit = record (accessing (record { locked = None; held = None; last = last_if d n (eqb bit 0) }) (heeding k)) { shown = shown_if d (eqb bit 0) n n k.shown }

pub looks_free : (d n : ℕ) (k k' : KeeperView) → IsResting k → k' ≡ keeper_after (kinds.Look d) k n → lock_bit n ≡ 0 → k' ≡ control_found d n k
looks_free d n k k' r is free = is ∙ (ap (found d n k) free ∙ ap (λ k. accessing (record { locked = None; held = None; last = Some (d, n) }) k) (heeds k r.note))

pub looks_locked : (d n : ℕ) (k k' : KeeperView) → IsResting k → k' ≡ keeper_after (kinds.Look d) k n → lock_bit n ≡ 1 → k' ≡ was_shown d (Locked n n) k
looks_locked d n k k' r is locked = is ∙ (ap (found d n k) locked ∙ ap (was_shown d (Locked n n)) (rests k r))

-- only an RW doubleword is found locked
pub looks_rw : (d n : ℕ) (k : KeeperView) → KeeperLearns (kinds.Look d) k n → lock_bit n ≡ 1 → (kept_at k d).role ≡ Rw
looks_rw d n k learns locked = only (kept_at k d).role learns.1
  where
    only : (r : Role) → (r ≢ Rw → lock_bit n ≡ 0) → r ≡ Rw
    only Rw free = refl
    only NoRole free = let z = free (λ (e : NoRole ≡ Rw). absurd (cc)) in absurd (omega arith)
    only Ro free = let z = free (λ (e : Ro ≡ Rw). absurd (cc)) in absurd (omega arith)
    only Rx free = let z = free (λ (e : Rx ≡ Rw). absurd (cc)) in absurd (omega arith)
    only SlotRole free = let z = free (λ (e : SlotRole ≡ Rw). absurd (cc)) in absurd (omega arith)

-- ---- a lock

-- the view by whether the control word was found as it was
abbrev tried : ℕ → ℕ → ℕ → KeeperView → Bool → KeeperView
tried d control n k b = record (keeps_if d b (heeding (control_found d control k))) { shown = shown_if d b control n k.shown }

pub lock_ready : (d control : ℕ) (k k1 : KeeperView) → d < doublewords → k1 ≡ control_found d control k → lock_bit control ≡ 0 → ((kept_at k d).role ≡ SlotRole → Unposted k d) → KeeperReady (kinds.Lock d control) k1
lock_ready d control k k1 low is free slot = subst (KeeperReady (kinds.Lock d control)) (sym is) (low, refl, refl, free, slot)

pub locks : (d control n : ℕ) (k k1 k' : KeeperView) → IsResting k → k1 ≡ control_found d control k → k' ≡ keeper_after (kinds.Lock d control) k1 n → n ≡ control → k' ≡ has_locked d k
locks d control n k k1 k' r was is same = is ∙ (ap (λ k. keeper_after (kinds.Lock d control) k n) was ∙ (kept n same ∙ ap (λ k. has_locked d k) (heeds k r.note)))
  where
    yes : (a b : ℕ) → a ≡ b → eqb a b ≡ true
    yes a b e = eq-eqb a b e

    kept : (n : ℕ) → n ≡ control → tried d control n k (eqb n control) ≡ has_locked d (heeding k)
    kept n same = ap (tried d control n k) (yes n control same)

pub locks_not : (d control n : ℕ) (k k1 k' : KeeperView) → IsResting k → k1 ≡ control_found d control k → k' ≡ keeper_after (kinds.Lock d control) k1 n → n ≢ control → k' ≡ was_shown d (Locked control n) k
locks_not d control n k k1 k' r was is other = is ∙ (ap (λ k. keeper_after (kinds.Lock d control) k n) was ∙ (kept n other ∙ ap (was_shown d (Locked control n)) (rests k r)))
  where
    no' : (a b : ℕ) → a ≢ b → eqb a b ≡ false
    no' a b e = ne_eqb a b e

    kept : (n : ℕ) → n ≢ control → tried d control n k (eqb n control) ≡ was_shown d (Locked control n) (accessing nothing_locked (heeding k))
    kept n other = ap (tried d control n k) (no' n control other)

-- only an RW doubleword's control word changes under the keeper
pub locks_rw : (d control n : ℕ) (k k1 : KeeperView) → k1 ≡ control_found d control k → KeeperLearns (kinds.Lock d control) k1 n → n ≢ control → (kept_at k d).role ≡ Rw
locks_rw d control n k k1 is learns other = only (kept_at k d).role (subst (λ k. KeeperLearns (kinds.Lock d control) k n) is learns)
  where
    only : (r : Role) → (r ≢ Rw → n ≡ control) → r ≡ Rw
    only Rw same = refl
    only NoRole same = absurd (other (same (λ (e : NoRole ≡ Rw). absurd (cc))))
    only Ro same = absurd (other (same (λ (e : Ro ≡ Rw). absurd (cc))))
    only Rx same = absurd (other (same (λ (e : Rx ≡ Rw). absurd (cc))))
    only SlotRole same = absurd (other (same (λ (e : SlotRole ≡ Rw). absurd (cc))))

pub same_role : (n : ℕ) (r : Role) → n % 8 ≡ role_code r → role_in n ≡ r
same_role n r e = role_is n r e

-- ---- what the keeper knows of a doubleword that it sets

pub role_kept : (k : KeeperView) (d : ℕ) (x : Kept) → d < length k.words → x.role ≡ (kept_at k d).role → (e : ℕ) → (kept_at (with_kept d x k) e).role ≡ (kept_at k e).role
role_kept k d x low same e = dite (ℕ_discrete e d)
    (λ (at : e ≡ d). ap (λ e. (kept_at (with_kept d x k) e).role) at ∙ (ap (λ (y : Kept). y.role) (kept_here k d x low) ∙ (same ∙ ap (λ e. (kept_at k e).role) (sym at))))
    (λ (apart : e ≢ d). ap (λ (y : Kept). y.role) (kept_else k d x low e apart))

leads_on : (known known' : ℕ → Kept) (v : ℕ) → ((e : ℕ) → (known' e).role ≡ (known e).role) → LeadsTo known v → LeadsTo known' v
leads_on known known' v same l = ⊎_elim (λ (z : v ≡ 0). inl z) (λ h. inr (h.0, same (place_of v) ∙ h.1)) l

-- the doubleword is locked, and has a new value
stored : ℕ → ℕ → KeeperView → KeeperView
stored d x k = accessing (record { locked = Some d; held = Some x; last = None }) (with_kept d (record (kept_at k d) { value = x }) k)

stores : (d x : ℕ) (k k1 k2 : KeeperView) → IsResting k → k1 ≡ has_locked d k → k2 ≡ keeper_after (kinds.Store d x) k1 x → k2 ≡ stored d x k
unfolding stored
stores d x k k1 k2 r locked is = is ∙ (ap (λ k. keeper_after (kinds.Store d x) k x) locked ∙ ap (λ q. accessing (record { locked = Some d; held = Some x; last = None }) (with_kept d (record (kept_at k d) { value = x }) q)) (heeds k r.note))

long_first : (d : ℕ) (k k1 : KeeperView) → k1 ≡ has_locked d k → IsLong k1 → length k.words ≡ doublewords
long_first d k k1 locked long = sym (ap (λ (k : KeeperView). length k.words) locked) ∙ long.0

pub set_ready : (d x lazy : ℕ) (role : Role) (k k1 k2 : KeeperView) → d < doublewords → IsResting k → IsLong k1 → k1 ≡ has_locked d k → k2 ≡ keeper_after (kinds.Store d x) k1 x
    → (kept_at k d).role ≡ NoRole → role ≢ NoRole → (role ≡ SlotRole → LeadsTo (kept_at k) x) → KeeperReady (kinds.Unlock d role lazy) k2
unfolding stored
set_ready d x lazy role k k1 k2 low r long locked is fresh some_role leads = subst (KeeperReady (kinds.Unlock d role lazy)) (sym (stores d x k k1 k2 r locked is)) (
  refl,
  ap (λ (y : Kept). y.role) here ∙ fresh,
  some_role,
  ap Some (sym (ap (λ (y : Kept). y.value) here)),
  (λ e. subst (LeadsTo (kept_at (stored d x k))) (sym (ap (λ (y : Kept). y.value) here)) (leads_on (kept_at k) (kept_at (stored d x k)) x (role_kept k d (record (kept_at k d) { value = x }) inside refl) (leads e))),
)
  where
    inside : d < length k.words
    inside = subst (λ n. d < n) (sym (long_first d k k1 locked long)) low

    here : kept_at (stored d x k) d ≡ record (kept_at k d) { value = x }
    here = kept_here k d (record (kept_at k d) { value = x }) inside

twice : (k : KeeperView) (d : ℕ) (x y : Kept) → with_kept d y (with_kept d x k) ≡ with_kept d y k
twice k d x y i = record k { words = set_twice k.words d x y i }

pub sets : (d x lazy n : ℕ) (role : Role) (k k1 k2 k3 : KeeperView) → d < doublewords → IsResting k → IsLong k1 → k1 ≡ has_locked d k → k2 ≡ keeper_after (kinds.Store d x) k1 x
    → k3 ≡ keeper_after (kinds.Unlock d role lazy) k2 n → k3 ≡ set_as d x role lazy k
unfolding stored
sets d x lazy n role k k1 k2 k3 low r long locked is now =
    now ∙ (ap (λ k. keeper_after (kinds.Unlock d role lazy) k n) (stores d x k k1 k2 r locked is)
    ∙ (ap (λ v. accessing nothing_locked (heeding (with_kept d (record { role = role; value = v; lazy = lazy; since = length k.events; fixed = None }) (with_kept d (record (kept_at k d) { value = x }) k)))) (ap (λ (y : Kept). y.value) here)
    ∙ (ap (λ k. accessing nothing_locked (heeding k)) (twice k d (record (kept_at k d) { value = x }) (record { role = role; value = x; lazy = lazy; since = length k.events; fixed = None }))
    ∙ ap (λ q. with_kept d (record { role = role; value = x; lazy = lazy; since = length k.events; fixed = None }) q) (rests k r))))
  where
    here : kept_at (with_kept d (record (kept_at k d) { value = x }) k) d ≡ record (kept_at k d) { value = x }
    here = kept_here k d (record (kept_at k d) { value = x }) (subst (λ n. d < n) (sym (long_first d k k1 locked long)) low)

-- ---- a role is taken away

pub retiring_word : (d : ℕ) (r : Role) → control_at d ≡ keeper_word (retiring d r)
retiring_word d NoRole = refl
retiring_word d Ro = refl
retiring_word d Rx = refl
retiring_word d Rw = refl
retiring_word d SlotRole = refl

pub retiring_op : (d : ℕ) (r : Role) → keeper_op (retiring d r) ≡ add (8 - role_code r)
retiring_op d NoRole = refl
retiring_op d Ro = refl
retiring_op d Rx = refl
retiring_op d Rw = refl
retiring_op d SlotRole = refl

pub retire_ready : (d : ℕ) (r : Role) (k k1 : KeeperView) → k1 ≡ has_locked d k → r ≡ (kept_at k d).role → (kept_at k d).role ≢ NoRole → ((kept_at k d).role ≢ SlotRole → NothingEnters (kept_at k) (row_of k) d)
    → KeeperReady (retiring d r) k1
retire_ready d r k k1 locked is some other = subst (KeeperReady (retiring d r)) (sym locked) (go r is)
  where
    go : (r : Role) → r ≡ (kept_at k d).role → KeeperReady (retiring d r) (has_locked d k)
    go SlotRole is = (refl, sym is)
    go NoRole is = absurd (some (sym is))
    go Ro is = let apart : Ro ≢ SlotRole = (λ e. absurd (cc)) in (refl, is, apart, (λ e. absurd (cc)), other (λ e. apart (is ∙ e)))
    go Rx is = let apart : Rx ≢ SlotRole = (λ e. absurd (cc)) in (refl, is, apart, (λ e. absurd (cc)), other (λ e. apart (is ∙ e)))
    go Rw is = let apart : Rw ≢ SlotRole = (λ e. absurd (cc)) in (refl, is, apart, (λ e. absurd (cc)), other (λ e. apart (is ∙ e)))

pub retires : (d n : ℕ) (r : Role) (k k1 k2 : KeeperView) → IsResting k → k1 ≡ has_locked d k → k2 ≡ keeper_after (retiring d r) k1 n → k2 ≡ retired d k
retires d n r k k1 k2 rest locked is = is ∙ (ap (λ k. keeper_after (retiring d r) k n) locked ∙ go r)
  where
    go : (r : Role) → keeper_after (retiring d r) (has_locked d k) n ≡ retired d k
    go SlotRole = ap (retired d) (rests k rest)
    go NoRole = ap (retired d) (rests k rest)
    go Ro = ap (retired d) (rests k rest)
    go Rx = ap (retired d) (rests k rest)
    go Rw = ap (retired d) (rests k rest)

-- what a lock, and a role's end, each come to
pub ruleset locking = (lock_ready, locks, locks_not, locks_rw, same_role)

pub ruleset retirement = (retire_ready, retires, retiring_op, retiring_word)
