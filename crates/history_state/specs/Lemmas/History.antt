-- Journals event by event: what is pushed, what a prefix keeps, and induction over lawful ones.
use Rattle.std.proofs.Common.{◌≡◌, ◌⊎◌, inl, inr, ⊎_elim, ℕ, zero, suc, List, [], ◌∷◌, ◌++◌, take, length, append_assoc, Some, None, refl, sym, ap, subst, arith}
use Rattle.std.specs.List.{slice_get}
use Rattle.std.proofs.lemmas.List.{take_all}
use Rattle.history_event.specs.declared.event.Event.{Event}
use Rattle.history_state.specs.State.{State, empty_state}
use Rattle.history_state.specs.Step.{step}
use Rattle.history_state.specs.After.{after, after_from}
use Rattle.history_state.specs.Allowed.{Allowed, AllowedIn}
use Rattle.history_state.specs.Legal.{Legal, Lawful}
use Rattle.history_state.specs.Setting.{Machine, Setting}

-- some events behind one
pub one_behind : (past : List Event) (e : Event) (more : List Event) → (past ++ e ∷ []) ++ more ≡ past ++ e ∷ more
one_behind past e more = append_assoc past (e ∷ []) more

-- the state after events and one more
from_push : (s : State) (events : List Event) (e : Event) → after_from s (events ++ e ∷ []) ≡ step (after_from s events) e
unfolding after_from
from_push s [] e = refl
from_push s (x ∷ events) e = from_push (step s x) events e

pub after_push : (events : List Event) (e : Event) → after (events ++ e ∷ []) ≡ step (after events) e
after_push events e = from_push empty_state events e

-- the state after a prefix and its next event
from_take : (s : State) (events : List Event) (k : ℕ) (e : Event) → slice_get events k ≡ Some e → after_from s (take (suc k) events) ≡ step (after_from s (take k events)) e
unfolding after_from
from_take s [] k e at = absurd (let d : None ≡ Some e = at in cc)
from_take s (x ∷ events) zero e at = let same : x ≡ e = cc in ap (λ (y : Event). step s y) same
from_take s (x ∷ events) (suc k) e at = from_take (step s x) events k e at

pub after_take : (events : List Event) (k : ℕ) (e : Event) → slice_get events k ≡ Some e → after (take (suc k) events) ≡ step (after (take k events)) e
after_take events k e at = from_take empty_state events k e at

-- a prefix that ends before the list does has a next event; else it is the whole list
pub take_next : {X : Type 0} (xs : List X) (k : ℕ) → ((x : X) × (slice_get xs k ≡ Some x)) ⊎ (take (suc k) xs ≡ take k xs)
take_next {X} [] zero = inr refl
take_next {X} [] (suc k) = inr refl
take_next (x ∷ xs) zero = inl (x, refl)
take_next {X} (x ∷ xs) (suc k) = ⊎_elim
    (λ (h : (y : X) × (slice_get xs k ≡ Some y)). inl (h.0, h.1))
    (λ (h : take (suc k) xs ≡ take k xs). inr (ap (λ (ys : List X). x ∷ ys) h))
    (take_next xs k)

-- ---- induction

-- what holds in the empty state and is kept by each event that is allowed holds after each prefix of a lawful journal
pub by_history : (m : Machine) (P : State → Type 0) → P empty_state
    → ((w : Setting) (past : List Event) (e : Event) → w.machine ≡ m → P (after past) → AllowedIn w past (after past) e → P (step (after past) e))
    → (events : List Event) → Lawful m events → (k : ℕ) → P (after (take k events))
unfolding after_from Lawful
by_history m P first keeps events lawful zero = first
by_history m P first keeps events lawful (suc k) = ⊎_elim
    (λ (h : (e : Event) × (slice_get events k ≡ Some e)).
    let allowed = lawful k h.0 h.1 in
    subst P (sym (after_take events k h.0 h.1)) (keeps allowed.0 (take k events) h.0 allowed.1 (by_history m P first keeps events lawful k) allowed.2))
    (λ (h : take (suc k) events ≡ take k events). subst (λ (es : List Event). P (after es)) (sym h) (by_history m P first keeps events lawful k))
    (take_next events k)

pub legal_is_lawful : (w : Setting) (events : List Event) → Legal w events → Lawful w.machine events
unfolding Legal Lawful
legal_is_lawful w events legal k e at = (w, refl, legal k e at)

-- ---- one event more, and prefixes

get_push : {X : Type 0} (xs : List X) (y : X) (k : ℕ) (x : X) → slice_get (xs ++ y ∷ []) k ≡ Some x
    → ((slice_get xs k ≡ Some x) × (take k (xs ++ y ∷ []) ≡ take k xs)) ⊎ ((x ≡ y) × (take k (xs ++ y ∷ []) ≡ xs))
get_push {X} [] y zero x at = let same : y ≡ x = cc in inr (sym same, refl)
get_push {X} [] y (suc k) x at = absurd (let d : None ≡ Some x = at in cc)
get_push (z ∷ xs) y zero x at = inl (at, refl)
get_push {X} (z ∷ xs) y (suc k) x at = ⊎_elim
    (λ (h : (slice_get xs k ≡ Some x) × (take k (xs ++ y ∷ []) ≡ take k xs)). inl (h.0, ap (λ (ys : List X). z ∷ ys) h.1))
    (λ (h : (x ≡ y) × (take k (xs ++ y ∷ []) ≡ xs)). inr (h.0, ap (λ (ys : List X). z ∷ ys) h.1))
    (get_push xs y k x at)

pub legal_push : (w : Setting) (events : List Event) (e : Event) → Legal w events → Allowed w events e → Legal w (events ++ e ∷ [])
unfolding Legal
legal_push w events e legal may k x at = ⊎_elim
    (λ (h : (slice_get events k ≡ Some x) × (take k (events ++ e ∷ []) ≡ take k events)).
    subst (λ (past : List Event). Allowed w past x) (sym h.1) (legal k x h.0))
    (λ (h : (x ≡ e) × (take k (events ++ e ∷ []) ≡ events)).
    subst (λ (past : List Event). Allowed w past x) (sym h.1) (subst (λ (y : Event). Allowed w events y) (sym h.0) may))
    (get_push events e k x at)

pub lawful_push : (m : Machine) (w : Setting) (events : List Event) (e : Event) → w.machine ≡ m → Lawful m events → Allowed w events e → Lawful m (events ++ e ∷ [])
unfolding Lawful
lawful_push m w events e same lawful may k x at = ⊎_elim
    (λ (h : (slice_get events k ≡ Some x) × (take k (events ++ e ∷ []) ≡ take k events)).
    let old = lawful k x h.0 in (old.0, old.1, subst (λ (past : List Event). Allowed old.0 past x) (sym h.1) old.2))
    (λ (h : (x ≡ e) × (take k (events ++ e ∷ []) ≡ events)).
    (w, same, subst (λ (past : List Event). Allowed w past x) (sym h.1) (subst (λ (y : Event). Allowed w events y) (sym h.0) may)))
    (get_push events e k x at)

get_take : {X : Type 0} (xs : List X) (n k : ℕ) (x : X) → slice_get (take n xs) k ≡ Some x → (slice_get xs k ≡ Some x) × (take k (take n xs) ≡ take k xs)
get_take {X} [] zero k x at = absurd (let d : None ≡ Some x = at in cc)
get_take {X} [] (suc n) k x at = absurd (let d : None ≡ Some x = at in cc)
get_take {X} (y ∷ xs) zero k x at = absurd (let d : None ≡ Some x = at in cc)
get_take (y ∷ xs) (suc n) zero x at = (at, refl)
get_take {X} (y ∷ xs) (suc n) (suc k) x at = let r = get_take xs n k x at in (r.0, ap (λ (ys : List X). y ∷ ys) r.1)

pub legal_take : (w : Setting) (events : List Event) (n : ℕ) → Legal w events → Legal w (take n events)
unfolding Legal
legal_take w events n legal k e at =
    let r = get_take events n k e at in subst (λ (past : List Event). Allowed w past e) (sym r.1) (legal k e r.0)

pub lawful_take : (m : Machine) (events : List Event) (n : ℕ) → Lawful m events → Lawful m (take n events)
unfolding Lawful
lawful_take m events n lawful k e at =
    let r = get_take events n k e at in
    let old = lawful k e r.0 in (old.0, old.1, subst (λ (past : List Event). Allowed old.0 past e) (sym r.1) old.2)

-- ---- induction with what is known of the past

-- the same, where each step may use what was proved of lawful journals
pub by_lawful : (m : Machine) (P : State → Type 0) → P empty_state
    → ((w : Setting) (past : List Event) (e : Event) → w.machine ≡ m → Lawful m past → P (after past) → AllowedIn w past (after past) e → P (step (after past) e))
    → (events : List Event) → Lawful m events → P (after events)
unfolding after_from Lawful
by_lawful m P first keeps events lawful =
    subst (λ (es : List Event). P (after es)) (take_all (length events) events (omega arith)) (up_to (length events))
  where
    up_to : (k : ℕ) → P (after (take k events))
    up_to zero = first
    up_to (suc k) = ⊎_elim
        (λ (h : (e : Event) × (slice_get events k ≡ Some e)).
        let allowed = lawful k h.0 h.1 in
        subst P (sym (after_take events k h.0 h.1)) (keeps allowed.0 (take k events) h.0 allowed.1 (lawful_take m events k lawful) (up_to k) allowed.2))
        (λ (h : take (suc k) events ≡ take k events). subst (λ (es : List Event). P (after es)) (sym h) (up_to k))
        (take_next events k)
