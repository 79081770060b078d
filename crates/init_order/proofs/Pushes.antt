-- Needs, one after another.
use Rattle.std.proofs.Common.{◌≡◌, ℕ, ◌+◌, ◌<◌, ◌≤◌, ◌⊎◌, inl, inr, ⊎_elim, List, [], ◌∷◌, ◌++◌, get_or, Option, Some, None, refl, sym, ap, subst, ◌∙◌, arith}
use Rattle.std.specs.List.{Contains}
use Rattle.std.proofs.lemmas.Bool.{cases_lt}
use Rattle.std.proofs.lemmas.List.Elements.{Contains-append_left, Contains-get_or, Contains-push, Contains-push_cases}
use Rattle.history_graph.specs.declared.graph.Edge.{Edge}
use Rattle.std.specs.List.Sorted.{IsPermutation}
use Rattle.std.proofs.lemmas.List.Sorted.{Contains-permutation, IsPermutation-sym}
use Rattle.init_order.specs.Components.{AreComponents, number_of}
use Rattle.init_order.specs.declared.components.Components.{Components}
use Rattle.init_order.specs.Jobs.{Adds, IsLedNeed, IsNeed, IsPlan, IsStartNeed, IsWholeNeed, need, opens, starts, whole}
use Rattle.init_order.proofs.Results.{some_number, some_of}

no_number : (a : ℕ) → ◌≡◌ {A = Option ℕ} None (Some a) → ⊥
no_number a h = cc

pub adds_push : (old new : List Edge) (P Q : Edge → Type 0) (x : Edge) → Adds old new P → ((p : Edge) → P p → Q p) → Q x → ((p : Edge) → Q p → P p ⊎ (x ≡ p))
    → Adds old (new ++ x ∷ []) Q
adds_push old new P Q x a grows here split = record {
  stay = λ p there. Contains-append_left new (x ∷ []) p (a.stay p there);
  put = λ p q. ⊎_elim
      (λ (before : P p). Contains-append_left new (x ∷ []) p (a.put p before))
      (λ (same : x ≡ p). subst (Contains (new ++ x ∷ [])) same (Contains-push new x))
      (split p q);
  only = λ p there. ⊎_elim
      (λ (before : Contains new p). ⊎_elim (λ (was : Contains old p). inl was) (λ (is : P p). inr (grows p is)) (a.only p before))
      (λ (same : x ≡ p). inr (subst Q same here))
      (Contains-push_cases new x p there);
}

pub adds_as : (old new : List Edge) (P Q : Edge → Type 0) → Adds old new P → ((p : Edge) → P p → Q p) → ((p : Edge) → Q p → P p) → Adds old new Q
adds_as old new P Q a to from = record {
  stay = a.stay;
  put = λ p q. a.put p (from p q);
  only = λ p there. ⊎_elim (λ (was : Contains old p). inl was) (λ (is : P p). inr (to p is)) (a.only p there);
}

pub adds_join : (old mid new : List Edge) (P Q : Edge → Type 0) → Adds old mid P → Adds mid new Q → Adds old new (λ p. P p ⊎ Q p)
adds_join old mid new P Q a b = record {
  stay = λ p there. b.stay p (a.stay p there);
  put = λ p h. ⊎_elim (λ (is : P p). b.stay p (a.put p is)) (λ (is : Q p). b.put p is) h;
  only = λ p there. ⊎_elim
      (λ (before : Contains mid p). ⊎_elim (λ (was : Contains old p). inl was) (λ (is : P p). inr (inl is)) (a.only p before))
      (λ (is : Q p). inr (inr is))
      (b.only p there);
}

pub whole_pushed : (old new : List Edge) (i : ℕ) → Adds old new (IsWholeNeed i) → Adds old (new ++ need (whole i) (opens i) ∷ []) (IsWholeNeed (i + 1))
whole_pushed old new i a =
    adds_push old new (IsWholeNeed i) (IsWholeNeed (i + 1)) (need (whole i) (opens i)) a
    (λ p h. let low = h.1 in (h.0, omega arith, h.2)) (i, omega arith, refl)
    (λ p h. let low = h.1 in ⊎_elim
    (λ (before : h.0 < i). inl (h.0, before, h.2))
    (λ (at : i ≤ h.0). let same : i ≡ h.0 = omega arith in inr (ap (λ (n : ℕ). need (whole n) (opens n)) same ∙ sym h.2))
    (cases_lt h.0 i))

module _ (old new : List Edge) (number : ℕ → Option ℕ) (count : ℕ) (line : List ℕ) (i : ℕ) where
  start_grows : (p : Edge) → IsStartNeed number count line i p → IsStartNeed number count line (i + 1) p
  start_grows p h = let low = h.2 in (h.0, h.1, omega arith, h.3, h.4)

  pub start_none : Adds old new (IsStartNeed number count line i) → ((d : ℕ) → number (get_or line i d) ≡ None) → Adds old new (IsStartNeed number count line (i + 1))
  start_none a none =
      adds_as old new (IsStartNeed number count line i) (IsStartNeed number count line (i + 1)) a start_grows
      (λ p h. let low = h.2 in ⊎_elim
      (λ (before : h.0 < i). (h.0, h.1, before, h.3, h.4))
      (λ (at : i ≤ h.0). let same : i ≡ h.0 = omega arith in
      absurd (no_number h.1 (sym (none 0) ∙ ap (λ (n : ℕ). number (get_or line n 0)) same ∙ h.3 0)))
      (cases_lt h.0 i))

  pub start_pushed : (c : ℕ) → Adds old new (IsStartNeed number count line i) → ((d : ℕ) → number (get_or line i d) ≡ Some c)
      → Adds old ((new ++ need (starts count i) (opens c) ∷ []) ++ need (whole c) (starts count i) ∷ []) (IsStartNeed number count line (i + 1))
  start_pushed c a is =
      adds_push old (new ++ first ∷ []) Both (IsStartNeed number count line (i + 1)) second
      (adds_push old new (IsStartNeed number count line i) Both first a (λ p h. inl h) (inr refl) (λ p h. h))
      (λ p h. ⊎_elim
      (λ (before : IsStartNeed number count line i p). start_grows p before)
      (λ (same : first ≡ p). (i, c, omega arith, is, inl (sym same)))
      h)
      (i, c, omega arith, is, inr refl)
      (λ p h. let low = h.2 in ⊎_elim
      (λ (before : h.0 < i). inl (inl (h.0, h.1, before, h.3, h.4)))
      (λ (at : i ≤ h.0).
      let same : h.0 ≡ i = omega arith in
      let one : h.1 ≡ c = some_number h.1 c (sym (h.3 0) ∙ ap (λ (n : ℕ). number (get_or line n 0)) same ∙ is 0) in
      ⊎_elim
      (λ (q : p ≡ need (starts count h.0) (opens h.1)). inl (inr (sym (q ∙ cc))))
      (λ (q : p ≡ need (whole h.1) (starts count h.0)). inr (sym (q ∙ cc)))
      h.4)
      (cases_lt h.0 i))
    where
      first : Edge
      first = need (starts count i) (opens c)

      second : Edge
      second = need (whole c) (starts count i)

      Both : Edge → Type 0
      Both p = IsStartNeed number count line i p ⊎ (first ≡ p)

module _ (old new : List Edge) (number : ℕ → Option ℕ) (edges : List Edge) (x : Edge) where
  led_grows : (p : Edge) → IsLedNeed edges number p → IsLedNeed (edges ++ x ∷ []) number p
  led_grows p h = (h.0, h.1, h.2, Contains-append_left edges (x ∷ []) h.0 h.3, h.4, h.5, h.6, h.7)

  pub led_none : Adds old new (IsLedNeed edges number) → ((a b : ℕ) → number x.source ≡ Some a → number x.target ≡ Some b → a ≡ b) → Adds old new (IsLedNeed (edges ++ x ∷ []) number)
  led_none a none =
      adds_as old new (IsLedNeed edges number) (IsLedNeed (edges ++ x ∷ []) number) a led_grows
      (λ p h. ⊎_elim
      (λ (before : Contains edges h.0). (h.0, h.1, h.2, before, h.4, h.5, h.6, h.7))
      (λ (same : x ≡ h.0). absurd (h.6 (none h.1 h.2 (ap (λ (e : Edge). number e.source) same ∙ h.4) (ap (λ (e : Edge). number e.target) same ∙ h.5))))
      (Contains-push_cases edges x h.0 h.3))

  pub led_pushed : (a b : ℕ) → Adds old new (IsLedNeed edges number) → number x.source ≡ Some a → number x.target ≡ Some b → (a ≡ b → ⊥)
      → Adds old (new ++ need (opens a) (whole b) ∷ []) (IsLedNeed (edges ++ x ∷ []) number)
  led_pushed a b adds source target apart =
      adds_push old new (IsLedNeed edges number) (IsLedNeed (edges ++ x ∷ []) number) (need (opens a) (whole b)) adds led_grows
      (x, a, b, Contains-push edges x, source, target, apart, refl)
      (λ p h. ⊎_elim
      (λ (before : Contains edges h.0). inl (h.0, h.1, h.2, before, h.4, h.5, h.6, h.7))
      (λ (same : x ≡ h.0).
      let one : a ≡ h.1 = some_number a h.1 (sym source ∙ ap (λ (e : Edge). number e.source) same ∙ h.4) in
      let two : b ≡ h.2 = some_number b h.2 (sym target ∙ ap (λ (e : Edge). number e.target) same ∙ h.5) in
      inr (ap (λ (n : ℕ). need (opens n) (whole b)) one ∙ ap (λ (n : ℕ). need (opens h.1) (whole n)) two ∙ sym h.7))
      (Contains-push_cases edges x h.0 h.3))

-- ---- the plan that the needs make

pub plan_of : (edges : List Edge) (k : Components) (line : List ℕ) (needs all : List Edge) → AreComponents edges line k → Adds [] needs (IsNeed edges (number_of k) k.count line)
    → IsPermutation needs all → IsPlan edges (number_of k) k.count line all
plan_of edges k line needs all are adds same = record {
  numbered = λ place d within. some_of (number_of k (get_or line place d)) (sym (are.rooted (get_or line place d) (Contains-get_or line place d within)));
  counted = are.counted;
  closed = are.closed;
  joined = are.joined;
  all = λ p h. Contains-permutation needs all p same (adds.put p h);
  only = λ p there. ⊎_elim
      (λ (none : Contains [] p). let low = none.1 in absurd (omega arith))
      (λ (is : IsNeed edges (number_of k) k.count line p). is)
      (adds.only p (Contains-permutation all needs p (IsPermutation-sym needs all same) there));
}
