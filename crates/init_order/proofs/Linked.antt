-- What a task that is next says of its object.
use Rattle.std.proofs.Common.{◌≡◌, ℕ, zero, suc, ◌*◌, ◌<◌, ◌≤◌, ◌⊎◌, inl, inr, ⊎_elim, Bool, true, false, List, [], ◌∷◌, length, get_or, Option, Some, refl, sym, ap, subst, ◌∙◌, arith}
use Rattle.std.specs.List.{Contains}
use Rattle.std.proofs.lemmas.Bool.{cases_eq, cases_lt}
use Rattle.std.proofs.lemmas.List.Elements.{Contains-push_cases}
use Rattle.history_graph.specs.declared.graph.Edge.{Edge}
use Rattle.history_graph.specs.Reached.Reached.{root, on}
use Rattle.history_graph.specs.Initialised.{Reaches}
use Rattle.init_order.specs.Least.{Blocked}
use Rattle.init_order.specs.Jobs.{IsLedNeed, IsPlan, IsStartNeed, IsWholeNeed, need, opens, starts, whole}
use Rattle.init_order.proofs.Results.{some_number}
use Rattle.init_order.proofs.Visits.{reaches_along, reaches_edge}

one_of : (x y : ℕ) → Contains (x ∷ []) y → x ≡ y
one_of x y there = ⊎_elim (λ (none : Contains [] y). absurd (omega (arith, none.1))) (λ (same : x ≡ y). same) (Contains-push_cases [] x y there)

-- an object that hasn't started and that another leads to, in a lower component
pub record Waits (edges : List Edge) (number : ℕ → Option ℕ) (count : ℕ) (line : List ℕ) (left : ℕ → Bool) (v c : ℕ) : Type 0 where
  pub place : ℕ
  pub within : place < length line
  pub undone : left (starts count place) ≡ true
  pub lower : ℕ
  pub is_of : (d : ℕ) → number (get_or line place d) ≡ Some lower
  pub less : lower < c
  pub leads : (d : ℕ) → Reaches edges v (get_or line place d)

module _ (edges : List Edge) (number : ℕ → Option ℕ) (count : ℕ) (line : List ℕ) (needs : List Edge) (left : ℕ → Bool) (plan : IsPlan edges number count line needs) where
  -- numbers fall along edges
  pub falls : (u v a : ℕ) → Reaches edges u v → number u ≡ Some a → (b : ℕ) × (number v ≡ Some b) × (b ≤ a)
  falls u v a (root there) is = (a, ap number (sym (one_of u v there)) ∙ is, omega arith)
  falls u v a (on e there before) is =
      let source = falls u e.source a before is in
      let target = plan.closed e source.0 there source.1 in
      let low = source.2 in
      let lower = target.2 in
      (target.0, target.1, omega arith)

  -- all that an object leads to is in its component, or in one that is whole
  pub led_whole : (v c : ℕ) → number v ≡ Some c → ((p : Edge) → Contains needs p → left p.source ≡ false → left p.target ≡ false) → left (opens c) ≡ false
      → (x : ℕ) → Reaches edges v x → (b : ℕ) × (number x ≡ Some b) × ((b ≡ c) ⊎ (left (whole b) ≡ false))
  led_whole v c is met gate x (root there) = (c, ap number (sym (one_of v x there)) ∙ is, inl refl)
  led_whole v c is met gate x (on e there before) = next (led_whole v c is met gate e.source before)
    where
      next : ((b : ℕ) × (number e.source ≡ Some b) × ((b ≡ c) ⊎ (left (whole b) ≡ false))) → (d : ℕ) × (number e.target ≡ Some d) × ((d ≡ c) ⊎ (left (whole d) ≡ false))
      next source = ⊎_elim
          (λ (same : source.0 ≡ target.0). (
            target.0,
            target.1,
            ⊎_elim
                (λ (mine : source.0 ≡ c). inl (sym same ∙ mine))
                (λ (all : left (whole source.0) ≡ false). inr (subst (λ (n : ℕ). left (whole n) ≡ false) same all))
                source.2,
          ))
          (λ (other : source.0 ≡ target.0 → ⊥). (target.0, target.1, inr (met (need (opens source.0) (whole target.0)) (plan.all (need (opens source.0) (whole target.0)) (inr (inr (e, source.0, target.0, there, source.1, target.1, other, refl)))) open_source)))
          (cases_eq source.0 target.0)
        where
          target : (d : ℕ) × (number e.target ≡ Some d) × (d ≤ source.0)
          target = plan.closed e source.0 there source.1

          open_source : left (opens source.0) ≡ false
          open_source = ⊎_elim
              (λ (mine : source.0 ≡ c). subst (λ (n : ℕ). left (opens n) ≡ false) (sym mine) gate)
              (λ (all : left (whole source.0) ≡ false). met (need (whole source.0) (opens source.0)) (plan.all (need (whole source.0) (opens source.0)) (inr (inl (source.0, plan.counted e.source source.0 source.1, refl)))) all)
              source.2

  -- ---- what blocks a task

  pub blocked_open : (c : ℕ) → c < count → Blocked needs left (opens c)
      → (e : Edge) × (b : ℕ) × Contains edges e × (number e.source ≡ Some c) × (number e.target ≡ Some b) × (c ≡ b → ⊥) × (left (whole b) ≡ true)
  blocked_open c low block =
      let p : Edge = block.0 in
      let there : Contains needs p = block.1 in
      let source : p.source ≡ opens c = block.2 in
      let undone : left p.target ≡ true = block.3 in
      ⊎_elim
      (λ (h : IsStartNeed number count line (length line) p).
      absurd (⊎_elim
      (λ (q : p ≡ need (starts count h.0) (opens h.1)). let same : starts count h.0 ≡ opens c = sym (ap (λ (z : Edge). z.source) q) ∙ source in omega arith)
      (λ (q : p ≡ need (whole h.1) (starts count h.0)). let same : whole h.1 ≡ opens c = sym (ap (λ (z : Edge). z.source) q) ∙ source in omega arith)
      h.4))
      (λ (h : IsWholeNeed count p ⊎ IsLedNeed edges number p). ⊎_elim
      (λ (g : IsWholeNeed count p). let same : whole g.0 ≡ opens c = sym (ap (λ (z : Edge). z.source) g.2) ∙ source in absurd (omega arith))
      (λ (g : IsLedNeed edges number p).
      let same : opens g.1 ≡ opens c = sym (ap (λ (z : Edge). z.source) g.7) ∙ source in
      let is : g.1 ≡ c = omega arith in
      (g.0, g.2, g.3, g.4 ∙ ap (λ (n : ℕ). Some n) is, g.5, (λ (e : c ≡ g.2). g.6 (is ∙ e)), ap left (sym (ap (λ (z : Edge). z.target) g.7)) ∙ undone))
      h)
      (plan.only p there)

  pub blocked_whole : (c : ℕ) → c < count → Blocked needs left (whole c)
      → ((place : ℕ) × (place < length line) × ((d : ℕ) → number (get_or line place d) ≡ Some c) × (left (starts count place) ≡ true)) ⊎ (left (opens c) ≡ true)
  blocked_whole c low block =
      let p : Edge = block.0 in
      let there : Contains needs p = block.1 in
      let source : p.source ≡ whole c = block.2 in
      let undone : left p.target ≡ true = block.3 in
      ⊎_elim
      (λ (h : IsStartNeed number count line (length line) p).
      ⊎_elim
      (λ (q : p ≡ need (starts count h.0) (opens h.1)). let same : starts count h.0 ≡ whole c = sym (ap (λ (z : Edge). z.source) q) ∙ source in absurd (omega arith))
      (λ (q : p ≡ need (whole h.1) (starts count h.0)).
      let same : whole h.1 ≡ whole c = sym (ap (λ (z : Edge). z.source) q) ∙ source in
      let is : h.1 ≡ c = omega arith in
      inl (h.0, h.2, (λ d. h.3 d ∙ ap (λ (n : ℕ). Some n) is), ap left (sym (ap (λ (z : Edge). z.target) q)) ∙ undone))
      h.4)
      (λ (h : IsWholeNeed count p ⊎ IsLedNeed edges number p). ⊎_elim
      (λ (g : IsWholeNeed count p).
      let same : whole g.0 ≡ whole c = sym (ap (λ (z : Edge). z.source) g.2) ∙ source in
      let is : opens g.0 ≡ opens c = omega arith in
      inr (ap left (sym (ap (λ (z : Edge). z.target) g.2 ∙ is)) ∙ undone))
      (λ (g : IsLedNeed edges number p).
      let same : opens g.1 ≡ whole c = sym (ap (λ (z : Edge). z.source) g.7) ∙ source in absurd (omega arith))
      h)
      (plan.only p there)

  pub blocked_start : (place c : ℕ) → ((d : ℕ) → number (get_or line place d) ≡ Some c) → Blocked needs left (starts count place) → left (opens c) ≡ true
  blocked_start place c is_of block =
      let p : Edge = block.0 in
      let there : Contains needs p = block.1 in
      let source : p.source ≡ starts count place = block.2 in
      let undone : left p.target ≡ true = block.3 in
      ⊎_elim
      (λ (h : IsStartNeed number count line (length line) p).
      ⊎_elim
      (λ (q : p ≡ need (starts count h.0) (opens h.1)).
      let same : starts count h.0 ≡ starts count place = sym (ap (λ (z : Edge). z.source) q) ∙ source in
      let here : h.0 ≡ place = omega arith in
      let is : h.1 ≡ c = some_number h.1 c (sym (h.3 0) ∙ ap (λ (n : ℕ). number (get_or line n 0)) here ∙ is_of 0) in
      ap left (sym (ap (λ (z : Edge). z.target) q ∙ ap opens is)) ∙ undone)
      (λ (q : p ≡ need (whole h.1) (starts count h.0)).
      let same : whole h.1 ≡ starts count place = sym (ap (λ (z : Edge). z.source) q) ∙ source in
      let low : h.1 < count = plan.counted (get_or line h.0 0) h.1 (h.3 0) in
      absurd (omega arith))
      h.4)
      (λ (h : IsWholeNeed count p ⊎ IsLedNeed edges number p). ⊎_elim
      (λ (g : IsWholeNeed count p). let same : whole g.0 ≡ starts count place = sym (ap (λ (z : Edge). z.source) g.2) ∙ source in let low = g.1 in absurd (omega arith))
      (λ (g : IsLedNeed edges number p).
      let same : opens g.1 ≡ starts count place = sym (ap (λ (z : Edge). z.source) g.7) ∙ source in
      let low : g.1 < count = plan.counted (g.0).source g.1 g.4 in
      absurd (omega arith))
      h)
      (plan.only p there)

  -- a component that isn't open waits for an object of a lower one
  waits_step : (c v : ℕ) → number v ≡ Some c → left (opens c) ≡ true → ((t : ℕ) → t < 2 * count → left t ≡ true → Blocked needs left t)
      → ((b u : ℕ) → b < c → number u ≡ Some b → left (opens b) ≡ true → Waits edges number count line left u b) → Waits edges number count line left v c
  waits_step c v is shut blocked lower_ones =
      let small : c < count = plan.counted v c is in
      let edge = blocked_open c small (blocked (opens c) (omega arith) shut) in
      let e : Edge = edge.0 in
      let b : ℕ = edge.1 in
      let target : number e.target ≡ Some b = edge.4 in
      let next = plan.closed e c edge.2 edge.3 in
      let same : next.0 ≡ b = some_number next.0 b (sym next.1 ∙ target) in
      let le : next.0 ≤ c = next.2 in
      let less : b < c = ⊎_elim (λ (lt : b < c). lt) (λ (ge : c ≤ b). absurd (edge.5 (let h : c ≡ b = omega arith in h))) (cases_lt b c) in
      let fits : b < count = plan.counted e.target b target in
      let step : Reaches edges v e.target = reaches_along edges v e.source e.target (plan.joined v e.source c is edge.3) (reaches_edge edges e.source e.target edge.2) in
      ⊎_elim
      (λ (found : (place : ℕ) × (place < length line) × ((d : ℕ) → number (get_or line place d) ≡ Some b) × (left (starts count place) ≡ true)).
      record {
        place = found.0;
        within = found.1;
        undone = found.3;
        lower = b;
        is_of = found.2;
        less = less;
        leads = λ d. reaches_along edges v e.target (get_or line found.0 d) step (plan.joined e.target (get_or line found.0 d) b target (found.2 d));
      })
      (λ (shut' : left (opens b) ≡ true).
      let w = lower_ones b e.target less target shut' in
      let lt = w.less in
      record {
        place = w.place;
        within = w.within;
        undone = w.undone;
        lower = w.lower;
        is_of = w.is_of;
        less = omega arith;
        leads = λ d. reaches_along edges v e.target (get_or line w.place d) step (w.leads d);
      })
      (blocked_whole b fits (blocked (whole b) (omega arith) edge.6))

  pub waits_below : (n c v : ℕ) → c < n → number v ≡ Some c → left (opens c) ≡ true → ((t : ℕ) → t < 2 * count → left t ≡ true → Blocked needs left t)
      → Waits edges number count line left v c
  waits_below zero c v low is shut blocked = absurd (omega arith)
  waits_below (suc n) c v low is shut blocked =
      waits_step c v is shut blocked (λ b u lt is' shut'. waits_below n b u (omega arith) is' shut' blocked)

  -- an object that waits has a strict dependency that hasn't started
  pub waits_strictly : (v c : ℕ) → number v ≡ Some c → (w : Waits edges number count line left v c) → (d : ℕ) → ¬ (Reaches edges (get_or line w.place d) v)
  waits_strictly v c is w d back =
      let up = falls (get_or line w.place d) v w.lower back (w.is_of d) in
      let same : up.0 ≡ c = some_number up.0 c (sym up.1 ∙ is) in
      let le = up.2 in
      let lt = w.less in
      absurd (omega arith)
