-- A step that is followed: to a component, or back to the path.
use Rattle.std.proofs.Common.{◌≡◌, ℕ, ◌<◌, ◌≤◌, ◌⊎◌, inl, inr, ⊎_elim, List, ◌++◌, Option, Some, subst, arith}
use Rattle.std.specs.List.{All, AllPairs, Contains}
use Rattle.std.proofs.lemmas.Bool.{cases_lt}
use Rattle.std.proofs.lemmas.List.Elements.{All-contains, Contains-append_left, Contains-append_cases}
use Rattle.history_graph.specs.declared.graph.Edge.{Edge}
use Rattle.history_graph.specs.Initialised.{Reaches}
use Rattle.history_graph.specs.Lemmas.Pairs.{pairs_front}
use Rattle.init_order.specs.declared.walk.Mark.{Mark}
use Rattle.init_order.specs.declared.walk.Mark.TheVariants.{OnPath, Settled}
use Rattle.init_order.specs.declared.walk.Step.{Step}
use Rattle.init_order.specs.Walked.{Walked, Together, Onward}
use Rattle.init_order.proofs.Visits.{reaches_along}

-- a step that has led onward isn't pending any more
module _ (edges : List Edge) (marks : ℕ → Option Mark) (path starts : List ℕ) (all rest : List Step) (s : Step) (visited : List ℕ) (count : ℕ)
    (sub : (z : Step) → Contains rest z → Contains all z) (cover : (z : Step) → Contains all z → Contains rest z ⊎ (s ≡ z))
    (rises : AllPairs (λ a b. a.place ≤ b.place) rest) where
  popped : (i t : ℕ) → Onward marks starts s.place s.target → Contains all (record { place = i; target = t }) ⊎ Onward marks starts i t
      → Contains rest (record { place = i; target = t }) ⊎ Onward marks starts i t
  popped i t onward known = ⊎_elim
      (λ (wait : Contains all (record { place = i; target = t })). ⊎_elim
      (λ (old : Contains rest (record { place = i; target = t })). inl old)
      (λ (same : s ≡ record { place = i; target = t }). inr (subst (λ (z : Step). Onward marks starts z.place z.target) same onward))
      (cover (record { place = i; target = t }) wait))
      (λ (on : Onward marks starts i t). inr on)
      known

  pub Walked-popped : Walked edges marks path starts all visited count → Onward marks starts s.place s.target → Walked edges marks path starts rest visited count
  Walked-popped w onward = record {
    placed = w.placed;
    on_path = w.on_path;
    ahead = w.ahead;
    back = w.back;
    settled = w.settled;
    counted = w.counted;
    named = w.named;
    steps = λ z there. w.steps z (sub z there);
    rising = rises;
    followed = λ e i there is. popped i e.target onward (w.followed e i there is);
    closed = w.closed;
    begun = w.begun;
    ordered = w.ordered;
    ground = w.ground;
    seen = w.seen;
    seen_only = w.seen_only;
    apart = w.apart;
  }

-- the parts behind a place that an edge leads to, from the last part, are joined to that place's part
module _ (edges : List Edge) (marks : ℕ → Option Mark) (path starts gone : List ℕ) (pending : List Step) (visited : List ℕ) (count : ℕ)
    (u t f j : ℕ) (from : marks u ≡ Some (OnPath f)) (to : marks t ≡ Some (OnPath j)) (leads : Reaches edges u t)
    (last : (start : ℕ) → Contains (starts ++ gone) start → start ≤ f) (behind : All (λ s. j < s) gone)
    (w : Walked edges marks path (starts ++ gone) pending visited count) where
  j_back : (p q i k : ℕ) → marks p ≡ Some (OnPath i) → marks q ≡ Some (OnPath k) → i ≤ k → Together starts i k → Reaches edges q p
  j_back p q i k is is' le together = ⊎_elim
      (λ (far : j < k). reaches_along edges q u p to_u (reaches_along edges u t p leads (from_t far)))
      (λ (near : k ≤ j). w.back p q i k is is' le (λ start there low. ⊎_elim
      (λ (kept : Contains starts start). together start kept low)
      (λ (dropped : Contains gone start). let high : j < start = All-contains (λ s. j < s) gone start behind dropped in absurd (omega arith))
      (Contains-append_cases starts gone start there)))
      (cases_lt j k)
    where
      to_u : Reaches edges q u
      to_u = ⊎_elim
          (λ (h : k < f). w.ahead q u k f is' from (omega arith))
          (λ (h : f ≤ k). w.back u q f k from is' h (λ start there low. last start there))
          (cases_lt k f)

      from_t : j < k → Reaches edges t p
      from_t far = ⊎_elim
          (λ (h : i < j). w.back p t i j is to (omega arith) (λ start there low. ⊎_elim
          (λ (kept : Contains starts start). together start kept (omega arith))
          (λ (dropped : Contains gone start). let high : j < start = All-contains (λ s. j < s) gone start behind dropped in absurd (omega arith))
          (Contains-append_cases starts gone start there)))
          (λ (h : j ≤ i). w.ahead t p j i to is h)
          (cases_lt i j)

  pub Walked-joined : Walked edges marks path starts pending visited count
  Walked-joined = record {
    placed = w.placed;
    on_path = w.on_path;
    ahead = w.ahead;
    back = j_back;
    settled = w.settled;
    counted = w.counted;
    named = w.named;
    steps = w.steps;
    rising = w.rising;
    followed = λ e i there is. still e i (w.followed e i there is);
    closed = w.closed;
    begun = λ start there. w.begun start (Contains-append_left starts gone start there);
    ordered = pairs_front (λ a b. a < b) starts gone w.ordered;
    ground = λ some. ⊎_elim
        (λ (kept : Contains starts 0). kept)
        (λ (dropped : Contains gone 0). let high : j < 0 = All-contains (λ s. j < s) gone 0 behind dropped in absurd (omega arith))
        (Contains-append_cases starts gone 0 (w.ground some));
    seen = w.seen;
    seen_only = w.seen_only;
    apart = w.apart;
  }
    where
      still : (e : Edge) (i : ℕ) → Contains pending (record { place = i; target = e.target }) ⊎ Onward marks (starts ++ gone) i e.target
          → Contains pending (record { place = i; target = e.target }) ⊎ Onward marks starts i e.target
      still e i known = ⊎_elim
          (λ (wait : Contains pending (record { place = i; target = e.target })). inl wait)
          (λ (on : Onward marks (starts ++ gone) i e.target). inr (⊎_elim
          (λ (h : (c : ℕ) × (marks e.target ≡ Some (Settled c))). inl h)
          (λ (h : (k : ℕ) × (marks e.target ≡ Some (OnPath k)) × ((start : ℕ) → Contains (starts ++ gone) start → start ≤ i → start ≤ k)).
          inr (h.0, h.1, λ start there le. h.2 start (Contains-append_left starts gone start there) le))
          on))
          known
