-- One serial more on the path.
use Rattle.std.proofs.Common.{◌≡◌, ℕ, ◌<◌, ◌≤◌, ◌⊎◌, inl, inr, ⊎_elim, Bool, cond, eqb, List, [], ◌∷◌, ◌++◌, map, length, get_or, Option, Some, None, refl, sym, ap, subst, ◌∙◌, arith, length-append}
use Rattle.std.specs.Prelude.{◌≢◌}
use Rattle.std.specs.List.{AllPairs, Contains, filter}
use Rattle.std.specs.List.Sorted.{IsPermutation}
use Rattle.std.proofs.lemmas.Bool.{cases_eq, cases_lt, eq-eqb, eqb-true, ne_eqb}
use Rattle.std.proofs.lemmas.List.{get_or_append_left, get_or_push}
use Rattle.std.proofs.lemmas.List.Elements.{Contains-append_left, Contains-append_right, Contains-append_cases, Contains-push, Contains-push_cases, Contains-get_or}
use Rattle.std.proofs.lemmas.List.Quantifiers.{all_pairs_push}
use Rattle.std.proofs.lemmas.List.Sorted.{Contains-permutation, IsPermutation-sym}
use Rattle.history_graph.specs.declared.graph.Edge.{Edge}
use Rattle.history_graph.specs.Reached.{leads_from}
use Rattle.history_graph.specs.Reached.Reached.{root, on}
use Rattle.history_graph.specs.Initialised.{Reaches}
use Rattle.history_graph.specs.Lemmas.Members.{kept, from_kept, mapped, from_mapped}
use Rattle.history_graph.specs.Lemmas.Pairs.{pairs_join}
use Rattle.init_order.specs.declared.walk.Mark.{Mark}
use Rattle.init_order.specs.declared.walk.Mark.TheVariants.{OnPath, Settled}
use Rattle.init_order.specs.declared.walk.Step.{Step}
use Rattle.init_order.specs.Walking.{step_of}
use Rattle.init_order.specs.Walked.{Walked, Together, Onward}

-- ---- reaching

pub reaches_itself : (edges : List Edge) (v : ℕ) → Reaches edges v v
reaches_itself edges v = root (0, omega arith, refl)

pub reaches_along : (edges : List Edge) (u v w : ℕ) → Reaches edges u v → Reaches edges v w → Reaches edges u w
reaches_along edges u v w first (root there) =
    ⊎_elim (λ (same : v ≡ w). subst (Reaches edges u) same first) (λ (none : Contains [] w). absurd (omega (arith, none.1))) (one_of v w there)
  where
    one_of : (x y : ℕ) → Contains (x ∷ []) y → (x ≡ y) ⊎ Contains [] y
    one_of x y there = ⊎_elim (λ (none : Contains [] y). inr none) (λ (same : x ≡ y). inl same) (Contains-push_cases [] x y there)
reaches_along edges u v w first (on e there more) = on e there (reaches_along edges u v e.source first more)

pub reaches_edge : (edges : List Edge) (u v : ℕ) → Contains edges (record { source = u; target = v }) → Reaches edges u v
reaches_edge edges u v there = let e : Edge = record { source = u; target = v } in on e there (reaches_itself edges u)

-- ---- marks

-- the marks with one more
abbrev pub Adds : (ℕ → Option Mark) → ℕ → ℕ → (ℕ → Option Mark) → Type 0
Adds marks v n more = (q : ℕ) → more q ≡ cond (eqb v q) (Some (OnPath n)) (marks q)

module _ (marks more : ℕ → Option Mark) (v n : ℕ) (adds : Adds marks v n more) (fresh : marks v ≡ None) where
  pub new_mark : more v ≡ Some (OnPath n)
  new_mark = adds v ∙ ap (λ (b : Bool). cond b (Some (OnPath n)) (marks v)) (eq-eqb v v refl)

  pub other_mark : (q : ℕ) → (v ≡ q → ⊥) → more q ≡ marks q
  other_mark q apart = adds q ∙ ap (λ (b : Bool). cond b (Some (OnPath n)) (marks q)) (ne_eqb v q apart)

  pub keeps_mark : (q : ℕ) (m : Mark) → marks q ≡ Some m → more q ≡ Some m
  keeps_mark q m is = other_mark q (λ (same : v ≡ q). none_some m (sym fresh ∙ ap marks same ∙ is)) ∙ is
    where
      none_some : (m : Mark) → ◌≡◌ {A = Option Mark} None (Some m) → ⊥
      none_some m h = cc

  pub was_mark : (q : ℕ) (m : Mark) → more q ≡ Some m → ((v ≡ q) × (m ≡ OnPath n)) ⊎ (marks q ≡ Some m)
  was_mark q m is = ⊎_elim
      (λ (same : v ≡ q). inl (same, some_same (sym is ∙ ap more (sym same) ∙ new_mark)))
      (λ (apart : v ≡ q → ⊥). inr (sym (other_mark q apart) ∙ is))
      (cases_eq v q)
    where
      some_same : Some m ≡ Some (OnPath n) → m ≡ OnPath n
      some_same h = cc

pub same_place : (i j : ℕ) → OnPath i ≡ OnPath j → i ≡ j
same_place i j h = cc

pub place_not_settled : (i c : ℕ) → OnPath i ≡ Settled c → ⊥
place_not_settled i c h = cc

pub settled_not_place : (i c : ℕ) → Settled c ≡ OnPath i → ⊥
settled_not_place i c h = cc

-- ---- a visit

-- the steps from a serial
abbrev pub steps_from : List Edge → ℕ → ℕ → List Step
steps_from successors v place = map (step_of place) (filter (leads_from v) successors)

module _ (edges successors : List Edge) (marks more : ℕ → Option Mark) (path starts : List ℕ) (pending : List Step) (visited : List ℕ) (count v : ℕ)
    (same : IsPermutation edges successors) (adds : Adds marks v (length path) more) (fresh : marks v ≡ None)
    (lead : (u i : ℕ) → marks u ≡ Some (OnPath i) → Reaches edges u v)
    (w : Walked edges marks path starts pending visited count) where
  is_new : (q i : ℕ) → more q ≡ Some (OnPath i) → ((v ≡ q) × (i ≡ length path)) ⊎ (marks q ≡ Some (OnPath i))
  is_new q i is = ⊎_elim (λ (h : (v ≡ q) × (OnPath i ≡ OnPath (length path))). inl (h.0, same_place i (length path) h.1)) (λ (h : marks q ≡ Some (OnPath i)). inr h)
      (was_mark marks more v (length path) adds fresh q (OnPath i) is)

  was_settled : (q c : ℕ) → more q ≡ Some (Settled c) → marks q ≡ Some (Settled c)
  was_settled q c is = ⊎_elim (λ (h : (v ≡ q) × (Settled c ≡ OnPath (length path))). absurd (settled_not_place (length path) c h.1)) (λ (h : marks q ≡ Some (Settled c)). h)
      (was_mark marks more v (length path) adds fresh q (Settled c) is)

  short : (u i : ℕ) → marks u ≡ Some (OnPath i) → i < length path
  short u i is = (w.on_path u i 0 is).0

  v_placed : (i d : ℕ) → i < length (path ++ v ∷ []) → more (get_or (path ++ v ∷ []) i d) ≡ Some (OnPath i)
  v_placed i d within = ⊎_elim
      (λ (low : i < length path). ap more (get_or_append_left path (v ∷ []) d i low) ∙ keeps_mark marks more v (length path) adds fresh (get_or path i d) (OnPath i) (w.placed i d low))
      (λ (high : length path ≤ i).
      let e : i ≡ length path = omega (arith, length-append path (v ∷ [])) in
      subst (λ (k : ℕ). more (get_or (path ++ v ∷ []) k d) ≡ Some (OnPath k)) (sym e)
      (ap more (get_or_push path v d (length path) refl) ∙ new_mark marks more v (length path) adds fresh))
      (cases_lt i (length path))

  v_on_path : (q i d : ℕ) → more q ≡ Some (OnPath i) → (i < length (path ++ v ∷ [])) × (get_or (path ++ v ∷ []) i d ≡ q)
  v_on_path q i d is = ⊎_elim
      (λ (h : (v ≡ q) × (i ≡ length path)).
      let at_end : get_or (path ++ v ∷ []) i d ≡ v = ap (λ (k : ℕ). get_or (path ++ v ∷ []) k d) h.1 ∙ get_or_push path v d (length path) refl in
      let long = length-append path (v ∷ []) in
      let place = h.1 in
      let within : i < length (path ++ v ∷ []) = omega arith in
      (within, at_end ∙ h.0))
      (λ (h : marks q ≡ Some (OnPath i)).
      let was = w.on_path q i d h in
      let low : i < length path = was.0 in
      let within : i < length (path ++ v ∷ []) = omega (arith, length-append path (v ∷ [])) in
      (within, get_or_append_left path (v ∷ []) d i low ∙ was.1))
      (is_new q i is)

  v_ahead : (p q i j : ℕ) → more p ≡ Some (OnPath i) → more q ≡ Some (OnPath j) → i ≤ j → Reaches edges p q
  v_ahead p q i j is is' le = ⊎_elim
      (λ (hp : (v ≡ p) × (i ≡ length path)). ⊎_elim
      (λ (hq : (v ≡ q) × (j ≡ length path)). subst (Reaches edges p) (sym hp.0 ∙ hq.0) (reaches_itself edges p))
      (λ (hq : marks q ≡ Some (OnPath j)). let low = short q j hq in let high = hp.1 in absurd (omega arith))
      (is_new q j is'))
      (λ (hp : marks p ≡ Some (OnPath i)). ⊎_elim
      (λ (hq : (v ≡ q) × (j ≡ length path)). subst (Reaches edges p) hq.0 (lead p i hp))
      (λ (hq : marks q ≡ Some (OnPath j)). w.ahead p q i j hp hq le)
      (is_new q j is'))
      (is_new p i is)

  v_back : (p q i j : ℕ) → more p ≡ Some (OnPath i) → more q ≡ Some (OnPath j) → i ≤ j → Together (starts ++ length path ∷ []) i j → Reaches edges q p
  v_back p q i j is is' le together = ⊎_elim
      (λ (hp : (v ≡ p) × (i ≡ length path)). ⊎_elim
      (λ (hq : (v ≡ q) × (j ≡ length path)). subst (Reaches edges q) (sym hq.0 ∙ hp.0) (reaches_itself edges q))
      (λ (hq : marks q ≡ Some (OnPath j)). let low = short q j hq in let high = hp.1 in absurd (omega arith))
      (is_new q j is'))
      (λ (hp : marks p ≡ Some (OnPath i)). ⊎_elim
      (λ (hq : (v ≡ q) × (j ≡ length path)).
      let low = short p i hp in
      let high = hq.1 in
      let part : length path ≤ i = together (length path) (Contains-push starts (length path)) (omega arith) in
      absurd (omega arith))
      (λ (hq : marks q ≡ Some (OnPath j)). w.back p q i j hp hq le (λ start there low. together start (Contains-append_left starts (length path ∷ []) start there) low))
      (is_new q j is'))
      (is_new p i is)

  v_steps : (s : Step) → Contains (pending ++ steps_from successors v (length path)) s
      → (u : ℕ) × (more u ≡ Some (OnPath s.place)) × Contains edges (record { source = u; target = s.target })
  v_steps s there = ⊎_elim
      (λ (h : Contains pending s). let was = w.steps s h in (was.0, keeps_mark marks more v (length path) adds fresh was.0 (OnPath s.place) was.1, was.2))
      (λ (h : Contains (steps_from successors v (length path)) s).
      let found = from_mapped (step_of (length path)) (filter (leads_from v) successors) s h in
      let e : Edge = found.0 in
      let was = from_kept (leads_from v) successors e found.1 in
      let source : e.source ≡ v = eqb-true e.source v was.1 in
      let mine : Contains edges e = Contains-permutation successors edges e (IsPermutation-sym edges successors same) was.0 in
      step_edge s e found.2 source mine)
      (Contains-append_cases pending (steps_from successors v (length path)) s there)
    where
      step_edge : (s : Step) (e : Edge) → step_of (length path) e ≡ s → e.source ≡ v → Contains edges e
          → (u : ℕ) × (more u ≡ Some (OnPath s.place)) × Contains edges (record { source = u; target = s.target })
      step_edge s e is source mine =
          subst (λ (t : Step). (u : ℕ) × (more u ≡ Some (OnPath t.place)) × Contains edges (record { source = u; target = t.target })) is
          (e.source, ap more source ∙ new_mark marks more v (length path) adds fresh, mine)

  v_rising : AllPairs (λ s t. s.place ≤ t.place) (pending ++ steps_from successors v (length path))
  v_rising = pairs_join (λ s t. s.place ≤ t.place) pending (steps_from successors v (length path)) w.rising
      (λ i j d lt within. let a = at_place i d (omega arith) in let b = at_place j d within in omega arith)
      (λ i d within k d' within'.
      let was = w.steps (get_or pending i d) (Contains-get_or pending i d within) in
      let low = short was.0 (get_or pending i d).place was.1 in
      let b = at_place k d' within' in
      omega arith)
    where
      at_place : (k : ℕ) (d : Step) → k < length (steps_from successors v (length path)) → (get_or (steps_from successors v (length path)) k d).place ≡ length path
      at_place k d within =
          let found = from_mapped (step_of (length path)) (filter (leads_from v) successors) (get_or (steps_from successors v (length path)) k d)
          (Contains-get_or (steps_from successors v (length path)) k d within) in
          sym (ap (λ (s : Step). s.place) found.2)

  still_onward : (i t : ℕ) → i < length path → Onward marks starts i t → Onward more (starts ++ length path ∷ []) i t
  still_onward i t low onward = ⊎_elim
      (λ (h : (c : ℕ) × (marks t ≡ Some (Settled c))). inl (h.0, keeps_mark marks more v (length path) adds fresh t (Settled h.0) h.1))
      (λ (h : (j : ℕ) × (marks t ≡ Some (OnPath j)) × ((start : ℕ) → Contains starts start → start ≤ i → start ≤ j)).
      inr (
        h.0,
        keeps_mark marks more v (length path) adds fresh t (OnPath h.0) h.1,
        λ start there le. ⊎_elim
            (λ (old : Contains starts start). h.2 start old le)
            (λ (e : length path ≡ start). absurd (omega arith))
            (Contains-push_cases starts (length path) start there),
      ))
      onward

  v_followed : (e : Edge) (i : ℕ) → Contains edges e → more e.source ≡ Some (OnPath i)
      → Contains (pending ++ steps_from successors v (length path)) (record { place = i; target = e.target }) ⊎ Onward more (starts ++ length path ∷ []) i e.target
  v_followed e i there is = ⊎_elim
      (λ (h : (v ≡ e.source) × (i ≡ length path)).
      let among : Contains (filter (leads_from v) successors) e = kept (leads_from v) successors e (Contains-permutation edges successors e same there) (eq-eqb e.source v (sym h.0)) in
      let step : Contains (steps_from successors v (length path)) (step_of (length path) e) = mapped (step_of (length path)) (filter (leads_from v) successors) e among in
      inl (Contains-append_right pending (steps_from successors v (length path)) (record { place = i; target = e.target })
      (subst (λ (k : ℕ). Contains (steps_from successors v (length path)) (record { place = k; target = e.target })) (sym h.1) step)))
      (λ (h : marks e.source ≡ Some (OnPath i)). ⊎_elim
      (λ (wait : Contains pending (record { place = i; target = e.target })). inl (Contains-append_left pending (steps_from successors v (length path)) (record { place = i; target = e.target }) wait))
      (λ (onward : Onward marks starts i e.target). inr (still_onward i e.target (short e.source i h) onward))
      (w.followed e i there h))
      (is_new e.source i is)

  v_closed : (e : Edge) (c : ℕ) → Contains edges e → more e.source ≡ Some (Settled c) → (d : ℕ) × (more e.target ≡ Some (Settled d)) × (d ≤ c)
  v_closed e c there is =
      let was = w.closed e c there (was_settled e.source c is) in
      (was.0, keeps_mark marks more v (length path) adds fresh e.target (Settled was.0) was.1, was.2)

  v_seen : (q : ℕ) (m : Mark) → more q ≡ Some m → Contains (visited ++ v ∷ []) q
  v_seen q m is = ⊎_elim
      (λ (h : (v ≡ q) × (m ≡ OnPath (length path))). subst (Contains (visited ++ v ∷ [])) h.0 (Contains-push visited v))
      (λ (h : marks q ≡ Some m). Contains-append_left visited (v ∷ []) q (w.seen q m h))
      (was_mark marks more v (length path) adds fresh q m is)

  v_seen_only : (q : ℕ) → Contains (visited ++ v ∷ []) q → (m : Mark) × (more q ≡ Some m)
  v_seen_only q there = ⊎_elim
      (λ (h : Contains visited q). let was = w.seen_only q h in (was.0, keeps_mark marks more v (length path) adds fresh q was.0 was.1))
      (λ (e : v ≡ q). (OnPath (length path), ap more (sym e) ∙ new_mark marks more v (length path) adds fresh))
      (Contains-push_cases visited v q there)

  pub Walked-visit : Walked edges more (path ++ v ∷ []) (starts ++ length path ∷ []) (pending ++ steps_from successors v (length path)) (visited ++ v ∷ []) count
  Walked-visit = record {
    placed = v_placed;
    on_path = v_on_path;
    ahead = v_ahead;
    back = v_back;
    settled = λ p q c is is'. w.settled p q c (was_settled p c is) (was_settled q c is');
    counted = λ q c is. w.counted q c (was_settled q c is);
    named = λ c low. let was = w.named c low in (was.0, keeps_mark marks more v (length path) adds fresh was.0 (Settled c) was.1);
    steps = v_steps;
    rising = v_rising;
    followed = v_followed;
    closed = v_closed;
    begun = λ start there. ⊎_elim
        (λ (old : Contains starts start). let low = w.begun start old in omega (arith, length-append path (v ∷ [])))
        (λ (e : length path ≡ start). omega (arith, length-append path (v ∷ [])))
        (Contains-push_cases starts (length path) start there);
    ordered = all_pairs_push (λ a b. a < b) starts (length path) w.ordered (λ k d within. w.begun (get_or starts k d) (Contains-get_or starts k d within));
    ground = λ some. ground path w.ground;
    seen = v_seen;
    seen_only = v_seen_only;
    apart = all_pairs_push (λ a b. a ≢ b) visited v w.apart (λ k d within e.
        let was = w.seen_only (get_or visited k d) (Contains-get_or visited k d within) in
        none_some was.0 (sym fresh ∙ ap marks (sym e) ∙ was.1));
  }
    where
      ground : (path : List ℕ) → (0 < length path → Contains starts 0) → Contains (starts ++ length path ∷ []) 0
      ground [] old = Contains-push starts 0
      ground (x ∷ xs) old = Contains-append_left starts (length (x ∷ xs) ∷ []) 0 (old (omega arith))

      none_some : (m : Mark) → ◌≡◌ {A = Option Mark} None (Some m) → ⊥
      none_some m h = cc
