-- One step of a walk, with what is left to do.
use Rattle.std.proofs.Common.{◌≡◌, ℕ, ◌+◌, ◌-◌, ◌<◌, ◌≤◌, inl, inr, ⊎_elim, Bool, true, false, not, cond, eqb, List, [], ◌∷◌, ◌++◌, length, get_or, take, drop, Option, Some, None, refl, sym, ap, subst, ◌∙◌, arith, length-append}
use Rattle.std.specs.List.{All, AllPairs, Contains, count_by, filter}
use Rattle.std.specs.Option.{is_some}
use Rattle.std.proofs.lemmas.Bool.{cases_Bool, cases_eq, cases_lt, eq-eqb, ne_eqb}
use Rattle.std.proofs.lemmas.List.{get_or-drop, length-drop, length-map, length-take-le, take_more}
use Rattle.std.proofs.Math.Seq.{take-length}
use Rattle.std.proofs.lemmas.List.Elements.{All-cons, All-contains, All-head, All-tail, Contains-append_left, Contains-append_right, Contains-append_cases, Contains-push, Contains-push_cases}
use Rattle.std.proofs.lemmas.List.Kept.{AllPairs-cons}
use Rattle.std.proofs.lemmas.List.Sums.{length-filter, sum_by-cons}
use Rattle.std.proofs.lemmas.List.Sorted.{IsPermutation-refl}
use Rattle.history_graph.specs.declared.graph.Edge.{Edge}
use Rattle.history_graph.specs.Reached.{leads_from}
use Rattle.history_graph.specs.Initialised.{Reaches}
use Rattle.history_graph.specs.Lemmas.Members.{count_parts}
use Rattle.history_graph.specs.Lemmas.Pairs.{pairs_front, pairs_head, pairs_last, pairs_tail}
use Rattle.init_order.specs.declared.walk.Mark.{Mark}
use Rattle.init_order.specs.declared.walk.Mark.TheVariants.{OnPath, Settled}
use Rattle.init_order.specs.declared.walk.Step.{Step}
use Rattle.init_order.specs.Walking.{DropsBehind, is_in, step_of}
use Rattle.init_order.specs.Walked.{Walked, work}
use Rattle.init_order.proofs.Visits.{Adds, Walked-visit, steps_from, reaches_along, reaches_edge, new_mark, other_mark}
use Rattle.init_order.proofs.Joins.{Walked-joined, Walked-popped}
use Rattle.init_order.proofs.Settles.{from_is_in}

abbrev Rises : Step → Step → Type 0
Rises a b = a.place ≤ b.place

-- a list without an element in the middle
all_without : (P : Step → Type 0) (xs : List Step) (y : Step) (zs : List Step) → All P ((xs ++ y ∷ []) ++ zs) → All P (xs ++ zs)
all_without P [] y zs all = All-tail P y zs all
all_without P (x ∷ xs) y zs all = All-cons P x (xs ++ zs) (All-head P x ((xs ++ y ∷ []) ++ zs) all) (all_without P xs y zs (All-tail P x ((xs ++ y ∷ []) ++ zs) all))

pairs_without : (xs : List Step) (y : Step) (zs : List Step) → AllPairs Rises ((xs ++ y ∷ []) ++ zs) → AllPairs Rises (xs ++ zs)
pairs_without [] y zs pairs = pairs_tail Rises y zs pairs
pairs_without (x ∷ xs) y zs pairs =
    AllPairs-cons Rises x (xs ++ zs) (all_without (Rises x) xs y zs (pairs_head Rises x ((xs ++ y ∷ []) ++ zs) pairs))
    (pairs_without xs y zs (pairs_tail Rises x ((xs ++ y ∷ []) ++ zs) pairs))

-- a visit takes the edges of its serial out of those that are left
pub left_less : (successors : List Edge) (marks more : ℕ → Option Mark) (v n : ℕ) → Adds marks v n more → marks v ≡ None
    → count_by (λ e. not (is_some (more e.source))) successors + length (steps_from successors v n) ≡ count_by (λ e. not (is_some (marks e.source))) successors
left_less successors marks more v n adds fresh =
    ap (λ (k : ℕ). count_by (λ e. not (is_some (more e.source))) successors + k) (length-map (filter (leads_from v) successors) (step_of n) ∙ length-filter (leads_from v) successors)
    ∙ count_parts (λ e. not (is_some (marks e.source))) (λ e. not (is_some (more e.source))) (leads_from v) successors parts
  where
    parts : (e : Edge) → cond (not (is_some (more e.source))) 1 0 + cond (eqb e.source v) 1 0 ≡ cond (not (is_some (marks e.source))) 1 0
    parts e = ⊎_elim
        (λ (same : v ≡ e.source).
        let here : more e.source ≡ Some (OnPath n) = ap more (sym same) ∙ new_mark marks more v n adds fresh in
        let was : marks e.source ≡ None = ap marks (sym same) ∙ fresh in
        rw (here, was, eq-eqb e.source v (sym same)) refl)
        (λ (other : v ≡ e.source → ⊥).
        rw (other_mark marks more v n adds fresh e.source other, ne_eqb e.source v (λ (h : e.source ≡ v). other (sym h))) (omega arith))
        (cases_eq v e.source)

module _ (edges : List Edge) (marks : ℕ → Option Mark) (path starts : List ℕ) (rest : List Step) (s : Step) (visited : List ℕ) (count : ℕ)
    (last : (start : ℕ) → Contains starts start → start ≤ s.place)
    (w : Walked edges marks path starts (rest ++ s ∷ []) visited count) where
  -- all on the path lead to the step's target
  lead : (p i : ℕ) → marks p ≡ Some (OnPath i) → Reaches edges p s.target
  lead p i is =
      let from = w.steps s (Contains-push rest s) in
      reaches_along edges p from.0 s.target
      (⊎_elim
      (λ (before : i < s.place). w.ahead p from.0 i s.place is from.1 (omega arith))
      (λ (behind : s.place ≤ i). w.back from.0 p s.place i from.1 is behind (λ start there low. last start there))
      (cases_lt i s.place))
      (reaches_edge edges from.0 s.target from.2)

  sub_rest : (z : Step) → Contains rest z → Contains (rest ++ s ∷ []) z
  sub_rest z there = Contains-append_left rest (s ∷ []) z there

  rises_rest : AllPairs Rises rest
  rises_rest = pairs_front Rises rest (s ∷ []) w.rising

  -- to a component
  pub follow_settled : (c : ℕ) → marks s.target ≡ Some (Settled c) → Walked edges marks path starts rest visited count
  follow_settled c is = Walked-popped edges marks path starts (rest ++ s ∷ []) rest s visited count sub_rest (λ z there. Contains-push_cases rest s z there) rises_rest w (inl (c, is))

  -- back to the path
  pub follow_back : (j : ℕ) (kept : List ℕ) → marks s.target ≡ Some (OnPath j) → DropsBehind starts kept j → Walked edges marks path kept rest visited count
  follow_back j kept is drops =
      let from = w.steps s (Contains-push rest s) in
      let old : Walked edges marks path (kept ++ drops.gone) (rest ++ s ∷ []) visited count =
      subst (λ (bs : List ℕ). Walked edges marks path bs (rest ++ s ∷ []) visited count) drops.parts w in
      let low : (start : ℕ) → Contains (kept ++ drops.gone) start → start ≤ s.place = λ start there. last start (subst (λ (bs : List ℕ). Contains bs start) (sym drops.parts) there) in
      let joined = Walked-joined edges marks path kept drops.gone (rest ++ s ∷ []) visited count from.0 s.target s.place j from.1 is
      (reaches_edge edges from.0 s.target from.2) low drops.behind old in
      Walked-popped edges marks path kept (rest ++ s ∷ []) rest s visited count sub_rest (λ z there. Contains-push_cases rest s z there) rises_rest joined
      (inr (j, is, λ start there le. all_low kept joined.ordered drops.last start there))
    where
      all_low : (kept : List ℕ) → AllPairs (λ a b. a < b) kept → ((front : List ℕ) (b : ℕ) → kept ≡ front ++ b ∷ [] → b ≤ j) → (start : ℕ) → Contains kept start → start ≤ j
      all_low [] ordered final start there = absurd (omega (arith, there.1))
      all_low (x ∷ xs) ordered final start there =
          let split = split_last x xs in
          let top : split.1 ≤ j = final split.0 split.1 split.2 in
          ⊎_elim
          (λ (in_front : Contains split.0 start).
          let lt : start < split.1 = All-contains (λ a. a < split.1) split.0 start (pairs_last (λ a b. a < b) split.0 split.1 (subst (AllPairs (λ a b. a < b)) split.2 ordered)) in_front in
          omega arith)
          (λ (same : split.1 ≡ start). omega arith)
          (Contains-push_cases split.0 split.1 start (subst (λ (bs : List ℕ). Contains bs start) split.2 there))
        where
          split_last : (x : ℕ) (xs : List ℕ) → (front : List ℕ) × (b : ℕ) × (x ∷ xs ≡ front ++ b ∷ [])
          split_last x [] = ([], x, refl)
          split_last x (y ∷ ys) = let rest = split_last y ys in (x ∷ rest.0, rest.1, ap (λ (zs : List ℕ). x ∷ zs) rest.2)

  -- to a new serial
  pub follow_new : (more : ℕ → Option Mark) → marks s.target ≡ None → Adds marks s.target (length path) more
      → Walked edges more (path ++ s.target ∷ []) (starts ++ length path ∷ []) (rest ++ steps_from edges s.target (length path)) (visited ++ s.target ∷ []) count
  follow_new more fresh adds =
      let t : ℕ = s.target in
      let new : List Step = steps_from edges t (length path) in
      let visit = Walked-visit edges edges marks more path starts (rest ++ s ∷ []) visited count t (IsPermutation-refl edges) adds fresh lead w in
      Walked-popped edges more (path ++ t ∷ []) (starts ++ length path ∷ []) ((rest ++ s ∷ []) ++ new) (rest ++ new) s (visited ++ t ∷ []) count
      (λ z there. ⊎_elim
      (λ (h : Contains rest z). Contains-append_left (rest ++ s ∷ []) new z (sub_rest z h))
      (λ (h : Contains new z). Contains-append_right (rest ++ s ∷ []) new z h)
      (Contains-append_cases rest new z there))
      (λ z there. ⊎_elim
      (λ (h : Contains (rest ++ s ∷ []) z). ⊎_elim
      (λ (k : Contains rest z). inl (Contains-append_left rest new z k))
      (λ (k : s ≡ z). inr k)
      (Contains-push_cases rest s z h))
      (λ (h : Contains new z). inl (Contains-append_right rest new z h))
      (Contains-append_cases (rest ++ s ∷ []) new z there))
      (pairs_without rest s new visit.rising)
      visit
      (inr (
        length path,
        new_mark marks more t (length path) adds fresh,
        λ start there le. ⊎_elim
            (λ (h : Contains starts start). let low = w.begun start h in omega arith)
            (λ (h : length path ≡ start). omega arith)
            (Contains-push_cases starts (length path) start there),
      ))

  pub work_new : (more : ℕ → Option Mark) → marks s.target ≡ None → Adds marks s.target (length path) more
      → work edges more (starts ++ length path ∷ []) (rest ++ steps_from edges s.target (length path)) < work edges marks starts (rest ++ s ∷ [])
  work_new more fresh adds =
      let less = left_less edges marks more s.target (length path) adds fresh in
      omega (arith, length-append starts (length path ∷ []), length-append rest (steps_from edges s.target (length path)), length-append rest (s ∷ []))

-- ---- the end of a part

-- no step of a list that rises is from the last part, if the last isn't
pub all_cut : (pending : List Step) (start : ℕ) → AllPairs Rises pending → ((d : Step) → 0 < length pending → (get_or pending (length pending - 1) d).place < start)
    → (s : Step) → Contains pending s → s.place < start
all_cut pending start rises cut s there =
    let i : ℕ = there.0 in
    let within : i < length pending = there.1 in
    let top : (get_or pending (length pending - 1) s).place < start = cut s (omega arith) in
    let is : (get_or pending i s).place ≡ s.place = ap (λ (z : Step). z.place) there.2 in
    ⊎_elim
    (λ (before : i < length pending - 1).
    let le : (get_or pending i s).place ≤ (get_or pending (length pending - 1) s).place = rises i (length pending - 1) s before (omega arith) in
    omega arith)
    (λ (last : length pending - 1 ≤ i).
    let e : i ≡ length pending - 1 = omega arith in
    let same : (get_or pending i s).place ≡ (get_or pending (length pending - 1) s).place = ap (λ (k : ℕ). (get_or pending k s).place) e in
    omega arith)
    (cases_lt i (length pending - 1))

-- a list with its last element apart
pub last_apart : (starts : List ℕ) (d : ℕ) → 0 < length starts → starts ≡ take (length starts - 1) starts ++ get_or starts (length starts - 1) d ∷ []
last_apart starts d some =
    let e : length starts ≡ (length starts - 1) + 1 = omega arith in
    sym (take-length starts) ∙ ap (λ (n : ℕ). take n starts) e ∙ take_more starts (length starts - 1) d (omega arith)

-- an end of a part is a turn less: marked serials stay marked
pub work_end : (edges : List Edge) (marks more : ℕ → Option Mark) (starts : List ℕ) (pending : List Step) → 0 < length starts
    → ((q : ℕ) → is_some (more q) ≡ is_some (marks q))
    → work edges more (take (length starts - 1) starts) pending < work edges marks starts pending
work_end edges marks more starts pending some same =
    let one : count_by (λ e. not (is_some (more e.source))) edges ≡ count_by (λ e. not (is_some (marks e.source))) edges = counts edges in
    let long = length-take-le (length starts - 1) starts (omega arith) in
    omega arith
  where
    counts : (es : List Edge) → count_by (λ e. not (is_some (more e.source))) es ≡ count_by (λ e. not (is_some (marks e.source))) es
    counts [] = refl
    counts (e ∷ es) =
        let rest = counts es in
        let here : ◌≡◌ {A = ℕ} (cond (not (is_some (more e.source))) 1 0) (cond (not (is_some (marks e.source))) 1 0) = ap (λ (b : Bool). cond {A = ℕ} (not b) 1 0) (same e.source) in
        omega (arith, sum_by-cons (λ (x : Edge). cond (not (is_some (more x.source))) 1 0) e es, sum_by-cons (λ (x : Edge). cond (not (is_some (marks x.source))) 1 0) e es)

-- a serial of a component was marked before
pub marked_still : (path : List ℕ) (start : ℕ) (marks more : ℕ → Option Mark) (count : ℕ)
    → ((q : ℕ) → more q ≡ cond (is_in (drop start path) q) (Some (Settled count)) (marks q))
    → ((i d : ℕ) → i < length path → marks (get_or path i d) ≡ Some (OnPath i)) → (q : ℕ) → is_some (more q) ≡ is_some (marks q)
marked_still path start marks more count adds placed q = ⊎_elim
    (λ (h : is_in (drop start path) q ≡ true).
    let there = from_is_in (drop start path) q h in
    let low : there.0 < length (drop start path) = there.1 in
    let read : get_or path (start + there.0) q ≡ q = sym (get_or-drop start path there.0 q) ∙ there.2 in
    let mark : marks q ≡ Some (OnPath (start + there.0)) = ap marks (sym read) ∙ placed (start + there.0) q (omega (arith, length-drop start path)) in
    let settled : more q ≡ Some (Settled count) = adds q ∙ ap (λ (b : Bool). cond b (Some (Settled count)) (marks q)) h in
    rw (settled, mark) refl)
    (λ (h : is_in (drop start path) q ≡ false). ap is_some (adds q ∙ ap (λ (b : Bool). cond b (Some (Settled count)) (marks q)) h))
    (cases_Bool (is_in (drop start path) q))
