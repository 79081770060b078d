-- The last part of the path becomes a component.
use Rattle.std.proofs.Common.{◌≡◌, ℕ, ◌+◌, ◌-◌, ◌<◌, ◌≤◌, ◌⊎◌, inl, inr, ⊎_elim, Bool, true, false, cond, eqb, List, [], ◌∷◌, ◌++◌, length, get_or, take, drop, Option, Some, refl, sym, ap, subst, ◌∙◌, arith}
use Rattle.std.specs.List.{Contains}
use Rattle.std.proofs.lemmas.Bool.{cases_eq, cases_lt, cases_Bool, ne_eqb, true≢false, eq-eqb, eqb-true, or_cases, or_left, or_right}
use Rattle.std.proofs.lemmas.List.{get_or-take, get_or-drop, length-take-le, length-drop}
use Rattle.std.proofs.lemmas.List.Elements.{All-contains, Contains-append_left, Contains-append_right, Contains-append_cases, Contains-push, Contains-push_cases, Contains-get_or}
use Rattle.history_graph.specs.declared.graph.Edge.{Edge}
use Rattle.history_graph.specs.Initialised.{Reaches}
use Rattle.history_graph.specs.Lemmas.Pairs.{pairs_front, pairs_last}
use Rattle.init_order.specs.declared.walk.Mark.{Mark}
use Rattle.init_order.specs.declared.walk.Mark.TheVariants.{OnPath, Settled}
use Rattle.init_order.specs.declared.walk.Step.{Step}
use Rattle.init_order.specs.Walking.{is_in}
use Rattle.init_order.specs.Walked.{Walked, Onward}
use Rattle.init_order.proofs.Visits.{same_place, place_not_settled, settled_not_place}

-- ---- membership by a test

pub is_in_from : (xs : List ℕ) (q : ℕ) → Contains xs q → is_in xs q ≡ true
is_in_from [] q there = absurd (omega (arith, there.1))
is_in_from (x ∷ xs) q there = ⊎_elim
    (λ (h : Contains (x ∷ []) q). or_left (eqb q x) (is_in xs q) (eq-eqb q x (first h)))
    (λ (h : Contains xs q). or_right (eqb q x) (is_in xs q) (is_in_from xs q h))
    (Contains-append_cases (x ∷ []) xs q there)
  where
    first : Contains (x ∷ []) q → q ≡ x
    first h = ⊎_elim (λ (none : Contains [] q). absurd (omega (arith, none.1))) (λ (same : x ≡ q). sym same) (Contains-push_cases [] x q h)

pub from_is_in : (xs : List ℕ) (q : ℕ) → is_in xs q ≡ true → Contains xs q
from_is_in [] q h = absurd (true≢false (sym h))
from_is_in (x ∷ xs) q h = ⊎_elim
    (λ (same : eqb q x ≡ true). subst (Contains (x ∷ xs)) (sym (eqb-true q x same)) (0, omega arith, refl))
    (λ (more : is_in xs q ≡ true). Contains-append_right (x ∷ []) xs q (from_is_in xs q more))
    (or_cases (eqb q x) (is_in xs q) h)

-- one more of a component
pub marked_more : (xs : List ℕ) (x q : ℕ) (m : Mark) (old : Option Mark)
    → cond (eqb x q) (Some m) (cond (is_in xs q) (Some m) old) ≡ cond (is_in (xs ++ x ∷ []) q) (Some m) old
marked_more xs x q m old = ⊎_elim
    (λ (same : x ≡ q). rw (eq-eqb x q same, is_in_from (xs ++ x ∷ []) q (subst (Contains (xs ++ x ∷ [])) same (Contains-push xs x))) refl)
    (λ (apart : x ≡ q → ⊥). rw (ne_eqb x q apart) (ap (λ (b : Bool). cond b (Some m) old) (alike apart (cases_Bool (is_in xs q)) (cases_Bool (is_in (xs ++ x ∷ []) q)))))
    (cases_eq x q)
  where
    alike : (x ≡ q → ⊥) → ((is_in xs q ≡ true) ⊎ (is_in xs q ≡ false)) → ((is_in (xs ++ x ∷ []) q ≡ true) ⊎ (is_in (xs ++ x ∷ []) q ≡ false)) → is_in xs q ≡ is_in (xs ++ x ∷ []) q
    alike apart (inl a) more = a ∙ sym (is_in_from (xs ++ x ∷ []) q (Contains-append_left xs (x ∷ []) q (from_is_in xs q a)))
    alike apart (inr a) (inl b) = ⊎_elim
        (λ (h : Contains xs q). absurd (true≢false (sym (is_in_from xs q h) ∙ a)))
        (λ (h : x ≡ q). absurd (apart h))
        (Contains-push_cases xs x q (from_is_in (xs ++ x ∷ []) q b))
    alike apart (inr a) (inr b) = a ∙ sym b

-- ---- marks

same_component : (c d : ℕ) → Settled c ≡ Settled d → c ≡ d
same_component c d h = cc

some_same : (m n : Mark) → Some m ≡ Some n → m ≡ n
some_same m n h = cc

module _ (edges : List Edge) (marks more : ℕ → Option Mark) (path front : List ℕ) (start : ℕ) (pending : List Step) (visited : List ℕ) (count : ℕ)
    (adds : (q : ℕ) → more q ≡ cond (is_in (drop start path) q) (Some (Settled count)) (marks q))
    (cut : (s : Step) → Contains pending s → s.place < start)
    (w : Walked edges marks path (front ++ start ∷ []) pending visited count) where
  start_low : start < length path
  start_low = w.begun start (Contains-push front start)

  -- a serial of the last part
  in_part : (q i : ℕ) → marks q ≡ Some (OnPath i) → start ≤ i → more q ≡ Some (Settled count)
  in_part q i is high =
      let was = w.on_path q i 0 is in
      let within : i < length path = was.0 in
      adds q ∙ ap (λ (b : Bool). cond b (Some (Settled count)) (marks q)) (is_in_from (drop start path) q (there i within high was.1))
    where
      there : (i : ℕ) → i < length path → start ≤ i → get_or path i 0 ≡ q → Contains (drop start path) q
      there i within high is = at_place (i - start) (omega arith) (omega (arith, length-drop start path))
        where
          at_place : (k : ℕ) → start + k ≡ i → k < length (drop start path) → Contains (drop start path) q
          at_place k sum low =
              let read : get_or (drop start path) k 0 ≡ q = get_or-drop start path k 0 ∙ ap (λ (n : ℕ). get_or path n 0) sum ∙ is in
              subst (Contains (drop start path)) read (Contains-get_or (drop start path) k 0 low)

  -- any other
  outside : (q : ℕ) (m : Mark) → marks q ≡ Some m → ((i : ℕ) → start ≤ i → m ≡ OnPath i → ⊥) → more q ≡ Some m
  outside q m is apart = ⊎_elim
      (λ (h : is_in (drop start path) q ≡ true).
      let there = from_is_in (drop start path) q h in
      let low : there.0 < length (drop start path) = there.1 in
      let read : get_or path (start + there.0) q ≡ q = sym (get_or-drop start path there.0 q) ∙ there.2 in
      let mark : marks q ≡ Some (OnPath (start + there.0)) = ap marks (sym read) ∙ w.placed (start + there.0) q (omega (arith, length-drop start path)) in
      absurd (apart (start + there.0) (omega arith) (some_same m (OnPath (start + there.0)) (sym is ∙ mark))))
      (λ (h : is_in (drop start path) q ≡ false). adds q ∙ ap (λ (b : Bool). cond b (Some (Settled count)) (marks q)) h ∙ is)
      (cases_Bool (is_in (drop start path) q))

  -- what a mark was
  was : (q : ℕ) (m : Mark) → more q ≡ Some m → ((m ≡ Settled count) × ((i : ℕ) × (start ≤ i) × (marks q ≡ Some (OnPath i)))) ⊎ (marks q ≡ Some m)
  was q m is = ⊎_elim
      (λ (h : is_in (drop start path) q ≡ true).
      let there = from_is_in (drop start path) q h in
      let low : there.0 < length (drop start path) = there.1 in
      let read : get_or path (start + there.0) q ≡ q = sym (get_or-drop start path there.0 q) ∙ there.2 in
      let mark : marks q ≡ Some (OnPath (start + there.0)) = ap marks (sym read) ∙ w.placed (start + there.0) q (omega (arith, length-drop start path)) in
      let settled : more q ≡ Some (Settled count) = adds q ∙ ap (λ (b : Bool). cond b (Some (Settled count)) (marks q)) h in
      inl (some_same m (Settled count) (sym is ∙ settled), (start + there.0, omega arith, mark)))
      (λ (h : is_in (drop start path) q ≡ false). inr (sym (ap (λ (b : Bool). cond b (Some (Settled count)) (marks q)) h) ∙ sym (adds q) ∙ is))
      (cases_Bool (is_in (drop start path) q))

  -- a serial that is still on the path
  on_front : (q i : ℕ) → more q ≡ Some (OnPath i) → (marks q ≡ Some (OnPath i)) × (i < start)
  on_front q i is = ⊎_elim
      (λ (h : (OnPath i ≡ Settled count) × ((k : ℕ) × (start ≤ k) × (marks q ≡ Some (OnPath k)))). absurd (place_not_settled i count h.0))
      (λ (h : marks q ≡ Some (OnPath i)). (
        h,
        ⊎_elim
            (λ (low : i < start). low)
            (λ (high : start ≤ i). absurd (place_not_settled i count (some_same (OnPath i) (Settled count) (sym is ∙ in_part q i h high))))
            (cases_lt i start),
      ))
      (was q (OnPath i) is)

  -- a serial of a component: of an old one, or of the last part
  of_component : (q c : ℕ) → more q ≡ Some (Settled c) → (marks q ≡ Some (Settled c)) ⊎ ((c ≡ count) × ((i : ℕ) × (start ≤ i) × (marks q ≡ Some (OnPath i))))
  of_component q c is = ⊎_elim
      (λ (h : (Settled c ≡ Settled count) × ((i : ℕ) × (start ≤ i) × (marks q ≡ Some (OnPath i)))). inr (same_component c count h.0, h.1))
      (λ (h : marks q ≡ Some (Settled c)). inl h)
      (was q (Settled c) is)

  keeps_settled : (q c : ℕ) → marks q ≡ Some (Settled c) → more q ≡ Some (Settled c)
  keeps_settled q c is = outside q (Settled c) is (λ i high same. settled_not_place i c same)

  keeps_place : (q i : ℕ) → marks q ≡ Some (OnPath i) → i < start → more q ≡ Some (OnPath i)
  keeps_place q i is low = outside q (OnPath i) is (λ k high same. let e = same_place i k same in omega arith)

  -- no part begins behind the last
  starts_low : (b : ℕ) → Contains (front ++ start ∷ []) b → b ≤ start
  starts_low b there = ⊎_elim
      (λ (h : Contains front b). let lt : b < start = All-contains (λ a. a < start) front b (pairs_last (λ a b. a < b) front start w.ordered) h in omega arith)
      (λ (same : start ≡ b). omega arith)
      (Contains-push_cases front start b there)

  front_low : (b : ℕ) → Contains front b → b < start
  front_low b there = All-contains (λ a. a < start) front b (pairs_last (λ a b. a < b) front start w.ordered) there

  s_settled : (p q c : ℕ) → more p ≡ Some (Settled c) → more q ≡ Some (Settled c) → Reaches edges p q
  s_settled p q c is is' = ⊎_elim
      (λ (hp : marks p ≡ Some (Settled c)). ⊎_elim
      (λ (hq : marks q ≡ Some (Settled c)). w.settled p q c hp hq)
      (λ (hq : (c ≡ count) × ((i : ℕ) × (start ≤ i) × (marks q ≡ Some (OnPath i)))). let low = w.counted p c hp in let e = hq.0 in absurd (omega arith))
      (of_component q c is'))
      (λ (hp : (c ≡ count) × ((i : ℕ) × (start ≤ i) × (marks p ≡ Some (OnPath i)))). ⊎_elim
      (λ (hq : marks q ≡ Some (Settled c)). let low = w.counted q c hq in let e = hp.0 in absurd (omega arith))
      (λ (hq : (c ≡ count) × ((i : ℕ) × (start ≤ i) × (marks q ≡ Some (OnPath i)))). both hp.1.0 hq.1.0 hp.1.1 hq.1.1 hp.1.2 hq.1.2)
      (of_component q c is'))
      (of_component p c is)
    where
      both : (i j : ℕ) → start ≤ i → start ≤ j → marks p ≡ Some (OnPath i) → marks q ≡ Some (OnPath j) → Reaches edges p q
      both i j high high' hp hq = ⊎_elim
          (λ (behind : j < i). w.back q p j i hq hp (omega arith) (λ b there low. let le = starts_low b there in omega arith))
          (λ (ahead : i ≤ j). w.ahead p q i j hp hq ahead)
          (cases_lt j i)

  s_steps : (s : Step) → Contains pending s → (u : ℕ) × (more u ≡ Some (OnPath s.place)) × Contains edges (record { source = u; target = s.target })
  s_steps s there = let old = w.steps s there in (old.0, keeps_place old.0 s.place old.1 (cut s there), old.2)

  s_onward : (i t : ℕ) → Onward marks (front ++ start ∷ []) i t → Onward more front i t
  s_onward i t onward = ⊎_elim
      (λ (h : (c : ℕ) × (marks t ≡ Some (Settled c))). inl (h.0, keeps_settled t h.0 h.1))
      (λ (h : (j : ℕ) × (marks t ≡ Some (OnPath j)) × ((b : ℕ) → Contains (front ++ start ∷ []) b → b ≤ i → b ≤ j)). ⊎_elim
      (λ (low : h.0 < start). inr (h.0, keeps_place t h.0 h.1 low, λ b there le. h.2 b (Contains-append_left front (start ∷ []) b there) le))
      (λ (high : start ≤ h.0). inl (count, in_part t h.0 h.1 high))
      (cases_lt h.0 start))
      onward

  s_followed : (e : Edge) (i : ℕ) → Contains edges e → more e.source ≡ Some (OnPath i) → Contains pending (record { place = i; target = e.target }) ⊎ Onward more front i e.target
  s_followed e i there is = ⊎_elim
      (λ (wait : Contains pending (record { place = i; target = e.target })). inl wait)
      (λ (onward : Onward marks (front ++ start ∷ []) i e.target). inr (s_onward i e.target onward))
      (w.followed e i there (on_front e.source i is).0)

  s_closed : (e : Edge) (c : ℕ) → Contains edges e → more e.source ≡ Some (Settled c) → (d : ℕ) × (more e.target ≡ Some (Settled d)) × (d ≤ c)
  s_closed e c there is = ⊎_elim
      (λ (h : marks e.source ≡ Some (Settled c)). let old = w.closed e c there h in (old.0, keeps_settled e.target old.0 old.1, old.2))
      (λ (h : (c ≡ count) × ((i : ℕ) × (start ≤ i) × (marks e.source ≡ Some (OnPath i)))). last h.0 h.1.0 h.1.1 h.1.2)
      (of_component e.source c is)
    where
      last : c ≡ count → (i : ℕ) → start ≤ i → marks e.source ≡ Some (OnPath i) → (d : ℕ) × (more e.target ≡ Some (Settled d)) × (d ≤ c)
      last same i high h = ⊎_elim
          (λ (wait : Contains pending (record { place = i; target = e.target })). let low : i < start = cut (record { place = i; target = e.target }) wait in absurd (omega arith))
          (λ (onward : Onward marks (front ++ start ∷ []) i e.target). ⊎_elim
          (λ (k : (d : ℕ) × (marks e.target ≡ Some (Settled d))).
          let low = w.counted e.target k.0 k.1 in
          (k.0, keeps_settled e.target k.0 k.1, omega arith))
          (λ (k : (j : ℕ) × (marks e.target ≡ Some (OnPath j)) × ((b : ℕ) → Contains (front ++ start ∷ []) b → b ≤ i → b ≤ j)).
          (count, in_part e.target k.0 k.1 (k.2 start (Contains-push front start) high), omega arith))
          onward)
          (w.followed e i there h)

  s_seen : (q : ℕ) (m : Mark) → more q ≡ Some m → Contains visited q
  s_seen q m is = ⊎_elim
      (λ (h : (m ≡ Settled count) × ((i : ℕ) × (start ≤ i) × (marks q ≡ Some (OnPath i)))). w.seen q (OnPath h.1.0) h.1.2)
      (λ (h : marks q ≡ Some m). w.seen q m h)
      (was q m is)

  s_seen_only : (q : ℕ) → Contains visited q → (m : Mark) × (more q ≡ Some m)
  s_seen_only q there = still (w.seen_only q there)
    where
      still : ((m : Mark) × (marks q ≡ Some m)) → (m : Mark) × (more q ≡ Some m)
      still old = ⊎_elim
          (λ (h : is_in (drop start path) q ≡ true). (Settled count, adds q ∙ ap (λ (b : Bool). cond b (Some (Settled count)) (marks q)) h))
          (λ (h : is_in (drop start path) q ≡ false). (old.0, adds q ∙ ap (λ (b : Bool). cond b (Some (Settled count)) (marks q)) h ∙ old.1))
          (cases_Bool (is_in (drop start path) q))

  pub Walked-settled : Walked edges more (take start path) front pending visited (count + 1)
  Walked-settled = record {
    placed = λ i d within.
        let long = length-take-le start path (omega (arith, start_low)) in
        let low : i < start = omega arith in
        ap more (get_or-take start path i d low) ∙ keeps_place (get_or path i d) i (w.placed i d (omega (arith, start_low))) low;
    on_path = λ v i d is.
        let old = on_front v i is in
        let long = length-take-le start path (omega (arith, start_low)) in
        let low : i < start = old.1 in
        let within : i < length (take start path) = omega arith in
        (within, get_or-take start path i d low ∙ (w.on_path v i d old.0).1);
    ahead = λ u v i j is is' le. w.ahead u v i j (on_front u i is).0 (on_front v j is').0 le;
    back = λ u v i j is is' le together. w.back u v i j (on_front u i is).0 (on_front v j is').0 le (λ b there low. ⊎_elim
        (λ (h : Contains front b). together b h low)
        (λ (same : start ≡ b). let short = (on_front v j is').1 in absurd (omega arith))
        (Contains-push_cases front start b there));
    settled = s_settled;
    counted = λ v c is. ⊎_elim
        (λ (h : marks v ≡ Some (Settled c)). let low = w.counted v c h in omega arith)
        (λ (h : (c ≡ count) × ((i : ℕ) × (start ≤ i) × (marks v ≡ Some (OnPath i)))). let e = h.0 in omega arith)
        (of_component v c is);
    named = λ c low. ⊎_elim
        (λ (old : c < count). let there = w.named c old in (there.0, keeps_settled there.0 c there.1))
        (λ (new : count ≤ c).
        let same : count ≡ c = omega arith in
        (get_or path start 0, in_part (get_or path start 0) start (w.placed start 0 start_low) (omega arith) ∙ ap (λ (n : ℕ). Some (Settled n)) same))
        (cases_lt c count);
    steps = s_steps;
    rising = w.rising;
    followed = s_followed;
    closed = s_closed;
    begun = λ b there. let low = front_low b there in omega (arith, length-take-le start path (omega (arith, start_low)));
    ordered = pairs_front (λ a b. a < b) front (start ∷ []) w.ordered;
    ground = λ some. ⊎_elim
        (λ (h : Contains front 0). h)
        (λ (same : start ≡ 0). let long = length-take-le start path (omega (arith, start_low)) in absurd (omega arith))
        (Contains-push_cases front start 0 (w.ground (omega (arith, start_low))));
    seen = s_seen;
    seen_only = s_seen_only;
    apart = w.apart;
  }
