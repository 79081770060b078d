-- What chains of edges lead to, by computation: a set that holds the roots and each edge's target where it holds the source is all.
use Rattle.std.proofs.Common.{◌≡◌, ⊎_elim, ℕ, zero, suc, ◌<◌, Bool, true, false, not, ◌&&◌, ◌||◌, eqb, List, [], ◌∷◌, ◌++◌, map, length, Some, refl, sym, ap, subst, ◌∙◌, arith}
use Rattle.std.specs.List.{Contains, filter, list_all, list_any, slice_get}
use Rattle.std.proofs.lemmas.Bool.{and_parts, cases_Bool, eq-eqb, not-true, or_cases, true≢false}
use Rattle.std.proofs.lemmas.List.Elements.{Contains-append_cases}
use Rattle.history_graph.specs.declared.graph.Edge.{Edge}
use Rattle.history_graph.specs.Initialised.{InitNext, MayStart, Reaches}
use Rattle.history_graph.specs.Reached.{Reached, Unneeded}
use Rattle.history_graph.specs.Reached.Reached.{root, on}
use Rattle.history_state.specs.Objects.{has}
use Rattle.history_state.specs.Lemmas.Lists.{any_in, filter_alike, first_or_later, from_filter, from_map, has_in, here, in_any, later, none_in}

pub in_all : {X : Type 0} (p : X → Bool) (xs : List X) (x : X) → list_all p xs ≡ true → Contains xs x → p x ≡ true
in_all p [] x all h = absurd (none_in x h)
in_all {X} p (y ∷ xs) x all h =
    let parts = and_parts (p y) (list_all p xs) all in
    ⊎_elim (λ (same : y ≡ x). sym (ap p same) ∙ parts.0) (λ (i : Contains xs x). in_all p xs x parts.1 i) (first_or_later y xs x h)

-- ---- what is reached

-- with the targets of edges from it
abbrev grown_once : List Edge → List ℕ → List ℕ
grown_once edges set = set ++ map (λ (e : Edge). e.target) (filter (λ (e : Edge). has set e.source && not (has set e.target)) edges)

-- so often
abbrev grown : ℕ → List Edge → List ℕ → List ℕ
grown zero edges set = set
grown (suc n) edges set = grown n edges (grown_once edges set)

abbrev pub led_to : List Edge → List ℕ → List ℕ
led_to edges roots = grown (length edges) edges roots

AllReached : List Edge → List ℕ → List ℕ → Type 0
AllReached edges roots set = (d : ℕ) → Contains set d → Reached edges roots d

once_reached : (edges : List Edge) (roots set : List ℕ) → AllReached edges roots set → AllReached edges roots (grown_once edges set)
unfolding AllReached
once_reached edges roots set all d h = ⊎_elim
    (λ (i : Contains set d). all d i)
    (λ (i : Contains (map (λ (e : Edge). e.target) (filter (λ (e : Edge). has set e.source && not (has set e.target)) edges)) d).
    let at = from_map (λ (e : Edge). e.target) (filter (λ (e : Edge). has set e.source && not (has set e.target)) edges) d i in
    let kept = from_filter (λ (e : Edge). has set e.source && not (has set e.target)) edges at.0 at.1 in
    let source = has_in set at.0.source (and_parts _ _ kept.1).0 in
    subst (Reached edges roots) at.2 (on at.0 kept.0 (all at.0.source source)))
    (Contains-append_cases set _ d h)

grown_reached : (n : ℕ) (edges : List Edge) (roots set : List ℕ) → AllReached edges roots set → AllReached edges roots (grown n edges set)
grown_reached zero edges roots set all = all
grown_reached (suc n) edges roots set all = grown_reached n edges roots (grown_once edges set) (once_reached edges roots set all)

pub is_reached : (edges : List Edge) (roots : List ℕ) (d : ℕ) → has (led_to edges roots) d ≡ true → Reached edges roots d
unfolding AllReached
is_reached edges roots d e = grown_reached (length edges) edges roots roots (λ x h. root h) d (has_in (led_to edges roots) d e)

-- no edge leads out of the set
abbrev pub is_closed : List Edge → List ℕ → Bool
is_closed edges set = list_all (λ (e : Edge). not (has set e.source) || has set e.target) edges

stays_inside : (edges : List Edge) (roots set : List ℕ) (d : ℕ) → is_closed edges set ≡ true → list_all (has set) roots ≡ true → Reached edges roots d → has set d ≡ true
stays_inside edges roots set d closed all (root h) = in_all (has set) roots d all h
stays_inside edges roots set d closed all (on e there r) = ⊎_elim
    (λ (out : not (has set e.source) ≡ true). absurd (true≢false (sym (stays_inside edges roots set e.source closed all r) ∙ not-true _ out)))
    (λ (t : has set e.target ≡ true). t)
    (or_cases (not (has set e.source)) (has set e.target) (in_all (λ (x : Edge). not (has set x.source) || has set x.target) edges e closed there))

-- a computed set is all that is reached
abbrev pub is_all : List Edge → List ℕ → Bool
is_all edges roots = is_closed edges (led_to edges roots) && list_all (has (led_to edges roots)) roots

pub reached_only : (edges : List Edge) (roots : List ℕ) (d : ℕ) → is_all edges roots ≡ true → Reached edges roots d → has (led_to edges roots) d ≡ true
reached_only edges roots d all r = let parts = and_parts _ _ all in stays_inside edges roots (led_to edges roots) d parts.0 parts.1 r

abbrev pub left_of : List Edge → List ℕ → List ℕ → List ℕ
left_of edges roots nodes = filter (λ d. not (has (led_to edges roots) d)) nodes

pub unneeded : (edges : List Edge) (roots nodes : List ℕ) → is_all edges roots ≡ true
    → Unneeded edges roots nodes (left_of edges roots nodes)
unneeded edges roots nodes all = record {
  leave = λ d. not (has (led_to edges roots) d);
  are = refl;
  exactly = λ d there. (
    (λ left r. true≢false (sym (reached_only edges roots d all r) ∙ not-true _ left)),
    (λ never. ⊎_elim
        (λ (t : has (led_to edges roots) d ≡ true). absurd (never (is_reached edges roots d t)))
        (λ (f : has (led_to edges roots) d ≡ false). ap not f)
        (cases_Bool (has (led_to edges roots) d))),
  );
}

-- ---- what is initialised next

abbrev reach : List Edge → ℕ → List ℕ
reach edges o = led_to edges (o ∷ [])

-- o doesn't wait for d: it is done, or o doesn't lead to it, or it leads back
abbrev is_free_of : List Edge → List ℕ → ℕ → ℕ → Bool
is_free_of edges done o d = has done d || not (has (reach edges o) d) || has (reach edges d) o

abbrev pub may_start : List Edge → List ℕ → List ℕ → ℕ → Bool
may_start edges new done o = not (has done o) && is_all edges (o ∷ []) && list_all (is_free_of edges done o) new

-- d isn't done, o leads to it, and it doesn't lead back
abbrev waits_for : List Edge → List ℕ → ℕ → ℕ → Bool
waits_for edges done o d = not (has done d) && has (reach edges o) d && is_all edges (d ∷ []) && not (has (reach edges d) o)

abbrev pub may_not_start : List Edge → List ℕ → List ℕ → ℕ → Bool
may_not_start edges new done o = has done o || list_any (waits_for edges done o) new

starts : (edges : List Edge) (new done : List ℕ) (o : ℕ) → may_start edges new done o ≡ true → MayStart edges new done o
starts edges new done o may =
    let parts = and_parts (not (has done o) && is_all edges (o ∷ [])) (list_all (is_free_of edges done o) new) may in
    let firsts = and_parts (not (has done o)) (is_all edges (o ∷ [])) parts.0 in
    record {
      undone = λ h. true≢false (sym (in_any (λ y. eqb y o) done o h (eq-eqb o o refl)) ∙ not-true _ firsts.0);
      ready = λ d there depends. ⊎_elim
          (λ (t : (has done d || not (has (reach edges o) d)) ≡ true). ⊎_elim
          (λ (t' : has done d ≡ true). has_in done d t')
          (λ (t' : not (has (reach edges o) d) ≡ true). absurd (true≢false (sym (reached_only edges (o ∷ []) d firsts.1 depends.0) ∙ not-true _ t')))
          (or_cases (has done d) (not (has (reach edges o) d)) t))
          (λ (t : has (reach edges d) o ≡ true). absurd (depends.1 (is_reached edges (d ∷ []) o t)))
          (or_cases (has done d || not (has (reach edges o) d)) (has (reach edges d) o) (in_all (is_free_of edges done o) new d parts.1 there));
    }

pub starts_not : (edges : List Edge) (new done : List ℕ) (o : ℕ) → may_not_start edges new done o ≡ true → MayStart edges new done o → ⊥
starts_not edges new done o may_not start = ⊎_elim
    (λ (t : has done o ≡ true). start.undone (has_in done o t))
    (λ (t : list_any (waits_for edges done o) new ≡ true).
    let found = any_in (waits_for edges done o) new t in
    let d = found.0 in
    let last = and_parts (not (has done d) && has (reach edges o) d && is_all edges (d ∷ [])) (not (has (reach edges d) o)) found.2 in
    let third = and_parts (not (has done d) && has (reach edges o) d) (is_all edges (d ∷ [])) last.0 in
    let two = and_parts (not (has done d)) (has (reach edges o) d) third.0 in
    let not_back : Reaches edges d o → ⊥ = λ r. true≢false (sym (reached_only edges (d ∷ []) o third.1 r) ∙ not-true _ last.1) in
    let done_d = start.ready d found.1 (is_reached edges (o ∷ []) d two.1, not_back) in
    true≢false (sym (in_any (λ y. eqb y d) done d done_d (eq-eqb d d refl)) ∙ not-true _ two.0))
    (or_cases (has done o) (list_any (waits_for edges done o) new) may_not)

get_before : (xs ys : List ℕ) (k x : ℕ) → k < length xs → slice_get (xs ++ ys) k ≡ Some x → Contains xs x
get_before [] ys k x lt at = absurd (omega (arith, lt))
get_before (y ∷ xs) ys zero x lt at = let same : y ≡ x = cc in subst (Contains (y ∷ xs)) same (here y xs)
get_before (y ∷ xs) ys (suc k) x lt at = later y xs x (get_before xs ys k x (omega (arith, lt)) at)

get_at : (xs ys : List ℕ) (x : ℕ) → slice_get (xs ++ x ∷ ys) (length xs) ≡ Some x
get_at [] ys x = refl
get_at (y ∷ xs) ys x = get_at xs ys x

pub init_next : (edges : List Edge) (done before : List ℕ) (o : ℕ) (rest : List ℕ) → may_start edges (before ++ o ∷ rest) done o ≡ true
    → list_all (may_not_start edges (before ++ o ∷ rest) done) before ≡ true → InitNext edges (before ++ o ∷ rest) done o
init_next edges done before o rest may others = record {
  place = length before;
  stands = get_at before rest o;
  may = starts edges (before ++ o ∷ rest) done o may;
  first = λ earlier e lt at. starts_not edges (before ++ o ∷ rest) done e
      (in_all (may_not_start edges (before ++ o ∷ rest) done) before e others (get_before before (o ∷ rest) earlier e lt at));
}

-- ---- what is left

-- no other set is it
pub left_alone : (edges : List Edge) (roots nodes set : List ℕ) → is_all edges roots ≡ true → Unneeded edges roots nodes set → set ≡ left_of edges roots nodes
left_alone edges roots nodes set all un = un.are ∙ filter_alike un.leave (λ d. not (has (led_to edges roots) d)) nodes alike
  where
    alike : (d : ℕ) → Contains nodes d → un.leave d ≡ not (has (led_to edges roots) d)
    alike d there = by (has (led_to edges roots) d) refl
      where
        by : (b : Bool) → has (led_to edges roots) d ≡ b → un.leave d ≡ not b
        by true t = ⊎_elim
            (λ (l : un.leave d ≡ true). absurd ((un.exactly d there).0 l (is_reached edges roots d t)))
            (λ (l : un.leave d ≡ false). l)
            (cases_Bool (un.leave d))
        by false f = (un.exactly d there).1 (λ r. true≢false (sym (reached_only edges roots d all r) ∙ f))
