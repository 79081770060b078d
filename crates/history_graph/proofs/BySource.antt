-- The edges of one source stand together where edges are ordered by their source.
use Rattle.std.proofs.Common.{◌≡◌, ℕ, ◌+◌, ◌<◌, ◌≤◌, Bool, true, false, ltb, leb, List, [], ◌∷◌, ◌++◌, length, get_or, take, drop, refl, sym, ap, subst, ◌∙◌, arith}
use Rattle.std.specs.List.{All, AllWithin, filter}
use Rattle.std.specs.List.Sorted.{IsPartitionPoint}
use Rattle.std.proofs.lemmas.List.{append-nil, get_or-take, get_or-drop, length-take-le, length-drop, take-append-drop}
use Rattle.std.proofs.lemmas.List.Elements.{All-head, All-tail, All-weaker, filter-append}
use Rattle.std.proofs.lemmas.Bool.{ltb-true, ltb-false, leb-true, leb-false, ne_eqb, eq-eqb}
use Rattle.history_graph.specs.declared.graph.Edge.{Edge}
use Rattle.history_graph.specs.Reached.{leads_from}
use Rattle.history_graph.specs.Sources.{source_of}

-- the test of an edge is always this answer
abbrev Gives : (Edge → Bool) → Bool → Edge → Type 0
Gives p b e = p e ≡ b

filter_none : (p : Edge → Bool) (xs : List Edge) → All (Gives p false) xs → filter p xs ≡ []
filter_none p [] all = refl
filter_none p (x ∷ xs) all =
    rw (All-head (Gives p false) x xs all) (filter_none p xs (All-tail (Gives p false) x xs all))

filter_all : (p : Edge → Bool) (xs : List Edge) → All (Gives p true) xs → filter p xs ≡ xs
filter_all p [] all = refl
filter_all p (x ∷ xs) all =
    rw (All-head (Gives p true) x xs all) (ap (λ (ys : List Edge). x ∷ ys) (filter_all p xs (All-tail (Gives p true) x xs all)))

-- what holds of the places below n holds of the first n
all_taken : (P : Edge → Type 0) (n : ℕ) (xs : List Edge) → n ≤ length xs → AllWithin P xs 0 n → All P (take n xs)
all_taken P n xs le within k d lt =
    let small : k < n = omega (arith, length-take-le n xs le) in
    subst P (sym (get_or-take n xs k d small)) (within k d (omega arith) small)

-- what holds from place n on holds of the rest
all_dropped : (P : Edge → Type 0) (n : ℕ) (xs : List Edge) → n ≤ length xs → AllWithin P xs n (length xs) → All P (drop n xs)
all_dropped P n xs le within k d lt =
    let small : n + k < length xs = omega (arith, length-drop n xs) in
    subst P (sym (get_or-drop n xs k d)) (within (n + k) d (omega arith) small)

pub between_is_filter : (source start end : ℕ) (edges : List Edge) → start ≤ length edges → end ≤ length (drop start edges)
    → IsPartitionPoint (λ e. ltb (source_of e) source ≡ true) (λ e. ltb (source_of e) source ≡ false) edges start
    → IsPartitionPoint (λ e. leb (source_of e) source ≡ true) (λ e. leb (source_of e) source ≡ false) (drop start edges) end
    → take end (drop start edges) ≡ filter (leads_from source) edges
between_is_filter source start end edges low high first second =
    let p : Edge → Bool = leads_from source in
    let rest : List Edge = drop start edges in
    let front : List Edge = take start edges in
    let before : All (Gives p false) front =
    All-weaker (λ e. ltb (source_of e) source ≡ true) (Gives p false) (λ e h. below e h) front
    (all_taken (λ e. ltb (source_of e) source ≡ true) start edges low first.0) in
    let behind : All (Gives p false) (drop end rest) =
    All-weaker (λ e. leb (source_of e) source ≡ false) (Gives p false) (λ e h. above e h) (drop end rest)
    (all_dropped (λ e. leb (source_of e) source ≡ false) end rest high second.1) in
    let upper = all_dropped (λ e. ltb (source_of e) source ≡ false) start edges low first.1 in
    let lower = second.0 in
    let inside : All (Gives p true) (take end rest) =
    all_taken (Gives p true) end rest high (λ k d from to. equal (get_or rest k d) (upper k d (omega arith)) (lower k d from to)) in
    sym (ap (filter p) (sym (take-append-drop start edges)) ∙ filter-append p front rest
    ∙ ap (λ (ys : List Edge). ys ++ filter p rest) (filter_none p front before)
    ∙ ap (filter p) (sym (take-append-drop end rest)) ∙ filter-append p (take end rest) (drop end rest)
    ∙ ap (λ (ys : List Edge). filter p (take end rest) ++ ys) (filter_none p (drop end rest) behind)
    ∙ append-nil (filter p (take end rest)) ∙ filter_all p (take end rest) inside)
  where
    below : (e : Edge) → ltb (source_of e) source ≡ true → Gives (leads_from source) false e
    below e h = let lt = ltb-true (source_of e) source h in ne_eqb (source_of e) source (λ same. absurd (omega arith))

    above : (e : Edge) → leb (source_of e) source ≡ false → Gives (leads_from source) false e
    above e h = let lt = leb-false (source_of e) source h in ne_eqb (source_of e) source (λ same. absurd (omega arith))

    equal : (e : Edge) → ltb (source_of e) source ≡ false → leb (source_of e) source ≡ true → Gives (leads_from source) true e
    equal e l h = let le = ltb-false (source_of e) source l in let ge = leb-true (source_of e) source h in eq-eqb (source_of e) source (omega arith)
