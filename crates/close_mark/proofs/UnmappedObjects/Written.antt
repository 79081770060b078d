-- A vector that was written through its slice.
use Rattle.std.proofs.Common.{◌≡◌, ℕ, List, [], ◌++◌, map, length, take, drop, ap, ◌∙◌, arith}
use Rattle.std.proofs.lemmas.List.{append-nil, drop_all, length-map, take_all}

pub written_back : {X : Type 0} (f : X → X) (items slice new : List X) (n : ℕ) → slice ≡ items → length slice ≡ n → new ≡ map f slice → take n (new ++ drop (length new) items) ≡ map f items
written_back f items slice new n same len is =
    let long : length new ≡ length items = ap length is ∙ length-map slice f ∙ ap length same in
    let none : drop (length new) items ≡ [] = drop_all (length new) items (omega (arith, long)) in
    let plain : new ++ drop (length new) items ≡ new = ap (λ rest. new ++ rest) none ∙ append-nil new in
    ap (take n) plain ∙ take_all n new (omega (arith, long, len, ap length same)) ∙ is ∙ ap (map f) same
