-- The lines of numbered parts, one after another.
use Rattle.std.proofs.Common.{◌≡◌, ℕ, ◌+◌, ◌<◌, List, ◌∷◌, ◌++◌, length, get_or, drop, refl, sym, ap, ◌∙◌, append_assoc, add-one, drop-cons}
use Rattle.std.specs.List.{flat_map, enumerate_from}

-- what is left from an index on: the part there, and what is left behind it
pub parts_at : {X : Type 0} (xs : List X) (n : ℕ) (d : X) → n < length xs → drop n xs ≡ get_or xs n d ∷ drop (n + 1) xs
parts_at xs n d lt = rw (add-one, drop-cons xs n d) refl

-- one more line
pub line_step : {X : Type 0} (line : ℕ × X → List ℕ) (old new total : List ℕ) (k n : ℕ) (xs : List X) (d : X) → n < length xs → new ≡ old ++ line (k, get_or xs n d)
    → old ++ flat_map line (enumerate_from k (drop n xs)) ≡ total → new ++ flat_map line (enumerate_from (k + 1) (drop (n + 1) xs)) ≡ total
line_step {X} line old new total k n xs d lt written so_far =
    let rest : List ℕ = flat_map line (enumerate_from (k + 1) (drop (n + 1) xs)) in
    let all : flat_map line (enumerate_from k (drop n xs)) ≡ line (k, get_or xs n d) ++ rest = ap (λ (ys : List X). flat_map line (enumerate_from k ys)) (parts_at xs n d lt) in
    ap (λ (text : List ℕ). text ++ rest) written ∙ append_assoc old (line (k, get_or xs n d)) rest ∙ ap (λ (text : List ℕ). old ++ text) (sym all) ∙ so_far
