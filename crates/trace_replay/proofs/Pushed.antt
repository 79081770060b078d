-- One element more.
use Rattle.std.proofs.Common.{◌≡◌, ◌+◌, ◌<◌, ◌≤◌, List, [], ◌∷◌, ◌++◌, ℕ, append_assoc, get_or, length, map, take, sym, ap, ◌∙◌}
use Rattle.std.proofs.lemmas.List.{map-append, take_all, take_more}

pub map_pushed : {X Y : Type 0} (f : X → Y) (before now : List Y) (xs : List X) (x : X) (y : Y) → now ≡ before ++ map f xs → y ≡ f x → now ++ y ∷ [] ≡ before ++ map f (xs ++ x ∷ [])
map_pushed {X} {Y} f before now xs x y are is =
    ap (λ (zs : List Y). zs ++ y ∷ []) are ∙ append_assoc before (map f xs) (y ∷ []) ∙ ap (λ (z : Y). before ++ (map f xs ++ z ∷ [])) is ∙ ap (λ (zs : List Y). before ++ zs) (sym (map-append f xs (x ∷ [])))

pub map_taken : {X Y : Type 0} (f : X → Y) (before now : List Y) (xs : List X) (k : ℕ) (x : X) (y : Y) → k < length xs → x ≡ get_or xs k x → now ≡ before ++ map f (take k xs) → y ≡ f x
    → now ++ y ∷ [] ≡ before ++ map f (take (k + 1) xs)
map_taken {X} f before now xs k x y within at are is =
    map_pushed f before now (take k xs) x y are is ∙ ap (λ (zs : List X). before ++ map f zs) (sym (take_more xs k x within ∙ ap (λ (z : X). take k xs ++ z ∷ []) (sym at)))

pub map_all : {X Y : Type 0} (f : X → Y) (before : List Y) (xs : List X) (k : ℕ) → length xs ≤ k → before ++ map f (take k xs) ≡ before ++ map f xs
map_all {X} f before xs k past = ap (λ (ys : List X). before ++ map f ys) (take_all k xs past)
