-- A list that is extended by what it lacks; breadth-first order, a level at a time; searches of one list and then of another.
use Rattle.std.proofs.Common.{◌≡◌, ℕ, zero, suc, ◌+◌, ◌-◌, ◌<◌, ◌≤◌, ◌==◌, Bool, true, false, not, ◌||◌, cond, inl, inr, Option, Some, None}
use Rattle.std.proofs.Common.{List, [], ◌∷◌, ◌++◌, length, take, drop, get_or, refl, sym, ap, ◌∙◌, append_assoc, append-nil, add-one, drop-cons, arith, rules}
use Rattle.std.proofs.ByRecursion.{All-weaker}
use Rattle.std.proofs.Math.Seq.{drop-append_seam, take-length}
use Rattle.std.proofs.lemmas.Bool.{cases_Bool, eqb-true}
use Rattle.std.proofs.lemmas.Grind.{flat_map-append, common_steps}
use Rattle.std.proofs.lemmas.List.{length-append, take-append-le, take-append-drop}
use Rattle.std.proofs.lemmas.List.Folds.{list_any-append}
use Rattle.std.specs.List.{filter, flat_map, AllByRecursion}
use Rattle.std.specs.Option.{option_or}
use Rattle.scope_rule.specs.Breadth.{has, without, first_kept, extend, level, levels, breadth, order_to}
use Rattle.scope_rule.specs.Choose.{first_with}
use Rattle.scope_rule.specs.Loading.{found_of}
use Rattle.scope_rule.specs.Seen.{Seen}

-- ---- extending

-- a list has one element, or it is 0: extending by it changes nothing
abbrev lacks_not : List ℕ → ℕ → Bool
lacks_not a x = x == 0 || has a x

pub extend_append : (a xs ys : List ℕ) → extend a (xs ++ ys) ≡ extend (extend a xs) ys
extend_append a [] ys = refl
extend_append a (x ∷ xs) ys =
    elim (lacks_not a x) as (λ v. cond v (extend a (xs ++ ys)) (extend (a ++ x ∷ []) (xs ++ ys)) ≡ extend (cond v (extend a xs) (extend (a ++ x ∷ []) xs)) ys)
    [ true ↦ extend_append a xs ys | false ↦ extend_append (a ++ x ∷ []) xs ys ]

-- the elements that a list lacks
abbrev fresh : List ℕ → List ℕ → List ℕ
fresh a ys = filter (λ y. not (lacks_not a y)) ys

fresh_pushed : (a : List ℕ) (x : ℕ) (ys : List ℕ) → fresh (a ++ x ∷ []) ys ≡ fresh a (without x ys)
fresh_pushed a x [] = refl
fresh_pushed a x (y ∷ ys) = rw list_any-append (grind (arith, common_steps, fresh_pushed a x ys))

fresh_without : (a : List ℕ) (x : ℕ) (ys : List ℕ) → lacks_not a x ≡ true → fresh a (without x ys) ≡ fresh a ys
fresh_without a x [] h = refl
fresh_without a x (y ∷ ys) h = grind (arith, common_steps, fresh_without a x ys h)

-- extending is putting the first occurrences of what is lacking at the end
abbrev pub lacking : List ℕ → List ℕ → List ℕ
lacking a xs = fresh a (first_kept xs)

pub extend_is : (a xs : List ℕ) → extend a xs ≡ a ++ lacking a xs
extend_is a [] = sym (append-nil a)
extend_is a (x ∷ xs) =
    elim (cases_Bool (lacks_not a x)) [
      | inl h ↦ rw (h, fresh_without a x (first_kept xs) h) (extend_is a xs)
      | inr h ↦ rw h (extend_is (a ++ x ∷ []) xs ∙ append_assoc a (x ∷ []) (lacking (a ++ x ∷ []) xs) ∙ rw (fresh_pushed a x (first_kept xs)) refl)
    ]

extend_nothing : (xs : List ℕ) → extend [] xs ≡ without 0 (first_kept xs)
extend_nothing xs = extend_is [] xs ∙ search rules

-- the front of an extended list
pub extended_front : (a xs s : List ℕ) (n : ℕ) → n ≤ length a → take n a ≡ s → take n (extend a xs) ≡ s
extended_front a xs s n long front = rw (extend_is a xs, take-append-le n a (lacking a xs) long) front

pub extended_length : (a xs : List ℕ) → length a ≤ length (extend a xs)
extended_length a xs = rw (extend_is a xs) (omega (arith, length-append a (lacking a xs)))

-- each element is 0 or in the list
abbrev pub Covered : List ℕ → List ℕ → Type 0
Covered a xs = AllByRecursion (λ x. lacks_not a x ≡ true) xs

pub covered_stays : (a xs : List ℕ) → Covered a xs → extend a xs ≡ a
covered_stays a [] h = refl
covered_stays a (x ∷ xs) h = rw h.0 (covered_stays a xs h.1)

lacks_not_more : (a b : List ℕ) (x : ℕ) → lacks_not a x ≡ true → lacks_not (a ++ b) x ≡ true
lacks_not_more a b x h = rw list_any-append (grind (arith, h))

covered_extended : (a xs ys : List ℕ) → Covered a ys → Covered (extend a xs) ys
covered_extended a xs ys h =
    let b : List ℕ = lacking a xs in
    rw (extend_is a xs) (All-weaker (λ y. lacks_not a y ≡ true) (λ y. lacks_not (a ++ b) y ≡ true) (λ y k. lacks_not_more a b y k) ys h)

has_pushed : (a : List ℕ) (x : ℕ) → lacks_not (a ++ x ∷ []) x ≡ true
has_pushed a x = rw list_any-append (grind (arith, common_steps))

-- after it is extended a list has all of them
covered_by_self : (a xs : List ℕ) → Covered (extend a xs) xs
covered_by_self a [] = tt
covered_by_self a (x ∷ xs) =
    let all : (b : List ℕ) → lacks_not b x ≡ true → Covered (extend b xs) (x ∷ xs) =
    λ b h. ((covered_extended b xs (x ∷ []) (h, tt)).0, covered_by_self b xs) in
    (elim (lacks_not a x) as (λ v. lacks_not a x ≡ v → Covered (cond v (extend a xs) (extend (a ++ x ∷ []) xs)) (x ∷ xs))
    [ true ↦ λ h. all a h | false ↦ λ h. all (a ++ x ∷ []) (has_pushed a x) ]) refl

-- what an extended list has, but for 0
has_extended : (a xs : List ℕ) (q : ℕ) → (q == 0 || has (extend a xs) q) ≡ (q == 0 || has (a ++ xs) q)
has_extended a [] q = rw append-nil refl
has_extended a (x ∷ xs) q = rw list_any-append (grind (arith, common_steps, has_extended a xs q, has_extended (a ++ x ∷ []) xs q, list_any-append))

-- what two lists that have the same lack is the same
fresh_alike : (a b ys : List ℕ) → ((q : ℕ) → lacks_not a q ≡ lacks_not b q) → fresh a ys ≡ fresh b ys
fresh_alike a b [] same = refl
fresh_alike a b (y ∷ ys) same = grind (arith, common_steps, same y, fresh_alike a b ys same)

-- a list is extended by what its elements, once each, lack
pub extended_by_once : (a xs : List ℕ) → a ++ drop (length (extend [] a)) (extend (extend [] a) xs) ≡ extend a xs
extended_by_once a xs =
    let once : List ℕ = extend [] a in
    let more : drop (length once) (extend once xs) ≡ lacking once xs = ap (drop (length once)) (extend_is once xs) ∙ drop-append_seam once (lacking once xs) in
    ap (λ (ys : List ℕ). a ++ ys) (more ∙ fresh_alike once a (first_kept xs) (has_extended [] a)) ∙ sym (extend_is a xs)

-- an element that leads to nothing new may be left out
left_out : (f : ℕ → List ℕ) (a : List ℕ) (x : ℕ) (ys : List ℕ) → Covered a (f x) → extend a (flat_map f (without x ys)) ≡ extend a (flat_map f ys)
left_out f a x [] h = refl
left_out f a x (y ∷ ys) h =
    elim (cases_Bool (y == x)) [
      | inl e ↦
          let same : f y ≡ f x = ap f (eqb-true y x e) in
          rw (e, same, extend_append a (f x) (flat_map f ys), covered_stays a (f x) h) (left_out f a x ys h)
      | inr e ↦
          rw (e, extend_append a (f y) (flat_map f (without x ys)), extend_append a (f y) (flat_map f ys))
          (left_out f (extend a (f y)) x ys (covered_extended a (f y) (f x) h))
    ]

-- what comes again leads to nothing new
once_is_enough : (f : ℕ → List ℕ) (a xs : List ℕ) → extend a (flat_map f (first_kept xs)) ≡ extend a (flat_map f xs)
once_is_enough f a [] = refl
once_is_enough f a (x ∷ xs) =
    let b : List ℕ = extend a (f x) in
    extend_append a (f x) (flat_map f (without x (first_kept xs)))
    ∙ left_out f b x (first_kept xs) (covered_by_self a (f x))
    ∙ once_is_enough f b xs
    ∙ sym (extend_append a (f x) (flat_map f xs))

extend_kept : (f : ℕ → List ℕ) → f 0 ≡ [] → (a xs : List ℕ) → extend a (flat_map f (extend [] xs)) ≡ extend a (flat_map f xs)
extend_kept f none a xs = ap (λ (o : List ℕ). extend a (flat_map f o)) (extend_nothing xs) ∙ left_out f a 0 (first_kept xs) (rw none tt) ∙ once_is_enough f a xs

-- an element by itself, but for 0
abbrev alone_but_zero : ℕ → List ℕ
alone_but_zero x = cond (x == 0) [] (x ∷ [])

each_alone : (a xs : List ℕ) → extend a (flat_map alone_but_zero xs) ≡ extend a xs
each_alone a [] = refl
each_alone a (x ∷ xs) = grind (arith, common_steps, each_alone a xs, each_alone (a ++ x ∷ []) xs)

-- a list is extended by the same where each of it stands once
pub extended_once : (a xs : List ℕ) → extend a (extend [] xs) ≡ extend a xs
extended_once a xs = sym (each_alone a (extend [] xs)) ∙ extend_kept alone_but_zero refl a xs ∙ each_alone a xs

-- an extended list has what it is extended by, but for 0
pub in_extended : (a xs : List ℕ) (q : ℕ) → (q == 0) ≡ false → has xs q ≡ true → has (extend a xs) q ≡ true
in_extended a xs q some there = grind (arith, common_steps, has_extended a xs q, list_any-append, some, there)

-- ---- levels

-- one entry of a level
pub entry_step : (f : ℕ → List ℕ) (order s total : List ℕ) (i end x : ℕ) → i < end → end ≡ length s → end ≤ length order → take end order ≡ s → x ≡ get_or order i x
    → extend order (flat_map f (drop i s)) ≡ total → extend (extend order (f x)) (flat_map f (drop (i + 1) s)) ≡ total
entry_step f order s total i end x lt len long front here so_far =
    let within : i < length s = omega arith in
    let same : x ≡ get_or s i x = grind (arith, common_steps, front, here) in
    let parts : drop i s ≡ x ∷ drop (i + 1) s = rw (add-one, drop-cons s i x, ← same) refl in
    sym (extend_append order (f x) (flat_map f (drop (i + 1) s))) ∙ ap (λ (ys : List ℕ). extend order (flat_map f ys)) (sym parts) ∙ so_far

-- the levels are the root and what the levels before lead to
levels_shift : (ns : Seen) (root n : ℕ) → levels ns root (suc n) ≡ root ∷ flat_map (found_of ns) (levels ns root n)
levels_shift ns root zero = refl
levels_shift ns root (suc n) =
    ap (λ (xs : List ℕ). xs ++ level ns root (suc (suc n))) (levels_shift ns root n)
    ∙ ap (λ (xs : List ℕ). root ∷ xs) (sym (flat_map-append (found_of ns) (levels ns root n) (level ns root (suc n))))

-- the order of a root alone
abbrev pub alone : ℕ → List ℕ
alone root = extend [] (root ∷ [])

-- what the entries that are left lead to is all that the order leads to
pub level_step : (f : ℕ → List ℕ) (first : List ℕ) (start : ℕ) (order : List ℕ) → order ≡ extend first (flat_map f (take start order))
    → extend order (flat_map f (drop start order)) ≡ extend first (flat_map f order)
level_step f first start order grown =
    let rest : List ℕ = flat_map f (drop start order) in
    let whole : flat_map f (take start order) ++ rest ≡ flat_map f order = sym (flat_map-append f (take start order) (drop start order)) ∙ ap (flat_map f) (take-append-drop start order) in
    ap (λ (o : List ℕ). extend o rest) grown ∙ sym (extend_append first (flat_map f (take start order)) rest) ∙ ap (extend first) whole

-- which is the order of one level more
pub one_level_more : (f : ℕ → List ℕ) (first : List ℕ) (n : ℕ) (order : List ℕ) → order ≡ order_to f first n → extend first (flat_map f order) ≡ order_to f first (n + 1)
one_level_more f first n order kept = ap (λ (o : List ℕ). extend first (flat_map f o)) kept ∙ ap (order_to f first) (sym (add-one n))

-- the entries before the new level lead to the new order
pub grown_step : (f : ℕ → List ℕ) (first order added : List ℕ) (n : ℕ) → n ≡ length order → extend order added ≡ extend first (flat_map f order)
    → extend order added ≡ extend first (flat_map f (take n (extend order added)))
grown_step f first order added n end e =
    e ∙ ap (λ (o : List ℕ). extend first (flat_map f o)) (sym (ap (λ (k : ℕ). take k (extend order added)) end ∙ extended_front order added order (length order) (omega arith) (take-length order)))

-- where the order has all that its entries lead to, more levels add nothing
pub stays : (f : ℕ → List ℕ) (first : List ℕ) (n more : ℕ) (order : List ℕ) → order ≡ order_to f first n → order ≡ extend first (flat_map f order) → order ≡ order_to f first (more + n)
stays f first n zero order kept whole = (let none : n ≡ 0 + n = omega arith in kept ∙ ap (order_to f first) none)
stays f first n (suc more) order kept whole =
    let next : suc (more + n) ≡ suc more + n = omega arith in
    whole ∙ ap (λ (o : List ℕ). extend first (flat_map f o)) (stays f first n more order kept whole) ∙ ap (order_to f first) next

pub all_levels : (f : ℕ → List ℕ) (first order : List ℕ) (n most start : ℕ) → n ≤ most → start ≡ length order → order ≡ order_to f first n → order ≡ extend first (flat_map f (take start order)) → order ≡ order_to f first most
all_levels f first order n most start few end kept grown =
    let whole : order ≡ extend first (flat_map f order) = grown ∙ ap (λ (o : List ℕ). extend first (flat_map f o)) (ap (λ (k : ℕ). take k order) end ∙ take-length order) in
    let many : (most - n) + n ≡ most = omega arith in
    stays f first n (most - n) order kept whole ∙ ap (order_to f first) many

-- what the order of so many levels leads to is the order of one level more
kept_step : (ns : Seen) (root n : ℕ) (order : List ℕ) → order ≡ extend [] (levels ns root n) → extend (alone root) (flat_map (found_of ns) order) ≡ extend [] (levels ns root (suc n))
kept_step ns root n order kept =
    let f = found_of ns in
    ap (λ (o : List ℕ). extend (alone root) (flat_map f o)) kept
    ∙ extend_kept f refl (alone root) (levels ns root n)
    ∙ sym (extend_append [] (root ∷ []) (flat_map f (levels ns root n)))
    ∙ ap (extend []) (sym (levels_shift ns root n))

is_breadth : (ns : Seen) (root n : ℕ) (order : List ℕ) → n ≡ length ns.objects → order ≡ extend [] (levels ns root n) → order ≡ breadth ns root
unfolding breadth
is_breadth ns root n order many kept = kept ∙ extend_nothing (levels ns root n) ∙ ap (λ (k : ℕ). without 0 (first_kept (levels ns root k))) many

-- the orders of the levels are those that grow
levels_order : (ns : Seen) (root m : ℕ) → extend [] (levels ns root m) ≡ order_to (found_of ns) (alone root) m
levels_order ns root zero = refl
levels_order ns root (suc m) =
    sym (kept_step ns root m (extend [] (levels ns root m)) refl)
    ∙ ap (λ (o : List ℕ). extend (alone root) (flat_map (found_of ns) o)) (levels_order ns root m)

pub breadth_grows : (ns : Seen) (root : ℕ) → breadth ns root ≡ order_to (found_of ns) (alone root) (length ns.objects)
breadth_grows ns root =
    let many : ℕ = length ns.objects in
    sym (is_breadth ns root many (order_to (found_of ns) (alone root) many) refl (sym (levels_order ns root many)))

-- a search of one list and then of another
pub first_of_two : (pick : ℕ → Option ℕ) (xs ys : List ℕ) → first_with pick (xs ++ ys) ≡ option_or (first_with pick xs) (first_with pick ys)
first_of_two pick [] ys = refl
first_of_two pick (x ∷ xs) ys =
    let or : Option ℕ → Option (ℕ × ℕ) → Option (ℕ × ℕ) = λ i rest. elim i as (λ o. Option (ℕ × ℕ)) [ Some n ↦ Some (x, n) | None ↦ rest ] in
    elim (pick x) as (λ i. or i (first_with pick (xs ++ ys)) ≡ option_or (or i (first_with pick xs)) (first_with pick ys))
    [ Some n ↦ refl | None ↦ first_of_two pick xs ys ]
