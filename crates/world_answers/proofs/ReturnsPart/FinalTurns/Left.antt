-- Which objects are left once one of them is finalised.
use Rattle.std.proofs.Common.{◌≡◌, ◌≢◌, ℕ, zero, suc, ◌<◌, Bool, true, false, not, ◌&&◌, ◌||◌, cond, eqb, List, [], ◌∷◌, ◌++◌, length, get_or, map, reverse, find, Some, refl, sym, ap, subst, ◌∙◌, arith}
use Rattle.std.specs.List.{AllPairs, Contains, filter, list_any, slice_get}
use Rattle.std.specs.Option.{is_some}
use Rattle.std.proofs.Math.Bool.{and-true, and_comm}
use Rattle.std.proofs.lemmas.Bool.{eq-eqb, eqb-true, not-true}
use Rattle.std.proofs.lemmas.Grind.{reverse_onto}
use Rattle.std.proofs.lemmas.List.Folds.{list_any-append}
use Rattle.std.proofs.lemmas.List.Kept.{AllPairs-filter}
use Rattle.std.proofs.lemmas.List.Quantifiers.{all_pairs_push}
use Rattle.std.proofs.lemmas.Map.Views.{any-filter_same}
use Rattle.history_graph.specs.Initialised.{is_one_of}
use Rattle.history_state.specs.Laws.{InitialisedOnce}
use Rattle.history_state.specs.Links.{unfinished}
use Rattle.history_state.specs.Objects.{has, mapped, object_at, serial_of}
use Rattle.history_state.specs.State.{State}
use Rattle.history_state.specs.Step.{finalise}
use Rattle.history_state.specs.Lemmas.Finalised.{from_reverse}
use Rattle.history_state.specs.Lemmas.Lists.{any_reverse, from_filter, here, in_has, later}
use Rattle.history_calls.specs.Lemmas.Finishing.{filter_reverse}
use Rattle.hart_moves.specs.Moves.{all_finis}
use Rattle.world_answers.specs.ReturnsPart.FinalTurns.Planned.{is_other}

-- ---- filters

filter_twice : {X : Type 0} (p q : X → Bool) (xs : List X) → filter p (filter q xs) ≡ filter (λ x. q x && p x) xs
filter_twice {X} p q [] = refl
filter_twice {X} p q (x ∷ xs) = by (q x) ∙ ap (λ (ys : List X). cond (q x && p x) (x ∷ ys) ys) (filter_twice p q xs)
  where
    by : (b : Bool) → filter p (cond b (x ∷ filter q xs) (filter q xs)) ≡ cond (b && p x) (x ∷ filter p (filter q xs)) (filter p (filter q xs))
    by true = refl
    by false = refl

filter_alike : {X : Type 0} (p q : X → Bool) (xs : List X) → ((x : X) → p x ≡ q x) → filter p xs ≡ filter q xs
filter_alike {X} p q [] alike = refl
filter_alike {X} p q (x ∷ xs) alike =
    ap (λ (b : Bool). cond b (x ∷ filter p xs) (filter p xs)) (alike x) ∙ ap (λ (ys : List X). cond (q x) (x ∷ ys) ys) (filter_alike p q xs alike)

-- the others alone
pub all_others : (d : ℕ) (xs : List ℕ) → ((x : ℕ) → Contains xs x → d ≢ x) → filter (is_other d) xs ≡ xs
all_others d [] differ = refl
all_others d (x ∷ xs) differ =
    ap (λ (b : Bool). cond (not b) (x ∷ filter (is_other d) xs) (filter (is_other d) xs)) (apart (eqb d x) refl)
    ∙ ap (λ (ys : List ℕ). x ∷ ys) (all_others d xs (λ y h. differ y (later x xs y h)))
  where
    apart : (b : Bool) → eqb d x ≡ b → eqb d x ≡ false
    apart true e = absurd (differ x (here x xs) (eqb-true d x e))
    apart false e = e

-- ---- lists without repetition

abbrev pub AreApart : List ℕ → Type 0
AreApart xs = AllPairs (λ x y. x ≢ y) xs

pub first_apart : (x : ℕ) (xs : List ℕ) → AreApart (x ∷ xs) → (y : ℕ) → Contains xs y → x ≢ y
first_apart x xs apart y h = λ e. apart 0 (suc h.0) y (omega arith) (omega (arith, h.1)) (e ∙ sym h.2)

pub rest_apart : (x : ℕ) (xs : List ℕ) → AreApart (x ∷ xs) → AreApart xs
rest_apart x xs apart = λ i j d lt inside. apart (suc i) (suc j) d (omega (arith, lt)) (omega (arith, inside))

-- so the first goes, and the others stay
pub first_goes : (x : ℕ) (xs : List ℕ) → AreApart (x ∷ xs) → filter (is_other x) (x ∷ xs) ≡ xs
first_goes x xs apart =
    ap (λ (b : Bool). cond (not b) (x ∷ filter (is_other x) xs) (filter (is_other x) xs)) (eq-eqb x x refl) ∙ all_others x xs (first_apart x xs apart)

apart_by_places : (xs : List ℕ) → ((i j d : ℕ) → slice_get xs i ≡ Some d → slice_get xs j ≡ Some d → i ≡ j) → AreApart xs
apart_by_places xs once = λ i j d lt inside same.
    let e : i ≡ j = once i j (get_or xs i d) (found xs i d (omega (arith, lt, inside))) (found xs j d inside ∙ ap (λ (n : ℕ). Some n) (sym same)) in
    omega (arith, e, lt)
  where
    found : (ys : List ℕ) (k d : ℕ) → k < length ys → slice_get ys k ≡ Some (get_or ys k d)
    found [] k d lt = absurd (omega (arith, lt))
    found (y ∷ ys) zero d lt = refl
    found (y ∷ ys) (suc k) d lt = found ys k d (omega (arith, lt))

apart_reverse : (xs : List ℕ) → AreApart xs → AreApart (reverse xs)
apart_reverse [] apart = apart
apart_reverse (x ∷ xs) apart =
    subst AreApart (sym (reverse_onto xs x [])) (all_pairs_push (λ y z. y ≢ z) (reverse xs) x (apart_reverse xs (rest_apart x xs apart))
    (λ k d lt e. first_apart x xs apart (get_or (reverse xs) k d) (from_reverse xs (get_or (reverse xs) k d) (at (reverse xs) k d lt)) (sym e)))
  where
    at : (ys : List ℕ) (k d : ℕ) → k < length ys → Contains ys (get_or ys k d)
    at [] k d lt = absurd (omega (arith, lt))
    at (y ∷ ys) zero d lt = here y ys
    at (y ∷ ys) (suc k) d lt = later y ys (get_or ys k d) (at ys k d (omega (arith, lt)))

-- ---- those that are left

-- each once
pub left_apart : (s : State) → InitialisedOnce s → AreApart (all_finis s)
left_apart s once =
    AllPairs-filter (λ x y. x ≢ y) (is_one_of (map serial_of (mapped s))) (reverse (unfinished s))
    (apart_reverse (unfinished s) (AllPairs-filter (λ x y. x ≢ y) (λ o. not (has s.finis o)) s.inits (apart_by_places s.inits once.once)))

-- one that isn't mapped, or was finalised, isn't one of them
pub record IsLeft (s : State) (d : ℕ) : Type 0 where
  pub initialised : Contains s.inits d
  pub unfinished : has s.finis d ≡ false
  pub mapped : is_one_of (map serial_of (mapped s)) d ≡ true

pub is_left : (s : State) (d : ℕ) → Contains (all_finis s) d → IsLeft s d
is_left s d h =
    let kept = from_filter (is_one_of (map serial_of (mapped s))) (reverse (unfinished s)) d h in
    let part = from_filter (λ (o : ℕ). not (has s.finis o)) s.inits d (from_reverse (unfinished s) d kept.0) in
    record { initialised = part.0; unfinished = not-true (has s.finis d) part.1; mapped = kept.1 }

-- once one is finalised the others are
pub finalised_left : (s : State) (d : ℕ) → all_finis (finalise d s) ≡ filter (is_other d) (all_finis s)
finalised_left s d =
    ap (λ (ds : List ℕ). filter one (reverse ds)) fewer
    ∙ ap (filter one) (sym (filter_reverse (is_other d) (unfinished s)))
    ∙ filter_twice one (is_other d) (reverse (unfinished s))
    ∙ filter_alike (λ o. is_other d o && one o) (λ o. one o && is_other d o) (reverse (unfinished s)) (λ o. and_comm (is_other d o) (one o))
    ∙ sym (filter_twice (is_other d) one (reverse (unfinished s)))
  where
    one : ℕ → Bool
    one = is_one_of (map serial_of (mapped s))

    more : (o : ℕ) → not (has (s.finis ++ d ∷ []) o) ≡ (not (has s.finis o) && is_other d o)
    more o = ap not (list_any-append (λ y. eqb y o) s.finis (d ∷ [])) ∙ by (has s.finis o) (eqb d o)
      where
        by : (a b : Bool) → not (a || (b || false)) ≡ (not a && not b)
        by true b = refl
        by false true = refl
        by false false = refl

    fewer : filter (λ o. not (has (s.finis ++ d ∷ []) o)) s.inits ≡ filter (is_other d) (unfinished s)
    fewer = filter_alike (λ o. not (has (s.finis ++ d ∷ []) o)) (λ o. not (has s.finis o) && is_other d o) s.inits more ∙ sym (filter_twice (is_other d) (λ o. not (has s.finis o)) s.inits)

-- ---- whether one is left

pub any_of : {X Y : Type 0} (f : X → Y) (p : Y → Bool) (xs : List X) → list_any (λ x. p (f x)) xs ≡ list_any p (map f xs)
any_of f p [] = refl
any_of f p (x ∷ xs) = ap (λ (b : Bool). p (f x) || b) (any_of f p xs)

found_any : {X : Type 0} (p : X → Bool) (xs : List X) → is_some (find p xs) ≡ list_any p xs
found_any p [] = refl
found_any {X} p (x ∷ xs) = by (p x) ∙ ap (λ (b : Bool). p x || b) (found_any p xs)
  where
    by : (b : Bool) → is_some (cond b (Some x) (find p xs)) ≡ (b || is_some (find p xs))
    by true = refl
    by false = refl

-- what was initialised is left where it is mapped, and wasn't finalised
pub counts_as_left : (s : State) (d : ℕ) → has s.inits d ≡ true → (is_some (object_at s d) && not (has s.finis d)) ≡ has (all_finis s) d
counts_as_left s d initialised =
    ap (λ (b : Bool). b && undone d) (found_any (λ o. eqb o.serial d) (mapped s) ∙ any_of serial_of is (mapped s))
    ∙ ap (λ (b : Bool). one d && b) (sym (and-true (undone d)) ∙ ap (λ (b : Bool). undone d && b) (sym initialised) ∙ sym (kept undone s.inits) ∙ sym (any_reverse is (unfinished s)))
    ∙ sym (kept one (reverse (unfinished s)))
  where
    is : ℕ → Bool
    is = λ y. eqb y d

    one : ℕ → Bool
    one = is_one_of (map serial_of (mapped s))

    undone : ℕ → Bool
    undone = λ o. not (has s.finis o)

    kept : (p : ℕ → Bool) (xs : List ℕ) → list_any is (filter p xs) ≡ (p d && list_any is xs)
    kept p xs = any-filter_same is p (p d) (λ k e. ap p (eqb-true k d e)) xs

pub left_stands : (s : State) (d : ℕ) → Contains (all_finis s) d → (is_some (object_at s d) && not (has s.finis d)) ≡ true
left_stands s d h = counts_as_left s d (in_has s.inits d (is_left s d h).initialised) ∙ in_has (all_finis s) d h
