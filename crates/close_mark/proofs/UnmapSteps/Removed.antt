-- Modules that are removed one after another.
use Rattle.std.proofs.Common.{◌≡◌, ℕ, suc, ◌+◌, ◌<◌, ◌≤◌, Bool, true, false, not, cond, eqb, List, [], ◌∷◌, drop, get_or, length, Option, Some, None, refl, sym, ap, subst, ◌∙◌, add-one, arith}
use Rattle.std.specs.Prelude.{IsSome}
use Rattle.std.specs.Option.{option_map}
use Rattle.std.specs.List.{All, AllPairs, Contains, filter, find}
use Rattle.std.proofs.lemmas.Bool.{eq-eqb, ne_eqb, true≢false}
use Rattle.std.proofs.lemmas.List.Elements.{All-contains, All-filter, All-head, All-tail}
use Rattle.std.proofs.lemmas.List.Kept.{AllPairs-filter}
use Rattle.std.proofs.Math.Seq.{drop-cons}
use Rattle.history_event.specs.declared.state.Module.{Module}
use Rattle.history_state.specs.Lemmas.Lists.{found_in, not_found}
use Rattle.tls_blocks.specs.Numbers.{AreNumbered, module_at, number_of, without_module}
use Rattle.close_mark.specs.UnmapSteps.Touched.{is_of_set}

abbrev Before : Module → Module → Type 0
Before m n = number_of m < number_of n

abbrev pub stays : List ℕ → Module → Bool
stays set m = not (is_of_set set m)

pairs_head : (x : Module) (xs : List Module) → AllPairs Before (x ∷ xs) → All (Before x) xs
pairs_head x xs pairs k d within = pairs 0 (suc k) d (omega arith) (omega arith)

pairs_tail : (x : Module) (xs : List Module) → AllPairs Before (x ∷ xs) → AllPairs Before xs
pairs_tail x xs pairs i j d lt within = pairs (suc i) (suc j) d (omega arith) (omega arith)

all_stay : (number : ℕ) (xs : List Module) → All (λ (m : Module). number < number_of m) xs → without_module number xs ≡ xs
all_stay number [] all = refl
all_stay number (x ∷ xs) all =
    let more : number < x.number = All-head (λ (m : Module). number < number_of m) x xs all in
    ap (λ (b : Bool). cond (not b) (x ∷ without_module number xs) (without_module number xs)) (ne_eqb x.number number (λ e. omega (arith, e, more)))
    ∙ ap (λ (ys : List Module). x ∷ ys) (all_stay number xs (All-tail (λ (m : Module). number < number_of m) x xs all))

-- those that stay are the same, and one less is to go
pub record IsOneLess (set : List ℕ) (before after : List Module) : Type 0 where
  pub stay : filter (stays set) after ≡ filter (stays set) before
  pub go : length (filter (is_of_set set) after) + 1 ≡ length (filter (is_of_set set) before)

pub removed_one : (set : List ℕ) (xs : List Module) (m : Module) → find (is_of_set set) xs ≡ Some m → AllPairs Before xs → IsOneLess set xs (without_module m.number xs)
removed_one set [] m found rising = absurd (let d : None ≡ Some m = found in cc)
removed_one set (x ∷ xs) m found rising = by (is_of_set set x) refl found (removed_one set xs m)
  where
    by : (b : Bool) → is_of_set set x ≡ b → cond b (Some x) (find (is_of_set set) xs) ≡ Some m
        → (find (is_of_set set) xs ≡ Some m → AllPairs Before xs → IsOneLess set xs (without_module m.number xs)) → IsOneLess set (x ∷ xs) (without_module m.number (x ∷ xs))
    by true e f again =
        let same : x ≡ m = cc in
        let number : x.number ≡ m.number = ap number_of same in
        let gone : without_module m.number (x ∷ xs) ≡ xs =
        ap (λ (b : Bool). cond (not b) (x ∷ without_module m.number xs) (without_module m.number xs)) (eq-eqb x.number m.number number)
        ∙ all_stay m.number xs (subst (λ n. All (λ (k : Module). n < number_of k) xs) number (pairs_head x xs rising)) in
        record {
          stay = ap (filter (stays set)) gone ∙ sym (ap (λ (b : Bool). cond (not b) (x ∷ filter (stays set) xs) (filter (stays set) xs)) e);
          go = let long : length (x ∷ filter (is_of_set set) xs) ≡ length (filter (is_of_set set) xs) + 1 = omega arith in
              ap (λ (ys : List Module). length (filter (is_of_set set) ys) + 1) gone ∙ sym long ∙ sym (ap (λ (b : Bool). length (cond b (x ∷ filter (is_of_set set) xs) (filter (is_of_set set) xs))) e);
        }
    by false e f again =
        let lt : x.number < m.number = All-contains (Before x) xs m (pairs_head x xs rising) (found_in (is_of_set set) xs m f).0 in
        let rest : IsOneLess set xs (without_module m.number xs) = again f (pairs_tail x xs rising) in
        let left : without_module m.number (x ∷ xs) ≡ x ∷ without_module m.number xs =
        ap (λ (b : Bool). cond (not b) (x ∷ without_module m.number xs) (without_module m.number xs)) (ne_eqb x.number m.number (λ n. omega (arith, lt, n))) in
        record {
          stay = ap (filter (stays set)) left ∙ ap (λ (ys : List Module). cond (stays set x) (x ∷ ys) ys) rest.stay;
          go = ap (λ (ys : List Module). length (filter (is_of_set set) ys) + 1) left
              ∙ ap (λ (b : Bool). length (cond b (x ∷ filter (is_of_set set) (without_module m.number xs)) (filter (is_of_set set) (without_module m.number xs))) + 1) e
              ∙ rest.go ∙ sym (ap (λ (b : Bool). length (cond b (x ∷ filter (is_of_set set) xs) (filter (is_of_set set) xs))) e);
        }

-- where none is to go, all stay
pub none_go : (set : List ℕ) (xs : List Module) → find (is_of_set set) xs ≡ None → (filter (stays set) xs ≡ xs) × (filter (is_of_set set) xs ≡ [])
none_go set [] none = (refl, refl)
none_go set (x ∷ xs) none = by (is_of_set set x) refl none (none_go set xs)
  where
    by : (b : Bool) → is_of_set set x ≡ b → cond b (Some x) (find (is_of_set set) xs) ≡ None
        → (find (is_of_set set) xs ≡ None → (filter (stays set) xs ≡ xs) × (filter (is_of_set set) xs ≡ []))
        → (filter (stays set) (x ∷ xs) ≡ x ∷ xs) × (filter (is_of_set set) (x ∷ xs) ≡ [])
    by true e f again = absurd (let d : Some x ≡ None = f in cc)
    by false e f again =
        let rest = again f in (
          ap (λ (b : Bool). cond (not b) (x ∷ filter (stays set) xs) (filter (stays set) xs)) e ∙ ap (λ (ys : List Module). x ∷ ys) rest.0,
          ap (λ (b : Bool). cond b (x ∷ filter (is_of_set set) xs) (filter (is_of_set set) xs)) e ∙ rest.1,
        )

-- the module whose number was found
pub found_number : (set : List ℕ) (xs : List Module) (number : ℕ) → Some number ≡ option_map (λ (m : Module). m.number) (find (is_of_set set) xs)
    → (m : Module) × (find (is_of_set set) xs ≡ Some m) × (m.number ≡ number)
found_number set xs number is = by (find (is_of_set set) xs) refl is
  where
    by : (found : Option Module) → find (is_of_set set) xs ≡ found → Some number ≡ option_map (λ (m : Module). m.number) found → (m : Module) × (find (is_of_set set) xs ≡ Some m) × (m.number ≡ number)
    by None e f = absurd (let d : Some number ≡ None = f in cc)
    by (Some m) e f = (m, e, let d : Some number ≡ Some m.number = f in cc)

pub none_found : (set : List ℕ) (xs : List Module) → None ≡ option_map (λ (m : Module). m.number) (find (is_of_set set) xs) → find (is_of_set set) xs ≡ None
none_found set xs is = by (find (is_of_set set) xs) refl is
  where
    by : (found : Option Module) → find (is_of_set set) xs ≡ found → None ≡ option_map (λ (m : Module). m.number) found → find (is_of_set set) xs ≡ None
    by None e f = e
    by (Some m) e f = absurd (let d : None ≡ Some m.number = f in cc)

-- a module that is there has its number
pub is_there : (xs : List Module) (m : Module) (number : ℕ) → Contains xs m → m.number ≡ number → IsSome (module_at xs number)
is_there xs m number inside is = by (module_at xs number) refl
  where
    by : (found : Option Module) → module_at xs number ≡ found → IsSome found
    by None e = absurd (true≢false (sym (eq-eqb m.number number is) ∙ not_found (λ (x : Module). eqb x.number number) xs m e inside))
    by (Some x) e = refl

pub still_numbered : (number : ℕ) (xs : List Module) → AreNumbered xs → AreNumbered (without_module number xs)
still_numbered number xs numbered = record {
  positive = All-filter (λ (x : Module). not (eqb x.number number)) (λ (m : Module). 1 ≤ number_of m) xs numbered.positive;
  rising = AllPairs-filter Before (λ (x : Module). not (eqb x.number number)) xs numbered.rising;
}

-- the search of the rest stops at its first
pub found_here : (set : List ℕ) (xs : List Module) (place : ℕ) (m : Module) → place < length xs → m ≡ get_or xs place m → is_of_set set m ≡ true
    → find (is_of_set set) (drop place xs) ≡ find (is_of_set set) xs → find (is_of_set set) xs ≡ Some m
found_here set xs place m lt at is rest =
    sym rest ∙ ap (find (is_of_set set)) (drop-cons xs place m lt) ∙ ap (λ (y : Module). find (is_of_set set) (y ∷ drop (suc place) xs)) (sym at)
    ∙ ap (λ (b : Bool). cond b (Some m) (find (is_of_set set) (drop (suc place) xs))) is

pub passed_by : (set : List ℕ) (xs : List Module) (place : ℕ) (m : Module) → place < length xs → m ≡ get_or xs place m → is_of_set set m ≡ false
    → find (is_of_set set) (drop place xs) ≡ find (is_of_set set) xs → find (is_of_set set) (drop (place + 1) xs) ≡ find (is_of_set set) xs
passed_by set xs place m lt at is rest =
    ap (λ n. find (is_of_set set) (drop n xs)) (add-one place)
    ∙ sym (ap (λ (b : Bool). cond b (Some m) (find (is_of_set set) (drop (suc place) xs))) is)
    ∙ sym (ap (λ (y : Module). find (is_of_set set) (y ∷ drop (suc place) xs)) (sym at))
    ∙ sym (ap (find (is_of_set set)) (drop-cons xs place m lt)) ∙ rest

-- nothing more was found
pub no_more : (set : List ℕ) (slice xs : List Module) (found : Option ℕ) → found ≡ option_map (λ (m : Module). m.number) (find (is_of_set set) slice) → slice ≡ xs
    → ((n : ℕ) → found ≡ Some n → ⊥) → find (is_of_set set) xs ≡ None
no_more set slice xs None is same not = none_found set xs (is ∙ ap (λ (ms : List Module). option_map (λ (m : Module). m.number) (find (is_of_set set) ms)) same)
no_more set slice xs (Some n) is same not = absurd (not n refl)
