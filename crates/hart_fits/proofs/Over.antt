-- While a hart runs, not every hart has ended: the harts that ended first are distinct.
use Rattle.std.proofs.Common.{◌≡◌, ◌≢◌, ⊎_elim, inl, inr, ℕ, zero, suc, ◌+◌, ◌<◌, ◌≤◌, not, cond, Bool, true, false, eqb, eq-eqb, nat_le, leb-true, List, [], ◌∷◌, ◌++◌, length, length-append, map, take, refl, sym, ap, subst, ◌∙◌, append_assoc, append-nil, arith, lt_of_not-le}
use mathlib.Core.Logic.{dite}
use native.Mathlib.Decide.{ℕ_discrete, dec_le}
use Rattle.std.specs.Prelude.{filter, ◌==◌}
use Rattle.std.specs.List.{Contains, list_all}
use Rattle.std.proofs.lemmas.Bool.{and_parts, eqb-true, false≢true}
use Rattle.std.proofs.lemmas.List.{length-take-le, take-append-le, length-map, take_all, map-append}
use Rattle.std.proofs.lemmas.List.Elements.{Contains-append_cases, Contains-append_left}
use Rattle.history_event.specs.declared.event.Event.{Event}
use Rattle.history_event.specs.declared.hart_end.HartEnd.{HartEnd}
use Rattle.history_event.specs.declared.state.Ending.{Ending}
use Rattle.history_state.specs.After.{after}
use Rattle.history_state.specs.Allowed.{AllowedIn, MayEnd}
use Rattle.history_state.specs.Legal.{Lawful}
use Rattle.history_state.specs.Lemmas.History.{after_push, by_lawful, lawful_take, one_behind}
use Rattle.history_state.specs.Lemmas.Lists.{first_or_later, from_filter, from_map, has_not, here, in_map, later, none_in, only_in}
use Rattle.history_state.specs.Setting.{Machine, Setting, exited, have_exited}
use Rattle.history_state.specs.State.{State, empty_state}
use Rattle.history_state.specs.Step.{step}
use Rattle.hart_fits.specs.Lemmas.Ending.{Ends, ends}
use Rattle.hart_fits.specs.Over.{RunningIsNotOver, UnexitedIsNotOver}

-- ---- distinct numbers

abbrev Apart : List ℕ → Type 0
Apart [] = Unit {0}
Apart (x ∷ xs) = (Contains xs x → ⊥) × Apart xs

apart_push : (xs : List ℕ) (x : ℕ) → Apart xs → (Contains xs x → ⊥) → Apart (xs ++ x ∷ [])
apart_push [] x are none = (λ there. none_in x there, tt)
apart_push (y ∷ ys) x are none = (
  λ there. ⊎_elim (λ (old : Contains ys y). are.0 old) (λ (new : Contains (x ∷ []) y). none (subst (λ (z : ℕ). Contains (y ∷ ys) z) (sym (only_in x y new)) (here y ys)))
      (Contains-append_cases ys (x ∷ []) y there),
  apart_push ys x are.1 (λ there. none (later y ys x there)),
)

abbrev others : ℕ → List ℕ → List ℕ
others m xs = filter (λ i. not (i == m)) xs

apart_others : (m : ℕ) (xs : List ℕ) → Apart xs → Apart (others m xs)
apart_others m [] are = tt
apart_others m (x ∷ xs) are = go (apart_others m xs are.1) (not (x == m))
  where
    go : Apart (others m xs) → (b : Bool) → Apart (cond b (x ∷ others m xs) (others m xs))
    go rest true = (λ there. are.0 (from_filter (λ i. not (i == m)) xs x there).0, rest)
    go rest false = rest

-- a number that isn't there leaves all
all_others : (m : ℕ) (xs : List ℕ) → (Contains xs m → ⊥) → length xs ≤ length (others m xs)
all_others m [] none = omega (arith)
all_others m (x ∷ xs) none = go (all_others m xs (λ there. none (later x xs m there))) (x == m) refl
  where
    go : length xs ≤ length (others m xs) → (b : Bool) → (x == m) ≡ b → suc (length xs) ≤ length (cond (not b) (x ∷ others m xs) (others m xs))
    go rest true e = absurd (none (subst (λ (z : ℕ). Contains (x ∷ xs) z) (eqb-true x m e) (here x xs)))
    go rest false e = omega (arith, rest)

-- and one that is there is there once
one_less : (m : ℕ) (xs : List ℕ) → Apart xs → length xs ≤ length (others m xs) + 1
one_less m [] are = omega (arith)
one_less m (x ∷ xs) are = go (one_less m xs are.1) (x == m) refl
  where
    go : length xs ≤ length (others m xs) + 1 → (b : Bool) → (x == m) ≡ b → suc (length xs) ≤ length (cond (not b) (x ∷ others m xs) (others m xs)) + 1
    go rest true e = let more = all_others m xs (λ there. are.0 (subst (λ (z : ℕ). Contains xs z) (sym (eqb-true x m e)) there)) in omega (arith, more)
    go rest false e = omega (arith, rest)

below_others : (m : ℕ) (xs : List ℕ) → ((i : ℕ) → Contains xs i → i < suc m) → (i : ℕ) → Contains (others m xs) i → i < m
below_others m xs low i there =
    let x = from_filter (λ i. not (i == m)) xs i there in
    let high : i < suc m = low i x.0 in
    let other : i ≢ m = λ e. let no : false ≡ true = sym (ap not (eq-eqb i m e)) ∙ x.1 in cc in
    dite (ℕ_discrete i m) (λ (e : i ≡ m). absurd (other e)) (λ (ne : i ≢ m). omega (arith, high, ne))

few : (n : ℕ) (xs : List ℕ) → Apart xs → ((i : ℕ) → Contains xs i → i < n) → length xs ≤ n
few zero [] are low = omega (arith)
few zero (x ∷ xs) are low = absurd (let no : x < zero = low x (here x xs) in omega (arith, no))
few (suc m) xs are low =
    let rest : length (others m xs) ≤ m = few m (others m xs) (apart_others m xs are) (below_others m xs low) in
    let one = one_less m xs are in
    omega (arith, rest, one)

-- distinct numbers below one, of which one is missing, are fewer
fewer : (n : ℕ) (xs : List ℕ) (h : ℕ) → Apart xs → ((i : ℕ) → Contains xs i → i < n) → h < n → (Contains xs h → ⊥) → length xs < n
fewer zero xs h are low small none = absurd (omega (arith, small))
fewer (suc m) xs h are low small none = dite (ℕ_discrete h m)
    (λ (e : h ≡ m).
    let all = all_others m xs (λ there. none (subst (λ (z : ℕ). Contains xs z) (sym e) there)) in
    let rest : length (others m xs) ≤ m = few m (others m xs) (apart_others m xs are) (below_others m xs low) in
    omega (arith, all, rest))
    (λ (ne : h ≢ m).
    let rest : length (others m xs) < m = fewer m (others m xs) h (apart_others m xs are) (below_others m xs low) (omega (arith, small, ne)) (λ there. none (from_filter (λ i. not (i == m)) xs h there).0) in
    let one = one_less m xs are in
    omega (arith, rest, one))

-- ---- the ends of a journal

abbrev harts_of : List Ending → List ℕ
harts_of endings = map (λ e. e.hart) endings

-- the first harts to end are distinct
abbrev AreFirst : ℕ → State → Type 0
AreFirst n s = Apart (harts_of (take n s.endings))

first_step : (w : Setting) (past : List Event) (e : Event) → AreFirst w.machine.harts (after past) → AllowedIn w past (after past) e → AreFirst w.machine.harts (step (after past) e)
first_step w past e are may = by (ends (after past) e)
  where
    fresh : (h : ℕ) → length (after past).endings < w.machine.harts → MayEnd w (after past) h → Contains (harts_of (after past).endings) h → ⊥
    fresh h low (inl lacks) there = has_not (harts_of (after past).endings) h lacks there
    fresh h low (inr finals) there =
        let all : length (after past).endings ≡ w.machine.harts = eqb-true (length (after past).endings) w.machine.harts (and_parts (eqb (length (after past).endings) w.machine.harts) (have_exited w (after past)) finals.1).0 in
        omega (arith, low, all)

    ended : (h : ℕ) (reason : HartEnd) → MayEnd w (after past) h → Apart (harts_of (take w.machine.harts ((after past).endings ++ record { hart = h; «end» = reason } ∷ [])))
    ended h reason may = go (dec_le w.machine.harts (length (after past).endings))
      where
        x : Ending
        x = record { hart = h; «end» = reason }

        go : Dec (w.machine.harts ≤ length (after past).endings) → Apart (harts_of (take w.machine.harts ((after past).endings ++ x ∷ [])))
        go (yes within) = subst (λ (es : List Ending). Apart (harts_of es)) (sym (take-append-le w.machine.harts (after past).endings (x ∷ []) within)) are
        go (no short) =
            let low : length (after past).endings < w.machine.harts = lt_of_not-le short in
            let long : length ((after past).endings ++ x ∷ []) ≡ length (after past).endings + 1 = length-append (after past).endings (x ∷ []) in
            let before : take w.machine.harts (after past).endings ≡ (after past).endings = take_all w.machine.harts (after past).endings (omega (arith, low)) in
            let now : take w.machine.harts ((after past).endings ++ x ∷ []) ≡ (after past).endings ++ x ∷ [] = take_all w.machine.harts ((after past).endings ++ x ∷ []) (omega (arith, low, long)) in
            subst (λ (es : List Ending). Apart (harts_of es)) (sym now)
            (subst Apart (sym (map-append (λ e. e.hart) (after past).endings (x ∷ [])))
            (apart_push (harts_of (after past).endings) h (subst (λ (es : List Ending). Apart (harts_of es)) before are) (fresh h low may)))

    by : Ends (after past) e → AreFirst w.machine.harts (step (after past) e)
    by (Ends.none same) = subst (λ (es : List Ending). Apart (harts_of (take w.machine.harts es))) (sym same) are
    by (Ends.one h reason is) = subst (λ (d : Event). AreFirst w.machine.harts (step (after past) d)) (sym is) (ended h reason (subst (λ (d : Event). AllowedIn w past (after past) d) is may))

are_first : (m : Machine) (journal : List Event) → Lawful m journal → AreFirst m.harts (after journal)
are_first m journal lawful = by_lawful m (λ s. AreFirst m.harts s) (none m.harts)
    (λ w past e same past_lawful are may. subst (λ (n : Machine). AreFirst n.harts (step (after past) e)) same (first_step w past e (subst (λ (n : Machine). AreFirst n.harts (after past)) (sym same) are) may))
    journal lawful
  where
    none : (n : ℕ) → AreFirst n empty_state
    none zero = tt
    none (suc n) = tt

-- ends stay
ends_stay : (before since : List Event) → (more : List Ending) × ((after (before ++ since)).endings ≡ (after before).endings ++ more)
ends_stay before [] = ([], ap (λ (es : List Event). (after es).endings) (append-nil before) ∙ sym (append-nil (after before).endings))
ends_stay before (e ∷ rest) =
    let tail = ends_stay (before ++ e ∷ []) rest in
    let whole : (after (before ++ e ∷ rest)).endings ≡ (after (before ++ e ∷ [])).endings ++ tail.0 = ap (λ (es : List Event). (after es).endings) (sym (one_behind before e rest)) ∙ tail.1 in
    step_on tail.0 (ends (after before) e) whole
  where
    step_on : (more : List Ending) → Ends (after before) e → (after (before ++ e ∷ rest)).endings ≡ (after (before ++ e ∷ [])).endings ++ more
        → (all : List Ending) × ((after (before ++ e ∷ rest)).endings ≡ (after before).endings ++ all)
    step_on more (Ends.none same) whole =
        (more, whole ∙ ap (λ (es : List Ending). es ++ more) (ap (λ (s : State). s.endings) (after_push before e) ∙ same))
    step_on more (Ends.one h reason is) whole =
        let x : Ending = record { hart = h; «end» = reason } in
        let now : (after (before ++ e ∷ [])).endings ≡ (after before).endings ++ x ∷ [] = ap (λ (s : State). s.endings) (after_push before e) ∙ ap (λ (d : Event). (step (after before) d).endings) is in
        (x ∷ more, whole ∙ ap (λ (es : List Ending). es ++ more) now ∙ append_assoc (after before).endings (x ∷ []) more)

take_in : {X : Type 0} (n : ℕ) (xs : List X) (x : X) → Contains (take n xs) x → Contains xs x
take_in zero xs x there = absurd (none_in x there)
take_in {X} (suc n) [] x there = absurd (none_in x there)
take_in {X} (suc n) (y ∷ xs) x there = ⊎_elim
    (λ (e : y ≡ x). subst (λ (z : X). Contains (y ∷ xs) z) e (here y xs))
    (λ (old : Contains (take n xs) x). later y xs x (take_in n xs x old))
    (first_or_later y (take n xs) x there)

-- of harts that have all exited each has an end by exit
all_exited : (es : List Ending) (e : Ending) → list_all exited es ≡ true → Contains es e → exited e ≡ true
all_exited [] e all there = absurd (none_in e there)
all_exited (x ∷ es) e all there =
    let parts = and_parts (exited x) (list_all exited es) all in
    ⊎_elim
    (λ (is : x ≡ e). subst (λ (y : Ending). exited y ≡ true) is parts.0)
    (λ (old : Contains es e). all_exited es e parts.1 old)
    (first_or_later x es e there)

pub unexited_is_not_over : UnexitedIsNotOver
unexited_is_not_over w journal h lawful small within unless = by (have_exited w (after journal)) refl
  where
    by : (t : Bool) → have_exited w (after journal) ≡ t → have_exited w (after journal) ≡ false
    by false is = is
    by true is =
        let parts = and_parts (nat_le w.machine.harts (length (after journal).endings)) (list_all exited (take w.machine.harts (after journal).endings)) is in
        let long : w.machine.harts ≤ length (after journal).endings = leb-true w.machine.harts (length (after journal).endings) parts.0 in
        let first : List Ending = take w.machine.harts (after journal).endings in
        let count : length first ≡ w.machine.harts = length-take-le w.machine.harts (after journal).endings long in
        let mapped : length (harts_of first) ≡ length first = length-map first (λ e. e.hart) in
        let less = fewer w.machine.harts (harts_of first) h (are_first w.machine journal lawful)
        (λ i there. let x = from_map (λ e. e.hart) first i there in subst (λ (n : ℕ). n < w.machine.harts) x.2 (within x.0 (take_in w.machine.harts (after journal).endings x.0 x.1)))
        small
        (λ there. let x = from_map (λ e. e.hart) first h there in
        false≢true (sym (unless x.0 (take_in w.machine.harts (after journal).endings x.0 x.1) x.2) ∙ all_exited first x.0 parts.1 x.1)) in
        absurd (omega (arith, less, mapped, count))

pub running_is_not_over : RunningIsNotOver
running_is_not_over w journal h lawful small within runs before since are over =
    let parts = and_parts (nat_le w.machine.harts (length (after before).endings)) _ over in
    let long : w.machine.harts ≤ length (after before).endings = leb-true w.machine.harts (length (after before).endings) parts.0 in
    let count : length (take w.machine.harts (after before).endings) ≡ w.machine.harts = length-take-le w.machine.harts (after before).endings long in
    let mapped : length (harts_of (take w.machine.harts (after before).endings)) ≡ length (take w.machine.harts (after before).endings) = length-map (take w.machine.harts (after before).endings) (λ e. e.hart) in
    let kept = ends_stay before since in
    let all : (after journal).endings ≡ (after before).endings ++ kept.0 = ap (λ (es : List Event). (after es).endings) are ∙ kept.1 in
    let in_journal : (e : Ending) → Contains (take w.machine.harts (after before).endings) e → Contains (after journal).endings e =
    λ e there. subst (λ (es : List Ending). Contains es e) (sym all) (Contains-append_left (after before).endings kept.0 e (take_in w.machine.harts (after before).endings e there)) in
    let lawful_before : Lawful w.machine before = lawful_front w.machine before since (subst (Lawful w.machine) are lawful) in
    let less = fewer w.machine.harts (harts_of (take w.machine.harts (after before).endings)) h (are_first w.machine before lawful_before)
    (λ i there. let x = from_map (λ e. e.hart) (take w.machine.harts (after before).endings) i there in subst (λ (n : ℕ). n < w.machine.harts) x.2 (within x.0 (in_journal x.0 x.1)))
    small
    (λ there. let x = from_map (λ e. e.hart) (take w.machine.harts (after before).endings) h there in
    runs (subst (λ (n : ℕ). Contains (harts_of (after journal).endings) n) x.2 (in_map (λ e. e.hart) (after journal).endings x.0 (in_journal x.0 x.1)))) in
    omega (arith, less, mapped, count)
  where
    lawful_front : (m : Machine) (xs ys : List Event) → Lawful m (xs ++ ys) → Lawful m xs
    lawful_front m xs ys all = subst (Lawful m) (take-append-le (length xs) xs ys (omega (arith)) ∙ take_all (length xs) xs (omega (arith))) (lawful_take m (xs ++ ys) (length xs) all)
