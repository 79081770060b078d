-- The first gap in the numbers of modules, and a module put there.
use Rattle.std.proofs.Common.{◌≡◌, ℕ, zero, suc, ◌+◌, ◌-◌, ◌<◌, ◌≤◌, ⊎_elim, Bool, true, ltb, List, [], ◌∷◌, ◌++◌, length, get_or, take, drop, sym, ap, subst, ◌∙◌, arith}
use Rattle.std.specs.List.{All, Contains, filter, insert}
use Rattle.std.proofs.lemmas.Bool.{cases_lt, ltb-true, lt-ltb, le-ltb}
use Rattle.std.proofs.lemmas.List.{append-nil, get_or-take, get_or-drop, length-take-le, length-drop, take-append-drop}
use Rattle.std.proofs.lemmas.List.Elements.{All-append, All-cons, All-filter, All-weaker, Contains-get_or, filter-append, filter_passes}
use Rattle.std.proofs.lemmas.List.Kept.{AllPairs-cons, AllPairs-filter}
use Rattle.history_event.specs.declared.state.Module.{Module}
use Rattle.tls_blocks.specs.Numbers.{AreNumbered, HasGapAt, IsLeastFree, IsTaken, number_of, with_module}
use Rattle.tls_blocks.proofs.Parts.{filter_all, filter_none, pairs_join}

-- numbers rise at least as fast as places
number_high : (ms : List Module) → AreNumbered ms → (k : ℕ) (d : Module) → k < length ms → k + 1 ≤ number_of (get_or ms k d)
number_high ms numbered zero d within = let low = numbered.positive 0 d within in omega arith
number_high ms numbered (suc k) d within =
    let before : k + 1 ≤ number_of (get_or ms k d) = number_high ms numbered k d (omega arith) in
    let rises : number_of (get_or ms k d) < number_of (get_or ms (suc k) d) = numbered.rising k (suc k) d (omega arith) within in
    omega arith

-- the numbers up to a place are those that the places give
abbrev pub IsFull : List Module → ℕ → Type 0
IsFull ms place = (k : ℕ) (d : Module) → k < place → number_of (get_or ms k d) ≡ k + 1

pub gap_here : (ms : List Module) (place : ℕ) → AreNumbered ms → IsFull ms place → place < length ms
    → ((d : Module) → number_of (get_or ms place d) ≡ place + 1 → ⊥) → HasGapAt ms place
gap_here ms place numbered full within other = record {
  within = omega arith;
  before = full;
  behind = λ k d low high. ⊎_elim
      (λ (later : place < k).
      let here = number_high ms numbered place d within in
      let rises : number_of (get_or ms place d) < number_of (get_or ms k d) = numbered.rising place k d later high in
      omega arith)
      (λ (same : k ≤ place).
      let here : k + 1 ≤ number_of (get_or ms k d) = number_high ms numbered k d high in
      let e : k ≡ place = omega arith in
      let apart : (number_of (get_or ms k d) ≡ k + 1) → ⊥ = subst (λ (n : ℕ). (number_of (get_or ms n d) ≡ n + 1) → ⊥) (sym e) (other d) in
      ⊎_elim
      (λ (more : k + 1 < number_of (get_or ms k d)). omega arith)
      (λ (less : number_of (get_or ms k d) ≤ k + 1). absurd (apart (omega arith)))
      (cases_lt (k + 1) (number_of (get_or ms k d))))
      (cases_lt place k);
}

pub gap_is_free : (ms : List Module) (gap : ℕ) → HasGapAt ms gap → IsLeastFree ms (gap + 1)
gap_is_free ms gap has = record {
  positive = omega arith;
  free = λ taken. taken_not taken.0 taken.1 taken.2;
  least = λ other low high.
      let before = has.before in
      let within = has.within in
      let there : other - 1 < length ms = omega arith in
      first_taken other low high (other - 1) (omega arith);
}
  where
    taken_not : (m : Module) → Contains ms m → number_of m ≡ gap + 1 → ⊥
    taken_not m there same = ⊎_elim
        (λ (low : there.0 < gap).
        let is : number_of m ≡ there.0 + 1 = ap number_of (sym there.2) ∙ has.before there.0 m low in
        absurd (omega arith))
        (λ (high : gap ≤ there.0).
        let more : gap + 1 < number_of (get_or ms there.0 m) = has.behind there.0 m high there.1 in
        let is : number_of (get_or ms there.0 m) ≡ number_of m = ap number_of there.2 in
        absurd (omega arith))
        (cases_lt there.0 gap)

    first_taken : (other : ℕ) → 1 ≤ other → other < gap + 1 → (k : ℕ) → k + 1 ≡ other → IsTaken ms other
    first_taken other low high k place = taken_at ms has k other place (omega arith)
      where
        taken_at : (ms : List Module) → HasGapAt ms gap → (k other : ℕ) → k + 1 ≡ other → k < gap → IsTaken ms other
        taken_at [] has k other place small = let within = has.within in absurd (omega arith)
        taken_at (x ∷ xs) has k other place small =
            let within = has.within in
            (get_or (x ∷ xs) k x, Contains-get_or (x ∷ xs) k x (omega arith), has.before k x small ∙ place)

-- a module put at a gap stands in the order of its number
pub insert_is : (ms : List Module) (gap : ℕ) (m : Module) → HasGapAt ms gap → number_of m ≡ gap + 1 → insert ms gap m ≡ with_module m ms
insert_is ms gap m has number =
    let front : List Module = take gap ms in
    let back : List Module = drop gap ms in
    let below : Module → Bool = λ x. ltb (number_of x) (number_of m) in
    let above : Module → Bool = λ x. ltb (number_of m) (number_of x) in
    let low : (k : ℕ) (d : Module) → k < length front → number_of (get_or front k d) < number_of m = λ k d h.
    let len = length-take-le gap ms has.within in
    let lt : k < gap = omega arith in
    let is : number_of (get_or front k d) ≡ k + 1 = ap number_of (get_or-take gap ms k d lt) ∙ has.before k d lt in
    omega arith in
    let high : (k : ℕ) (d : Module) → k < length back → number_of m < number_of (get_or back k d) = λ k d h.
    let len = length-drop gap ms in
    let within = has.within in
    let is : number_of (get_or back k d) ≡ number_of (get_or ms (gap + k) d) = ap number_of (get_or-drop gap ms k d) in
    let more : gap + 1 < number_of (get_or ms (gap + k) d) = has.behind (gap + k) d (omega arith) (omega arith) in
    omega arith in
    let lower : filter below ms ≡ front =
    ap (filter below) (sym (take-append-drop gap ms)) ∙ filter-append below front back
    ∙ ap (λ (ys : List Module). filter below front ++ ys) (filter_none below back (λ k d h. le-ltb (number_of (get_or back k d)) (number_of m) (let lt = high k d h in omega arith)))
    ∙ append-nil (filter below front) ∙ filter_all below front (λ k d h. lt-ltb (number_of (get_or front k d)) (number_of m) (low k d h)) in
    let upper : filter above ms ≡ back =
    ap (filter above) (sym (take-append-drop gap ms)) ∙ filter-append above front back
    ∙ ap (λ (ys : List Module). ys ++ filter above back) (filter_none above front (λ k d h. le-ltb (number_of m) (number_of (get_or front k d)) (let lt = low k d h in omega arith)))
    ∙ filter_all above back (λ k d h. lt-ltb (number_of m) (number_of (get_or back k d)) (high k d h)) in
    sym (ap (λ (ys : List Module). ys ++ m ∷ filter above ms) lower ∙ ap (λ (ys : List Module). front ++ m ∷ ys) upper)

abbrev Before : Module → Module → Type 0
Before m n = number_of m < number_of n

pub numbered_with : (ms : List Module) (m : Module) → AreNumbered ms → 1 ≤ number_of m → AreNumbered (with_module m ms)
numbered_with ms m numbered positive =
    let below : Module → Bool = λ x. ltb (number_of x) (number_of m) in
    let above : Module → Bool = λ x. ltb (number_of m) (number_of x) in
    let lows : List Module = filter below ms in
    let highs : List Module = filter above ms in
    let after : All (Before m) highs =
    All-weaker (λ x. above x ≡ true) (Before m) (λ x h. ltb-true (number_of m) (number_of x) h) highs (filter_passes above ms) in
    let across : All (λ x. All (Before x) (m ∷ highs)) lows =
    All-weaker (λ x. below x ≡ true) (λ x. All (Before x) (m ∷ highs))
    (λ x h. let lt : number_of x < number_of m = ltb-true (number_of x) (number_of m) h in
    All-cons (Before x) m highs lt (All-weaker (Before m) (Before x) (λ y more. omega arith) highs after))
    lows (filter_passes below ms) in
    record {
      positive = All-append (λ x. 1 ≤ number_of x) lows (m ∷ highs) (All-filter below (λ x. 1 ≤ number_of x) ms numbered.positive)
          (All-cons (λ x. 1 ≤ number_of x) m highs positive (All-filter above (λ x. 1 ≤ number_of x) ms numbered.positive));
      rising = pairs_join Before lows (m ∷ highs) (AllPairs-filter Before below ms numbered.rising)
          (AllPairs-cons Before m highs after (AllPairs-filter Before above ms numbered.rising)) across;
    }

pub numbered_filter : (keep : Module → Bool) (ms : List Module) → AreNumbered ms → AreNumbered (filter keep ms)
numbered_filter keep ms numbered = record {
  positive = All-filter keep (λ x. 1 ≤ number_of x) ms numbered.positive;
  rising = AllPairs-filter Before keep ms numbered.rising;
}
