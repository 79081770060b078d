-- What a reference takes of the definitions of a name, in the order of their indexes.
use Rattle.std.proofs.Common.{◌≡◌, ◌↔◌, ◌∙◌, sym, ap, ℕ, zero, suc, ◌+◌, ◌<◌, ◌≤◌, Bool, true, false, cond, List, [], ◌∷◌, length, refl, arith, inl, inr}
use Rattle.std.specs.Prelude.{◌==◌, ◌&&◌, ◌||◌, ◌⊎◌, not, min, nat_le, count_by, filter, if◌then◌else◌, Option, Some, None, slice_get}
use Rattle.std.specs.List.{find, range_with_len}
use Rattle.std.specs.Option.{MatchOption, option_map_or}
use Rattle.std.proofs.Math.Bool.{and_assoc}
use Rattle.std.proofs.lemmas.Bool.{and_from, and_parts, cases_eq, cases_lt, eqb-true, le-leb, leb-true, or_cases}
use Rattle.std.proofs.lemmas.List.Sums.{sum_by-cons}
use Rattle.std.proofs.lemmas.Option.{slice_get_within}
use Rattle.ld_base.specs.declared.linking.Want.{Want}
use Rattle.ld_base.specs.declared.linking.Want.TheVariants as want
use Rattle.ld_base.specs.declared.object.Object.{Object}
use Rattle.ld_base.specs.declared.object.Symbol.{Symbol}
use Rattle.ld_base.specs.Pick.{has_version, is_offer, is_wanted, names_no_version, pick_of}
use Rattle.ld_base.specs.Symbol.{is_hidden_version}
use Rattle.ld_base.specs.Taken.{Exports, ExportsNone, IsLeast, IsOnly, Takes, fits, in_sight}
use Rattle.scope_lists.specs.NameOrder.{exports, offers_of, unversioned_of, versions_of}
use Rattle.sym_lookup.specs.SymFind.Best.{least}
use Rattle.sym_lookup.specs.SymFind.Offers.{in_sight_at, is_wanted_at}

-- ---- what is found among those that pass

find_same : (p q : ℕ → Bool) → ((x : ℕ) → p x ≡ q x) → (xs : List ℕ) → find p xs ≡ find q xs
find_same p q same [] = refl
find_same p q same (x ∷ xs) = ap (λ b. cond b (Some x) (find p xs)) (same x) ∙ ap (cond (q x) (Some x)) (find_same p q same xs)

find_of_those : (p q : ℕ → Bool) (xs : List ℕ) → find p (filter q xs) ≡ find (λ x. q x && p x) xs
find_of_those p q [] = refl
find_of_those p q (x ∷ xs) = by (q x) (find_of_those p q xs)
  where
    by : (b : Bool) → find p (filter q xs) ≡ find (λ y. q y && p y) xs → find p (cond b (x ∷ filter q xs) (filter q xs)) ≡ cond (b && p x) (Some x) (find (λ y. q y && p y) xs)
    by true later = ap (cond (p x) (Some x)) later
    by false later = later

first_of_those : (q : ℕ → Bool) (xs : List ℕ) → slice_get (filter q xs) 0 ≡ find q xs
first_of_those q [] = refl
first_of_those q (x ∷ xs) = by (q x) (first_of_those q xs)
  where
    by : (b : Bool) → slice_get (filter q xs) 0 ≡ find q xs → slice_get (cond b (x ∷ filter q xs) (filter q xs)) 0 ≡ cond b (Some x) (find q xs)
    by true later = refl
    by false later = later

module _ (p : ℕ → Bool) where
  counted : (x : ℕ) (xs : List ℕ) → count_by p (x ∷ xs) ≡ cond (p x) 1 0 + count_by p xs
  counted x xs = sum_by-cons (λ y. cond (p y) 1 0) x xs

count_same : (p q : ℕ → Bool) → ((x : ℕ) → p x ≡ q x) → (xs : List ℕ) → count_by p xs ≡ count_by q xs
count_same p q same [] = refl
count_same p q same (x ∷ xs) =
    counted p x xs ∙ ap (λ b. cond b 1 0 + count_by p xs) (same x) ∙ ap (λ n. cond (q x) 1 0 + n) (count_same p q same xs) ∙ sym (counted q x xs)

count_of_those : (p q : ℕ → Bool) (xs : List ℕ) → count_by p (filter q xs) ≡ count_by (λ x. q x && p x) xs
count_of_those p q [] = refl
count_of_those p q (x ∷ xs) = by (q x) (count_of_those p q xs) ∙ sym (counted (λ y. q y && p y) x xs)
  where
    by : (b : Bool) → count_by p (filter q xs) ≡ count_by (λ y. q y && p y) xs → count_by p (cond b (x ∷ filter q xs) (filter q xs)) ≡ cond (b && p x) 1 0 + count_by (λ y. q y && p y) xs
    by true later = counted p x (filter q xs) ∙ ap (λ n. cond (p x) 1 0 + n) later
    by false later = omega (arith, later)

-- ---- numbers that follow one another

module _ (p : ℕ → Bool) where
  -- no number of a run passes
  abbrev NoneIn : ℕ → ℕ → Type 0
  NoneIn a n = (k : ℕ) → a ≤ k → k < a + n → p k ≡ true → ⊥

  -- the least of them that passes
  abbrev LeastIn : ℕ → ℕ → ℕ → Type 0
  LeastIn a n i = (p i ≡ true) × ((j : ℕ) → a ≤ j → j < a + n → p j ≡ true → i ≤ j)

  none_more : (a n : ℕ) → p a ≡ false → NoneIn (a + 1) n → NoneIn a (suc n)
  none_more a n fails none k from below passes =
      elim (cases_eq k a) [
        | inl same ↦ absurd (let no : true ≡ false = sym passes ∙ ap p same ∙ fails in cc no)
        | inr apart ↦ none k (omega (arith, apart)) (omega arith) passes
      ]

  found_in : (a n : ℕ) (found : Option ℕ) → find p (range_with_len a n) ≡ found → MatchOption found (NoneIn a n) (LeastIn a n)
  found_in a zero None is = λ k from below passes. absurd (omega arith)
  found_in a zero (Some i) is = absurd (cc is)
  found_in a (suc n) found is = by (p a) refl found is (found_in (a + 1) n found)
    where
      by : (b : Bool) → p a ≡ b → (r : Option ℕ) → cond b (Some a) (find p (range_with_len (a + 1) n)) ≡ r → (find p (range_with_len (a + 1) n) ≡ r → MatchOption r (NoneIn (a + 1) n) (LeastIn (a + 1) n))
          → MatchOption r (NoneIn a (suc n)) (LeastIn a (suc n))
      by true has None e later = absurd (cc e)
      by true has (Some i) e later = let same : a ≡ i = cc e in (ap p (sym same) ∙ has, λ j from below passes. omega (arith, same))
      by false fails None e later = none_more a n fails (later e)
      by false fails (Some i) e later = (
        (later e).0,
        λ j from below passes.
            elim (cases_eq j a) [
              | inl same ↦ absurd (let no : true ≡ false = sym passes ∙ ap p same ∙ fails in cc no)
              | inr apart ↦ (later e).1 j (omega (arith, apart)) (omega arith) passes
            ],
      )

  zero_none : (a n : ℕ) → count_by p (range_with_len a n) ≡ 0 → NoneIn a n
  zero_none a zero zeros = λ k from below passes. absurd (omega arith)
  zero_none a (suc n) zeros = by (p a) refl (counted p a (range_with_len (a + 1) n)) (zero_none (a + 1) n)
    where
      by : (b : Bool) → p a ≡ b → count_by p (range_with_len a (suc n)) ≡ cond (p a) 1 0 + count_by p (range_with_len (a + 1) n) → (count_by p (range_with_len (a + 1) n) ≡ 0 → NoneIn (a + 1) n) → NoneIn a (suc n)
      by true has more later = absurd (let one : count_by p (range_with_len a (suc n)) ≡ 1 + count_by p (range_with_len (a + 1) n) = more ∙ ap (λ b. cond b 1 0 + count_by p (range_with_len (a + 1) n)) has in omega (arith, one, zeros))
      by false fails more later =
          let sum : count_by p (range_with_len a (suc n)) ≡ 0 + count_by p (range_with_len (a + 1) n) = more ∙ ap (λ b. cond b 1 0 + count_by p (range_with_len (a + 1) n)) fails in
          none_more a n fails (later (omega (arith, sum, zeros)))

  none_zero : (a n : ℕ) → NoneIn a n → count_by p (range_with_len a n) ≡ 0
  none_zero a zero none = refl
  none_zero a (suc n) none = by (p a) refl (counted p a (range_with_len (a + 1) n)) (none_zero (a + 1) n (λ k from below passes. none k (omega arith) (omega arith) passes))
    where
      by : (b : Bool) → p a ≡ b → count_by p (range_with_len a (suc n)) ≡ cond (p a) 1 0 + count_by p (range_with_len (a + 1) n) → count_by p (range_with_len (a + 1) n) ≡ 0 → count_by p (range_with_len a (suc n)) ≡ 0
      by true has more later = absurd (none a (omega arith) (omega arith) has)
      by false fails more later =
          let sum : count_by p (range_with_len a (suc n)) ≡ 0 + count_by p (range_with_len (a + 1) n) = more ∙ ap (λ b. cond b 1 0 + count_by p (range_with_len (a + 1) n)) fails in
          omega (arith, sum, later)

  -- one is counted just where one alone passes
  one_alone : (a n : ℕ) → count_by p (range_with_len a n) ≡ 1 → (i j : ℕ) → a ≤ i → i < a + n → p i ≡ true → a ≤ j → j < a + n → p j ≡ true → i ≤ j
  one_alone a zero one i j from below passes above within other = absurd (omega arith)
  one_alone a (suc n) one i j from below passes above within other = by (p a) refl (counted p a (range_with_len (a + 1) n)) (one_alone (a + 1) n)
    where
      by : (b : Bool) → p a ≡ b → count_by p (range_with_len a (suc n)) ≡ cond (p a) 1 0 + count_by p (range_with_len (a + 1) n)
          → (count_by p (range_with_len (a + 1) n) ≡ 1 → (x y : ℕ) → a + 1 ≤ x → x < (a + 1) + n → p x ≡ true → a + 1 ≤ y → y < (a + 1) + n → p y ≡ true → x ≤ y) → i ≤ j
      by true has more later =
          let sum : count_by p (range_with_len a (suc n)) ≡ 1 + count_by p (range_with_len (a + 1) n) = more ∙ ap (λ b. cond b 1 0 + count_by p (range_with_len (a + 1) n)) has in
          let none = zero_none (a + 1) n (omega (arith, sum, one)) in
          elim (cases_eq i a) [
            | inl same ↦ omega (arith, same)
            | inr apart ↦ absurd (none i (omega (arith, apart)) (omega arith) passes)
          ]
      by false fails more later =
          let sum : count_by p (range_with_len a (suc n)) ≡ 0 + count_by p (range_with_len (a + 1) n) = more ∙ ap (λ b. cond b 1 0 + count_by p (range_with_len (a + 1) n)) fails in
          elim (cases_eq i a) [
            | inl same ↦ omega (arith, same)
            | inr apart ↦ elim (cases_eq j a) [
              | inl same ↦ absurd (let no : true ≡ false = sym other ∙ ap p same ∙ fails in cc no)
              | inr away ↦ later (omega (arith, sum, one)) i j (omega (arith, apart)) (omega arith) passes (omega (arith, away)) (omega arith) other
            ]
          ]

  alone_one : (a n k : ℕ) → a ≤ k → k < a + n → p k ≡ true → ((j : ℕ) → a ≤ j → j < a + n → p j ≡ true → j ≡ k) → count_by p (range_with_len a n) ≡ 1
  alone_one a zero k from below passes only = absurd (omega arith)
  alone_one a (suc n) k from below passes only = by (p a) refl (counted p a (range_with_len (a + 1) n)) (alone_one (a + 1) n k)
    where
      by : (b : Bool) → p a ≡ b → count_by p (range_with_len a (suc n)) ≡ cond (p a) 1 0 + count_by p (range_with_len (a + 1) n)
          → (a + 1 ≤ k → k < (a + 1) + n → p k ≡ true → ((j : ℕ) → a + 1 ≤ j → j < (a + 1) + n → p j ≡ true → j ≡ k) → count_by p (range_with_len (a + 1) n) ≡ 1)
          → count_by p (range_with_len a (suc n)) ≡ 1
      by true has more later =
          let first : a ≡ k = only a (omega arith) (omega arith) has in
          let rest : count_by p (range_with_len (a + 1) n) ≡ 0 = none_zero (a + 1) n (λ j above within other. let same = only j (omega arith) (omega arith) other in omega (arith, same, first)) in
          let sum : count_by p (range_with_len a (suc n)) ≡ 1 + count_by p (range_with_len (a + 1) n) = more ∙ ap (λ b. cond b 1 0 + count_by p (range_with_len (a + 1) n)) has in
          omega (arith, sum, rest)
      by false fails more later =
          let behind : a + 1 ≤ k =
          elim (cases_eq k a) [
            | inl same ↦ absurd (let no : true ≡ false = sym passes ∙ ap p same ∙ fails in cc no)
            | inr apart ↦ omega (arith, apart)
          ] in
          let sum : count_by p (range_with_len a (suc n)) ≡ 0 + count_by p (range_with_len (a + 1) n) = more ∙ ap (λ b. cond b 1 0 + count_by p (range_with_len (a + 1) n)) fails in
          let rest : count_by p (range_with_len (a + 1) n) ≡ 1 = later behind (omega arith) passes (λ j above within other. only j (omega arith) (omega arith) other) in
          omega (arith, sum, rest)

-- ---- the symbols that an object may export

module _ (o : Object) (test : Symbol → Bool) where
  abbrev All : List ℕ
  All = range_with_len 0 (length o.symbols)

  to_exports : (k : ℕ) → exports o test k ≡ true → Exports o test k
  to_exports k has = by (slice_get o.symbols k) refl has
    where
      by : (s : Option Symbol) → slice_get o.symbols k ≡ s → (nat_le o.first_exported k && option_map_or test s false) ≡ true → Exports o test k
      by None at e = absurd (let no : false ≡ true = (and_parts (nat_le o.first_exported k) false e).1 in cc no)
      by (Some s) at e = let both = and_parts (nat_le o.first_exported k) (test s) e in (leb-true o.first_exported k both.0, s, at, both.1)

  from_exports : (k : ℕ) → Exports o test k → exports o test k ≡ true
  from_exports k (from, s, at, passes) = and_from (nat_le o.first_exported k) (option_map_or test (slice_get o.symbols k) false) (le-leb o.first_exported k from) (ap (λ x. option_map_or test x false) at ∙ passes)

  within : (k : ℕ) → Exports o test k → k < 0 + length o.symbols
  within k (from, s, at, passes) = let small = slice_get_within o.symbols k s at in omega (arith, small)

  leasts : (found : Option ℕ) → find (exports o test) All ≡ found → MatchOption found (ExportsNone o test) (IsLeast o test)
  leasts found is = by found (found_in (exports o test) 0 (length o.symbols) found is) (found_there found is)
    where
      found_there : (r : Option ℕ) → find (exports o test) All ≡ r → MatchOption r (Unit {0}) (λ i. exports o test i ≡ true)
      found_there None e = tt
      found_there (Some i) e = (found_in (exports o test) 0 (length o.symbols) (Some i) e).0

      by : (r : Option ℕ) → MatchOption r (NoneIn (exports o test) 0 (length o.symbols)) (LeastIn (exports o test) 0 (length o.symbols)) → MatchOption r (Unit {0}) (λ i. exports o test i ≡ true) → MatchOption r (ExportsNone o test) (IsLeast o test)
      by None none there = λ k has. none k (omega arith) (within k has) (from_exports k has)
      by (Some i) (passes, least) there = (to_exports i passes, λ j other. least j (omega arith) (within j other) (from_exports j other))

  least_found : (k : ℕ) → IsLeast o test k → find (exports o test) All ≡ Some k
  least_found k (has, least) = by (find (exports o test) All) refl
    where
      by : (found : Option ℕ) → find (exports o test) All ≡ found → found ≡ Some k
      by None e = absurd (leasts None e k has)
      by (Some i) e = let first = leasts (Some i) e in let above = least i first.0 in let below = first.1 k has in ap Some (omega (arith, above, below))

  abbrev only_found : Option ℕ
  only_found = if count_by (exports o test) All == 1 then find (exports o test) All else None

  only_one : (k : ℕ) → only_found ≡ Some k → IsOnly o test k
  only_one k e = by (count_by (exports o test) All == 1) refl e
    where
      by : (one : Bool) → (count_by (exports o test) All == 1) ≡ one → (if one then find (exports o test) All else None) ≡ Some k → IsOnly o test k
      by false count is = absurd (cc is)
      by true count is =
          let first = leasts (Some k) is in
          let one = eqb-true (count_by (exports o test) All) 1 count in (
            first.0,
            λ j other.
                let below = first.1 j other in
                let above = one_alone (exports o test) 0 (length o.symbols) one j k (omega arith) (within j other) (from_exports j other) (omega arith) (within k first.0) (from_exports k first.0) in
                omega (arith, below, above),
          )

  one_only : (k : ℕ) → IsOnly o test k → only_found ≡ Some k
  one_only k (has, only) =
      let one = alone_one (exports o test) 0 (length o.symbols) k (omega arith) (within k has) (from_exports k has) (λ j above below other. only j (to_exports j other)) in
      ap (λ n. if n == 1 then find (exports o test) All else None) one ∙ least_found k (has, λ j other. let same = only j other in omega (arith, same))

-- ---- what passes one of two tests: the first is the lesser of the two firsts

abbrev lesser : Option ℕ → Option ℕ → Option ℕ
lesser found None = found
lesser found (Some k) = least found k

or_true : (b : Bool) → (b || true) ≡ true
or_true true = refl
or_true false = refl

module _ (o : Object) (one other : Symbol → Bool) where
  abbrev either : Symbol → Bool
  either s = one s || other s

  from_one : (k : ℕ) → Exports o one k → Exports o either k
  from_one k (from, s, at, is) = (from, s, at, ap (λ b. b || other s) is)

  from_other : (k : ℕ) → Exports o other k → Exports o either k
  from_other k (from, s, at, is) = (from, s, at, ap (λ b. one s || b) is ∙ or_true (one s))

  of_either : (k : ℕ) → Exports o either k → Exports o one k ⊎ Exports o other k
  of_either k (from, s, at, is) = elim (or_cases (one s) (other s) is) [
    | inl first ↦ inl (from, s, at, first)
    | inr second ↦ inr (from, s, at, second)
  ]

  first_of_either : (a b : Option ℕ) → find (exports o one) (All o one) ≡ a → find (exports o other) (All o other) ≡ b → find (exports o either) (All o either) ≡ lesser a b
  first_of_either None None nowhere none = by (find (exports o either) (All o either)) refl
    where
      by : (found : Option ℕ) → find (exports o either) (All o either) ≡ found → found ≡ None
      by None e = refl
      by (Some k) e = elim (of_either k (leasts o either (Some k) e).0) [
        | inl has ↦ absurd (leasts o one None nowhere k has)
        | inr has ↦ absurd (leasts o other None none k has)
      ]
  first_of_either (Some i) None first none =
      let is = leasts o one (Some i) first in
      least_found o either i (
        from_one i is.0,
        λ k has. elim (of_either k has) [
          | inl here ↦ is.1 k here
          | inr there ↦ absurd (leasts o other None none k there)
        ],
      )
  first_of_either None (Some j) nowhere second =
      let is = leasts o other (Some j) second in
      least_found o either j (
        from_other j is.0,
        λ k has. elim (of_either k has) [
          | inl here ↦ absurd (leasts o one None nowhere k here)
          | inr there ↦ is.1 k there
        ],
      )
  first_of_either (Some i) (Some j) first second =
      let is = leasts o one (Some i) first in
      let other_is = leasts o other (Some j) second in
      elim (cases_lt j i) [
        | inr le ↦ least_found o either i (
          from_one i is.0,
          λ k has. elim (of_either k has) [
            | inl here ↦ is.1 k here
            | inr there ↦ let above = other_is.1 k there in omega (arith, le, above)
          ],
        ) ∙ ap Some (let same : i ≡ min i j = omega (arith, le) in same)
        | inl lt ↦ least_found o either j (
          from_other j other_is.0,
          λ k has. elim (of_either k has) [
            | inl here ↦ let above = is.1 k here in omega (arith, lt, above)
            | inr there ↦ other_is.1 k there
          ],
        ) ∙ ap Some (let same : j ≡ min i j = omega (arith, lt) in same)
      ]

-- ---- the definitions of a name

module _ (o : Object) (name : List ℕ) (w : Want) where
  -- a definition of the name that passes another test
  both : (test : Symbol → Bool) (k : ℕ) → (exports o (is_offer o name) k && option_map_or test (slice_get o.symbols k) false) ≡ exports o (λ s. is_offer o name s && test s) k
  both test k = by (slice_get o.symbols k)
    where
      nothing : (a : Bool) → ((a && false) && false) ≡ (a && false)
      nothing true = refl
      nothing false = refl

      by : (s : Option Symbol) → ((nat_le o.first_exported k && option_map_or (is_offer o name) s false) && option_map_or test s false) ≡ (nat_le o.first_exported k && option_map_or (λ x. is_offer o name x && test x) s false)
      by None = nothing (nat_le o.first_exported k)
      by (Some s) = and_assoc (nat_le o.first_exported k) (is_offer o name s) (test s)

  same_test : (one other : Symbol → Bool) → ((s : Symbol) → one s ≡ other s) → (k : ℕ) → exports o one k ≡ exports o other k
  same_test one other same k = by (slice_get o.symbols k)
    where
      by : (s : Option Symbol) → (nat_le o.first_exported k && option_map_or one s false) ≡ (nat_le o.first_exported k && option_map_or other s false)
      by None = refl
      by (Some s) = ap (λ b. nat_le o.first_exported k && b) (same s)

  abbrev Offers : List ℕ
  Offers = offers_of o name

  abbrev Everything : List ℕ
  Everything = range_with_len 0 (length o.symbols)

  first_of_both : find (is_wanted_at o w) Offers ≡ find (exports o (λ s. is_offer o name s && is_wanted o w s)) Everything
  first_of_both =
      find_of_those (is_wanted_at o w) (exports o (is_offer o name)) Everything
      ∙ find_same (λ k. exports o (is_offer o name) k && is_wanted_at o w k) (exports o (λ s. is_offer o name s && is_wanted o w s)) (both (is_wanted o w)) Everything

  wanted_first : o.has_versym ≡ true → find (is_wanted_at o w) Offers ≡ find (exports o (fits o name w)) Everything
  wanted_first some =
      first_of_both
      ∙ find_same (exports o (λ s. is_offer o name s && is_wanted o w s)) (exports o (fits o name w))
      (same_test (λ s. is_offer o name s && is_wanted o w s) (fits o name w) (λ s. ap (λ b. is_offer o name s && (not b || is_wanted o w s)) (sym some))) Everything

  any_first : o.has_versym ≡ false → slice_get Offers 0 ≡ find (exports o (fits o name w)) Everything
  any_first none =
      first_of_those (exports o (is_offer o name)) Everything
      ∙ find_same (exports o (is_offer o name)) (exports o (fits o name w)) (same_test (is_offer o name) (fits o name w) (λ s. with_true (is_offer o name s) ∙ ap (λ b. is_offer o name s && (not b || is_wanted o w s)) (sym none))) Everything
    where
      with_true : (b : Bool) → b ≡ (b && true)
      with_true true = refl
      with_true false = refl

  sight_found : (if count_by (in_sight_at o) Offers == 1 then find (in_sight_at o) Offers else None) ≡ only_found o (in_sight o name)
  sight_found =
      let q : ℕ → Bool = exports o (is_offer o name) in
      let same : (k : ℕ) → (q k && in_sight_at o k) ≡ exports o (in_sight o name) k = both (λ s. not (is_hidden_version s)) in
      ap (λ n. if n == 1 then find (in_sight_at o) Offers else None) (count_of_those (in_sight_at o) q Everything ∙ count_same (λ k. q k && in_sight_at o k) (exports o (in_sight o name)) same Everything)
      ∙ ap (λ (f : Option ℕ). if count_by (exports o (in_sight o name)) Everything == 1 then f else None) (find_of_those (in_sight_at o) q Everything ∙ find_same (λ k. q k && in_sight_at o k) (exports o (in_sight o name)) same Everything)

  same_picks : (found picked : Option ℕ) → ((k : ℕ) → (found ≡ Some k) ↔ Takes o name w k) → ((k : ℕ) → (picked ≡ Some k) ↔ Takes o name w k) → found ≡ picked
  same_picks None None f p = refl
  same_picks None (Some k) f p = (f k).1 ((p k).0 refl)
  same_picks (Some k) picked f p = sym ((p k).1 ((f k).0 refl))

  module _ (picks : (k : ℕ) → (pick_of o name w ≡ Some k) ↔ Takes o name w k) where
    -- the first that fits is taken
    first_taken : (k : ℕ) → find (exports o (fits o name w)) Everything ≡ Some k → Some k ≡ pick_of o name w
    first_taken k is = sym ((picks k).1 (inl (leasts o (fits o name w) (Some k) is)))

    pub wanted_taken : (wanted : Option ℕ) (k : ℕ) → o.has_versym ≡ true → wanted ≡ find (is_wanted_at o w) Offers → wanted ≡ Some k → Some k ≡ pick_of o name w
    wanted_taken wanted k some is found = first_taken k (sym (is ∙ wanted_first some) ∙ found)

    -- where none fits, the only one in sight is, if the reference names no version
    pub sight_taken : (wanted r : Option ℕ) → o.has_versym ≡ true → wanted ≡ find (is_wanted_at o w) Offers → wanted ≡ None → names_no_version w ≡ true
        → r ≡ (if count_by (in_sight_at o) Offers == 1 then find (in_sight_at o) Offers else None) → r ≡ pick_of o name w
    sight_taken wanted r some is none names alone =
        let unfit : find (exports o (fits o name w)) Everything ≡ None = sym (is ∙ wanted_first some) ∙ none in
        let unversioned : (o.has_versym && names_no_version w) ≡ true = ap (λ b. b && names_no_version w) some ∙ names in
        let only : r ≡ only_found o (in_sight o name) = alone ∙ sight_found in
        same_picks r (pick_of o name w)
        (λ k. (
          λ e. inr (unversioned, leasts o (fits o name w) None unfit, only_one o (in_sight o name) k (sym only ∙ e)),
          λ takes. elim takes [
            | inl least ↦ absurd (leasts o (fits o name w) None unfit k least.0)
            | inr (other, nowhere, alone) ↦ only ∙ one_only o (in_sight o name) k alone
          ],
        ))
        picks

    unfit_taken : find (exports o (fits o name w)) Everything ≡ None → (o.has_versym && names_no_version w) ≡ false → None ≡ pick_of o name w
    unfit_taken unfit names =
        same_picks None (pick_of o name w)
        (λ k. (
          λ e. absurd (cc e),
          λ takes. elim takes [
            | inl least ↦ absurd (leasts o (fits o name w) None unfit k least.0)
            | inr (unversioned, nowhere, only) ↦ absurd (let no : true ≡ false = sym unversioned ∙ names in cc no)
          ],
        ))
        picks

    pub none_taken : (wanted : Option ℕ) → o.has_versym ≡ true → wanted ≡ find (is_wanted_at o w) Offers → wanted ≡ None → names_no_version w ≡ false → None ≡ pick_of o name w
    none_taken wanted some is none names = unfit_taken (sym (is ∙ wanted_first some) ∙ none) (ap (λ b. b && names_no_version w) some ∙ names)

    -- without versions the first of the name is
    pub any_taken : (r : Option ℕ) → o.has_versym ≡ false → r ≡ slice_get Offers 0 → r ≡ pick_of o name w
    any_taken None without is = unfit_taken (sym (is ∙ any_first without)) (ap (λ b. b && names_no_version w) without)
    any_taken (Some k) without is = first_taken k (sym (is ∙ any_first without))

-- ---- those of them with a version

module _ (o : Object) (name version : List ℕ) where
  abbrev just : Symbol → Bool
  just s = is_offer o name s && has_version o version s

  abbrev unversioned : Symbol → Bool
  unversioned s = is_offer o name s && s.version == 1

  pub just_first : (found : Option ℕ) → found ≡ slice_get (versions_of o name version) 0 → found ≡ find (is_wanted_at o (want.Dlvsym version)) (offers_of o name)
  just_first found is = is ∙ first_of_those (exports o just) (All o just) ∙ sym (first_of_both o name (want.Dlvsym version))

  pub version_first : (a b : Option ℕ) → a ≡ find (is_wanted_at o (want.Dlvsym version)) (offers_of o name) → b ≡ slice_get (unversioned_of o name) 0
      → lesser a b ≡ find (is_wanted_at o (want.Version version)) (offers_of o name)
  version_first a b is first =
      let w : Want = want.Version version in
      let wanted : Symbol → Bool = λ s. is_offer o name s && is_wanted o w s in
      let same : (s : Symbol) → wanted s ≡ either o just unversioned s = λ s. apart (is_offer o name s) (has_version o version s) (s.version == 1) in
      sym (first_of_both o name w ∙ find_same (exports o wanted) (exports o (either o just unversioned)) (same_test o name w wanted (either o just unversioned) same) (All o just)
      ∙ first_of_either o just unversioned a b (sym (is ∙ first_of_both o name (want.Dlvsym version))) (sym (first ∙ first_of_those (exports o unversioned) (All o unversioned))))
    where
      apart : (x y z : Bool) → (x && (y || z)) ≡ (x && y || x && z)
      apart true y z = refl
      apart false y z = refl
