-- The packed table's words name the places that they were made from.
use Rattle.std.proofs.Common.{◌≡◌, ◌∙◌, ap, sym, subst, ℕ, zero, suc, ◌+◌, ◌-◌, ◌*◌, ◌/◌, ◌%◌, ◌^◌, ◌<◌, ◌≤◌, ◌==◌, Bool, true, false, if◌then◌else◌, ◌||◌, List, [], ◌∷◌, ◌++◌, length, map, filter, fold, take, drop, cond, max, refl, arith, inl, inr, bit_or, length-take-le, length-drop}
use Rattle.std.specs.Prelude.{Option, Some, None, ⊤}
use Rattle.std.specs.Int.{bit_at}
use Rattle.std.specs.List.{list_any, prefix_len, range_with_len}
use Rattle.std.proofs.Math.Bool.{or-false}
use Rattle.std.proofs.lemmas.Bool.{cases_eq}
use Rattle.std.proofs.lemmas.Bool.Decides.{nat_tests}
use Rattle.std.proofs.lemmas.List.Sums.{prefix_len-le-length}
use Rattle.std.proofs.lemmas.Nat.Bits.{bit_at_lowest, bit_at_or, bit_at-pow_same, bit_at-pow_other}
use Rattle.elf_head.specs.DynTable.Bits.{has_bit}
use Rattle.elf_dynamic.specs.Parts.{bits_of, NamePlaces, no_more, place as names_place, bits as names_bits}
use Rattle.asm_write.specs.Relr.{is_in_map, with_place, map_of, mapped_count, words_within, relr_words}
use Rattle.asm_laws.specs.ElfWritten.Placed.{AreAscending}

-- Numbers that a test picks from a range

abbrev stands_in : List ℕ → ℕ → Bool
stands_in numbers i = list_any (λ j. i == j) numbers

abbrev Rise : ℕ → List ℕ → Type 0
Rise least [] = ⊤
Rise least (i ∷ numbers) = (least ≤ i) × ((i < 64) × Rise (i + 1) numbers)

absent : (least i : ℕ) (numbers : List ℕ) → Rise least numbers → i < least → stands_in numbers i ≡ false
absent least i [] rise less = refl
absent least i (j ∷ numbers) (first, (most, rise)) less =
    let no : (i == j) ≡ false = grind (arith, nat_tests) in
    ap (λ b. b || stands_in numbers i) no ∙ absent (j + 1) i numbers rise (omega arith)

picked : (test : ℕ → Bool) (n least : ℕ) (numbers : List ℕ) → least + n ≡ 64 → Rise least numbers
    → ((i : ℕ) → least ≤ i → i < 64 → test i ≡ stands_in numbers i) → filter test (range_with_len least n) ≡ numbers
picked test zero least [] whole rise marks = refl
picked test zero least (i ∷ numbers) whole (first, (most, rise)) marks = absurd (omega (arith, whole, first, most))
picked test (suc n) least [] whole rise marks =
    let no : test least ≡ false = marks least (omega arith) (omega (arith, whole)) in
    rw no (picked test n (least + 1) [] (omega (arith, whole)) tt (λ i from most. marks i (omega (arith, from)) most))
picked test (suc n) least (i ∷ numbers) whole (first, (most, rise)) marks =
    let Q : Type 0 = filter test (range_with_len least (suc n)) ≡ i ∷ numbers in
    let here : least ≡ i → Q = λ same.
    let yes : (least == i) ≡ true = grind (arith, nat_tests) in
    let passes : test least ≡ true = marks least (omega arith) (omega (arith, whole)) ∙ ap (λ b. b || stands_in numbers least) yes in
    let rest : filter test (range_with_len (least + 1) n) ≡ numbers = picked test n (least + 1) numbers (omega (arith, whole)) (subst (λ k. Rise (k + 1) numbers) (sym same) rise)
    (λ j from most. marks j (omega (arith, from)) most ∙ ap (λ b. b || stands_in numbers j) (other j i (omega (arith, from, same)))) in
    rw passes (ap (λ k. k ∷ filter test (range_with_len (least + 1) n)) same ∙ ap (λ ks. i ∷ ks) rest) in
    let later : (least ≡ i → ⊥) → Q = λ differs.
    let behind : Rise (least + 1) (i ∷ numbers) = (omega (arith, first, differs), (most, rise)) in
    let no : test least ≡ false = marks least (omega arith) (omega (arith, whole)) ∙ absent (least + 1) least (i ∷ numbers) behind (omega arith) in
    rw no (picked test n (least + 1) (i ∷ numbers) (omega (arith, whole)) behind (λ j from most. marks j (omega (arith, from)) most)) in
    elim (cases_eq least i) as (λ _. Q) [ inl same ↦ here same | inr differs ↦ later differs ]
  where
    other : (j i : ℕ) → i < j → (j == i) ≡ false
    other j i less = grind (arith, nat_tests)

-- The bits of a map

or_true : (b : Bool) → (b || true) ≡ true
or_true true = refl
or_true false = refl

or_assoc : (a b c : Bool) → ((a || b) || c) ≡ (a || (b || c))
or_assoc true b c = refl
or_assoc false b c = refl

one_bit : (n m : ℕ) → n ≡ m → (n == 1) ≡ (m == 1)
one_bit n m same = ap (λ k. k == 1) same

with_bit : (word k i : ℕ) → has_bit (bit_or word (2 ^ k)) i ≡ (has_bit word i || (i == k))
with_bit word k i =
    let both = bit_at_or word (2 ^ k) i in
    let Q : Type 0 = has_bit (bit_or word (2 ^ k)) i ≡ (has_bit word i || (i == k)) in
    let here : i ≡ k → Q = λ same.
    let set : bit_at (2 ^ k) i ≡ 1 = ap (bit_at (2 ^ k)) same ∙ bit_at-pow_same k in
    let yes : (i == k) ≡ true = grind (arith, nat_tests) in
    let one : bit_at (bit_or word (2 ^ k)) i ≡ 1 = greater (bit_at word i) _ _ both set (below word i) in
    one_bit _ 1 one ∙ sym (ap (λ b. has_bit word i || b) yes ∙ or_true (has_bit word i)) in
    let elsewhere : (i ≡ k → ⊥) → Q = λ differs.
    let clear : bit_at (2 ^ k) i ≡ 0 = bit_at-pow_other k i differs in
    let no : (i == k) ≡ false = grind (arith, nat_tests) in
    let kept : bit_at (bit_or word (2 ^ k)) i ≡ bit_at word i = least (bit_at word i) _ _ both clear in
    one_bit _ _ kept ∙ sym (ap (λ b. has_bit word i || b) no ∙ or-false (has_bit word i)) in
    elim (cases_eq i k) as (λ _. Q) [ inl same ↦ here same | inr differs ↦ elsewhere differs ]
  where
    below : (word i : ℕ) → word / 2 ^ i % 2 < 2
    below word i = omega arith

    greater : (a b c : ℕ) → c ≡ max a b → b ≡ 1 → a < 2 → c ≡ 1
    greater a b c is one few = omega (arith, is, one, few)

    least : (a b c : ℕ) → c ≡ max a b → b ≡ 0 → c ≡ a
    least a b c is none = omega (arith, is, none)

abbrev InMap : ℕ → List ℕ → Type 0
InMap base [] = ⊤
InMap base (place ∷ places) = (is_in_map base place ≡ true) × InMap base places

abbrev bits_in : ℕ → List ℕ → List ℕ
bits_in base places = map (λ place. 1 + (place - base) / 8) places

folded : (base word : ℕ) (places : List ℕ) (i : ℕ) → InMap base places
    → has_bit (fold (with_place base) word places) i ≡ (has_bit word i || stands_in (bits_in base places) i)
unfolding with_place
folded base word [] i inside = sym (or-false (has_bit word i))
folded base word (place ∷ places) i (inside, all) =
    let k = 1 + (place - base) / 8 in
    let others = stands_in (bits_in base places) i in
    let step : with_place base word place ≡ bit_or word (2 ^ k) = rw inside refl in
    folded base (with_place base word place) places i all ∙ ap (λ w. has_bit w i || others) step
    ∙ ap (λ b. b || others) (with_bit word k i) ∙ or_assoc (has_bit word i) (i == k) others

record InBounds (base place : ℕ) : Type 0 where
  least : base ≤ place
  near : place - base < 504
  even : (place - base) % 8 ≡ 0

bounds : (base place : ℕ) → is_in_map base place ≡ true → InBounds base place
bounds base place inside = record { least = grind (arith, nat_tests); near = grind (arith, nat_tests); even = grind (arith, nat_tests) }

risen : (base least from : ℕ) (places : List ℕ) → 1 ≤ least → base + 8 * (least - 1) ≤ from + 7 → InMap base places → AreAscending from places
    → Rise least (bits_in base places)
risen base least from [] some near inside ascending = tt
risen base least from (place ∷ places) some near (inside, all) (later, (even, ascending)) =
    let in_bounds = bounds base place inside in
    let first : least ≤ 1 + (place - base) / 8 = omega (arith, some, near, later, in_bounds.least, in_bounds.even) in
    let most : 1 + (place - base) / 8 < 64 = omega (arith, in_bounds.near) in
    let next : base + 8 * (1 + (place - base) / 8 + 1 - 1) ≤ place + 1 + 7 = omega (arith, in_bounds.least, in_bounds.even) in
    (first, (most, risen base (1 + (place - base) / 8 + 1) (place + 1) places (omega arith) next all ascending))

back : (base : ℕ) (places : List ℕ) → InMap base places → map (λ i. base + 8 * (i - 1)) (bits_in base places) ≡ places
back base [] inside = refl
back base (place ∷ places) (inside, all) =
    let in_bounds = bounds base place inside in
    let same : base + 8 * (1 + (place - base) / 8 - 1) ≡ place = omega (arith, in_bounds.least, in_bounds.even) in
    ap (λ p. p ∷ map (λ i. base + 8 * (i - 1)) (bits_in base places)) same ∙ ap (λ ps. place ∷ ps) (back base places all)

raised : (base from : ℕ) (places : List ℕ) → InMap base places → AreAscending from places → AreAscending base places
raised base from [] inside ascending = tt
raised base from (place ∷ places) (inside, all) (later, rest) = ((bounds base place inside).least, rest)

no_other : (i : ℕ) → 1 ≤ i → has_bit 1 i ≡ false
no_other i some =
    let clear : bit_at (2 ^ 0) i ≡ 0 = bit_at-pow_other 0 i (λ is. absurd (omega (arith, is, some))) in
    one_bit (bit_at 1 i) 0 clear

map_bits : (base from : ℕ) (places : List ℕ) → InMap base places → AreAscending from places → bits_of (map_of base places) ≡ bits_in base places
unfolding bits_of
map_bits base from places inside ascending =
    let rise = risen base 1 base places (omega arith) (omega arith) inside (raised base from places inside ascending) in
    picked (has_bit (map_of base places)) 63 1 (bits_in base places) refl rise
    (λ i some most. folded base 1 places i inside ∙ ap (λ b. b || stands_in (bits_in base places) i) (no_other i some))

map_odd : (base : ℕ) (places : List ℕ) → InMap base places → map_of base places % 2 ≡ 1
map_odd base places inside =
    let set : has_bit (map_of base places) 0 ≡ true = folded base 1 places 0 inside in
    let one : bit_at (map_of base places) 0 ≡ 1 = test (bit_at (map_of base places) 0) set in
    sym (bit_at_lowest (map_of base places)) ∙ one
  where
    test : (n : ℕ) → (n == 1) ≡ true → n ≡ 1
    test n is = grind (arith, nat_tests)

-- The places of one map, and those behind it

counted : (base : ℕ) (places : List ℕ) → mapped_count base places ≡ prefix_len (is_in_map base) places
counted base places = length-take-le (prefix_len (is_in_map base) places) places (prefix_len-le-length (is_in_map base) places)

front_inside : (base : ℕ) (places : List ℕ) → InMap base (take (prefix_len (is_in_map base) places) places)
front_inside base [] = tt
front_inside base (place ∷ places) =
    let n = prefix_len (is_in_map base) places in
    let P : Bool → Type 0 = λ inside. is_in_map base place ≡ inside → InMap base (take (cond inside (1 + n) 0) (place ∷ places)) in
    let longer : suc n ≡ 1 + n = omega arith in
    let cases : (inside : Bool) → P inside = λ inside. elim inside as P [
      | true ↦ λ is. subst (λ m. InMap base (take m (place ∷ places))) longer (is, front_inside base places)
      | false ↦ λ is. tt
    ] in
    cases (is_in_map base place) refl

sooner : (from : ℕ) (places : List ℕ) → AreAscending from places → AreAscending 0 places
sooner from [] ascending = tt
sooner from (place ∷ places) (later, rest) = (omega arith, rest)

front_ascends : (from n : ℕ) (places : List ℕ) → AreAscending from places → AreAscending from (take n places)
front_ascends from zero places ascending = tt
front_ascends from (suc n) [] ascending = tt
front_ascends from (suc n) (place ∷ places) (later, (even, rest)) = (later, (even, front_ascends (place + 1) n places rest))

rest_ascends : (from n : ℕ) (places : List ℕ) → AreAscending from places → AreAscending 0 (drop n places)
rest_ascends from zero places ascending = sooner from places ascending
rest_ascends from (suc n) [] ascending = tt
rest_ascends from (suc n) (place ∷ places) (later, (even, rest)) = rest_ascends (place + 1) n places rest

whole_again : (n : ℕ) (places : List ℕ) → take n places ++ drop n places ≡ places
whole_again zero places = refl
whole_again (suc n) [] = refl
whole_again (suc n) (place ∷ places) = ap (λ ps. place ∷ ps) (whole_again n places)

-- The words

abbrev steps : Option ℕ → List ℕ → ℕ
steps None places = 2 * length places
steps (Some base) places = 2 * length places + 1

abbrev Begins : Option ℕ → ℕ → Type 0
Begins None next = ⊤
Begins (Some base) next = next ≡ base

named : (most : ℕ) (base : Option ℕ) (places : List ℕ) (next : ℕ) → steps base places ≤ most → Begins base next → AreAscending 0 places
    → NamePlaces next (words_within most base places) places
named zero None [] next enough begins ascending = no_more next
named zero None (place ∷ places) next enough begins ascending = absurd (omega (arith, enough))
named zero (Some base) places next enough begins ascending = absurd (omega (arith, enough))
named (suc most) None [] next enough begins ascending = no_more next
named (suc most) None (place ∷ places) next enough begins (later, (even, rest)) =
    names_place next place (words_within most (Some (place + 8)) places) places even
    (named most (Some (place + 8)) places (place + 8) (omega (arith, enough)) refl (sooner (place + 1) places rest))
named (suc most) (Some base) places next enough begins ascending =
    let count = mapped_count base places in
    let front = take count places in
    let behind = drop count places in
    let is = counted base places in
    let few = prefix_len-le-length (is_in_map base) places in
    let left = length-drop count places in
    let inside : InMap base front = subst (λ n. InMap base (take n places)) (sym is) (front_inside base places) in
    let P : Bool → Type 0 = λ none. (count == 0) ≡ none
    → NamePlaces next (if none then words_within most None places else map_of base front ∷ words_within most (Some (base + 504)) behind) places in
    let some : (count == 0) ≡ false → NamePlaces next (map_of base front ∷ words_within most (Some (base + 504)) behind) places = λ positive.
    let above : 0 < count = not_none count positive in
    let rest = named most (Some (base + 504)) behind (next + 504) (omega (arith, enough, is, few, left, above)) (ap (λ n. n + 504) begins) (rest_ascends 0 count places ascending) in
    let bits = names_bits next (map_of base front) (words_within most (Some (base + 504)) behind) behind (map_odd base front inside) rest in
    let same : map (λ i. next + 8 * (i - 1)) (bits_of (map_of base front)) ≡ front
    = ap (λ n. map (λ i. n + 8 * (i - 1)) (bits_of (map_of base front))) begins
    ∙ ap (map (λ i. base + 8 * (i - 1))) (map_bits base 0 front inside (front_ascends 0 count places ascending)) ∙ back base front inside in
    subst (λ ps. NamePlaces next (map_of base front ∷ words_within most (Some (base + 504)) behind) ps) (ap (λ ps. ps ++ behind) same ∙ whole_again count places) bits in
    let cases : (none : Bool) → P none = λ none. elim none as P [
      | true ↦ λ _. named most None places next (omega (arith, enough)) tt ascending
      | false ↦ some
    ] in
    cases (count == 0) refl
  where
    not_none : (n : ℕ) → (n == 0) ≡ false → 0 < n
    not_none n positive = grind (arith, nat_tests)

pub read_back : (places : List ℕ) → AreAscending 0 places → NamePlaces 0 (relr_words places) places
unfolding relr_words
read_back places ascending = named (2 * length places) None places 0 (omega arith) tt ascending
