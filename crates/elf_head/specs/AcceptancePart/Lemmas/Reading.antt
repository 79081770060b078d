-- What a reading says, as a relation.
use Rattle.std.proofs.Common.{◌≡◌, ℕ, zero, suc, ◌+◌, ◌-◌, ◌<◌, Bool, true, false, not, List, [], ◌∷◌, ◌++◌, length, take, drop, Option, Some, None, Result, Ok, Err, refl, sym, ◌∙◌, ap, ◌⊎◌, append_assoc, arith, inl, inr, length-append}
use Rattle.std.specs.Prelude.{option_map}
use Rattle.std.specs.Option.{ok_or}
use Rattle.std.specs.List.{slice_get, AllPass, position_or_len}
use Rattle.std.proofs.Math.Seq.{take-append-add}
use Rattle.std.proofs.lemmas.Bool.{cases_Bool, cases_lt, lt-ltb, le-ltb}
use Rattle.std.proofs.lemmas.List.{take-append-drop, length-take, nil_from_length}
use Rattle.elf_head.specs.AcceptancePart.Before.{before, StandsBefore}
use Rattle.elf_head.specs.AcceptancePart.Entries.{◌>>=◌, entries_of, AreEntries}

-- ---- what stands before a mark

before-cons_mark : {X : Type 0} (p : X → Bool) (x : X) (xs : List X) → p x ≡ true → before p (x ∷ xs) ≡ Some []
before-cons_mark p x xs marked = rw (marked, lt-ltb 0 (suc (length xs)) (omega arith)) refl

before-cons : {X : Type 0} (p : X → Bool) (x : X) (xs : List X) → p x ≡ false → before p (x ∷ xs) ≡ option_map (λ front. x ∷ front) (before p xs)
before-cons p x xs unmarked =
    let n = position_or_len p xs in
    let one : 1 + n ≡ suc n = omega arith in
    elim (cases_lt n (length xs)) [
      | inl lt ↦ rw (unmarked, one, lt-ltb (suc n) (suc (length xs)) (omega arith), lt-ltb n (length xs) lt) refl
      | inr le ↦ rw (unmarked, one, le-ltb (suc n) (suc (length xs)) (omega arith), le-ltb n (length xs) le) refl
    ]

some_is : {X : Type 0} (x y : X) → Some x ≡ Some y → x ≡ y
some_is x y e = cc

pass-cons : {X : Type 0} (p : X → Bool) (x : X) (xs : List X) → p x ≡ true → AllPass p xs → AllPass p (x ∷ xs)
pass-cons p x xs one rest zero d lt = one
pass-cons p x xs one rest (suc k) d lt = rest k d (omega arith)

pass-tail : {X : Type 0} (p : X → Bool) (x : X) (xs : List X) → AllPass p (x ∷ xs) → AllPass p xs
pass-tail p x xs all k d lt = all (suc k) d (omega arith)

stands_after : {X : Type 0} (p : X → Bool) (x : X) (xs front : List X) → p x ≡ false → ((rest : List X) → before p xs ≡ Some rest → StandsBefore p rest xs) → (o : Option (List X)) → before p xs ≡ o → option_map (λ rest. x ∷ rest) o ≡ Some front → StandsBefore p front (x ∷ xs)
stands_after p x xs front unmarked ih None is e = absurd cc
stands_after p x xs front unmarked ih (Some rest) is e =
    let s = ih rest is in
    let front-is : x ∷ rest ≡ front = some_is (x ∷ rest) front e in
    rw (← front-is) (record { mark = s.mark; rest = s.rest; parts = ap (λ ys. x ∷ ys) s.parts; marked = s.marked; unmarked = pass-cons (λ y. not (p y)) x rest (rw unmarked refl) s.unmarked })

pub stands_from-before : {X : Type 0} (p : X → Bool) (xs front : List X) → before p xs ≡ Some front → StandsBefore p front xs
stands_from-before p [] front e = absurd cc
stands_from-before p (x ∷ xs) front e =
    elim (cases_Bool (p x)) [
      | inl marked ↦
          let nil : [] ≡ front = some_is [] front (sym (before-cons_mark p x xs marked) ∙ e) in
          rw (← nil) (record { mark = x; rest = xs; parts = refl; marked = marked; unmarked = λ k d lt. absurd (omega arith) })
      | inr unmarked ↦ stands_after p x xs front unmarked (stands_from-before p xs) (before p xs) refl (sym (before-cons p x xs unmarked) ∙ e)
    ]

before_parts : {X : Type 0} (p : X → Bool) (front : List X) (mark : X) (rest : List X) → p mark ≡ true → AllPass (λ x. not (p x)) front → before p (front ++ mark ∷ rest) ≡ Some front
before_parts p [] mark rest marked unmarked = before-cons_mark p mark rest marked
before_parts p (x ∷ front) mark rest marked unmarked =
    let first : not (p x) ≡ true = unmarked 0 x (omega arith) in
    let one : p x ≡ false = not_is (p x) first in
    rw (before-cons p x (front ++ mark ∷ rest) one, before_parts p front mark rest marked (pass-tail (λ y. not (p y)) x front unmarked)) refl
  where
    not_is : (b : Bool) → not b ≡ true → b ≡ false
    not_is true e = absurd cc
    not_is false e = refl

pub before_from-stands : {X : Type 0} (p : X → Bool) (xs front : List X) → StandsBefore p front xs → before p xs ≡ Some front
before_from-stands p xs front s = rw s.parts (before_parts p front s.mark s.rest s.marked s.unmarked)

-- what stands before a mark among the first n elements is shorter than n
pub stands_within : {X : Type 0} (p : X → Bool) (n : ℕ) (xs front : List X) → StandsBefore p front (take n xs) → StandsBefore p front xs × (length front < n)
stands_within p n xs front s =
    let whole : xs ≡ front ++ s.mark ∷ (s.rest ++ drop n xs) = sym (take-append-drop n xs) ∙ ap (λ ys. ys ++ drop n xs) s.parts ∙ append_assoc front (s.mark ∷ s.rest) (drop n xs) in
    let total : length (take n xs) ≡ length front + suc (length s.rest) = ap length s.parts ∙ length-append front (s.mark ∷ s.rest) in
    (record { mark = s.mark; rest = s.rest ++ drop n xs; parts = whole; marked = s.marked; unmarked = s.unmarked }, omega (arith, length-take n xs))

pub stands_take : {X : Type 0} (p : X → Bool) (n : ℕ) (xs front : List X) → StandsBefore p front xs → length front < n → StandsBefore p front (take n xs)
stands_take p n xs front s lt =
    let k : n ≡ length front + suc (n - length front - 1) = omega arith in
    let part : take n xs ≡ front ++ s.mark ∷ take (n - length front - 1) s.rest = rw s.parts (ap (λ m. take m (front ++ s.mark ∷ s.rest)) k ∙ take-append-add front (s.mark ∷ s.rest) (suc (n - length front - 1))) in
    record { mark = s.mark; rest = take (n - length front - 1) s.rest; parts = part; marked = s.marked; unmarked = s.unmarked }

-- ---- tables whose entries may fail

-- the value of a step that did not fail
pub bind_ok : {A B E : Type 0} (r : Result A E) (f : A → Result B E) (y : B) → (r >>= f) ≡ Ok y → (x : A) × (r ≡ Ok x) × (f x ≡ Ok y)
bind_ok (Ok x) f y e = (x, refl, e)
bind_ok (Err d) f y e = absurd cc

-- a step that failed, or one after it
pub bind_err : {A B E : Type 0} (r : Result A E) (f : A → Result B E) (e : E) → (r >>= f) ≡ Err e → (r ≡ Err e) ⊎ ((x : A) × (r ≡ Ok x) × (f x ≡ Err e))
bind_err (Ok x) f e err = inr (x, refl, err)
bind_err (Err d) f e err = inl cc

pub slice_get-front : {X : Type 0} (xs : List X) (last : X) (i : ℕ) (x : X) → slice_get xs i ≡ Some x → slice_get (xs ++ last ∷ []) i ≡ Some x
slice_get-front [] last i x e = absurd cc
slice_get-front (y ∷ ys) last zero x e = e
slice_get-front (y ∷ ys) last (suc i) x e = slice_get-front ys last i x e

pub slice_get-snoc : {X : Type 0} (xs : List X) (last : X) (i : ℕ) (x : X) → slice_get (xs ++ last ∷ []) i ≡ Some x → (slice_get xs i ≡ Some x) ⊎ ((i ≡ length xs) × (last ≡ x))
slice_get-snoc [] last zero x e = inr (refl, some_is last x e)
slice_get-snoc [] last (suc i) x e = absurd cc
slice_get-snoc (y ∷ ys) last zero x e = inl e
slice_get-snoc (y ∷ ys) last (suc i) x e =
    elim (slice_get-snoc ys last i x e) [ inl before ↦ inl before | inr (at, is) ↦ inr (ap suc at, is) ]

pub slice_get-last : {X : Type 0} (xs : List X) (last : X) → slice_get (xs ++ last ∷ []) (length xs) ≡ Some last
slice_get-last [] last = refl
slice_get-last (y ∷ ys) last = slice_get-last ys last

split_last : {X : Type 0} (n : ℕ) (xs : List X) → length xs ≡ suc n → (front : List X) × (last : X) × (xs ≡ front ++ last ∷ []) × (length front ≡ n)
split_last n [] len = absurd (omega arith)
split_last zero (x ∷ xs) len = ([], x, ap (λ ys. x ∷ ys) (nil_from_length xs (omega arith)), refl)
split_last (suc n) (x ∷ xs) len =
    let s = split_last n xs (omega arith) in
    (x ∷ s.0, s.1, ap (λ ys. x ∷ ys) s.2, ap suc s.3)

-- a value that was read
abbrev pub done : {X : Type 0} (E : Type 0) → X → Result X E
done E x = Ok x

pub ok_is : {X : Type 0} (E : Type 0) (x y : X) → done E x ≡ done E y → x ≡ y
ok_is E x y e = cc

pub entries_from-read : {X E : Type 0} (entry : ℕ → Result X E) (n : ℕ) (xs : List X) → entries_of entry n ≡ Ok xs → AreEntries (λ i x. entry i ≡ Ok x) n xs
entries_from-read {X} {E} entry zero xs e =
    let nil : [] ≡ xs = ok_is E [] xs e in
    rw (← nil) (record { count = refl; each = λ i x at. absurd cc })
entries_from-read {X} {E} entry (suc n) xs e =
    let f = bind_ok (entries_of entry n) (λ (front : List X). entry n >>= λ last. Ok (front ++ last ∷ [])) xs e in
    let l = bind_ok (entry n) (λ (last : X). done E (f.0 ++ last ∷ [])) xs f.2 in
    let front = f.0 in
    let last = l.0 in
    let are = entries_from-read entry n front f.1 in
    let xs-is : front ++ last ∷ [] ≡ xs = ok_is E (front ++ last ∷ []) xs l.2 in
    rw (← xs-is) (record {
      count = omega (arith, length-append front (last ∷ []), are.count);
      each = λ i x at. elim (slice_get-snoc front last i x at) [
        | inl before ↦ are.each i x before
        | inr (end, is) ↦ rw (end, are.count, ← is) l.1
      ];
    })

slice_get-end : {X : Type 0} (xs front : List X) (last : X) (n : ℕ) → xs ≡ front ++ last ∷ [] → length front ≡ n → slice_get xs n ≡ Some last
slice_get-end xs front last n parts len = rw (parts, ← len) (slice_get-last front last)

read_last : {X E : Type 0} (entry : ℕ → Result X E) (n : ℕ) (xs front : List X) (last : X) → xs ≡ front ++ last ∷ [] → entries_of entry n ≡ Ok front → entry n ≡ Ok last → entries_of entry (suc n) ≡ Ok xs
read_last entry n xs front last parts begins ends = rw (begins, ends, parts) refl

pub read_from-entries : {X E : Type 0} (entry : ℕ → Result X E) (n : ℕ) (xs : List X) → AreEntries (λ i x. entry i ≡ Ok x) n xs → entries_of entry n ≡ Ok xs
read_from-entries entry zero xs are = rw (nil_from_length xs are.count) refl
read_from-entries {X} {E} entry (suc n) xs are =
    let s = split_last n xs are.count in
    let front = s.0 in
    let last = s.1 in
    let begins : entries_of entry n ≡ Ok front = read_from-entries entry n front (record { count = s.3; each = λ i x at. are.each i x (rw s.2 (slice_get-front front last i x at)) }) in
    let ends : entry n ≡ Ok last = are.each n last (slice_get-end xs front last n s.2 s.3) in
    read_last entry n xs front last s.2 begins ends

-- entries of which more is said
pub entries_map : {X : Type 0} (R S : ℕ → X → Type 0) (n : ℕ) (xs : List X) → ((i : ℕ) (x : X) → R i x → S i x) → AreEntries R n xs → AreEntries S n xs
entries_map R S n xs f are = record { count = are.count; each = λ i x at. f i x (are.each i x at) }

-- ---- a string that has to be there

pub some_from-ok_or : {X E : Type 0} (o : Option X) (e : E) (x : X) → ok_or o e ≡ Ok x → o ≡ Some x
some_from-ok_or None e x is = absurd cc
some_from-ok_or (Some y) e x is = cc

pub ok_or-some : {X E : Type 0} (o : Option X) (e : E) (x : X) → o ≡ Some x → ok_or o e ≡ Ok x
ok_or-some o e x is = rw is refl
