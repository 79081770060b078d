-- Doublewords of which the first ones and the last ones are kept: what is found there, and what is put there.
use Rattle.std.proofs.Common.{◌≡◌, ◌⊎◌, inl, inr, ℕ, suc, ◌+◌, ◌-◌, ◌/◌, ◌<◌, ◌≤◌, Bool, false, cond, leb, ltb, ◌&&◌, List, [], ◌∷◌, ◌++◌, length, get_or, refl, sym, ap, ◌∙◌, append_assoc, arith}
use Rattle.std.specs.Prelude.{slice_index_or, slice_set}
use Rattle.std.specs.Vec.{vec_len}
use Rattle.std.proofs.Math.ListN.{replicate, set}
use Rattle.std.proofs.lemmas.Bool.{cases_lt, le-leb, le-ltb, lt-ltb}
use Rattle.std.proofs.lemmas.List.{get_or-append_right, get_or-replicate, get_or_append_left, get_or_default, get_or_past, length-append, length-replicate, length-set, replicate-append-replicate, set-append_left, set-append_right, set-get_or, set_past}
use Rattle.history_memory.specs.Memory.{IsDoubleword}
use Rattle.rv_hart.specs.Doublewords.{nowhere, with_word_at, word_at}
use Rattle.rv_hart.specs.declared.doubleword.Doubleword.{Doubleword}
use Rattle.world_memory.specs.Front.{front_count, nowheres, spread, spread_over}
use Rattle.world_memory.specs.Inside.{IsKept, words_of}
use Rattle.world_memory.specs.Pages.{linkers_word}
use Rattle.world_memory.specs.declared.memory.PlainMemory.TheInside.{Inside}
use Rattle.world_turns.specs.Lemmas.Words.{found_at}
use Rattle.world_turns.specs.Memory.{AreFresh, doubleword, fresh_word, lowest, word_count}

length_nowheres : (count : ℕ) → length (nowheres count) ≡ count
unfolding nowheres
length_nowheres count = length-replicate count nowhere

pub no_nowheres : (xs : List Doubleword) → xs ≡ xs ++ nowheres 0
unfolding nowheres
no_nowheres [] = refl
no_nowheres (x ∷ xs) = ap (λ (t : List Doubleword). x ∷ t) (no_nowheres xs)

pub one_nowhere_more : (xs : List Doubleword) (count : ℕ) → (xs ++ nowheres count) ++ nowhere ∷ [] ≡ xs ++ nowheres (count + 1)
unfolding nowheres
one_nowhere_more xs count =
    append_assoc xs (replicate count nowhere) (nowhere ∷ [])
    ∙ ap (λ (t : List Doubleword). xs ++ t) (replicate-append-replicate count 1 nowhere)

module _ (n : ℕ) (front page : List Doubleword) (few : length front ≤ n) where
  behind : List Doubleword
  behind = nowheres (n - length front) ++ page

  is_spread : spread_over n front page ≡ front ++ (nowheres (n - length front) ++ page)
  unfolding spread_over
  is_spread = refl

  pub length_spread : length (spread_over n front page) ≡ n + length page
  length_spread =
      let all : length (front ++ (nowheres (n - length front) ++ page)) ≡ length front + length (nowheres (n - length front) ++ page) =
      length-append front (nowheres (n - length front) ++ page) in
      let back : length (nowheres (n - length front) ++ page) ≡ length (nowheres (n - length front)) + length page = length-append (nowheres (n - length front)) page in
      let between : length (nowheres (n - length front)) ≡ n - length front = length_nowheres (n - length front) in
      let same : length (spread_over n front page) ≡ length (front ++ (nowheres (n - length front) ++ page)) = ap (λ (ws : List Doubleword). length ws) is_spread in
      omega (arith, all, back, between, same, few)

  -- ---- found

  pub found_in_front : (i : ℕ) → i < length front → get_or (spread_over n front page) i nowhere ≡ get_or front i nowhere
  found_in_front i inside =
      ap (λ (ws : List Doubleword). get_or ws i nowhere) is_spread ∙ get_or_append_left front (nowheres (n - length front) ++ page) nowhere i inside

  found_behind : (i : ℕ) → length front ≤ i → get_or (spread_over n front page) i nowhere ≡ get_or (nowheres (n - length front) ++ page) (i - length front) nowhere
  found_behind i out =
      ap (λ (ws : List Doubleword). get_or ws i nowhere) is_spread
      ∙ get_or-append_right front (nowheres (n - length front) ++ page) (length front) i nowhere refl out

  pub found_between : (i : ℕ) → length front ≤ i → i < n → get_or (spread_over n front page) i nowhere ≡ nowhere
  unfolding nowheres
  found_between i out inside =
      found_behind i out
      ∙ get_or_append_left (replicate (n - length front) nowhere) page nowhere (i - length front)
      (let all : length (replicate (n - length front) nowhere) ≡ n - length front = length-replicate (n - length front) nowhere in omega (arith, all, out, inside))
      ∙ get_or-replicate (n - length front) (i - length front) nowhere nowhere (omega (arith, out, inside))

  pub found_in_page : (i : ℕ) → n ≤ i → get_or (spread_over n front page) i nowhere ≡ get_or page (i - n) nowhere
  found_in_page i out =
      found_behind i (omega (arith, few, out))
      ∙ get_or-append_right (nowheres (n - length front)) page (n - length front) (i - length front) nowhere (length_nowheres (n - length front)) (omega (arith, few, out))
      ∙ ap (λ (k : ℕ). get_or page k nowhere) (let k : (i - length front) - (n - length front) ≡ i - n = omega (arith, few, out) in k)

  -- ---- put

  pub put_in_front : (i : ℕ) (word : Doubleword) → i < length front → spread_over n (set front i word) page ≡ set (spread_over n front page) i word
  unfolding spread_over
  put_in_front i word inside =
      ap (λ (k : ℕ). set front i word ++ (nowheres (n - k) ++ page)) (length-set front i word)
      ∙ sym (set-append_left front (nowheres (n - length front) ++ page) i word inside)

  pub put_in_page : (i : ℕ) (word : Doubleword) → n ≤ i → spread_over n front (set page (i - n) word) ≡ set (spread_over n front page) i word
  unfolding spread_over
  put_in_page i word out = sym (
      set-append_right front (nowheres (n - length front) ++ page) (length front) i word refl (omega (arith, few, out))
      ∙ ap (λ (t : List Doubleword). front ++ t)
      (set-append_right (nowheres (n - length front)) page (n - length front) (i - length front) word (length_nowheres (n - length front)) (omega (arith, few, out))
      ∙ ap (λ (k : ℕ). nowheres (n - length front) ++ set page k word) (let k : (i - length front) - (n - length front) ≡ i - n = omega (arith, few, out) in k)))

  pub put_nothing : (i : ℕ) (word : Doubleword) → length front ≤ i → i < n → word ≡ nowhere → spread_over n front page ≡ set (spread_over n front page) i word
  put_nothing i word out inside none =
      sym (set-get_or (spread_over n front page) i nowhere)
      ∙ ap (λ (w : Doubleword). set (spread_over n front page) i w) (found_between i out inside ∙ sym none)

  -- one among those without a role
  among : (k m : ℕ) (word : Doubleword) → k < m → set (nowheres m) k word ≡ nowheres k ++ (word ∷ nowheres (m - (k + 1)))
  unfolding nowheres
  among k m word inside =
      ap (λ (xs : List Doubleword). set xs k word) (sym parts)
      ∙ set-append_right (replicate k nowhere) (nowhere ∷ replicate (m - (k + 1)) nowhere) k k word (length-replicate k nowhere) (omega arith)
      ∙ ap (λ (j : ℕ). replicate k nowhere ++ set (nowhere ∷ replicate (m - (k + 1)) nowhere) j word) (let none : k - k ≡ 0 = omega arith in none)
    where
      parts : replicate k nowhere ++ (nowhere ∷ replicate (m - (k + 1)) nowhere) ≡ replicate m nowhere
      parts =
          replicate-append-replicate k (suc (m - (k + 1))) nowhere
          ∙ ap (λ (j : ℕ). replicate j nowhere) (let all : k + suc (m - (k + 1)) ≡ m = omega (arith, inside) in all)

  pub put_between : (i : ℕ) (word : Doubleword) → length front ≤ i → i < n
      → spread_over n ((front ++ nowheres (i - length front)) ++ word ∷ []) page ≡ set (spread_over n front page) i word
  unfolding spread_over
  put_between i word out inside = sym (
      set-append_right front (nowheres (n - length front) ++ page) (length front) i word refl out
      ∙ ap (λ (t : List Doubleword). front ++ t)
      (set-append_left (nowheres (n - length front)) page (i - length front) word
      (let all : length (nowheres (n - length front)) ≡ n - length front = length_nowheres (n - length front) in omega (arith, all, out, inside))
      ∙ ap (λ (t : List Doubleword). t ++ page) (among (i - length front) (n - length front) word (omega (arith, out, inside))))
      ∙ regrouped front (nowheres (i - length front)) (nowheres ((n - length front) - ((i - length front) + 1))) page
      ∙ ap (λ (k : ℕ). ((front ++ nowheres (i - length front)) ++ word ∷ []) ++ (nowheres k ++ page)) left)
    where
      regrouped : (xs ys zs ws : List Doubleword) → xs ++ ((ys ++ (word ∷ zs)) ++ ws) ≡ ((xs ++ ys) ++ word ∷ []) ++ (zs ++ ws)
      regrouped xs ys zs ws = simp append_assoc

      left : (n - length front) - ((i - length front) + 1) ≡ n - length ((front ++ nowheres (i - length front)) ++ word ∷ [])
      left =
          let all : length ((front ++ nowheres (i - length front)) ++ word ∷ []) ≡ length (front ++ nowheres (i - length front)) + 1 =
          length-append (front ++ nowheres (i - length front)) (word ∷ []) in
          let some : length (front ++ nowheres (i - length front)) ≡ length front + length (nowheres (i - length front)) = length-append front (nowheres (i - length front)) in
          let between : length (nowheres (i - length front)) ≡ i - length front = length_nowheres (i - length front) in
          omega (arith, all, some, between, out, inside)

-- ---- by address

-- an index is that of an address
pub record IsIndex (address k : ℕ) : Type 0 where
  pub above : lowest ≤ address → k ≡ (address - lowest) / 8
  pub below : address < lowest → word_count ≤ k

pub found_by : (words : List Doubleword) (address index : ℕ) → length words ≡ word_count → IsIndex address index
    → get_or words index nowhere ≡ word_at lowest words address
found_by words address index whole is = at (cases_lt address lowest)
  where
    at : (address < lowest) ⊎ (lowest ≤ address) → get_or words index nowhere ≡ word_at lowest words address
    at (inl low) =
        get_or_past words index nowhere (let count : length words ≡ 0x100000 = whole in let out : 0x100000 ≤ index = is.below low in omega (arith, count, out))
        ∙ sym (ap (λ (t : Bool). cond t nowhere (slice_index_or words ((address - lowest) / 8) nowhere)) (lt-ltb address lowest low))
    at (inr high) =
        ap (λ (k : ℕ). get_or words k nowhere) (is.above high)
        ∙ sym (ap (λ (t : Bool). cond t nowhere (slice_index_or words ((address - lowest) / 8) nowhere)) (le-ltb address lowest high))

pub put_by : (words new : List Doubleword) (address index : ℕ) (word : Doubleword) → length words ≡ word_count → IsIndex address index
    → new ≡ set words index word → new ≡ with_word_at lowest words address word
put_by words new address index word whole is put = at (cases_lt address lowest)
  where
    at : (address < lowest) ⊎ (lowest ≤ address) → new ≡ with_word_at lowest words address word
    at (inl low) =
        put
        ∙ set_past words index word (let count : length words ≡ 0x100000 = whole in let out : 0x100000 ≤ index = is.below low in omega (arith, count, out))
        ∙ sym (ap (λ (t : Bool). cond t words (slice_set words ((address - lowest) / 8) word)) (lt-ltb address lowest low))
    at (inr high) =
        put
        ∙ ap (λ (k : ℕ). set words k word) (is.above high)
        ∙ sym (ap (λ (t : Bool). cond t words (slice_set words ((address - lowest) / 8) word)) (le-ltb address lowest high))

-- ---- before startup

pub are_fresh : (n : ℕ) (front page : List Doubleword) → n ≡ 0xffe00 → front ≡ [] → length page ≡ 512 → ((k : ℕ) → k < 512 → get_or page k nowhere ≡ linkers_word)
    → AreFresh (spread_over n front page)
are_fresh n front page all none whole words = record { all = count; each = each }
  where
    empty : length front ≡ 0
    empty = ap (λ (ws : List Doubleword). length ws) none

    few : length front ≤ n
    few = omega (arith, empty)

    count : length (spread_over n front page) ≡ word_count
    count = let long : length (spread_over n front page) ≡ n + length page = length_spread n front page few in omega (arith, long, whole, all)

    by : (a : ℕ) → IsDoubleword a → ((a - lowest) / 8 < n) ⊎ (n ≤ (a - lowest) / 8) → get_or (spread_over n front page) ((a - lowest) / 8) nowhere ≡ fresh_word a
    by a is (inl inside) =
        found_between n front page few ((a - lowest) / 8) (omega (arith, empty)) inside
        ∙ sym (ap (λ (t : Bool). cond (t && ltb a 0x810000) linkers_word nowhere)
        (le-leb-false a (let from : 0x10000 ≤ a = is.low in let up : (a - 0x10000) / 8 < n = inside in omega (arith, from, up, all))))
      where
        le-leb-false : (b : ℕ) → b < 0x80f000 → leb 0x80f000 b ≡ false
        le-leb-false b low = grind (arith, low)
    by a is (inr out) =
        found_in_page n front page few ((a - lowest) / 8) out
        ∙ words ((a - lowest) / 8 - n) (let to : a < 0x810000 = is.high in let up : n ≤ (a - 0x10000) / 8 = out in omega (arith, to, up, all))
        ∙ sym (ap (λ (t : Bool). cond (t && ltb a 0x810000) linkers_word nowhere) (le-leb 0x80f000 a (let from : 0x10000 ≤ a = is.low in let up : n ≤ (a - 0x10000) / 8 = out in omega (arith, from, up, all)))
        ∙ ap (λ (t : Bool). cond t linkers_word nowhere) (lt-ltb a 0x810000 is.high))

    each : (a : ℕ) → IsDoubleword a → doubleword (spread_over n front page) a ≡ fresh_word a
    each a is = found_at (spread_over n front page) a is ∙ by a is (cases_lt ((a - lowest) / 8) n)

-- ---- memory as it is kept

module _ (m : Inside) (kept : IsKept m) where
  front_long : length m.front.items ≡ vec_len m.front
  front_long = sym m.front.ok.0

  page_long : length m.page.items ≡ vec_len m.page
  page_long = sym m.page.ok.0

  few : length m.front.items ≤ front_count
  few = let most : vec_len m.front ≤ front_count = kept.few in let long = front_long in omega (arith, most, long)

  pub whole_words : length (words_of m) ≡ word_count
  whole_words =
      let all : length (words_of m) ≡ front_count + length m.page.items = length_spread front_count m.front.items m.page.items few in
      let long = page_long in
      let page : vec_len m.page ≡ 512 = kept.page in
      omega (arith, all, long, page)

  module _ (address index : ℕ) (is : IsIndex address index) where
    found : (x : Doubleword) → get_or (words_of m) index nowhere ≡ x → x ≡ word_at lowest (words_of m) address
    found x at = sym at ∙ found_by (words_of m) address index whole_words is

    pub in_front : (x : Doubleword) → index < vec_len m.front → x ≡ get_or m.front.items index x → x ≡ word_at lowest (words_of m) address
    in_front x inside is_x =
        let long = front_long in
        let within : index < length m.front.items = omega (arith, long, inside) in
        found x (found_in_front front_count m.front.items m.page.items few index within ∙ get_or_default m.front.items index nowhere x within ∙ sym is_x)

    pub in_between : vec_len m.front ≤ index → index < front_count → nowhere ≡ word_at lowest (words_of m) address
    in_between out inside =
        let long = front_long in
        found nowhere (found_between front_count m.front.items m.page.items few index (omega (arith, long, out)) inside)

    pub in_page : (x : Doubleword) → front_count ≤ index → index - front_count < vec_len m.page → x ≡ get_or m.page.items (index - front_count) x → x ≡ word_at lowest (words_of m) address
    in_page x out inside is_x =
        let long = page_long in
        let within : index - front_count < length m.page.items = omega (arith, long, inside) in
        found x (found_in_page front_count m.front.items m.page.items few index out ∙ get_or_default m.page.items (index - front_count) nowhere x within ∙ sym is_x)

    pub past_all : front_count ≤ index → vec_len m.page ≤ index - front_count → nowhere ≡ word_at lowest (words_of m) address
    past_all out past =
        let long = page_long in
        found nowhere (found_in_page front_count m.front.items m.page.items few index out ∙ get_or_past m.page.items (index - front_count) nowhere (omega (arith, long, past)))

    module _ (word : Doubleword) where
      pub put_front : index < vec_len m.front → spread (slice_set m.front.items index word) m.page.items ≡ with_word_at lowest (words_of m) address word
      put_front inside =
          let long = front_long in
          put_by (words_of m) (spread (slice_set m.front.items index word) m.page.items) address index word whole_words is
          (put_in_front front_count m.front.items m.page.items few index word (omega (arith, long, inside)))

      pub put_page : front_count ≤ index → spread m.front.items (slice_set m.page.items (index - front_count) word) ≡ with_word_at lowest (words_of m) address word
      put_page out =
          put_by (words_of m) (spread m.front.items (slice_set m.page.items (index - front_count) word)) address index word whole_words is
          (put_in_page front_count m.front.items m.page.items few index word out)

      pub put_past : front_count ≤ index → vec_len m.page ≤ index - front_count → words_of m ≡ with_word_at lowest (words_of m) address word
      put_past out past =
          put_by (words_of m) (words_of m) address index word whole_words is
          (sym (set_past (words_of m) index word
          (let all : length (words_of m) ≡ word_count = whole_words in let page : vec_len m.page ≡ 512 = kept.page in omega (arith, all, page, out, past))))
