-- Doublewords that are remade one after another.
use Rattle.std.proofs.Common.{◌≡◌, ◌≢◌, ◌⊎◌, inl, inr, ⊎_elim, ℕ, ◌+◌, ◌-◌, ◌*◌, ◌/◌, ◌%◌, ◌^◌, ◌<◌, ◌≤◌, Bool, true, false, ◌&&◌, cond, eqb, leb, ltb, List, length, min, Some, refl, sym, ap, subst, ◌∙◌, arith}
use Rattle.std.specs.Prelude.{slice_set}
use Rattle.std.specs.List.{slice_get}
use Rattle.std.proofs.lemmas.Bool.{and_from, and_parts, cases_Bool, cases_lt, eq-eqb, eqb-true, le-leb, le-ltb, leb-true, lt-ltb, ltb-true, true≢false}
use Rattle.std.proofs.lemmas.List.{get_or-set_same}
use Rattle.std.proofs.lemmas.Option.{same_Some}
use Rattle.address_space.specs.Pages.{IsGuestRange}
use Rattle.history_event.specs.declared.event.Range.{Range}
use Rattle.history_state.specs.Memory.{covers, role_at, first_word_at}
use Rattle.history_state.specs.State.{State}
use Rattle.history_calls.specs.Served.{AreWordsOf}
use Rattle.history_memory.specs.Memory.{IsDoubleword, doubleword_of}
use Rattle.rv_hart.specs.Doublewords.{nowhere, with_word_at}
use Rattle.rv_hart.specs.declared.doubleword.Doubleword.{Doubleword}
use Rattle.seg_image.specs.declared.image.Word.{Word}
use Rattle.world_turns.specs.Lemmas.Words.{found_at, puts}
use Rattle.world_turns.specs.Memory.{doubleword, lowest, word_count}
use Rattle.world_memory.specs.Pages.{IsGuest, RemakesAt, word_over, released_word, reserved_word}

-- ---- addresses from one to another

abbrev pub between : ℕ → ℕ → ℕ → Bool
between from to a = leb from a && ltb a to

between_of : (from to a : ℕ) → between from to a ≡ true → (from ≤ a) × (a < to)
between_of from to a e = let parts = and_parts (leb from a) (ltb a to) e in (leb-true from a parts.0, ltb-true a to parts.1)

is_between : (from to a : ℕ) → from ≤ a → a < to → between from to a ≡ true
is_between from to a low high = and_from (leb from a) (ltb a to) (le-leb from a low) (lt-ltb a to high)

not_between : (from to a : ℕ) → between from to a ≡ false → from ≤ a → a < to → ⊥
not_between from to a e low high = true≢false (sym (is_between from to a low high) ∙ e)

outside : (from to a : ℕ) → (from ≤ a → a < to → ⊥) → between from to a ≡ false
outside from to a out = ⊎_elim
    (λ (t : between from to a ≡ true). let inside = between_of from to a t in absurd (out inside.0 inside.1))
    (λ (f : between from to a ≡ false). f)
    (cases_Bool (between from to a))

-- ---- one doubleword more

put_there : (words : List Doubleword) (a : ℕ) (word : Doubleword) → length words ≡ word_count → IsDoubleword a → doubleword (with_word_at lowest words a word) a ≡ word
put_there words a word whole is =
    ap (λ (t : Bool). doubleword (cond t words (slice_set words ((a - lowest) / 8) word)) a) (le-ltb a lowest low)
    ∙ found_at (slice_set words ((a - lowest) / 8) word) a is
    ∙ get_or-set_same words ((a - lowest) / 8) word nowhere inside
  where
    low : lowest ≤ a
    low = is.low

    inside : (a - lowest) / 8 < length words
    inside =
        let from : 0x10000 ≤ a = is.low in
        let to : a < 0x810000 = is.high in
        let count : length words ≡ 0x100000 = whole in
        omega (arith, from, to, count)

module _ (made : ℕ → Doubleword → Doubleword) (from k : ℕ) (old mid new : List Doubleword) (whole : length mid ≡ word_count) (aligned : from % 8 ≡ 0) (is : IsDoubleword (from + 8 * k))
    (put : new ≡ with_word_at lowest mid (from + 8 * k) (made (from + 8 * k) (doubleword mid (from + 8 * k)))) (front : RemakesAt (between from (from + 8 * k)) made old mid) where
  there : doubleword new (from + 8 * k) ≡ made (from + 8 * k) (doubleword old (from + 8 * k))
  there =
      ap (λ (ws : List Doubleword). doubleword ws (from + 8 * k)) put
      ∙ put_there mid (from + 8 * k) (made (from + 8 * k) (doubleword mid (from + 8 * k))) whole is
      ∙ ap (made (from + 8 * k)) (front.kept (from + 8 * k) is (outside from (from + 8 * k) (from + 8 * k) (λ low high. omega (arith, high))))

  others : (a : ℕ) → IsDoubleword a → a ≢ from + 8 * k → doubleword new a ≡ doubleword mid a
  others a there differs =
      ap (λ (ws : List Doubleword). doubleword ws a) put
      ∙ (puts mid (from + 8 * k) (made (from + 8 * k) (doubleword mid (from + 8 * k)))).others a there (λ e. differs (e ∙ own))
    where
      own : doubleword_of (from + 8 * k) ≡ from + 8 * k
      own = let divides : from % 8 ≡ 0 = aligned in omega (arith, divides)

  remade_by : (a : ℕ) → IsDoubleword a → from ≤ a → a < from + 8 * (k + 1) → (t : Bool) → eqb a (from + 8 * k) ≡ t → doubleword new a ≡ made a (doubleword old a)
  remade_by a within low high true e = subst (λ (b : ℕ). doubleword new b ≡ made b (doubleword old b)) (sym (eqb-true a (from + 8 * k) e)) there
  remade_by a within low high false e =
      others a within differs ∙ front.remade a within (is_between from (from + 8 * k) a low below)
    where
      differs : a ≢ from + 8 * k
      differs same = true≢false (sym (eq-eqb a (from + 8 * k) same) ∙ e)

      below : a < from + 8 * k
      below = let apart : a ≢ from + 8 * k = differs in let divides : from % 8 ≡ 0 = aligned in let whole_a : a % 8 ≡ 0 = within.whole in omega (arith, high, low, apart, divides, whole_a)

  pub one_more : RemakesAt (between from (from + 8 * (k + 1))) made old new
  one_more = record {
    all =
        ap (λ (ws : List Doubleword). length ws) put
        ∙ (puts mid (from + 8 * k) (made (from + 8 * k) (doubleword mid (from + 8 * k)))).all
        ∙ front.all;
    remade = λ a within e. let inside = between_of from (from + 8 * (k + 1)) a e in remade_by a within inside.0 inside.1 (eqb a (from + 8 * k)) refl;
    kept = λ a within e.
        let out : from ≤ a → a < from + 8 * (k + 1) → ⊥ = not_between from (from + 8 * (k + 1)) a e in
        others a within (λ same. out (omega (arith, same)) (omega (arith, same)))
        ∙ front.kept a within (outside from (from + 8 * k) a (λ low high. out low (omega (arith, high))));
  }

-- ---- the words of a range

module _ (r : Range) (guest : IsGuest r) (k : ℕ) (inside : k < 512 * r.pages) where
  range : IsGuestRange r.address r.pages
  range = guest (omega (arith, inside))

  starts_whole : r.address % 8 ≡ 0
  starts_whole = let divides : r.address % 4096 ≡ 0 = range.aligned in omega (arith, divides)

  is_doubleword : IsDoubleword (r.address + 8 * k)
  is_doubleword =
      let from : 0x10000 ≤ r.address = range.low in
      let to : r.address + 4096 * r.pages ≤ 0x80f000 = range.high in
      record { low = omega (arith, from); high = omega (arith, to, inside); whole = let divides : r.address % 8 ≡ 0 = starts_whole in omega (arith, divides) }

  unwrapped : (r.address + 8 * k) % 2 ^ 64 ≡ r.address + 8 * k
  unwrapped = let high : r.address + 8 * k < 0x810000 = is_doubleword.high in omega (arith, high)

pub one_released : (r : Range) (k a : ℕ) (old mid new : List Doubleword) → IsGuest r → k < 512 * r.pages → length mid ≡ word_count → a ≡ (r.address + 8 * k) % 2 ^ 64
    → new ≡ with_word_at lowest mid a (released_word a (doubleword mid a)) → RemakesAt (between r.address (r.address + 8 * k)) released_word old mid
    → RemakesAt (between r.address (r.address + 8 * (k + 1))) released_word old new
one_released r k a old mid new guest inside whole at put front =
    one_more released_word r.address k old mid new whole (starts_whole r guest k inside) (is_doubleword r guest k inside)
    (subst (λ (b : ℕ). new ≡ with_word_at lowest mid b (released_word b (doubleword mid b))) (at ∙ unwrapped r guest k inside) put) front

-- a range is as long as its pages
whole_range : (r : Range) (made : ℕ → Doubleword → Doubleword) (old new : List Doubleword) → RemakesAt (between r.address (r.address + 8 * (512 * r.pages))) made old new
    → RemakesAt (λ a. covers a r) made old new
whole_range r made old new remakes =
    subst (λ (to : ℕ). RemakesAt (between r.address to) made old new) (omega arith) remakes

pub one_reserved : (s : State) (r : Range) (start : ℕ) (words : List Word) (k a : ℕ) (word : Word) (old mid new : List Doubleword) → AreWordsOf s r (record { start = start; words = words }) → IsGuest r
    → k < length words → slice_get words k ≡ Some word → length mid ≡ word_count → a ≡ (start + 8 * k) % 2 ^ 64
    → new ≡ with_word_at lowest mid a (word_over word (doubleword mid a)) → RemakesAt (between r.address (r.address + 8 * k)) (reserved_word s) old mid
    → RemakesAt (between r.address (r.address + 8 * (k + 1))) (reserved_word s) old new
one_reserved s r start words k a word old mid new are guest within found whole at put front =
    one_more (reserved_word s) r.address k old mid new whole (starts_whole r guest k inside) (is_doubleword r guest k inside)
    (subst (λ (b : ℕ). new ≡ with_word_at lowest mid b (reserved_word s (r.address + 8 * k) (doubleword mid b))) here
    (put ∙ ap (λ (w : Word). with_word_at lowest mid a (word_over w (doubleword mid a))) same)) front
  where
    inside : k < 512 * r.pages
    inside = let count : length words ≡ 512 * r.pages = are.all in omega (arith, within, count)

    here : a ≡ r.address + 8 * k
    here = at ∙ ap (λ (n : ℕ). (n + 8 * k) % 2 ^ 64) are.start ∙ unwrapped r guest k inside

    same : word ≡ record { value = first_word_at s (r.address + 8 * k); role = role_at s (r.address + 8 * k) }
    same = same_Some word _ (sym found ∙ are.each k inside)

pub all_reserved : (s : State) (r : Range) (start : ℕ) (words : List Word) (k : ℕ) (old new : List Doubleword) → AreWordsOf s r (record { start = start; words = words }) → k ≤ length words → length words ≤ k
    → RemakesAt (between r.address (r.address + 8 * k)) (reserved_word s) old new → RemakesAt (λ a. covers a r) (reserved_word s) old new
all_reserved s r start words k old new are below above remakes =
    whole_range r (reserved_word s) old new (subst (λ (n : ℕ). RemakesAt (between r.address (r.address + 8 * n)) (reserved_word s) old new) count remakes)
  where
    count : k ≡ 512 * r.pages
    count = let all : length words ≡ 512 * r.pages = are.all in omega (arith, all, below, above)

-- guest memory has no more pages than this
few_pages : (r : Range) → IsGuest r → (0 < r.pages) ⊎ (r.pages ≤ 0) → r.pages ≤ 2048
few_pages r guest (inl some) =
    let range = guest some in
    let low : 0x10000 ≤ r.address = range.low in
    let high : r.address + 4096 * r.pages ≤ 0x80f000 = range.high in
    omega (arith, low, high)
few_pages r guest (inr none) = omega (arith, none)

pub all_released : (r : Range) (k few : ℕ) (old new : List Doubleword) → IsGuest r → few ≡ min r.pages 2048 → k ≤ 512 * few → 512 * few ≤ k
    → RemakesAt (between r.address (r.address + 8 * k)) released_word old new → RemakesAt (λ a. covers a r) released_word old new
all_released r k few old new guest is below above remakes =
    whole_range r released_word old new (subst (λ (n : ℕ). RemakesAt (between r.address (r.address + 8 * n)) released_word old new) count remakes)
  where
    count : k ≡ 512 * r.pages
    count = let most : r.pages ≤ 2048 = few_pages r guest (cases_lt 0 r.pages) in omega (arith, most, is, below, above)
