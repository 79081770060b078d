-- Starts and packed words that stand a number of pages further.
use Rattle.std.proofs.Common.{◌≡◌, ◌∙◌, ap, sym, ℕ, zero, suc, ◌+◌, ◌-◌, ◌*◌, ◌%◌, ◌<◌, ◌==◌, Bool, true, false, if◌then◌else◌, nat_le, List, [], ◌∷◌, length, map, take, drop, refl, arith, slice_index, cond, min, length-take}
use Rattle.std.specs.Prelude.{Option, Some, None, option_map}
use Rattle.std.specs.List.{prefix_len}
use Rattle.std.proofs.Math.Nat.{mul-add-mod_self_right}
use Rattle.std.proofs.lemmas.Bool.Decides.{nat_tests}
use Rattle.asm_write.specs.declared.contents.Extent.{Extent}
use Rattle.asm_write.specs.Relr.{is_in_map, mapped_count, words_within, map_of, relr_words}
use Rattle.asm_write.specs.Starts.{padding, starts_from, page}

-- Starts

-- the alignment divides a page
abbrev pub Divides : ℕ → Type 0
Divides align = (times : ℕ) × (page ≡ times * align)

pub same_padding : (pages address align : ℕ) → Divides align → padding (pages * page + address) align ≡ padding address align
same_padding pages address align (times, is) =
    let product : pages * page ≡ pages * times * align = ap (λ n. pages * n) is ∙ omega arith in
    let rest : (pages * page + address) % align ≡ address % align = ap (λ n. (n + address) % align) product ∙ mul-add-mod_self_right (pages * times) align address in
    ap (λ n. if align == 0 then 0 else (align - n) % align) rest

-- how far behind a place parts start, as far as they do behind a multiple of a page
pub shifted : {X : Type 0} (extent : X → Extent) → ((x : X) → Divides (extent x).align) → (pages behind : ℕ) (xs : List X) (k : ℕ) → k < length xs
    → slice_index (starts_from (pages * page + behind) (map extent xs)) k ≡ pages * page + slice_index (starts_from behind (map extent xs)) k
shifted extent divides pages behind [] k inside = absurd (omega arith)
shifted extent divides pages behind (x ∷ xs) zero inside =
    let same = same_padding pages behind (extent x).align (divides x) in
    ap (λ n. pages * page + behind + n) same ∙ omega arith
shifted extent divides pages behind (x ∷ xs) (suc k) inside =
    let pad = padding behind (extent x).align in
    let same = same_padding pages behind (extent x).align (divides x) in
    let start : pages * page + behind + padding (pages * page + behind) (extent x).align + (extent x).size ≡ pages * page + (behind + pad + (extent x).size)
    = ap (λ n. pages * page + behind + n + (extent x).size) same ∙ omega arith in
    ap (λ n. slice_index (starts_from n (map extent xs)) k) start ∙ shifted extent divides pages (behind + pad + (extent x).size) xs k (omega arith)

-- Words of the packed table

pub same_test : (by base place : ℕ) → is_in_map (by + base) (by + place) ≡ is_in_map base place
same_test by base place =
    let order : nat_le (by + base) (by + place) ≡ nat_le base place = grind (arith, nat_tests) in
    let apart : by + place - (by + base) ≡ place - base = omega arith in
    rw (order, apart) refl

same_prefix : (by base : ℕ) (places : List ℕ) → prefix_len (is_in_map (by + base)) (map (λ place. by + place) places) ≡ prefix_len (is_in_map base) places
same_prefix by base [] = refl
same_prefix by base (place ∷ places) =
    rw (same_test by base place) (ap (λ n. cond (is_in_map base place) (1 + n) 0) (same_prefix by base places))

pub length_shifted : (by : ℕ) (places : List ℕ) → length (map (λ place. by + place) places) ≡ length places
length_shifted by [] = refl
length_shifted by (place ∷ places) = ap suc (length_shifted by places)

pub same_count : (by base : ℕ) (places : List ℕ) → mapped_count (by + base) (map (λ place. by + place) places) ≡ mapped_count base places
same_count by base places =
    let count = prefix_len (is_in_map base) places in
    rw (same_prefix by base places) (length-take count (map (λ place. by + place) places) ∙ ap (min count) (length_shifted by places) ∙ sym (length-take count places))

pub drop_shifted : (by n : ℕ) (places : List ℕ) → drop n (map (λ place. by + place) places) ≡ map (λ place. by + place) (drop n places)
drop_shifted by zero places = refl
drop_shifted by (suc n) [] = refl
drop_shifted by (suc n) (place ∷ places) = drop_shifted by n places

abbrev moved : ℕ → Option ℕ → Option ℕ
moved by base = option_map (λ n. by + n) base

pub same_words : (by most : ℕ) (base : Option ℕ) (places : List ℕ)
    → length (words_within most (moved by base) (map (λ place. by + place) places)) ≡ length (words_within most base places)
same_words by zero base places = refl
same_words by (suc most) None [] = refl
same_words by (suc most) None (place ∷ places) =
    let rest = same_words by most (Some (place + 8)) places in
    let start : by + place + 8 ≡ by + (place + 8) = omega arith in
    ap (λ n. suc (length (words_within most (Some n) (map (λ place. by + place) places)))) start ∙ ap suc rest
same_words by (suc most) (Some base) places =
    let shifted_places = map (λ place. by + place) places in
    let count = mapped_count base places in
    let none = same_words by most None places in
    let some = same_words by most (Some (base + 504)) (drop count places) in
    let start : by + base + 504 ≡ by + (base + 504) = omega arith in
    let behind : length (words_within most (Some (by + base + 504)) (drop count shifted_places)) ≡ length (words_within most (Some (base + 504)) (drop count places))
    = ap (λ n. length (words_within most (Some n) (drop count shifted_places))) start
    ∙ ap (λ ps. length (words_within most (Some (by + (base + 504))) ps)) (drop_shifted by count places) ∙ some in
    let P : Bool → Type 0 = λ is_none.
    length (if is_none then words_within most None shifted_places else map_of (by + base) (take count shifted_places) ∷ words_within most (Some (by + base + 504)) (drop count shifted_places))
    ≡ length (if is_none then words_within most None places else map_of base (take count places) ∷ words_within most (Some (base + 504)) (drop count places)) in
    let cases : (is_none : Bool) → P is_none = λ is_none. elim is_none as P [ true ↦ none | false ↦ ap suc behind ] in
    rw (same_count by base places) (cases (count == 0))

pub same_table : (by : ℕ) (places : List ℕ) → length (relr_words (map (λ place. by + place) places)) ≡ length (relr_words places)
unfolding relr_words
same_table by places = rw (length_shifted by places) (same_words by (2 * length places) None places)
