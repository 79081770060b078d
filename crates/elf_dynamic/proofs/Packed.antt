-- Packed relocations, one after the other.
use Rattle.std.proofs.Common.{◌≡◌, ap, sym, subst, refl, ℕ, suc, ◌+◌, ◌-◌, ◌*◌, ◌/◌, ◌%◌, ◌<◌, ◌≤◌, ◌==◌, Bool, true, false, ◌||◌, List, [], ◌∷◌, ◌++◌, length}
use Rattle.std.proofs.Common.{map, filter, add-one, add-zero, append_assoc, drop, drop-cons, length-append, arith}
use Rattle.std.specs.Prelude.{Some, if◌then◌else◌, nat_lt}
use Rattle.std.specs.List.{slice_get, list_any, range_with_len}
use Rattle.std.proofs.lemmas.Bool.Decides.{nat_tests}
use Rattle.std.proofs.lemmas.List.{append-nil, map-append}
use Rattle.std.proofs.lemmas.Option.{get_or_from_slice_get}
use Rattle.ld_base.specs.Field.{field}
use Rattle.ld_base.specs.declared.object.Span.{Span}
use Rattle.ld_base.specs.declared.parts.Header.{Header}
use Rattle.elf_head.specs.AcceptancePart.Lemmas.Tables.{get-table, length-table}
use Rattle.elf_dynamic.specs.declared.relr.Judged.{Judged}
use Rattle.elf_dynamic.specs.Again.{first_again}
use Rattle.elf_dynamic.specs.Judged.{most_places, AdmitsMore, ArePlaces, IsJudged}
use Rattle.elf_dynamic.specs.Marks.{is_marked, AreMarks}
use Rattle.elf_dynamic.specs.Memory.{overlaps}
use Rattle.elf_dynamic.specs.Named.{doubleword}
use Rattle.elf_dynamic.specs.Relr.{after_word, has_bit, places_from, relr_words, word_places}
use Rattle.elf_dynamic.specs.Rules.{is_bad_place}
use Rattle.elf_dynamic.proofs.Again.{again_append}
use Rattle.elf_dynamic.proofs.Ranges.{put_marks}

-- ---- one more

module _ (headers : List Header) (ranges : List Span) (places : List ℕ) (place : ℕ) (old : Judged) (judged : IsJudged headers ranges places old) where
  abbrev fails : Bool
  fails = is_bad_place headers place || list_any (overlaps (doubleword place)) (ranges ++ map doubleword places)

  pub admit_bad : fails ≡ true → first_again (is_bad_place headers) doubleword ranges (places ++ place ∷ []) ≡ Some old.count
  admit_bad bad = rw (again_append, judged.none, bad, add-zero) (ap Some (sym judged.are.count))

  one_more : (new : List ℕ) → is_bad_place headers place ≡ false → ((e : ℕ) → is_marked new e ≡ (place / 8 == e || is_marked old.named.words.items e))
      → AreMarks new (ranges ++ map doubleword (places ++ place ∷ []))
  one_more new good step =
      let aligned : place % 8 ≡ 0 = grind arith in
      rw (map-append, ← append_assoc) (put_marks old.named.words.items new (ranges ++ map doubleword places) (doubleword place) judged.marks
      (λ e. let same : (place / 8 == e) ≡ overlaps (doubleword (8 * e)) (doubleword place) = grind (arith, nat_tests) in rw (← same) (step e)))

  pub admit_kept : (new : Judged) → fails ≡ false → ((e : ℕ) → is_marked new.named.words.items e ≡ (place / 8 == e || is_marked old.named.words.items e))
      → new.places ≡ (if nat_lt (length old.places) most_places then old.places ++ place ∷ [] else old.places) → new.count ≡ old.count + 1
      → IsJudged headers ranges (places ++ place ∷ []) new
  admit_kept new good marks listed count =
      let longer = length-append places (place ∷ []) in
      record {
        none = rw (again_append, judged.none, good) refl;
        marks = one_more new.named.words.items (grind arith) marks;
        are = record {
          listed = λ few. (let kept = judged.are.listed (omega arith) in grind (arith, nat_tests));
          count = omega (arith, count, judged.are.count, longer);
        };
      }

-- where no more places are kept than there are, all are
pub all_places : (j : Judged) (places : List ℕ) → ArePlaces j places → j.count ≤ 1_048_576 → j.places ≡ places
unfolding most_places
all_places j places are few = are.listed (omega (arith, are.count))

-- ---- the front of them

-- the places before these are judged
abbrev pub JudgedFront : List Header → List Span → List ℕ → List ℕ → Judged → Type 0
JudgedFront headers ranges rest all j = (front : List ℕ) × IsJudged headers ranges front j × (front ++ rest ≡ all)

module _ {headers : List Header} {ranges : List Span} {rest all : List ℕ} {old : Judged} (front : JudgedFront headers ranges rest all old) (more after : List ℕ)
    (split : rest ≡ more ++ after) (kept : Bool) (new : Judged) (admits : AdmitsMore headers more old kept new) where
  whole : (front.0 ++ more) ++ after ≡ all
  whole = rw (append_assoc, ← split) front.2

  pub front_more : kept ≡ true → JudgedFront headers ranges after all new
  front_more is = (front.0 ++ more, rw is at (admits ranges front.0 front.1), whole)

  pub front_stop : kept ≡ false → first_again (is_bad_place headers) doubleword ranges all ≡ Some new.count
  front_stop is = rw (← whole, again_append, rw is at (admits ranges front.0 front.1)) refl

pub front_end : {headers : List Header} {ranges : List Span} {rest all : List ℕ} {j : Judged} → JudgedFront headers ranges rest all j → rest ≡ []
    → IsJudged headers ranges all j
front_end {headers} {ranges} {j = j} front none = subst (λ ps. IsJudged headers ranges ps j) (rw (none, append-nil) at front.2) front.1

-- ---- bit by bit, and word by word

-- the places of the bits from one on
abbrev pub bits_from : ℕ → ℕ → ℕ → List ℕ
bits_from word next bit = map (λ i. next + 8 * (i - 1)) (filter (has_bit word) (range_with_len bit (64 - bit)))

pub one_bit : (word next bit : ℕ) → bit < 64
    → bits_from word next bit ≡ (if has_bit word bit then (next + 8 * (bit - 1)) ∷ [] else []) ++ bits_from word next (bit + 1)
one_bit word next bit few =
    let same : 64 - bit ≡ suc (64 - (bit + 1)) = omega arith in
    rw same (grind arith)

pub first_word : (packed : List ℕ) → 0 < length packed / 8 → slice_get (relr_words packed) 0 ≡ Some (field 8 packed 0)
first_word packed some = get-table (field 8 packed) 0 8 (length packed / 8) 0 some

pub one_word : (packed : List ℕ) (next i word : ℕ) → i < length packed / 8 → word ≡ field 8 packed (8 * i)
    → places_from next (drop i (relr_words packed)) ≡ word_places next word ++ places_from (after_word next word) (drop (i + 1) (relr_words packed))
one_word packed next i word within is =
    let longer : i < length (relr_words packed) = omega (arith, length-table (field 8 packed) 0 8 (length packed / 8)) in
    let place : 0 + 8 * i ≡ 8 * i = omega arith in
    let here : drop i (relr_words packed) ≡ word ∷ drop (i + 1) (relr_words packed) =
    rw (
      add-one,
      drop-cons (relr_words packed) i 0 longer,
      get_or_from_slice_get (relr_words packed) i _ 0 (get-table (field 8 packed) 0 8 (length packed / 8) i within),
      place,
      is,
    ) refl in
    rw here refl
