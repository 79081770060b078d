-- The packed places.
use Rattle.std.proofs.Common.{◌≡◌, ◌∙◌, ap, sym, refl, ℕ, zero, suc, ◌+◌, ◌-◌, ◌*◌, ◌/◌, ◌%◌, ◌^◌, ◌<◌, ◌==◌, ◌&&◌, nat_le, nat_lt, Bool, true, false, if◌then◌else◌, List, [], ◌∷◌, ◌++◌, length, map, fold, take, drop, arith, bit_or}
use Rattle.std.specs.Prelude.{Option, Some, None}
use Rattle.std.specs.Int.{w64, to_le_bytes}
use Rattle.std.proofs.lemmas.Bool.{and_parts, ltb-true}
use Rattle.std.proofs.lemmas.Nat.{or_lt, pow_below}
use Rattle.ld_base.specs.Field.{field}
use Rattle.elf_dynamic.specs.Parts.{AreWords, NamePlaces, bits_of}
use Rattle.asm_write.specs.declared.field.Field.TheVariants.{Doubleword}
use Rattle.asm_write.specs.Relr.{bit_of, is_in_map, map_of, mapped_count, relr_words, with_place, words_within}
use Rattle.asm_write.specs.Values.{doublewords}
use Rattle.asm_laws.specs.ElfWritten.Lemmas.Lengths.{doublewords_length}
use Rattle.asm_laws.specs.ElfRecords.Standing.{StandAt}
use Rattle.asm_laws.specs.ElfRecords.Lemmas.Fields.{one_read}
use Rattle.asm_laws.specs.ElfRecords.Lemmas.Standing.{field_read}
use Rattle.asm_laws.specs.ElfSpelled.Said.{AllBelow}
use Rattle.asm_laws.specs.ElfSpelled.Lemmas.Rows.{at_index, below_at, rows}
use Rattle.elf_head.specs.AcceptancePart.Lemmas.Tables.{same_elements}

-- Words name one list of places

-- what the first word says of the places: one by itself, or those of its bits
data Begin (next word : ℕ) (words places : List ℕ) : Type 0 where
  alone : (rest : List ℕ) → word % 2 ≡ 0 → NamePlaces (word + 8) words rest → places ≡ word ∷ rest → Begin next word words places
  mapped : (rest : List ℕ) → word % 2 ≡ 1 → NamePlaces (next + 504) words rest → places ≡ map (λ i. next + 8 * (i - 1)) (bits_of word) ++ rest → Begin next word words places

begin : {next word : ℕ} {words places : List ℕ} → NamePlaces next (word ∷ words) places → Begin next word words places
begin (NamePlaces.place next word words places even rest) = Begin.alone places even rest refl
begin (NamePlaces.bits next word words places odd rest) = Begin.mapped places odd rest refl

none_named : {next : ℕ} {places : List ℕ} → NamePlaces next [] places → places ≡ []
none_named (NamePlaces.no_more next) = refl

both : (next word : ℕ) (words one other : List ℕ) → ((after : ℕ) (ps qs : List ℕ) → NamePlaces after words ps → NamePlaces after words qs → ps ≡ qs)
    → Begin next word words one → Begin next word words other → one ≡ other
both next word words one other same (Begin.alone rest even named is) (Begin.alone others too more are) =
    is ∙ ap (λ (ps : List ℕ). word ∷ ps) (same (word + 8) rest others named more) ∙ sym are
both next word words one other same (Begin.alone rest even named is) (Begin.mapped others odd more are) = absurd (omega (arith, even, odd))
both next word words one other same (Begin.mapped rest odd named is) (Begin.alone others even more are) = absurd (omega (arith, even, odd))
both next word words one other same (Begin.mapped rest odd named is) (Begin.mapped others too more are) =
    is ∙ ap (λ (ps : List ℕ). map (λ i. next + 8 * (i - 1)) (bits_of word) ++ ps) (same (next + 504) rest others named more) ∙ sym are

pub one_list : (words : List ℕ) (next : ℕ) (one other : List ℕ) → NamePlaces next words one → NamePlaces next words other → one ≡ other
one_list [] next one other first second = none_named first ∙ sym (none_named second)
one_list (word ∷ words) next one other first second = both next word words one other (one_list words) (begin first) (begin second)

-- Words of packed places are numbers of 64 bits

few_bits : (base place : ℕ) → bit_of base place < 2 ^ 64
few_bits base place =
    let P : Bool → Type 0 = λ inside. is_in_map base place ≡ inside → (if inside then 2 ^ (1 + (place - base) / 8) else 0) < 2 ^ 64 in
    let some : P true = λ inside.
    let near : place - base < 504 = ltb-true (place - base) 504 (and_parts (nat_le base place) (nat_lt (place - base) 504) (and_parts (nat_le base place && nat_lt (place - base) 504) ((place - base) % 8 == 0) inside).0).1 in
    pow_below (1 + (place - base) / 8) 64 (omega (arith, near)) in
    let cases : (inside : Bool) → P inside = λ inside. elim inside as P [ true ↦ some | false ↦ λ _. omega arith ] in
    cases (is_in_map base place) refl

folded : (base word : ℕ) (places : List ℕ) → word < 2 ^ 64 → fold (with_place base) word places < 2 ^ 64
unfolding with_place
folded base word [] low = low
folded base word (place ∷ places) low = folded base (bit_or word (bit_of base place)) places (or_lt 64 word (bit_of base place) low (few_bits base place))

taken_below : (n : ℕ) (places : List ℕ) → AllBelow (2 ^ 64) places → AllBelow (2 ^ 64) (drop n places)
taken_below zero places all = all
taken_below (suc n) [] all = tt
taken_below (suc n) (place ∷ places) (first, all) = taken_below n places all

within_below : (most : ℕ) (base : Option ℕ) (places : List ℕ) → AllBelow (2 ^ 64) places → AllBelow (2 ^ 64) (words_within most base places)
within_below zero base places all = tt
within_below (suc most) None [] all = tt
within_below (suc most) None (place ∷ places) (first, all) = (first, within_below most (Some (place + 8)) places all)
within_below (suc most) (Some base) places all =
    let count = mapped_count base places in
    let front = take count places in
    let P : Bool → Type 0 = λ none. AllBelow (2 ^ 64) (if none then words_within most None places else map_of base front ∷ words_within most (Some (base + 504)) (drop count places)) in
    let cases : (none : Bool) → P none = λ none. elim none as P [
      | true ↦ within_below most None places all
      | false ↦ (folded base 1 front (omega arith), within_below most (Some (base + 504)) (drop count places) (taken_below count places all))
    ] in
    cases (count == 0)

pub words_below : (places : List ℕ) → AllBelow (2 ^ 64) places → AllBelow (2 ^ 64) (relr_words places)
unfolding relr_words
words_below places all = within_below (2 * length places) None places all

-- a place has a word
word_first : (most place : ℕ) (places : List ℕ) → 0 < most → 0 < length (words_within most None (place ∷ places))
word_first zero place places some = absurd (omega (arith, some))
word_first (suc most) place places some = omega arith

pub some_words : (places : List ℕ) → 0 < length places → 0 < length (relr_words places)
unfolding relr_words
some_words [] some = absurd (omega (arith, some))
some_words (place ∷ places) some = word_first (2 * length (place ∷ places)) place places (omega arith)

pub no_words : (places : List ℕ) → length places ≡ 0 → relr_words places ≡ []
unfolding relr_words
no_words [] none = refl
no_words (place ∷ places) none = absurd (omega (arith, none))

-- Doublewords by their bytes

pub words_are : (ws words : List ℕ) → AllBelow (2 ^ 64) ws → AreWords (doublewords ws) words → words ≡ ws
words_are ws words all are =
    let bytes = doublewords ws in
    let count : length bytes / 8 ≡ length ws = let long = doublewords_length ws in omega (arith, long) in
    same_elements words ws (are.count ∙ count) (λ i inside.
    let (w, is) = at_index ws i inside in
    let (word, at) = at_index words i (let n = are.count in omega (arith, inside, n, count)) in
    let stand : StandAt bytes (8 * i) (to_le_bytes w64 w) = rows (to_le_bytes w64) 8 (λ x. refl) ws i w is in
    let place : 8 * i ≡ 8 * i + 0 = omega arith in
    let read : field 8 bytes (8 * i) ≡ w = ap (field 8 bytes) place ∙ field_read 8 bytes (to_le_bytes w64 w) (8 * i) 0 stand (omega arith)
    ∙ one_read (Doubleword w) (below_at (2 ^ 64) ws all i w is) in
    at ∙ ap Some (are.each i word at ∙ read) ∙ sym is)
