-- The words of the global offset table, one use more.
use Rattle.std.proofs.Common.{◌≡◌, ℕ, ◌+◌, ◌≤◌, Bool, true, false, ◌&&◌, List, [], ◌∷◌, ◌++◌, length, Some, None}
use Rattle.std.proofs.Common.{cond, refl, sym, ap, ◌∙◌, arith}
use Rattle.std.specs.Prelude.{Option, if◌then◌else◌, option_map, position, sum_by, nat_lt}
use Rattle.std.specs.List.{list_any, position_or_len}
use Rattle.std.specs.Option.{option_or, is_some}
use Rattle.std.specs.Str.{bytes_eq}
use Rattle.std.proofs.lemmas.Bool.Decides.{nat_tests}
use Rattle.std.proofs.lemmas.List.{take-append-le, take_all}
use Rattle.std.proofs.lemmas.List.Sums.{sum_by-append}
use Rattle.asm_layout.specs.declared.uses.GotKind.{GotKind}
use Rattle.asm_layout.specs.declared.uses.GotKind.TheVariants as gots
use Rattle.asm_layout.specs.declared.uses.GotUse.{GotUse}
use Rattle.asm_layout.specs.Uses.{same_kind, same_use}
use Rattle.asm_layout.specs.Tables.{got_words}
use Rattle.asm_layout.specs.Words.{words_before}
use Rattle.asm_uses.specs.declared.got.Got.{Got}
use Rattle.asm_uses.specs.Numbers.{number_of}
use Rattle.asm_uses.specs.Got.{numbers_in, IsGotOf, Notes}
use Rattle.asm_layout.proofs.Firsts.{one_more, any_before}
use Rattle.asm_uses.proofs.Noted.{none_stays}

abbrev all_words : List GotUse → ℕ
all_words uses = sum_by (λ it. got_words it.kind) uses

before_stays : (uses : List GotUse) (it : GotUse) (k : ℕ) → k ≤ length uses → words_before uses k ≡ words_before (uses ++ it ∷ []) k
before_stays uses it k within = ap all_words (sym (take-append-le k uses (it ∷ []) within))

before_last : (uses : List GotUse) (it : GotUse) → all_words uses ≡ words_before (uses ++ it ∷ []) (length uses)
before_last uses it = ap all_words (sym (take_all (length uses) uses (omega arith))) ∙ before_stays uses it (length uses) (omega arith)

-- the words before the first use that passes, one use more
numbers_push : (p : GotUse → Bool) (uses : List GotUse) (it : GotUse) (words : ℕ) → words ≡ all_words uses
    → option_or (option_map (words_before uses) (position p uses)) (cond (p it) (Some words) None)
    ≡ option_map (words_before (uses ++ it ∷ [])) (position p (uses ++ it ∷ []))
numbers_push p uses it words all =
    let first = position_or_len p uses in
    let n = length uses in
    let P : Bool → Type 0 = λ there. nat_lt first n ≡ there
    → option_or (option_map (words_before uses) (cond there (Some first) None)) (cond (p it) (Some words) None)
    ≡ option_map (words_before (uses ++ it ∷ [])) (option_or (cond there (Some first) None) (cond (p it) (Some n) None)) in
    let Q : Bool → Type 0 = λ passes. option_or None (cond passes (Some words) None)
    ≡ option_map (words_before (uses ++ it ∷ [])) (option_or None (cond passes (Some n) None)) in
    let new : (passes : Bool) → Q passes = λ passes. elim passes as Q [
      | true ↦ ap (λ (w : ℕ). Some w) (all ∙ before_last uses it)
      | false ↦ refl
    ] in
    let cases : (there : Bool) → P there = λ there. elim there as P [
      | true ↦ λ is. ap (λ (w : ℕ). Some w) (before_stays uses it first (below first n is))
      | false ↦ λ is. new (p it)
    ] in
    cases (nat_lt first n) refl ∙ ap (option_map (words_before (uses ++ it ∷ []))) (sym (one_more p uses it))
  where
    below : (a b : ℕ) → nat_lt a b ≡ true → a ≤ b
    below a b is = grind (arith, nat_tests)

-- a use more, that no earlier one equals
pub got_more : (uses : List GotUse) (it : GotUse) (old noted new : Got) → IsGotOf uses old → Notes it.kind it.name old noted
    → new.uses ≡ old.uses ++ it ∷ [] → new.words ≡ old.words + got_words it.kind
    → ((kind : GotKind) → numbers_in new kind ≡ numbers_in noted kind)
    → IsGotOf (uses ++ it ∷ []) new
got_more uses it old noted new is notes pushed counted same = record {
  each = pushed ∙ ap (λ (us : List GotUse). us ++ it ∷ []) is.each;
  words = counted ∙ rw is.words (sym (rw (sum_by-append (λ (u : GotUse). got_words u.kind) uses (it ∷ [])) (omega arith)));
  numbers = λ other.
      ap (λ (ns : List (List ℕ × ℕ)). number_of ns other.name) (same other.kind) ∙ notes.numbers other
      ∙ ap (λ (o : Option ℕ). option_or o (cond (same_use other it) (Some old.words) None)) (is.numbers other)
      ∙ numbers_push (same_use other) uses it old.words is.words;
}

-- a use is noted exactly where an earlier one equals it
pub got_known : (uses : List GotUse) (it : GotUse) (got : Got) → IsGotOf uses got
    → is_some (number_of (numbers_in got it.kind) it.name) ≡ list_any (same_use it) uses
got_known uses it got is =
    let first = position_or_len (same_use it) uses in
    let n = length uses in
    let P : Bool → Type 0 = λ there. is_some (option_map (words_before uses) (cond there (Some first) None)) ≡ there in
    let cases : (there : Bool) → P there = λ there. elim there as P [ true ↦ refl | false ↦ refl ] in
    ap is_some (is.numbers it) ∙ cases (nat_lt first n) ∙ sym (any_before (same_use it) uses n (omega arith))
    ∙ ap (list_any (same_use it)) (take_all n uses (omega arith))

-- a name's number in the list of its kind leaves the other lists as they are
abbrev Told : List (List ℕ × ℕ) → List (List ℕ × ℕ) → List ℕ → ℕ → Type 0
Told old new name words = (other : List ℕ) → number_of new other ≡ option_or (number_of old other) (if bytes_eq other name then Some words else None)

pub noted_address : (name : List ℕ) (old new : Got) → new.uses ≡ old.uses → new.words ≡ old.words
    → new.pairs ≡ old.pairs → new.offsets ≡ old.offsets
    → Told old.addresses new.addresses name old.words → Notes gots.Address name old new
noted_address name old new uses words pairs offsets told = record { uses = uses; words = words; numbers = λ it. at it.kind it.name }
  where
    at : (kind : GotKind) (other : List ℕ) → number_of (numbers_in new kind) other
        ≡ option_or (number_of (numbers_in old kind) other) (if same_kind kind gots.Address && bytes_eq other name then Some old.words else None)
    at gots.Address other = told other
    at gots.Pair other = ap (λ (ns : List (List ℕ × ℕ)). number_of ns other) pairs ∙ none_stays (number_of old.pairs other)
    at gots.Offset other = ap (λ (ns : List (List ℕ × ℕ)). number_of ns other) offsets ∙ none_stays (number_of old.offsets other)

pub noted_pair : (name : List ℕ) (old new : Got) → new.uses ≡ old.uses → new.words ≡ old.words
    → new.addresses ≡ old.addresses → new.offsets ≡ old.offsets
    → Told old.pairs new.pairs name old.words → Notes gots.Pair name old new
noted_pair name old new uses words addresses offsets told = record { uses = uses; words = words; numbers = λ it. at it.kind it.name }
  where
    at : (kind : GotKind) (other : List ℕ) → number_of (numbers_in new kind) other
        ≡ option_or (number_of (numbers_in old kind) other) (if same_kind kind gots.Pair && bytes_eq other name then Some old.words else None)
    at gots.Address other = ap (λ (ns : List (List ℕ × ℕ)). number_of ns other) addresses ∙ none_stays (number_of old.addresses other)
    at gots.Pair other = told other
    at gots.Offset other = ap (λ (ns : List (List ℕ × ℕ)). number_of ns other) offsets ∙ none_stays (number_of old.offsets other)

pub noted_offset : (name : List ℕ) (old new : Got) → new.uses ≡ old.uses → new.words ≡ old.words
    → new.addresses ≡ old.addresses → new.pairs ≡ old.pairs
    → Told old.offsets new.offsets name old.words → Notes gots.Offset name old new
noted_offset name old new uses words addresses pairs told = record { uses = uses; words = words; numbers = λ it. at it.kind it.name }
  where
    at : (kind : GotKind) (other : List ℕ) → number_of (numbers_in new kind) other
        ≡ option_or (number_of (numbers_in old kind) other) (if same_kind kind gots.Offset && bytes_eq other name then Some old.words else None)
    at gots.Address other = ap (λ (ns : List (List ℕ × ℕ)). number_of ns other) addresses ∙ none_stays (number_of old.addresses other)
    at gots.Pair other = ap (λ (ns : List (List ℕ × ℕ)). number_of ns other) pairs ∙ none_stays (number_of old.pairs other)
    at gots.Offset other = told other
