-- The lines that define names, one name and one line more.
use Rattle.std.proofs.Common.{◌≡◌, ℕ, ◌≤◌, Bool, true, false, List, [], ◌∷◌}
use Rattle.std.proofs.Common.{length, take, Some, None, cond, refl, sym, ap, ◌∙◌, arith}
use Rattle.std.specs.Prelude.{Option, position, nat_lt}
use Rattle.std.specs.Global.{Vec}
use Rattle.std.specs.List.{list_any, position_or_len}
use Rattle.std.specs.Option.{option_or, is_some}
use Rattle.std.specs.Map.{lookup}
use Rattle.std.specs.Str.{bytes_eq}
use Rattle.std.proofs.lemmas.Bool.Decides.{nat_tests}
use Rattle.std.proofs.lemmas.Cmp.{nat_list_eq_equiv}
use Rattle.std.proofs.lemmas.Slice.Eq.{bytes_eq-Decides}
use Rattle.indexmap.specs.IndexMap.{insert_entry}
use Rattle.asm_uses.specs.Numbers.{is_below, number_of}
use Rattle.asm_uses.specs.Spelled.{spelled_pairs}
use Rattle.asm_layout.proofs.Firsts.{any_before}
use Rattle.asm_uses.proofs.Keys.{same_key}

-- the number of a name, by the keys of a map
abbrev line_of : List (Vec ℕ × ℕ) → List ℕ → Option ℕ
line_of lines bytes = lookup (λ name. bytes_eq bytes name.items) lines

-- it is that of the names that are spelled so
pub looked_up : (lines : List (Vec ℕ × ℕ)) (bytes : List ℕ) → lookup (λ name. bytes_eq bytes name.items) lines ≡ number_of (spelled_pairs lines) bytes
looked_up [] bytes = refl
looked_up ((key, line) ∷ lines) bytes = ap (λ (rest : Option ℕ). cond (bytes_eq bytes key.items) (Some line) rest) (looked_up lines bytes)

-- a new name takes its line: by its own bytes
line_added : (lines : List (Vec ℕ × ℕ)) (name : Vec ℕ) (other : List ℕ) (n : ℕ) → is_some (line_of lines name.items) ≡ false
    → line_of (insert_entry same_key lines name n) other ≡ option_or (line_of lines other) (cond (bytes_eq name.items other) (Some n) None)
line_added [] name other n new = rw (nat_list_eq_equiv.symm name.items other) refl
line_added ((key, line) ∷ lines) name other n new =
    let P : Bool → Type 0 = λ same. is_some (cond same (Some line) (line_of lines name.items)) ≡ false
    → line_of (cond same ((key, n) ∷ lines) ((key, line) ∷ insert_entry same_key lines name n)) other
    ≡ option_or (cond (bytes_eq other key.items) (Some line) (line_of lines other)) (cond (bytes_eq name.items other) (Some n) None) in
    let here : Bool → Type 0 = λ same. cond same (Some line) (line_of (insert_entry same_key lines name n) other)
    ≡ option_or (cond same (Some line) (line_of lines other)) (cond (bytes_eq name.items other) (Some n) None) in
    let cases : (same : Bool) → P same = λ same. elim same as P [
      | true ↦ λ absent. absurd (cc absent)
      | false ↦ λ absent. elim (bytes_eq other key.items) as here [ true ↦ refl | false ↦ line_added lines name other n absent ]
    ] in
    cases (bytes_eq name.items key.items) new

-- the same, of names that are spelled
pub number_noted : (lines : List (Vec ℕ × ℕ)) (name : Vec ℕ) (bytes other : List ℕ) (n : ℕ) → name.items ≡ bytes
    → is_some (line_of lines bytes) ≡ false
    → number_of (spelled_pairs (insert_entry same_key lines name n)) other
    ≡ option_or (number_of (spelled_pairs lines) other) (cond (bytes_eq other bytes) (Some n) None)
number_noted lines name bytes other n is new =
    sym (looked_up (insert_entry same_key lines name n) other)
    ∙ line_added lines name other n (rw is new)
    ∙ ap (λ (found : Option ℕ). option_or found (cond (bytes_eq name.items other) (Some n) None)) (looked_up lines other)
    ∙ ap (λ (same : Bool). option_or (number_of (spelled_pairs lines) other) (cond same (Some n) None))
    (nat_list_eq_equiv.symm name.items other ∙ ap (bytes_eq other) is)

pub none_stays : (found : Option ℕ) → found ≡ option_or found None
none_stays None = refl
none_stays (Some k) = refl

-- a name that has a number keeps it
pub number_kept : (numbers : List (List ℕ × ℕ)) (bytes other : List ℕ) (n : ℕ) → is_some (number_of numbers bytes) ≡ true
    → number_of numbers other ≡ option_or (number_of numbers other) (cond (bytes_eq other bytes) (Some n) None)
number_kept numbers bytes other n has =
    let P : Bool → Type 0 = λ same. bytes_eq other bytes ≡ same
    → number_of numbers other ≡ option_or (number_of numbers other) (cond same (Some n) None) in
    let cases : (same : Bool) → P same = λ same. elim same as P [
      | true ↦ λ is.
          let e : other ≡ bytes = (bytes_eq-Decides other bytes).0 is in
          some_stays (number_of numbers other) (rw e has)
      | false ↦ λ is. none_stays (number_of numbers other)
    ] in
    cases (bytes_eq other bytes) refl
  where
    some_stays : (found : Option ℕ) → is_some found ≡ true → found ≡ option_or found (Some n)
    some_stays None has = absurd (cc has)
    some_stays (Some k) has = refl

-- whether one of the first elements passes: the first of all that does is one of them
pub found_before : {X : Type 0} (p : X → Bool) (xs : List X) (k : ℕ) (found : Option ℕ) → k ≤ length xs → found ≡ position p xs
    → is_below found k ≡ list_any p (take k xs)
found_before {X} p xs k found within is =
    let first = position_or_len p xs in
    let P : Bool → Type 0 = λ there. nat_lt first (length xs) ≡ there → is_below (cond there (Some first) None) k ≡ nat_lt first k in
    let cases : (there : Bool) → P there = λ there. elim there as P [ true ↦ λ e. refl | false ↦ λ e. beyond first k (length xs) within e ] in
    ap (λ (o : Option ℕ). is_below o k) is ∙ cases (nat_lt first (length xs)) refl ∙ sym (any_before p xs k within)
  where
    beyond : (a b n : ℕ) → b ≤ n → nat_lt a n ≡ false → false ≡ nat_lt a b
    beyond a b n within e = grind (arith, nat_tests)
