-- The visibility of a name, as a map has it.
use Rattle.std.proofs.Common.{◌≡◌, ℕ, ◌+◌, ◌<◌, Bool, true, false, List, [], ◌∷◌, ◌++◌, length, get_or, take, Some, None, cond, refl, sym, ap, ◌∙◌}
use Rattle.std.specs.Prelude.{Option, fold, if◌then◌else◌, unwrap_or}
use Rattle.std.specs.Global.{Vec}
use Rattle.std.specs.Map.{lookup}
use Rattle.std.specs.Str.{bytes_eq}
use Rattle.std.proofs.lemmas.Cmp.{nat_list_eq_equiv}
use Rattle.std.proofs.lemmas.List.{take_more}
use Rattle.std.proofs.lemmas.List.Sums.{fold-append}
use Rattle.std.proofs.lemmas.Slice.Eq.{bytes_eq-Decides}
use Rattle.indexmap.specs.IndexMap.{insert_entry}
use Rattle.asm_uses.specs.Spelled.{spelled_pairs}
use Rattle.asm_symbols.specs.declared.visibilities.Visibility.{Visibility}
use Rattle.asm_symbols.specs.declared.visibilities.Visibility.TheVariants as kinds
use Rattle.asm_symbols.specs.Visibilities.{visibility_of}

abbrev pub same_key : Vec ℕ → Vec ℕ → Bool
same_key one other = bytes_eq one.items other.items

pub looked_up : {X : Type 0} (entries : List (Vec ℕ × X)) (bytes : List ℕ) → lookup (λ name. bytes_eq bytes name.items) entries ≡ lookup (bytes_eq bytes) (spelled_pairs entries)
looked_up [] bytes = refl
looked_up {X} ((key, value) ∷ entries) bytes = ap (λ (rest : Option X). cond (bytes_eq bytes key.items) (Some value) rest) (looked_up entries bytes)

-- the visibility of a name among some, the first of which is known
abbrev or_else : Bool → Visibility → Visibility → Visibility
or_else b here rest = if b then here else rest

one_of : (b : Bool) (here : Visibility) (rest : Option Visibility) → unwrap_or (cond b (Some here) rest) kinds.Default ≡ or_else b here (unwrap_or rest kinds.Default)
one_of true here rest = refl
one_of false here rest = refl

twice : (b : Bool) (here old rest : Visibility) → or_else b here rest ≡ or_else b here (or_else b old rest)
twice true here old rest = refl
twice false here old rest = refl

apart : (b c : Bool) (old here rest : Visibility) → (b ≡ true → c ≡ false) → or_else b old (or_else c here rest) ≡ or_else c here (or_else b old rest)
apart true true old here rest differ = absurd (cc (differ refl))
apart true false old here rest differ = refl
apart false c old here rest differ = refl

pub given_last : (entries : List (Vec ℕ × Visibility)) (name : Vec ℕ) (here : Visibility) (other : List ℕ)
    → visibility_of (spelled_pairs (insert_entry same_key entries name here)) other ≡ or_else (bytes_eq other name.items) here (visibility_of (spelled_pairs entries) other)
given_last [] name here other = one_of (bytes_eq other name.items) here None
given_last ((key, old) ∷ entries) name here other =
    let rest = visibility_of (spelled_pairs entries) other in
    let all = visibility_of (spelled_pairs ((key, old) ∷ entries)) other in
    let P : Bool → Type 0 = λ same. bytes_eq name.items key.items ≡ same
    → visibility_of (spelled_pairs (cond same ((key, here) ∷ entries) ((key, old) ∷ insert_entry same_key entries name here))) other
    ≡ or_else (bytes_eq other name.items) here all in
    let split : all ≡ or_else (bytes_eq other key.items) old rest = one_of (bytes_eq other key.items) old (lookup (bytes_eq other) (spelled_pairs entries)) in
    let cases : (same : Bool) → P same = λ same. elim same as P [
      | true ↦ λ e.
          let is : name.items ≡ key.items = (bytes_eq-Decides name.items key.items).0 e in
          one_of (bytes_eq other key.items) here (lookup (bytes_eq other) (spelled_pairs entries))
          ∙ twice (bytes_eq other key.items) here old rest
          ∙ ap (λ (n : List ℕ). or_else (bytes_eq other n) here (or_else (bytes_eq other key.items) old rest)) (sym is)
          ∙ ap (or_else (bytes_eq other name.items) here) (sym split)
      | false ↦ λ e.
          one_of (bytes_eq other key.items) old (lookup (bytes_eq other) (spelled_pairs (insert_entry same_key entries name here)))
          ∙ ap (or_else (bytes_eq other key.items) old) (given_last entries name here other)
          ∙ apart (bytes_eq other key.items) (bytes_eq other name.items) old here rest
          (λ found. let is : other ≡ key.items = (bytes_eq-Decides other key.items).0 found in rw (is, nat_list_eq_equiv.symm key.items name.items) e)
          ∙ ap (or_else (bytes_eq other name.items) here) (sym split)
    ] in
    cases (bytes_eq name.items key.items) refl

-- a fold over one element more
pub fold_further : {X A : Type 0} (f : A → X → A) (start : A) (xs : List X) (n : ℕ) (x : X) → n < length xs → x ≡ get_or xs n x
    → fold f start (take (n + 1) xs) ≡ f (fold f start (take n xs)) x
fold_further {X} {A} f start xs n x lt is =
    let further : take (n + 1) xs ≡ take n xs ++ x ∷ [] = take_more xs n x lt ∙ ap (λ (y : X). take n xs ++ y ∷ []) (sym is) in
    ap (fold f start) further ∙ fold-append f start (take n xs) (x ∷ [])
