-- Needs by name, one more.
use Rattle.std.proofs.Common.{◌≡◌, ℕ, ◌+◌, ◌<◌, Bool, true, false, List, [], ◌∷◌, ◌++◌, length, get_or, take, Some, None, cond, refl, sym, ap, ◌∙◌}
use Rattle.std.specs.Prelude.{Option, filter_map, find, fold}
use Rattle.std.specs.Global.{Vec}
use Rattle.std.specs.List.{cons_option}
use Rattle.std.specs.Map.{lookup}
use Rattle.std.specs.Str.{bytes_eq}
use Rattle.std.proofs.lemmas.List.{take_more}
use Rattle.std.proofs.lemmas.List.Elements.{filter_map-append}
use Rattle.std.proofs.lemmas.List.Sums.{fold-append}
use Rattle.std.proofs.lemmas.Slice.Eq.{bytes_eq-Decides}
use Rattle.indexmap.specs.IndexMap.{insert_entry}
use Rattle.asm_statement.specs.declared.directive.Need.{Need}
use Rattle.asm_layout.specs.Uses.{with_need}
use Rattle.asm_uses.specs.Needs.{values_of, AreByName, with_found}
use Rattle.asm_uses.proofs.Keys.{same_key}

-- an insertion puts a need in the place of that of its name, or behind all
pub put : (entries : List (Vec ℕ × Need)) (name : Vec ℕ) (need : Need) → AreByName entries → name.items ≡ need.name
    → values_of (insert_entry same_key entries name need) ≡ with_need (values_of entries) need
put [] name need are is = refl
put ((key, first) ∷ entries) name need are is =
    let P : Bool → Type 0 = λ same. values_of (cond same ((key, need) ∷ entries) ((key, first) ∷ insert_entry same_key entries name need))
    ≡ cond same (need ∷ values_of entries) (first ∷ with_need (values_of entries) need) in
    let cases : (same : Bool) → P same = λ same. elim same as P [
      | true ↦ refl
      | false ↦ ap (λ (rest : List Need). first ∷ rest) (put entries name need are.1 is)
    ] in
    cases (bytes_eq name.items key.items)
    ∙ ap (λ (same : Bool). cond same (need ∷ values_of entries) (first ∷ with_need (values_of entries) need))
    (ap (λ (n : List ℕ). bytes_eq n key.items) is ∙ ap (bytes_eq need.name) are.0)

pub stays_by_name : (entries : List (Vec ℕ × Need)) (name : Vec ℕ) (need : Need) → AreByName entries → name.items ≡ need.name
    → AreByName (insert_entry same_key entries name need)
stays_by_name [] name need are is = (is, tt)
stays_by_name ((key, first) ∷ entries) name need are is =
    let P : Bool → Type 0 = λ same. bytes_eq name.items key.items ≡ same
    → AreByName (cond same ((key, need) ∷ entries) ((key, first) ∷ insert_entry same_key entries name need)) in
    let cases : (same : Bool) → P same = λ same. elim same as P [
      | true ↦ λ e. (sym ((bytes_eq-Decides name.items key.items).0 e) ∙ is, are.1)
      | false ↦ λ e. (are.0, stays_by_name entries name need are.1 is)
    ] in
    cases (bytes_eq name.items key.items) refl

-- the need under a name is the first of that name
pub found : (entries : List (Vec ℕ × Need)) (bytes : List ℕ) → AreByName entries
    → lookup (λ name. bytes_eq bytes name.items) entries ≡ find (λ need. bytes_eq bytes need.name) (values_of entries)
found [] bytes are = refl
found ((key, first) ∷ entries) bytes are =
    ap (λ (name : List ℕ). cond (bytes_eq bytes name) (Some first) (lookup (λ name. bytes_eq bytes name.items) entries)) are.0
    ∙ ap (λ (rest : Option Need). cond (bytes_eq bytes first.name) (Some first) rest) (found entries bytes are.1)

-- what lines need, one line more
pub needs_further : {X : Type 0} (f : X → Option Need) (xs : List X) (n : ℕ) (x : X) → n < length xs → x ≡ get_or xs n x
    → fold with_need [] (filter_map f (take (n + 1) xs)) ≡ with_found (fold with_need [] (filter_map f (take n xs))) (f x)
needs_further {X} f xs n x lt is =
    let further : take (n + 1) xs ≡ take n xs ++ x ∷ [] = take_more xs n x lt ∙ ap (λ (y : X). take n xs ++ y ∷ []) (sym is) in
    let before = filter_map f (take n xs) in
    let P : Option Need → Type 0 = λ o. fold with_need (fold with_need [] before) (cons_option o []) ≡ with_found (fold with_need [] before) o in
    let cases : (o : Option Need) → P o = λ o. elim o as P [ None ↦ refl | Some need ↦ refl ] in
    ap (λ (ys : List X). fold with_need [] (filter_map f ys)) further
    ∙ ap (fold with_need []) (filter_map-append f (take n xs) (x ∷ []))
    ∙ fold-append with_need [] before (cons_option (f x) [])
    ∙ cases (f x)
