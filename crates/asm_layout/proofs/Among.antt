-- Names that are looked up, one name more.
use Rattle.std.proofs.Common.{◌≡◌, ℕ, Bool, true, false, ◌||◌, List, [], ◌∷◌, ◌++◌, Some, None, refl, sym, ap, ◌∙◌}
use Rattle.std.specs.Prelude.{Option, if◌then◌else◌}
use Rattle.std.specs.List.{list_any}
use Rattle.std.specs.Str.{bytes_eq}
use Rattle.std.proofs.Math.Bool.{or-false}
use Rattle.std.proofs.lemmas.List.Folds.{list_any-append}
use Rattle.std.proofs.lemmas.Slice.Eq.{bytes_eq-Decides}
use Rattle.asm_layout.specs.Once.{added, added_if, is_among, is_it}

-- a name that is there already adds nothing
known_name : (names : List (List ℕ)) (name bytes : List ℕ) → list_any (bytes_eq name) names ≡ true
    → is_among names bytes ≡ (is_among names bytes || bytes_eq bytes name)
known_name names name bytes there =
    let P : Bool → Type 0 = λ same. bytes_eq bytes name ≡ same → is_among names bytes ≡ (is_among names bytes || same) in
    let cases : (same : Bool) → P same = λ same. elim same as P [
      | true ↦ λ is.
          let e : bytes ≡ name = (bytes_eq-Decides bytes name).0 is in
          let all : is_among names bytes ≡ true = rw e there in
          rw all refl
      | false ↦ λ is. sym (or-false (is_among names bytes))
    ] in
    cases (bytes_eq bytes name) refl

-- an addition adds its name
pub among_added : (names : List (List ℕ)) (name bytes : List ℕ)
    → is_among (added bytes_eq names name) bytes ≡ (is_among names bytes || bytes_eq bytes name)
among_added names name bytes =
    let P : Bool → Type 0 = λ there. list_any (bytes_eq name) names ≡ there
    → is_among (if there then names else names ++ name ∷ []) bytes ≡ (is_among names bytes || bytes_eq bytes name) in
    let cases : (there : Bool) → P there = λ there. elim there as P [
      | true ↦ λ is. known_name names name bytes is
      | false ↦ λ is. list_any-append (bytes_eq bytes) names (name ∷ []) ∙ ap (λ b. is_among names bytes || b) (or-false (bytes_eq bytes name))
    ] in
    cases (list_any (bytes_eq name) names) refl

pub among_added_if : (names : List (List ℕ)) (name : Option (List ℕ)) (bytes : List ℕ)
    → is_among (added_if bytes_eq names name) bytes ≡ (is_among names bytes || is_it bytes name)
among_added_if names None bytes = sym (or-false (is_among names bytes))
among_added_if names (Some name) bytes = among_added names name bytes
