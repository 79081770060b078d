-- Keys as the things that they stand for, one more.
use Rattle.std.proofs.Common.{◌≡◌, ℕ, ◌+◌, length, Bool, true, false, ◌||◌, List, [], ◌∷◌, ◌++◌}
use Rattle.std.proofs.Common.{cond, refl, sym, ap, ◌∙◌, Some, None}
use Rattle.std.specs.Prelude.{if◌then◌else◌, map, position, not, nat_lt}
use Rattle.std.specs.Global.{Vec}
use Rattle.std.specs.List.{list_any, position_or_len}
use Rattle.std.specs.Str.{bytes_eq}
use Rattle.std.proofs.lemmas.List.{map-append, length-map}
use Rattle.indexmap.specs.IndexSet.{insert_key}
use Rattle.asm_layout.specs.Once.{added}

-- an insertion of a key adds its name
abbrev pub same_key : Vec ℕ → Vec ℕ → Bool
same_key one other = bytes_eq one.items other.items

abbrev pub spelled : List (Vec ℕ) → List (List ℕ)
spelled names = map (λ name. name.items) names

pub any_spelled_as : (names : List (Vec ℕ)) (bytes : List ℕ) → list_any (λ name. bytes_eq bytes name.items) names ≡ list_any (bytes_eq bytes) (spelled names)
any_spelled_as [] bytes = refl
any_spelled_as (key ∷ names) bytes = ap (λ (rest : Bool). bytes_eq bytes key.items || rest) (any_spelled_as names bytes)

any_spelled : (names : List (Vec ℕ)) (name : Vec ℕ) → list_any (same_key name) names ≡ list_any (bytes_eq name.items) (spelled names)
any_spelled names name = any_spelled_as names name.items

-- the place of a name is that of its key
first_spelled : (names : List (Vec ℕ)) (bytes : List ℕ)
    → position_or_len (λ name. bytes_eq bytes name.items) names ≡ position_or_len (bytes_eq bytes) (spelled names)
first_spelled [] bytes = refl
first_spelled (key ∷ names) bytes = ap (λ (n : ℕ). cond (not (bytes_eq bytes key.items)) (1 + n) 0) (first_spelled names bytes)

pub position_spelled : (names : List (Vec ℕ)) (bytes : List ℕ)
    → position (λ name. bytes_eq bytes name.items) names ≡ position (bytes_eq bytes) (spelled names)
position_spelled names bytes =
    let first = position_or_len (bytes_eq bytes) (spelled names) in
    ap (λ (n : ℕ). cond (nat_lt n (length names)) (Some n) None) (first_spelled names bytes)
    ∙ ap (λ (m : ℕ). cond (nat_lt first m) (Some first) None) (sym (length-map names (λ (name : Vec ℕ). name.items)))

pub spelled_insert : (names : List (Vec ℕ)) (name : Vec ℕ) → spelled (insert_key same_key names name) ≡ added bytes_eq (spelled names) name.items
spelled_insert names name =
    let P : Bool → Type 0 = λ there.
    spelled (cond there names (names ++ name ∷ [])) ≡ (if there then spelled names else spelled names ++ name.items ∷ []) in
    let cases : (there : Bool) → P there = λ there. elim there as P [
      | true ↦ refl
      | false ↦ map-append (λ (n : Vec ℕ). n.items) names (name ∷ [])
    ] in
    rw (← any_spelled names name) (cases (list_any (same_key name) names))

-- the same of any keys that are compared by what they stand for
any_mapped : {K A : Type 0} (eq : K → K → Bool) (same : A → A → Bool) (f : K → A) → ((k e : K) → eq k e ≡ same (f k) (f e))
    → (keys : List K) (key : K) → list_any (eq key) keys ≡ list_any (same (f key)) (map f keys)
any_mapped eq same f are [] key = refl
any_mapped eq same f are (first ∷ keys) key = rw (are key first, any_mapped eq same f are keys key) refl

pub mapped_insert : {K A : Type 0} (eq : K → K → Bool) (same : A → A → Bool) (f : K → A) → ((k e : K) → eq k e ≡ same (f k) (f e))
    → (keys : List K) (key : K) → map f (insert_key eq keys key) ≡ added same (map f keys) (f key)
mapped_insert {K} {A} eq same f are keys key =
    let P : Bool → Type 0 = λ there.
    map f (cond there keys (keys ++ key ∷ [])) ≡ (if there then map f keys else map f keys ++ f key ∷ []) in
    let cases : (there : Bool) → P there = λ there. elim there as P [
      | true ↦ refl
      | false ↦ map-append f keys (key ∷ [])
    ] in
    rw (← any_mapped eq same f are keys key) (cases (list_any (eq key) keys))
