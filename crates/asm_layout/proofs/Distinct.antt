-- Things that are each once, one more.
use Rattle.std.proofs.Common.{◌≡◌, ℕ, ◌+◌, ◌<◌, length, get_or, take, Bool, true, false, ◌||◌, List, [], ◌∷◌, ◌++◌}
use Rattle.std.proofs.Common.{refl, sym, ap, ◌∙◌, subst, append-nil, append_assoc, Some, None, arith}
use Rattle.std.specs.Prelude.{if◌then◌else◌, Option, filter_map}
use Rattle.std.specs.List.{list_any, cons_option}
use Rattle.std.specs.Prelude.{map, position, nat_lt}
use Rattle.std.specs.Option.{is_some}
use Rattle.std.specs.Str.{bytes_eq}
use Rattle.std.proofs.lemmas.Cmp.{nat_list_eq_equiv}
use Rattle.std.proofs.lemmas.Bool.Decides.{nat_tests}
use Rattle.std.proofs.Math.ListN.{get_or-append}
use Rattle.std.proofs.Math.Seq.{get_or-append_seam}
use Rattle.std.proofs.lemmas.List.{take_more, map-append, length-append}
use Rattle.std.proofs.lemmas.List.Elements.{filter_map-append}
use Rattle.asm_layout.specs.Uses.{distinct_after, distinct, distinct_names}
use Rattle.asm_layout.specs.Once.{added, added_if, is_among}
use Rattle.std.proofs.Math.Bool.{or-false}
use Rattle.std.proofs.lemmas.List.Folds.{list_any-append}
use Rattle.asm_layout.proofs.Among.{among_added}
use Rattle.asm_layout.proofs.Firsts.{one_more, any_found}

-- the elements seen, and behind them the new ones
behind_seen : {A : Type 0} (same : A → A → Bool) (seen xs : List A) (x : A)
    → seen ++ distinct_after same seen (xs ++ x ∷ []) ≡ added same (seen ++ distinct_after same seen xs) x
behind_seen {A} same seen [] x =
    let P : Bool → Type 0 = λ there. seen ++ (if there then [] else x ∷ []) ≡ (if there then seen else seen ++ x ∷ []) in
    let cases : (there : Bool) → P there = λ there. elim there as P [ true ↦ append-nil seen | false ↦ refl ] in
    rw (append-nil seen) (cases (list_any (same x) seen))
behind_seen {A} same seen (y ∷ ys) x =
    let P : Bool → Type 0 = λ there.
    seen ++ (if there then distinct_after same seen (ys ++ x ∷ []) else y ∷ distinct_after same (seen ++ y ∷ []) (ys ++ x ∷ []))
    ≡ added same (seen ++ (if there then distinct_after same seen ys else y ∷ distinct_after same (seen ++ y ∷ []) ys)) x in
    let further : (zs : List A) → (seen ++ y ∷ []) ++ zs ≡ seen ++ y ∷ zs = λ zs. append_assoc seen (y ∷ []) zs in
    let new : P false =
    sym (further (distinct_after same (seen ++ y ∷ []) (ys ++ x ∷ []))) ∙ behind_seen same (seen ++ y ∷ []) ys x
    ∙ ap (λ (zs : List A). added same zs x) (further (distinct_after same (seen ++ y ∷ []) ys)) in
    let cases : (there : Bool) → P there = λ there. elim there as P [ true ↦ behind_seen same seen ys x | false ↦ new ] in
    cases (list_any (same y) seen)

pub distinct_push : {A : Type 0} (same : A → A → Bool) (xs : List A) (x : A) → distinct same (xs ++ x ∷ []) ≡ added same (distinct same xs) x
unfolding distinct
distinct_push same xs x = behind_seen same [] xs x

-- what lines give, one line more
pub distinct_further : {X A : Type 0} (same : A → A → Bool) (f : X → Option A) (xs : List X) (n : ℕ) (x : X) → n < length xs → x ≡ get_or xs n x
    → distinct same (filter_map f (take (n + 1) xs)) ≡ added_if same (distinct same (filter_map f (take n xs))) (f x)
distinct_further {X} {A} same f xs n x lt is =
    let further : take (n + 1) xs ≡ take n xs ++ x ∷ [] = take_more xs n x lt ∙ ap (λ (y : X). take n xs ++ y ∷ []) (sym is) in
    let before = filter_map f (take n xs) in
    let P : Option A → Type 0 = λ o. distinct same (before ++ cons_option o []) ≡ added_if same (distinct same before) o in
    let cases : (o : Option A) → P o = λ o. elim o as P [
      | None ↦ ap (distinct same) (append-nil before)
      | Some y ↦ distinct_push same before y
    ] in
    ap (λ (ys : List X). distinct same (filter_map f ys)) further ∙ ap (distinct same) (filter_map-append f (take n xs) (x ∷ [])) ∙ cases (f x)

-- what elements give, one element more
pub distinct_mapped : {X A : Type 0} (same : A → A → Bool) (f : X → A) (xs : List X) (n : ℕ) (x : X) → n < length xs → x ≡ get_or xs n x
    → distinct same (map f (take (n + 1) xs)) ≡ added same (distinct same (map f (take n xs))) (f x)
distinct_mapped {X} {A} same f xs n x lt is =
    let further : take (n + 1) xs ≡ take n xs ++ x ∷ [] = take_more xs n x lt ∙ ap (λ (y : X). take n xs ++ y ∷ []) (sym is) in
    ap (λ (ys : List X). distinct same (map f ys)) further ∙ ap (distinct same) (map-append f (take n xs) (x ∷ []))
    ∙ distinct_push same (map f (take n xs)) (f x)

-- each of several names is the first that is spelled so
abbrev pub AreFirsts : List (List ℕ) → Type 0
AreFirsts names = (k : ℕ) → k < length names → position (bytes_eq (get_or names k [])) names ≡ Some k

no_first : (p : List ℕ → Bool) (names : List (List ℕ)) → list_any p names ≡ false → position p names ≡ None
no_first p names none = absent (position p names) (any_found p names ∙ none)
  where
    absent : (found : Option ℕ) → is_some found ≡ false → found ≡ None
    absent None e = refl
    absent (Some k) e = absurd (cc e)

firsts_push : (names : List (List ℕ)) (name : List ℕ) → AreFirsts names → list_any (bytes_eq name) names ≡ false → AreFirsts (names ++ name ∷ [])
firsts_push names name are new k below =
    let size = length-append names (name ∷ []) in
    let P : Bool → Type 0 = λ old. nat_lt k (length names) ≡ old → position (bytes_eq (get_or (names ++ name ∷ []) k [])) (names ++ name ∷ []) ≡ Some k in
    let cases : (old : Bool) → P old = λ old. elim old as P [
      | true ↦ λ e.
          let within : k < length names = grind (arith, nat_tests) in
          rw (get_or-append names (name ∷ []) [] k within, one_more (bytes_eq (get_or names k [])) names name, are k within) refl
      | false ↦ λ e.
          let last : k ≡ length names = grind (arith, nat_tests) in
          rw (last, get_or-append_seam names name [] [], one_more (bytes_eq name) names name, no_first (bytes_eq name) names new, nat_list_eq_equiv.refl name) refl
    ] in
    cases (nat_lt k (length names)) refl

pub firsts_added : (names : List (List ℕ)) (name : List ℕ) → AreFirsts names → AreFirsts (added bytes_eq names name)
firsts_added names name are =
    let P : Bool → Type 0 = λ there. list_any (bytes_eq name) names ≡ there → AreFirsts (if there then names else names ++ name ∷ []) in
    let cases : (there : Bool) → P there = λ there. elim there as P [ true ↦ λ e. are | false ↦ λ e. firsts_push names name are e ] in
    cases (list_any (bytes_eq name) names) refl

firsts_behind : (front back : List (List ℕ)) → AreFirsts (distinct_names front) → AreFirsts (distinct_names (front ++ back))
firsts_behind front [] are = rw (append-nil front) are
firsts_behind front (name ∷ back) are =
    let next : AreFirsts (distinct_names (front ++ name ∷ [])) = rw (distinct_push bytes_eq front name) (firsts_added (distinct_names front) name are) in
    subst (λ (names : List (List ℕ)). AreFirsts (distinct_names names)) (append_assoc front (name ∷ []) back)
    (firsts_behind (front ++ name ∷ []) back next)

pub distinct_firsts : (names : List (List ℕ)) → AreFirsts (distinct_names names)
unfolding distinct
distinct_firsts names = firsts_behind [] names (λ k below. absurd (omega arith))

-- a name is one of several where it is one of them, each once
any_behind : (front back : List (List ℕ)) (name : List ℕ) → is_among (distinct_names front) name ≡ is_among front name
    → is_among (distinct_names (front ++ back)) name ≡ is_among (front ++ back) name
any_behind front [] name are = rw (append-nil front) are
any_behind front (first ∷ back) name are =
    let next : is_among (distinct_names (front ++ first ∷ [])) name ≡ is_among (front ++ first ∷ []) name =
    ap (λ (names : List (List ℕ)). is_among names name) (distinct_push bytes_eq front first)
    ∙ among_added (distinct_names front) first name
    ∙ ap (λ (b : Bool). b || bytes_eq name first) are
    ∙ sym (list_any-append (bytes_eq name) front (first ∷ []) ∙ ap (λ (b : Bool). is_among front name || b) (or-false (bytes_eq name first))) in
    subst (λ (names : List (List ℕ)). is_among (distinct_names names) name ≡ is_among names name) (append_assoc front (first ∷ []) back)
    (any_behind (front ++ first ∷ []) back name next)

pub any_distinct : (names : List (List ℕ)) (name : List ℕ) → is_among (distinct_names names) name ≡ is_among names name
unfolding distinct
any_distinct names name = any_behind [] names name refl
