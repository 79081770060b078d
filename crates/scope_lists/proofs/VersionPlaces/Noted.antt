-- Places of versions.
use Rattle.std.proofs.Common.{◌≡◌, ℕ, ◌+◌, ◌<◌, ◌≤◌, ◌==◌, Bool, true, false, cond, inl, inr, List, [], ◌∷◌, ◌++◌, length, get_or, map, take, refl, sym, ap, ◌∙◌, arith}
use Rattle.std.specs.Prelude.{◌&&◌, not, max, find, fold, position, option_map, slice_get, slice_index_or, Option, Some, None}
use Rattle.std.specs.List.{range_with_len}
use Rattle.std.specs.Option.{option_or}
use Rattle.std.proofs.lemmas.Bool.{cases_Bool, cases_lt, eqb-true}
use Rattle.std.proofs.lemmas.Grind.{common_steps}
use Rattle.std.proofs.lemmas.List.{take_more, get_or_past}
use Rattle.std.proofs.lemmas.List.FromFn.{get_or-map-range_with_len, length-map-range_with_len}
use Rattle.std.proofs.lemmas.List.Quantifiers.{position-Some}
use Rattle.std.proofs.lemmas.Option.{slice_get-get_or}
use Rattle.ld_base.specs.Version.{is_base, verdef_of, verneed_of, version_name}
use Rattle.ld_base.specs.declared.object.Object.{Object}
use Rattle.ld_base.specs.declared.object.Verdef.{Verdef}
use Rattle.ld_base.specs.declared.object.Verneed.{Verneed}
use Rattle.scope_rule.specs.Lemmas.Placed.{found_by, none_by, position_pushed}
use Rattle.scope_lists.specs.VersionPlaces.Noted.{noted_at, places_in}
use Rattle.scope_lists.specs.VersionPlaces.Places.{indexes_of, name_in, past, place_of, places_of}
use Rattle.scope_lists.specs.declared.version_places.names.VersionPlace.{VersionPlace}
use Rattle.scope_lists.specs.declared.version_places.names.VersionPlace.TheVariants.{Defined, Needed}
use Rattle.scope_lists.specs.declared.version_places.noting.Noted.{Noted}

-- ---- one more at the end

joined : (to : ℕ → VersionPlace) (before : Option VersionPlace) (found : Option ℕ) (n : ℕ) (own : Bool)
    → option_or (option_or before (option_map to found)) (cond own (Some (to n)) None) ≡ option_or before (option_map to (option_or found (cond own (Some n) None)))
joined to (Some x) found n own = refl
joined to None (Some k) n own = refl
joined to None None n true = refl
joined to None None n false = refl

-- what is noted of so many, and then of one more
pub noted_more : {X : Type 0} (p : X → Bool) (to : ℕ → VersionPlace) (xs : List X) (i : ℕ) (x : X) (before old new : Option VersionPlace) → i < length xs → x ≡ get_or xs i x
    → old ≡ option_or before (option_map to (position p (take i xs))) → new ≡ option_or old (cond (p x) (Some (to i)) None) → new ≡ option_or before (option_map to (position p (take (i + 1) xs)))
noted_more p to xs i x before old new within is so_far step =
    let long : length (take i xs) ≡ i = grind (arith, common_steps) in
    let more : take (i + 1) xs ≡ take i xs ++ x ∷ [] = take_more xs i x within ∙ ap (λ y. take i xs ++ y ∷ []) (sym is) in
    step
    ∙ ap (λ o. option_or o (cond (p x) (Some (to i)) None)) so_far
    ∙ joined to before (position p (take i xs)) i (p x)
    ∙ ap (λ n. option_or before (option_map to (option_or (position p (take i xs)) (cond (p x) (Some n) None)))) (sym long)
    ∙ ap (λ o. option_or before (option_map to o)) (sym (position_pushed p (take i xs) x) ∙ ap (position p) (sym more))

-- ---- the greatest index

folded_from : {X : Type 0} (f : X → ℕ) (xs : List X) (n : ℕ) → fold (λ m x. max m (f x + 1)) n xs ≡ max n (past (map f xs))
folded_from f [] n = omega arith
folded_from f (x ∷ xs) n = folded_from f xs (max n (f x + 1)) ∙ omega arith

pub folded : {X : Type 0} (f : X → ℕ) (xs : List X) → fold (λ m x. max m (f x + 1)) 0 xs ≡ past (map f xs)
folded f xs = folded_from f xs 0 ∙ omega arith

-- no entry has an index past the greatest
none_past : {X : Type 0} (f : X → ℕ) (p : X → Bool) (index : ℕ) (xs : List X) → ((x : X) → p x ≡ true → f x ≡ index) → past (map f xs) ≤ index → position p xs ≡ None
none_past f p index [] has low = refl
none_past f p index (x ∷ xs) has low =
    elim (cases_Bool (p x)) [
      | inl taken ↦ absurd (let same : f x ≡ index = has x taken in omega arith)
      | inr other ↦ grind (arith, common_steps, none_past f p index xs has (omega arith))
    ]

-- ---- the place of an index

pub place_there : (o : Object) (index : ℕ) → slice_index_or (places_of o) index None ≡ place_of o index
unfolding places_of
place_there o index =
    elim (cases_lt index (indexes_of o)) [
      | inl lt ↦ get_or-map-range_with_len (place_of o) 0 (indexes_of o) index index None lt (omega arith)
      | inr past_all ↦
          let long : length (map (place_of o) (range_with_len 0 (indexes_of o))) ≡ indexes_of o = length-map-range_with_len (place_of o) 0 (indexes_of o) in
          let none_defined : position (λ (d : Verdef). d.index == index && not (is_base d)) o.verdefs ≡ None =
          none_past (λ (d : Verdef). d.index) (λ (d : Verdef). d.index == index && not (is_base d)) index o.verdefs (λ d are. first d.index (is_base d) are) (omega arith) in
          let none_needed : position (λ (n : Verneed). n.index == index) o.verneeds ≡ None =
          none_past (λ (n : Verneed). n.index) (λ (n : Verneed). n.index == index) index o.verneeds (λ n are. eqb-true n.index index are) (omega arith) in
          get_or_past (map (place_of o) (range_with_len 0 (indexes_of o))) index None (omega arith) ∙ sym (rw (none_defined, none_needed) refl)
    ]
  where
    both : (one other : Bool) → (one && other) ≡ true → one ≡ true
    both true other are = refl
    both false other are = absurd (cc)

    first : (n : ℕ) (base : Bool) → (n == index && not base) ≡ true → n ≡ index
    first n base are = eqb-true n index (both (n == index) (not base) are)

-- ---- the name of an index

-- the first of two that there is, by their places
by_first : {X : Type 0} (p : X → Bool) (xs : List X) (name : X → List ℕ) (k : ℕ) (other : Option (List ℕ)) → position p xs ≡ Some k → option_map name (slice_get xs k) ≡ option_or (option_map name (find p xs)) other
by_first p [] name k other at = absurd (cc at)
by_first p (x ∷ xs) name k other at =
    let within : k < length (x ∷ xs) = (position-Some p (x ∷ xs) k x at).0 in
    let there : slice_get (x ∷ xs) k ≡ Some (get_or (x ∷ xs) k x) = slice_get-get_or (x ∷ xs) k x within in
    let found : find p (x ∷ xs) ≡ Some (get_or (x ∷ xs) k x) = sym (found_by p (x ∷ xs) k at) ∙ there in
    ap (option_map name) there ∙ sym (ap (λ o. option_or (option_map name o) other) found)

abbrev place_by : Option ℕ → Option ℕ → Option VersionPlace
place_by one other = option_or (option_map Defined one) (option_map Needed other)

named_by : (o : Object) (index : ℕ) (one other : Option ℕ) → position (λ (d : Verdef). d.index == index && not (is_base d)) o.verdefs ≡ one → position (λ (n : Verneed). n.index == index) o.verneeds ≡ other
    → name_in o (place_by one other) ≡ version_name o index
named_by o index (Some k) other first second =
    by_first (λ (d : Verdef). d.index == index && not (is_base d)) o.verdefs (λ (d : Verdef). d.name) k (option_map (λ (n : Verneed). n.name) (verneed_of o.verneeds index)) first
named_by o index None (Some k) first second =
    let none : None ≡ verdef_of o.verdefs index = none_by (λ (d : Verdef). d.index == index && not (is_base d)) o.verdefs first in
    ap (option_map (λ (n : Verneed). n.name)) (found_by (λ (n : Verneed). n.index == index) o.verneeds k second)
    ∙ ap (λ (x : Option Verdef). option_or (option_map (λ (d : Verdef). d.name) x) (option_map (λ (n : Verneed). n.name) (verneed_of o.verneeds index))) none
named_by o index None None first second =
    let none : None ≡ verdef_of o.verdefs index = none_by (λ (d : Verdef). d.index == index && not (is_base d)) o.verdefs first in
    let none_needed : None ≡ verneed_of o.verneeds index = none_by (λ (n : Verneed). n.index == index) o.verneeds second in
    ap (λ (x : Option Verneed). option_map (λ (n : Verneed). n.name) x) none_needed
    ∙ ap (λ (x : Option Verdef). option_or (option_map (λ (d : Verdef). d.name) x) (option_map (λ (n : Verneed). n.name) (verneed_of o.verneeds index))) none

pub named : (o : Object) (index : ℕ) → name_in o (place_of o index) ≡ version_name o index
named o index =
    named_by o index (position (λ (d : Verdef). d.index == index && not (is_base d)) o.verdefs) (position (λ (n : Verneed). n.index == index) o.verneeds) refl refl

-- ---- all places

pub then_needed : (o : Object) (k : ℕ) (before defined needed : Option VersionPlace) → before ≡ None → defined ≡ option_or before (option_map Defined (position (λ (d : Verdef). d.index == k && not (is_base d)) o.verdefs))
    → needed ≡ option_or defined (option_map Needed (position (λ (n : Verneed). n.index == k) o.verneeds)) → needed ≡ place_of o k
then_needed o k before defined needed first second third =
    third
    ∙ ap (λ (x : Option VersionPlace). option_or x (option_map Needed (position (λ (n : Verneed). n.index == k) o.verneeds)))
    (second ∙ ap (λ (x : Option VersionPlace). option_or x (option_map Defined (position (λ (d : Verdef). d.index == k && not (is_base d)) o.verdefs))) first)

-- what is noted is what is there
same_places : (one other : ℕ → Option VersionPlace) (ks : List ℕ) → ((k : ℕ) → one k ≡ other k) → map one ks ≡ map other ks
same_places one other [] each = refl
same_places one other (k ∷ ks) each = ap (λ p. p ∷ map one ks) (each k) ∙ ap (λ ps. other k ∷ ps) (same_places one other ks each)

pub all_noted : (o : Object) (noted : Noted) (n : ℕ) → n ≡ indexes_of o → ((k : ℕ) → noted_at noted k ≡ place_of o k) → places_in noted n ≡ places_of o
unfolding places_of
all_noted o noted n long each = ap (places_in noted) long ∙ same_places (noted_at noted) (place_of o) (range_with_len 0 (indexes_of o)) each

-- the place of an index among them
pub place_in : (noted : Noted) (n index : ℕ) → index < n → noted_at noted index ≡ slice_index_or (places_in noted n) index None
place_in noted n index lt = sym (get_or-map-range_with_len (noted_at noted) 0 n index index None lt (omega arith))

pub place_past : (noted : Noted) (n index : ℕ) → n ≤ index → None ≡ slice_index_or (places_in noted n) index None
place_past noted n index past_all =
    let long : length (places_in noted n) ≡ n = length-map-range_with_len (noted_at noted) 0 n in
    sym (get_or_past (places_in noted n) index None (omega arith))
