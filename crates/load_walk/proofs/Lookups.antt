-- What a load looks up by name.
use Rattle.std.proofs.Common.{◌≡◌, ℕ, ◌==◌, ◌+◌, ◌<◌, Bool, true, false, ◌||◌, inl, inr, List, [], ◌∷◌, ◌++◌, length, get_or, take, Some, None, Option, cond, refl, subst, sym, ap, ◌∙◌, arith}
use Rattle.std.specs.Prelude.{nat_eq, position, IfSome}
use Rattle.std.specs.Global.{Vec}
use Rattle.std.specs.List.{list_any}
use Rattle.std.specs.Option.{option_or, is_some}
use Rattle.std.specs.Str.{bytes_eq}
use Rattle.std.proofs.Math.Bool.{or-false}
use Rattle.std.proofs.lemmas.Bool.{cases_Bool, eqb-true}
use Rattle.std.proofs.lemmas.Cmp.{nat_list_eq_equiv}
use Rattle.std.proofs.lemmas.List.{length-take-le, take_more}
use Rattle.std.proofs.lemmas.List.Folds.{list_any-append}
use Rattle.std.proofs.lemmas.Slice.Eq.{bytes_eq-Decides}
use Rattle.indexmap.specs.IndexMap.{insert_entry}
use Rattle.indexmap.specs.IndexSet.{insert_key}
use Rattle.ld_base.specs.Version.{is_base}
use Rattle.ld_base.specs.declared.linking.Loaded.{Loaded}
use Rattle.ld_base.specs.declared.object.Object.{Object}
use Rattle.ld_base.specs.declared.object.Verdef.{Verdef}
use Rattle.scope_rule.specs.Finding.{is_named}
use Rattle.scope_rule.specs.Lemmas.Placed.{position_pushed}
use Rattle.scope_rule.specs.Needed.{defines}
use Rattle.load_walk.specs.declared.lookup.Defined.{Defined}
use Rattle.load_walk.specs.declared.places.ObjectPlaces.{ObjectPlaces}
use Rattle.load_walk.specs.Lookup.{named, place_of, IsKnown, Knows}
use Rattle.load_walk.specs.Places.{NotesObject, AreObjectPlaces}
use Rattle.load_walk.proofs.Missing.{same_path}

-- the element behind the first n
pub one_further : {X : Type 0} (p : X → Bool) (xs : List X) (n : ℕ) (x : X) → n < length xs → x ≡ get_or xs n x → position p (take (n + 1) xs) ≡ option_or (position p (take n xs)) (cond (p x) (Some n) None)
one_further {X} p xs n x lt is =
    let all : length (take n xs) ≡ n = length-take-le n xs (omega arith) in
    let further : take (n + 1) xs ≡ take n xs ++ x ∷ [] = take_more xs n x lt ∙ ap (λ (y : X). take n xs ++ y ∷ []) (sym is) in
    ap (λ (ys : List X). position p ys) further ∙ position_pushed p (take n xs) x ∙ ap (λ (m : ℕ). option_or (position p (take n xs)) (cond (p x) (Some m) None)) all

-- a new name takes its place: by its own bytes
pub place_added : (places : List (Vec ℕ × ℕ)) (name : Vec ℕ) (other : List ℕ) (n : ℕ) → is_some (place_of places name.items) ≡ false → place_of (insert_entry same_path places name n) other ≡ option_or (place_of places other) (cond (bytes_eq name.items other) (Some n) None)
place_added [] name other n new = rw (nat_list_eq_equiv.symm name.items other) refl
place_added ((key, place) ∷ places) name other n new =
    elim (cases_Bool (bytes_eq name.items key.items)) [
      | inl same ↦ absurd (let there : true ≡ false = rw same at new in cc)
      | inr apart ↦ rw apart (elim (bytes_eq other key.items) as (λ v. cond v (Some place) (place_of (insert_entry same_path places name n) other) ≡ option_or (cond v (Some place) (place_of places other)) (cond (bytes_eq name.items other) (Some n) None))
          [ true ↦ refl | false ↦ place_added places name other n (rw apart at new) ])
    ]

-- ---- the places of objects

module _ {X : Type 0} (path : X → List ℕ) (object : X → Object) where
  -- one object more, at the end, or behind the first n
  pub place_pushed : (xs : List X) (x : X) (old new : ObjectPlaces) → AreObjectPlaces path object xs old → NotesObject old new (path x) (object x) (length xs) → AreObjectPlaces path object (xs ++ x ∷ []) new
  place_pushed xs x old new are adds = record {
    paths = λ name. adds.paths name ∙ rw (are.paths name) (sym (position_pushed (λ y. bytes_eq (path y) name) xs x));
    sonames = λ name. adds.sonames name ∙ rw (are.sonames name) (sym (position_pushed (λ y. is_named name (object y)) xs x));
  }

  pub place_further : (xs : List X) (n : ℕ) (x : X) (old new : ObjectPlaces) → n < length xs → x ≡ get_or xs n x → AreObjectPlaces path object (take n xs) old → NotesObject old new (path x) (object x) n → AreObjectPlaces path object (take (n + 1) xs) new
  place_further xs n x old new lt is are adds = record {
    paths = λ name. adds.paths name ∙ rw (are.paths name) (sym (one_further (λ y. bytes_eq (path y) name) xs n x lt is));
    sonames = λ name. adds.sonames name ∙ rw (are.sonames name) (sym (one_further (λ y. is_named name (object y)) xs n x lt is));
  }

-- ---- the versions of an object

-- a name that is there already adds nothing
known_name : (names : List (Vec ℕ)) (name : Vec ℕ) (bytes : List ℕ) → list_any (same_path name) names ≡ true → named names bytes ≡ (named names bytes || bytes_eq bytes name.items)
known_name names name bytes there =
    elim (cases_Bool (bytes_eq bytes name.items)) [
      | inl same ↦ let all : named names bytes ≡ true = rw ((bytes_eq-Decides bytes name.items).0 same) there in rw all refl
      | inr other ↦ rw (other, or-false) refl
    ]

-- an insertion adds its name
pub named_inserted : (names : List (Vec ℕ)) (name : Vec ℕ) (bytes : List ℕ) → named (insert_key same_path names name) bytes ≡ (named names bytes || bytes_eq bytes name.items)
named_inserted names name bytes =
    elim (cases_Bool (list_any (same_path name) names)) [
      | inl there ↦ rw there (known_name names name bytes there)
      | inr new ↦ rw new (list_any-append (λ (n : Vec ℕ). bytes_eq bytes n.items) names (name ∷ []) ∙ ap (λ b. named names bytes || b) (or-false (bytes_eq bytes name.items)))
    ]

-- the name of an entry that isn't of the base
pub defines_name : (verdef : Verdef) (version name : List ℕ) → name ≡ verdef.name → is_base verdef ≡ false → bytes_eq version name ≡ defines version verdef
defines_name verdef version name is own = rw (is, nat_list_eq_equiv.symm version verdef.name, own) refl

-- ---- what is known of the versions of objects

pub known_answers : (objects : List Loaded) (known : ℕ → Option Defined) (serial : ℕ) (defined : Defined) → Knows objects known → known serial ≡ Some defined → IsKnown objects serial defined
known_answers objects known serial defined knows found = subst (λ (o : Option Defined). IfSome o (IsKnown objects serial)) found (knows serial)

-- one more is known
pub known_more : (objects : List Loaded) (old new : ℕ → Option Defined) (serial : ℕ) (defined : Defined) → Knows objects old → IsKnown objects serial defined → ((q : ℕ) → new q ≡ cond (nat_eq serial q) (Some defined) (old q)) → Knows objects new
known_more objects old new serial defined knows here updates q =
    subst (λ (o : Option Defined). IfSome o (IsKnown objects q)) (sym (updates q)) (by (serial == q) refl)
  where
    by : (same : Bool) → (serial == q) ≡ same → IfSome (cond same (Some defined) (old q)) (IsKnown objects q)
    by true same = subst (λ n. IsKnown objects n defined) (eqb-true serial q same) here
    by false other = knows q
