-- Objects that have no definition under the hash of a name: what a search of a list skips.
use Rattle.std.proofs.Common.{◌≡◌, ◌↔◌, ◌∙◌, ap, sym, subst, ℕ, zero, suc, ◌+◌, ◌<◌, ◌≤◌, Bool, true, false, cond, inl, inr, List, [], ◌∷◌, length, drop, get_or, refl, arith, le-leb}
use Rattle.std.specs.Prelude.{◌==◌, ◌&&◌, ◌||◌, not, nat_le, option_map, Option, Some, None}
use Rattle.std.specs.List.{AllByRecursion, slice_get}
use Rattle.std.specs.Str.{bytes_eq}
use Rattle.std.proofs.lemmas.Bool.{and_from, and_parts}
use Rattle.std.proofs.lemmas.List.{drop_all, drop_more}
use Rattle.std.proofs.lemmas.List.Elements.{All-from_recursion}
use Rattle.std.proofs.lemmas.Option.{get_or_from_slice_get, slice_get_within}
use Rattle.std.proofs.lemmas.Slice.Eq.{bytes_eq-Decides}
use Rattle.ld_base.specs.declared.linking.Loaded.{Loaded}
use Rattle.ld_base.specs.declared.linking.Want.{Want}
use Rattle.ld_base.specs.declared.object.Object.{Object}
use Rattle.ld_base.specs.Pick.{is_offer, is_wanted, pick_of}
use Rattle.ld_base.specs.Symbol.{is_hidden_version, is_visible_definition, version_index}
use Rattle.ld_base.specs.Taken.{Exports, Takes}
use Rattle.sym_hash.specs.Hash.{gnu_hash}
use Rattle.scope_rule.specs.Choose.{first_with, pick_at}
use Rattle.scope_rule.specs.Loading.{object_of}
use Rattle.scope_rule.specs.Seen.{Seen}
use Rattle.scope_lists.specs.Definers.{AreDefiners, Defines, DefinesAt, IsNextDefiner, object_of_entry}
use Rattle.scope_lists.specs.Lists.{IsSearched}
use Rattle.scope_lists.specs.NameOrder.{is_offered}
use Rattle.scope_lists.specs.Searched.{serials_in}
use Rattle.scope_lists.specs.declared.definers.Definer.{Definer}
use Rattle.scope_lists.specs.declared.searched.Searched.{Searched}
use Rattle.sym_lookup.proofs.Searches.{first_none, first_some}
use Rattle.sym_lookup.specs.Looking.{outside}

-- what a definition that is taken is
abbrev pub Law : Type 0
Law = (o : Object) (name : List ℕ) (w : Want) (k : ℕ) → (pick_of o name w ≡ Some k) ↔ Takes o name w k

module _ (o : Object) (name : List ℕ) (w : Want) where
  -- a definition of a name is one under the hash of the name
  defines : (k : ℕ) → Exports o (is_offer o name) k → Defines o (gnu_hash name)
  defines k (from, s, at, offer) =
      let named = and_parts (is_visible_definition s && bytes_eq s.name name) (not o.has_versym || not (version_index s == 0)) offer in
      let visible = and_parts (is_visible_definition s) (bytes_eq s.name name) named.0 in
      let same : s.name ≡ name = (bytes_eq-Decides s.name name).0 visible.1 in
      let passes : is_offered o s ≡ true = and_from (is_visible_definition s) (not o.has_versym || not (version_index s == 0)) visible.0 named.1 in
      (k, record { exported = rw at (and_from (nat_le o.first_exported k) (is_offered o s) (le-leb o.first_exported k from) passes); hashed = rw at (ap gnu_hash same) })

  taken_defines : (k : ℕ) → Takes o name w k → Defines o (gnu_hash name)
  taken_defines k (inl ((from, s, at, fit), least)) = defines k (from, s, at, (and_parts (is_offer o name s) (not o.has_versym || is_wanted o w s) fit).0)
  taken_defines k (inr (names, none, ((from, s, at, seen), only))) = defines k (from, s, at, (and_parts (is_offer o name s) (not (is_hidden_version s)) seen).0)

  pub none_taken : Law → (Defines o (gnu_hash name) → ⊥) → pick_of o name w ≡ None
  none_taken law none = by (pick_of o name w) refl
    where
      by : (found : Option ℕ) → pick_of o name w ≡ found → pick_of o name w ≡ None
      by None is = is
      by (Some k) is = absurd (none (taken_defines k ((law o name w k).0 is)))

module _ (name : List ℕ) (w : Want) where
  abbrev pick_on : Option Loaded → Option ℕ
  pick_on (Some o) = pick_of o.object name w
  pick_on None = None

  none_on : (found : Option Loaded) → ((o : Loaded) → found ≡ Some o → pick_of o.object name w ≡ None) → pick_on found ≡ None
  none_on None all = refl
  none_on (Some o) all = all o refl

module _ (law : Law) (s : Seen) (name : List ℕ) (w : Want) where
  -- an entry whose object has none
  none_there : (x : Searched) → (x.serial == 0) ≡ false → IsSearched s x → ((o : Object) → object_of_entry s.objects (Some x) ≡ Some o → Defines o (gnu_hash name) → ⊥) → pick_at s name w x.serial ≡ None
  unfolding pick_at
  none_there x other is none =
      rw other (none_on name w (object_of s x.serial) (λ o there. none_taken o.object name w law (none o.object (ap (option_map (λ (y : Loaded). y.object)) (is ∙ there)))))

  -- from one place of a list to another where none has one
  module _ (copy : Bool) (owner : ℕ) where
    abbrev asked : ℕ → Option ℕ
    asked = outside copy owner (pick_at s name w)

    left_out : (serial : ℕ) → pick_at s name w serial ≡ None → asked serial ≡ None
    left_out serial none = by (copy && serial == owner)
      where
        by : (b : Bool) → cond b None (pick_at s name w serial) ≡ None
        by true = refl
        by false = none

    skipped : (xs : List Searched) (from next : ℕ) → from ≤ next → ((place : ℕ) (x : Searched) → from ≤ place → place < next → slice_get xs place ≡ Some x → asked x.serial ≡ None)
        → first_with asked (serials_in (drop from xs)) ≡ first_with asked (serials_in (drop next xs))
    skipped [] zero zero le none = refl
    skipped [] zero (suc next) le none = refl
    skipped [] (suc from) zero le none = refl
    skipped [] (suc from) (suc next) le none = refl
    skipped (x ∷ xs) zero zero le none = refl
    skipped (x ∷ xs) zero (suc next) le none = first_none asked x.serial (serials_in xs) (none 0 x (omega arith) (omega arith) refl) ∙ skipped xs zero next (omega arith) (λ place y low high. none (suc place) y (omega arith) (omega arith))
    skipped (x ∷ xs) (suc from) zero le none = absurd (omega arith)
    skipped (x ∷ xs) (suc from) (suc next) le none = skipped xs from next (omega arith) (λ place y low high. none (suc place) y (omega arith) (omega arith))

    module _ (list : List Searched) (definers : List Definer) (from hash : ℕ) (are : AreDefiners s.objects list definers) (searched : AllByRecursion (IsSearched s) list) (hashed : hash ≡ gnu_hash name) where
      -- an entry whose object has no definition under the hash
      passed_by : (place : ℕ) (x : Searched) → slice_get list place ≡ Some x → (DefinesAt s.objects list hash place → ⊥) → asked x.serial ≡ None
      passed_by place x here none =
          let lt = slice_get_within list place x here in
          let at : get_or list place x ≡ x = get_or_from_slice_get list place x x here in
          let other : (x.serial == 0) ≡ false = rw at at (are.others place x lt) in
          let is : IsSearched s x = subst (IsSearched s) at (All-from_recursion (IsSearched s) list searched place x lt) in
          left_out x.serial (none_there x other is (λ o stands defined. none (record { object = o; stands = ap (object_of_entry s.objects) here ∙ stands; defines = subst (Defines o) (sym hashed) defined })))

      pub skipped_to : (next : ℕ) → IsNextDefiner s.objects list hash from (Some next) → first_with asked (serials_in (drop from list)) ≡ first_with asked (serials_in (drop next list))
      skipped_to next first = skipped list from next first.behind (λ place x low high here. passed_by place x here (λ defines. (let le = first.first place low defines in absurd (omega (arith, le)))))

      pub skipped_all : IsNextDefiner s.objects list hash from None → from ≤ length list → first_with asked (serials_in (drop from list)) ≡ None
      skipped_all none le = skipped list from (length list) le (λ place x low high here. passed_by place x here (none place low)) ∙ ap (λ (xs : List Searched). first_with asked (serials_in xs)) (drop_all (length list) list (omega arith))

-- the search of what is left from a place on, which has an entry
one_more : (list : List Searched) (place : ℕ) (x : Searched) → place < length list → x ≡ get_or list place x → drop place list ≡ x ∷ drop (place + 1) list
one_more list place x lt is = drop_more list place x lt ∙ ap (λ (y : Searched). y ∷ drop (place + 1) list) (sym is)

pub one_asked : (pick : ℕ → Option ℕ) (list : List Searched) (place : ℕ) (x : Searched) → place < length list → x ≡ get_or list place x → pick x.serial ≡ None
    → first_with pick (serials_in (drop place list)) ≡ first_with pick (serials_in (drop (place + 1) list))
one_asked pick list place x lt is none = ap (λ (xs : List Searched). first_with pick (serials_in xs)) (one_more list place x lt is) ∙ first_none pick x.serial (serials_in (drop (place + 1) list)) none

pub one_has : (pick : ℕ → Option ℕ) (list : List Searched) (place index : ℕ) (x : Searched) → place < length list → x ≡ get_or list place x → pick x.serial ≡ Some index
    → first_with pick (serials_in (drop place list)) ≡ Some (x.serial, index)
one_has pick list place index x lt is some = ap (λ (xs : List Searched). first_with pick (serials_in xs)) (one_more list place x lt is) ∙ first_some pick x.serial (serials_in (drop (place + 1) list)) index some
