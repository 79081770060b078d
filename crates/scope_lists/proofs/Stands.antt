-- What stands where.
use Rattle.std.proofs.Common.{◌≡◌, ℕ, zero, suc, ◌+◌, ◌<◌, ◌≤◌, ◌==◌, Bool, true, false, cond, inl, inr, List, [], ◌∷◌, ◌++◌, length, map, take, refl, subst, sym, ap, append-nil, eq-eqb, get_or, ◌∙◌, arith}
use Rattle.std.specs.Prelude.{nat_eq, not, ◌||◌, filter, flat_map, option_map, unwrap_or, IfOk, IfSome, IsSome, OnOk, Option, Some, None, Result, Ok, Err}
use Rattle.std.specs.declared.alloc.AllocError.{AllocError}
use Rattle.std.specs.Map.{lookup}
use Rattle.std.specs.List.{AllByRecursion, list_any, slice_get}
use Rattle.std.proofs.lemmas.Bool.{cases_Bool, eqb-true}
use Rattle.std.proofs.lemmas.Grind.{common_steps, flat_map-append}
use Rattle.std.proofs.lemmas.List.{length-map, take_more}
use Rattle.std.proofs.lemmas.List.Quantifiers.{position-Some}
use Rattle.std.proofs.lemmas.Option.{slice_get-map, slice_get_within}
use Rattle.ld_base.specs.declared.linking.Loaded.{Loaded}
use Rattle.scope_rule.specs.Loading.{found_of, is_dying, is_dying_at, object_of, with_serial}
use Rattle.scope_rule.specs.Breadth.{breadth, extend}
use Rattle.scope_rule.specs.Choose.{first_with}
use Rattle.scope_rule.specs.Lemmas.Placed.{none_found, object_found}
use Rattle.scope_rule.specs.Seen.{Seen}
use Rattle.scope_rule.specs.declared.namespace.OpenRec.{OpenRec}
use Rattle.scope_lists.specs.Brought.{brought_to}
use Rattle.scope_lists.specs.Definers.{AreDefiners}
use Rattle.scope_lists.specs.Kept.{ArePlaced, AreScopes, IsScope, KeepsAll, entry_in, kept_at, kept_in}
use Rattle.scope_lists.specs.Links.{AreLinks, found_once}
use Rattle.scope_lists.specs.Lists.{AreListed, AreListsOf, ArePartsOf, IsListed, IsListedAt, IsSearched}
use Rattle.scope_rule.specs.Places.{place_in, serials_of}
use Rattle.scope_lists.specs.Searched.{at_place, in_parts, serials_in}
use Rattle.scope_lists.specs.declared.definers.Definer.{Definer}
use Rattle.scope_lists.specs.declared.kept.KeptScope.{KeptScope}
use Rattle.scope_lists.specs.declared.kept.KeptScopes.{KeptScopes}
use Rattle.scope_lists.specs.declared.links.Links.{Links}
use Rattle.scope_lists.specs.declared.lists.SearchLists.{SearchLists}
use Rattle.scope_lists.specs.declared.searched.ScopeParts.{ScopeParts}
use Rattle.scope_lists.specs.declared.searched.Searched.{Searched}
use Rattle.scope_lists.specs.VersionPlaces.Places.{places_of}
use Rattle.scope_lists.specs.declared.version_places.names.VersionPlace.{VersionPlace}

-- ---- the first place of a serial

-- links know the first place of a serial
pub at_first : (s : Seen) (links : Links) → AreLinks s links → (q : ℕ) → place_in links.places q ≡ place_in (serials_of s) q
at_first s links are q = ap (λ (l : List ℕ). place_in l q) are.places

-- a place that is the first of a serial has its object
pub placed : (s : Seen) (q : ℕ) (place : Option ℕ) → place ≡ place_in (serials_of s) q → at_place s place ≡ object_of s q
placed s q None at = none_found s q (sym at)
placed s q (Some k) at = object_found s q k (slice_get s.objects k) (sym at) refl

-- so has the first place of the serial of an object that is there
pub found_place : (s : Seen) (q k : ℕ) (place : Option ℕ) (o : Loaded) → at_place s place ≡ object_of s q → place ≡ Some k → object_of s q ≡ Some o → slice_get s.objects k ≡ Some o
found_place s q k place o at is there = ap (at_place s) (sym is) ∙ at ∙ there

pub no_place : {X : Type 0} (s : Seen) (q : ℕ) (place : Option ℕ) (o : Loaded) → at_place s place ≡ object_of s q → place ≡ None → object_of s q ≡ Some o → X
no_place s q place o at is there = absurd (let no : None ≡ Some o = ap (at_place s) (sym is) ∙ at ∙ there in cc no)

-- there is an object at such a place
one_at : (objects : List Loaded) (k : ℕ) → k < length objects → (o : Loaded) × (slice_get objects k ≡ Some o)
one_at [] k lt = absurd (omega arith)
one_at (o ∷ rest) zero lt = (o, refl)
one_at (o ∷ rest) (suc k) lt = one_at rest k (omega arith)

object_there : (s : Seen) (q k : ℕ) → place_in (serials_of s) q ≡ Some k → (o : Loaded) × (slice_get s.objects k ≡ Some o)
object_there s q k at = one_at s.objects k (omega (arith, (position-Some (λ n. n == q) (serials_of s) k 0 at).0, length-map s.objects (λ (o : Loaded). o.serial)))

-- ---- what the openings bring

-- one opening more
pub opening_more : (s : Seen) (opens : List OpenRec) (k q : ℕ) (r : OpenRec) (so_far new : List ℕ) → k < length opens → r ≡ get_or opens k r → so_far ≡ flat_map (λ (x : OpenRec). brought_to (breadth s x.root) q) (take k opens)
    → new ≡ so_far ++ brought_to (breadth s r.root) q → new ≡ flat_map (λ (x : OpenRec). brought_to (breadth s x.root) q) (take (k + 1) opens)
opening_more s opens k q r so_far new lt is were are =
    let f = λ (x : OpenRec). brought_to (breadth s x.root) q in
    let more : take (k + 1) opens ≡ take k opens ++ r ∷ [] = take_more opens k r lt ∙ ap (λ (y : OpenRec). take k opens ++ y ∷ []) (sym is) in
    are ∙ ap (λ (l : List ℕ). l ++ f r) were ∙ ap (λ (l : List ℕ). flat_map f (take k opens) ++ l) (sym (append-nil (f r))) ∙ sym (flat_map-append f (take k opens) (r ∷ [])) ∙ ap (flat_map f) (sym more)

pub brought_found : (r : Result (List ℕ) AllocError) (kept brought : List ℕ) → kept ≡ brought → IfOk r (λ found. found ≡ kept) → IfOk r (λ found. found ≡ brought)
brought_found (Ok found) kept brought are is = is ∙ are
brought_found (Err e) kept brought are is = tt

-- ---- where nothing is closing

none_dying : (objects : List Loaded) (q : ℕ) → list_any is_dying objects ≡ false → elim (with_serial objects q) [ Some o ↦ is_dying o | None ↦ false ] ≡ false
none_dying [] q none = refl
none_dying (o ∷ rest) q none = grind (arith, common_steps, none_dying rest q)

kept_all : (p : ℕ → Bool) → ((x : ℕ) → p x ≡ true) → (xs : List ℕ) → xs ≡ filter p xs
kept_all p all [] = refl
kept_all p all (x ∷ xs) = rw (all x) (ap (λ (ys : List ℕ). x ∷ ys) (kept_all p all xs))

pub sees_all : (s : Seen) (o : Loaded) (xs : List ℕ) → (is_dying o || not (list_any is_dying s.objects)) ≡ true → xs ≡ filter (λ x. is_dying o || not (is_dying_at s x)) xs
sees_all s o xs sees = kept_all (λ x. is_dying o || not (is_dying_at s x)) each xs
  where
    each : (x : ℕ) → (is_dying o || not (is_dying_at s x)) ≡ true
    each x = grind (arith, common_steps, none_dying s.objects x)

-- ---- what objects lead to

abbrev once_on : Option Loaded → List ℕ
once_on o = extend [] (elim o [ Some x ↦ x.found | None ↦ [] ])

once_at : (o : Option Loaded) → unwrap_or (option_map found_once o) [] ≡ once_on o
once_at None = refl
once_at (Some x) = refl

-- what is found of the object of a serial
found_is : (s : Seen) (q : ℕ) → (q == 0) ≡ false → once_on (object_of s q) ≡ extend [] (found_of s q)
found_is s q some = ap (λ (b : Bool). extend [] (cond b [] (elim (object_of s q) [ Some x ↦ x.found | None ↦ [] ]))) (sym some)

pub linked_there : (s : Seen) (q k : ℕ) (found : List (List ℕ)) → (q == 0) ≡ false → place_in (serials_of s) q ≡ Some k → found ≡ map found_once s.objects → unwrap_or (slice_get found k) [] ≡ extend [] (found_of s q)
linked_there s q k found some at are =
    ap (λ (fs : List (List ℕ)). unwrap_or (slice_get fs k) []) are
    ∙ ap (λ (o : Option (List ℕ)). unwrap_or o []) (slice_get-map found_once s.objects k)
    ∙ once_at (slice_get s.objects k)
    ∙ ap once_on (object_found s q k (slice_get s.objects k) at refl)
    ∙ found_is s q some

pub linked_nowhere : (s : Seen) (q : ℕ) → (q == 0) ≡ false → place_in (serials_of s) q ≡ None → [] ≡ extend [] (found_of s q)
linked_nowhere s q some at = ap once_on (none_found s q at) ∙ found_is s q some

-- ---- the names of an object's versions

abbrev names_in : Loaded → List (Option VersionPlace)
names_in o = places_of o.object

pub names_there : (objects : List Loaded) (names : List (List (Option VersionPlace))) (k : ℕ) (o : Loaded) → names ≡ map (λ (x : Loaded). places_of x.object) objects → slice_get objects k ≡ Some o → slice_get names k ≡ Some (places_of o.object)
names_there objects names k o are here = ap (λ (ns : List (List (Option VersionPlace))). slice_get ns k) are ∙ slice_get-map names_in objects k ∙ ap (option_map names_in) here

-- ---- scopes that are kept

-- what is known of the same list is known still
known_still : (s : Seen) (old new : KeptScopes) → AreScopes s old → new.global.items ≡ old.global.items → new.definers ≡ old.definers → IfSome new.definers (AreDefiners s.objects new.global.items)
known_still s old new are same known =
    subst (λ (g : List Searched). IfSome new.definers (AreDefiners s.objects g)) (sym same) (subst (λ (d : Option (List Definer)). IfSome d (AreDefiners s.objects old.global.items)) (sym known) are.definers)

-- one more is kept
pub one_kept : (s : Seen) (old new : KeptScopes) (k : ℕ) (o : Loaded) (one : KeptScope) → AreScopes s old → new.global.items ≡ old.global.items → new.definers ≡ old.definers → slice_get s.objects k ≡ Some o → IsScope s old.global.items o one
    → ((q : ℕ) → kept_at new q ≡ cond (nat_eq k q) (Some one) (kept_at old q)) → AreScopes s new
one_kept s old new k o one are same known there right updates = record {
  global = same ∙ are.global;
  definers = known_still s old new are same known;
  each = λ q other found here has. subst (λ (g : List Searched). IsScope s g other found) (sym same) (by q other found here has);
}
  where
    by : (q : ℕ) (other : Loaded) (found : KeptScope) → slice_get s.objects q ≡ Some other → kept_at new q ≡ Some found → IsScope s old.global.items other found
    by q other found here has =
        elim (cases_Bool (nat_eq k q)) [
          | inl own ↦
              let e : k ≡ q = eqb-true k q own in
              let two : Some one ≡ Some found = ap (λ b. cond b (Some one) (kept_at old q)) (sym own) ∙ sym (updates q) ∙ has in
              let is : one ≡ found = cc two in
              let both : Some o ≡ Some other = sym there ∙ ap (slice_get s.objects) e ∙ here in
              let home : o ≡ other = cc both in
              subst (λ (x : Loaded). IsScope s old.global.items x found) home (subst (IsScope s old.global.items o) is right)
          | inr apart ↦ are.each q other found here (sym (updates q ∙ ap (λ b. cond b (Some one) (kept_at old q)) apart) ∙ has)
        ]

pub unchanged_kept : (s : Seen) (old new : KeptScopes) → AreScopes s old → new.global.items ≡ old.global.items → new.definers ≡ old.definers → new.by_place.entries ≡ old.by_place.entries → AreScopes s new
unchanged_kept s old new are same known entries = record {
  global = same ∙ are.global;
  definers = known_still s old new are same known;
  each = λ place o found here has. subst (λ (g : List Searched). IsScope s g o found) (sym same) (are.each place o found here (ap (lookup (nat_eq place)) (sym entries) ∙ has));
}

pub keeps_all : (old new : KeptScopes) (k : ℕ) (one : KeptScope) → ((q : ℕ) → kept_at new q ≡ cond (nat_eq k q) (Some one) (kept_at old q)) → KeepsAll old new
keeps_all old new k one updates q has =
    elim (cases_Bool (nat_eq k q)) [
      | inl same ↦ subst IsSome (sym (updates q ∙ ap (λ b. cond b (Some one) (kept_at old q)) same)) refl
      | inr apart ↦ subst IsSome (sym (updates q ∙ ap (λ b. cond b (Some one) (kept_at old q)) apart)) has
    ]

pub is_there : (old new : KeptScopes) (k : ℕ) (one : KeptScope) → ((q : ℕ) → kept_at new q ≡ cond (nat_eq k q) (Some one) (kept_at old q)) → IsSome (kept_at new k)
is_there old new k one updates = subst IsSome (sym (updates k ∙ ap (λ b. cond b (Some one) (kept_at old k)) (eq-eqb k k refl))) refl

-- what stands where it is noted is found there
all_searched : (s : Seen) (xs : List Searched) → ArePlaced (serials_of s) xs → AllByRecursion (IsSearched s) xs
all_searched s [] all = tt
all_searched s (x ∷ xs) all = (placed s x.serial x.place all.0, all_searched s xs all.1)

-- what is kept of an object are the parts of its scope
pub kept_parts : (s : Seen) (lists : SearchLists) (k : ℕ) (o : Loaded) (parts : ScopeParts) → AreListsOf s lists → IsListedAt lists k → slice_get s.objects k ≡ Some o
    → ((found : KeptScope) → kept_at lists.scopes k ≡ Some found → in_parts parts ≡ kept_in lists.scopes.global.items found)
    → (IfSome lists.scopes.definers (AreDefiners s.objects lists.scopes.global.items) → IfSome parts.definers (λ d. AreDefiners s.objects parts.global.now d.now)) → ArePartsOf s o parts
kept_parts s lists k o parts are has here gives known = by (kept_at lists.scopes k) refl has
  where
    global : List Searched
    global = lists.scopes.global.items

    by : (x : Option KeptScope) → kept_at lists.scopes k ≡ x → IsSome x → ArePartsOf s o parts
    by (Some found) is some =
        let one : IsScope s global o found = are.scopes.each k o found here is in
        let same : in_parts parts ≡ kept_in global found = gives found is in
        record {
          alike = λ pick. ap (λ (xs : List Searched). first_with pick (serials_in xs)) same ∙ one.alike pick;
          places = subst (AllByRecursion (IsSearched s)) (sym same) (all_searched s (kept_in global found) one.placed);
          definers = known are.scopes.definers;
        }
    by None is some = absurd (cc some)

-- none is kept at first
pub none_kept : (s : Seen) (places : List ℕ) (kept : KeptScopes) → places ≡ serials_of s → kept.global.items ≡ map (entry_in places) s.global → kept.definers ≡ None → ((place : ℕ) → kept_at kept place ≡ None) → AreScopes s kept
none_kept s places kept are global unknown none = record {
  global = global ∙ ap (λ (l : List ℕ). map (entry_in l) s.global) are;
  definers = subst (λ (d : Option (List Definer)). IfSome d (AreDefiners s.objects kept.global.items)) (sym unknown) tt;
  each = λ place o found here has. absurd (let no : None ≡ Some found = sym (none place) ∙ has in cc no);
}

-- where the objects stand of any namespace is the same
listed : (s : Seen) (before after : SearchLists) (q k : ℕ) → AreListsOf s before → AreListsOf s after → place_in before.links.places q ≡ Some k → ((o : Loaded) → slice_get s.objects k ≡ Some o → IsListedAt after k) → IsListed after q
listed s before after q k was are here there place at =
    let both : Some k ≡ Some place = sym here ∙ at_first s before.links was.links q ∙ sym (at_first s after.links are.links q) ∙ at in
    let same : k ≡ place = cc both in
    let one = object_there s q k (sym (at_first s before.links was.links q) ∙ here) in
    subst (IsListedAt after) same (there one.0 one.1)

-- each object that is there is listed, where all are
pub each_listed : (s : Seen) (lists : SearchLists) (q : ℕ) → AreListsOf s lists → AreListed s 0 lists → IsListed lists q
each_listed s lists q are all place at =
    let one = object_there s q place (sym (at_first s lists.links are.links q) ∙ at) in
    all place one.0 (omega arith) one.1

pub one_listed : (s : Seen) (before after : SearchLists) (q k : ℕ) (r : Result Unit AllocError) → AreListsOf s before → AreListsOf s after → place_in before.links.places q ≡ Some k
    → OnOk r ((o : Loaded) → slice_get s.objects k ≡ Some o → IsListedAt after k) → OnOk r (IsListed after q)
one_listed s before after q k (Ok x) was are here there = listed s before after q k was are here there
one_listed s before after q k (Err e) was are here there = tt

pub listed_from : (s : Seen) (first end : ℕ) (lists : SearchLists) (r : Result Unit AllocError) → end ≡ length s.objects
    → OnOk r ((place : ℕ) (o : Loaded) → first ≤ place → place < end → slice_get s.objects place ≡ Some o → IsListedAt lists place) → OnOk r (AreListed s first lists)
listed_from s first end lists (Ok x) all there = λ place o le at. there place o le (omega (arith, all, slice_get_within s.objects place o at)) at
listed_from s first end lists (Err e) all there = tt
