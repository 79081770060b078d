-- Lists don't tell of the states of objects.
use Rattle.std.proofs.Common.{◌≡◌, ℕ, zero, suc, Bool, true, false, cond, List, [], ◌∷◌, ◌++◌, length, map, refl, subst, sym, ap, ◌∙◌}
use Rattle.std.specs.Prelude.{◌==◌, ◌||◌, not, filter, flat_map, option_map, slice_get, Option, Some, None}
use Rattle.std.proofs.lemmas.List.{length-map}
use Rattle.std.proofs.lemmas.List.Elements.{filter_agree}
use Rattle.std.proofs.lemmas.Option.{IfSome_then, slice_get-map}
use Rattle.ld_base.specs.declared.linking.Loaded.{Loaded}
use Rattle.ld_base.specs.declared.object.Object.{Object}
use Rattle.scope_rule.specs.Breadth.{breadth, extend, has, order_to}
use Rattle.scope_rule.specs.Choose.{first_with}
use Rattle.scope_rule.specs.Lemmas.Orders.{breadth_grows}
use Rattle.scope_rule.specs.Loading.{found_of, is_dying, is_dying_at, object_of, with_serial}
use Rattle.scope_rule.specs.Scope.{opened_with, scope, whole_scope}
use Rattle.scope_rule.specs.Seen.{Seen}
use Rattle.scope_rule.specs.declared.namespace.OpenRec.{OpenRec}
use Rattle.scope_lists.specs.Definers.{object_of_entry}
use Rattle.scope_lists.specs.Kept.{ArePlaced, AreScopes, IsScope, entry_in, kept_at, kept_in}
use Rattle.scope_lists.specs.Links.{found_once}
use Rattle.scope_lists.specs.Lists.{AreListsOf, ChangesStateAlone}
use Rattle.scope_lists.specs.NameOrder.{IsNameOrder}
use Rattle.scope_lists.specs.NameOrders.{AreNameOrders}
use Rattle.scope_rule.specs.Places.{serials}
use Rattle.scope_lists.specs.Searched.{object_at}
use Rattle.scope_lists.specs.declared.kept.KeptScope.{KeptScope}
use Rattle.scope_lists.specs.declared.kept.KeptScopes.{KeptScopes}
use Rattle.scope_lists.specs.declared.lists.SearchLists.{SearchLists}
use Rattle.scope_lists.specs.declared.name_orders.NameOrders.{NameOrders}
use Rattle.scope_lists.specs.declared.searched.Searched.{Searched}
use Rattle.scope_lists.specs.VersionPlaces.Places.{places_of}
use Rattle.scope_lists.specs.declared.version_places.names.VersionPlace.{VersionPlace}
use Rattle.scope_lists.proofs.Defining.{definers_stay}

-- ---- functions that are the same at each point

flat_same : {X : Type 0} (f g : X → List ℕ) → ((x : X) → f x ≡ g x) → (xs : List X) → flat_map f xs ≡ flat_map g xs
flat_same f g same [] = refl
flat_same f g same (x ∷ xs) = ap (λ (l : List ℕ). l ++ flat_map f xs) (same x) ∙ ap (λ (l : List ℕ). g x ++ l) (flat_same f g same xs)

order_same : (f g : ℕ → List ℕ) (first : List ℕ) → ((x : ℕ) → f x ≡ g x) → (n : ℕ) → order_to f first n ≡ order_to g first n
order_same f g first same zero = refl
order_same f g first same (suc n) = ap (extend first) (flat_same f g same (order_to f first n) ∙ ap (flat_map g) (order_same f g first same n))

-- ---- a change of states alone

module _ (change : Loaded → Loaded) (alone : (o : Loaded) → ChangesStateAlone o (change o)) where
  abbrev changed : Option Loaded → Option Loaded
  changed (Some o) = Some (change o)
  changed None = None

  same_serial : (o : Loaded) → (change o).serial ≡ o.serial
  same_serial o = ap (λ (x : Loaded). x.serial) (alone o).rest

  object_changed : (objects : List Loaded) (q : ℕ) → with_serial (map change objects) q ≡ changed (with_serial objects q)
  object_changed [] q = refl
  object_changed (o ∷ rest) q =
      ap (λ n. cond (n == q) (Some (change o)) (with_serial (map change rest) q)) (same_serial o) ∙ ap (λ (x : Option Loaded). cond (o.serial == q) (Some (change o)) x) (object_changed rest q) ∙ either (o.serial == q)
    where
      either : (b : Bool) → cond b (Some (change o)) (changed (with_serial rest q)) ≡ changed (cond b (Some o) (with_serial rest q))
      either true = refl
      either false = refl

  module _ (s : Seen) where
    abbrev Then : Seen
    Then = record s { objects = map change s.objects }

    abbrev found_on : Option Loaded → List ℕ
    found_on (Some o) = o.found
    found_on None = []

    abbrev dying_on : Option Loaded → Bool
    dying_on (Some o) = is_dying o
    dying_on None = false

    found_changed : (x : Option Loaded) → found_on (changed x) ≡ found_on x
    found_changed (Some o) = ap (λ (y : Loaded). y.found) (alone o).rest
    found_changed None = refl

    dying_changed : (x : Option Loaded) → dying_on (changed x) ≡ dying_on x
    dying_changed (Some o) = (alone o).closing
    dying_changed None = refl

    same_found : (q : ℕ) → found_of Then q ≡ found_of s q
    same_found q = ap (λ (l : List ℕ). cond (q == 0) [] l) (ap found_on (object_changed s.objects q) ∙ found_changed (object_of s q))

    same_dying : (q : ℕ) → is_dying_at Then q ≡ is_dying_at s q
    same_dying q = ap dying_on (object_changed s.objects q) ∙ dying_changed (object_of s q)

    same_breadth : (root : ℕ) → breadth Then root ≡ breadth s root
    same_breadth root =
        let first : List ℕ = extend [] (root ∷ []) in
        breadth_grows Then root ∙ order_same (found_of Then) (found_of s) first same_found (length (map change s.objects)) ∙ ap (order_to (found_of s) first) (length-map s.objects change) ∙ sym (breadth_grows s root)

    abbrev brings : List ℕ → ℕ → List ℕ
    brings libraries q = cond (has libraries q) libraries []

    same_opened : (o : Loaded) (r : OpenRec) → opened_with Then o r.root ≡ opened_with s o r.root
    same_opened o r = ap (λ (l : List ℕ). brings l o.serial) (same_breadth r.root)

    -- the scope of an object is made of these
    abbrev whole_of : Loaded → List ℕ → List ℕ → List ℕ
    whole_of o brought libraries =
        cond o.object.flags.symbolic (o.serial ∷ []) [] ++ cond o.deep [] s.global ++ brought ++ libraries ++ cond o.deep s.global [] ++ 0 ∷ []

    whole_same : (o : Loaded) → whole_scope Then o ≡ whole_scope s o
    whole_same o =
        ap (λ (l : List ℕ). whole_of o l (breadth Then o.serial)) (flat_same (λ (r : OpenRec). opened_with Then o r.root) (λ (r : OpenRec). opened_with s o r.root) (same_opened o) s.opens)
        ∙ ap (whole_of o (flat_map (λ (r : OpenRec). opened_with s o r.root) s.opens)) (same_breadth o.serial)

    whole_changed : (o : Loaded) → whole_scope s (change o) ≡ whole_scope s o
    whole_changed o = ap (λ (x : Loaded). whole_scope s x) (alone o).rest

    same_scope : (o : Loaded) → scope Then (change o) ≡ scope s o
    unfolding scope
    same_scope o =
        filter_agree (λ x. is_dying (change o) || not (is_dying_at Then x)) (λ x. is_dying o || not (is_dying_at s x))
        (λ x. ap (λ b. b || not (is_dying_at Then x)) (alone o).closing ∙ ap (λ b. is_dying o || not b) (same_dying x)) (whole_scope Then (change o))
        ∙ ap (filter (λ x. is_dying o || not (is_dying_at s x))) (whole_same (change o) ∙ whole_changed o)

    same_serials : (objects : List Loaded) → serials (map change objects) ≡ serials objects
    same_serials [] = refl
    same_serials (o ∷ rest) = ap (λ n. n ∷ serials (map change rest)) (same_serial o) ∙ ap (λ (l : List ℕ). o.serial ∷ l) (same_serials rest)

    same_links : (objects : List Loaded) → map found_once (map change objects) ≡ map found_once objects
    same_links [] = refl
    same_links (o ∷ rest) =
        ap (λ (x : Loaded). found_once x ∷ map found_once (map change rest)) (alone o).rest ∙ ap (λ (ls : List (List ℕ)). found_once o ∷ ls) (same_links rest)

    abbrev names_in : Loaded → List (Option VersionPlace)
    names_in o = places_of o.object

    same_names : (objects : List Loaded) → map names_in (map change objects) ≡ map names_in objects
    same_names [] = refl
    same_names (o ∷ rest) =
        ap (λ (x : Loaded). names_in x ∷ map names_in (map change rest)) (alone o).rest ∙ ap (λ (ls : List (List (Option VersionPlace))). names_in o ∷ ls) (same_names rest)

    abbrev object_on : Option Loaded → Option Object
    object_on o = option_map (λ (x : Loaded). x.object) o

    object_mapped : (o : Option Loaded) → object_on (option_map change o) ≡ object_on o
    object_mapped None = refl
    object_mapped (Some o) = ap (λ (x : Loaded). Some x.object) (alone o).rest

    same_object : (entry : Option Searched) → object_of_entry Then.objects entry ≡ object_of_entry s.objects entry
    same_object None = refl
    same_object (Some entry) = by entry.place
      where
        by : (place : Option ℕ) → object_on (object_at Then.objects place) ≡ object_on (object_at s.objects place)
        by None = refl
        by (Some k) = ap object_on (slice_get-map change s.objects k) ∙ object_mapped (slice_get s.objects k)

    same_kept : (kept : KeptScopes) → AreScopes s kept → AreScopes Then kept
    same_kept kept are = record {
      global = are.global ∙ ap (λ (l : List ℕ). map (entry_in l) s.global) (sym (same_serials s.objects));
      definers = IfSome_then kept.definers are.definers (λ definers is. definers_stay s.objects Then.objects kept.global.items definers (λ place. same_object (slice_get kept.global.items place)) is);
      each = λ place o found at has. by place o found at has (slice_get s.objects place) refl;
    }
      where
        by : (place : ℕ) (o : Loaded) (found : KeptScope) → slice_get Then.objects place ≡ Some o → kept_at kept place ≡ Some found → (x : Option Loaded) → slice_get s.objects place ≡ x → IsScope Then kept.global.items o found
        by place o found at has None is = absurd (let no : None ≡ Some o = ap (option_map change) (sym is) ∙ sym (slice_get-map change s.objects place) ∙ at in cc no)
        by place o found at has (Some before) is =
            let both : Some (change before) ≡ Some o = ap (option_map change) (sym is) ∙ sym (slice_get-map change s.objects place) ∙ at in
            let same : change before ≡ o = cc both in
            let was : IsScope s kept.global.items before found = are.each place before found is has in
            record {
              alike = λ pick. was.alike pick ∙ ap (first_with pick) (sym (same_scope before) ∙ ap (scope Then) same);
              placed = subst (λ (l : List ℕ). ArePlaced l (kept_in kept.global.items found)) (sym (same_serials s.objects)) was.placed;
            }

    same_orders : (orders : NameOrders) → AreNameOrders s orders → AreNameOrders Then orders
    same_orders orders are place o order at has = by (slice_get s.objects place) refl
      where
        by : (x : Option Loaded) → slice_get s.objects place ≡ x → IsNameOrder o.object order
        by None is = absurd (let no : None ≡ Some o = ap (option_map change) (sym is) ∙ sym (slice_get-map change s.objects place) ∙ at in cc no)
        by (Some before) is =
            let both : Some (change before) ≡ Some o = ap (option_map change) (sym is) ∙ sym (slice_get-map change s.objects place) ∙ at in
            let same : change before ≡ o = cc both in
            let object : before.object ≡ o.object = sym (ap (λ (x : Loaded). x.object) (alone before).rest) ∙ ap (λ (x : Loaded). x.object) same in
            subst (λ (x : Object). IsNameOrder x order) object (are place before order is has)

    pub stay : (lists : SearchLists) → AreListsOf s lists → AreListsOf Then lists
    stay lists are = record {
      links = record {
        places = are.links.places ∙ sym (same_serials s.objects);
        found = are.links.found ∙ sym (same_links s.objects);
        all = λ q x there some. are.links.all q x (ap (λ (l : List ℕ). has l x) (sym (same_found q)) ∙ there) some;
      };
      names = are.names ∙ sym (same_names s.objects);
      orders = same_orders lists.orders are.orders;
      scopes = same_kept lists.scopes are.scopes;
    }
