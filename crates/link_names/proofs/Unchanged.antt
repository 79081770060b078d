-- Changes of namespaces that leave their search lists as they are.
use Rattle.std.proofs.Common.{Result, Ok, Err, ◌≡◌, ℕ, zero, suc, Bool, true, false, cond, List, [], ◌∷◌, ◌++◌, ap, refl, subst, sym, ◌∙◌, append-nil, eq-eqb, length, map, ◌+◌, arith, ⊎_elim}
use Rattle.std.specs.Prelude.{OnErr, OnOk, ◌==◌, ◌||◌, not, find, filter, flat_map, option_map, slice_get, Option, Some, None}
use Rattle.std.specs.List.{Contains, list_all, list_any}
use Rattle.std.proofs.lemmas.Bool.{and_parts, eqb-true, true≢false}
use Rattle.std.proofs.lemmas.Option.{slice_get-map}
use Rattle.close_mark.specs.ClosingPlans.Plans.{closed_by}
use Rattle.ld_base.specs.declared.linking.Loaded.{Loaded}
use Rattle.history_state.specs.Lemmas.Lists.{at_in, first_or_later, found_in, in_any}
use Rattle.history_state.specs.Objects.{has_id}
use Rattle.history_state.specs.Step.{changed_at, dying_in, dying_object, lowered_in, lowered_open, with_namespace}
use Rattle.link_names.specs.Kept.{AreKept}
use Rattle.link_names.specs.Leaving.{LowersAlone, OpensAgain, counts_still}
use Rattle.link_names.specs.declared.kept.KeptLists.{KeptLists}
use Rattle.link_spaces.specs.Numbered.{AreNumberedApart}
use Rattle.scope_rule.specs.Breadth.{breadth, first_kept, has, level, levels, without}
use Rattle.scope_rule.specs.Choose.{first_with}
use Rattle.scope_rule.specs.Loading.{found_of, is_dying, is_dying_at}
use Rattle.scope_rule.specs.Opening.{opened, raised}
use Rattle.scope_rule.specs.Scope.{opened_with, scope, whole_scope}
use Rattle.scope_rule.specs.Seen.{Seen, seen_in}
use Rattle.scope_rule.specs.declared.namespace.Namespace.{Namespace}
use Rattle.scope_rule.specs.declared.namespace.OpenRec.{OpenRec}
use Rattle.scope_lists.specs.Lists.{AreListsOf}
use Rattle.scope_lists.specs.declared.lists.SearchLists.{SearchLists}
use Rattle.history_state.specs.Lemmas.Dying.{lowered_root}

-- ---- lists tell of the roots of openings alone

abbrev root_of : OpenRec → ℕ
root_of r = r.root

by_roots : (f : ℕ → List ℕ) (opens : List OpenRec) → flat_map (λ r. f r.root) opens ≡ flat_map f (map root_of opens)
by_roots f [] = refl
by_roots f (r ∷ rest) = ap (λ (l : List ℕ). f r.root ++ l) (by_roots f rest)

flat_same : (f g : ℕ → List ℕ) → ((x : ℕ) → f x ≡ g x) → (xs : List ℕ) → flat_map f xs ≡ flat_map g xs
flat_same f g same [] = refl
flat_same f g same (x ∷ xs) = ap (λ (l : List ℕ). l ++ flat_map f xs) (same x) ∙ ap (λ (l : List ℕ). g x ++ l) (flat_same f g same xs)

module _ (s : Seen) (opens : List OpenRec) (same : map root_of opens ≡ map root_of s.opens) where
  abbrev Then : Seen
  Then = record s { opens = opens }

  same_level : (root n : ℕ) → level Then root n ≡ level s root n
  same_level root zero = refl
  same_level root (suc n) = ap (flat_map (found_of s)) (same_level root n)

  same_levels : (root n : ℕ) → levels Then root n ≡ levels s root n
  same_levels root zero = refl
  same_levels root (suc n) = ap (λ (l : List ℕ). l ++ level Then root (suc n)) (same_levels root n) ∙ ap (λ (l : List ℕ). levels s root n ++ l) (same_level root (suc n))

  same_breadth : (root : ℕ) → breadth Then root ≡ breadth s root
  unfolding breadth
  same_breadth root = ap (λ (l : List ℕ). without 0 (first_kept l)) (same_levels root (length s.objects))

  abbrev brings : List ℕ → ℕ → List ℕ
  brings libraries q = cond (has libraries q) libraries []

  same_opened : (o : Loaded) (root : ℕ) → opened_with Then o root ≡ opened_with s o root
  same_opened o root = ap (λ (l : List ℕ). brings l o.serial) (same_breadth root)

  same_brought : (o : Loaded) → flat_map (λ r. opened_with Then o r.root) opens ≡ flat_map (λ r. opened_with s o r.root) s.opens
  same_brought o =
      by_roots (opened_with Then o) opens ∙ flat_same (opened_with Then o) (opened_with s o) (same_opened o) (map root_of opens) ∙ ap (flat_map (opened_with s o)) same ∙ sym (by_roots (opened_with s o) s.opens)

  abbrev whole_of : Loaded → List ℕ → List ℕ → List ℕ
  whole_of o brought libraries =
      cond o.object.flags.symbolic (o.serial ∷ []) [] ++ cond o.deep [] s.global ++ brought ++ libraries ++ cond o.deep s.global [] ++ 0 ∷ []

  same_whole : (o : Loaded) → whole_scope Then o ≡ whole_scope s o
  same_whole o =
      ap (λ (l : List ℕ). whole_of o l (breadth Then o.serial)) (same_brought o) ∙ ap (whole_of o (flat_map (λ r. opened_with s o r.root) s.opens)) (same_breadth o.serial)

  same_scope : (o : Loaded) → scope Then o ≡ scope s o
  unfolding scope
  same_scope o = ap (filter (λ x. is_dying o || not (is_dying_at s x))) (same_whole o)

  pub roots_stay : (lists : SearchLists) → AreListsOf s lists → AreListsOf Then lists
  roots_stay lists are = record {
    links = record { places = are.links.places; found = are.links.found; all = are.links.all };
    names = are.names;
    orders = are.orders;
    scopes = record {
      global = are.scopes.global;
      definers = are.scopes.definers;
      each = λ place o found at has. (let was = are.scopes.each place o found at has in record { alike = λ pick. was.alike pick ∙ ap (first_with pick) (sym (same_scope o)); placed = was.placed });
    };
  }

-- ---- a change that leaves the lists of each namespace

pub changed_kept : (change : Namespace → Namespace) (nss : List Namespace) (kept : KeptLists) → ((ns : Namespace) (lists : SearchLists) → Contains nss ns → AreListsOf (seen_in ns) lists → AreListsOf (seen_in (change ns)) lists)
    → AreKept nss kept → AreKept (map change nss) kept
changed_kept change nss kept stay are place ns lists there has = by (slice_get nss place) refl
  where
    at : slice_get (map change nss) place ≡ option_map change (slice_get nss place)
    at = slice_get-map change nss place

    by : (o : Option Namespace) → slice_get nss place ≡ o → AreListsOf (seen_in ns) lists
    by None is = absurd (let no : None ≡ Some ns = ap (option_map change) (sym is) ∙ sym at ∙ there in cc no)
    by (Some before) is =
        let both : Some (change before) ≡ Some ns = ap (option_map change) (sym is) ∙ sym at ∙ there in
        let same : change before ≡ ns = cc both in
        subst (λ (x : Namespace). AreListsOf (seen_in x) lists) same (stay before lists (at_in nss place before is) (are place before lists is has))

-- ---- an opening of a root that is open, without new objects

raised_root : (root : ℕ) (r : OpenRec) → (raised root r).root ≡ r.root
raised_root root r = by (r.root == root)
  where
    by : (b : Bool) → (cond b (record r { count = r.count + 1 }) r).root ≡ r.root
    by true = refl
    by false = refl

raised_roots : (root : ℕ) (opens : List OpenRec) → map root_of (map (raised root) opens) ≡ map root_of opens
raised_roots root [] = refl
raised_roots root (r ∷ rest) =
    ap (λ n. n ∷ map root_of (map (raised root) rest)) (raised_root root r) ∙ ap (λ (l : List ℕ). r.root ∷ l) (raised_roots root rest)

opened_again : (root : ℕ) (ns : Namespace) (lists : SearchLists) → list_any (λ r. r.root == root) ns.opens ≡ true → AreListsOf (seen_in ns) lists → AreListsOf (seen_in (opened ns [] root false)) lists
opened_again root ns lists held are =
    subst (λ (os : List Loaded). AreListsOf (record { objects = os; global = ns.global; opens = cond (list_any (λ r. r.root == root) ns.opens) (map (raised root) ns.opens) (ns.opens ++ record { root = root; count = 1 } ∷ []) }) lists) (sym (append-nil ns.objects))
    (subst (λ (b : Bool). AreListsOf (record { objects = ns.objects; global = ns.global; opens = cond b (map (raised root) ns.opens) (ns.opens ++ record { root = root; count = 1 } ∷ []) }) lists) (sym held)
    (roots_stay (seen_in ns) (map (raised root) ns.opens) (raised_roots root ns.opens) lists are))

one_numbered : (nss : List Namespace) (id : ℕ) (ns ms : Namespace) → AreNumberedApart nss → find (has_id id) nss ≡ Some ns → Contains nss ms → has_id id ms ≡ true → ns ≡ ms
one_numbered [] id ns ms apart found inside is = absurd (let no : None ≡ Some ns = found in cc no)
one_numbered (n ∷ rest) id ns ms apart found inside is = by (has_id id n) refl found (one_numbered rest id ns ms apart.1)
  where
    other : has_id id n ≡ true → Contains rest ms → ⊥
    other own behind =
        let same : ms.id ≡ n.id = eqb-true ms.id id is ∙ sym (eqb-true n.id id own) in
        true≢false (sym (in_any (has_id n.id) rest ms behind (eq-eqb ms.id n.id same)) ∙ apart.0)

    by : (b : Bool) → has_id id n ≡ b → cond b (Some n) (find (has_id id) rest) ≡ Some ns → (find (has_id id) rest ≡ Some ns → Contains rest ms → has_id id ms ≡ true → ns ≡ ms) → ns ≡ ms
    by true own one again = ⊎_elim
        (λ (first : n ≡ ms). let two : Some n ≡ Some ns = one in let same : n ≡ ns = cc two in sym same ∙ first)
        (λ (behind : Contains rest ms). absurd (other own behind))
        (first_or_later n rest ms inside)
    by false own one again = ⊎_elim
        (λ (first : n ≡ ms). absurd (true≢false (sym is ∙ ap (has_id id) (sym first) ∙ own)))
        (λ (behind : Contains rest ms). again one behind is)
        (first_or_later n rest ms inside)

opened_here : (nss : List Namespace) (kept : KeptLists) (id root : ℕ) (ns : Namespace) → AreNumberedApart nss → find (has_id id) nss ≡ Some ns → list_any (λ r. r.root == root) ns.opens ≡ true
    → AreKept nss kept → AreKept (with_namespace id (λ n. opened n [] root false) nss) kept
opened_here nss kept id root ns apart found held are =
    let one = found_in (has_id id) nss ns found in
    let there : list_any (has_id id) nss ≡ true = in_any (has_id id) nss ns one.0 one.1 in
    subst (λ (b : Bool). AreKept (cond b (map (changed_at id (λ n. opened n [] root false)) nss) (nss ++ opened (record { id = id; objects = []; global = []; opens = [] }) [] root false ∷ [])) kept) (sym there)
    (changed_kept (changed_at id (λ n. opened n [] root false)) nss kept stay are)
  where
    stay : (ms : Namespace) (lists : SearchLists) → Contains nss ms → AreListsOf (seen_in ms) lists → AreListsOf (seen_in (changed_at id (λ n. opened n [] root false) ms)) lists
    stay ms lists inside own = by (has_id id ms) refl
      where
        by : (b : Bool) → has_id id ms ≡ b → AreListsOf (seen_in (cond b (opened ms [] root false) ms)) lists
        by false is = own
        by true is =
            opened_again root ms lists (ap (λ (m : Namespace). list_any (λ r. r.root == root) m.opens) (sym (one_numbered nss id ns ms apart found inside is)) ∙ held) own

pub opened_kept : (nss : List Namespace) (kept : KeptLists) (id root : ℕ) (added : List Loaded) (is_global : Bool) → AreNumberedApart nss → OpensAgain nss id added root is_global
    → AreKept nss kept → AreKept (with_namespace id (λ n. opened n added root is_global) nss) kept
opened_kept nss kept id root added is_global apart again are =
    subst (λ (os : List Loaded). AreKept (with_namespace id (λ n. opened n os root is_global) nss) kept) (sym again.none)
    (subst (λ (b : Bool). AreKept (with_namespace id (λ n. opened n [] root b) nss) kept) (sym again.local) (opened_here nss kept id root again.is_open.namespace apart again.is_open.found again.is_open.held are))

-- whether it is opened or memory is wanted
pub either_kept : {X E : Type 0} (r : Result X E) (old new after : List Namespace) (kept : KeptLists) → OnOk r (new ≡ after) → OnErr r (new ≡ old) → AreKept old kept → AreKept after kept → AreKept new kept
either_kept (Ok x) old new after kept ok err before then_kept = subst (λ (nss : List Namespace). AreKept nss kept) (sym ok) then_kept
either_kept (Err e) old new after kept ok err before then_kept = subst (λ (nss : List Namespace). AreKept nss kept) (sym err) before

-- ---- a closing that takes nothing, whose root stays open

lowered_roots : (handle : ℕ) (opens : List OpenRec) → list_all (counts_still handle) opens ≡ true → map root_of (filter (λ r. not (r.count == 0)) (map (lowered_open handle) opens)) ≡ map root_of opens
lowered_roots handle [] all = refl
lowered_roots handle (r ∷ rest) all =
    let parts = and_parts (counts_still handle r) (list_all (counts_still handle) rest) all in
    ap (λ (b : Bool). map root_of (cond b (lowered_open handle r ∷ filter (λ x. not (x.count == 0)) (map (lowered_open handle) rest)) (filter (λ x. not (x.count == 0)) (map (lowered_open handle) rest)))) parts.0
    ∙ ap (λ n. n ∷ map root_of (filter (λ x. not (x.count == 0)) (map (lowered_open handle) rest))) (lowered_root handle r)
    ∙ ap (λ (l : List ℕ). r.root ∷ l) (lowered_roots handle rest parts.1)

lowered_stays : (handle : ℕ) (ns : Namespace) (lists : SearchLists) → list_all (counts_still handle) ns.opens ≡ true → AreListsOf (seen_in ns) lists → AreListsOf (seen_in (lowered_in handle ns)) lists
lowered_stays handle ns lists all are = roots_stay (seen_in ns) (filter (λ r. not (r.count == 0)) (map (lowered_open handle) ns.opens)) (lowered_roots handle ns.opens all) lists are

none_die : (hart : ℕ) (objects : List Loaded) → map (dying_object hart []) objects ≡ objects
none_die hart [] = refl
none_die hart (o ∷ rest) = ap (λ (l : List Loaded). o ∷ l) (none_die hart rest)

none_go : (xs : List ℕ) → filter (λ d. true) xs ≡ xs
none_go [] = refl
none_go (x ∷ xs) = ap (λ (l : List ℕ). x ∷ l) (none_go xs)

undying : (hart : ℕ) (ns : Namespace) (lists : SearchLists) → AreListsOf (seen_in ns) lists → AreListsOf (seen_in (dying_in hart [] ns)) lists
undying hart ns lists are =
    subst (λ (os : List Loaded). AreListsOf (record { objects = os; global = filter (λ d. true) ns.global; opens = ns.opens }) lists) (sym (none_die hart ns.objects))
    (subst (λ (g : List ℕ). AreListsOf (record { objects = ns.objects; global = g; opens = ns.opens }) lists) (sym (none_go ns.global)) are)

each_of : (p : Namespace → Bool) (nss : List Namespace) (ns : Namespace) → list_all p nss ≡ true → Contains nss ns → p ns ≡ true
each_of p [] ns all (i, lt, at) = absurd (omega (arith, lt))
each_of p (n ∷ rest) ns all inside =
    let parts = and_parts (p n) (list_all p rest) all in
    ⊎_elim (λ (first : n ≡ ns). ap p (sym first) ∙ parts.0) (λ (behind : Contains rest ns). each_of p rest ns parts.1 behind) (first_or_later n rest ns inside)

pub closed_kept : (nss : List Namespace) (kept : KeptLists) (hart handle : ℕ) (set : List ℕ) → LowersAlone nss handle set → AreKept nss kept → AreKept (closed_by hart handle set nss) kept
closed_kept nss kept hart handle set alone are =
    subst (λ (ds : List ℕ). AreKept (closed_by hart handle ds nss) kept) (sym alone.none)
    (changed_kept (dying_in hart []) (map (lowered_in handle) nss) kept (λ ns lists inside. undying hart ns lists)
    (changed_kept (lowered_in handle) nss kept (λ ns lists inside. lowered_stays handle ns lists (each_of (λ (n : Namespace). list_all (counts_still handle) n.opens) nss ns alone.stay inside)) are))
