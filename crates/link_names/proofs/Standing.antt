-- Lists that are kept of namespaces.
use Rattle.std.proofs.Common.{Bor, ◌≡◌, ◌⊎◌, ℕ, ◌<◌, ◌∙◌, Bool, true, false, cond, inl, inr, List, [], ◌∷◌, ap, refl, subst, sym, append-nil, eq-eqb, get_or, drop, length, map, take, ◌++◌, arith}
use Rattle.std.specs.Prelude.{◌==◌, find, position, option_map, slice_get, nat_eq, IfSome, IsSome, OnOk, Option, Some, None, Result, Ok, Err}
use Rattle.std.specs.Map.{lookup}
use Rattle.std.specs.Option.{option_copied}
use Rattle.std.specs.declared.alloc.AllocError.{AllocError}
use Rattle.std.proofs.lemmas.Bool.{cases_Bool, eqb-true}
use Rattle.std.proofs.lemmas.Grind.{common_steps}
use Rattle.std.proofs.lemmas.List.{drop_all, length-map, take_all}
use Rattle.std.proofs.lemmas.Option.{slice_get-get_or, slice_get-map}
use Rattle.ld_base.specs.declared.linking.Loaded.{Loaded}
use Rattle.ld_base.specs.declared.linking.State.{State}
use Rattle.ld_base.specs.declared.linking.State.TheVariants as states
use Rattle.history_state.specs.Step.{ready_in, ready_object, ready_state}
use Rattle.link_names.specs.Kept.{AreKept, IsMade, kept_at}
use Rattle.link_names.specs.declared.kept.KeptLists.{KeptLists}
use Rattle.scope_rule.specs.Seen.{Seen, seen_in}
use Rattle.scope_rule.specs.declared.namespace.Namespace.{Namespace}
use Rattle.scope_lists.specs.Lists.{AreListsOf, ChangesStateAlone, IsListed}
use Rattle.scope_lists.specs.declared.lists.SearchLists.{SearchLists}

pub none_found : {X : Type 0} (p : X → Bool) (xs : List X) → position p xs ≡ None → find p xs ≡ None
none_found p [] e = refl
none_found p (x ∷ xs) e = grind (arith, common_steps, none_found p xs)

-- none is kept at first
pub none_kept : (nss : List Namespace) (kept : KeptLists) → ((place : ℕ) → kept_at kept place ≡ None) → AreKept nss kept
none_kept nss kept none place ns lists there has = absurd (let no : None ≡ Some lists = sym (none place) ∙ has in cc no)

-- one more is kept
pub one_kept : (nss : List Namespace) (old new : KeptLists) (place : ℕ) (ns : Namespace) (lists : SearchLists) → AreKept nss old → slice_get nss place ≡ Some ns → AreListsOf (seen_in ns) lists
    → ((q : ℕ) → kept_at new q ≡ cond (nat_eq place q) (Some lists) (kept_at old q)) → AreKept nss new
one_kept nss old new place ns lists are there right updates q other other_lists here has = by (cases_Bool (nat_eq place q))
  where
    by : (nat_eq place q ≡ true) ⊎ (nat_eq place q ≡ false) → AreListsOf (seen_in other) other_lists
    by (inl same) =
        let e : place ≡ q = eqb-true place q same in
        let one : Some lists ≡ Some other_lists = ap (λ b. cond b (Some lists) (kept_at old q)) (sym same) ∙ sym (updates q) ∙ has in
        let is : lists ≡ other_lists = cc one in
        let two : Some ns ≡ Some other = sym there ∙ ap (slice_get nss) e ∙ here in
        let home : ns ≡ other = cc two in
        subst (λ (x : Namespace). AreListsOf (seen_in x) other_lists) home (subst (AreListsOf (seen_in ns)) is right)
    by (inr apart) = are q other other_lists here (sym (updates q ∙ ap (λ b. cond b (Some lists) (kept_at old q)) apart) ∙ has)

-- what is kept of a namespace at a place are its lists
pub kept_lists : (nss : List Namespace) (kept : KeptLists) (place : ℕ) (ns : Namespace) (lists : SearchLists) (found : Option SearchLists) → AreKept nss kept → slice_get nss place ≡ Some ns
    → found ≡ kept_at kept place → found ≡ Some lists → AreListsOf (seen_in ns) lists
kept_lists nss kept place ns lists found are at is some = are place ns lists at (sym is ∙ some)

-- ---- an object that becomes ready

with_state_alone : (o : Loaded) (st : State) → ChangesStateAlone (record o { state = st }) (ready_state (record o { state = st }))
with_state_alone o (states.Initialising hart) = record { rest = refl; closing = refl }
with_state_alone o states.Ready = record { rest = refl; closing = refl }
with_state_alone o (states.Dying hart) = record { rest = refl; closing = refl }

pub becomes_ready : (serial : ℕ) (o : Loaded) → ChangesStateAlone o (ready_object serial o)
becomes_ready serial o = by (o.serial == serial)
  where
    by : (own : Bool) → ChangesStateAlone o (cond own (ready_state o) o)
    by true = with_state_alone o o.state
    by false = record { rest = refl; closing = refl }

-- lists that stay
pub ready_kept : (serial : ℕ) (nss : List Namespace) (kept : KeptLists) → ((s : Seen) (lists : SearchLists) (change : Loaded → Loaded) → ((o : Loaded) → ChangesStateAlone o (change o)) → AreListsOf s lists → AreListsOf (record s { objects = map change s.objects }) lists)
    → AreKept nss kept → AreKept (map (ready_in serial) nss) kept
ready_kept serial nss kept stay are place ns lists there has = by (slice_get nss place) refl
  where
    at : slice_get (map (ready_in serial) nss) place ≡ option_map (ready_in serial) (slice_get nss place)
    at = slice_get-map (ready_in serial) nss place

    by : (o : Option Namespace) → slice_get nss place ≡ o → AreListsOf (seen_in ns) lists
    by None is = absurd (let no : None ≡ Some ns = ap (option_map (ready_in serial)) (sym is) ∙ sym at ∙ there in cc no)
    by (Some before) is =
        let both : Some (ready_in serial before) ≡ Some ns = ap (option_map (ready_in serial)) (sym is) ∙ sym at ∙ there in
        let same : ready_in serial before ≡ ns = cc both in
        subst (λ (x : Namespace). AreListsOf (seen_in x) lists) same (stay (seen_in before) lists (ready_object serial) (becomes_ready serial) (are place before lists is has))

-- ---- a vector that was written through its slice

pub written_back : {X : Type 0} (f : X → X) (items slice new : List X) (n : ℕ) → slice ≡ items → length slice ≡ n → new ≡ map f slice
    → take n (new ++ drop (length new) items) ≡ map f items
written_back f items slice new n same len is =
    let long : length new ≡ length items = ap length is ∙ length-map slice f ∙ ap length same in
    let none : drop (length new) items ≡ [] = drop_all (length new) items (omega (arith, long)) in
    let plain : new ++ drop (length new) items ≡ new = ap (λ rest. new ++ rest) none ∙ append-nil new in
    ap (take n) plain ∙ take_all n new (omega (arith, long, len, ap length same)) ∙ is ∙ ap (map f) same

-- the namespace at a place
pub at_index : (nss : List Namespace) (place : ℕ) (ns : Namespace) → place < length nss → ns ≡ get_or nss place ns → slice_get nss place ≡ Some ns
at_index nss place ns within is = slice_get-get_or nss place ns within ∙ ap (λ (x : Namespace). Some x) (sym is)

-- what was put at a place is there
pub is_there : (place : ℕ) (lists : SearchLists) (old new : Option SearchLists) → new ≡ cond (nat_eq place place) (Some lists) old → IsSome new
is_there place lists old new is = subst IsSome (sym (is ∙ ap (λ b. cond b (Some lists) old) (eq-eqb place place refl))) refl

-- what is kept of the namespace at a place, if anything is
pub some_kept : (nss : List Namespace) (kept : KeptLists) (place : ℕ) (ns : Namespace) → AreKept nss kept → slice_get nss place ≡ Some ns → IfSome (kept_at kept place) (AreListsOf (seen_in ns))
some_kept nss kept place ns are at = by (kept_at kept place) refl
  where
    by : (x : Option SearchLists) → kept_at kept place ≡ x → IfSome x (AreListsOf (seen_in ns))
    by (Some lists) is = are place ns lists at is
    by None is = tt

-- the same entries
pub same_kept : (nss : List Namespace) (old new : KeptLists) → new.by_place.entries ≡ old.by_place.entries → AreKept nss old → AreKept nss new
same_kept nss old new same are place ns lists there has = are place ns lists there (ap (lookup (nat_eq place)) (sym same) ∙ has)

-- lists with a scope that was made
pub made : {X : Type 0} (kept : KeptLists) (owner place : ℕ) (lists : SearchLists) (r : Result X AllocError) → kept_at kept place ≡ Some lists → OnOk r (IsListed lists owner) → OnOk r (IsMade kept owner place)
made kept owner place lists (Ok x) at listed = record { lists = lists; at = at; listed = listed }
made kept owner place lists (Err e) at listed = tt

pub made_there : (kept : KeptLists) (owner place : ℕ) (found : Option (Bor SearchLists)) → option_copied found ≡ kept_at kept place → IsMade kept owner place → IsSome found
made_there kept owner place (Some lists) is m = refl
made_there kept owner place None is m = absurd (let no : None ≡ Some m.lists = is ∙ m.at in cc no)

pub made_listed : (kept : KeptLists) (owner place : ℕ) (lists : SearchLists) (found : Option SearchLists) → found ≡ kept_at kept place → found ≡ Some lists → IsMade kept owner place → IsListed lists owner
made_listed kept owner place lists found is some m =
    let both : Some m.lists ≡ Some lists = sym m.at ∙ sym is ∙ some in
    let same : m.lists ≡ lists = cc both in
    subst (λ (x : SearchLists). IsListed x owner) same m.listed
