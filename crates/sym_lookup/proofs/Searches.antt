-- Searches through lists that are made once.
use Rattle.std.proofs.Common.{Bor, ◌≡◌, ◌<◌, ◌∙◌, ap, sym, subst, ℕ, Bool, true, false, cond, inl, inr, List, [], ◌∷◌, ◌++◌, length, get_or, refl, arith}
use Rattle.std.specs.List.{AllByRecursion, slice_get}
use Rattle.std.proofs.lemmas.Bool.{cases_lt, eqb-true}
use Rattle.std.proofs.lemmas.List.{get_or_past}
use Rattle.std.proofs.lemmas.Option.{slice_get-get_or}
use Rattle.std.specs.Prelude.{◌==◌, ◌&&◌, if◌then◌else◌, nat_le, not, filter, IfSome, Option, Some, None}
use Rattle.std.specs.Option.{is_some, option_copied}
use Rattle.ld_base.specs.declared.linking.Loaded.{Loaded}
use Rattle.ld_base.specs.declared.linking.Choice.{Choice}
use Rattle.ld_base.specs.declared.linking.Choice.TheVariants.{Def}
use Rattle.ld_base.specs.declared.linking.Want.{Want}
use Rattle.ld_base.specs.declared.linking.Want.TheVariants as want
use Rattle.ld_base.specs.declared.object.Object.{Object}
use Rattle.ld_base.specs.declared.object.Symbol.{Symbol}
use Rattle.ld_base.specs.Version.{version_name}
use Rattle.sym_hash.specs.Reached.{IsTableOf}
use Rattle.scope_rule.specs.Choose.{choice_of, choose_for, first_with, is_own, pick_at, searched, want_of}
use Rattle.scope_rule.specs.Loading.{object_of, with_serial}
use Rattle.scope_rule.specs.Scope.{scope}
use Rattle.scope_rule.specs.Seen.{Seen}
use Rattle.sym_lookup.specs.Looking.{HaveTables, choice_of_symbol, outside}
use Rattle.sym_lookup.specs.References.{AreKept, IsAlike}
use Rattle.scope_lists.specs.Searched.{FindsAlike, serials_in}
use Rattle.scope_lists.specs.VersionPlaces.Places.{places_of}
use Rattle.scope_lists.specs.declared.searched.Searched.{Searched}
use Rattle.scope_lists.specs.declared.version_places.names.VersionPlace.{VersionPlace}

module _ (pick : ℕ → Option ℕ) (serial : ℕ) (rest : List ℕ) where
  pub first_none : pick serial ≡ None → first_with pick (serial ∷ rest) ≡ first_with pick rest
  first_none none = rw (none, first_with) refl

  pub first_some : (index : ℕ) → pick serial ≡ Some index → first_with pick (serial ∷ rest) ≡ Some (serial, index)
  first_some index some = rw (some, first_with) refl

abbrev others : ℕ → List ℕ → List ℕ
others owner scope = filter (λ s. not (s == owner)) scope

-- one object more, left out or not
one_more : (owner : ℕ) (pick : ℕ → Option ℕ) (serial : ℕ) (rest : List ℕ) (own : Bool) → (serial == owner) ≡ own → first_with (outside true owner pick) rest ≡ first_with pick (others owner rest)
    → first_with (outside true owner pick) (serial ∷ rest) ≡ first_with pick (others owner (serial ∷ rest))
one_more owner pick serial rest true own later =
    let gone : others owner (serial ∷ rest) ≡ others owner rest = ap (λ b. cond (not b) (serial ∷ others owner rest) (others owner rest)) own in
    first_none (outside true owner pick) serial rest (ap (λ b. cond (true && b) None (pick serial)) own) ∙ later ∙ ap (first_with pick) (sym gone)
one_more owner pick serial rest false own later = by_pick (pick serial) refl
  where
    same : outside true owner pick serial ≡ pick serial
    same = ap (λ b. cond (true && b) None (pick serial)) own

    kept : others owner (serial ∷ rest) ≡ serial ∷ others owner rest
    kept = ap (λ b. cond (not b) (serial ∷ others owner rest) (others owner rest)) own

    by_pick : (found : Option ℕ) → pick serial ≡ found → first_with (outside true owner pick) (serial ∷ rest) ≡ first_with pick (others owner (serial ∷ rest))
    by_pick None is = first_none (outside true owner pick) serial rest (same ∙ is) ∙ later ∙ sym (ap (first_with pick) kept ∙ first_none pick serial (others owner rest) is)
    by_pick (Some index) is = first_some (outside true owner pick) serial rest index (same ∙ is) ∙ sym (ap (first_with pick) kept ∙ first_some pick serial (others owner rest) index is)

-- leaving an object out of a search is searching the others
outside_is : (owner : ℕ) (pick : ℕ → Option ℕ) (scope : List ℕ) → first_with (outside true owner pick) scope ≡ first_with pick (others owner scope)
outside_is owner pick [] = refl
outside_is owner pick (serial ∷ rest) = one_more owner pick serial rest (serial == owner) refl (outside_is owner pick rest)

pub searched_is : (s : Seen) (o : Loaded) (pick : ℕ → Option ℕ) (copy : Bool) (list : List ℕ) → FindsAlike list (scope s o) → first_with (outside copy o.serial pick) list ≡ first_with pick (searched s o copy)
searched_is s o pick true list alike = alike (outside true o.serial pick) ∙ outside_is o.serial pick (scope s o)
searched_is s o pick false list alike = alike pick

-- ---- lists that are searched one after another

module _ (pick : ℕ → Option ℕ) where
  abbrev with_next : ℕ → Option ℕ → Option (ℕ × ℕ) → Option (ℕ × ℕ)
  with_next serial found rest = elim found [ Some index ↦ Some (serial, index) | None ↦ rest ]

  one_found : (r : Option (ℕ × ℕ)) (xs ys : List Searched) → is_some r ≡ true → r ≡ first_with pick (serials_in xs) → r ≡ first_with pick (serials_in (xs ++ ys))
  one_found r [] ys some is = absurd (let no : false ≡ true = ap is_some (sym is) ∙ some in cc no)
  one_found r (x ∷ xs) ys some is = by (pick x.serial) is (one_found r xs ys some)
    where
      by : (found : Option ℕ) → r ≡ with_next x.serial found (first_with pick (serials_in xs)) → (r ≡ first_with pick (serials_in xs) → r ≡ first_with pick (serials_in (xs ++ ys)))
          → r ≡ with_next x.serial found (first_with pick (serials_in (xs ++ ys)))
      by (Some index) here later = here
      by None here later = later here

  none_found : (r : Option (ℕ × ℕ)) (xs ys : List Searched) → is_some r ≡ false → r ≡ first_with pick (serials_in xs) → first_with pick (serials_in ys) ≡ first_with pick (serials_in (xs ++ ys))
  none_found r [] ys none is = refl
  none_found r (x ∷ xs) ys none is = by (pick x.serial) is (none_found r xs ys none)
    where
      by : (found : Option ℕ) → r ≡ with_next x.serial found (first_with pick (serials_in xs)) → (r ≡ first_with pick (serials_in xs) → first_with pick (serials_in ys) ≡ first_with pick (serials_in (xs ++ ys)))
          → first_with pick (serials_in ys) ≡ with_next x.serial found (first_with pick (serials_in (xs ++ ys)))
      by (Some index) here later = absurd (let no : true ≡ false = ap is_some (sym here) ∙ none in cc no)
      by None here later = later here

  pub in_before : (xs ys zs : List Searched) (r : Option (ℕ × ℕ)) → is_some r ≡ true → r ≡ first_with pick (serials_in xs) → r ≡ first_with pick (serials_in (xs ++ ys ++ zs))
  in_before xs ys zs r some is = one_found r (xs ++ ys) zs some (one_found r xs ys some is)

  pub in_global : (xs ys zs : List Searched) (before r : Option (ℕ × ℕ)) → is_some before ≡ false → before ≡ first_with pick (serials_in xs) → is_some r ≡ true → r ≡ first_with pick (serials_in ys)
      → r ≡ first_with pick (serials_in (xs ++ ys ++ zs))
  in_global xs ys zs before r none was some is = one_found r (xs ++ ys) zs some (is ∙ none_found before xs ys none was)

  pub in_after : (xs ys zs : List Searched) (before global r : Option (ℕ × ℕ)) → is_some before ≡ false → before ≡ first_with pick (serials_in xs) → is_some global ≡ false → global ≡ first_with pick (serials_in ys)
      → r ≡ first_with pick (serials_in zs) → r ≡ first_with pick (serials_in (xs ++ ys ++ zs))
  in_after xs ys zs before global r none was nowhere were is = is ∙ none_found global (xs ++ ys) zs nowhere (were ∙ none_found before xs ys none was)

-- the parts of a list that is placed
pub first_placed : (P : Searched → Type 0) (xs ys : List Searched) → AllByRecursion P (xs ++ ys) → AllByRecursion P xs
first_placed P [] ys all = tt
first_placed P (x ∷ xs) ys all = (all.0, first_placed P xs ys all.1)

pub last_placed : (P : Searched → Type 0) (xs ys : List Searched) → AllByRecursion P (xs ++ ys) → AllByRecursion P ys
last_placed P [] ys all = all
last_placed P (x ∷ xs) ys all = last_placed P xs ys all.1

-- the choice for a symbol that no other object may define, and for another
pub own_choice : (s : Seen) (o : Loaded) (index : ℕ) (symbol : Symbol) (copy : Bool) → (not copy && is_own symbol) ≡ true → Def o.serial index ≡ choose_for s o index symbol copy
unfolding choose_for
own_choice s o index symbol copy own = rw own refl

pub searched_choice : (s : Seen) (o : Loaded) (index : ℕ) (symbol : Symbol) (copy : Bool) (name : List ℕ) (w : Want) (list : List ℕ) (found : Option (ℕ × ℕ)) → (not copy && is_own symbol) ≡ false
    → name ≡ symbol.name → w ≡ want_of o.object symbol → FindsAlike list (scope s o) → found ≡ first_with (outside copy o.serial (pick_at s name w)) list → choice_of symbol found ≡ choose_for s o index symbol copy
unfolding choose_for
searched_choice s o index symbol copy name w list found other named wants listed is =
    let all : found ≡ first_with (pick_at s symbol.name (want_of o.object symbol)) (searched s o copy) =
    is
    ∙ searched_is s o (pick_at s name w) copy list listed
    ∙ ap (λ n. first_with (pick_at s n w) (searched s o copy)) named
    ∙ ap (λ (x : Want). first_with (pick_at s symbol.name x) (searched s o copy)) wants in
    rw other (ap (choice_of symbol) all)

-- ---- tables

-- what is found has what all have
by_serial : (x : Loaded) (rest : List Loaded) (serial : ℕ) (o : Loaded) (own : Bool) → IsTableOf x.table x.object → (with_serial rest serial ≡ Some o → IsTableOf o.table o.object) → cond own (Some x) (with_serial rest serial) ≡ Some o → IsTableOf o.table o.object
by_serial x rest serial o true has later here = (let same : x ≡ o = cc here in let P : Loaded → Type 0 = λ y. IsTableOf y.table y.object in subst P same has)
by_serial x rest serial o false has later there = later there

found_has : (objects : List Loaded) (serial : ℕ) (o : Loaded) → AllByRecursion (λ (x : Loaded). IsTableOf x.table x.object) objects → with_serial objects serial ≡ Some o → IsTableOf o.table o.object
found_has [] serial o all found = absurd (cc found)
found_has (x ∷ rest) serial o all found = by_serial x rest serial o (x.serial == serial) all.0 (found_has rest serial o all.1) found

pub tables_there : (s : Seen) → AllByRecursion (λ (x : Loaded). IsTableOf x.table x.object) s.objects → HaveTables s
tables_there s all serial o there = found_has s.objects serial o all there

-- ---- what is kept

-- the choice for a symbol that is there
pub symbol_choice : (s : Seen) (o : Loaded) (index : ℕ) (symbol : Symbol) (copy : Bool) (c : Choice) → index < length o.object.symbols → symbol ≡ get_or o.object.symbols index symbol → c ≡ choose_for s o index symbol copy → c ≡ choice_of_symbol s o index copy
symbol_choice s o index symbol copy c within is chosen =
    let here : slice_get o.object.symbols index ≡ Some symbol = slice_get-get_or o.object.symbols index symbol within ∙ ap (λ (x : Symbol). Some x) (sym is) in
    rw (here, choice_of_symbol) chosen

-- nothing is kept at first
pub none_kept : (s : Seen) (o : Loaded) (copy : Bool) (kept : List (Option Choice)) (n : ℕ) → length kept ≡ n → ((k : ℕ) → k < n → get_or kept k None ≡ None) → AreKept s o copy kept
none_kept s o copy kept n long none k choice is =
    elim (cases_lt k n) [
      | inl lt ↦ absurd (let no : None ≡ Some choice = sym (none k lt) ∙ is in cc no)
      | inr past ↦ absurd (let no : None ≡ Some choice = sym (get_or_past kept k None (omega arith)) ∙ is in cc no)
    ]

-- ---- alike symbols

-- what is found for a symbol that another object may define
abbrev found_for : Seen → Loaded → Bool → Symbol → Option (ℕ × ℕ)
found_for s o copy y = first_with (pick_at s y.name (want_of o.object y)) (searched s o copy)

by_search : (s : Seen) (o : Loaded) (i : ℕ) (y : Symbol) (copy : Bool) → (not copy && is_own y) ≡ false → choose_for s o i y copy ≡ choice_of y (found_for s o copy y)
unfolding choose_for
by_search s o i y copy other = rw other refl

-- a version is asked by its index alone
abbrev wanted_of : Object → ℕ → Want
wanted_of o v = if nat_le 2 v then elim (version_name o v) [ Some w ↦ want.Version w | None ↦ want.Plain ] else want.Plain

alike_found : (s : Seen) (o : Loaded) (copy : Bool) (x y : Symbol) → IsAlike x y → found_for s o copy x ≡ found_for s o copy y
alike_found s o copy x y alike =
    ap (λ (n : List ℕ). first_with (pick_at s n (want_of o.object x)) (searched s o copy)) alike.name
    ∙ ap (λ (v : ℕ). first_with (pick_at s y.name (wanted_of o.object v)) (searched s o copy)) alike.version

-- so what is kept for another symbol tells the choice
pub alike_choice : (s : Seen) (o : Loaded) (copy : Bool) (kept : List (Option Choice)) (other index : ℕ) (symbol before : Symbol) (c r : Choice) → index < length o.object.symbols → other < length o.object.symbols
    → symbol ≡ get_or o.object.symbols index symbol → before ≡ get_or o.object.symbols other before → IsAlike before symbol → (not copy && is_own symbol) ≡ false → (not copy && is_own before) ≡ false
    → Some c ≡ get_or kept other None → ((x : Symbol) (found : Option (ℕ × ℕ)) → c ≡ choice_of x found → r ≡ choice_of symbol found) → AreKept s o copy kept → r ≡ choice_of_symbol s o index copy
alike_choice s o copy kept other index symbol before c r within there-is here there alike apart apart-before is gives are =
    let first : choose_for s o other before copy ≡ choice_of_symbol s o other copy = symbol_choice s o other before copy (choose_for s o other before copy) there-is there refl in
    let was : c ≡ choice_of before (found_for s o copy before) = are other c (sym is) ∙ sym first ∙ by_search s o other before copy apart-before in
    let now : r ≡ choose_for s o index symbol copy = gives before (found_for s o copy before) was ∙ ap (choice_of symbol) (alike_found s o copy before symbol alike) ∙ sym (by_search s o index symbol copy apart) in
    now ∙ symbol_choice s o index symbol copy (choose_for s o index symbol copy) within here refl

-- ---- the names of versions

-- an object is there under its own serial
serial_by : (x : Loaded) (rest : List Loaded) (q : ℕ) (o : Loaded) (own : Bool) → (x.serial == q) ≡ own → (with_serial rest q ≡ Some o → o.serial ≡ q) → cond own (Some x) (with_serial rest q) ≡ Some o → o.serial ≡ q
serial_by x rest q o true same later here = (let is : x ≡ o = cc here in ap (λ (y : Loaded). y.serial) (sym is) ∙ eqb-true x.serial q same)
serial_by x rest q o false other later there = later there

serial_found : (objects : List Loaded) (q : ℕ) (o : Loaded) → with_serial objects q ≡ Some o → o.serial ≡ q
serial_found [] q o found = absurd (cc found)
serial_found (x ∷ rest) q o found = serial_by x rest q o (x.serial == q) refl (serial_found rest q o) found

pub there_by_serial : (s : Seen) (q : ℕ) (o : Loaded) → object_of s q ≡ Some o → object_of s o.serial ≡ Some o
there_by_serial s q o there = ap (object_of s) (serial_found s.objects q o there) ∙ there

-- the names of the object at a place, if there is one
pub names_there : (found : Option Loaded) (names : Option (Bor (List (Option VersionPlace)))) → ((o : Loaded) → found ≡ Some o → option_copied names ≡ Some (places_of o.object)) → IfSome found (λ o. IfSome names (λ n. n.now ≡ places_of o.object))
names_there None names are = tt
names_there (Some o) None are = tt
names_there (Some o) (Some n) are = (let is : Some n.now ≡ Some (places_of o.object) = are o refl in cc is)
