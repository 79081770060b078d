-- What a search by a table finds, of what its walk keeps.
use Rattle.std.proofs.Common.{◌≡◌, ◌↔◌, ◌∙◌, ap, sym, subst, ℕ, ◌<◌, Bool, true, false, List, refl, arith, inl, inr}
use Rattle.std.specs.Prelude.{◌==◌, ◌&&◌, ◌||◌, not, IfSome, Option, Some, None}
use Rattle.ld_base.specs.Marks.{is_marked}
use Rattle.std.specs.Str.{bytes_eq}
use Rattle.std.proofs.lemmas.Bool.{and_from, and_parts}
use Rattle.std.proofs.lemmas.Slice.Eq.{bytes_eq-Decides}
use Rattle.ld_base.specs.declared.linking.Want.{Want}
use Rattle.ld_base.specs.declared.linking.Want.TheVariants as want
use Rattle.ld_base.specs.declared.object.Object.{Object}
use Rattle.ld_base.specs.declared.object.Symbol.{Symbol}
use Rattle.ld_base.specs.declared.parts.GnuPart.{GnuPart}
use Rattle.ld_base.specs.declared.parts.HashTable.{HashTable}
use Rattle.ld_base.specs.declared.parts.SysvPart.{SysvPart}
use Rattle.ld_base.specs.Pick.{carries, is_offer, is_wanted, names_no_version, pick_of}
use Rattle.ld_base.specs.Symbol.{is_hidden_version, is_visible_definition, version_index}
use Rattle.ld_base.specs.Taken.{Exports, Takes, fits, in_sight}
use Rattle.sym_hash.specs.Hash.{gnu_hash}
use Rattle.sym_hash.specs.Reached.{IsTableOf, Reached, ReachedByGnu, ReachedBySysv}
use Rattle.sym_lookup.specs.SymFind.Best.{FirstOf, IsWantedAt, Keeps, KeepsAll, Knows, OnlyOf, nothing, only_of, taken}
use Rattle.sym_lookup.specs.SymFind.Found.{Finds, Least, Nowhere, Offers, Only}
use Rattle.sym_lookup.specs.SymFind.Walks.{HasBits, InBloom}
use Rattle.sym_lookup.specs.declared.sym_find.best.Best.{Best}
use Rattle.sym_lookup.specs.declared.sym_find.best.Search.{Search}
use Rattle.sym_lookup.specs.declared.sym_find.best.Sight.{Sight}
use Rattle.sym_lookup.specs.declared.sym_find.best.Sight.TheVariants.{Nothing, One, Several}
use Rattle.sym_lookup.proofs.SymFind.Kept.{first_same, knows_same, only_same}

-- ---- the table that counts

pub by_gnu : (t : HashTable) (g : GnuPart) (name : List ℕ) (w : Search) (b : Best) → t.gnu ≡ Some g → Knows w (ReachedByGnu g name) b → Knows w (Reached t name) b
by_gnu t g name w b is knows = knows_same w (ReachedByGnu g name) (Reached t name) b (λ k r. rw is r) knows (λ k r. rw is at r)

pub by_sysv : (t : HashTable) (s : SysvPart) (name : List ℕ) (w : Search) (b : Best) → t.gnu ≡ None → t.sysv ≡ Some s → Knows w (ReachedBySysv s name) b → Knows w (Reached t name) b
by_sysv t s name w b none is knows = knows_same w (ReachedBySysv s name) (Reached t name) b (λ k r. rw (none, is) r) knows (λ k r. rw (none, is) at r)

-- ---- a table that leads to no symbol of the name

pub keeps_none : (o : Object) (name : List ℕ) (w : Want) (led : ℕ → Type 0) → ((k : ℕ) → led k → ⊥) → Keeps o name w led nothing
keeps_none o name w led none = record { first = λ k has. none k has.1; sight = λ empty k has. none k has.1 }

not_both : (b : Bool) → b ≡ true → not b ≡ true → ⊥
not_both true is other = absurd (cc other)
not_both false is other = absurd (cc is)

pub ruled_out : (t : HashTable) (g : GnuPart) (name : List ℕ) (hash : ℕ) (has : Bool) → t.gnu ≡ Some g → hash ≡ gnu_hash name → InBloom g hash has → not has ≡ true → (k : ℕ) → Reached t name k → ⊥
ruled_out t g name hash has is of bloom out k reached =
    let r : ReachedByGnu g name k = rw is at reached in
    let bits : HasBits g (gnu_hash name) = record { bloom = r.bloom; filter = r.filter; first_bit = r.first_bit; second_bit = r.second_bit } in
    not_both has (bloom.1 (subst (λ h. HasBits g h) (sym of) bits)) out

-- ---- which versions are wanted

module _ (o : Object) (name : List ℕ) (s : Symbol) where
  fits_wanted : (w : Want) (wanted : Bool) → o.has_versym ≡ true → is_wanted o w s ≡ wanted → fits o name w s ≡ (is_offer o name s && wanted)
  fits_wanted w wanted some is = ap (λ b. is_offer o name s && (not b || is_wanted o w s)) some ∙ ap (λ b. is_offer o name s && b) is

  pub fits_plain : (w : Want) → o.has_versym ≡ true → w ≡ want.Plain → fits o name w s ≡ (is_offer o name s && (version_index s == 1 || version_index s == 2))
  fits_plain w some is = fits_wanted w (version_index s == 1 || version_index s == 2) some (ap (λ (x : Want). is_wanted o x s) is)

  pub fits_dlsym : (w : Want) → o.has_versym ≡ true → w ≡ want.Dlsym → fits o name w s ≡ (is_offer o name s && (version_index s == 1 || version_index s == 1))
  fits_dlsym w some is = fits_wanted w (version_index s == 1 || version_index s == 1) some (ap (λ (x : Want). is_wanted o x s) is ∙ twice (version_index s == 1))
    where
      twice : (b : Bool) → b ≡ (b || b)
      twice true = refl
      twice false = refl

  pub fits_version : (w : Want) (version : List ℕ) (marks : List ℕ) → o.has_versym ≡ true → w ≡ want.Version version → ((index : ℕ) → index < 0x8000 → is_marked marks index ≡ carries o version index)
      → fits o name w s ≡ (is_offer o name s && (is_marked marks (version_index s) || s.version == 1))
  fits_version w version marks some is marked =
      fits_wanted w (is_marked marks (version_index s) || s.version == 1) some (ap (λ (x : Want). is_wanted o x s) is ∙ ap (λ b. b || s.version == 1) (sym (marked (version_index s) (omega arith))))

  pub fits_just : (w : Want) (version : List ℕ) (marks : List ℕ) → o.has_versym ≡ true → w ≡ want.Dlvsym version → ((index : ℕ) → index < 0x8000 → is_marked marks index ≡ carries o version index)
      → fits o name w s ≡ (is_offer o name s && is_marked marks (version_index s))
  fits_just w version marks some is marked =
      fits_wanted w (is_marked marks (version_index s)) some (ap (λ (x : Want). is_wanted o x s) is ∙ sym (marked (version_index s) (omega arith)))

-- tests that are the same export the same
same_exports : (o : Object) (test other : Symbol → Bool) → ((s : Symbol) → test s ≡ other s) → (k : ℕ) → Exports o test k → Exports o other k
same_exports o test other same k (from, s, at, passes) = (from, s, at, sym (same s) ∙ passes)

pub keeps : (o : Object) (name : List ℕ) (w : Want) (led : ℕ → Type 0) (b : Best) (fit sight : Symbol → Bool) → ((s : Symbol) → fits o name w s ≡ fit s) → ((s : Symbol) → in_sight o name s ≡ sight s)
    → FirstOf (λ k. Exports o fit k × led k) b.first → (b.first ≡ None → OnlyOf (λ k. Exports o sight k × led k) b.sight) → Keeps o name w led b
keeps o name w led b fit sight fitting seen first only = record {
  first = first_same (λ k. Exports o fit k × led k) (λ k. Exports o (fits o name w) k × led k)
      (λ k has. (same_exports o fit (fits o name w) (λ s. sym (fitting s)) k has.0, has.1)) (λ k has. (same_exports o (fits o name w) fit fitting k has.0, has.1)) b.first first;
  sight = λ none.
      only_same (λ k. Exports o sight k × led k) (λ k. Exports o (in_sight o name) k × led k)
      (λ k has. (same_exports o sight (in_sight o name) (λ s. sym (seen s)) k has.0, has.1)) (λ k has. (same_exports o (in_sight o name) sight seen k has.0, has.1)) b.sight (only none);
}

-- ---- where the first of the name decides

module _ (o : Object) (name : List ℕ) (w : Want) (led : ℕ → Type 0) where
  abbrev Named : ℕ → Type 0
  Named k = Exports o (is_offer o name) k × led k

  abbrev Fitting : ℕ → Type 0
  Fitting k = Exports o (fits o name w) k × led k

  named_of : (k : ℕ) → Fitting k → Named k
  named_of k ((from, s, at, fit), has) = ((from, s, at, (and_parts (is_offer o name s) (not o.has_versym || is_wanted o w s) fit).0), has)

  first_decides : (first : Option ℕ) → FirstOf Named first → IfSome first (IsWantedAt o w) → FirstOf Fitting first
  first_decides None none wanted = λ k has. none k (named_of k has)
  first_decides (Some k) (((from, s, at, offer), has), least) wanted = (
    ((from, s, at, and_from (is_offer o name s) (not o.has_versym || is_wanted o w s) offer (wanted s at)), has),
    λ j other. least j (named_of j other),
  )

  pub decided : (b : Best) → KeepsAll o name led b → IfSome b.first (IsWantedAt o w) → Keeps o name w led b
  decided b all wanted = record { first = first_decides b.first all.first wanted; sight = all.sight }

-- all that a search of any version keeps
pub keeps_all : (o : Object) (name : List ℕ) (led : ℕ → Type 0) (b : Best) (fit sight : Symbol → Bool) → ((s : Symbol) → is_offer o name s ≡ fit s) → ((s : Symbol) → in_sight o name s ≡ sight s)
    → FirstOf (λ k. Exports o fit k × led k) b.first → (b.first ≡ None → OnlyOf (λ k. Exports o sight k × led k) b.sight) → KeepsAll o name led b
keeps_all o name led b fit sight fitting seen first only = record {
  first = first_same (λ k. Exports o fit k × led k) (λ k. Exports o (is_offer o name) k × led k)
      (λ k has. (same_exports o fit (is_offer o name) (λ s. sym (fitting s)) k has.0, has.1)) (λ k has. (same_exports o (is_offer o name) fit fitting k has.0, has.1)) b.first first;
  sight = λ none.
      only_same (λ k. Exports o sight k × led k) (λ k. Exports o (in_sight o name) k × led k)
      (λ k has. (same_exports o sight (in_sight o name) (λ s. sym (seen s)) k has.0, has.1)) (λ k has. (same_exports o (in_sight o name) sight seen k has.0, has.1)) b.sight (only none);
}

pub with_true : (b : Bool) → b ≡ (b && true)
with_true true = refl
with_true false = refl

-- ---- what is taken of it

module _ (t : HashTable) (o : Object) (name : List ℕ) (w : Want) where
  abbrev Fit : ℕ → Type 0
  Fit k = Offers t o name (fits o name w) k

  abbrev Seen : ℕ → Type 0
  Seen k = Offers t o name (in_sight o name) k

  from_sight : (sight : Sight) (k : ℕ) → OnlyOf Seen sight → only_of sight ≡ Some k → Only Seen k
  from_sight Nothing k keeps e = absurd (cc e)
  from_sight (One j) k keeps e = (let same : j ≡ k = cc e in subst (Only Seen) same keeps)
  from_sight Several k keeps e = absurd (cc e)

  to_sight : (sight : Sight) (k : ℕ) → OnlyOf Seen sight → Only Seen k → only_of sight ≡ Some k
  to_sight Nothing k none (has, only) = absurd (none k has)
  to_sight (One j) k (own, one) (has, only) = ap Some (only j own)
  to_sight Several k (i, j, one, other, apart) (has, only) = absurd (apart (only i one ∙ sym (only j other)))

  from_taken : (first : Option ℕ) (sight : Sight) (only : Bool) (k : ℕ) → FirstOf Fit first → (first ≡ None → OnlyOf Seen sight) → (o.has_versym && names_no_version w) ≡ only → taken (record { first = first; sight = sight }) only ≡ Some k → Finds t o name w k
  from_taken (Some j) sight only k keeps seen is e = (let same : j ≡ k = cc e in inl (subst (Least Fit) same keeps))
  from_taken None sight true k keeps seen is e = inr (is, keeps, from_sight sight k (seen refl) e)
  from_taken None sight false k keeps seen is e = absurd (cc e)

  to_taken : (first : Option ℕ) (sight : Sight) (only : Bool) (k : ℕ) → FirstOf Fit first → (first ≡ None → OnlyOf Seen sight) → (o.has_versym && names_no_version w) ≡ only → Finds t o name w k → taken (record { first = first; sight = sight }) only ≡ Some k
  to_taken (Some j) sight only k (own, first) seen is (inl (has, least)) = (let one = first k has in let other = least j own in let same : j ≡ k = omega arith in ap Some same)
  to_taken (Some j) sight only k (own, first) seen is (inr (names, none, one)) = absurd (none j own)
  to_taken None sight only k none seen is (inl (has, least)) = absurd (none k has)
  to_taken None sight true k none seen is (inr (names, nowhere, one)) = to_sight sight k (seen refl) one
  to_taken None sight false k none seen is (inr (names, nowhere, one)) = absurd (cc (names, is))

  pub finds : (b : Best) (only : Bool) (found : Option ℕ) → only ≡ (o.has_versym && names_no_version w) → Keeps o name w (Reached t name) b → found ≡ taken b only → (k : ℕ) → (found ≡ Some k) ↔ Finds t o name w k
  finds b only found is keeps result k =
      (λ e. from_taken b.first b.sight only k keeps.first keeps.sight (sym is) (sym result ∙ e), λ finds. result ∙ to_taken b.first b.sight only k keeps.first keeps.sight (sym is) finds)

  -- what fits or is in sight is a definition of the name
  offer_of_fit : (s : Symbol) → fits o name w s ≡ true → is_offer o name s ≡ true
  offer_of_fit s fit = (and_parts (is_offer o name s) (not o.has_versym || is_wanted o w s) fit).0

  offer_of_sight : (s : Symbol) → in_sight o name s ≡ true → is_offer o name s ≡ true
  offer_of_sight s seen = (and_parts (is_offer o name s) (not (is_hidden_version s)) seen).0

  fit_offer : (k : ℕ) → Fit k → Offers t o name (is_offer o name) k
  fit_offer k ((from, s, at, fit), led) = ((from, s, at, offer_of_fit s fit), led)

  sight_offer : (k : ℕ) → Seen k → Offers t o name (is_offer o name) k
  sight_offer k ((from, s, at, seen), led) = ((from, s, at, offer_of_sight s seen), led)

  pub found_offer : (k : ℕ) → Finds t o name w k → Offers t o name (is_offer o name) k
  found_offer k (inl (has, least)) = fit_offer k has
  found_offer k (inr (names, none, (has, only))) = sight_offer k has

  pub found_if : (found : Option ℕ) → ((k : ℕ) → (found ≡ Some k) ↔ Finds t o name w k) → IfSome found (Offers t o name (is_offer o name))
  found_if None is = tt
  found_if (Some k) is = found_offer k ((is k).0 refl)

  module _ (of : IsTableOf t o) where
    -- in the object's own table each definition of the name is reached
    led : (k : ℕ) (test : Symbol → Bool) → ((s : Symbol) → test s ≡ true → is_offer o name s ≡ true) → Exports o test k → Offers t o name test k
    led k test offers (from, s, at, passes) =
        let named = and_parts (is_visible_definition s && bytes_eq s.name name) (not o.has_versym || not (version_index s == 0)) (offers s passes) in
        let visible = and_parts (is_visible_definition s) (bytes_eq s.name name) named.0 in
        let same : s.name ≡ name = (bytes_eq-Decides s.name name).0 visible.1 in
        ((from, s, at, passes), subst (λ n. Reached t n k) same (of.reached k s from at visible.0))

    finds_takes : (k : ℕ) → Finds t o name w k → Takes o name w k
    finds_takes k (inl (has, least)) = inl (has.0, λ j other. least j (led j (fits o name w) offer_of_fit other))
    finds_takes k (inr (names, none, (has, only))) = inr (names, λ j other. none j (led j (fits o name w) offer_of_fit other), (has.0, λ j other. only j (led j (in_sight o name) offer_of_sight other)))

    takes_finds : (k : ℕ) → Takes o name w k → Finds t o name w k
    takes_finds k (inl (has, least)) = inl (led k (fits o name w) offer_of_fit has, λ j other. least j other.0)
    takes_finds k (inr (names, none, (has, only))) = inr (names, λ j other. none j other.0, (led k (in_sight o name) offer_of_sight has, λ j other. only j other.0))

    picks_same : (found picked : Option ℕ) → ((k : ℕ) → (found ≡ Some k) ↔ Finds t o name w k) → ((k : ℕ) → (picked ≡ Some k) ↔ Takes o name w k) → found ≡ picked
    picks_same None None f p = refl
    picks_same None (Some k) f p = (f k).1 (takes_finds k ((p k).0 refl))
    picks_same (Some k) picked f p = sym ((p k).1 (finds_takes k ((f k).0 refl)))

    pub picks : (found : Option ℕ) → ((k : ℕ) → (found ≡ Some k) ↔ Finds t o name w k) → ((k : ℕ) → (pick_of o name w ≡ Some k) ↔ Takes o name w k) → found ≡ pick_of o name w
    picks found f p = picks_same found (pick_of o name w) f p

-- of a name and a version that are the same
pub same_finds : (t : HashTable) (o : Object) (name other : List ℕ) (w v : Want) (found : Option ℕ) → other ≡ name → v ≡ w → ((k : ℕ) → (found ≡ Some k) ↔ Finds t o other v k) → (k : ℕ) → (found ≡ Some k) ↔ Finds t o name w k
same_finds t o name other w v found names wants finds =
    subst (λ x. (k : ℕ) → (found ≡ Some k) ↔ Finds t o x w k) names (subst (λ (x : Want). (k : ℕ) → (found ≡ Some k) ↔ Finds t o other x k) wants finds)

pub same_pick : (o : Object) (name other : List ℕ) (w v : Want) → other ≡ name → v ≡ w → pick_of o other v ≡ pick_of o name w
same_pick o name other w v names wants = ap (λ n. pick_of o n v) names ∙ ap (λ (x : Want). pick_of o name x) wants

-- where a table of an object leads to no symbol of a name, a reference takes none
pub nowhere_picks : (t : HashTable) (o : Object) (name : List ℕ) (w : Want) → IsTableOf t o → Nowhere (Reached t name) → ((k : ℕ) → (pick_of o name w ≡ Some k) ↔ Takes o name w k) → None ≡ pick_of o name w
nowhere_picks t o name w of nowhere takes = picks t o name w of None (λ k. (λ none. absurd (cc none), λ found. absurd (nowhere k (found_offer t o name w k found).1))) takes
