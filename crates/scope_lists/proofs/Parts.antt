-- The parts of scopes.
use Rattle.std.proofs.Common.{◌≡◌, ℕ, Bool, true, false, cond, inl, inr, List, [], ◌∷◌, ◌++◌, map, refl, subst, sym, ap, append-nil, append_assoc, eq-eqb, ◌∙◌}
use Rattle.std.specs.Prelude.{◌==◌, ◌||◌, not, IfOk, Option, Some, None, Result, Ok, Err}
use Rattle.std.specs.declared.alloc.AllocError.{AllocError}
use Rattle.std.specs.List.{list_any}
use Rattle.std.specs.Option.{option_or}
use Rattle.std.proofs.lemmas.Bool.{eqb-true}
use Rattle.ld_base.specs.declared.linking.Loaded.{Loaded}
use Rattle.scope_rule.specs.Breadth.{breadth, has}
use Rattle.scope_rule.specs.Choose.{first_with}
use Rattle.scope_rule.specs.Lemmas.Orders.{first_of_two}
use Rattle.scope_rule.specs.Loading.{is_dying}
use Rattle.scope_rule.specs.Scope.{scope, whole_scope}
use Rattle.scope_rule.specs.Seen.{Seen}
use Rattle.scope_lists.specs.Brought.{brought_in}
use Rattle.scope_lists.specs.Kept.{ArePlaced, IsOwn, IsScope, after_of, before_of, entry_in, kept_in}
use Rattle.scope_rule.specs.Places.{serials_of}
use Rattle.scope_lists.specs.Searched.{FindsAlike, serials_in}
use Rattle.scope_lists.specs.declared.kept.KeptScope.{KeptScope}
use Rattle.scope_lists.specs.declared.searched.Searched.{Searched}
use Rattle.scope_lists.proofs.Stands.{sees_all}

-- ---- searches of lists that follow one another

module _ (pick : ℕ → Option ℕ) where
  abbrev with_next : ℕ → Option ℕ → Option (ℕ × ℕ) → Option (ℕ × ℕ)
  with_next x found rest = elim found [ Some index ↦ Some (x, index) | None ↦ rest ]

  -- where nothing is found no element has anything
  none_at : (xs : List ℕ) (x : ℕ) → first_with pick xs ≡ None → has xs x ≡ true → pick x ≡ None
  none_at [] x none there = absurd (cc there)
  none_at (y ∷ ys) x none there = by (pick y) refl none (none_at ys x)
    where
      by_place : (own : Bool) → (y == x) ≡ own → pick y ≡ None → (has ys x ≡ true → pick x ≡ None) → (own || has ys x) ≡ true → pick x ≡ None
      by_place true same is later here = ap pick (sym (eqb-true y x same)) ∙ is
      by_place false other is later here = later here

      by : (found : Option ℕ) → pick y ≡ found → with_next y found (first_with pick ys) ≡ None → (first_with pick ys ≡ None → has ys x ≡ true → pick x ≡ None) → pick x ≡ None
      by (Some index) is some later = absurd (cc some)
      by None is rest later = by_place (y == x) refl is (later rest) there

  or_later : (a b : Bool) → b ≡ true → (a || b) ≡ true
  or_later true b e = refl
  or_later false b e = e

  none_in : (ys : List ℕ) → ((y : ℕ) → has ys y ≡ true → pick y ≡ None) → first_with pick ys ≡ None
  none_in [] none = refl
  none_in (y ∷ ys) none =
      ap (λ (found : Option ℕ). with_next y found (first_with pick ys)) (none y (ap (λ b. b || has ys y) (eq-eqb y y refl)))
      ∙ none_in ys (λ x there. none x (or_later (y == x) (has ys x) there))

  -- what stands in one list already finds nothing behind it
  covered_behind : (xs ys zs : List ℕ) → ((y : ℕ) → has ys y ≡ true → has xs y ≡ true) → first_with pick (xs ++ zs) ≡ first_with pick (xs ++ ys ++ zs)
  covered_behind xs ys zs inside = first_of_two pick xs zs ∙ by (first_with pick xs) refl ∙ sym (first_of_two pick (xs ++ ys) zs ∙ ap (λ (found : Option (ℕ × ℕ)). option_or found (first_with pick zs)) (first_of_two pick xs ys))
    where
      by : (found : Option (ℕ × ℕ)) → first_with pick xs ≡ found → option_or found (first_with pick zs) ≡ option_or (option_or found (first_with pick ys)) (first_with pick zs)
      by (Some m) is = refl
      by None is = ap (λ (o : Option (ℕ × ℕ)). option_or o (first_with pick zs)) (sym (none_in ys (λ y there. none_at xs y is (inside y there))))

  alike_behind : (a xs ys : List ℕ) → first_with pick xs ≡ first_with pick ys → first_with pick (a ++ xs) ≡ first_with pick (a ++ ys)
  alike_behind a xs ys alike = first_of_two pick a xs ∙ ap (option_or (first_with pick a)) alike ∙ sym (first_of_two pick a ys)

-- ---- the whole scope of an object

abbrev whole_by : List ℕ → List ℕ → List ℕ → List ℕ → Bool → List ℕ
whole_by own_first global brought libraries deep = own_first ++ cond deep [] global ++ brought ++ libraries ++ cond deep global [] ++ 0 ∷ []

abbrev parts_by : List ℕ → List ℕ → List ℕ → Bool → List ℕ
parts_by own_first global own deep = (own_first ++ cond deep own []) ++ global ++ (cond deep [] own ++ 0 ∷ [])

behind_both : (first brought libraries : List ℕ) → first ++ (brought ++ libraries) ++ 0 ∷ [] ≡ first ++ brought ++ libraries ++ [] ++ 0 ∷ []
behind_both f b l = ap (λ (xs : List ℕ). xs ++ 0 ∷ []) (sym (append_assoc f b l) ∙ sym (append-nil (f ++ b ++ l)))

all_own : (own_first global brought libraries : List ℕ) (deep : Bool) → parts_by own_first global (brought ++ libraries) deep ≡ whole_by own_first global brought libraries deep
all_own a g b l true = ap (λ (xs : List ℕ). xs ++ g ++ 0 ∷ []) (sym (append_assoc a b l) ∙ ap (λ (xs : List ℕ). xs ++ b ++ l) (sym (append-nil a)))
all_own a g b l false =
    ap (λ (xs : List ℕ). xs ++ g ++ (b ++ l ++ 0 ∷ [])) (append-nil a)
    ∙ sym (append_assoc (a ++ g) (b ++ l) (0 ∷ []))
    ∙ behind_both (a ++ g) b l

none_own : (pick : ℕ → Option ℕ) (a g b l : List ℕ) → ((x : ℕ) → has (b ++ l) x ≡ true → has g x ≡ true) → first_with pick (parts_by a g [] false) ≡ first_with pick (whole_by a g b l false)
none_own pick a g b l inside =
    ap (first_with pick) (ap (λ (xs : List ℕ). xs ++ g ++ 0 ∷ []) (append-nil a) ∙ append_assoc a g (0 ∷ []))
    ∙ alike_behind pick a (g ++ 0 ∷ []) (g ++ (b ++ l) ++ 0 ∷ []) (covered_behind pick g (b ++ l) (0 ∷ []) inside)
    ∙ ap (first_with pick)
    (sym (append_assoc a (g ++ (b ++ l)) (0 ∷ [])) ∙ ap (λ (xs : List ℕ). xs ++ 0 ∷ []) (sym (append_assoc a g (b ++ l))) ∙ behind_both (a ++ g) b l)

abbrev own_first_of : Loaded → List ℕ
own_first_of o = cond o.object.flags.symbolic (o.serial ∷ []) []

parts_alike : (s : Seen) (o : Loaded) (own : List ℕ) → IsOwn s o own → FindsAlike (before_of o own ++ s.global ++ after_of o own) (whole_scope s o)
parts_alike s o own (inl all) pick =
    ap (λ (xs : List ℕ). first_with pick (parts_by (own_first_of o) s.global xs o.deep)) all
    ∙ ap (first_with pick) (all_own (own_first_of o) s.global (brought_in s o.serial) (breadth s o.serial) o.deep)
parts_alike s o own (inr (none, shallow, covered)) pick =
    ap (λ (xs : List ℕ). first_with pick (parts_by (own_first_of o) s.global xs o.deep)) none
    ∙ ap (λ (deep : Bool). first_with pick (parts_by (own_first_of o) s.global [] deep)) shallow
    ∙ none_own pick (own_first_of o) s.global (brought_in s o.serial) (breadth s o.serial) covered
    ∙ ap (λ (deep : Bool). first_with pick (whole_by (own_first_of o) s.global (brought_in s o.serial) (breadth s o.serial) deep)) (sym shallow)

-- that of one that sees each object
seen_whole : (s : Seen) (o : Loaded) → (is_dying o || not (list_any is_dying s.objects)) ≡ true → whole_scope s o ≡ scope s o
unfolding scope
seen_whole s o sees = sees_all s o (whole_scope s o) sees

-- ---- objects with their places

serials_back : (all xs : List ℕ) → serials_in (map (entry_in all) xs) ≡ xs
serials_back all [] = refl
serials_back all (x ∷ xs) = ap (λ (l : List ℕ). x ∷ l) (serials_back all xs)

all_placed : (all xs : List ℕ) → ArePlaced all (map (entry_in all) xs)
all_placed all [] = tt
all_placed all (x ∷ xs) = (refl, all_placed all xs)

entries_append : (all xs ys : List ℕ) → map (entry_in all) xs ++ map (entry_in all) ys ≡ map (entry_in all) (xs ++ ys)
entries_append all [] ys = refl
entries_append all (x ∷ xs) ys = ap (λ (l : List Searched). entry_in all x ∷ l) (entries_append all xs ys)

module _ (s : Seen) (places : List ℕ) (are : places ≡ serials_of s) where
  abbrev at : ℕ → Searched
  at x = entry_in (serials_of s) x

  is_scope : (global : List Searched) (o : Loaded) (found : KeptScope) (whole : List ℕ) → kept_in global found ≡ map at whole → FindsAlike whole (scope s o) → IsScope s global o found
  is_scope global o found whole there alike = record {
    alike = λ pick. ap (first_with pick) (ap serials_in there ∙ serials_back (serials_of s) whole) ∙ alike pick;
    placed = subst (ArePlaced (serials_of s)) (sym there) (all_placed (serials_of s) whole);
  }

  -- a scope that nothing shares
  pub is_alone : (global : List Searched) (o : Loaded) (found : KeptScope) (list : List ℕ) → found.before.items ≡ map (entry_in places) list → found.is_global ≡ false → found.after.items ≡ [] → list ≡ scope s o → IsScope s global o found
  is_alone global o found list there lone none is =
      is_scope global o found list
      (ap (λ (b : Bool). found.before.items ++ cond b global [] ++ found.after.items) lone
      ∙ ap (λ (xs : List Searched). found.before.items ++ [] ++ xs) none
      ∙ append-nil (found.before.items ++ [])
      ∙ append-nil found.before.items
      ∙ there
      ∙ ap (λ (l : List ℕ). map (entry_in l) list) are)
      (λ pick. ap (first_with pick) is)

  -- one that shares the global list
  pub is_shared : (global : List Searched) (o : Loaded) (found : KeptScope) (own first last : List ℕ) → IsOwn s o own → (is_dying o || not (list_any is_dying s.objects)) ≡ true → global ≡ map at s.global → first ≡ before_of o own → last ≡ after_of o own
      → found.before.items ≡ map (entry_in places) first → found.is_global ≡ true → found.after.items ≡ map (entry_in places) last → IsScope s global o found
  is_shared global o found own first last is sees shared firsts lasts befores both afters =
      let front : found.before.items ≡ map at (before_of o own) = befores ∙ ap (λ (l : List ℕ). map (entry_in l) first) are ∙ ap (map at) firsts in
      let back : found.after.items ≡ map at (after_of o own) = afters ∙ ap (λ (l : List ℕ). map (entry_in l) last) are ∙ ap (map at) lasts in
      is_scope global o found (before_of o own ++ s.global ++ after_of o own)
      (ap (λ (b : Bool). found.before.items ++ cond b global [] ++ found.after.items) both
      ∙ ap (λ (xs : List Searched). xs ++ global ++ found.after.items) front
      ∙ ap (λ (xs : List Searched). map at (before_of o own) ++ xs ++ found.after.items) shared
      ∙ ap (λ (xs : List Searched). map at (before_of o own) ++ map at s.global ++ xs) back
      ∙ ap (λ (xs : List Searched). xs ++ map at (after_of o own)) (entries_append (serials_of s) (before_of o own) s.global)
      ∙ entries_append (serials_of s) (before_of o own ++ s.global) (after_of o own))
      (λ pick. parts_alike s o own is pick ∙ ap (first_with pick) (seen_whole s o sees))

-- the same beside whichever list
pub any_global : (s : Seen) (o : Loaded) (r : Result KeptScope AllocError) → IfOk r (λ found. (global : List Searched) → IsScope s global o found)
    → IfOk r (λ found. (global : List Searched) → global ≡ map (entry_in (serials_of s)) s.global → IsScope s global o found)
any_global s o (Ok found) all = λ global is. all global
any_global s o (Err e) all = tt

-- all of an object's own
pub whole_own : (s : Seen) (o : Loaded) (r : Result (List ℕ) AllocError) (brought libraries : List ℕ) → brought ≡ brought_in s o.serial → libraries ≡ breadth s o.serial → IfOk r (λ own. own ≡ brought ++ libraries) → IfOk r (IsOwn s o)
whole_own s o (Ok own) brought libraries first second is = inl (is ∙ ap (λ (xs : List ℕ). xs ++ libraries) first ∙ ap (λ (xs : List ℕ). brought_in s o.serial ++ xs) second)
whole_own s o (Err e) brought libraries first second is = tt
