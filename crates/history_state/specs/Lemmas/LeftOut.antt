-- Leaving dying objects out of a scope leaves none out.
use Rattle.std.proofs.Common.{◌≡◌, ⊎_elim, ℕ, ◌≤◌, Bool, true, false, not, ◌||◌, cond, eqb, List, [], ◌∷◌, Option, Some, None, refl, sym, ap, subst, ◌∙◌, arith, ◌++◌}
use Rattle.scope_rule.specs.Breadth.{breadth, has}
use Rattle.scope_rule.specs.declared.namespace.OpenRec.{OpenRec}
use Rattle.std.proofs.lemmas.List.Elements.{Contains-append_left, Contains-append_right}
use Rattle.std.specs.Prelude.{if◌then◌else◌}
use Rattle.std.specs.List.{Contains, filter, flat_map}
use Rattle.std.proofs.lemmas.Bool.{cases_Bool, eqb-true, or_left, or_right, true≢false}
use Rattle.ld_base.specs.declared.linking.Loaded.{Loaded}
use Rattle.ld_base.specs.declared.linking.State.{State as Doing}
use Rattle.ld_base.specs.declared.linking.State.TheVariants as states
use Rattle.history_event.specs.declared.event.Event.{Event}
use Rattle.scope_rule.specs.Loading.{is_dying, is_dying_at, object_of}
use Rattle.scope_rule.specs.Scope.{scope, whole_scope, opened_with}
use Rattle.scope_rule.specs.Seen.{seen_in}
use Rattle.scope_rule.specs.declared.namespace.Namespace.{Namespace}
use Rattle.history_state.specs.State.{State}
use Rattle.history_state.specs.After.{after}
use Rattle.history_state.specs.Laws.{IsIn, NothingLeftOut, ScopesAreWhole}
use Rattle.history_state.specs.Legal.{Lawful}
use Rattle.history_state.specs.Setting.{Machine}
use Rattle.history_state.specs.Lemmas.Lists.{found_in, here, later, has_not, in_flat}
use Rattle.history_state.specs.Lemmas.Scopes.{scope_in}
use Rattle.history_state.specs.Lemmas.Good.{Along, Good, Has, Safe, core, safe_reach, sound_of}
use Rattle.history_state.specs.Lemmas.Brought.{LoadLaws}
use Rattle.history_state.specs.Lemmas.Once.{Once, once_after}

filter_all : {X : Type 0} (p : X → Bool) (xs : List X) → ((x : X) → Contains xs x → p x ≡ true) → filter p xs ≡ xs
filter_all p [] all = refl
filter_all {X} p (x ∷ xs) all =
    ap (λ (b : Bool). cond b (x ∷ filter p xs) (filter p xs)) (all x (here x xs)) ∙ ap (λ (ys : List X). x ∷ ys) (filter_all p xs (λ y h. all y (later x xs y h)))

-- an object whose state says dying is dying by a hart
pub by_whom : (doing : Doing) → (elim doing [ states.Dying k ↦ true | _ ↦ false ]) ≡ true → (hart : ℕ) × (doing ≡ states.Dying hart)
by_whom (states.Initialising k) e = absurd (true≢false (sym e))
by_whom states.Ready e = absurd (true≢false (sym e))
by_whom (states.Dying k) e = (k, refl)

sees_none : (s : State) → Good (core s) → Once (core s) → (ns : Namespace) (o : Loaded) → IsIn s ns o → (d : ℕ) → Safe s.closings ns o.serial d
    → (is_dying o || not (is_dying_at (seen_in ns) d)) ≡ true
sees_none s good once ns o inside d safe = by (object_of (seen_in ns) d) refl
  where
    dies_too : (q : Loaded) → object_of (seen_in ns) d ≡ Some q → is_dying q ≡ true → is_dying o ≡ true
    dies_too q e dying =
        let at = found_in (λ (p : Loaded). eqb p.serial d) ns.objects q e in
        let is : q.serial ≡ d = eqb-true q.serial d at.1 in
        let hart = by_whom q.state dying in
        let k = once.only ns q hart.0 inside.there at.0 hart.1 in
        ⊎_elim
        (λ (zero_is : d ≡ 0). absurd (let some : 1 ≤ q.serial = good.some ns q (inside.there, at.0) in omega (arith, some, is, zero_is)))
        (λ (h : Has ns d × Along s.closings o.serial d). good.dies ns o k.0 (inside.there, inside.inside) k.1 (h.1 k.0 k.1 (subst (Contains k.0.set) is k.3)))
        safe

    by : (found : Option Loaded) → object_of (seen_in ns) d ≡ found → (is_dying o || not (elim found [ Some q ↦ is_dying q | None ↦ false ])) ≡ true
    by (Some q) e = ⊎_elim
        (λ (dying : is_dying q ≡ true). or_left (is_dying o) (not (is_dying q)) (dies_too q e dying))
        (λ (alive : is_dying q ≡ false). or_right (is_dying o) (not (is_dying q)) (ap not alive))
        (cases_Bool (is_dying q))
    by None e = or_right (is_dying o) true refl

none_left_out : (s : State) → Good (core s) → Once (core s) → NothingLeftOut s
unfolding scope
none_left_out s good once ns o inside =
    filter_all (λ d. is_dying o || not (is_dying_at (seen_in ns) d)) (whole_scope (seen_in ns) o)
    (λ d h. sees_none s good once ns o inside d
    (scope_in (seen_in ns) o (Safe s.closings ns o.serial) (safe_reach s.closings ns (sound_of (core s) good ns inside.there) o inside.inside) d h))

pub left_out : LoadLaws → (m : Machine) (journal : List Event) → Lawful m journal → NothingLeftOut (after journal)
left_out laws m journal lawful = let both = once_after laws m journal lawful in none_left_out (after journal) both.0 both.1

-- ---- the parts of a scope

with_object : (ns : Namespace) (o : Loaded) (d : ℕ) (r : OpenRec) → Contains ns.opens r → Contains (breadth (seen_in ns) r.root) o.serial → Contains (breadth (seen_in ns) r.root) d
    → Contains (flat_map (λ q. opened_with (seen_in ns) o q.root) ns.opens) d
with_object ns o d r there has_it h = in_flat (λ (q : OpenRec). opened_with (seen_in ns) o q.root) ns.opens r d there (by (has (breadth (seen_in ns) r.root) o.serial) refl)
  where
    by : (t : Bool) → has (breadth (seen_in ns) r.root) o.serial ≡ t → Contains (if t then breadth (seen_in ns) r.root else []) d
    by true e = h
    by false e = absurd (has_not (breadth (seen_in ns) r.root) o.serial e has_it)

module _ (ns : Namespace) (o : Loaded) where
  abbrev front : List ℕ
  front = if o.object.flags.symbolic then o.serial ∷ [] else []

  abbrev opens_part : List ℕ
  opens_part = flat_map (λ r. opened_with (seen_in ns) o r.root) ns.opens

  abbrev own_part : List ℕ
  own_part = breadth (seen_in ns) o.serial

  -- each part is one of the whole, behind those before it
  abbrev parted : List ℕ → List ℕ → List ℕ
  parted early late = front ++ early ++ opens_part ++ own_part ++ late ++ 0 ∷ []

  in_opens : (early late : List ℕ) (d : ℕ) → Contains opens_part d → Contains (parted early late) d
  in_opens early late d h =
      Contains-append_left (front ++ early ++ opens_part ++ own_part ++ late) (0 ∷ []) d
      (Contains-append_left (front ++ early ++ opens_part ++ own_part) late d
      (Contains-append_left (front ++ early ++ opens_part) own_part d (Contains-append_right (front ++ early) opens_part d h)))

  in_own : (early late : List ℕ) (d : ℕ) → Contains own_part d → Contains (parted early late) d
  in_own early late d h =
      Contains-append_left (front ++ early ++ opens_part ++ own_part ++ late) (0 ∷ []) d
      (Contains-append_left (front ++ early ++ opens_part ++ own_part) late d (Contains-append_right (front ++ early ++ opens_part) own_part d h))

  in_early : (early late : List ℕ) (d : ℕ) → Contains early d → Contains (parted early late) d
  in_early early late d h =
      Contains-append_left (front ++ early ++ opens_part ++ own_part ++ late) (0 ∷ []) d
      (Contains-append_left (front ++ early ++ opens_part ++ own_part) late d
      (Contains-append_left (front ++ early ++ opens_part) own_part d (Contains-append_left (front ++ early) opens_part d (Contains-append_right front early d h))))

  in_late : (early late : List ℕ) (d : ℕ) → Contains late d → Contains (parted early late) d
  in_late early late d h =
      Contains-append_left (front ++ early ++ opens_part ++ own_part ++ late) (0 ∷ []) d (Contains-append_right (front ++ early ++ opens_part ++ own_part) late d h)

  in_global : (deep : Bool) (d : ℕ) → Contains ns.global d → Contains (parted (if deep then [] else ns.global) (if deep then ns.global else [])) d
  in_global true d h = in_late [] ns.global d h
  in_global false d h = in_early ns.global [] d h

pub scopes_whole : LoadLaws → (m : Machine) (journal : List Event) → Lawful m journal → ScopesAreWhole (after journal)
scopes_whole laws m journal lawful ns o inside =
    let same : scope (seen_in ns) o ≡ whole_scope (seen_in ns) o = left_out laws m journal lawful ns o inside in
    let early : List ℕ = if o.deep then [] else ns.global in
    let late : List ℕ = if o.deep then ns.global else [] in
    record {
      global = λ d h. subst (λ (ds : List ℕ). Contains ds d) (sym same) (in_global ns o o.deep d h);
      opened = λ r d there has_it h. subst (λ (ds : List ℕ). Contains ds d) (sym same) (in_opens ns o early late d (with_object ns o d r there has_it h));
      own = λ d h. subst (λ (ds : List ℕ). Contains ds d) (sym same) (in_own ns o early late d h);
      linker = subst (λ (ds : List ℕ). Contains ds 0) (sym same) (Contains-append_right (front ns o ++ early ++ opens_part ns o ++ own_part ns o ++ late) (0 ∷ []) 0 (here 0 []));
    }
