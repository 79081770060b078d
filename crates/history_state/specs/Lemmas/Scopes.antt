-- What a search can come to: what a root leads to, what is in a scope, and what a relocation chooses.
use Rattle.std.proofs.Common.{◌≡◌, ◌≢◌, ◌⊎◌, inl, inr, ⊎_elim, ℕ, zero, suc, Bool, true, false, not, ◌&&◌, ◌||◌, eqb, List, [], ◌∷◌, ◌++◌, length, Option, Some, None, refl, sym, ap, subst}
use Rattle.std.specs.Prelude.{if◌then◌else◌}
use Rattle.std.specs.List.{Contains, flat_map, slice_get}
use Rattle.std.proofs.lemmas.Bool.{cases_eq, eqb-true, ne_eqb}
use Rattle.std.proofs.lemmas.List.Elements.{Contains-append_left, Contains-append_cases, Contains-push_cases}
use Rattle.ld_base.specs.Symbol.{is_weak}
use Rattle.ld_base.specs.declared.linking.Choice.TheVariants.{Def, WeakZero, Missing}
use Rattle.ld_base.specs.declared.linking.Loaded.{Loaded}
use Rattle.ld_base.specs.declared.object.Reloc.{Reloc}
use Rattle.ld_base.specs.declared.object.Symbol.{Symbol}
use Rattle.scope_rule.specs.Breadth.{breadth, extend, first_kept, has, level, levels, without}
use Rattle.scope_rule.specs.Choose.{choice_of, choose_for, first_with, is_own, pick_at, searched, want_of}
use Rattle.scope_rule.specs.Loading.{found_of, object_of, is_dying, is_dying_at}
use Rattle.scope_rule.specs.Relocation.{choice_at, has_no_symbol, is_copy}
use Rattle.scope_rule.specs.Scope.{opened_with, scope, whole_scope}
use Rattle.scope_rule.specs.Seen.{Seen}
use Rattle.scope_rule.specs.declared.namespace.OpenRec.{OpenRec}
use Rattle.history_state.specs.Grants.{target_of}
use Rattle.history_state.specs.Lemmas.Lists.{here, later, first_or_later, none_in, only_in, from_flat, from_filter, in_filter, found_in}

-- ---- what an object found

abbrev pub Found : Seen → ℕ → ℕ → Type 0
Found ns x d = (o : Loaded) × Contains ns.objects o × (o.serial ≡ x) × Contains o.found d

found_by : (ns : Seen) (x d : ℕ) (found : Option Loaded) → object_of ns x ≡ found → Contains (elim found [ Some o ↦ o.found | None ↦ [] ]) d → Found ns x d
found_by ns x d (Some o) e h = let at = found_in (λ (q : Loaded). eqb q.serial x) ns.objects o e in (o, at.0, eqb-true o.serial x at.1, h)
found_by ns x d None e h = absurd (none_in d h)

found_if : (ns : Seen) (x d : ℕ) (b : Bool) → Contains (if b then [] else elim (object_of ns x) [ Some o ↦ o.found | None ↦ [] ]) d → Found ns x d
found_if ns x d true h = absurd (none_in d h)
found_if ns x d false h = found_by ns x d (object_of ns x) refl h

pub found_of_in : (ns : Seen) (x d : ℕ) → Contains (found_of ns x) d → Found ns x d
found_of_in ns x d h = found_if ns x d (eqb x 0) h

-- ---- breadth

-- what is closed under found and holds of a root holds of all that it leads to
abbrev pub Closed : Seen → (ℕ → Type 0) → Type 0
Closed ns P = (x d : ℕ) → P x → Found ns x d → P d

in_level : (ns : Seen) (P : ℕ → Type 0) (root : ℕ) → Closed ns P → P root → (n d : ℕ) → Contains (level ns root n) d → P d
in_level ns P root closed p zero d h = subst P (only_in root d h) p
in_level ns P root closed p (suc n) d h =
    let at = from_flat (found_of ns) (level ns root n) d h in
    closed at.0 d (in_level ns P root closed p n at.0 at.1) (found_of_in ns at.0 d at.2)

in_levels : (ns : Seen) (P : ℕ → Type 0) (root : ℕ) → Closed ns P → P root → (n d : ℕ) → Contains (levels ns root n) d → P d
in_levels ns P root closed p zero d h = in_level ns P root closed p zero d h
in_levels ns P root closed p (suc n) d h = ⊎_elim
    (λ (i : Contains (levels ns root n) d). in_levels ns P root closed p n d i)
    (λ (i : Contains (level ns root (suc n)) d). in_level ns P root closed p (suc n) d i)
    (Contains-append_cases (levels ns root n) (level ns root (suc n)) d h)

from_first_kept : (xs : List ℕ) (d : ℕ) → Contains (first_kept xs) d → Contains xs d
from_first_kept [] d h = h
from_first_kept (x ∷ xs) d h = ⊎_elim
    (λ (e : x ≡ d). subst (λ (y : ℕ). Contains (x ∷ xs) y) e (here x xs))
    (λ (i : Contains (without x (first_kept xs)) d). later x xs d (from_first_kept xs d (from_filter (λ y. not (eqb y x)) (first_kept xs) d i).0))
    (first_or_later x (without x (first_kept xs)) d h)

in_first_kept : (xs : List ℕ) (d : ℕ) → Contains xs d → Contains (first_kept xs) d
in_first_kept [] d h = h
in_first_kept (x ∷ xs) d h = ⊎_elim
    (λ (e : x ≡ d). subst (λ (y : ℕ). Contains (x ∷ without x (first_kept xs)) y) e (here x (without x (first_kept xs))))
    (λ (n : x ≡ d → ⊥). ⊎_elim
    (λ (e : x ≡ d). absurd (n e))
    (λ (i : Contains xs d). later x (without x (first_kept xs)) d (in_filter (λ y. not (eqb y x)) (first_kept xs) d (in_first_kept xs d i) (ap not (ne_eqb d x (λ (e : d ≡ x). n (sym e))))))
    (first_or_later x xs d h))
    (cases_eq x d)

pub breadth_in : (ns : Seen) (P : ℕ → Type 0) (root : ℕ) → Closed ns P → P root → (d : ℕ) → Contains (breadth ns root) d → P d
unfolding breadth
breadth_in ns P root closed p d h =
    let kept = from_filter (λ y. not (eqb y 0)) (first_kept (levels ns root (length ns.objects))) d h in
    in_levels ns P root closed p (length ns.objects) d (from_first_kept (levels ns root (length ns.objects)) d kept.0)

root_in_levels : (ns : Seen) (root n : ℕ) → Contains (levels ns root n) root
root_in_levels ns root zero = here root []
root_in_levels ns root (suc n) = Contains-append_left (levels ns root n) (level ns root (suc n)) root (root_in_levels ns root n)

pub root_in_breadth : (ns : Seen) (root : ℕ) → root ≢ 0 → Contains (breadth ns root) root
unfolding breadth
root_in_breadth ns root some =
    in_filter (λ y. not (eqb y 0)) (first_kept (levels ns root (length ns.objects))) root
    (in_first_kept (levels ns root (length ns.objects)) root (root_in_levels ns root (length ns.objects)))
    (ap not (ne_eqb root 0 some))

-- ---- an extended list

extend_by : (order : List ℕ) (x : ℕ) (xs : List ℕ) (d : ℕ) (b : Bool) → ((o : List ℕ) → Contains (extend o xs) d → Contains o d ⊎ Contains xs d)
    → Contains (if b then extend order xs else extend (order ++ x ∷ []) xs) d → Contains order d ⊎ Contains (x ∷ xs) d
extend_by order x xs d true again h = ⊎_elim
    (λ (i : Contains order d). inl i)
    (λ (i : Contains xs d). inr (later x xs d i))
    (again order h)
extend_by order x xs d false again h = ⊎_elim
    (λ (i : Contains (order ++ x ∷ []) d). ⊎_elim
    (λ (j : Contains order d). inl j)
    (λ (e : x ≡ d). inr (subst (λ (y : ℕ). Contains (x ∷ xs) y) e (here x xs)))
    (Contains-push_cases order x d i))
    (λ (i : Contains xs d). inr (later x xs d i))
    (again (order ++ x ∷ []) h)

pub extend_in : (order xs : List ℕ) (d : ℕ) → Contains (extend order xs) d → Contains order d ⊎ Contains xs d
extend_in order [] d h = inl h
extend_in order (x ∷ xs) d h = extend_by order x xs d (eqb x 0 || has order x) (λ o i. extend_in o xs d i) h

-- ---- scopes

-- what holds of an object itself, of all that is global, of all that each opening leads to, of what the object leads to, and of 0,
-- holds of its scope
pub record Reach (ns : Seen) (o : Loaded) (P : ℕ → Type 0) : Type 0 where
  pub itself : P o.serial
  pub global : (d : ℕ) → Contains ns.global d → P d
  pub openings : (root d : ℕ) → Contains (breadth ns root) d → ((r : OpenRec) × Contains ns.opens r × (r.root ≡ root)) → P d
  pub own : (d : ℕ) → Contains (breadth ns o.serial) d → P d
  pub linker : P 0

in_if : (P : ℕ → Type 0) (b : Bool) (xs ys : List ℕ) (d : ℕ) → (Contains xs d → P d) → (Contains ys d → P d) → Contains (if b then xs else ys) d → P d
in_if P true xs ys d p q h = p h
in_if P false xs ys d p q h = q h

no_more : (P : ℕ → Type 0) (d : ℕ) → Contains [] d → P d
no_more P d h = absurd (none_in d h)

pub scope_in : (ns : Seen) (o : Loaded) (P : ℕ → Type 0) → Reach ns o P → (d : ℕ) → Contains (whole_scope ns o) d → P d
scope_in ns o P reach d h =
    let symbolic : List ℕ = if o.object.flags.symbolic then o.serial ∷ [] else [] in
    let early : List ℕ = if o.deep then [] else ns.global in
    let opened : List ℕ = flat_map (λ (r : OpenRec). opened_with ns o r.root) ns.opens in
    let own : List ℕ = breadth ns o.serial in
    let late : List ℕ = if o.deep then ns.global else [] in
    let four : List ℕ = symbolic ++ early ++ opened ++ own in
    ⊎_elim
    (λ (i : Contains (four ++ late) d). ⊎_elim
    (λ (j : Contains four d). ⊎_elim
    (λ (k : Contains (symbolic ++ early ++ opened) d). ⊎_elim
    (λ (l : Contains (symbolic ++ early) d). ⊎_elim
    (λ (m : Contains symbolic d). in_if P o.object.flags.symbolic (o.serial ∷ []) [] d (λ (n : Contains (o.serial ∷ []) d). subst P (only_in o.serial d n) reach.itself) (no_more P d) m)
    (λ (m : Contains early d). in_if P o.deep [] ns.global d (no_more P d) (reach.global d) m)
    (Contains-append_cases symbolic early d l))
    (λ (l : Contains opened d).
    let at = from_flat (λ (r : OpenRec). opened_with ns o r.root) ns.opens d l in
    in_if P (has (breadth ns at.0.root) o.serial) (breadth ns at.0.root) [] d (λ (m : Contains (breadth ns at.0.root) d). reach.openings at.0.root d m (at.0, at.1, refl)) (no_more P d) at.2)
    (Contains-append_cases (symbolic ++ early) opened d k))
    (λ (k : Contains own d). reach.own d k)
    (Contains-append_cases (symbolic ++ early ++ opened) own d j))
    (λ (j : Contains late d). in_if P o.deep ns.global [] d (reach.global d) (no_more P d) j)
    (Contains-append_cases four late d i))
    (λ (i : Contains (0 ∷ []) d). subst P (only_in 0 d i) reach.linker)
    (Contains-append_cases (four ++ late) (0 ∷ []) d h)

-- ---- choices

first_by : (pick : ℕ → Option ℕ) (serial : ℕ) (rest : List ℕ) (m : ℕ × ℕ) (found : Option ℕ) → (first_with pick rest ≡ Some m → Contains rest m.0)
    → elim found [ Some index ↦ Some (serial, index) | None ↦ first_with pick rest ] ≡ Some m → Contains (serial ∷ rest) m.0
first_by pick serial rest m (Some index) again e =
    let same : (serial, index) ≡ m = cc in
    subst (λ (q : ℕ × ℕ). Contains (serial ∷ rest) q.0) same (here serial rest)
first_by pick serial rest m None again e = later serial rest m.0 (again e)

first_in : (pick : ℕ → Option ℕ) (xs : List ℕ) (m : ℕ × ℕ) → first_with pick xs ≡ Some m → Contains xs m.0
first_in pick [] m e = absurd (let d : None ≡ Some m = e in cc)
first_in pick (x ∷ xs) m e = first_by pick x xs m (pick x) (λ h. first_in pick xs m h) e

searched_in : (ns : Seen) (o : Loaded) (copy : Bool) (d : ℕ) → Contains (searched ns o copy) d → Contains (whole_scope ns o) d
unfolding scope
searched_in ns o true d h =
    let kept = from_filter (λ serial. not (eqb serial o.serial)) (scope ns o) d h in
    (from_filter (λ s. is_dying o || not (is_dying_at ns s)) (whole_scope ns o) d kept.0).0
searched_in ns o false d h = (from_filter (λ s. is_dying o || not (is_dying_at ns s)) (whole_scope ns o) d h).0

-- where a target is of
abbrev pub Where : Seen → Loaded → ℕ → Type 0
Where ns o d = (o.serial ≡ d) ⊎ Contains (whole_scope ns o) d

weak_in : (b : Bool) (d : ℕ) → Contains (target_of (if b then WeakZero else Missing)) d → ⊥
weak_in true d h = none_in d h
weak_in false d h = none_in d h

choice_of_in : (ns : Seen) (o : Loaded) (s : Symbol) (copy : Bool) (found : Option (ℕ × ℕ)) → first_with (pick_at ns s.name (want_of o.object s)) (searched ns o copy) ≡ found
    → (d : ℕ) → Contains (target_of (choice_of s found)) d → Where ns o d
choice_of_in ns o s copy (Some m) e d h =
    let at : Contains (searched ns o copy) m.0 = first_in (pick_at ns s.name (want_of o.object s)) (searched ns o copy) m e in
    inr (subst (Contains (whole_scope ns o)) (only_in m.0 d h) (searched_in ns o copy m.0 at))
choice_of_in ns o s copy None e d h = absurd (weak_in (is_weak s) d h)

own_or : (ns : Seen) (o : Loaded) (index : ℕ) (s : Symbol) (copy b : Bool) (d : ℕ)
    → Contains (target_of (if b then Def o.serial index else choice_of s (first_with (pick_at ns s.name (want_of o.object s)) (searched ns o copy)))) d → Where ns o d
own_or ns o index s copy true d h = inl (only_in o.serial d h)
own_or ns o index s copy false d h = choice_of_in ns o s copy (first_with (pick_at ns s.name (want_of o.object s)) (searched ns o copy)) refl d h

chosen_in : (ns : Seen) (o : Loaded) (index : ℕ) (s : Symbol) (copy : Bool) (d : ℕ) → Contains (target_of (choose_for ns o index s copy)) d → Where ns o d
unfolding choose_for
chosen_in ns o index s copy d h = own_or ns o index s copy (not copy && is_own s) d h

by_symbol : (ns : Seen) (o : Loaded) (r : Reloc) (found : Option Symbol) (d : ℕ)
    → Contains (target_of (elim found [ Some s ↦ choose_for ns o r.symbol s (is_copy r) | None ↦ Missing ])) d → Where ns o d
by_symbol ns o r (Some s) d h = chosen_in ns o r.symbol s (is_copy r) d h
by_symbol ns o r None d h = absurd (none_in d h)

null_or : (ns : Seen) (o : Loaded) (r : Reloc) (b : Bool) (d : ℕ)
    → Contains (target_of (if b then Def o.serial 0 else elim (slice_get o.object.symbols r.symbol) [ Some s ↦ choose_for ns o r.symbol s (is_copy r) | None ↦ Missing ])) d → Where ns o d
null_or ns o r true d h = inl (only_in o.serial d h)
null_or ns o r false d h = by_symbol ns o r (slice_get o.object.symbols r.symbol) d h

none_or : (ns : Seen) (o : Loaded) (r : Reloc) (b : Bool) (d : ℕ)
    → Contains (target_of (if b then WeakZero else if eqb r.symbol 0 then Def o.serial 0 else elim (slice_get o.object.symbols r.symbol) [ Some s ↦ choose_for ns o r.symbol s (is_copy r) | None ↦ Missing ])) d
    → Where ns o d
none_or ns o r true d h = absurd (none_in d h)
none_or ns o r false d h = null_or ns o r (eqb r.symbol 0) d h

-- a relocation chooses a definition of its own object, or of one in its scope
pub choice_in : (ns : Seen) (o : Loaded) (r : Reloc) (d : ℕ) → Contains (target_of (choice_at ns o r)) d → Where ns o d
unfolding choice_at
choice_in ns o r d h = none_or ns o r (has_no_symbol r) d h
