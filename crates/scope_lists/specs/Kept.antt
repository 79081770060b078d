-- Scopes that are kept: for the code of this crate alone.
use Rattle.std.specs.Prelude.{◌≡◌, ◌⊎◌, ℕ, false, nat_eq, if◌then◌else◌, List, [], ◌∷◌, ◌++◌, Option, Some, map, slice_get, IfSome, IsSome}
use Rattle.std.specs.HashMap.{get}
use Rattle.std.specs.List.{AllByRecursion}
use Rattle.ld_base.specs.declared.linking.Loaded.{Loaded}
use Rattle.scope_rule.specs.Breadth.{breadth}
use Rattle.scope_rule.specs.Scope.{scope}
use Rattle.scope_rule.specs.Seen.{Seen}
use Rattle.scope_lists.specs.Brought.{brought_in}
use Rattle.scope_lists.specs.Covering.{IsCovered}
use Rattle.scope_lists.specs.Definers.{AreDefiners}
use Rattle.scope_rule.specs.Places.{place_in, serials_of}
use Rattle.scope_lists.specs.Searched.{FindsAlike, serials_in}
use Rattle.scope_lists.specs.declared.kept.KeptScope.{KeptScope}
use Rattle.scope_lists.specs.declared.kept.KeptScopes.{KeptScopes}
use Rattle.scope_lists.specs.declared.searched.Searched.{Searched}

-- the object with a serial among those with such serials
abbrev pub entry_in : List ℕ → ℕ → Searched
entry_in serials serial = record { serial = serial; place = place_in serials serial }

-- each stands where the first of its serial does
abbrev pub ArePlaced : List ℕ → List Searched → Type 0
ArePlaced serials xs = AllByRecursion (λ x. x.place ≡ place_in serials x.serial) xs

-- ---- the parts of a scope

-- what is searched of an object's own, which openings bring and to which it leads: all of that, or nothing where the global list comes before it and has all
abbrev pub IsOwn : Seen → Loaded → List ℕ → Type 0
IsOwn s o own = (own ≡ brought_in s o.serial ++ breadth s o.serial) ⊎ ((own ≡ []) × (o.deep ≡ false) × IsCovered s o.serial)

-- what comes before the global list, and what comes behind it
abbrev pub before_of : Loaded → List ℕ → List ℕ
before_of o own = (if o.object.flags.symbolic then o.serial ∷ [] else []) ++ (if o.deep then own else [])

abbrev pub after_of : Loaded → List ℕ → List ℕ
after_of o own = (if o.deep then [] else own) ++ 0 ∷ []

-- the objects of a scope that is kept beside a global list
abbrev pub kept_in : List Searched → KeptScope → List Searched
kept_in global found = found.before.items ++ (if found.is_global then global else []) ++ found.after.items

-- ---- what is kept

-- the scope that is kept of the object at a place
abbrev pub kept_at : KeptScopes → ℕ → Option KeptScope
kept_at kept place = get nat_eq kept.by_place place

-- a search of what is kept of an object finds what one of its scope does
pub record IsScope (s : Seen) (global : List Searched) (o : Loaded) (found : KeptScope) : Type 0 where
  pub alike : FindsAlike (serials_in (kept_in global found)) (scope s o)
  pub placed : ArePlaced (serials_of s) (kept_in global found)

-- the global list is kept, which of its objects have definitions under a hash if that was made, and of objects their scopes
pub record AreScopes (s : Seen) (kept : KeptScopes) : Type 0 where
  pub global : kept.global.items ≡ map (entry_in (serials_of s)) s.global
  pub definers : IfSome kept.definers (AreDefiners s.objects kept.global.items)
  pub each : (place : ℕ) (o : Loaded) (found : KeptScope) →
      slice_get s.objects place ≡ Some o → kept_at kept place ≡ Some found → IsScope s kept.global.items o found

-- of those objects of which one was kept one is kept
abbrev pub KeepsAll : KeptScopes → KeptScopes → Type 0
KeepsAll old new = (place : ℕ) → IsSome (kept_at old place) → IsSome (kept_at new place)
