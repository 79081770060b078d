-- The load of an object that isn't the program comes to the same whatever the preload names are.
use Rattle.std.proofs.Common.{◌≡◌, ℕ, zero, suc, ◌≤◌, Bool, true, false, List, [], ◌∷◌, length, Option, Some, None, refl, sym, ap, subst, ◌∙◌}
use Rattle.std.specs.List.{slice_get}
use Rattle.std.specs.Prelude.{if◌then◌else◌, ◌++◌, ◌==◌, Result, Ok, Err, flat_map}
use Rattle.std.specs.Str.{bytes_eq}
use Rattle.ld_base.specs.declared.linking.Loaded.{Loaded}
use Rattle.scope_rule.specs.declared.arrival.Arrival.{Arrival}
use Rattle.scope_rule.specs.Finding.{at_path, at_soname, candidates, is_path, linker_name, with_path, with_soname}
use Rattle.scope_rule.specs.Load.{Load, Walk, Stop, Found, Brings, Stops, present, fresh, nowhere, stops, among, asks, find_needed, find_opened, find_path, find_paths, find_root, finds, needed_by, next_name, or_else, preload_of, step, take_found, take_name, then_step, walk}

same_if : {X : Type 0} (b : Bool) (x y z t : X) → x ≡ z → y ≡ t → (if b then x else y) ≡ (if b then z else t)
same_if true x y z t e d = e
same_if false x y z t e d = d

module _ (load : Load) (names : List (List ℕ)) (other : load.program ≡ false) where
  abbrev with : Load
  with = record load { preload = names }

  same_among : (o : Option Loaded) (place : Option ℕ) (f g : Found) → f ≡ g → among load o place f ≡ among with o place g
  same_among (Some o) place f g e = refl
  same_among None (Some place) f g e = refl
  same_among None None f g e = e

  same_path : (arrivals : List Arrival) (path : List ℕ) → find_path load arrivals path ≡ find_path with arrivals path
  unfolding find_path
  same_path arrivals path = same_among (with_path load.there path) (at_path arrivals path) _ _ refl

  same_paths : (arrivals : List Arrival) (paths : List (List ℕ)) → find_paths load arrivals paths ≡ find_paths with arrivals paths
  same_paths arrivals [] = refl
  same_paths arrivals (path ∷ paths) =
      ap (λ (f : Found). or_else f (find_paths load arrivals paths)) (same_path arrivals path)
      ∙ ap (or_else (find_path with arrivals path)) (same_paths arrivals paths)

  same_opened : (arrivals : List Arrival) (name : List ℕ) → find_opened load arrivals name ≡ find_opened with arrivals name
  unfolding find_opened
  same_opened arrivals name = same_if (is_path name) _ _ _ _ (same_paths arrivals (candidates load.folders name))
      (same_among (with_soname load.there name) (at_soname arrivals name) _ _ (same_paths arrivals (candidates load.folders name)))

  same_needed : (arrivals : List Arrival) (name : List ℕ) → find_needed load arrivals name ≡ find_needed with arrivals name
  same_needed arrivals name = same_if (bytes_eq name linker_name) _ _ _ _ refl (same_opened arrivals name)

  same_root : (arrivals : List Arrival) (name : List ℕ) → find_root load arrivals name ≡ find_root with arrivals name
  same_root arrivals name = same_if load.program _ _ _ _ (same_path arrivals name) (same_opened arrivals name)

  same_finds : (number : ℕ) (arrivals : List Arrival) (name : List ℕ) → finds load number arrivals name ≡ finds with number arrivals name
  unfolding finds
  same_finds number arrivals name = same_if (number == 0) _ _ _ _ (same_root arrivals name) (same_needed arrivals name)

  -- ---- one name after another

  no_names : preload_of load ≡ preload_of with
  no_names = ap (λ (b : Bool). if b then load.preload else []) other ∙ sym (ap (λ (b : Bool). if b then names else []) other)

  same_asks : (arrivals : List Arrival) → asks load arrivals ≡ asks with arrivals
  same_asks [] = refl
  same_asks (o ∷ rest) = ap (λ (more : List (List ℕ)). (load.name ∷ more) ++ flat_map needed_by (o ∷ rest)) no_names

  same_take : (w : Walk) (name : List ℕ) (f : Found) → take_found load w name f ≡ take_found with w name f
  same_take w name (present serial) = refl
  same_take w name (fresh o) = refl
  same_take w name nowhere = refl
  same_take w name (stops why) = refl

  same_name : (w : Walk) (name : Option (List ℕ)) → take_name load w name ≡ take_name with w name
  same_name w (Some name) =
      ap (take_found load w name) (same_finds (length w.found) w.arrivals name) ∙ same_take w name (finds with (length w.found) w.arrivals name)
  same_name w None = refl

  same_step : (w : Walk) → step load w ≡ step with w
  unfolding step
  same_step w =
      ap (λ (all : List (List ℕ)). take_name load w (slice_get all (length w.found))) (same_asks w.arrivals) ∙ same_name w (next_name with w)

  same_then : (r : Result Walk Stop) → then_step load r ≡ then_step with r
  same_then (Ok w) = same_step w
  same_then (Err why) = refl

  same_walk : (n : ℕ) → walk load n ≡ walk with n
  same_walk zero = refl
  same_walk (suc n) = ap (then_step load) (same_walk n) ∙ same_then (walk with n)

  pub brings_with : (w : Walk) → Brings load w → Brings with w
  brings_with w b = record {
    steps = b.steps;
    are = sym (same_walk b.steps) ∙ b.are;
    all = subst (λ (all : List (List ℕ)). length all ≤ length w.found) (same_asks w.arrivals) b.all;
  }

  pub stops_with : (why : Stop) → Stops load why → Stops with why
  stops_with why s = record { steps = s.steps; is = sym (same_walk s.steps) ∙ s.is }

pub brings_with_preload : (load : Load) (names : List (List ℕ)) (w : Walk) → load.program ≡ false → Brings load w → Brings (record load { preload = names }) w
brings_with_preload load names w other b = brings_with load names other w b

pub stops_with_preload : (load : Load) (names : List (List ℕ)) (why : Stop) → load.program ≡ false → Stops load why → Stops (record load { preload = names }) why
stops_with_preload load names why other s = stops_with load names other why s
