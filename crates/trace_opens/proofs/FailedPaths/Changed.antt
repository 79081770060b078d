-- A load in which paths read as something else: it comes to the same, or stops for what one of them reads as now.
use Rattle.std.proofs.Common.{◌≡◌, ◌⊎◌, inl, inr, ⊎_elim, ℕ, zero, suc, Bool, true, false, List, [], ◌∷◌, length, Option, Some, None, refl, sym, ap, subst, ◌∙◌}
use Rattle.std.specs.Prelude.{if◌then◌else◌, Result, Ok, Err, ◌==◌}
use Rattle.std.specs.Str.{bytes_eq}
use Rattle.std.proofs.lemmas.Bool.{cases_Bool}
use Rattle.std.proofs.lemmas.Slice.Eq.{bytes_eq-Decides}
use Rattle.ld_base.specs.declared.fault.DlFault.{DlFault}
use Rattle.ld_base.specs.declared.fault.DlFault.TheVariants as faults
use Rattle.ld_base.specs.declared.linking.Loaded.{Loaded}
use Rattle.scope_rule.specs.declared.arrival.Arrival.{Arrival}
use Rattle.scope_rule.specs.Finding.{Reading, at_path, at_soname, candidates, is_path, linker_name, with_path, with_soname}
use Rattle.scope_rule.specs.Load.{Load, Walk, Stop, Found, Stops, refuses, present, fresh, nowhere, stops, among, by_reading, find_needed, find_opened, find_path, find_paths, find_root, finds, next_name, or_else, step, take_found, take_name, then_step, use_of, walk}

-- the reading, but at one path
abbrev pub changed_at : List ℕ → Reading → (List ℕ → Reading) → List ℕ → Reading
changed_at p x r path = if bytes_eq path p then x else r path

-- the same, and not the end by the one fault; or the end by the other
abbrev pub SameFound : DlFault → DlFault → Found → Found → Type 0
SameFound e t a b = ((a ≡ b) × (a ≡ stops (refuses e) → ⊥)) ⊎ (b ≡ stops (refuses t))

module _ (load : Load) (r : List ℕ → Reading) (e t : DlFault)
    (same_reading : (path : List ℕ) → SameFound e t (by_reading path (load.reading path)) (by_reading path (r path)))
    (used : (o : Loaded) → use_of load.hart o ≡ stops (refuses e) → ⊥)
    (missing : (name : List ℕ) → faults.MissingLibrary name ≡ e → ⊥) where
  abbrev pub changed : Load
  changed = record load { reading = r }

  -- ---- what a name finds

  abbrev Same : Found → Found → Type 0
  Same a b = SameFound e t a b

  same_if : (b : Bool) (f g h k : Found) → Same f h → Same g k → Same (if b then f else g) (if b then h else k)
  same_if true f g h k y z = y
  same_if false f g h k y z = z

  same_else_of : (f c d : Found) → (f ≡ stops (refuses e) → ⊥) → Same c d → Same (or_else f c) (or_else f d)
  same_else_of (present serial) c d none y = inl (refl, none)
  same_else_of (fresh o) c d none y = inl (refl, none)
  same_else_of nowhere c d none y = y
  same_else_of (stops why) c d none y = inl (refl, none)

  same_else : (a b c d : Found) → Same a b → Same c d → Same (or_else a c) (or_else b d)
  same_else a b c d y z = ⊎_elim
      (λ (is : (a ≡ b) × (a ≡ stops (refuses e) → ⊥)). subst (λ (f : Found). Same (or_else a c) (or_else f d)) is.0 (same_else_of a c d is.1 z))
      (λ (ends : b ≡ stops (refuses t)). inr (ap (λ (f : Found). or_else f d) ends))
      y

  same_among : (there : Option Loaded) (place : Option ℕ) (a b : Found) → Same a b → Same (among load there place a) (among changed there place b)
  same_among (Some o) place a b y = inl (refl, used o)
  same_among None (Some place) a b y = inl (refl, λ q. absurd cc)
  same_among None None a b y = y

  same_path : (arrivals : List Arrival) (path : List ℕ) → Same (find_path load arrivals path) (find_path changed arrivals path)
  unfolding find_path
  same_path arrivals path = same_among (with_path load.there path) (at_path arrivals path) _ _ (same_reading path)

  same_paths : (arrivals : List Arrival) (paths : List (List ℕ)) → Same (find_paths load arrivals paths) (find_paths changed arrivals paths)
  same_paths arrivals [] = inl (refl, λ q. absurd cc)
  same_paths arrivals (path ∷ paths) = same_else (find_path load arrivals path) (find_path changed arrivals path) _ _ (same_path arrivals path) (same_paths arrivals paths)

  same_opened : (arrivals : List Arrival) (name : List ℕ) → Same (find_opened load arrivals name) (find_opened changed arrivals name)
  unfolding find_opened
  same_opened arrivals name = same_if (is_path name) _ _ _ _ (same_paths arrivals (candidates load.folders name))
      (same_among (with_soname load.there name) (at_soname arrivals name) _ _ (same_paths arrivals (candidates load.folders name)))

  same_needed : (arrivals : List Arrival) (name : List ℕ) → Same (find_needed load arrivals name) (find_needed changed arrivals name)
  same_needed arrivals name = same_if (bytes_eq name linker_name) _ _ _ _ (inl (refl, λ q. absurd cc)) (same_opened arrivals name)

  same_root : (arrivals : List Arrival) (name : List ℕ) → Same (find_root load arrivals name) (find_root changed arrivals name)
  same_root arrivals name = same_if load.program _ _ _ _ (same_path arrivals name) (same_opened arrivals name)

  same_finds : (number : ℕ) (arrivals : List Arrival) (name : List ℕ) → Same (finds load number arrivals name) (finds changed number arrivals name)
  unfolding finds
  same_finds number arrivals name = same_if (number == 0) _ _ _ _ (same_root arrivals name) (same_needed arrivals name)

  -- ---- one name after another

  abbrev SameWalk : Result Walk Stop → Result Walk Stop → Type 0
  SameWalk a b = ((a ≡ b) × (a ≡ Err (refuses e) → ⊥)) ⊎ (b ≡ Err (refuses t))

  take_same : (w : Walk) (name : List ℕ) (f : Found) → take_found load w name f ≡ take_found changed w name f
  take_same w name (present serial) = refl
  take_same w name (fresh o) = refl
  take_same w name nowhere = refl
  take_same w name (stops why) = refl

  take_none : (w : Walk) (name : List ℕ) (f : Found) → (f ≡ stops (refuses e) → ⊥) → take_found load w name f ≡ Err (refuses e) → ⊥
  take_none w name (present serial) none is = absurd cc
  take_none w name (fresh o) none is = absurd cc
  take_none w name nowhere none is = missing name (let d : Err (refuses (faults.MissingLibrary name)) ≡ Err (refuses e) = is in let q : refuses (faults.MissingLibrary name) ≡ refuses e = cc in cc)
  take_none w name (stops why) none is = none (let d : Err why ≡ Err (refuses e) = is in let q : why ≡ refuses e = cc in ap stops q)

  same_take : (w : Walk) (name : List ℕ) (a b : Found) → Same a b → SameWalk (take_found load w name a) (take_found changed w name b)
  same_take w name a b y = ⊎_elim
      (λ (is : (a ≡ b) × (a ≡ stops (refuses e) → ⊥)). inl (ap (take_found load w name) is.0 ∙ take_same w name b, take_none w name a is.1))
      (λ (ends : b ≡ stops (refuses t)). inr (ap (take_found changed w name) ends))
      y

  same_name : (w : Walk) (name : Option (List ℕ)) → SameWalk (take_name load w name) (take_name changed w name)
  same_name w (Some name) = same_take w name (finds load (length w.found) w.arrivals name) (finds changed (length w.found) w.arrivals name) (same_finds (length w.found) w.arrivals name)
  same_name w None = inl (refl, λ q. absurd cc)

  same_step : (w : Walk) → SameWalk (step load w) (step changed w)
  unfolding step
  same_step w = same_name w (next_name load w)

  same_then : (r : Result Walk Stop) → (r ≡ Err (refuses e) → ⊥) → SameWalk (then_step load r) (then_step changed r)
  same_then (Ok w) none = same_step w
  same_then (Err why) none = inl (refl, none)

  same_walk : (n : ℕ) → SameWalk (walk load n) (walk changed n)
  same_walk zero = inl (refl, λ q. absurd cc)
  same_walk (suc n) = ⊎_elim
      (λ (is : (walk load n ≡ walk changed n) × (walk load n ≡ Err (refuses e) → ⊥)).
      subst (λ (r : Result Walk Stop). SameWalk (then_step load (walk load n)) (then_step changed r)) is.0 (same_then (walk load n) is.1))
      (λ (ends : walk changed n ≡ Err (refuses t)). inr (ap (then_step changed) ends))
      (same_walk n)

  -- where the load stops for the one fault, it stops for the other now
  pub stops_so : Stops load (refuses e) → Stops changed (refuses t)
  stops_so s = ⊎_elim
      (λ (is : (walk load s.steps ≡ walk changed s.steps) × (walk load s.steps ≡ Err (refuses e) → ⊥)). absurd (is.1 s.is))
      (λ (ends : walk changed s.steps ≡ Err (refuses t)). record { steps = s.steps; is = ends })
      (same_walk s.steps)

  -- where it stops for neither now, it stopped so before
  pub stopped_so : (fault : DlFault) → (fault ≡ t → ⊥) → Stops changed (refuses fault) → Stops load (refuses fault)
  stopped_so fault other s = ⊎_elim
      (λ (is : (walk load s.steps ≡ walk changed s.steps) × (walk load s.steps ≡ Err (refuses e) → ⊥)). record { steps = s.steps; is = is.0 ∙ s.is })
      (λ (ends : walk changed s.steps ≡ Err (refuses t)). absurd (other (let d : Err (refuses fault) ≡ Err (refuses t) = sym s.is ∙ ends in let q : refuses fault ≡ refuses t = cc in cc)))
      (same_walk s.steps)

-- ---- one path

module _ (r : List ℕ → Reading) (p : List ℕ) (x : Reading) (e t : DlFault)
    (elsewhere : (path : List ℕ) → bytes_eq path p ≡ false → by_reading path (r path) ≡ stops (refuses e) → ⊥) where
  -- a path reads as something else that stops the load
  pub changed_there : by_reading p x ≡ stops (refuses t) → (path : List ℕ) → SameFound e t (by_reading path (r path)) (by_reading path (changed_at p x r path))
  changed_there at_it path = ⊎_elim
      (λ (same : bytes_eq path p ≡ true).
      let is : path ≡ p = (bytes_eq-Decides path p).0 same in
      inr (ap (λ (b : Bool). by_reading path (if b then x else r path)) same ∙ ap (λ (q : List ℕ). by_reading q x) is ∙ at_it))
      (λ (other : bytes_eq path p ≡ false).
      inl (sym (ap (λ (b : Bool). by_reading path (if b then x else r path)) other), elsewhere path other))
      (cases_Bool (bytes_eq path p))

  -- or it read as something that stops it
  pub unchanged_there : by_reading p (r p) ≡ stops (refuses t) → (path : List ℕ) → SameFound e t (by_reading path (changed_at p x r path)) (by_reading path (r path))
  unchanged_there at_it path = ⊎_elim
      (λ (same : bytes_eq path p ≡ true).
      let is : path ≡ p = (bytes_eq-Decides path p).0 same in
      inr (ap (λ (q : List ℕ). by_reading q (r q)) is ∙ at_it))
      (λ (other : bytes_eq path p ≡ false).
      let same : by_reading path (changed_at p x r path) ≡ by_reading path (r path) = ap (λ (b : Bool). by_reading path (if b then x else r path)) other in
      inl (same, λ is. elsewhere path other (sym same ∙ is)))
      (cases_Bool (bytes_eq path p))
