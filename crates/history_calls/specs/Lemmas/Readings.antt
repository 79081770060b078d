-- Two readings that agree but for reads that fail: a load comes to the same, or stops at a read that fails.
use Rattle.std.proofs.Common.{◌≡◌, ◌⊎◌, inl, inr, ⊎_elim, ℕ, zero, suc, Bool, true, false, List, [], ◌∷◌, length, Option, Some, None, refl, sym, ap, subst, ◌∙◌}
use Rattle.std.specs.Prelude.{if◌then◌else◌, Result, Ok, Err, ◌&&◌, ◌==◌}
use Rattle.std.specs.Str.{bytes_eq}
use Rattle.ld_base.specs.declared.fault.DlFault.TheVariants as faults
use Rattle.ld_base.specs.declared.linking.File.{File}
use Rattle.ld_base.specs.declared.linking.Loaded.{Loaded}
use Rattle.library_source.specs.Files.{file_at}
use Rattle.history_event.specs.declared.event.OpenAsk.{OpenAsk}
use Rattle.scope_rule.specs.declared.arrival.Arrival.{Arrival}
use Rattle.scope_rule.specs.Finding.{Reading, here, unaccepted, absent, failed, at_path, at_soname, candidates, is_path, linker_name, with_path, with_soname}
use Rattle.scope_rule.specs.Load.{Load, Walk, Stop, Found, Brings, Stops, refuses, present, fresh, nowhere, stops, among, by_reading, find_needed, find_opened, find_path, find_paths, find_root, finds, next_name, or_else, step, take_found, take_name, then_step, walk}
use Rattle.history_state.specs.Flags.{is_noload}
use Rattle.history_state.specs.Objects.{is_startup}
use Rattle.history_state.specs.Setting.{MayHold, MayRead, Readings, ReadingsBy, Setting}
use Rattle.history_state.specs.State.{State}
use Rattle.history_state.specs.Lemmas.Played.{may_read, reading_by, readings, told}

-- a reading that gives what another one does, or fails
abbrev pub Near : (List ℕ → Reading) → (List ℕ → Reading) → Type 0
Near r base = (path : List ℕ) → (r path ≡ base path) ⊎ (r path ≡ failed)

-- ---- what a name finds

abbrev FoundNear : Found → Found → Type 0
FoundNear a b = (a ≡ b) ⊎ ((path : List ℕ) × (a ≡ stops (refuses (faults.ReadFault path))))

near_if : (t : Bool) (a b c d : Found) → FoundNear a c → FoundNear b d → FoundNear (if t then a else b) (if t then c else d)
near_if true a b c d x y = x
near_if false a b c d x y = y

near_else_of : (f c d : Found) → FoundNear c d → FoundNear (or_else f c) (or_else f d)
near_else_of (present serial) c d x = inl refl
near_else_of (fresh o) c d x = inl refl
near_else_of nowhere c d x = x
near_else_of (stops why) c d x = inl refl

near_else : (a b c d : Found) → FoundNear a b → FoundNear c d → FoundNear (or_else a c) (or_else b d)
near_else a b c d x y = ⊎_elim
    (λ (e : a ≡ b). subst (λ (f : Found). FoundNear (or_else f c) (or_else b d)) (sym e) (near_else_of b c d y))
    (λ (bad : (path : List ℕ) × (a ≡ stops (refuses (faults.ReadFault path)))). inr (bad.0, ap (λ (f : Found). or_else f c) bad.1))
    x

module _ (load : Load) (r : List ℕ → Reading) (near : Near load.reading r) where
  abbrev base : Load
  base = record load { reading = r }

  near_reading : (path : List ℕ) → FoundNear (by_reading path (load.reading path)) (by_reading path (r path))
  near_reading path = ⊎_elim
      (λ (e : load.reading path ≡ r path). inl (ap (by_reading path) e))
      (λ (e : load.reading path ≡ failed). inr (path, ap (by_reading path) e))
      (near path)

  near_among : (x : Option Loaded) (y : Option ℕ) (a b : Found) → FoundNear a b → FoundNear (among load x y a) (among base x y b)
  near_among (Some o) y a b n = inl refl
  near_among None (Some place) a b n = inl refl
  near_among None None a b n = n

  near_path : (arrivals : List Arrival) (path : List ℕ) → FoundNear (find_path load arrivals path) (find_path base arrivals path)
  unfolding find_path
  near_path arrivals path = near_among (with_path load.there path) (at_path arrivals path) _ _ (near_reading path)

  near_paths : (arrivals : List Arrival) (paths : List (List ℕ)) → FoundNear (find_paths load arrivals paths) (find_paths base arrivals paths)
  near_paths arrivals [] = inl refl
  near_paths arrivals (path ∷ paths) = near_else (find_path load arrivals path) (find_path base arrivals path) _ _ (near_path arrivals path) (near_paths arrivals paths)

  near_opened : (arrivals : List Arrival) (name : List ℕ) → FoundNear (find_opened load arrivals name) (find_opened base arrivals name)
  unfolding find_opened
  near_opened arrivals name = near_if (is_path name) _ _ _ _ (near_paths arrivals (candidates load.folders name))
      (near_among (with_soname load.there name) (at_soname arrivals name) _ _ (near_paths arrivals (candidates load.folders name)))

  near_needed : (arrivals : List Arrival) (name : List ℕ) → FoundNear (find_needed load arrivals name) (find_needed base arrivals name)
  near_needed arrivals name = near_if (bytes_eq name linker_name) _ _ _ _ (inl refl) (near_opened arrivals name)

  near_root : (arrivals : List Arrival) (name : List ℕ) → FoundNear (find_root load arrivals name) (find_root base arrivals name)
  near_root arrivals name = near_if load.program _ _ _ _ (near_path arrivals name) (near_opened arrivals name)

  near_finds : (number : ℕ) (arrivals : List Arrival) (name : List ℕ) → FoundNear (finds load number arrivals name) (finds base number arrivals name)
  unfolding finds
  near_finds number arrivals name = near_if (number == 0) _ _ _ _ (near_root arrivals name) (near_needed arrivals name)

  -- ---- one name after another

  abbrev ComesNear : Result Walk Stop → Result Walk Stop → Type 0
  ComesNear a b = (a ≡ b) ⊎ ((path : List ℕ) × (a ≡ Err (refuses (faults.ReadFault path))))

  take_same : (w : Walk) (name : List ℕ) (f : Found) → take_found load w name f ≡ take_found base w name f
  take_same w name (present serial) = refl
  take_same w name (fresh o) = refl
  take_same w name nowhere = refl
  take_same w name (stops why) = refl

  near_take : (w : Walk) (name : List ℕ) (a b : Found) → FoundNear a b → ComesNear (take_found load w name a) (take_found base w name b)
  near_take w name a b n = ⊎_elim
      (λ (e : a ≡ b). inl (ap (take_found load w name) e ∙ take_same w name b))
      (λ (bad : (path : List ℕ) × (a ≡ stops (refuses (faults.ReadFault path)))). inr (bad.0, ap (take_found load w name) bad.1))
      n

  near_name : (w : Walk) (name : Option (List ℕ)) → ComesNear (take_name load w name) (take_name base w name)
  near_name w (Some name) = near_take w name (finds load (length w.found) w.arrivals name) (finds base (length w.found) w.arrivals name) (near_finds (length w.found) w.arrivals name)
  near_name w None = inl refl

  near_step : (w : Walk) → ComesNear (step load w) (step base w)
  unfolding step
  near_step w = near_name w (next_name load w)

  near_then : (r : Result Walk Stop) → ComesNear (then_step load r) (then_step base r)
  near_then (Ok w) = near_step w
  near_then (Err why) = inl refl

  near_walk : (n : ℕ) → ComesNear (walk load n) (walk base n)
  near_walk zero = inl refl
  near_walk (suc n) = ⊎_elim
      (λ (e : walk load n ≡ walk base n). subst (λ (x : Result Walk Stop). ComesNear (then_step load x) (then_step base (walk base n))) (sym e) (near_then (walk base n)))
      (λ (bad : (path : List ℕ) × (walk load n ≡ Err (refuses (faults.ReadFault path)))). inr (bad.0, ap (then_step load) bad.1))
      (near_walk n)

  pub brings_near : (w : Walk) → Brings load w → Brings base w
  brings_near w b = ⊎_elim
      (λ (e : walk load b.steps ≡ walk base b.steps). record { steps = b.steps; are = sym e ∙ b.are; all = b.all })
      (λ (bad : (path : List ℕ) × (walk load b.steps ≡ Err (refuses (faults.ReadFault path)))). absurd (let d : Err (refuses (faults.ReadFault bad.0)) ≡ Ok w = sym bad.1 ∙ b.are in cc))
      (near_walk b.steps)

  pub stops_near : (why : Stop) → ((path : List ℕ) → why ≡ refuses (faults.ReadFault path) → ⊥) → Stops load why → Stops base why
  stops_near why other s = ⊎_elim
      (λ (e : walk load s.steps ≡ walk base s.steps). record { steps = s.steps; is = sym e ∙ s.is })
      (λ (bad : (path : List ℕ) × (walk load s.steps ≡ Err (refuses (faults.ReadFault path)))).
      absurd (other bad.0 (let d : Err (refuses (faults.ReadFault bad.0)) ≡ Err why = sym bad.1 ∙ s.is in let e : refuses (faults.ReadFault bad.0) ≡ why = cc in sym e)))
      (near_walk s.steps)

-- ---- readings of files that are told

-- what the files say, and that nothing is read with RTLD_NOLOAD
abbrev by_flag : Bool → Setting → List File → State → List ℕ → List ℕ → Reading
by_flag true w files s name path = absent
by_flag false w files s name path = readings w files s name path

abbrev pub reading_told : Setting → List File → State → OpenAsk → List ℕ → List ℕ → Reading
reading_told w files s ask name = by_flag (is_noload ask.flags) w files s name

held_is : (w : Setting) (files : List File) (path : List ℕ) (bytes : Option (List ℕ)) → w.files ≡ Some files → MayHold w.files path bytes → file_at files path ≡ bytes
held_is w files path bytes are hold = subst (λ all. MayHold all path bytes) are hold

read_is : (w : Setting) (files : List File) (program : Bool) (path : List ℕ) (x : Reading) → w.files ≡ Some files → MayRead w program path x → (x ≡ told w.machine program (file_at files path)) ⊎ (x ≡ failed)
read_is w files program path (here o table) are may = inl (sym (ap (told w.machine program) (held_is w files path (Some may.0) are may.1) ∙ ap reading_by may.2))
read_is w files program path (unaccepted broken) are may = inl (sym (ap (told w.machine program) (held_is w files path (Some may.0) are may.1) ∙ ap reading_by may.2))
read_is w files program path absent are may = inl (sym (ap (told w.machine program) (held_is w files path None are may)))
read_is w files program path failed are may = inr refl

near_by : (b : Bool) (w : Setting) (files : List File) (s : State) (name : List ℕ) (r : List ℕ → Reading) → w.files ≡ Some files → ReadingsBy b w s name r → Near r (by_flag b w files s name)
near_by true w files s name r are all path = inl (all path)
near_by false w files s name r are all path = read_is w files (is_startup s && bytes_eq name path) path (r path) are (all path)

pub near_told : (w : Setting) (files : List File) (s : State) (ask : OpenAsk) (name : List ℕ) (r : List ℕ → Reading) → w.files ≡ Some files → Readings w s ask name r → Near r (reading_told w files s ask name)
near_told w files s ask name r are read = near_by (is_noload ask.flags) w files s name r are read

reads_by : (b : Bool) (w : Setting) (files : List File) (s : State) (name : List ℕ) → w.files ≡ Some files → ReadingsBy b w s name (by_flag b w files s name)
reads_by true w files s name are = λ path. refl
reads_by false w files s name are = λ path. may_read w files (is_startup s && bytes_eq name path) path (file_at files path) are refl

pub told_reads : (w : Setting) (files : List File) (s : State) (ask : OpenAsk) (name : List ℕ) → w.files ≡ Some files → Readings w s ask name (reading_told w files s ask name)
told_reads w files s ask name are = reads_by (is_noload ask.flags) w files s name are
