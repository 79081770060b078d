-- The load of a program begins with what stands at its own path.
use Rattle.std.proofs.Common.{◌≡◌, ℕ, zero, suc, ◌≤◌, true, List, [], ◌∷◌, ◌++◌, length, Option, Some, None, Result, Ok, Err, refl, sym, subst, arith}
use Rattle.std.specs.List.{slice_get}
use Rattle.scope_rule.specs.declared.arrival.Arrival.{Arrival}
use Rattle.scope_rule.specs.Finding.{Reading, here, unaccepted, absent, failed, with_path}
use Rattle.scope_rule.specs.Load.{Brings, Found, Load, Stop, Walk, asks, by_reading, find_opened, find_path, finds, fresh, nowhere, present, start, step, stops, take_found, take_name, then_step, walk, with_arrival, with_found, next_name}

-- the first new object is one of this path
abbrev pub BeginsAt : List ℕ → List Arrival → Type 0
BeginsAt path arrivals = (a : Arrival) × (slice_get arrivals 0 ≡ Some a) × (a.path ≡ path)

same_ok : {X Y : Type 0} (x y : X) → let r : Result X Y = Ok x in r ≡ Ok y → x ≡ y
same_ok x y e = cc

begins_more : (path : List ℕ) (xs ys : List Arrival) → BeginsAt path xs → BeginsAt path (xs ++ ys)
begins_more path [] ys b = absurd (let d : None ≡ Some b.0 = b.1 in cc)
begins_more path (x ∷ xs) ys b = b

-- a name that is taken puts new objects behind the others
took : (path : List ℕ) (load : Load) (v w : Walk) (name : List ℕ) (found : Found) → take_found load v name found ≡ Ok w → BeginsAt path v.arrivals → BeginsAt path w.arrivals
took path load v w name (present serial) e b = subst (λ (x : Walk). BeginsAt path x.arrivals) (same_ok {Y = Stop} (with_found v serial) w e) b
took path load v w name (fresh o) e b =
    subst (λ (x : Walk). BeginsAt path x.arrivals) (same_ok {Y = Stop} (with_arrival load v o) w e) (begins_more path v.arrivals (o ∷ []) b)
took path load v w name nowhere e b = absurd cc
took path load v w name (stops why) e b = absurd cc

stepped : (path : List ℕ) (load : Load) (v w : Walk) → step load v ≡ Ok w → BeginsAt path v.arrivals → BeginsAt path w.arrivals
unfolding step
stepped path load v w e b = by (next_name load v) e
  where
    by : (name : Option (List ℕ)) → take_name load v name ≡ Ok w → BeginsAt path w.arrivals
    by (Some name) e = took path load v w name (finds load (length v.found) v.arrivals name) e b
    by None e = subst (λ (x : Walk). BeginsAt path x.arrivals) (same_ok {Y = Stop} v w e) b

module _ (load : Load) (program : load.program ≡ true) (unknown : with_path load.there load.name ≡ None) where
  at_first : (w : Walk) → walk load 1 ≡ Ok w → BeginsAt load.name w.arrivals
  unfolding step finds find_path find_opened
  at_first w e = by (load.reading load.name) (rw (program, unknown) at e)
    where
      by : (r : Reading) → take_found load start load.name (by_reading load.name r) ≡ Ok w → BeginsAt load.name w.arrivals
      by (here o table) e =
          let a : Arrival = record { path = load.name; object = o; table = table } in
          subst (λ (x : Walk). BeginsAt load.name x.arrivals) (same_ok {Y = Stop} (with_arrival load start a) w e) (a, refl, refl)
      by (unaccepted broken) e = absurd cc
      by absent e = absurd cc
      by failed e = absurd cc

  up_to : (n : ℕ) (w : Walk) → walk load (suc n) ≡ Ok w → BeginsAt load.name w.arrivals
  up_to zero w e = at_first w e
  up_to (suc n) w e = by (walk load (suc n)) (up_to n) e
    where
      by : (r : Result Walk Stop) → ((v : Walk) → r ≡ Ok v → BeginsAt load.name v.arrivals) → then_step load r ≡ Ok w → BeginsAt load.name w.arrivals
      by (Ok v) before e = stepped load.name load v w e (before v refl)
      by (Err why) before e = absurd cc

  pub begins_itself : (w : Walk) → Brings load w → BeginsAt load.name w.arrivals
  begins_itself w brings = by brings.steps brings.are
    where
      by : (n : ℕ) → walk load n ≡ Ok w → BeginsAt load.name w.arrivals
      by zero e =
          let same : start ≡ w = same_ok {Y = Stop} start w e in
          let all : length (load.name ∷ []) ≤ 0 = subst (λ (x : Walk). length (asks load x.arrivals) ≤ length x.found) (sym same) brings.all in
          absurd (omega arith)
      by (suc n) e = up_to n w e
