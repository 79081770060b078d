-- The records of new objects: their serials, what each found, and that what names found is there afterwards.
use Rattle.std.proofs.Common.{◌≡◌, ◌<◌, ◌≤◌, ◌+◌, ◌==◌, ℕ, zero, suc, Bool, true, false, inl, inr, Some, None, refl, sym, ap, ◌∙◌, arith, add-zero}
use Rattle.std.proofs.Common.{List, [], ◌∷◌, ◌++◌, length, take, drop, get_or, length-append}
use Rattle.std.specs.Prelude.{flat_map, map}
use Rattle.std.specs.List.{range_with_len, slice_get, AllByRecursion}
use Rattle.std.proofs.ByRecursion.{All-drop, All-push, All-take, All-weaker}
use Rattle.std.proofs.Math.Seq.{take-add}
use Rattle.std.proofs.lemmas.Bool.{eq-eqb, ne_eqb}
use Rattle.std.proofs.lemmas.List.{length-map}
use Rattle.std.proofs.lemmas.List.FromFn.{length-range_with_len}
use Rattle.ld_base.specs.declared.linking.Loaded.{Loaded}
use Rattle.scope_rule.specs.declared.arrival.Arrival.{Arrival}
use Rattle.scope_rule.specs.Load.{Load, Walk, present, needed_by, preload_of, asks, shares, record_of, records, records_of, Brings, found_by}
use Rattle.scope_rule.specs.Loading.{with_serial}
use Rattle.scope_rule.specs.Loads.{Stands}
use Rattle.scope_rule.proofs.Lists.{behind, front_at}
use Rattle.scope_rule.proofs.Walks.{walk_stays}
use Rattle.scope_rule.proofs.Ways.{IsSerial, linker, old, new, serial_found}

pub length-shares : (more : ℕ) (serials : List ℕ) (arrivals : List Arrival) → length (shares more serials arrivals) ≡ length arrivals
length-shares more serials [] = refl
length-shares more serials (o ∷ rest) = ap suc (length-shares 0 (drop (more + length o.object.needed) serials) rest)

-- ---- serials

numbered : (hart : ℕ) (deep : Bool) (serial more : ℕ) (serials : List ℕ) (arrivals : List Arrival) → map (λ o. o.serial) (records hart deep serial arrivals (shares more serials arrivals)) ≡ range_with_len serial (length arrivals)
numbered hart deep serial more serials [] = refl
numbered hart deep serial more serials (o ∷ rest) = ap (λ (xs : List ℕ). serial ∷ xs) (numbered hart deep (serial + 1) 0 (drop (more + length o.object.needed) serials) rest)

pub records_numbered : (load : Load) (deep : Bool) (w : Walk) → map (λ o. o.serial) (records_of load deep w) ≡ range_with_len load.next (length w.arrivals)
records_numbered load deep w = numbered load.hart deep load.next (length (preload_of load)) (drop 1 w.found) w.arrivals

pub length-records : (load : Load) (deep : Bool) (w : Walk) → length (records_of load deep w) ≡ length w.arrivals
length-records load deep w =
    sym (length-map (records_of load deep w) (λ (o : Loaded). o.serial))
    ∙ ap length (records_numbered load deep w) ∙ length-range_with_len load.next (length w.arrivals)

-- ---- looked up by serial

-- what is found below is not recorded
pub records_below : (hart : ℕ) (deep : Bool) (serial : ℕ) (arrivals : List Arrival) (founds : List (List ℕ)) (s : ℕ) → s < serial → with_serial (records hart deep serial arrivals founds) s ≡ None
records_below hart deep serial [] founds s lt = refl
records_below hart deep serial (o ∷ rest) [] s lt = refl
records_below hart deep serial (o ∷ rest) (found ∷ founds) s lt =
    let other : (serial == s) ≡ false = ne_eqb serial s (λ e. absurd (omega arith)) in
    rw other (records_below hart deep (serial + 1) rest founds s (omega arith))

-- the record of the object at a place, by its serial and by the place
pub record RecordAt (hart : ℕ) (deep : Bool) (serial : ℕ) (all : List Loaded) (i : ℕ) (found : List ℕ) : Type 0 where
  pub object : Arrival
  pub by_serial : with_serial all (serial + i) ≡ Some (record_of hart deep (serial + i) object found)
  pub by_place : slice_get all i ≡ Some (record_of hart deep (serial + i) object found)

pub record_at : (hart : ℕ) (deep : Bool) (serial : ℕ) (arrivals : List Arrival) (founds : List (List ℕ)) (i : ℕ) → i < length arrivals
    → length founds ≡ length arrivals → RecordAt hart deep serial (records hart deep serial arrivals founds) i (get_or founds i [])
record_at hart deep serial [] founds i lt e = absurd (omega arith)
record_at hart deep serial (x ∷ rest) [] i lt e = absurd cc
record_at hart deep serial (x ∷ rest) (found ∷ founds) zero lt e =
    let own : (serial == serial) ≡ true = eq-eqb serial serial refl in
    record { object = x; by_serial = rw (add-zero serial, own) refl; by_place = rw (add-zero serial) refl }
record_at hart deep serial (x ∷ rest) (found ∷ founds) (suc i) lt e =
    let next = record_at hart deep (serial + 1) rest founds i (omega arith) cc in
    let shift : (serial + 1) + i ≡ serial + suc i = omega arith in
    let other : (serial == serial + suc i) ≡ false = ne_eqb serial (serial + suc i) (λ k. absurd (omega arith)) in
    record { object = next.object; by_serial = rw other (rw shift at next.by_serial); by_place = rw shift at next.by_place }

-- ---- what the objects found, one after another

abbrev pub joined : List (List ℕ) → List ℕ
joined founds = flat_map (λ found. found) founds

-- how many names the objects have, the first so many more
abbrev pub count : ℕ → List Arrival → ℕ
count more [] = 0
count more (o ∷ rest) = (more + length o.object.needed) + count 0 rest

pub joined_shares : (more : ℕ) (serials : List ℕ) (arrivals : List Arrival) (k : ℕ) → joined (take k (shares more serials arrivals)) ≡ take (count more (take k arrivals)) serials
joined_shares more serials arrivals zero = refl
joined_shares more serials [] (suc k) = refl
joined_shares more serials (o ∷ rest) (suc k) =
    let own : ℕ = more + length o.object.needed in
    ap (λ (xs : List ℕ). take own serials ++ xs) (joined_shares 0 (drop own serials) rest k)
    ∙ sym (take-add own (count 0 (take k rest)) serials)

count_needed : (arrivals : List Arrival) → count 0 arrivals ≡ length (flat_map needed_by arrivals)
count_needed [] = refl
count_needed (o ∷ rest) = omega (arith, count_needed rest, length-append o.object.needed (flat_map needed_by rest))

pub count_asked : (load : Load) (arrivals : List Arrival) → 1 + count (length (preload_of load)) arrivals ≡ length (asks load arrivals)
count_asked load [] = refl
count_asked load (o ∷ rest) =
    let needed : List (List ℕ) = flat_map needed_by rest in
    omega (arith, count_needed rest, length-append o.object.needed needed, length-append (preload_of load) (o.object.needed ++ needed))

-- what the serials of a row lead to, where each leads to what stands at its place
pub flat_range : (f : ℕ → List ℕ) (founds : List (List ℕ)) (a k : ℕ) → k ≤ length founds → ((i : ℕ) → i < length founds → f (a + i) ≡ get_or founds i []) → flat_map f (range_with_len a k) ≡ joined (take k founds)
flat_range f founds a zero le at = refl
flat_range f [] a (suc k) le at = absurd (omega arith)
flat_range f (found ∷ founds) a (suc k) le at =
    let here : f a ≡ found = ap f (sym (add-zero a)) ∙ at 0 (omega arith) in
    let on : (i : ℕ) → i < length founds → f ((a + 1) + i) ≡ get_or founds i [] =
    λ i lt. (let shift : (a + 1) + i ≡ a + suc i = omega arith in ap f shift) ∙ at (suc i) (omega arith) in
    rw here (ap (λ (xs : List ℕ). found ++ xs) (flat_range f founds (a + 1) k (omega arith) on))

-- ---- what names found is there afterwards

-- a serial is one that some name finds
abbrev Serial : Load → ℕ → ℕ → Type 0
Serial load many serial = (number : ℕ) × IsSerial load number many serial

more_new : (load : Load) (number many more serial : ℕ) → many ≤ more → IsSerial load number many serial → IsSerial load number more serial
more_new load number many more serial le (linker later is) = linker later is
more_new load number many more serial le (old o i same used) = old o i same used
more_new load number many more serial le (new i lt is) = new i (omega arith) is

all_lead : (load : Load) (w : Walk) → Brings load w → AllByRecursion (Serial load (length w.arrivals)) w.found
all_lead load w b =
    walk_stays load (λ v. (many : ℕ) → length v.arrivals ≤ many → AllByRecursion (Serial load many) v.found) (record {
      first = λ many le. tt;
      old = λ v name s at is h. λ many le.
          let k : ℕ = length v.found in
          All-push (Serial load many) v.found s (h many le) (k, more_new load k (length v.arrivals) many s le (serial_found load k v.arrivals name s is));
      new = λ v name o at is h. λ many le.
          let lt : length v.arrivals < many = omega (arith, le, length-append v.arrivals (o ∷ [])) in
          All-push (Serial load many) v.found (load.next + length v.arrivals) (h many (omega arith)) (length v.found, new (length v.arrivals) lt refl);
    }) b.steps w b.are (length w.arrivals) (omega arith)

lead_stands : (load : Load) (deep : Bool) (w : Walk) (number serial : ℕ) → IsSerial load number (length w.arrivals) serial → Stands load (load.there ++ records_of load deep w) serial
lead_stands load deep w number serial (linker later is) = inl is
lead_stands load deep w number serial (old o i same used) = inr (o, (i.0, front_at load.there (records_of load deep w) i.0 o i.1), used)
lead_stands load deep w number serial (new i lt is) =
    let at = record_at load.hart deep load.next w.arrivals (found_by load w) i lt (length-shares (length (preload_of load)) (drop 1 w.found) w.arrivals) in
    let own : (load.hart == load.hart) ≡ true = eq-eqb load.hart load.hart refl in
    let o : Loaded = record_of load.hart deep (load.next + i) at.object (get_or (found_by load w) i []) in
    inr (o, behind load.there (records_of load deep w) i o at.by_place, rw own (ap present (sym is)))

pub leads_stand : (load : Load) (deep : Bool) (w : Walk) → Brings load w → AllByRecursion (Stands load (load.there ++ records_of load deep w)) w.found
leads_stand load deep w b =
    let P : ℕ → Type 0 = Stands load (load.there ++ records_of load deep w) in
    All-weaker (Serial load (length w.arrivals)) P (λ s l. lead_stands load deep w l.0 s l.1) w.found (all_lead load w b)

-- ---- what the objects found is what the names found

shares_hold : (P : ℕ → Type 0) (hart : ℕ) (deep : Bool) (serial more : ℕ) (serials : List ℕ) (arrivals : List Arrival) → AllByRecursion P serials → AllByRecursion (λ o. AllByRecursion P o.found) (records hart deep serial arrivals (shares more serials arrivals))
shares_hold P hart deep serial more serials [] h = tt
shares_hold P hart deep serial more serials (o ∷ rest) h =
    let own : ℕ = more + length o.object.needed in
    (All-take P own serials h, shares_hold P hart deep (serial + 1) 0 (drop own serials) rest (All-drop P own serials h))

pub founds_stand : (load : Load) (deep : Bool) (w : Walk) → Brings load w → AllByRecursion (λ o. AllByRecursion (Stands load (load.there ++ records_of load deep w)) o.found) (records_of load deep w)
founds_stand load deep w b =
    let P : ℕ → Type 0 = Stands load (load.there ++ records_of load deep w) in
    shares_hold P load.hart deep load.next (length (preload_of load)) (drop 1 w.found) w.arrivals (All-drop P 1 w.found (leads_stand load deep w b))
