-- New objects, as they were found and with their places.
use Rattle.std.proofs.Common.{◌≡◌, ℕ, ◌+◌, Bool, false, List, [], ◌∷◌, ◌++◌, length, map, Ok, refl, sym, ap, subst, ◌∙◌}
use Rattle.std.specs.List.{AllByRecursion, range_with_len}
use Rattle.std.proofs.lemmas.List.{length-map}
use Rattle.std.proofs.lemmas.List.FromFn.{length-range_with_len}
use Rattle.history_calls.specs.CallLaws.Laws.{AreNumberedFrom}
use Rattle.elf_object.specs.Verdict.{object_verdict}
use Rattle.ld_base.specs.declared.linking.Loaded.{Loaded}
use Rattle.history_state.specs.Objects.{serial_of}
use Rattle.history_state.specs.Opening.{unplaced}
use Rattle.link_open_plan.specs.OpeningLoad.Finding.{WasLibrary}
use Rattle.scope_rule.specs.Load.{Load, Walk, found_by, record_of, records, records_of}
use Rattle.scope_rule.specs.declared.arrival.Arrival.{Arrival}
use Rattle.link_open_plan.specs.Before.{WasRead}

-- ---- lists

pub all_by : {X : Type 0} (P Q : X → Type 0) (xs : List X) → ((x : X) → P x → Q x) → AllByRecursion P xs → AllByRecursion Q xs
all_by P Q [] every all = tt
all_by P Q (x ∷ xs) every all = (every x all.0, all_by P Q xs every all.1)

pub all_joined : {X : Type 0} (P : X → Type 0) (xs ys : List X) → AllByRecursion P xs → AllByRecursion P ys → AllByRecursion P (xs ++ ys)
all_joined P [] ys all more = more
all_joined P (x ∷ xs) ys all more = (all.0, all_joined P xs ys all.1 more)

-- ---- new objects

-- records of new objects have no places yet
records_unplaced : (hart : ℕ) (deep : Bool) (serial : ℕ) (arrivals : List Arrival) (founds : List (List ℕ)) → map unplaced (records hart deep serial arrivals founds) ≡ records hart deep serial arrivals founds
records_unplaced hart deep serial [] founds = refl
records_unplaced hart deep serial (o ∷ rest) [] = refl
records_unplaced hart deep serial (o ∷ rest) (found ∷ founds) =
    ap (λ (os : List Loaded). record_of hart deep serial o found ∷ os) (records_unplaced hart deep (serial + 1) rest founds)

pub as_found : (load : Load) (deep : Bool) (walk : Walk) (news : List Loaded) → news ≡ records_of load deep walk → map unplaced news ≡ news
as_found load deep walk news are = ap (map unplaced) are ∙ records_unplaced load.hart deep load.next walk.arrivals (found_by load walk) ∙ sym are

serials_kept : (objects : List Loaded) → map serial_of (map unplaced objects) ≡ map serial_of objects
serials_kept [] = refl
serials_kept (o ∷ rest) = ap (λ (ds : List ℕ). o.serial ∷ ds) (serials_kept rest)

-- their serials follow one another
pub numbered : ((load : Load) (deep : Bool) (w : Walk) → map serial_of (records_of load deep w) ≡ range_with_len load.next (length w.arrivals))
    → (load : Load) (deep : Bool) (walk : Walk) (news added : List Loaded) → news ≡ records_of load deep walk → map unplaced added ≡ news → AreNumberedFrom load.next added
numbered follow load deep walk news added are same =
    let serials : map serial_of added ≡ range_with_len load.next (length walk.arrivals) =
    sym (serials_kept added) ∙ ap (map serial_of) (same ∙ are) ∙ follow load deep walk in
    let count : length walk.arrivals ≡ length added =
    sym (length-range_with_len load.next (length walk.arrivals)) ∙ ap length (sym serials) ∙ length-map added serial_of in
    serials ∙ ap (range_with_len load.next) count

-- their places change nothing of what was read
still_by : (P : Loaded → Type 0) → ((o q : Loaded) → unplaced o ≡ unplaced q → P q → P o) → (xs ys : List Loaded) → map unplaced xs ≡ map unplaced ys
    → AllByRecursion P ys → AllByRecursion P xs
still_by P every [] ys same all = tt
still_by P every (x ∷ xs) [] same all = absurd (let e : map unplaced (x ∷ xs) ≡ [] = same in cc)
still_by P every (x ∷ xs) (y ∷ ys) same all =
    let first : unplaced x ≡ unplaced y = cc in
    let rest : map unplaced xs ≡ map unplaced ys = cc in
    (every x y first all.0, still_by P every xs ys rest all.1)

pub still_read : (xs ys : List Loaded) → map unplaced xs ≡ map unplaced ys → AllByRecursion WasLibrary ys → AllByRecursion WasLibrary xs
still_read xs ys same all = still_by WasLibrary
    (λ o q is was. record { bytes = was.bytes; is = subst (λ (x : Loaded). object_verdict was.bytes false ≡ Ok (x.object, x.table)) (sym is) was.is }) xs ys same all

pub still_was : (xs ys : List Loaded) → map unplaced xs ≡ map unplaced ys → AllByRecursion WasRead ys → AllByRecursion WasRead xs
still_was xs ys same all = still_by WasRead
    (λ o q is was. record { bytes = was.bytes; program = was.program; is = subst (λ (x : Loaded). object_verdict was.bytes was.program ≡ Ok (x.object, x.table)) (sym is) was.is })
    xs ys same all

-- a library was read
pub are_read : (objects : List Loaded) → AllByRecursion WasLibrary objects → AllByRecursion WasRead objects
are_read objects all = all_by WasLibrary WasRead objects (λ o was. record { bytes = was.bytes; program = false; is = was.is }) all
