-- What holds of every walk, name by name, and what the names of a load found, in words of its own.
use Rattle.std.proofs.Common.{◌≡◌, ◌≤◌, ◌+◌, ◌||◌, ◌&&◌, ℕ, zero, suc, true, false, cond, inl, inr, Option, Some, None, Result, Ok, Err}
use Rattle.std.proofs.Common.{List, [], ◌∷◌, ◌++◌, length, refl, sym, ap, subst, ◌∙◌, arith, add-suc, add-zero, add-one}
use Rattle.std.proofs.Common.{append_assoc, append-nil, length-append}
use Rattle.std.specs.Prelude.{flat_map}
use Rattle.std.specs.List.{slice_get, AllByRecursion}
use Rattle.std.proofs.ByRecursion.{All-push}
use Rattle.std.specs.Option.{option_or}
use Rattle.std.specs.Str.{bytes_eq}
use Rattle.std.proofs.lemmas.Grind.{flat_map-append}
use Rattle.std.proofs.lemmas.Option.{slice_get_past}
use Rattle.std.proofs.lemmas.Slice.Eq.{bytes_eq-Decides}
use Rattle.ld_base.specs.declared.fault.DlFault.TheVariants as faults
use Rattle.ld_base.specs.declared.fault.Shown.{Shown}
use Rattle.ld_base.specs.declared.linking.Loaded.{Loaded}
use Rattle.scope_rule.specs.declared.arrival.Arrival.{Arrival}
use Rattle.scope_rule.specs.Finding.{here, absent, at_path, is_path, with_path, with_soname, candidates}
use Rattle.scope_rule.specs.Load.{Load, Walk, Stop, refuses, waits, Found, present, fresh, nowhere, stops, needed_by, preload_of, asks, paths_of, use_of, among, or_else, find_path, find_paths, find_opened, finds, start, with_found, with_arrival, take_found, take_name, next_name, step, then_step, walk, Brings, Stops, IsRoot}
use Rattle.scope_rule.specs.Loads.{Begins, IsFound, IsRead, IsMissing, WaitsForOne, ReadsNothing, alone, at_first, named_there}
use Rattle.scope_rule.proofs.Lists.{position_none, begins_at, Pushed, pushed_at}
use Rattle.scope_rule.proofs.Ways.{NoneThere, IsSerial, linker, old, new, ended_by, serial_found, new_found, used_or_else}

-- ---- names

-- more objects ask for more names, behind the others
pub asks_more : (load : Load) (xs ys : List Arrival) → Begins (asks load xs) (asks load (xs ++ ys))
asks_more load [] [] = ([], sym (append-nil (asks load [])))
asks_more load [] (o ∷ rest) = (preload_of load ++ flat_map needed_by (o ∷ rest), refl)
asks_more load (o ∷ xs) ys = (
  flat_map needed_by ys,
  ap (λ (l : List (List ℕ)). (load.name ∷ preload_of load) ++ l) (flat_map-append needed_by (o ∷ xs) ys)
      ∙ sym (append_assoc (load.name ∷ preload_of load) (flat_map needed_by (o ∷ xs)) (flat_map needed_by ys)),
)

still_asked : (load : Load) (xs ys : List Arrival) (n : ℕ) (name : List ℕ) → Begins xs ys
    → slice_get (asks load xs) n ≡ Some name → slice_get (asks load ys) n ≡ Some name
still_asked load xs ys n name b e = rw b.1 (begins_at (asks load xs) (asks load (xs ++ b.0)) n name (asks_more load xs b.0) e)

pub asks_longer : (load : Load) (xs ys : List Arrival) → length (asks load xs) ≤ length (asks load (xs ++ ys))
asks_longer load xs ys = let b = asks_more load xs ys in rw b.1 (omega (arith, length-append (asks load xs) b.0))

-- ---- one name after another

abbrev done : Walk → Result Walk Stop
done w = Ok w

-- what the start has, and each name keeps, every walk has
pub record Stays (load : Load) (P : Walk → Type 0) : Type 0 where
  pub first : P start
  pub old : (w : Walk) (name : List ℕ) (serial : ℕ) → next_name load w ≡ Some name → finds load (length w.found) w.arrivals name ≡ present serial → P w → P (with_found w serial)
  pub new : (w : Walk) (name : List ℕ) (o : Arrival) → next_name load w ≡ Some name → finds load (length w.found) w.arrivals name ≡ fresh o → P w → P (with_arrival load w o)

-- where a walk stops: so far it went, and then the next name ended it
record StopsAt (load : Load) (why : Stop) : Type 0 where
  pub steps : ℕ
  pub before : Walk
  pub name : List ℕ
  pub walked : walk load steps ≡ Ok before
  pub next : next_name load before ≡ Some name
  pub ends : take_found load before name (finds load (length before.found) before.arrivals name) ≡ Err why

module _ (load : Load) (P : Walk → Type 0) (stays : Stays load P) where
  abbrev Holds : Result Walk Stop → Type 0
  Holds (Ok w) = P w
  Holds (Err why) = StopsAt load why

  found_holds : (n : ℕ) (w : Walk) (name : List ℕ) (found : Found) → walk load n ≡ Ok w → next_name load w ≡ Some name
      → finds load (length w.found) w.arrivals name ≡ found → P w → Holds (take_found load w name found)
  found_holds n w name (present serial) walked at is h = stays.old w name serial at is h
  found_holds n w name (fresh o) walked at is h = stays.new w name o at is h
  found_holds n w name nowhere walked at is h = record { steps = n; before = w; name = name; walked = walked; next = at; ends = rw is refl }
  found_holds n w name (stops why) walked at is h = record { steps = n; before = w; name = name; walked = walked; next = at; ends = rw is refl }

  name_holds : (n : ℕ) (w : Walk) (name : Option (List ℕ)) → walk load n ≡ Ok w → next_name load w ≡ name → P w → Holds (take_name load w name)
  name_holds n w (Some name) walked at h = found_holds n w name (finds load (length w.found) w.arrivals name) walked at refl h
  name_holds n w None walked at h = h

  then_holds : (n : ℕ) (r : Result Walk Stop) → walk load n ≡ r → Holds r → Holds (then_step load r)
  unfolding step
  then_holds n (Ok w) walked h = name_holds n w (next_name load w) walked refl h
  then_holds n (Err why) walked h = h

  holds : (n : ℕ) → Holds (walk load n)
  holds zero = stays.first
  holds (suc n) = then_holds n (walk load n) refl (holds n)

  pub walk_stays : (n : ℕ) (w : Walk) → walk load n ≡ Ok w → P w
  walk_stays n w e = subst Holds e (holds n)

stops_at : (load : Load) (n : ℕ) (why : Stop) → walk load n ≡ Err why → StopsAt load why
stops_at load n why e =
    let nothing : Stays load (λ v. Unit {0}) = record { first = tt; old = λ w name serial at is h. tt; new = λ w name o at is h. tt } in
    subst (Holds load (λ v. Unit {0}) nothing) e (holds load (λ v. Unit {0}) nothing n)

-- ---- a load comes to one thing, however many names are counted

-- the load comes to this, and further names change nothing
abbrev Settles : Load → Result Walk Stop → Type 0
Settles load r = (n : ℕ) × ((more : ℕ) → walk load (n + more) ≡ r)

settled : (load : Load) (n : ℕ) (r : Result Walk Stop) → walk load n ≡ r → then_step load r ≡ r → (more : ℕ) → walk load (n + more) ≡ r
settled load n r e still zero = rw add-zero e
settled load n r e still (suc more) = rw (add-suc, settled load n r e still more) still

settles_once : (load : Load) (r s : Result Walk Stop) → Settles load r → Settles load s → r ≡ s
settles_once load r s one two =
    let same : one.0 + two.0 ≡ two.0 + one.0 = omega arith in
    sym (one.1 two.0) ∙ ap (walk load) same ∙ two.1 one.0

brought : (load : Load) (w : Walk) → Brings load w → Settles load (done w)
unfolding step
brought load w b =
    let none : next_name load w ≡ None = slice_get_past (asks load w.arrivals) (length w.found) b.all in
    (b.steps, settled load b.steps (done w) b.are (rw none refl))

stopped : (load : Load) (why : Stop) → Stops load why → Settles load (Err why)
stopped load why s = (s.steps, settled load s.steps (Err why) s.is refl)

pub one_walk : (load : Load) (first second : Walk) → Brings load first → Brings load second → first ≡ second
one_walk load first second b c = let e = settles_once load (done first) (done second) (brought load first b) (brought load second c) in cc

pub one_stop : (load : Load) (first second : Stop) → Stops load first → Stops load second → first ≡ second
one_stop load first second b c = let e = settles_once load (Err first) (Err second) (stopped load first b) (stopped load second c) in cc

pub not_both : (load : Load) (w : Walk) (why : Stop) → Brings load w → Stops load why → ⊥
not_both load w why b c = let e : done w ≡ Err why = settles_once load (done w) (Err why) (brought load w b) (stopped load why c) in absurd cc

-- ---- how a load stops

pub name_missing : (load : Load) (w : Walk) (name own : List ℕ) → take_found load w name (finds load (length w.found) w.arrivals name) ≡ Err (refuses (faults.MissingLibrary own)) → (own ≡ name) × NoneThere load (paths_of load (length w.found) name)
name_missing load w name own e = ended_by load w name (refuses (faults.MissingLibrary own)) e own refl

pub stops_missing : (load : Load) (name : List ℕ) → Stops load (refuses (faults.MissingLibrary name)) → IsMissing load name
stops_missing load name s =
    let at = stops_at load s.steps (refuses (faults.MissingLibrary name)) s.is in
    let own = name_missing load at.before at.name name at.ends in
    record {
      before = at.before;
      comes = record { steps = at.steps; walked = at.walked; next = at.next ∙ ap Some (sym own.0) };
      absent = subst (λ (n : List ℕ). NoneThere load (paths_of load (length at.before.found) n)) (sym own.0) own.1;
    }

pub stops_waiting : (load : Load) (show : Shown) → Stops load (waits show) → WaitsForOne load show
stops_waiting load show s = let at = stops_at load s.steps (waits show) s.is in ended_by load at.before at.name (waits show) at.ends

pub never_waits : (load : Load) (show : Shown) → load.there ≡ [] → Stops load (waits show) → ⊥
never_waits load show none s =
    let one = stops_waiting load show s in
    let at : slice_get [] one.there.0 ≡ Some one.object =
    subst (λ (xs : List Loaded). slice_get xs one.there.0 ≡ Some one.object) none one.there.1 in absurd cc

-- ---- new objects

pub reads_nothing : (load : Load) (w : Walk) → ReadsNothing load → Brings load w → w.arrivals ≡ []
reads_nothing load w none b =
    walk_stays load (λ v. v.arrivals ≡ []) (record {
      first = refl;
      old = λ v name serial at is h. h;
      new = λ v name o at is h. let n = new_found load (length v.found) v.arrivals name o is in absurd (let d : absent ≡ here o.object o.table = sym (none o.path) ∙ n.read in cc);
    }) b.steps w b.are

pub arrivals_read : (load : Load) (w : Walk) → Brings load w → AllByRecursion (IsRead load w.arrivals) w.arrivals
arrivals_read load w b =
    walk_stays load (λ v. (all : List Arrival) → Begins v.arrivals all → AllByRecursion (IsRead load all) v.arrivals) (record {
      first = λ all begins. tt;
      old = λ v name serial at is h. h;
      new = λ v name o at is h. λ all begins.
          let n = new_found load (length v.found) v.arrivals name o is in
          let front : Begins v.arrivals all = (o ∷ begins.0, begins.1 ∙ append_assoc v.arrivals (o ∷ []) begins.0) in
          let asked : slice_get (asks load all) (length v.found) ≡ Some name = still_asked load v.arrivals all (length v.found) name front at in
          All-push (IsRead load all) v.arrivals o (h all front)
          (record {
            number = length v.found;
            name = name;
            asked = asked;
            place = n.place;
            candidate = n.candidate;
            earlier = n.earlier;
            unknown = n.unknown;
            read = n.read;
          });
    }) b.steps w b.are w.arrivals ([], sym (append-nil w.arrivals))

-- no two new objects have one path
abbrev PathsDiffer : List Arrival → Type 0
PathsDiffer arrivals = (i j : ℕ) (a b : Arrival) → slice_get arrivals i ≡ Some a → slice_get arrivals j ≡ Some b → a.path ≡ b.path → i ≡ j

lacks_path : (arrivals : List Arrival) (path : List ℕ) (i : ℕ) (a : Arrival) → at_path arrivals path ≡ None → slice_get arrivals i ≡ Some a → a.path ≡ path → ⊥
lacks_path [] path i a none e same = absurd cc
lacks_path (x ∷ xs) path zero a none e same =
    let is : x ≡ a = cc in
    let own : bytes_eq x.path path ≡ true = (bytes_eq-Decides x.path path).1 (ap (λ (y : Arrival). y.path) is ∙ same) in
    absurd (let d : true ≡ false = sym own ∙ (position_none (λ (y : Arrival). bytes_eq y.path path) x xs none).0 in cc)
lacks_path (x ∷ xs) path (suc i) a none e same = lacks_path xs path i a (position_none (λ (y : Arrival). bytes_eq y.path path) x xs none).1 e same

differ_push : (arrivals : List Arrival) (o : Arrival) → at_path arrivals o.path ≡ None → PathsDiffer arrivals → PathsDiffer (arrivals ++ o ∷ [])
differ_push arrivals o none h i j a b at_i at_j same = cases (pushed_at arrivals o i a at_i) (pushed_at arrivals o j b at_j)
  where
    cases : Pushed arrivals o i a → Pushed arrivals o j b → i ≡ j
    cases (inl x) (inl y) = h i j a b x y same
    cases (inl x) (inr y) = absurd (lacks_path arrivals o.path i a none x (same ∙ ap (λ (z : Arrival). z.path) (sym y.1)))
    cases (inr x) (inl y) = absurd (lacks_path arrivals o.path j b none y (sym same ∙ ap (λ (z : Arrival). z.path) (sym x.1)))
    cases (inr x) (inr y) = x.0 ∙ sym y.0

pub paths_differ : (load : Load) (w : Walk) → Brings load w → PathsDiffer w.arrivals
paths_differ load w b =
    walk_stays load (λ v. PathsDiffer v.arrivals) (record {
      first = λ i j a c x y same. absurd cc;
      old = λ v name serial at is h. h;
      new = λ v name o at is h. differ_push v.arrivals o (new_found load (length v.found) v.arrivals name o is).unread h;
    }) b.steps w b.are

-- ---- each name by itself

-- so far each name found what it finds, whatever comes after
record AllFound (load : Load) (v : Walk) : Type 0 where
  pub walked : walk load (length v.found) ≡ Ok v
  pub each : (w : Walk) → Begins v.arrivals w.arrivals → (place serial : ℕ) → slice_get v.found place ≡ Some serial → IsFound load w place serial

one_more_found : (load : Load) (v after : Walk) (name : List ℕ) (serial : ℕ) (more : List Arrival) → next_name load v ≡ Some name
    → take_found load v name (finds load (length v.found) v.arrivals name) ≡ Ok after → after.found ≡ v.found ++ serial ∷ []
    → after.arrivals ≡ v.arrivals ++ more → AllFound load v → AllFound load after
unfolding step
one_more_found load v after name serial more at taken longer grown h = record {
  walked =
      let many : length after.found ≡ suc (length v.found) = ap length longer ∙ length-append v.found (serial ∷ []) ∙ add-one (length v.found) in
      rw (many, h.walked, at) taken;
  each = λ w begins place one there.
      let front : Begins v.arrivals w.arrivals = (more ++ begins.0, begins.1 ∙ rw grown (append_assoc v.arrivals more begins.0)) in
      let own : IsFound load w (length v.found) serial = record {
        name = name;
        asked = still_asked load v.arrivals w.arrivals (length v.found) name front at;
        before = v;
        walked = h.walked;
        after = after;
        by_finding = taken;
        found_after = longer;
      } in
      elim (pushed_at v.found serial place one (rw longer at there)) [ inl earlier ↦ h.each w front place one earlier | inr last ↦ rw (last.0, ← last.1) own ];
}

pub each_is_found : (load : Load) (w : Walk) → Brings load w → (place serial : ℕ) → slice_get w.found place ≡ Some serial → IsFound load w place serial
each_is_found load w b =
    (walk_stays load (AllFound load) (record {
      first = record { walked = refl; each = λ w begins place serial e. absurd cc };
      old = λ v name serial at is h. one_more_found load v (with_found v serial) name serial [] at (rw is refl) refl (sym (append-nil v.arrivals)) h;
      new = λ v name o at is h. one_more_found load v (with_arrival load v o) name (load.next + length v.arrivals) (o ∷ []) at (rw is refl) refl refl h;
    }) b.steps w b.are).each w ([], sym (append-nil w.arrivals))

-- ---- the root, where nothing was there

root_new : (load : Load) (name : List ℕ) (after : Walk) (root : ℕ) (found : Found) → load.there ≡ [] → finds load 0 [] name ≡ found → take_found load start name found ≡ Ok after → after.found ≡ root ∷ [] → root ≡ load.next
root_new load name after root (present serial) none is taken one = absurd (first (serial_found load 0 [] name serial is))
  where
    first : IsSerial load 0 0 serial → ⊥
    first (linker later zero_is) = absurd cc
    first (old o i same used) = let at : slice_get [] i.0 ≡ Some o = rw none at i.1 in absurd cc
    first (new i lt e) = absurd (omega arith)
root_new load name after root (fresh o) none is taken one =
    let same : with_arrival load start o ≡ after = cc in
    let both : (load.next + 0) ∷ [] ≡ root ∷ [] = ap (λ (v : Walk). v.found) same ∙ one in
    let e : load.next + 0 ≡ root = cc in sym e ∙ add-zero load.next
root_new load name after root nowhere none is taken one = absurd cc
root_new load name after root (stops why) none is taken one = absurd cc

pub root_is_new : (load : Load) (w : Walk) (root : ℕ) → load.there ≡ [] → Brings load w → IsRoot w root → root ≡ load.next
root_is_new load w root none b is =
    let f = each_is_found load w b 0 root is in
    let begun : start ≡ f.before = (let e : done start ≡ done f.before = f.walked in cc) in
    let P : Walk → Type 0 = λ v. take_found load v f.name (finds load 0 v.arrivals f.name) ≡ Ok f.after in
    let Q : Walk → Type 0 = λ v. f.after.found ≡ v.found ++ root ∷ [] in
    root_new load f.name f.after root (finds load 0 [] f.name) none refl (subst P (sym begun) f.by_finding) (subst Q (sym begun) f.found_after)

-- ---- where nothing is read

-- what an object that may be there is found as
abbrev used : Load → Option Loaded → Found
used load o = elim o [ Some x ↦ use_of load.hart x | None ↦ nowhere ]

used_among : (load : Load) (o : Option Loaded) (rest : Option Loaded) → among load o None (used load rest) ≡ used load (option_or o rest)
used_among load (Some x) rest = refl
used_among load None rest = refl

used_before : (load : Load) (o rest : Option Loaded) → or_else (used load o) (used load rest) ≡ used load (option_or o rest)
used_before load (Some x) rest = used_or_else load.hart x x.state (used load rest)
used_before load None rest = refl

module _ (load : Load) (none : ReadsNothing load) where
  path_there : (path : List ℕ) → find_path load [] path ≡ used load (with_path load.there path)
  unfolding find_path
  path_there path = rw (none path) (elim (with_path load.there path) as (λ o. among load o None nowhere ≡ used load o) [ Some x ↦ refl | None ↦ refl ])

  paths_there : (paths : List (List ℕ)) → find_paths load [] paths ≡ used load (at_first load.there paths)
  paths_there [] = refl
  paths_there (path ∷ paths) = rw (path_there path, paths_there paths) (used_before load (with_path load.there path) (at_first load.there paths))

  opened_there : (name : List ℕ) → find_opened load [] name ≡ used load (option_or (cond (is_path name) None (with_soname load.there name)) (at_first load.there (candidates load.folders name)))
  unfolding find_opened
  opened_there name =
      let all : find_paths load [] (candidates load.folders name) ≡ used load (at_first load.there (candidates load.folders name)) = paths_there (candidates load.folders name) in
      rw all (elim (is_path name) as (λ v. cond v (used load (at_first load.there (candidates load.folders name))) (among load (with_soname load.there name) None (used load (at_first load.there (candidates load.folders name)))) ≡ used load (option_or (cond v None (with_soname load.there name)) (at_first load.there (candidates load.folders name)))) [
        | true ↦ refl
        | false ↦ used_among load (with_soname load.there name) (at_first load.there (candidates load.folders name))
      ])

  root_there : finds load 0 [] load.name ≡ used load (named_there load)
  unfolding finds
  root_there =
      (elim load.program as (λ program. load.program ≡ program → cond program (find_path load [] load.name) (find_opened load [] load.name) ≡ used load (option_or (cond (program || is_path load.name) None (with_soname load.there load.name)) (at_first load.there (cond (program && true) (load.name ∷ []) (candidates load.folders load.name))))) [
        | true ↦ λ e. path_there load.name ∙ elim (with_path load.there load.name) as (λ o. used load o ≡ used load (option_or o None)) [ Some x ↦ refl | None ↦ refl ]
        | false ↦ λ e. opened_there load.name
      ]) refl

  first_step : walk load 1 ≡ take_found load start load.name (used load (named_there load))
  unfolding step
  first_step = ap (take_found load start load.name) root_there

pub brings_alone : (load : Load) (o : Loaded) (root : ℕ) → ReadsNothing load → named_there load ≡ Some o → use_of load.hart o ≡ present root → Brings load (alone root)
brings_alone load o root none is may = record { steps = 1; are = first_step load none ∙ rw (is, may) refl; all = omega arith }

pub stops_at_once : (load : Load) (o : Loaded) (why : Stop) → ReadsNothing load → named_there load ≡ Some o → use_of load.hart o ≡ stops why → Stops load why
stops_at_once load o why none is may = record { steps = 1; is = first_step load none ∙ rw (is, may) refl }

pub is_missing : (load : Load) → ReadsNothing load → named_there load ≡ None → Stops load (refuses (faults.MissingLibrary load.name))
is_missing load none is = record { steps = 1; is = first_step load none ∙ rw is refl }
