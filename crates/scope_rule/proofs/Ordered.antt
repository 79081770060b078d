-- The new objects of a load come breadth-first.
use Rattle.std.proofs.Common.{◌≡◌, ◌<◌, ◌≤◌, ◌+◌, ◌==◌, nat_le, inl, inr, ℕ, zero, suc, Bool, true, false, cond, Option, Some, None, refl, sym, ap, ◌∙◌, arith, add-one}
use Rattle.std.proofs.Common.{List, [], ◌∷◌, ◌++◌, length, take, drop, get_or, length-append}
use Rattle.std.specs.Prelude.{flat_map, map}
use Rattle.std.specs.List.{range_with_len, slice_get, AllByRecursion}
use Rattle.std.specs.Option.{option_or}
use Rattle.std.proofs.lemmas.Bool.{cases_lt, ne_eqb, lt-leb, leb-false}
use Rattle.std.proofs.lemmas.Grind.{common_steps}
use Rattle.std.proofs.lemmas.List.{take-append-le, take_all}
use Rattle.std.proofs.lemmas.List.Elements.{filter-append}
use Rattle.std.proofs.lemmas.List.FromFn.{length-range_with_len}
use Rattle.std.proofs.lemmas.Option.{slice_get_within}
use Rattle.ld_base.specs.declared.linking.Loaded.{Loaded}
use Rattle.scope_rule.specs.declared.arrival.Arrival.{Arrival}
use Rattle.scope_rule.specs.Breadth.{extend, breadth, order_to}
use Rattle.scope_rule.specs.Load.{Load, Walk, asks, preload_of, with_arrival, next_name, Brings, IsRoot, found_by, records_of}
use Rattle.scope_rule.specs.Loading.{with_serial, found_of}
use Rattle.scope_rule.specs.Loads.{Begins, Closed, new_of}
use Rattle.scope_rule.specs.Seen.{Seen, with_added}
use Rattle.scope_rule.specs.Lemmas.Orders.{extend_append, extended_length, alone, breadth_grows}
use Rattle.scope_rule.proofs.Lists.{all_at, find_either, found_in, range_push, range_has, range_front}
use Rattle.scope_rule.proofs.Queues.{reach, IsQueue, queue_order, new_extend, new_flat, new_order}
use Rattle.scope_rule.proofs.Records.{length-shares, length-records, records_numbered, records_below, record_at, count, joined_shares, count_asked, flat_range}
use Rattle.scope_rule.proofs.Walks.{asks_longer, walk_stays}
use Rattle.scope_rule.proofs.Ways.{IsSerial, linker, old, new, serial_found}

-- ---- the new serials so far, first occurrences kept

abbrev so_far : ℕ → List ℕ → List ℕ
so_far next serials = extend [] (new_of next serials)

so_far_more : (next : ℕ) (xs ys : List ℕ) → so_far next (xs ++ ys) ≡ extend (so_far next xs) (new_of next ys)
so_far_more next xs ys = ap (extend []) (filter-append (nat_le next) xs ys) ∙ extend_append [] (new_of next xs) (new_of next ys)

-- how many names the first k objects ask for, with the load's own
abbrev asked : Load → List Arrival → ℕ → ℕ
asked load arrivals k = length (asks load (take k arrivals))

-- the new serials are those of the new objects in order, and the names of the first k objects have led to more than k of them
record Ordered (load : Load) (w : Walk) : Type 0 where
  pub in_order : so_far load.next w.found ≡ range_with_len load.next (length w.arrivals)
  pub ahead : (k : ℕ) → k < length w.arrivals → k < length (so_far load.next (take (asked load w.arrivals k) w.found))
  pub within : length w.found ≤ length (asks load w.arrivals)

take_begins : (m : ℕ) (xs ys : List ℕ) → Begins (take m xs) (take m (xs ++ ys))
take_begins zero xs ys = ([], refl)
take_begins (suc m) [] ys = (take (suc m) ys, refl)
take_begins (suc m) (x ∷ xs) ys = let rest = take_begins m xs ys in (rest.0, ap (λ (l : List ℕ). x ∷ l) rest.1)

-- one serial more
ahead_more : (next m k : ℕ) (serials : List ℕ) (s : ℕ) → k < length (so_far next (take m serials)) → k < length (so_far next (take m (serials ++ s ∷ [])))
ahead_more next m k serials s h =
    let b = take_begins m serials (s ∷ []) in
    rw (b.1, so_far_more next (take m serials) b.0) (omega (arith, h, extended_length (so_far next (take m serials)) (new_of next b.0)))

known_serial : (next many s : ℕ) → 1 ≤ next → s < next + many → extend (range_with_len next many) (new_of next (s ∷ [])) ≡ range_with_len next many
known_serial next many s le lt = grind (arith, common_steps, range_has next many s)

next_serial : (next many : ℕ) → 1 ≤ next → extend (range_with_len next many) (new_of next ((next + many) ∷ [])) ≡ range_with_len next (suc many)
next_serial next many le = rw range_push (grind (arith, common_steps, range_has next many (next + many)))

-- an object that is there has a serial below, and found such
abbrev Low : ℕ → Loaded → Type 0
Low next o = (o.serial < next) × AllByRecursion (λ s. s < next) o.found

serial_below : (load : Load) (number many s : ℕ) → 1 ≤ load.next → Closed load.next load.there → IsSerial load number many s → s < load.next + many
serial_below load number many s le closed (linker later is) = omega arith
serial_below load number many s le closed (old o i same used) =
    let low : o.serial < load.next = (all_at (Low load.next) load.there i.0 o closed i.1).0 in omega arith
serial_below load number many s le closed (new i lt is) = omega arith

ordered_new : (load : Load) (w : Walk) (name : List ℕ) (o : Arrival) → 1 ≤ load.next → next_name load w ≡ Some name → Ordered load w → Ordered load (with_arrival load w o)
ordered_new load w name o le at h =
    let n : ℕ = length w.arrivals in
    let s : ℕ = load.next + n in
    let arrivals : List Arrival = w.arrivals ++ o ∷ [] in
    let many : length arrivals ≡ suc n = length-append w.arrivals (o ∷ []) ∙ add-one n in
    let long : length (w.found ++ s ∷ []) ≡ length w.found + 1 = length-append w.found (s ∷ []) in
    let room : length w.found < length (asks load w.arrivals) = slice_get_within (asks load w.arrivals) (length w.found) name at in
    let order : so_far load.next (w.found ++ s ∷ []) ≡ range_with_len load.next (suc n) =
    so_far_more load.next w.found (s ∷ []) ∙ ap (λ (xs : List ℕ). extend xs (new_of load.next (s ∷ []))) h.in_order ∙ next_serial load.next n le in
    record {
      in_order = order ∙ ap (range_with_len load.next) (sym many);
      ahead = λ k lt.
          elim (cases_lt k n) [
            | inl low ↦ rw (take-append-le k w.arrivals (o ∷ []) (omega arith)) (ahead_more load.next (asked load w.arrivals k) k w.found s (h.ahead k low))
            | inr high ↦
                let front : take k arrivals ≡ w.arrivals = take-append-le k w.arrivals (o ∷ []) (omega (arith, many)) ∙ take_all k w.arrivals high in
                let all : take (asked load arrivals k) (w.found ++ s ∷ []) ≡ w.found ++ s ∷ [] =
                take_all (asked load arrivals k) (w.found ++ s ∷ []) (rw front (omega (arith, room, long))) in
                let so : length (so_far load.next (w.found ++ s ∷ [])) ≡ suc n = ap length order ∙ length-range_with_len load.next (suc n) in
                rw all (omega (arith, so, many))
          ];
      within = omega (arith, long, room, asks_longer load w.arrivals (o ∷ []));
    }

walk_ordered : (load : Load) (w : Walk) → 1 ≤ load.next → Closed load.next load.there → Brings load w → Ordered load w
walk_ordered load w le closed b =
    walk_stays load (Ordered load) (record {
      first = record { in_order = refl; ahead = λ k lt. absurd (omega arith); within = omega arith };
      old = λ v name s at is h.
          let n : ℕ = length v.arrivals in
          let found : IsSerial load (length v.found) n s = serial_found load (length v.found) v.arrivals name s is in
          let known = known_serial load.next n s le (serial_below load (length v.found) n s le closed found) in
          record {
            in_order = so_far_more load.next v.found (s ∷ []) ∙ ap (λ (xs : List ℕ). extend xs (new_of load.next (s ∷ []))) h.in_order ∙ known;
            ahead = λ k lt. ahead_more load.next (asked load v.arrivals k) k v.found s (h.ahead k lt);
            within = omega (arith, length-append v.found (s ∷ []), slice_get_within (asks load v.arrivals) (length v.found) name at);
          };
      new = λ v name o at is h. ordered_new load v name o le at h;
    }) b.steps w b.are

-- ---- what each serial leads to, once the records are there

abbrev pub after : Load → Bool → Walk → Seen → Seen
after load deep w s = with_added s (records_of load deep w)

there_below : (next : ℕ) (objects : List Loaded) (x : ℕ) → Closed next objects → next ≤ x → with_serial objects x ≡ None
there_below next [] x closed le = refl
there_below next (o ∷ rest) x closed le =
    let low : o.serial < next = closed.0.0 in
    let other : (o.serial == x) ≡ false = ne_eqb o.serial x (λ e. absurd (omega arith)) in
    rw other (there_below next rest x closed.1 le)

none_new : (next : ℕ) (xs : List ℕ) → AllByRecursion (λ s. s < next) xs → new_of next xs ≡ []
none_new next [] h = refl
none_new next (x ∷ xs) h = let old : nat_le next x ≡ false = lt-leb next x h.0 in rw old (none_new next xs h.1)

there_old : (next : ℕ) (objects : List Loaded) (x : ℕ) (o : Loaded) → Closed next objects → with_serial objects x ≡ Some o → new_of next o.found ≡ []
there_old next objects x o closed e =
    let i = found_in (λ (y : Loaded). y.serial == x) objects o e in
    none_new next o.found (all_at (Low next) objects i.0 o closed i.1).1

module _ (load : Load) (deep : Bool) (w : Walk) (s : Seen) (root : ℕ)
    (le : 1 ≤ load.next) (is : s.objects ≡ load.there) (closed : Closed load.next load.there) where
  abbrev new_ones : List Loaded
  new_ones = records_of load deep w

  abbrev leads_to : ℕ → List ℕ
  leads_to x = found_of (after load deep w s) x

  abbrev leads_on : ℕ → List ℕ
  leads_on x = new_of load.next (leads_to x)

  abbrev founds : List (List ℕ)
  founds = found_by load w

  all : length founds ≡ length w.arrivals
  all = length-shares (length (preload_of load)) (drop 1 w.found) w.arrivals

  -- a new object leads to what its names found
  found_new : (i : ℕ) → i < length founds → leads_to (load.next + i) ≡ get_or founds i []
  found_new i lt =
      let x : ℕ = load.next + i in
      let at = record_at load.hart deep load.next w.arrivals founds i (omega (arith, all)) all in
      let none : with_serial s.objects x ≡ None = rw is (there_below load.next load.there x closed (omega arith)) in
      let other : (x == 0) ≡ false = ne_eqb x 0 (λ e. absurd (omega arith)) in
      rw (other, find_either (λ (o : Loaded). o.serial == x) s.objects new_ones, none, at.by_serial) refl

  -- an old one leads to nothing new
  found_old : (x : ℕ) → nat_le load.next x ≡ false → leads_on x ≡ []
  found_old x small =
      let below : with_serial new_ones x ≡ None = records_below load.hart deep load.next w.arrivals founds x (leb-false load.next x small) in
      let led : Option Loaded → List ℕ = λ o. elim o [ Some y ↦ y.found | None ↦ [] ] in
      let there : with_serial (s.objects ++ new_ones) x ≡ option_or (with_serial load.there x) None =
      find_either (λ (o : Loaded). o.serial == x) s.objects new_ones ∙ rw (below, is) refl in
      elim (x == 0) as (λ v. new_of load.next (cond v [] (led (with_serial (s.objects ++ new_ones) x))) ≡ []) [
        | true ↦ refl
        | false ↦ rw there ((elim (with_serial load.there x) as (λ o. with_serial load.there x ≡ o → new_of load.next (led (option_or o None)) ≡ [])
            [ Some o ↦ λ at. there_old load.next load.there x o closed at | None ↦ λ at. refl ]) refl)
      ]

  -- ---- the order of what the root leads to

  -- the first k new objects, and the root, lead to what the names of these led to
  front_reaches : (k : ℕ) → k ≤ length w.arrivals → w.found ≡ root ∷ drop 1 w.found
      → reach leads_on (so_far load.next (root ∷ [])) (range_with_len load.next k) ≡ so_far load.next (take (asked load w.arrivals k) w.found)
  front_reaches k lek root_first =
      let more : ℕ = length (preload_of load) in
      let c : ℕ = count more (take k w.arrivals) in
      let led : flat_map leads_to (range_with_len load.next k) ≡ take c (drop 1 w.found) =
      flat_range leads_to founds load.next k (omega (arith, all)) found_new ∙ joined_shares more (drop 1 w.found) w.arrivals k in
      let many : suc c ≡ asked load w.arrivals k = omega (arith, count_asked load (take k w.arrivals)) in
      ap (extend (so_far load.next (root ∷ []))) (new_flat load.next leads_to (range_with_len load.next k) ∙ ap (new_of load.next) led)
      ∙ sym (so_far_more load.next (root ∷ []) (take c (drop 1 w.found)))
      ∙ ap (λ (xs : List ℕ). so_far load.next (take (suc c) xs)) (sym root_first)
      ∙ ap (λ (m : ℕ). so_far load.next (take m w.found)) many

  queue : Ordered load w → w.found ≡ root ∷ drop 1 w.found → IsQueue leads_on (so_far load.next (root ∷ [])) (range_with_len load.next (length w.arrivals))
  queue h root_first =
      let n : ℕ = length w.arrivals in
      let whole : take n w.arrivals ≡ w.arrivals = take_all n w.arrivals (omega arith) in
      let many : asked load w.arrivals n ≡ length (asks load w.arrivals) = ap (λ (xs : List Arrival). length (asks load xs)) whole in
      let all_found : take (asked load w.arrivals n) w.found ≡ w.found = take_all (asked load w.arrivals n) w.found (omega (arith, h.within, many)) in
      record {
        whole = sym (front_reaches n (omega arith) root_first ∙ ap (so_far load.next) all_found ∙ h.in_order);
        grows = λ k lt.
            let less : k < n = omega (arith, length-range_with_len load.next n) in
            let front : take k (range_with_len load.next n) ≡ range_with_len load.next k = range_front load.next n k (omega arith) in
            rw (front, front_reaches k (omega arith) root_first) (h.ahead k less);
      }

  new_breadth : IsQueue leads_on (so_far load.next (root ∷ [])) (range_with_len load.next (length w.arrivals))
      → map (λ o. o.serial) new_ones ≡ new_of load.next (breadth (after load deep w s) root)
  new_breadth q =
      let many : ℕ = length (s.objects ++ new_ones) in
      let long : length w.arrivals ≤ many = omega (arith, length-append s.objects new_ones, length-records load deep w) in
      let row : List ℕ = range_with_len load.next (length w.arrivals) in
      let last : order_to leads_on (so_far load.next (root ∷ [])) many ≡ row =
      queue_order leads_on (so_far load.next (root ∷ [])) row q many (omega (arith, length-range_with_len load.next (length w.arrivals))) in
      records_numbered load deep w
      ∙ sym (new_order load.next leads_to (alone root) found_old many
      ∙ ap (λ (first : List ℕ). order_to leads_on first many) (new_extend load.next [] (root ∷ [])) ∙ last)
      ∙ ap (new_of load.next) (sym (breadth_grows (after load deep w s) root))

root_first : (xs : List ℕ) (root : ℕ) → slice_get xs 0 ≡ Some root → xs ≡ root ∷ drop 1 xs
root_first [] root e = absurd cc
root_first (x ∷ xs) root e = let same : x ≡ root = cc in ap (λ (y : ℕ). y ∷ xs) same

pub news_breadth_first : (load : Load) (deep : Bool) (w : Walk) (s : Seen) (root : ℕ) → Brings load w → IsRoot w root → s.objects ≡ load.there → Closed load.next load.there → 1 ≤ load.next
    → map (λ o. o.serial) (records_of load deep w) ≡ new_of load.next (breadth (with_added s (records_of load deep w)) root)
news_breadth_first load deep w s root b is_root is closed le =
    new_breadth load deep w s root le is closed (queue load deep w s root le is closed (walk_ordered load w le closed b) (root_first w.found root is_root))
