-- What a load brings has arrived: its serials are new, and what its objects found is there and doesn't close.
use Rattle.std.proofs.Common.{◌≡◌, inl, inr, ⊎_elim, ℕ, zero, suc, ◌+◌, ◌<◌, ◌≤◌, Bool, true, false, List, [], ◌∷◌, ◌++◌, map, length, Option, Some, None, refl, sym, ap, subst, ◌∙◌, arith}
use Rattle.std.specs.List.{AllByRecursion, Contains, range_with_len}
use Rattle.std.proofs.lemmas.Bool.{true≢false}
use Rattle.std.proofs.lemmas.List.{length-map}
use Rattle.std.proofs.lemmas.List.Elements.{Contains-append_cases, Contains-append_left, Contains-append_right}
use Rattle.ld_base.specs.declared.linking.Loaded.{Loaded}
use Rattle.history_event.specs.declared.event.OpenAsk.{OpenAsk}
use Rattle.history_event.specs.declared.event.Range.{Range}
use Rattle.scope_rule.specs.declared.arrival.Arrival.{Arrival}
use Rattle.scope_rule.specs.Load.{Brings, Load, Walk, found_by, present, record_of, records, records_of, refuses, stops, use_in, use_of, waits}
use Rattle.ld_base.specs.declared.fault.DlFault.TheVariants as faults
use Rattle.ld_base.specs.declared.fault.Shown.TheVariants as shown
use Rattle.ld_base.specs.declared.linking.State.{State as Doing}
use Rattle.ld_base.specs.declared.linking.State.TheVariants as states
use Rattle.std.specs.Prelude.{if◌then◌else◌}
use Rattle.std.proofs.Common.{eqb}
use Rattle.scope_rule.specs.Loading.{is_dying}
use Rattle.scope_rule.specs.Loads.{IsIn, Stands}
use Rattle.scope_rule.specs.declared.namespace.Namespace.{Namespace}
use Rattle.history_state.specs.State.{State, empty_namespace}
use Rattle.history_state.specs.Asking.{IsNamespace}
use Rattle.history_state.specs.Flags.{is_deepbind, is_global}
use Rattle.history_state.specs.Objects.{serial_of}
use Rattle.history_state.specs.Opening.{Loads as LoadsName, Opens, OpensName, OpensProgram, there, unplaced}
use Rattle.history_state.specs.Setting.{Setting, load_of}
use Rattle.history_state.specs.Step.{binds, loaded, loading_of, namespace_before, open_done}
use Rattle.history_state.specs.Lemmas.Lists.{at_in, first_or_later, from_map, in_map, none_in}
use Rattle.history_state.specs.Lemmas.Good.{Free, Good, Has, Stays, core}
use Rattle.history_state.specs.Lemmas.Opened.{Before, before_of}
use Rattle.history_state.specs.Lemmas.Arrived.{Arrived, chooses, good_opened, joined}

-- what holds of every load
pub record LoadLaws : Type 0 where
  pub serials : (load : Load) (deep : Bool) (w : Walk) → map (λ o. o.serial) (records_of load deep w) ≡ range_with_len load.next (length w.arrivals)
  pub leads : (load : Load) (deep : Bool) (w : Walk) → Brings load w → AllByRecursion (Stands load (load.there ++ records_of load deep w)) w.found
  pub founds : (load : Load) (deep : Bool) (w : Walk) → Brings load w →
      AllByRecursion (λ o. AllByRecursion (Stands load (load.there ++ records_of load deep w)) o.found) (records_of load deep w)

pub all_at : {X : Type 0} (P : X → Type 0) (xs : List X) (x : X) → AllByRecursion P xs → Contains xs x → P x
all_at P [] x all h = absurd (none_in x h)
all_at {X} P (y ∷ xs) x all h = ⊎_elim
    (λ (e : y ≡ x). subst P e all.0)
    (λ (i : Contains xs x). all_at P xs x all.1 i)
    (first_or_later y xs x h)

pub in_range : (from n x : ℕ) → Contains (range_with_len from n) x → (from ≤ x) × (x < from + n)
in_range from zero x h = absurd (none_in x h)
in_range from (suc n) x h = ⊎_elim
    (λ (e : from ≡ x). (omega (arith, e), omega (arith, e)))
    (λ (i : Contains (range_with_len (from + 1) n) x). let r = in_range (from + 1) n x i in let low : from + 1 ≤ x = r.0 in let high : x < from + 1 + n = r.1 in (omega (arith, low), omega (arith, high)))
    (first_or_later from (range_with_len (from + 1) n) x h)

pub length_range : (from n : ℕ) → length (range_with_len from n) ≡ n
length_range from zero = refl
length_range from (suc n) = ap suc (length_range (from + 1) n)

-- values that follow one another are each of one element
ranged_one : (from n : ℕ) (xs : List Loaded) → map serial_of xs ≡ range_with_len from n → (x y : Loaded) → Contains xs x → Contains xs y → x.serial ≡ y.serial → x ≡ y
ranged_one from n [] e x y first second same = absurd (none_in x first)
ranged_one from zero (z ∷ xs) e x y first second same = absurd cc
ranged_one from (suc n) (z ∷ xs) e x y first second same = ⊎_elim
    (λ (a : z ≡ x). ⊎_elim
    (λ (b : z ≡ y). sym a ∙ b)
    (λ (j : Contains xs y). absurd (later_not y j (ap serial_of a ∙ same)))
    (first_or_later z xs y second))
    (λ (i : Contains xs x). ⊎_elim
    (λ (b : z ≡ y). absurd (later_not x i (ap serial_of b ∙ sym same)))
    (λ (j : Contains xs y). ranged_one (from + 1) n xs rest x y i j same)
    (first_or_later z xs y second))
    (first_or_later z xs x first)
  where
    first_is : z.serial ≡ from
    first_is = cc

    rest : map serial_of xs ≡ range_with_len (from + 1) n
    rest = cc

    later_not : (q : Loaded) → Contains xs q → z.serial ≡ q.serial → ⊥
    later_not q h is =
        let r = in_range (from + 1) n q.serial (subst (λ (ns : List ℕ). Contains ns q.serial) rest (in_map serial_of xs q h)) in
        let low : from + 1 ≤ q.serial = r.0 in
        let at : z.serial ≡ from = first_is in
        omega (arith, low, is, at)

-- an object that a hart may use isn't dying
usable : (hart serial : ℕ) (o : Loaded) (doing : Doing) → use_in hart o doing ≡ present serial → (o.serial ≡ serial) × ((elim doing [ states.Dying k ↦ true | _ ↦ false ]) ≡ false)
usable hart serial o (states.Initialising h) e = (by (eqb h hart) e, refl)
  where
    by : (t : Bool) → (if t then present o.serial else stops (waits (shown.Initialising o.serial))) ≡ present serial → o.serial ≡ serial
    by true same = cc
    by false same = absurd cc
usable hart serial o states.Ready e = (let same : o.serial ≡ serial = cc in same, refl)
usable hart serial o (states.Dying h) e = absurd (by (eqb h hart) e)
  where
    by : (t : Bool) → (if t then stops (refuses (faults.ClosingHere o.path)) else stops (waits (shown.Closing o.serial))) ≡ present serial → ⊥
    by true same = absurd cc
    by false same = absurd cc

-- new objects aren't dying
records_alive : (hart : ℕ) (deep : Bool) (serial : ℕ) (os : List Arrival) (founds : List (List ℕ)) (o : Loaded) → Contains (records hart deep serial os founds) o → is_dying o ≡ false
records_alive hart deep serial [] founds o h = absurd (none_in o h)
records_alive hart deep serial (a ∷ os) [] o h = absurd (none_in o h)
records_alive hart deep serial (a ∷ os) (found ∷ founds) o h = ⊎_elim
    (λ (e : record_of hart deep serial a found ≡ o). subst (λ (q : Loaded). is_dying q ≡ false) e refl)
    (λ (i : Contains (records hart deep (serial + 1) os founds) o). records_alive hart deep (serial + 1) os founds o i)
    (first_or_later (record_of hart deep serial a found) (records hart deep (serial + 1) os founds) o h)

module _ (laws : LoadLaws) (w : Setting) (s : State) (good : Good (core s)) (hart : ℕ) (ask : OpenAsk) (name : List ℕ) (id root : ℕ) (added : List Loaded) (ranges : List Range)
    (loads : LoadsName w s hart ask name id root added ranges) where
  abbrev load : Load
  load = load_of w s hart id name loads.finds.reading

  abbrev walk : Walk
  walk = loads.finds.walk

  abbrev news : List Loaded
  news = records_of load (is_deepbind ask.flags) walk

  abbrev b : Namespace
  b = namespace_before s id

  placed : map unplaced added ≡ news
  placed = loads.storage.same ∙ loads.finds.are

  is_news : (a : Loaded) → Contains added a → Contains news (unplaced a)
  is_news a h = subst (λ (os : List Loaded). Contains os (unplaced a)) placed (in_map unplaced added a h)

  news_are : (o : Loaded) → Contains news o → (a : Loaded) × Contains added a × (a.serial ≡ o.serial)
  news_are o h =
      let at = from_map unplaced added o (subst (λ (os : List Loaded). Contains os o) (sym placed) h) in
      (at.0, at.1, ap (λ (q : Loaded). q.serial) at.2)

  as_many : length walk.arrivals ≡ length added
  as_many =
      let a : length (map serial_of news) ≡ length walk.arrivals = ap length (laws.serials load (is_deepbind ask.flags) walk) ∙ length_range s.next (length walk.arrivals) in
      sym a ∙ length-map news serial_of ∙ sym (ap length placed) ∙ length-map added unplaced

  fresh : (a : Loaded) → Contains added a → (s.next ≤ a.serial) × (a.serial < s.next + length added)
  fresh a h =
      let at : Contains (range_with_len s.next (length walk.arrivals)) a.serial =
      subst (λ (xs : List ℕ). Contains xs a.serial) (laws.serials load (is_deepbind ask.flags) walk) (in_map serial_of news (unplaced a) (is_news a h)) in
      let r = in_range s.next (length walk.arrivals) a.serial at in
      let low : s.next ≤ a.serial = r.0 in
      let high : a.serial < s.next + length walk.arrivals = r.1 in
      let same : length walk.arrivals ≡ length added = as_many in
      (low, omega (arith, high, same))

  serials_are : (os : List Loaded) → map serial_of (map unplaced os) ≡ map serial_of os
  serials_are [] = refl
  serials_are (o ∷ os) = ap (λ (ns : List ℕ). o.serial ∷ ns) (serials_are os)

  one : (a e : Loaded) → Contains added a → Contains added e → a.serial ≡ e.serial → a ≡ e
  one = ranged_one s.next (length walk.arrivals) added
      (sym (serials_are added) ∙ ap (map serial_of) placed ∙ laws.serials load (is_deepbind ask.flags) walk)

  pub added_serials : map serial_of added ≡ range_with_len s.next (length added)
  added_serials = sym (serials_are added) ∙ ap (map serial_of) placed ∙ laws.serials load (is_deepbind ask.flags) walk ∙ ap (range_with_len s.next) as_many

  stays : (d : ℕ) → Stands load (load.there ++ news) d → Stays s.closings (joined b added) d
  stays d stands = ⊎_elim
      (λ (e : d ≡ 0). inl e)
      (λ (at : (o : Loaded) × IsIn (load.there ++ news) o × (use_of hart o ≡ present d)). inr (⊎_elim
      (λ (i : Contains b.objects at.0). let may = usable hart d at.0 at.0.state at.2 in old at.0 may.0 may.1 i)
      (λ (i : Contains news at.0). new at.0 (usable hart d at.0 at.0.state at.2).0 i)
      (Contains-append_cases b.objects news at.0 (at_in (load.there ++ news) at.1.0 at.0 at.1.1))))
      stands
    where
      old : (o : Loaded) → o.serial ≡ d → is_dying o ≡ false → Contains b.objects o → Has (joined b added) d × Free s.closings d
      old o is alive i = (
        (o, Contains-append_left b.objects added o i, is),
        λ k there set.
            let home : Contains s.namespaces b = ⊎_elim
            (λ (h : Contains s.namespaces b). h)
            (λ (e : b ≡ empty_namespace id). absurd (none_in o (subst (λ (n : Namespace). Contains n.objects o) e i)))
            (before_of s id good).was in
            true≢false (sym (good.dies b o k (home, i) there (subst (Contains k.set) (sym is) set)) ∙ alive),
      )

      new : (o : Loaded) → o.serial ≡ d → Contains news o → Has (joined b added) d × Free s.closings d
      new o is i =
          let a = news_are o i in
          let serial : a.0.serial ≡ d = a.2 ∙ is in (
            (a.0, Contains-append_right b.objects added a.0 a.1, serial),
            λ k there set.
                let low : d < s.next = good.set_low k d there set in
                let from : s.next ≤ a.0.serial = (fresh a.0 a.1).0 in
                omega (arith, low, from, serial),
          )

  pub arrived : Arrived (core s) b added root
  arrived = record {
    fresh = fresh;
    one = one;
    found = λ a d h f. stays d (all_at (Stands load (load.there ++ news)) a.found d
        (all_at (λ (o : Loaded). AllByRecursion (Stands load (load.there ++ news)) o.found) news (unplaced a) (laws.founds load (is_deepbind ask.flags) walk loads.finds.brings) (is_news a h)) f);
    root_is = stays root (all_at (Stands load (load.there ++ news)) walk.found root (laws.leads load (is_deepbind ask.flags) walk loads.finds.brings) (at_in walk.found 0 root loads.finds.root_is));
    alive = λ a h. records_alive load.hart (is_deepbind ask.flags) load.next walk.arrivals (found_by load walk) (unplaced a) (is_news a h);
  }

-- the program is there, and nothing is new
pub arrived_program : (s : State) → Good (core s) → (root : ℕ) (added : List Loaded) (ranges : List Range) → OpensProgram s root added ranges → Arrived (core s) (namespace_before s 0) added root
arrived_program s good root added ranges opens = record {
  fresh = λ a h. absurd (none_in a (subst (λ (os : List Loaded). Contains os a) opens.none h));
  one = λ a e h. absurd (none_in a (subst (λ (os : List Loaded). Contains os a) opens.none h));
  found = λ a d h f. absurd (none_in a (subst (λ (os : List Loaded). Contains os a) opens.none h));
  root_is = inr ((opens.stands.object, Contains-append_left (namespace_before s 0).objects added opens.stands.object opens.stands.inside, is), free);
  alive = λ a h. absurd (none_in a (subst (λ (os : List Loaded). Contains os a) opens.none h));
}
  where
    is : opens.stands.object.serial ≡ root
    is = opens.stands.is ∙ sym opens.program

    home : Contains s.namespaces (namespace_before s 0)
    home = ⊎_elim
        (λ (h : Contains s.namespaces (namespace_before s 0)). h)
        (λ (e : namespace_before s 0 ≡ empty_namespace 0). absurd (none_in opens.stands.object (subst (λ (n : Namespace). Contains n.objects opens.stands.object) e opens.stands.inside)))
        (before_of s 0 good).was

    free : Free s.closings root
    free k there set = true≢false (sym (good.dies (namespace_before s 0) opens.stands.object k (home, opens.stands.inside) there (subst (Contains k.set) (sym is) set)) ∙ opens.stands.stays)

-- an opening, by a name or of the program: what arrives
pub arrived_by : LoadLaws → (w : Setting) (s : State) → Good (core s) → (hart : ℕ) (ask : OpenAsk) (id root : ℕ) (added : List Loaded) (ranges : List Range)
    → Opens w s hart ask id root added ranges → Arrived (core s) (namespace_before s id) added root
arrived_by laws w s good hart ask id root added ranges opens = by ask.name refl
  where
    by : (name : Option (List ℕ)) → ask.name ≡ name → Arrived (core s) (namespace_before s id) added root
    by (Some name) e = arrived laws w s good hart ask name id root added ranges (subst (λ n. OpensName w s hart ask n id root added ranges) e opens.name)
    by None e =
        let program : OpensProgram s root added ranges = subst (λ n. OpensName w s hart ask n id root added ranges) e opens.name in
        let base : id ≡ 0 = base_of ask.ns (subst (λ n. IsNamespace s ask.ns n id) e opens.asked.namespace) in
        subst (λ (n : ℕ). Arrived (core s) (namespace_before s n) added root) (sym base) (arrived_program s good root added ranges program)
      where
        base_of : (ns : Option ℕ) → IsNamespace s ns None id → id ≡ 0
        base_of (Some n) h = h.0 ∙ h.1
        base_of None h = absurd h

pub good_open : LoadLaws → (w : Setting) (s : State) (hart : ℕ) (ask : OpenAsk) (id root : ℕ) (added : List Loaded) (ranges : List Range)
    → Good (core s) → Opens w s hart ask id root added ranges → Good (core (open_done s hart ask id root added ranges))
unfolding loaded
good_open laws w s hart ask id root added ranges good opens =
    let came : Arrived (core s) (namespace_before s id) added root = arrived_by laws w s good hart ask id root added ranges opens in
    let before : Before s.namespaces id (namespace_before s id) = before_of s id good in
    good_opened (core s) good id root (is_global ask.flags) added (namespace_before s id) before came _
    (chooses (core s) good id root (is_global ask.flags) added (namespace_before s id) before came (loaded s hart ask id root added ranges) (binds s ask))
    (s.loadings ++ loading_of hart added)
