-- Each opening has an answer once its load comes to an end, and one that nothing refuses opens.
use Rattle.std.proofs.Common.{◌≡◌, ◌⊎◌, inl, inr, ⊎_elim, ℕ, ◌+◌, ◌<◌, ◌≤◌, ◌==◌, Bool, true, false, not, List, [], ◌∷◌, map, length, Option, Some, None, refl, sym, ap, subst, ◌∙◌, arith}
use Rattle.std.specs.List.{slice_get}
use Rattle.std.proofs.lemmas.Bool.{eq-eqb, eqb-true, not-true, true≢false}
use Rattle.ld_base.specs.declared.fault.DlFault.{DlFault}
use Rattle.ld_base.specs.declared.fault.DlFault.TheVariants as faults
use Rattle.ld_base.specs.declared.linking.Loaded.{Loaded}
use Rattle.history_event.specs.declared.event.Event.{Event}
use Rattle.history_event.specs.declared.event.Event.TheVariants as events
use Rattle.history_event.specs.declared.event.OpenAnswer.TheVariants as openings
use Rattle.history_event.specs.declared.event.OpenAsk.{OpenAsk}
use Rattle.history_event.specs.declared.event.Range.{Range}
use Rattle.scope_rule.specs.declared.arrival.Arrival.{Arrival}
use Rattle.scope_rule.specs.Finding.{absent}
use Rattle.scope_rule.specs.Load.{Brings, Found, IsRoot, Stop, Stops, Walk, asks, find_opened, found_by, fresh, nowhere, present, record_of, records, records_of, refuses, stops, waits}
use Rattle.scope_rule.specs.Needed.{version_fault}
use Rattle.history_state.specs.State.{State}
use Rattle.history_state.specs.After.{after}
use Rattle.history_state.specs.Areas.{AreGiven, LacksRoom, free_pages, other_areas}
use Rattle.history_state.specs.Asking.{AreNamespacesFull, HasName, IsAsked, IsBadNamespace, IsNamespace, MayAsk, asks_too_long, new_namespace}
use Rattle.history_state.specs.Flags.{are_flags, is_deepbind, is_noload}
use Rattle.history_state.specs.Legal.{Lawful}
use Rattle.history_state.specs.Objects.{has_namespace, is_startup}
use Rattle.history_state.specs.Opening.{ArePlaced, Finds, HasNoPages, HaveStorage, IsNamed, IsNowhere, IsUnrelocated, Opens, OpensName, Refuses, refused, there, unplaced, wanted}
use Rattle.history_state.specs.Opening.Refuses.{bad_flags, bad_namespace, has_no_pages, lacks_version, name_too_long, namespaces_full, stopped, unrelocated}
use Rattle.history_state.specs.Setting.{Machine, Setting, load_of}
use Rattle.history_state.specs.Storage.{statics_with}
use Rattle.history_state.specs.Lemmas.Brought.{LoadLaws}
use Rattle.history_state.specs.Lemmas.ProgramStays.{program_stays}
use Rattle.history_calls.specs.Answer.{again, loading, returns}
use Rattle.history_calls.specs.Answer.{refused as is_refused}
use Rattle.history_calls.specs.Call.{opens}
use Rattle.history_calls.specs.Complete.{ComesToEnd, FitsOpening, HasAnswer}
use Rattle.history_calls.specs.Gives.EventAnswers.{is_absent, is_loaded, is_not_opened, is_there}
use Rattle.history_calls.specs.Gives.Gives.{by_event, to_again}
use Rattle.history_calls.specs.Waiting.Shows.{by_load}
use Rattle.history_calls.specs.Lemmas.Opened.{same_wanted}
use Rattle.history_calls.proofs.Placing.{are_based, based, based_modules, based_same, based_unplaced, given_or_lacks, have_modules, least_below}

-- ---- the namespace

-- an opening's namespace is there or is given, is none, or can't be given
abbrev Asked : State → Option ℕ → Option (List ℕ) → Type 0
Asked s ns name = ((id : ℕ) × IsNamespace s ns name id) ⊎ (((number : ℕ) × IsBadNamespace s ns name number) ⊎ AreNamespacesFull s ns name)

asked : (s : State) (ns : Option ℕ) (name : Option (List ℕ)) → Asked s ns name
asked s (Some n) (Some name) = by (has_namespace s n) refl
  where
    by : (t : Bool) → has_namespace s n ≡ t → Asked s (Some n) (Some name)
    by true e = inl (n, (refl, e))
    by false e = inr (inl (n, (refl, e)))
asked s (Some n) None = by (n == 0) refl
  where
    by : (t : Bool) → (n == 0) ≡ t → Asked s (Some n) None
    by true e = inl (n, (refl, eqb-true n 0 e))
    by false e = inr (inl (n, (refl, λ same. true≢false (sym (eq-eqb n 0 same) ∙ e))))
asked s None (Some name) = ⊎_elim
    (λ (found : (a : ℕ) × (a < 16) × ((not (has_namespace s a) ≡ true) × ((x : ℕ) → x < a → not (has_namespace s x) ≡ false))).
    inl (found.0, record { free = not-true (has_namespace s found.0) found.2.0; below = found.1; least = λ other less. not_not (has_namespace s other) (found.2.1 other less) }))
    (λ (none : (x : ℕ) → x < 16 → not (has_namespace s x) ≡ false). inr (inr (λ id below. not_not (has_namespace s id) (none id below))))
    (least_below (λ x. not (has_namespace s x)) 16)
  where
    not_not : (b : Bool) → not b ≡ false → b ≡ true
    not_not true e = refl
    not_not false e = absurd (true≢false e)
asked s None None = inr (inl (new_namespace, refl))

-- ---- answers

module _ (w : Setting) (past : List Event) (h : ℕ) (ask : OpenAsk) (may : MayAsk (after past) h ask) where
  refusing : (fault : DlFault) → Refuses w (after past) h ask fault → HasAnswer w past h (opens ask)
  refusing fault why = record {
    given = events.Open h ask (openings.Refused fault) ∷ [];
    answer = is_refused fault;
    gives = by_event (opens ask) _ _ (is_not_opened ask fault) (record { may = may; refuses = why });
    ample = refl;
  }

  opening : (id root : ℕ) (added : List Loaded) (ranges : List Range) → Opens w (after past) h ask id root added ranges → HasAnswer w past h (opens ask)
  opening id root [] ranges all = record {
    given = events.Open h ask (openings.Done id root [] ranges) ∷ [];
    answer = returns root;
    gives = by_event (opens ask) _ _ (is_there ask id root ranges) all;
    ample = refl;
  }
  opening id root (o ∷ rest) ranges all = record {
    given = events.Open h ask (openings.Done id root (o ∷ rest) ranges) ∷ [];
    answer = loading root (o ∷ rest);
    gives = by_event (opens ask) _ _ (is_loaded ask id root o rest ranges) all;
    ample = refl;
  }

-- ---- the stages after names are found

-- records of new objects aren't placed
records_plain : (hart : ℕ) (deep : Bool) (serial : ℕ) (os : List Arrival) (founds : List (List ℕ)) → map unplaced (records hart deep serial os founds) ≡ records hart deep serial os founds
records_plain hart deep serial [] founds = refl
records_plain hart deep serial (a ∷ os) [] = refl
records_plain hart deep serial (a ∷ os) (found ∷ founds) = ap (λ qs. record_of hart deep serial a found ∷ qs) (records_plain hart deep (serial + 1) os founds)

module _ (w : Setting) (s : State) (h : ℕ) (ask : OpenAsk) (name : List ℕ) (id : ℕ) where
  news_plain : (root : ℕ) (news : List Loaded) → Finds w s h ask name id root news → map unplaced news ≡ news
  news_plain root news finds =
      subst (λ (os : List Loaded). map unplaced os ≡ os) (sym finds.are)
      (records_plain h (is_deepbind ask.flags) s.next finds.walk.arrivals (found_by (load_of w s h id name finds.reading) finds.walk))

  -- what comes of names that are all found, and whose versions are there
  abbrev Placing : IsNamed s ask name id → ℕ → Type 0
  Placing named root = ((added : List Loaded) × (ranges : List Range) × Opens w s h ask id root added ranges)
      ⊎ (((pages : ℕ) × HasNoPages w s h ask name id pages) ⊎ ((fault : DlFault) × IsUnrelocated w s h ask name id fault))

  placing : MayAsk s h ask → (named : IsNamed s ask name id) → (root : ℕ) (news : List Loaded) → Finds w s h ask name id root news → version_fault (there s id) news ≡ None → Placing named root
  placing may named root news finds versions =
      let have = have_modules (is_startup s) s.modules s.statics news (news_plain root news finds) in
      ⊎_elim
      (λ (g : (ranges : List Range) × (left : List ℕ) × AreGiven (free_pages s.ranges) (wanted w s have.0) ranges left).
      let same : map unbased_of (based have.0 g.0) ≡ map unbased_of have.0 = based_same have.0 g.0 in
      let room : AreGiven (free_pages s.ranges) (wanted w s (based have.0 g.0)) g.0 g.1 =
      subst (λ (areas : _). AreGiven (free_pages s.ranges) areas g.0 g.1) (sym (same_wanted w s (based have.0 g.0) have.0 same)) g.2 in
      related (based have.0 g.0) g.0
      (record { same = based_unplaced have.0 g.0 ∙ have.1; modules = based_modules (is_startup s) s.modules s.statics have.0 g.0 have.2 })
      (record { left = g.1; given = room; based = are_based (free_pages s.ranges) have.0 (other_areas (is_startup s) (statics_with have.0 s.statics) w.machine.harts have.0) g.0 g.1 g.2 })
      (refused s h ask id root (based have.0 g.0) g.0) refl)
      (λ (l : (pages : ℕ) × LacksRoom (free_pages s.ranges) (wanted w s have.0) pages).
      inr (inl (l.0, record { named = named; root = root; news = news; finds = finds; versions = versions; added = have.0; storage = record { same = have.1; modules = have.2 }; lacks = l.1 })))
      (given_or_lacks (free_pages s.ranges) (wanted w s have.0))
    where
      unbased_of : Loaded → Loaded
      unbased_of o = record o { base = 0 }

      related : (added : List Loaded) (ranges : List Range) → HaveStorage s news added → ArePlaced w s added ranges → (fault : Option DlFault) → refused s h ask id root added ranges ≡ fault → Placing named root
      related added ranges storage placed None e = inl (
        added,
        ranges,
        record {
          may = may;
          asked = named.asked;
          name = subst (λ (n : Option (List ℕ)). OpensName w s h ask n id root added ranges) (sym named.named)
              (record { news = news; finds = finds; versions = versions; storage = storage; placed = placed; relocated = e });
        },
      )
      related added ranges storage placed (Some fault) e = inr (inr (
        fault,
        record {
          named = named;
          root = root;
          news = news;
          finds = finds;
          versions = versions;
          added = added;
          storage = storage;
          ranges = ranges;
          placed = placed;
          is = e;
        },
      ))

pub opens_unless : (w : Setting) (past : List Event) (h : ℕ) (ask : OpenAsk) (name : List ℕ) (id root : ℕ) (news : List Loaded) → MayAsk (after past) h ask → IsNamed (after past) ask name id
    → Finds w (after past) h ask name id root news → version_fault (there (after past) id) news ≡ None → ((pages : ℕ) → ¬ (HasNoPages w (after past) h ask name id pages))
    → ((fault : DlFault) → ¬ (IsUnrelocated w (after past) h ask name id fault)) → (added : List Loaded) × (ranges : List Range) × Opens w (after past) h ask id root added ranges
opens_unless w past h ask name id root news may named finds versions room related = ⊎_elim
    (λ (all : (added : List Loaded) × (ranges : List Range) × Opens w (after past) h ask id root added ranges). all)
    (λ (not_all : ((pages : ℕ) × HasNoPages w (after past) h ask name id pages) ⊎ ((fault : DlFault) × IsUnrelocated w (after past) h ask name id fault)). ⊎_elim
    (λ (full : (pages : ℕ) × HasNoPages w (after past) h ask name id pages). absurd (room full.0 full.1))
    (λ (bad : (fault : DlFault) × IsUnrelocated w (after past) h ask name id fault). absurd (related bad.0 bad.1))
    not_all)
    (placing w (after past) h ask name id may named root news finds versions)

-- ---- a name

module _ (w : Setting) (past : List Event) (h : ℕ) (ask : OpenAsk) (may : MayAsk (after past) h ask) (name : List ℕ) (id : ℕ) (named : IsNamed (after past) ask name id) where
  abbrev s : State
  s = after past

  found_some : (w : Walk) (names : List (List ℕ)) → 1 ≤ length names → length names ≤ length w.found → (root : ℕ) × IsRoot w root
  found_some w names some all = by w.found refl
    where
      by : (found : List ℕ) → w.found ≡ found → (root : ℕ) × IsRoot w root
      by [] e = absurd (let none : length w.found ≡ 0 = ap (λ (xs : List ℕ). length xs) e in omega (arith, some, all, none))
      by (root ∷ rest) e = (root, ap (λ (xs : List ℕ). slice_get xs 0) e)

  asks_some : (load : _) (arrivals : List Arrival) → 1 ≤ length (asks load arrivals)
  asks_some load [] = omega arith
  asks_some load (o ∷ rest) = omega arith

  versions_of : (root : ℕ) (news : List Loaded) → Finds w s h ask name id root news → (fault : Option DlFault) → version_fault (there s id) news ≡ fault → HasAnswer w past h (opens ask)
  versions_of root news finds (Some fault) e = refusing w past h ask may fault (lacks_version name id fault (record { named = named; root = root; news = news; finds = finds; lacks = e }))
  versions_of root news finds None e = ⊎_elim
      (λ (all : (added : List Loaded) × (ranges : List Range) × Opens w s h ask id root added ranges). opening w past h ask may id root all.0 all.1 all.2)
      (λ (not_all : ((pages : ℕ) × HasNoPages w s h ask name id pages) ⊎ ((fault : DlFault) × IsUnrelocated w s h ask name id fault)). ⊎_elim
      (λ (full : (pages : ℕ) × HasNoPages w s h ask name id pages). refusing w past h ask may (faults.AddressSpaceFull full.0) (has_no_pages name id full.0 full.1))
      (λ (bad : (fault : DlFault) × IsUnrelocated w s h ask name id fault). refusing w past h ask may bad.0 (unrelocated name id bad.0 bad.1))
      not_all)
      (placing w s h ask name id may named root news finds e)

  -- whether the name leads to nothing that is there, under RTLD_NOLOAD
  is_nowhere : (found : Found) → (found ≡ nowhere) ⊎ (found ≡ nowhere → ⊥)
  is_nowhere (present serial) = inr (λ e. cc)
  is_nowhere (fresh o) = inr (λ e. cc)
  is_nowhere nowhere = inl refl
  is_nowhere (stops why) = inr (λ e. cc)

  lost : ((IsNowhere w s h ask name id)) ⊎ ¬ (IsNowhere w s h ask name id)
  lost = by (is_noload ask.flags) refl (is_nowhere (find_opened (load_of w s h id name (λ path. absent)) [] name))
    where
      by : (t : Bool) → is_noload ask.flags ≡ t → (find_opened (load_of w s h id name (λ path. absent)) [] name ≡ nowhere) ⊎ (find_opened (load_of w s h id name (λ path. absent)) [] name ≡ nowhere → ⊥)
          → (IsNowhere w s h ask name id) ⊎ ¬ (IsNowhere w s h ask name id)
      by true e (inl none) = inl (record { noload = e; none = none })
      by true e (inr some) = inr (λ n. some n.none)
      by false e d = inr (λ n. true≢false (sym n.noload ∙ e))

  named_answered : ComesToEnd w s h ask name id → HasAnswer w past h (opens ask)
  named_answered ends = by ends.comes
    where
      stop_by : (stop : Stop) → Stops (load_of w s h id name ends.reading) stop → HasAnswer w past h (opens ask)
      stop_by (waits for) is = record {
        given = [];
        answer = again for;
        gives = to_again (opens ask) for (by_load ask for (record { name = name; id = id; named = named; reading = ends.reading; read = ends.read; stops = is }));
        ample = refl;
      }
      stop_by (refuses fault) is = ⊎_elim
          (λ (none : IsNowhere w s h ask name id). record {
            given = events.Open h ask openings.Absent ∷ [];
            answer = returns 0;
            gives = by_event (opens ask) _ _ (is_absent ask) (record { may = may; id = id; asked = named.asked; name = name; named = named.named; nowhere = none });
            ample = refl;
          })
          (λ (some : ¬ (IsNowhere w s h ask name id)).
          refusing w past h ask may fault (stopped name id fault (record { named = named; reading = ends.reading; read = ends.read; loads = some; stops = is })))
          lost

      by : ((walk : Walk) × Brings (load_of w s h id name ends.reading) walk) ⊎ ((stop : Stop) × Stops (load_of w s h id name ends.reading) stop) → HasAnswer w past h (opens ask)
      by (inl found) =
          let load = load_of w s h id name ends.reading in
          let root = found_some found.0 (asks load found.0.arrivals) (asks_some load found.0.arrivals) found.1.all in
          versions_of root.0 (records_of load (is_deepbind ask.flags) found.0)
          (record { reading = ends.reading; read = ends.read; walk = found.0; brings = found.1; root_is = root.1; are = refl }) (version_fault (there s id) (records_of load (is_deepbind ask.flags) found.0)) refl
      by (inr stop) = stop_by stop.0 stop.1

-- ---- an opening

pub opens_answered : LoadLaws → (m : Machine) (w : Setting) (past : List Event) (h : ℕ) (ask : OpenAsk) → Lawful m past → FitsOpening w (after past) h ask → HasAnswer w past h (opens ask)
opens_answered laws m w past h ask lawful fits = by (asks_too_long (after past) ask.name) refl
  where
    long : (name : Option (List ℕ)) → ask.name ≡ name → asks_too_long (after past) name ≡ true → HasAnswer w past h (opens ask)
    long None e t = absurd (true≢false (sym t))
    long (Some name) e t =
        let is_long : asks_too_long (after past) ask.name ≡ true = ap (asks_too_long (after past)) e ∙ t in
        refusing w past h ask fits.may faults.NameTooLong (name_too_long name e (fits.known name e is_long) is_long)

    null : ask.name ≡ None → (id : ℕ) → IsAsked (after past) ask id → (ns : Option ℕ) → IsNamespace (after past) ns None id → HasAnswer w past h (opens ask)
    null e id all None none = absurd none
    null e id all (Some n) base = opening w past h ask fits.may id 1 [] [] (record {
      may = fits.may;
      asked = all;
      name = subst (λ (n : Option (List ℕ)). OpensName w (after past) h ask n id 1 [] []) (sym e)
          (record { program = refl; none = refl; no_pages = refl; stands = program_stays laws m past lawful (later (is_startup (after past)) refl) });
    })
      where
        later : (t : Bool) → is_startup (after past) ≡ t → is_startup (after past) ≡ false
        later true startup = absurd (subst HasName e (fits.may startup).named)
        later false startup = startup

    spaced : asks_too_long (after past) ask.name ≡ false → are_flags ask.flags ≡ true → Asked (after past) ask.ns ask.name → HasAnswer w past h (opens ask)
    spaced short flags (inl at) = named_or_null ask.name refl
      where
        all : IsAsked (after past) ask at.0
        all = record { short = short; flags = flags; namespace = at.1 }

        named_or_null : (name : Option (List ℕ)) → ask.name ≡ name → HasAnswer w past h (opens ask)
        named_or_null None e = null e at.0 all ask.ns (subst (λ (n : Option (List ℕ)). IsNamespace (after past) ask.ns n at.0) e at.1)
        named_or_null (Some name) e =
            let named : IsNamed (after past) ask name at.0 = record { asked = all; named = e } in
            named_answered w past h ask fits.may name at.0 named (fits.comes name at.0 named)
    spaced short flags (inr (inl bad)) = refusing w past h ask fits.may (faults.BadNamespace bad.0) (bad_namespace bad.0 short flags bad.1)
    spaced short flags (inr (inr full)) = refusing w past h ask fits.may faults.NamespacesFull (namespaces_full short flags full)

    flagged : asks_too_long (after past) ask.name ≡ false → (t : Bool) → are_flags ask.flags ≡ t → HasAnswer w past h (opens ask)
    flagged short false e = refusing w past h ask fits.may (faults.BadFlags ask.flags) (bad_flags short e)
    flagged short true e = spaced short e (asked (after past) ask.ns ask.name)

    by : (t : Bool) → asks_too_long (after past) ask.name ≡ t → HasAnswer w past h (opens ask)
    by true e = long ask.name refl e
    by false e = flagged e (are_flags ask.flags) refl
