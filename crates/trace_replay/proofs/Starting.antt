-- What is left of each loading after an event.
use Rattle.std.proofs.Common.{◌≡◌, ⊎_elim, ◌⊎◌, inl, inr, ℕ, Bool, true, false, not, cond, eqb, List, [], ◌∷◌, ◌++◌, length, map, Some, None, refl, sym, ap, subst, ◌∙◌, arith}
use Rattle.std.specs.List.{Contains, flat_map, slice_get}
use Rattle.std.proofs.lemmas.Bool.{eq-eqb, eqb-true, ne_eqb, true≢false}
use Rattle.std.proofs.lemmas.List.Elements.{Contains-append_cases, Contains-append_left, Contains-append_right}
use Rattle.history_calls.specs.CallLaws.Laws.{NewEdgesSuffice}
use Rattle.history_calls.specs.Functions.{AreLeft}
use Rattle.history_calls.specs.Laws.{NextStarts, OpeningBegins, StartsStay}
use Rattle.history_event.specs.declared.event.CloseAnswer.TheVariants as closes
use Rattle.history_event.specs.declared.event.Event.{Event}
use Rattle.history_event.specs.declared.event.Event.TheVariants as events
use Rattle.history_event.specs.declared.event.OpenAnswer.TheVariants as opens
use Rattle.history_event.specs.declared.event.OpenAsk.{OpenAsk}
use Rattle.history_event.specs.declared.event.Range.{Range}
use Rattle.history_event.specs.declared.event.SymAnswer.TheVariants as syms
use Rattle.history_event.specs.declared.state.Loading.{Loading}
use Rattle.history_graph.specs.Initialised.{InitOrder, program_last}
use Rattle.history_state.specs.After.{after}
use Rattle.history_state.specs.Allowed.{Allowed, MayInitialise}
use Rattle.history_state.specs.Laws.{SerialsAreInOrder}
use Rattle.history_state.specs.Legal.{Lawful}
use Rattle.history_state.specs.Lemmas.History.{after_push}
use Rattle.history_state.specs.Lemmas.Lists.{at_in, from_filter, from_map, here, in_filter, in_map, none_in, only_in}
use Rattle.history_state.specs.Links.{IsInitNext, found_edges}
use Rattle.history_state.specs.Objects.{serial_of}
use Rattle.history_state.specs.Setting.{Machine, Setting}
use Rattle.history_state.specs.State.{State}
use Rattle.history_state.specs.Step.{die, initialise, loaded, loading_of, lower, step, unmap}
use Rattle.ld_base.specs.declared.linking.Loaded.{Loaded}
use Rattle.trace_replay.specs.Lemmas.Next.{first_is}
use Rattle.trace_replay.specs.Lists.{Lists}
use Rattle.trace_replay.specs.Opened.{Starts, starting_of}
use Rattle.trace_replay.specs.Shown.{AreStarting, IsKeptOf, IsLeftOf, IsListed}
use Rattle.trace_replay.specs.Steps.{has_some, started, starts, stepped, without_first}
use Rattle.trace_replay.specs.Taken.{OpensNothing}
use Rattle.trace_replay.proofs.Begun.{begun, of_loading}

-- ---- what an event does to the loadings

abbrev is_init : Event → Bool
is_init (events.Init hart object) = true
is_init other = false

not_init : (e : Event) → is_init e ≡ false → (h d : ℕ) → e ≡ events.Init h d → ⊥
not_init e other h d is = true≢false (sym (ap is_init is) ∙ other)

-- it leaves them as they are, and initialises none
record Stays (s : State) (l : Lists) (e : Event) : Type 0 where
  pub loadings : (step s e).loadings ≡ s.loadings
  pub starting : (stepped e l).starting ≡ l.starting
  pub other : is_init e ≡ false

record Initialises (e : Event) : Type 0 where
  pub hart : ℕ
  pub object : ℕ
  pub is : e ≡ events.Init hart object

by_event : (s : State) (l : Lists) (e : Event) → OpensNothing e → Stays s l e ⊎ Initialises e
unfolding die lower unmap initialise
by_event s l (events.Open hart ask (opens.Done id root added ranges)) none = absurd none
by_event s l (events.Open hart ask opens.Absent) none = inl (record { loadings = refl; starting = refl; other = refl })
by_event s l (events.Open hart ask (opens.Refused fault)) none = inl (record { loadings = refl; starting = refl; other = refl })
by_event s l (events.Close hart handle (closes.Done set)) none = inl (record { loadings = refl; starting = refl; other = refl })
by_event s l (events.Close hart handle (closes.Refused fault)) none = inl (record { loadings = refl; starting = refl; other = refl })
by_event s l (events.Sym hart ask (syms.Found serial index value)) none = inl (record { loadings = refl; starting = refl; other = refl })
by_event s l (events.Sym hart ask (syms.Refused fault)) none = inl (record { loadings = refl; starting = refl; other = refl })
by_event s l (events.Init hart object) none = inr (record { hart = hart; object = object; is = refl })
by_event s l e none = inl (record { loadings = refl; starting = refl; other = refl })

same_loadings : (s : State) (object : ℕ) → (initialise object s).loadings ≡ s.loadings
unfolding initialise
same_loadings s object = refl

some_left : (by d : ℕ) (rest : List ℕ) → has_some (record { hart = by; serials = d ∷ rest }) ≡ true
some_left by d rest = ap not (ne_eqb (length (d ∷ rest)) 0 (λ e. omega (arith, e)))

abbrev object_in : Event → ℕ
object_in (events.Init hart object) = object
object_in other = 0

-- ---- one event more

module _ (next_starts : NextStarts) (starts_stay : StartsStay) where
  -- the loadings that were there, where none of their objects is initialised
  left_on : (m : Machine) (w : Setting) (past : List Event) (e : Event) (loading : Loading) (rest : List ℕ) → w.machine ≡ m → Lawful m past → Allowed w past e → is_init e ≡ false
      → Contains (after past).loadings loading → AreLeft (after past) loading rest → AreLeft (after (past ++ e ∷ [])) loading rest
  left_on m w past e loading rest same lawful may other there left = starts_stay m w past e loading rest same lawful may there (λ h d is inside. not_init e other h d is) left

  kept_on : (m : Machine) (w : Setting) (past : List Event) (e : Event) (starting : List Loading) → w.machine ≡ m → Lawful m past → Allowed w past e → is_init e ≡ false
      → (step (after past) e).loadings ≡ (after past).loadings → AreStarting (after past) starting → AreStarting (after (past ++ e ∷ [])) starting
  kept_on m w past e starting same lawful may other loadings x =
      let are : (after (past ++ e ∷ [])).loadings ≡ (after past).loadings = ap (λ (s : State). s.loadings) (after_push past e) ∙ loadings in
      record {
        each = λ unready inside.
            let was : IsLeftOf (after past) unready = x.each unready inside in
            record {
              loading = was.loading;
              there = subst (λ (ls : List Loading). Contains ls was.loading) (sym are) was.there;
              by = was.by;
              left = left_on m w past e was.loading unready.serials same lawful may other was.there was.left;
            };
        every = λ loading inside.
            let before : Contains (after past).loadings loading = subst (λ (ls : List Loading). Contains ls loading) are inside in
            let was : IsKeptOf (after past) starting loading = x.every loading before in
            record { rest = was.rest; left = left_on m w past e loading was.rest same lawful may other before was.left; listed = was.listed };
      }

  module _ (m : Machine) (w : Setting) (past : List Event) (hart object : ℕ) (same : w.machine ≡ m) (lawful : Lawful m past) (may : MayInitialise (after past) hart object)
      (order : SerialsAreInOrder (after past)) where
    -- after the initialisation
    abbrev now : State
    now = after (past ++ events.Init hart object ∷ [])

    is_now : (by : ℕ) → after (past ++ events.Init by object ∷ []) ≡ now
    is_now by = after_push past (events.Init by object) ∙ sym (after_push past (events.Init hart object))

    goes_on : (loading : Loading) (rest : List ℕ) → Contains (after past).loadings loading → AreLeft (after past) loading (object ∷ rest) → AreLeft now loading rest
    goes_on loading rest there left = subst (λ (s : State). AreLeft s loading rest) (is_now loading.hart) (next_starts m w past loading object rest same lawful there left).1

    -- an object of the loading is the first that is left of it
    own_first : (loading : Loading) (rest : List ℕ) → Contains (after past).loadings loading → AreLeft (after past) loading rest → Contains loading.serials object → slice_get rest 0 ≡ Some object
    own_first loading rest there left inside =
        let of : Contains may.loading.serials object = of_loading may.loading.serials object (at_in _ may.next.place object may.next.stands) in
        let one : loading ≡ may.loading = order.loaded loading may.loading object there may.there inside of in
        first_is (after past) loading rest object left (subst (λ (l : Loading). IsInitNext (after past) l object) (sym one) may.next)

    stays_on : (loading : Loading) (rest : List ℕ) → Contains (after past).loadings loading → AreLeft (after past) loading rest → (slice_get rest 0 ≡ Some object → ⊥) → AreLeft now loading rest
    stays_on loading rest there left apart = starts_stay m w past (events.Init hart object) loading rest same lawful may there
        (λ h d is inside. apart (own_first loading rest there left (subst (Contains loading.serials) (sym (ap object_in is)) inside))) left

    loadings_are : now.loadings ≡ (after past).loadings
    loadings_are = ap (λ (s : State). s.loadings) (after_push past (events.Init hart object)) ∙ same_loadings (after past) object

    apart_if : (by d : ℕ) (rest : List ℕ) → starts object (record { hart = by; serials = d ∷ rest }) ≡ false → slice_get (d ∷ rest) 0 ≡ Some object → ⊥
    apart_if by d rest other is = let one : d ≡ object = cc in true≢false (sym (eq-eqb d object one) ∙ other)

    each_on : (starting : List Loading) → AreStarting (after past) starting → (unready : Loading) → Contains (started object starting) unready → IsLeftOf now unready
    each_on starting x unready inside =
        let kept = from_filter has_some (map (without_first object) starting) unready inside in
        let was = from_map (without_first object) starting unready kept.0 in
        subst (IsLeftOf now) was.2 (for_one was.0.hart was.0.serials (x.each was.0 was.1))
      where
        for_one : (by : ℕ) (serials : List ℕ) → IsLeftOf (after past) (record { hart = by; serials = serials }) → IsLeftOf now (without_first object (record { hart = by; serials = serials }))
        for_one by [] was = record {
          loading = was.loading;
          there = subst (λ (ls : List Loading). Contains ls was.loading) (sym loadings_are) was.there;
          by = was.by;
          left = stays_on was.loading [] was.there was.left (λ is. let d : None ≡ Some object = is in cc);
        }
        for_one by (d ∷ rest) was = at (eqb d object) refl
          where
            at : (b : Bool) → eqb d object ≡ b → IsLeftOf now (cond b (record { hart = by; serials = rest }) (record { hart = by; serials = d ∷ rest }))
            at true e = record {
              loading = was.loading;
              there = subst (λ (ls : List Loading). Contains ls was.loading) (sym loadings_are) was.there;
              by = was.by;
              left = goes_on was.loading rest was.there (subst (λ n. AreLeft (after past) was.loading (n ∷ rest)) (eqb-true d object e) was.left);
            }
            at false e = record {
              loading = was.loading;
              there = subst (λ (ls : List Loading). Contains ls was.loading) (sym loadings_are) was.there;
              by = was.by;
              left = stays_on was.loading (d ∷ rest) was.there was.left (apart_if by d rest e);
            }

    listed_on : (starting : List Loading) (by d : ℕ) (rest : List ℕ) → Contains starting (record { hart = by; serials = d ∷ rest }) → (b : Bool) → eqb d object ≡ b
        → IsListed (started object starting) by (cond b rest (d ∷ rest))
    listed_on starting by d [] inside true e = tt
    listed_on starting by d (next ∷ more) inside true e =
        in_filter has_some (map (without_first object) starting) (record { hart = by; serials = next ∷ more })
        (subst (Contains (map (without_first object) starting)) (ap (λ (t : Bool). cond t (record { hart = by; serials = next ∷ more }) (record { hart = by; serials = d ∷ next ∷ more })) e)
        (in_map (without_first object) starting (record { hart = by; serials = d ∷ next ∷ more }) inside))
        (some_left by next more)
    listed_on starting by d rest inside false e =
        in_filter has_some (map (without_first object) starting) (record { hart = by; serials = d ∷ rest })
        (subst (Contains (map (without_first object) starting)) (ap (λ (t : Bool). cond t (record { hart = by; serials = rest }) (record { hart = by; serials = d ∷ rest })) e)
        (in_map (without_first object) starting (record { hart = by; serials = d ∷ rest }) inside))
        (some_left by d rest)

    every_on : (starting : List Loading) → AreStarting (after past) starting → (loading : Loading) → Contains now.loadings loading → IsKeptOf now (started object starting) loading
    every_on starting x loading inside = by was.rest was.left was.listed
      where
        before : Contains (after past).loadings loading
        before = subst (λ (ls : List Loading). Contains ls loading) loadings_are inside

        was : IsKeptOf (after past) starting loading
        was = x.every loading before

        by : (rest : List ℕ) → AreLeft (after past) loading rest → IsListed starting loading.hart rest → IsKeptOf now (started object starting) loading
        by [] left listed = record { rest = []; left = stays_on loading [] before left (λ is. let d : None ≡ Some object = is in cc); listed = tt }
        by (d ∷ rest) left listed = at (eqb d object) refl
          where
            at : (b : Bool) → eqb d object ≡ b → IsKeptOf now (started object starting) loading
            at true e = record {
              rest = rest;
              left = goes_on loading rest before (subst (λ n. AreLeft (after past) loading (n ∷ rest)) (eqb-true d object e) left);
              listed = listed_on starting loading.hart d rest listed true e;
            }
            at false e = record {
              rest = d ∷ rest;
              left = stays_on loading (d ∷ rest) before left (apart_if loading.hart d rest e);
              listed = listed_on starting loading.hart d rest listed false e;
            }

    init_on : (starting : List Loading) → AreStarting (after past) starting → AreStarting now (started object starting)
    init_on starting x = record { each = each_on starting x; every = every_on starting x }

  -- what is left after an event that opens nothing
  pub starting_on : (m : Machine) (w : Setting) (past : List Event) (e : Event) (l : Lists) → OpensNothing e → w.machine ≡ m → Lawful m past → Allowed w past e → SerialsAreInOrder (after past)
      → AreStarting (after past) l.starting → AreStarting (after (past ++ e ∷ [])) (stepped e l).starting
  starting_on m w past e l opens same lawful may order x = ⊎_elim
      (λ (stays : Stays (after past) l e). subst (AreStarting (after (past ++ e ∷ []))) (sym stays.starting) (kept_on m w past e l.starting same lawful may stays.other stays.loadings x))
      (λ (init : Initialises e). subst (λ (f : Event). AreStarting (after (past ++ f ∷ [])) (stepped f l).starting) (sym init.is)
      (init_on m w past init.hart init.object same lawful (subst (Allowed w past) init.is may) order l.starting x))
      (by_event (after past) l e opens)

-- ---- an opening

opened_loadings : (s : State) (hart id root : ℕ) (ask : OpenAsk) (added : List Loaded) (ranges : List Range)
    → (step s (events.Open hart ask (opens.Done id root added ranges))).loadings ≡ s.loadings ++ loading_of hart added
unfolding loaded
opened_loadings s hart id root ask added ranges = refl

-- what is left of the loading that an opening begins
record IsBegun (s : State) (hart : ℕ) (order : List ℕ) (loading : Loading) : Type 0 where
  pub by : loading.hart ≡ hart
  pub left : AreLeft s loading order

module _ (suffices : NewEdgesSuffice) (begins : OpeningBegins) (starts_stay : StartsStay) where
  new_left : (m : Machine) (w : Setting) (past : List Event) (hart id root : ℕ) (ask : OpenAsk) (added : List Loaded) (ranges : List Range) (order : List ℕ) → w.machine ≡ m → Lawful m past
      → Allowed w past (events.Open hart ask (opens.Done id root added ranges)) → InitOrder (flat_map found_edges added) (program_last (Some 1) (map serial_of added)) order
      → (loading : Loading) → Contains (loading_of hart added) loading → IsBegun (after (past ++ events.Open hart ask (opens.Done id root added ranges) ∷ [])) hart order loading
  new_left m w past hart id root ask [] ranges order same lawful may ordered loading inside = absurd (none_in loading inside)
  new_left m w past hart id root ask (first ∷ rest) ranges order same lawful may ordered loading inside =
      let is : record { hart = hart; serials = map serial_of (first ∷ rest) } ≡ loading = only_in (record { hart = hart; serials = map serial_of (first ∷ rest) }) loading inside in
      subst (IsBegun (after (past ++ events.Open hart ask (opens.Done id root (first ∷ rest) ranges) ∷ [])) hart order) is
      (record { by = refl; left = begun suffices begins m w past hart id root ask first rest ranges order same lawful may ordered })

  new_there : (hart : ℕ) (added : List Loaded) (order : List ℕ) (d : ℕ) → InitOrder (flat_map found_edges added) (program_last (Some 1) (map serial_of added)) order
      → slice_get order 0 ≡ Some d → (loading : Loading) × Contains (loading_of hart added) loading
  new_there hart [] order d ordered at = absurd (let next = ordered.each 0 d at in let e : None ≡ Some d = next.stands in cc)
  new_there hart (first ∷ rest) order d ordered at = (record { hart = hart; serials = map serial_of (first ∷ rest) }, here _ [])

  module _ (m : Machine) (w : Setting) (past : List Event) (hart id root : ℕ) (ask : OpenAsk) (added : List Loaded) (ranges : List Range) (order : List ℕ) (same : w.machine ≡ m)
      (lawful : Lawful m past) (may : Allowed w past (events.Open hart ask (opens.Done id root added ranges)))
      (ordered : InitOrder (flat_map found_edges added) (program_last (Some 1) (map serial_of added)) order) where
    abbrev opened : State
    opened = after (past ++ events.Open hart ask (opens.Done id root added ranges) ∷ [])

    loadings_now : opened.loadings ≡ (after past).loadings ++ loading_of hart added
    loadings_now = ap (λ (s : State). s.loadings) (after_push past (events.Open hart ask (opens.Done id root added ranges))) ∙ opened_loadings (after past) hart id root ask added ranges

    still : (loading : Loading) (rest : List ℕ) → Contains (after past).loadings loading → AreLeft (after past) loading rest → AreLeft opened loading rest
    still loading rest there left = starts_stay m w past (events.Open hart ask (opens.Done id root added ranges)) loading rest same lawful may there
        (λ h d is inside. not_init (events.Open hart ask (opens.Done id root added ranges)) refl h d is) left

    there_now : (loading : Loading) → Contains ((after past).loadings ++ loading_of hart added) loading → Contains opened.loadings loading
    there_now loading inside = subst (λ (ls : List Loading). Contains ls loading) (sym loadings_now) inside

    each_old : (unready : Loading) → IsLeftOf (after past) unready → IsLeftOf opened unready
    each_old unready was = record {
      loading = was.loading;
      there = there_now was.loading (Contains-append_left (after past).loadings (loading_of hart added) was.loading was.there);
      by = was.by;
      left = still was.loading unready.serials was.there was.left;
    }

    each_new : (left : List ℕ) → order ≡ left → (unready : Loading) → Contains (starting_of hart left) unready → IsLeftOf opened unready
    each_new [] is unready inside = absurd (none_in unready inside)
    each_new (d ∷ rest) is unready inside =
        let loading = new_there hart added order d ordered (ap (λ (ds : List ℕ). slice_get ds 0) is) in
        let begins_now : IsBegun opened hart order loading.0 = new_left m w past hart id root ask added ranges order same lawful may ordered loading.0 loading.1 in
        subst (IsLeftOf opened) (only_in (record { hart = hart; serials = d ∷ rest }) unready inside) (record {
          loading = loading.0;
          there = there_now loading.0 (Contains-append_right (after past).loadings (loading_of hart added) loading.0 loading.1);
          by = begins_now.by;
          left = subst (AreLeft opened loading.0) is begins_now.left;
        })

    listed_more : (old : List Loading) (by : ℕ) (rest : List ℕ) → IsListed old by rest → IsListed (old ++ starting_of hart order) by rest
    listed_more old by [] listed = tt
    listed_more old by (d ∷ rest) listed = Contains-append_left old (starting_of hart order) (record { hart = by; serials = d ∷ rest }) listed

    listed_new : (old : List Loading) (left : List ℕ) → order ≡ left → IsListed (old ++ starting_of hart order) hart left
    listed_new old [] is = tt
    listed_new old (d ∷ rest) is = subst (λ (ds : List ℕ). Contains (old ++ starting_of hart ds) (record { hart = hart; serials = d ∷ rest })) (sym is)
        (Contains-append_right old (starting_of hart (d ∷ rest)) (record { hart = hart; serials = d ∷ rest }) (here _ []))

    every_now : (old : List Loading) → AreStarting (after past) old → (loading : Loading) → Contains opened.loadings loading → IsKeptOf opened (old ++ starting_of hart order) loading
    every_now old x loading inside = ⊎_elim
        (λ (before : Contains (after past).loadings loading).
        let was : IsKeptOf (after past) old loading = x.every loading before in
        record { rest = was.rest; left = still loading was.rest before was.left; listed = listed_more old loading.hart was.rest was.listed })
        (λ (new : Contains (loading_of hart added) loading).
        let begins_now : IsBegun opened hart order loading = new_left m w past hart id root ask added ranges order same lawful may ordered loading new in
        record { rest = order; left = begins_now.left; listed = subst (λ by. IsListed (old ++ starting_of hart order) by order) (sym begins_now.by) (listed_new old order refl) })
        (Contains-append_cases (after past).loadings (loading_of hart added) loading (subst (λ (ls : List Loading). Contains ls loading) loadings_now inside))

    opened_on : (old : List Loading) → AreStarting (after past) old → AreStarting opened (old ++ starting_of hart order)
    opened_on old x = record {
      each = λ unready inside. ⊎_elim
          (λ (before : Contains old unready). each_old unready (x.each unready before))
          (λ (new : Contains (starting_of hart order) unready). each_new order refl unready new)
          (Contains-append_cases old (starting_of hart order) unready inside);
      every = every_now old x;
    }

  -- what is left after an opening
  pub starting_opened : (m : Machine) (w : Setting) (past : List Event) (hart id root : ℕ) (ask : OpenAsk) (added : List Loaded) (ranges : List Range) (old new : List Loading) → w.machine ≡ m
      → Lawful m past → Allowed w past (events.Open hart ask (opens.Done id root added ranges)) → AreStarting (after past) old → Starts hart added old new
      → AreStarting (after (past ++ events.Open hart ask (opens.Done id root added ranges) ∷ [])) new
  starting_opened m w past hart id root ask added ranges old new same lawful may x starts =
      subst (AreStarting (after (past ++ events.Open hart ask (opens.Done id root added ranges) ∷ []))) (sym starts.is)
      (opened_on m w past hart id root ask added ranges starts.order same lawful may starts.ordered old x)
