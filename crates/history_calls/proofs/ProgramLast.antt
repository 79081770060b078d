-- Startup's order ends with the program: it leads to each object that is loaded with it, so that whichever of them isn't done may start before it.
use Rattle.std.proofs.Common.{◌≡◌, ◌≢◌, ⊎_elim, ℕ, zero, suc, ◌+◌, ◌<◌, ◌≤◌, Bool, true, false, not, cond, nat_le, eqb, List, [], ◌∷◌, ◌++◌}
use Rattle.std.proofs.Common.{map, take, length, Option, Some, None}
use Rattle.std.proofs.Common.{refl, sym, ap, subst, ◌∙◌, arith}
use Rattle.std.specs.Prelude.{if◌then◌else◌}
use Rattle.std.specs.List.{Contains, filter, flat_map, slice_get}
use Rattle.std.proofs.lemmas.Bool.{eq-eqb, eqb-true, true≢false}
use Rattle.std.proofs.lemmas.List.{append-nil}
use Rattle.std.proofs.lemmas.List.Elements.{Contains-append_cases, Contains-append_left, Contains-append_right}
use Rattle.std.proofs.lemmas.Option.{none-some}
use Rattle.ld_base.specs.declared.linking.Loaded.{Loaded}
use Rattle.history_event.specs.declared.event.Event.{Event}
use Rattle.history_event.specs.declared.handed.Function.{Function}
use Rattle.history_graph.specs.declared.graph.Edge.{Edge}
use Rattle.history_graph.specs.Initialised.{InitOrder, Reaches, program_last}
use Rattle.history_graph.specs.Reached.{Reached, on, root}
use Rattle.history_calls.specs.declared.link_served.startup.Setup.{Setup}
use Rattle.history_calls.specs.declared.link_served.startup.Started.{Started}
use Rattle.scope_rule.specs.Breadth.{breadth, first_kept, level, levels, without}
use Rattle.scope_rule.specs.Load.{Brings, IsRoot, Load, Walk, records_of}
use Rattle.scope_rule.specs.Loading.{found_of, object_of as object_in}
use Rattle.scope_rule.specs.Loads.{Closed, new_of}
use Rattle.scope_rule.specs.Seen.{Seen, with_added}
use Rattle.scope_rule.specs.declared.namespace.Namespace.{Namespace}
use Rattle.history_state.specs.After.{after, after_from}
use Rattle.history_state.specs.Links.{found_edges}
use Rattle.history_state.specs.Objects.{mapped, serial_of}
use Rattle.history_state.specs.Flags.{is_deepbind}
use Rattle.history_state.specs.Opening.{Loads, unplaced}
use Rattle.history_state.specs.Setting.{Setting, load_of}
use Rattle.history_state.specs.State.{State, empty_state}
use Rattle.history_state.specs.Step.{loaded, step}
use Rattle.history_state.specs.Lemmas.Lists.{at_in, first_or_later, found_in, from_filter, from_flat, here, in_filter, in_flat, in_map, later}
use Rattle.history_state.specs.Lemmas.Lists.{none_in, only_in}
use Rattle.history_calls.specs.Functions.{object_of, preceded}
use Rattle.history_calls.specs.OpeningLaws.{ProgramIsLast}
use Rattle.history_calls.specs.Startup.{FindHarts, Starts, found_at, opening, program_ask}

-- ---- places

at_place : {X : Type 0} (xs : List X) (x : X) → Contains xs x → (k : ℕ) × (slice_get xs k ≡ Some x)
at_place [] x there = absurd (none_in x there)
at_place {X} (y ∷ xs) x there = ⊎_elim
    (λ (is : y ≡ x). (0, ap (λ (z : X). Some z) is))
    (λ (i : Contains xs x). let more = at_place xs x i in (suc more.0, more.1))
    (first_or_later y xs x there)

in_take : {X : Type 0} (xs : List X) (k : ℕ) (x : X) → slice_get xs k ≡ Some x → Contains (take (suc k) xs) x
in_take [] k x at = absurd (none-some x at)
in_take {X} (y ∷ xs) zero x at = let same : y ≡ x = cc in subst (λ (z : X). Contains (y ∷ []) z) same (here y [])
in_take (y ∷ xs) (suc k) x at = later y (take (suc k) xs) x (in_take xs k x at)

take_in : {X : Type 0} (xs : List X) (k : ℕ) (x : X) → Contains (take k xs) x → Contains (take (suc k) xs) x
take_in xs zero x there = absurd (none_in x there)
take_in [] (suc k) x there = there
take_in {X} (y ∷ xs) (suc k) x there = ⊎_elim
    (λ (is : y ≡ x). subst (λ (z : X). Contains (y ∷ take (suc k) xs) z) is (here y (take (suc k) xs)))
    (λ (i : Contains (take k xs) x). later y (take (suc k) xs) x (take_in xs k x i))
    (first_or_later y (take k xs) x there)

-- what isn't in the second list stands in the first, and what isn't in the first behind it
in_first : (xs ys : List ℕ) (k d : ℕ) → slice_get (xs ++ ys) k ≡ Some d → ¬ (Contains ys d) → k < length xs
in_first [] ys k d at out = absurd (out (at_in ys k d at))
in_first (x ∷ xs) ys zero d at out = omega arith
in_first (x ∷ xs) ys (suc k) d at out = let less = in_first xs ys k d at out in omega (arith, less)

past_first : (xs ys : List ℕ) (k d : ℕ) → slice_get (xs ++ ys) k ≡ Some d → ¬ (Contains xs d) → length xs ≤ k
past_first [] ys k d at out = omega arith
past_first (x ∷ xs) ys zero d at out =
    let same : x ≡ d = cc in
    absurd (out (subst (λ (z : ℕ). Contains (x ∷ xs) z) same (here x xs)))
past_first (x ∷ xs) ys (suc k) d at out = let most = past_first xs ys k d at (λ there. out (later x xs d there)) in omega (arith, most)

-- ---- the order

joined : (edges : List Edge) (o d e : ℕ) → Reaches edges o d → Reaches edges d e → Reaches edges o e
joined edges o d e first (root there) = subst (Reached edges (o ∷ [])) (only_in d e there) first
joined edges o d e first (on step there more) = on step there (joined edges o d step.source first more)

abbrev others : List ℕ → List ℕ
others news = filter (λ o. not (eqb o 1)) news

abbrev programs : List ℕ → List ℕ
programs news = filter (λ o. eqb o 1) news

module _ (edges : List Edge) (news order : List ℕ) (is : InitOrder edges (program_last (Some 1) news) order) (leads : (d : ℕ) → Contains news d
    → Reaches edges 1 d) where
  of_news : (d : ℕ) → Contains (program_last (Some 1) news) d → Contains news d
  of_news d there = ⊎_elim
      (λ (i : Contains (others news) d). (from_filter (λ o. not (eqb o 1)) news d i).0)
      (λ (i : Contains (programs news) d). (from_filter (λ o. eqb o 1) news d i).0)
      (Contains-append_cases (others news) (programs news) d there)

  not_program : ¬ (Contains (others news) 1)
  not_program there = true≢false (sym (from_filter (λ o. not (eqb o 1)) news 1 there).1)

  is_program : (d : ℕ) → Contains (programs news) d → d ≡ 1
  is_program d there = eqb-true d 1 (from_filter (λ o. eqb o 1) news d there).1

  -- behind the program nothing is left
  nothing_behind : (k e : ℕ) → slice_get order k ≡ Some 1 → slice_get order (suc k) ≡ Some e → ⊥
  nothing_behind k e at behind =
      let program = is.each k 1 at in
      let next = is.each (suc k) e behind in
      let e_new : Contains (program_last (Some 1) news) e = at_in (program_last (Some 1) news) next.place e next.stands in
      let other : e ≢ 1 = λ same. next.may.undone (subst (Contains (take (suc k) order)) (sym same) (in_take order k 1 at)) in
      let front : next.place < length (others news) = in_first (others news) (programs news) next.place e next.stands (λ there. other (is_program e there)) in
      let last : length (others news) ≤ program.place = past_first (others news) (programs news) program.place 1 program.stands not_program in
      let leads_e : Reaches edges 1 e = leads e (of_news e e_new) in
      program.first next.place e (omega (arith, front, last)) next.stands (record {
        undone = λ there. next.may.undone (take_in order k e there);
        ready = λ d there strict. program.may.ready d there (
          leads d (of_news d there),
          (λ back. strict.1 (joined edges d 1 e back leads_e)),
        );
      })

-- ---- functions

last_of : (functions : List Function) (k : ℕ) → slice_get (map object_of functions) k ≡ Some 1 → ((e : ℕ)
    → slice_get (map object_of functions) (suc k) ≡ Some e → ⊥)
    → (front : List Function) × (last : Function) × (functions ≡ front ++ last ∷ []) × (last.object ≡ 1)
last_of [] k at none = absurd (none-some 1 at)
last_of (f ∷ []) zero at none = ([], f, refl, (let same : f.object ≡ 1 = cc in same))
last_of (f ∷ (g ∷ rest)) zero at none = absurd (none g.object refl)
last_of (f ∷ rest) (suc k) at none = let more = last_of rest k at none in (f ∷ more.0, more.1, ap (λ (fs : List Function). f ∷ fs) more.2, more.3)

abbrev EndsWithProgram : List Function → Type 0
EndsWithProgram functions = (front : List Function) × (last : Function) × (functions ≡ front ++ last ∷ []) × (last.object ≡ 1)

preceded_ends : (before : List ℕ) (functions front : List Function) (last : Function) → functions ≡ front ++ last ∷ [] → last.object ≡ 1
    → EndsWithProgram (preceded before functions)
preceded_ends before functions [] last are is = ([], record last { addresses = before ++ last.addresses }, ap (preceded before) are, is)
preceded_ends before functions (f ∷ front) last are is = (record f { addresses = before ++ f.addresses } ∷ front, last, ap (preceded before) are, is)

-- ---- what breadth leads to

abbrev edges_among : List Loaded → List Edge
edges_among objects = flat_map found_edges objects

kept_by : (x : ℕ) (xs : List ℕ) (d : ℕ) → (Contains xs d → Contains (first_kept xs) d) → (t : Bool) → eqb d x ≡ t → Contains (x ∷ xs) d
    → Contains (first_kept (x ∷ xs)) d
kept_by x xs d rest true same there =
    subst (λ (z : ℕ). Contains (x ∷ without x (first_kept xs)) z) (sym (eqb-true d x same)) (here x (without x (first_kept xs)))
kept_by x xs d rest false differs there = ⊎_elim
    (λ (is : x ≡ d). absurd (true≢false (sym (eq-eqb d x (sym is)) ∙ differs)))
    (λ (i : Contains xs d). later x (without x (first_kept xs)) d (in_filter (λ y. not (eqb y x)) (first_kept xs) d (rest i) (ap not differs)))
    (first_or_later x xs d there)

in_kept : (xs : List ℕ) (d : ℕ) → Contains xs d → Contains (first_kept xs) d
in_kept [] d there = there
in_kept (x ∷ xs) d there = kept_by x xs d (in_kept xs d) (eqb d x) refl there

module _ (ns : Seen) (from : ℕ) where
  by_found : (x d : ℕ) (zeroth : Bool) (found : Option Loaded) → object_in ns x ≡ found
      → Contains (cond zeroth [] (elim found [ Some o ↦ o.found | None ↦ [] ])) d
      → (e : Edge) × Contains (edges_among ns.objects) e × (e.source ≡ x) × (e.target ≡ d)
  by_found x d true found is there = absurd (none_in d there)
  by_found x d false None is there = absurd (none_in d there)
  by_found x d false (Some o) is there =
      let inside = found_in (λ (p : Loaded). eqb p.serial x) ns.objects o is in (
        record { source = o.serial; target = d },
        in_flat found_edges ns.objects o (record { source = o.serial; target = d }) inside.0 (in_map (λ (t : ℕ). record {
          source = o.serial;
          target =
              t;
        }) o.found d there),
        eqb-true o.serial x inside.1,
        refl,
      )

  level_reached : (n d : ℕ) → Contains (level ns from n) d → Reached (edges_among ns.objects) (from ∷ []) d
  level_reached zero d there = root there
  level_reached (suc n) d there =
      let x = from_flat (found_of ns) (level ns from n) d there in
      let e = by_found x.0 d (eqb x.0 0) (object_in ns x.0) refl x.2 in
      subst (Reached (edges_among ns.objects) (from ∷ [])) e.3
      (on e.0 e.1 (subst (Reached (edges_among ns.objects) (from ∷ [])) (sym e.2) (level_reached n x.0 x.1)))

  levels_reached : (n d : ℕ) → Contains (levels ns from n) d → Reached (edges_among ns.objects) (from ∷ []) d
  levels_reached zero d there = level_reached zero d there
  levels_reached (suc n) d there =
      ⊎_elim (levels_reached n d) (level_reached (suc n) d) (Contains-append_cases (levels ns from n) (level ns from (suc n)) d there)

  of_kept : (xs : List ℕ) (d : ℕ) → Contains (first_kept xs) d → Contains xs d
  of_kept [] d there = there
  of_kept (x ∷ xs) d there = ⊎_elim
      (λ (is : x ≡ d). subst (λ (z : ℕ). Contains (x ∷ xs) z) is (here x xs))
      (λ (i : Contains (without x (first_kept xs)) d). later x xs d (of_kept xs d (from_filter (λ y. not (eqb y x)) (first_kept xs) d i).0))
      (first_or_later x (without x (first_kept xs)) d there)

  breadth_reached : (d : ℕ) → Contains (breadth ns from) d → Reached (edges_among ns.objects) (from ∷ []) d
  unfolding breadth
  breadth_reached d there =
      levels_reached (length ns.objects) d (of_kept (levels ns from (length ns.objects)) d (from_filter (λ y. not (eqb y 0)) (first_kept (levels ns from
      (length ns.objects))) d there).0)

  root_in_levels : (n : ℕ) → Contains (levels ns from n) from
  root_in_levels zero = here from []
  root_in_levels (suc n) = Contains-append_left (levels ns from n) (level ns from (suc n)) from (root_in_levels n)

  breadth_begins : eqb from 0 ≡ false → Contains (breadth ns from) from
  unfolding breadth
  breadth_begins some =
      in_filter (λ y. not (eqb y 0)) (first_kept (levels ns from (length ns.objects))) from
      (in_kept (levels ns from (length ns.objects)) from (root_in_levels (length ns.objects))) (ap not some)

-- ---- startup

pub record StartLaws : Type 0 where
  pub breadth_first : (load : Load) (deep : Bool) (w : Walk) (ns : Seen) (root : ℕ) → Brings load w → IsRoot w root → ns.objects ≡ load.there
      → Closed load.next load.there → 1 ≤ load.next
      → map (λ o. o.serial) (records_of load deep w) ≡ new_of load.next (breadth (with_added ns (records_of load deep w)) root)
  pub root_is : (load : Load) (w : Walk) (root : ℕ) → load.there ≡ [] → Brings load w → IsRoot w root → root ≡ load.next

found_namespaces : (w : Setting) (past : List Event) (h : ℕ) (names : List (List ℕ)) (found : List Event) (addresses : List ℕ)
    → FindHarts w past h names found addresses → (s : State)
    → (after_from s found).namespaces ≡ s.namespaces
unfolding after_from
found_namespaces w past h names found addresses (FindHarts.no_more _ _) s = refl
found_namespaces w past h names found addresses (FindHarts.one_more _ _ name rest serial index value more others finds later) s =
    found_namespaces w (past ++ found_at h name serial index value ∷ []) (h + 1) rest more others later s

edges_unplaced : (added : List Loaded) → edges_among (map unplaced added) ≡ edges_among added
edges_unplaced [] = refl
edges_unplaced (o ∷ rest) = ap (λ (es : List Edge). found_edges o ++ es) (edges_unplaced rest)

serials_unplaced : (added : List Loaded) → map serial_of (map unplaced added) ≡ map serial_of added
serials_unplaced [] = refl
serials_unplaced (o ∷ rest) = ap (λ (ds : List ℕ). o.serial ∷ ds) (serials_unplaced rest)

abbrev nothing_seen : Seen
nothing_seen = record { objects = []; global = []; opens = [] }

module _ (laws : StartLaws) (w : Setting) (setup : Setup) (journal : List Event) (started : Started) (starts : Starts w setup journal started) where
  mapped_are : mapped (after journal) ≡ starts.added
  unfolding after_from loaded
  mapped_are =
      ap (λ (es : List Event). mapped (after es)) starts.are
      ∙ ap (λ (all : List Namespace). flat_map (λ ns. ns.objects) all)
      (found_namespaces w _ 1 setup.harts starts.found starts.addresses starts.finds (step empty_state (opening setup starts.root starts.added starts.ranges)))
      ∙ append-nil starts.added

  loads : Loads w (after []) 0 (program_ask setup) setup.program 0 starts.root starts.added starts.ranges
  loads = starts.opens.name

  news_are : map unplaced starts.added ≡ records_of (load_of w (after []) 0 0 setup.program loads.finds.reading) false loads.finds.walk
  unfolding after_from
  news_are = loads.storage.same ∙ loads.finds.are ∙ by setup.bind_now
    where
      by : (t : Bool) → records_of (load_of w (after []) 0 0 setup.program loads.finds.reading) (is_deepbind (if t then 0x102 else 0x101)) loads.finds.walk
          ≡ records_of (load_of w (after []) 0 0 setup.program loads.finds.reading) false loads.finds.walk
      by true = refl
      by false = refl

  root_one : starts.root ≡ 1
  unfolding after_from
  root_one = laws.root_is (load_of w (after []) 0 0 setup.program loads.finds.reading) loads.finds.walk starts.root refl loads.finds.brings loads.finds.root_is

  abbrev news : List ℕ
  news = map serial_of starts.added

  abbrev seen : Seen
  seen = with_added nothing_seen (map unplaced starts.added)

  news_by_breadth : news ≡ new_of 1 (breadth seen 1)
  unfolding after_from
  news_by_breadth =
      sym (serials_unplaced starts.added) ∙ ap (map serial_of) news_are
      ∙ laws.breadth_first (load_of w
      (after []) 0 0 setup.program loads.finds.reading) false loads.finds.walk nothing_seen starts.root loads.finds.brings loads.finds.root_is refl tt
      (omega arith)
      ∙ ap (λ (rs : List Loaded). new_of 1 (breadth (with_added nothing_seen rs) starts.root)) (sym news_are)
      ∙ ap (λ (r : ℕ). new_of 1 (breadth seen r)) root_one

  edges_are : edges_among seen.objects ≡ flat_map found_edges (mapped (after journal))
  edges_are = edges_unplaced starts.added ∙ ap edges_among (sym mapped_are)

  program_leads : (d : ℕ) → Contains news d → Reaches (flat_map found_edges (mapped (after journal))) 1 d
  program_leads d there =
      let inside : Contains (new_of 1 (breadth seen 1)) d = subst (λ (ds : List ℕ). Contains ds d) news_by_breadth there in
      subst (λ (es : List Edge). Reached es (1 ∷ []) d) edges_are (breadth_reached seen 1 d (from_filter (λ s. nat_le 1 s) (breadth seen 1) d inside).0)

  program_new : Contains news 1
  program_new = subst (λ (ds : List ℕ). Contains ds 1) (sym news_by_breadth) (in_filter (λ s. nat_le 1 s) (breadth seen 1) 1 (breadth_begins seen 1 refl) refl)

  ends : EndsWithProgram started.functions
  ends =
      let order = starts.constructed.are.order in
      let plain : List Function = starts.constructed.plain in
      let inside : Contains (program_last (Some 1) news) 1 =
      Contains-append_right (others news) (programs news) 1 (in_filter (λ o. eqb o 1) news 1 program_new refl) in
      let place = at_place (map object_of plain) 1 (order.all 1 inside) in
      let last = last_of plain place.0 place.1
      (λ e behind. nothing_behind (flat_map found_edges (mapped (after journal))) news (map object_of plain) order program_leads place.0 e place.1 behind) in
      subst EndsWithProgram (sym starts.constructed.is) (preceded_ends starts.constructed.before plain last.0 last.1 last.2 last.3)

pub program_is_last : StartLaws → ProgramIsLast
program_is_last laws w setup journal started starts = ends laws w setup journal started starts
