-- The worked history of a program that exits is legal and whole; its neighbour isn't legal.
use Rattle.std.proofs.Common.{◌≡◌, inl, inr, ⊎_elim, ℕ, zero, suc, ◌+◌, ◌*◌, ◌<◌, ◌≤◌, Bool, true, false, not, List, [], ◌∷◌, map, Some, None, refl, sym, ap, subst, ◌∙◌, arith}
use Rattle.std.specs.List.{Contains, list_any}
use Rattle.std.proofs.Common.{take}
use Rattle.std.specs.Str.{bytes_eq}
use Rattle.std.proofs.lemmas.Bool.{cases_lt, true≢false, not-true}
use Rattle.address_space.specs.Pages.{AllFree, IsFirstFit, guest_pages, is_within, page_at, without}
use Rattle.history_event.specs.declared.event.Event.{Event}
use Rattle.history_event.specs.declared.event.OpenAsk.{OpenAsk}
use Rattle.history_event.specs.declared.event.Range.{Range}
use Rattle.scope_rule.specs.Finding.{Reading, here, absent}
use Rattle.scope_rule.specs.Load.{Walk, step as load_step, finds, find_path}
use Rattle.history_state.specs.State.{State, empty_state}
use Rattle.history_state.specs.After.{after, after_from}
use Rattle.history_state.specs.Areas.{free_pages}
use Rattle.history_state.specs.Exits.{exits, initialised_by_another, loaded_program, unmapped_unclosed, name, pages, program, setting, startup, table}
use Rattle.history_state.specs.Opening.{ArePlaced, Finds, HaveStorage, Opens}
use Rattle.history_state.specs.Setting.{MayRead}
use Rattle.history_event.specs.declared.hart_end.HartEnd.TheVariants as ends
use Rattle.history_event.specs.declared.event.Event.TheVariants as events
use Rattle.seg_image.specs.Pages.{high_of, low_of, own_address, pages_of}
use Rattle.history_state.specs.Allowed.{Allowed, AtTheEnd, MayInitialise}
use Rattle.history_state.specs.Legal.{Legal, Whole}
use Rattle.history_state.specs.Objects.{has}
use Rattle.history_event.specs.declared.state.Ending.{Ending}
use Rattle.history_event.specs.declared.state.Loading.{Loading}
use Rattle.history_graph.specs.Initialised.{Reaches}
use Rattle.history_graph.specs.Reached.Reached.{root}
use Rattle.history_state.specs.Lemmas.Lists.{only_in}
use Rattle.history_state.specs.Relocating.{relocation_fault}
use Rattle.history_state.specs.Step.{initialise, loaded}
use Rattle.history_state.specs.Lemmas.Lists.{here as first_in, from_filter, in_filter, none_in}
use Rattle.history_state.specs.Lemmas.Pages.{outside, page_number, page_there}

-- ---- where the program and its stack stand

none_reserved : (page : ℕ) → Contains guest_pages page → Contains (free_pages []) page
unfolding free_pages
none_reserved page h = in_filter (λ p. not (list_any (λ (r : Range). is_within r.address r.pages p) [])) guest_pages page h refl

left_over : List ℕ
left_over = without (free_pages []) 0x10000 1

left_has : (n : ℕ) → 1 ≤ n → n < 2047 → Contains left_over (page_at n)
unfolding left_over
left_has n some few = in_filter (λ page. not (is_within 0x10000 1 page)) (free_pages []) (page_at n) (none_reserved (page_at n) (page_there n few))
    (ap not (outside 0x10000 1 (page_at n) (inr (omega (arith, some)))))

left_from : (page : ℕ) → Contains left_over page → 0x11000 ≤ page
unfolding left_over free_pages
left_from page h =
    let kept = from_filter (λ p. not (is_within 0x10000 1 p)) (free_pages []) page h in
    let free = from_filter (λ p. not (list_any (λ (r : Range). is_within r.address r.pages p) [])) guest_pages page kept.0 in
    let at = page_number page free.0 in
    ⊎_elim
    (λ (e : at.0 < 1).
    let zero_is : at.0 ≡ 0 = omega (arith, e) in
    let is : page ≡ 0x10000 + 4096 * at.0 = at.2 in
    let first : page ≡ 0x10000 = omega (arith, is, zero_is) in
    absurd (true≢false (sym (ap (λ (p : ℕ). is_within 0x10000 1 p) first) ∙ not-true (is_within 0x10000 1 page) kept.1)))
    (λ (e : 1 ≤ at.0). let is : page ≡ 0x10000 + 4096 * at.0 = at.2 in omega (arith, is, e))
    (cases_lt at.0 1)

program_stands : AllFree (free_pages []) 0x10000 1
program_stands k h =
    let e : 0x10000 ≡ 0x10000 + 4096 * k = omega (arith, h) in
    subst (Contains (free_pages [])) e (none_reserved 0x10000 (subst (Contains guest_pages) first (page_there 0 (omega arith))))
  where
    first : page_at 0 ≡ 0x10000
    first = omega arith

stack_stands : IsFirstFit left_over 16 4096 0x11000
stack_stands = record {
  fits = record {
    aligned = refl;
    room = λ k h. let e : page_at (k + 1) ≡ 0x11000 + 4096 * k = omega arith in subst (Contains left_over) e (left_has (k + 1) (omega arith) (omega (arith, h)));
  };
  least = λ other fits.
      let at : Contains left_over (other + 4096 * 0) = fits.room 0 (omega arith) in
      let low : 0x11000 ≤ other + 4096 * 0 = left_from (other + 4096 * 0) at in
      omega (arith, low);
}

-- ---- the opening

abbrev ask : OpenAsk
ask = record { ns = Some 0; name = Some name; flags = 0x101 }

reading_by : Bool → Reading
reading_by true = here program table
reading_by false = absent

abbrev reading : List ℕ → Reading
reading path = reading_by (bytes_eq name path)

may_read : (path : List ℕ) (b : Bool) → MayRead setting b path (reading_by b)
unfolding reading_by
may_read path true = ([], tt, refl)
may_read path false = tt

news_are : Walk
news_are = record { found = 1 ∷ []; arrivals = record { path = name; object = program; table = table } ∷ [] }

found : Finds setting empty_state 0 ask name 0 1 (loaded_program ∷ [])
unfolding load_step finds find_path news_are reading_by
found = record {
  reading = reading;
  read = λ path. may_read path (bytes_eq name path);
  walk = news_are;
  brings = record { steps = 1; are = refl; all = omega arith };
  root_is = refl;
  are = refl;
}

have_storage : HaveStorage empty_state (loaded_program ∷ []) (loaded_program ∷ [])
have_storage = record { same = refl; modules = (tt, tt) }

are_placed : ArePlaced setting empty_state (loaded_program ∷ []) pages
unfolding pages_of low_of high_of own_address left_over
are_placed = record {
  left = without left_over 0x11000 16;
  given = (
    record { pages = refl; purpose = refl; stands = (refl, program_stands) },
    (record { pages = refl; purpose = refl; stands = stack_stands }, refl),
  );
  based = (refl, tt);
}

opens_program : Opens setting empty_state 0 ask 0 1 (loaded_program ∷ []) pages
unfolding relocation_fault loaded
opens_program = record {
  may = λ first. record { by_first = refl; base = refl; named = tt; flags = inl refl };
  asked = record { short = refl; flags = refl; namespace = (refl, refl) };
  name = record {
    news = loaded_program ∷ [];
    finds = found;
    versions = refl;
    storage = have_storage;
    placed = are_placed;
    relocated = refl;
  };
}

-- ---- the events behind it

opened : State
opened = after (startup ∷ [])

may_initialise : MayInitialise opened 0 1
unfolding opened after_from loaded
may_initialise = record {
  loading = record { hart = 0; serials = 1 ∷ [] };
  there = first_in _ [];
  by = refl;
  next = record {
    place = 0;
    stands = refl;
    may = record {
      undone = λ h. none_in 1 h;
      ready = λ d new depends. absurd (depends.1 (subst (λ (n : ℕ). Reaches [] n 1) (one d new) (root (first_in 1 []))));
    };
    first = λ earlier e before at may. absurd (omega (arith, before));
  };
}
  where
    one : (d : ℕ) → Contains (1 ∷ []) d → 1 ≡ d
    one d h = only_in 1 d h

may_finish : AtTheEnd setting (take 3 exits) (after (take 3 exits)) 0 1
unfolding after_from loaded initialise
may_finish = record {
  first_hart = refl;
  mapped = record { namespace = _; object = _; there = first_in _ []; inside = first_in _ []; is = refl };
  initialised = refl;
  unfinished = refl;
  was = record { before = take 3 exits; since = []; are = refl; over = refl; next = refl };
}

init_allowed : Allowed setting (take 1 exits) (events.Init 0 1)
unfolding opened
init_allowed = may_initialise

ended_first : has (map (λ (x : Ending). x.hart) (after (take 2 exits)).endings) 0 ≡ false
unfolding after_from loaded initialise
ended_first = refl

pub exits_legal : Legal setting exits
unfolding Legal after_from
exits_legal zero e at = let same : startup ≡ e = cc in subst (λ (x : Event). Allowed setting [] x) same opens_program
exits_legal (suc zero) e at = let same : events.Init 0 1 ≡ e = cc in subst (λ (x : Event). Allowed setting (take 1 exits) x) same init_allowed
exits_legal (suc (suc zero)) e at = let same : events.Ended 0 (ends.Exit 0) ≡ e = cc in subst (λ (x : Event). Allowed setting (take 2 exits) x) same (inl ended_first)
exits_legal (suc (suc (suc zero))) e at = let same : events.Fini 0 1 ≡ e = cc in subst (λ (x : Event). Allowed setting (take 3 exits) x) same (inr may_finish)
exits_legal (suc (suc (suc (suc k)))) e at = absurd (let d : None ≡ Some e = at in cc)

pub exits_whole : Whole setting exits
unfolding after_from loaded initialise
exits_whole = record {
  settled = λ g there. absurd (none_in g there);
  lost = λ g saw there. absurd (none_in g there);
  finished = λ over. refl;
}

-- ---- neighbours

pub other_initialises : Legal setting initialised_by_another → ⊥
unfolding Legal after_from loaded opened
other_initialises legal =
    let may : MayInitialise opened 1 1 = at_second (legal 1 (events.Init 1 1) refl) in
    let loading = only_in (record { hart = 0; serials = 1 ∷ [] }) may.loading may.there in
    let none : 0 ≡ 1 = ap (λ (l : Loading). l.hart) loading ∙ may.by in
    omega (arith, none)
  where
    at_second : Allowed setting (take 1 initialised_by_another) (events.Init 1 1) → MayInitialise opened 1 1
    at_second h = h

pub none_closed : Legal setting unmapped_unclosed → ⊥
unfolding Legal after_from loaded initialise
none_closed legal = let may = legal 3 (events.Unmapped 0 (1 ∷ [])) refl in none_in may.closing may.there
