-- Harts that were set off have run to their ends.
use Rattle.std.proofs.Common.{◌≡◌, ◌⊎◌, ⊎_elim, inl, inr, ℕ, zero, suc, ◌+◌, ◌≤◌, ◌<◌, false, true, List, [], ◌∷◌, ◌++◌, drop, get_or, length, map, Option, Some, None, refl, sym, ap, subst, ◌∙◌, length-append, arith}
use Rattle.std.proofs.lemmas.List.{length-map}
use Rattle.std.proofs.lemmas.List.Elements.{Contains-append_left, Contains-append_right}
use Rattle.std.specs.Option.{IsSome}
use Rattle.std.specs.List.{Contains, slice_get}
use Rattle.std.proofs.lemmas.Option.{get_or_from_slice_get, none-some, slice_get_within}
use Rattle.history_event.specs.declared.event.Event.{Event}
use Rattle.history_event.specs.declared.handed.HartEntry.{HartEntry}
use Rattle.history_event.specs.declared.hart_end.HartEnd.{HartEnd}
use Rattle.history_calls.specs.declared.link_served.startup.Setup.{Setup}
use Rattle.history_calls.specs.declared.link_served.startup.Started.{Started}
use Rattle.history_calls.specs.Laws.{HartsHaveEntries, StartsLegal}
use Rattle.history_calls.specs.Startup.{harts_of}
use Rattle.history_calls.specs.Laws.{hart_of}
use Rattle.history_state.specs.Lemmas.Lists.{at_in}
use Rattle.history_state.specs.Lemmas.Tidy.{in_at}
use Rattle.hart_moves.specs.Follows.{HasNone}
use Rattle.rv_hart.specs.Registers.{Registers}
use Rattle.history_state.specs.Setting.{Setting}
use Rattle.hart_fits.specs.Fits.{StartFits}
use Rattle.hart_fits.specs.Owners.{StartHasOwners}
use Rattle.hart_linker.specs.Between.{HasHeard}
use Rattle.hart_moves.specs.Harts.{HartState}
use Rattle.hart_moves.specs.Starting.{HartStart, starting_harts, starting_registers}
use Rattle.hart_threads.specs.Constructed.{GoesOn, IsConstructed}
use Rattle.hart_threads.specs.Ends.{IsNewAt, IsThrough, IsToldOf, RanFirst, RanWhole}
use Rattle.hart_threads.specs.Laws.{OthersRunWhole}
use Rattle.hart_threads.specs.Run.{IsReady, IsUnrun, RunsToEnd}
use Rattle.hart_threads.specs.Turns.{RunsBy}
use Rattle.hart_trails.specs.Ends.{IsFresh}
use Rattle.hart_trails.specs.Trails.{FollowsBy, LeavesToItsEnd}
use Rattle.tls_blocks.specs.Blocks.{BlockTable}
use Rattle.word_memory.specs.WordSeats.Making.{new_harts}
use Rattle.word_rule.specs.declared.view.HartView.{HartView}
use Rattle.word_rule.specs.declared.view.TrailItem.{TrailItem}
use Rattle.word_rule.specs.Views.{BeginsWith, first_hart, known_of}
use Rattle.world_threads.specs.Running.{HaveRun, SetsOff, WayOf}
use Rattle.world_threads.specs.Setting.{KeepsNone, hears, told_hart}
use Rattle.world_threads.proofs.Ready.{all_are, entry_of, new_at, ready, runs_by, start, start_is}
use Rattle.world_threads.proofs.Started.{machine_harts}

-- ---- lists

pub element_at : {X : Type 0} (xs : List X) (k : ℕ) → k < length xs → (x : X) × (slice_get xs k ≡ Some x)
element_at [] k low = absurd (let no : k < 0 = low in omega (arith, no))
element_at (x ∷ xs) zero low = (x, refl)
element_at (x ∷ xs) (suc k) low = element_at xs k (let less : suc k < suc (length xs) = low in omega (arith, less))

pub in_map : {X Y : Type 0} (f : X → Y) (xs : List X) (k : ℕ) (x : X) → slice_get xs k ≡ Some x → slice_get (map f xs) k ≡ Some (f x)
in_map f [] k x got = absurd (none-some x got)
in_map f (y ∷ xs) zero x got = (let same : y ≡ x = cc in ap (λ z. Some (f z)) same)
in_map f (y ∷ xs) (suc k) x got = in_map f xs k x got

pub from_map : {X Y : Type 0} (f : X → Y) (xs : List X) (k : ℕ) (y : Y) → slice_get (map f xs) k ≡ Some y → (x : X) × (slice_get xs k ≡ Some x) × (f x ≡ y)
from_map f [] k y got = absurd (none-some y got)
from_map f (x ∷ xs) zero y got = (x, refl, (let same : f x ≡ y = cc in same))
from_map f (x ∷ xs) (suc k) y got = from_map f xs k y got

got_behind : (past more : List Event) (k : ℕ) (e : Event) → slice_get more k ≡ Some e → slice_get (past ++ more) (length past + k) ≡ Some e
got_behind [] more k e got = subst (λ (n : ℕ). slice_get more n ≡ Some e) (let same : k ≡ 0 + k = omega arith in same) got
got_behind (x ∷ past) more k e got = subst (λ (n : ℕ). slice_get (x ∷ past ++ more) n ≡ Some e) (let same : suc (length past + k) ≡ suc (length past) + k = omega arith in same) (got_behind past more k e got)

got_front : (past more : List Event) (k : ℕ) (e : Event) → slice_get past k ≡ Some e → slice_get (past ++ more) k ≡ Some e
got_front [] more k e got = absurd (none-some e got)
got_front (x ∷ past) more zero e got = got
got_front (x ∷ past) more (suc k) e got = got_front past more k e got

same_some : {X : Type 0} (x y : X) → Some x ≡ Some y → x ≡ y
same_some x y e = cc

-- the views of new harts, in the order of their numbers
pub new_length : (n : ℕ) → length (new_harts n) ≡ n
new_length zero = refl
new_length (suc n) = pushed (new_harts n) (first_hart n) ∙ ap suc (new_length n)
  where
    pushed : (xs : List HartView) (x : HartView) → length (xs ++ x ∷ []) ≡ suc (length xs)
    pushed [] x = refl
    pushed (y ∷ xs) x = ap suc (pushed xs x)

last_or_before : {X : Type 0} (xs : List X) (last : X) (k : ℕ) (x : X) → slice_get (xs ++ last ∷ []) k ≡ Some x → (slice_get xs k ≡ Some x) ⊎ ((k ≡ length xs) × (last ≡ x))
last_or_before [] last zero x got = inr (refl, same_some last x got)
last_or_before [] last (suc k) x got = absurd (none-some x got)
last_or_before (y ∷ xs) last zero x got = inl got
last_or_before (y ∷ xs) last (suc k) x got = ⊎_elim
    (λ (before : slice_get xs k ≡ Some x). inl before)
    (λ (here : (k ≡ length xs) × (last ≡ x)). inr (ap suc here.0, here.1))
    (last_or_before xs last k x got)

pub new_hart_at : (n k : ℕ) (j : HartView) → slice_get (new_harts n) k ≡ Some j → j ≡ first_hart k
new_hart_at zero k j got = absurd (none-some j got)
new_hart_at (suc n) k j got = ⊎_elim
    (λ (before : slice_get (new_harts n) k ≡ Some j). new_hart_at n k j before)
    (λ (here : (k ≡ length (new_harts n)) × (first_hart n ≡ j)). sym here.1 ∙ ap first_hart (sym (here.0 ∙ new_length n)))
    (last_or_before (new_harts n) (first_hart n) k j got)

-- each hart but the first has ended, where each place but the first has
pub others_ended : {X : Type 0} (hart : X → HartState) (old new : List X) → length new ≡ length old → ((i : ℕ) (d : X) → 0 < i → i < length old → IsSome (hart (get_or new i d)).«end»)
    → (k : ℕ) (d : X) → k < length (drop 1 new) → IsSome (hart (get_or (drop 1 new) k d)).«end»
others_ended hart old [] long each k d low = absurd (let no : k < 0 = low in omega (arith, no))
others_ended hart old (x ∷ new) long each k d low = each (suc k) d (omega arith) (let less : k < length new = low in omega (arith, less, long))

-- there are as many as the machine has
pub count_of : {X : Type 0} (seat : X → HartView) (hart : X → HartState) (blocks : X → BlockTable) → HartsHaveEntries → (w : Setting) (setup : Setup) (past : List Event) (started : Started) (entry : HartEntry) (old : List X)
    → SetsOff w setup past started entry (map seat old) (map hart old) (map blocks old) → length old ≡ w.machine.harts
count_of seat hart blocks have w setup past started entry old off =
    sym (length-map old seat) ∙ ap length off.are.seats_are ∙ length-map (new_harts (length started.entries)) (hears past) ∙ new_length (length started.entries)
    ∙ have w setup past started off.starts ∙ sym (machine_harts w setup past started off.starts)

-- another than the first was told of these events before its first turn, none of which is its own, and ran to its end
pub record RanBehind (w : Setting) (begun alone : List Event) (before now : HartView) (b c : HartState) (kept : BlockTable) : Type 0 where
  pub told : HartView
  pub is_told : IsToldOf w begun alone before told
  pub runs : RunsToEnd w begun told now b c kept

-- ---- each hart, as it was set off

module _ {X : Type 0} (seat : X → HartView) (hart : X → HartState) (blocks : X → BlockTable) (legal : StartsLegal) (owners : StartHasOwners) (fits : StartFits) (have : HartsHaveEntries)
    (w : Setting) (setup : Setup) (past : List Event) (started : Started) (entry : HartEntry) (old : List X)
    (off : SetsOff w setup past started entry (map seat old) (map hart old) (map blocks old)) where
  pub count : length old ≡ w.machine.harts
  count = count_of seat hart blocks have w setup past started entry old off

  module _ (h : ℕ) (x : X) (at : slice_get old h ≡ Some x) where
    pub low : h < w.machine.harts
    low = (let within = slice_get_within old h x at in let all = count in omega (arith, within, all))

    seat_is : seat x ≡ told_hart past h
    seat_is =
        let got = from_map (hears past) (new_harts (length started.entries)) h (seat x) (subst (λ (js : List HartView). slice_get js h ≡ Some (seat x)) off.are.seats_are (in_map seat old h x at)) in
        sym got.2 ∙ ap (hears past) (new_hart_at (length started.entries) h got.0 got.1)

    pub hart_at : slice_get (starting_harts setup.fuel started.functions started.entries) h ≡ Some (hart x)
    hart_at = subst (λ (bs : List HartState). slice_get bs h ≡ Some (hart x)) off.are.harts_are (in_map hart old h x at)

    none_kept : KeepsNone (blocks x)
    none_kept = off.are.keep_none (blocks x) (at_in (map blocks old) h (blocks x) (in_map blocks old h x at))

    pub is_ready : IsReady w past (seat x) (hart x) (blocks x)
    is_ready = subst (λ (j : HartView). IsReady w past j (hart x) (blocks x)) (sym seat_is) (ready w setup past started off.starts legal owners fits h (hart x) low hart_at (blocks x) none_kept)

    pub number_is : (seat x).number ≡ h
    number_is = ap (λ (j : HartView). j.number) seat_is

    abbrev pub start_at : HartStart
    start_at = start w setup past started off.starts legal owners fits h (hart x) low hart_at

    pub by : RunsBy w (length past) (hart x) [] (seat x) (hart x)
    by = subst (λ (j : HartView). RunsBy w (length past) (hart x) [] j (hart x)) (sym seat_is) (runs_by w setup past started off.starts legal owners fits h (hart x) low hart_at)

    pub is_new : IsNewAt start_at (seat x)
    is_new = subst (IsNewAt start_at) (sym seat_is) (new_at w setup past started off.starts legal owners fits h (hart x) low hart_at)

    pub from_low : start_at.from ≤ length (seat x).heard
    from_low = subst (λ (j : HartView). length past ≤ length j.heard) (sym seat_is) (omega arith)

  pub all_ready : (k : ℕ) (d : X) → k < length old → IsReady w past (seat (get_or old k d)) (hart (get_or old k d)) (blocks (get_or old k d))
  all_ready k d low =
      let x = element_at old k low in
      let same : x.0 ≡ get_or old k d = sym (get_or_from_slice_get old k x.0 d x.1) in
      subst (λ (y : X). IsReady w past (seat y) (hart y) (blocks y)) same (is_ready k x.0 x.1)

  -- each with its number, as it was told of startup's events, and unrun
  pub numbers_are : (k : ℕ) (d : X) → k < length old → (seat (get_or old k d)).number ≡ k
  numbers_are k d low =
      let x = element_at old k low in
      subst (λ (y : X). (seat y).number ≡ k) (sym (get_or_from_slice_get old k x.0 d x.1)) (number_is k x.0 x.1)

  pub heard_are : (k : ℕ) (d : X) → k < length old → (seat (get_or old k d)).heard ≡ past
  heard_are k d low =
      let x = element_at old k low in
      subst (λ (y : X). (seat y).heard ≡ past) (sym (get_or_from_slice_get old k x.0 d x.1)) (ap (λ (j : HartView). j.heard) (seat_is k x.0 x.1))

  pub unrun_are : (k : ℕ) (d : X) → k < length old → IsUnrun (seat (get_or old k d)) (hart (get_or old k d))
  unrun_are k d low =
      let x = element_at old k low in
      let new = all_are setup.fuel k started.functions started.entries (hart x.0) (hart_at k x.0 x.1) in
      subst (λ (y : X). IsUnrun (seat y) (hart y)) (sym (get_or_from_slice_get old k x.0 d x.1))
      (record { runs = new.runs; idle = new.idle; none_known = ap (λ (j : HartView). known_of j.lane) (seat_is k x.0 x.1) })

  pub fresh_at : (d : X) → 0 < length old → IsFresh (hart (get_or old 0 d))
  fresh_at d low =
      let x = element_at old 0 low in
      let new = all_are setup.fuel 0 started.functions started.entries (hart x.0) (hart_at 0 x.0 x.1) in
      subst (λ (y : X). IsFresh (hart y)) (sym (get_or_from_slice_get old 0 x.0 d x.1)) (record { runs = new.runs; no_finals = new.no_finals })

  -- ---- and once it has run

  module _ (others_whole : OthersRunWhole) (new : List X) (long : length new ≡ length old) (first : HartEnd) (ends : List HartEnd) (alone : List Event)
      (first_apart : (d : X) → RanFirst w past alone (starting_registers entry) (seat (get_or old 0 d)) (seat (get_or new 0 d)) (hart (get_or old 0 d)) first)
      (others_behind : (i : ℕ) (d : X) → 0 < i → i < length old → RanBehind w past alone (seat (get_or old i d)) (seat (get_or new i d)) (hart (get_or old i d)) (hart (get_or new i d)) (blocks (get_or new i d)))
      (fronts : (i : ℕ) (d : X) → 0 < i → i < length old → BeginsWith (seat (get_or new 0 d)).heard (seat (get_or new i d)).heard)
      (ends_are : map Some ends ≡ Some first ∷ map (λ x. (hart x).«end») (drop 1 new)) where
    -- the hart of a place, before and behind
    old_at : (h : ℕ) (y : X) → slice_get new h ≡ Some y → (x : X) × (slice_get old h ≡ Some x)
    old_at h y at = element_at old h (let within = slice_get_within new h y at in omega (arith, within, long))

    -- so it is of the first
    through_at : (x y : X) → slice_get old 0 ≡ Some x → slice_get new 0 ≡ Some y → IsThrough w past (seat x) (seat y)
    through_at x y at now =
        subst (λ (z : X). IsThrough w past (seat z) (seat y)) (get_or_from_slice_get old 0 x x at)
        (subst (λ (z : X). IsThrough w past (seat (get_or old 0 x)) (seat z)) (get_or_from_slice_get new 0 y x now) (first_apart x).through)

    ran_at : (h : ℕ) (x y : X) → 0 < h → slice_get old h ≡ Some x → slice_get new h ≡ Some y → RanBehind w past alone (seat x) (seat y) (hart x) (hart y) (blocks y)
    ran_at h x y behind at now =
        subst (λ (z : X). RanBehind w past alone (seat z) (seat y) (hart z) (hart y) (blocks y)) (get_or_from_slice_get old h x x at)
        (subst (λ (z : X). RanBehind w past alone (seat (get_or old h x)) (seat z) (hart (get_or old h x)) (hart z) (blocks z)) (get_or_from_slice_get new h y x now)
        (others_behind h x behind (slice_get_within old h x at)))

    -- ---- the first one ran alone

    zeroth : (x : X) × (slice_get old 0 ≡ Some x)
    zeroth = element_at old 0 (let all = count in let harts = machine_harts w setup past started off.starts in omega (arith, all, harts))

    apart : RanFirst w past alone (starting_registers entry) (seat zeroth.0) (seat (get_or new 0 zeroth.0)) (hart zeroth.0) first
    apart = subst (λ (z : X). RanFirst w past alone (starting_registers entry) (seat z) (seat (get_or new 0 zeroth.0)) (hart z) first) (get_or_from_slice_get old 0 zeroth.0 zeroth.0 zeroth.1)
        (first_apart zeroth.0)

    apart_at : (y : X) → slice_get new 0 ≡ Some y → get_or new 0 zeroth.0 ≡ y
    apart_at y now = get_or_from_slice_get new 0 y zeroth.0 now

    registers_are : (start_at 0 zeroth.0 zeroth.1).registers ≡ starting_registers entry
    registers_are =
        ap starting_registers (same_some (entry_of setup.fuel 0 started.functions started.entries (hart zeroth.0) (hart_at 0 zeroth.0 zeroth.1)).0 entry
        (sym (entry_of setup.fuel 0 started.functions started.entries (hart zeroth.0) (hart_at 0 zeroth.0 zeroth.1)).1 ∙ off.entry_is))

    by_alone : RunsBy w (length past) (hart zeroth.0) [] apart.seat apart.hart
    by_alone = apart.on.on (length past) (hart zeroth.0) [] (by 0 zeroth.0 zeroth.1)

    number_alone : apart.seat.number ≡ 0
    number_alone = apart.on.same ∙ number_is 0 zeroth.0 zeroth.1

    -- none of these events is another's
    alone_own : (e : Event) (h : ℕ) → Contains alone e → hart_of e ≡ Some h → h ≡ 0
    alone_own e zero there own = refl
    alone_own e (suc h) there own =
        let place = in_at alone e there in
        let stands : slice_get (past ++ alone) (length past + place.0) ≡ Some e = got_behind past alone place.0 e place.1 in
        let first_told : IsThrough w past (seat (get_or old 0 zeroth.0)) (seat (get_or new 0 zeroth.0)) = (first_apart zeroth.0).through in
        let first_heard : (seat (get_or new 0 zeroth.0)).heard ≡ (past ++ alone) ++ apart.further.0 = apart.further.1 ∙ ap (λ (es : List Event). es ++ apart.further.0) apart.heard in
        let less : suc h < w.machine.harts = first_told.heard.own e (suc h) (subst (λ (es : List Event). Contains es e) (sym first_heard)
        (Contains-append_left (past ++ alone) apart.further.0 e (Contains-append_right past alone e there))) own in
        let x = element_at old (suc h) (let all = count in omega (arith, less, all)) in
        let ran = others_behind (suc h) x.0 (omega arith) (slice_get_within old (suc h) x.0 x.1) in
        let before : get_or old (suc h) x.0 ≡ x.0 = get_or_from_slice_get old (suc h) x.0 x.0 x.1 in
        let long : length (seat (get_or old (suc h) x.0)).heard ≡ length past = ap (λ (z : X). length (seat z).heard) before ∙ ap (λ (j : HartView). length j.heard) (seat_is (suc h) x.0 x.1) in
        let told : slice_get ran.told.heard (length past + place.0) ≡ Some e = ap (λ (es : List Event). slice_get es (length past + place.0)) ran.is_told.behind.1
        ∙ got_front (past ++ alone) ran.is_told.behind.0 (length past + place.0) e stands in
        absurd (ran.is_told.hears.none (length past + place.0) e (omega (arith, long)) (slice_get_within ran.told.heard (length past + place.0) e told) told
        (own ∙ ap (λ (n : ℕ). Some n) (sym (ap (λ (z : X). (seat z).number) before ∙ number_is (suc h) x.0 x.1))))

    abbrev constructed : IsConstructed w setup past alone started
    constructed = record {
      own = alone_own;
      start = start_at 0 zeroth.0 zeroth.1;
      sets_off = start_is w setup past started off.starts legal owners fits 0 (hart zeroth.0) (low 0 zeroth.0 zeroth.1) (hart_at 0 zeroth.0 zeroth.1);
      turns = by_alone.turns;
      items = by_alone.own;
      to = by_alone.to;
      hart = apart.hart;
      follows = subst (λ (n : ℕ). FollowsBy w (past ++ alone) n (length past) (hart zeroth.0) by_alone.turns by_alone.own by_alone.to apart.hart) number_alone
          (subst (λ (es : List Event). FollowsBy w es apart.seat.number (length past) (hart zeroth.0) by_alone.turns by_alone.own by_alone.to apart.hart) apart.heard by_alone.follows);
      none = subst (λ (n : ℕ). HasNone (past ++ alone) n by_alone.to (length (past ++ alone))) number_alone
          (subst (λ (es : List Event). HasNone es apart.seat.number by_alone.to (length es)) apart.heard by_alone.none);
      over = apart.over;
    }

    goes_on : (y : X) → slice_get new 0 ≡ Some y → (seat y).number ≡ 0 → GoesOn w setup past alone started constructed (seat y).heard first (seat y).trail
    goes_on y now number = record {
      rest = apart.rest.own;
      whole = subst (λ (z : X). (seat z).trail ≡ by_alone.own ++ apart.rest.own) (apart_at y now) (apart.rest.trail ∙ ap (λ (t : List TrailItem). t ++ apart.rest.own) by_alone.trail);
      way = subst (λ (n : ℕ). LeavesToItsEnd w (seat y).heard (record { from = length (past ++ alone); registers = (start_at 0 zeroth.0 zeroth.1).registers; hart = apart.hart }) n first apart.rest.own) number
          (subst (λ (z : X). LeavesToItsEnd w (seat z).heard (record { from = length (past ++ alone); registers = (start_at 0 zeroth.0 zeroth.1).registers; hart = apart.hart }) (seat z).number first
          apart.rest.own) (apart_at y now)
          (subst (λ (from : ℕ). LeavesToItsEnd w (seat (get_or new 0 zeroth.0)).heard (record { from = from; registers = (start_at 0 zeroth.0 zeroth.1).registers; hart = apart.hart })
          (seat (get_or new 0 zeroth.0)).number first apart.rest.own) (ap length apart.heard)
          (subst (λ (rs : Registers). LeavesToItsEnd w (seat (get_or new 0 zeroth.0)).heard (record { from = length apart.seat.heard; registers = rs; hart = apart.hart })
          (seat (get_or new 0 zeroth.0)).number first apart.rest.own) (sym registers_are) apart.rest.way)));
    }

    begun_at : (y : X) → slice_get new 0 ≡ Some y → BeginsWith (seat y).heard (past ++ alone)
    begun_at y now = subst (λ (z : X). BeginsWith (seat z).heard (past ++ alone)) (apart_at y now)
        (apart.further.0, apart.further.1 ∙ ap (λ (es : List Event). es ++ apart.further.0) apart.heard)

    -- ---- each other came behind it

    abbrev start_behind : (h : ℕ) (x : X) → slice_get old h ≡ Some x → HartStart
    start_behind h x at = record { from = length (past ++ alone); registers = (start_at h x at).registers; hart = hart x }

    by_behind : (h : ℕ) (x y : X) (behind : 0 < h) (at : slice_get old h ≡ Some x) (now : slice_get new h ≡ Some y) → RunsBy w (length (past ++ alone)) (hart x) [] (ran_at h x y behind at now).told (hart x)
    by_behind h x y behind at now =
        let ran = ran_at h x y behind at now in
        let longer : length ran.told.heard ≡ length (past ++ alone) + length ran.is_told.behind.0 = ap length ran.is_told.behind.1 ∙ length-append (past ++ alone) ran.is_told.behind.0 in
        let was : length (seat x).heard ≡ length past = ap (λ (j : HartView). length j.heard) (seat_is h x at) in
        let both : length (past ++ alone) ≡ length past + length alone = length-append past alone in
        record {
          turns = [];
          own = [];
          to = length (past ++ alone);
          follows = FollowsBy.no_more (length (past ++ alone)) (hart x);
          late = omega (arith, longer);
          none = λ k e since before there own. ran.is_told.hears.none k e (omega (arith, since, was, both)) before there (own ∙ ap (λ (n : ℕ). Some n) (ap (λ (j : HartView). j.number) ran.is_told.hears.told));
          trail = ap (λ (j : HartView). j.trail) ran.is_told.hears.told ∙ ap (λ (j : HartView). j.trail) (seat_is h x at);
        }

    whole_first : (x y : X) → slice_get new 0 ≡ Some y → (at : slice_get old 0 ≡ Some x) → RanWhole w (start_at 0 x at) [] (seat y) first
    whole_first x y now at =
        let same = get_or_from_slice_get old 0 x x at in
        let registers : (start_at 0 x at).registers ≡ starting_registers entry =
        ap starting_registers (same_some (entry_of setup.fuel 0 started.functions started.entries (hart x) (hart_at 0 x at)).0 entry
        (sym (entry_of setup.fuel 0 started.functions started.entries (hart x) (hart_at 0 x at)).1 ∙ off.entry_is)) in
        subst (λ (z : X). RanWhole w (start_at 0 x at) [] (seat z) first) (get_or_from_slice_get new 0 y x now)
        ((first_apart x).whole (start_at 0 x at) [] registers
        (subst (λ (z : X). (start_at 0 x at).from ≤ length (seat z).heard) (sym same) (from_low 0 x at))
        (subst (λ (z : X). IsNewAt (start_at 0 x at) (seat z)) (sym same) (is_new 0 x at))
        (subst (λ (z : X). RunsBy w (start_at 0 x at).from (start_at 0 x at).hart [] (seat z) (hart z)) (sym same) (by 0 x at)))

    number_behind : (h : ℕ) (x y : X) → 0 < h → slice_get old h ≡ Some x → slice_get new h ≡ Some y → (seat y).number ≡ h
    number_behind h x y behind at now =
        let ran = ran_at h x y behind at now in
        ran.runs.runs.proceeds.same ∙ ap (λ (j : HartView). j.number) ran.is_told.hears.told ∙ number_is h x at

    whole_other : (h : ℕ) (x y : X) (reason : HartEnd) → 0 < h → (at : slice_get old h ≡ Some x) → slice_get new h ≡ Some y → (hart y).«end» ≡ Some reason
        → RanWhole w (start_behind h x at) [] (seat y) reason
    whole_other h x y reason behind at now ended =
        let ran = ran_at h x y behind at now in
        others_whole w (start_behind h x at) [] (seat y) (hart y) reason (ran.runs.runs.proceeds.on (length (past ++ alone)) (hart x) [] (by_behind h x y behind at now)) ended
        (λ is. (let number : (seat y).number ≡ h = number_behind h x y behind at now in omega (arith, is, number, behind)))

    -- how each has ended
    end_of_other : (h : ℕ) (y : X) (reason : HartEnd) → slice_get new (suc h) ≡ Some y → slice_get ends (suc h) ≡ Some reason → (hart y).«end» ≡ Some reason
    end_of_other h y reason now ended =
        let got : slice_get (map (λ x. (hart x).«end») (drop 1 new)) h ≡ Some (Some reason) =
        subst (λ (es : List (Option HartEnd)). slice_get es (suc h) ≡ Some (Some reason)) ends_are (in_map (λ r. Some r) ends (suc h) reason ended) in
        let there : slice_get (map (λ x. (hart x).«end») (drop 1 new)) h ≡ Some (hart y).«end» = in_map (λ x. (hart x).«end») (drop 1 new) h y (behind_first new h y now) in
        same_some (hart y).«end» (Some reason) (sym there ∙ got)
      where
        behind_first : (xs : List X) (k : ℕ) (x : X) → slice_get xs (suc k) ≡ Some x → slice_get (drop 1 xs) k ≡ Some x
        behind_first [] k x got = absurd (none-some x got)
        behind_first (z ∷ xs) k x got = got

    first_end : (reason : HartEnd) → slice_get ends 0 ≡ Some reason → first ≡ reason
    first_end reason ended =
        let got : slice_get (Some first ∷ map (λ x. (hart x).«end») (drop 1 new)) 0 ≡ Some (Some reason) =
        subst (λ (es : List (Option HartEnd)). slice_get es 0 ≡ Some (Some reason)) ends_are (in_map (λ r. Some r) ends 0 reason ended) in
        same_some first reason (same_some (Some first) (Some reason) got)

    leaves : (h : ℕ) (y : X) (start : HartStart) (reason : HartEnd) → (seat y).number ≡ h → RanWhole w start [] (seat y) reason → LeavesToItsEnd w (seat y).heard start h reason (seat y).trail
    leaves h y start reason number whole = subst (λ (trail : List TrailItem). LeavesToItsEnd w (seat y).heard start h reason trail) (sym whole.trail)
        (subst (λ (n : ℕ). LeavesToItsEnd w (seat y).heard start n reason whole.own) number whole.way)

    number_at : (h : ℕ) (x y : X) → slice_get old h ≡ Some x → slice_get new h ≡ Some y → (seat y).number ≡ h
    number_at zero x y at now = (through_at x y at now).same ∙ number_is 0 x at
    number_at (suc h) x y at now = number_behind (suc h) x y (omega arith) at now

    heard_at : (h : ℕ) (x y : X) → slice_get old h ≡ Some x → slice_get new h ≡ Some y → HasHeard w past (seat y)
    heard_at zero x y at now = (through_at x y at now).heard
    heard_at (suc h) x y at now = (ran_at (suc h) x y (omega arith) at now).runs.runs.between.heard

    some_end : (e : Option HartEnd) → IsSome e → (reason : HartEnd) × (e ≡ Some reason)
    some_end (Some reason) is = (reason, refl)
    some_end None is = absurd (let no : false ≡ true = is in cc)

    calm_at : (h : ℕ) (x y : X) → slice_get old h ≡ Some x → slice_get new h ≡ Some y → (seat y).lane.calling ≡ false
    calm_at zero x y at now = (through_at x y at now).calm
    calm_at (suc h) x y at now =
        let ran = (ran_at (suc h) x y (omega arith) at now).runs in
        let ended = some_end (hart y).«end» ran.ended in
        ran.runs.calm ended.0 ended.1

    ways_at : (h : ℕ) (x y : X) (reason : HartEnd) → slice_get old h ≡ Some x → slice_get new h ≡ Some y → slice_get ends h ≡ Some reason
        → WayOf w setup past alone started constructed h reason (seat y)
    ways_at zero x y reason at now ended = record {
      start = start_at 0 zeroth.0 zeroth.1;
      sets_off = constructed.sets_off;
      way = leaves 0 y (start_at 0 zeroth.0 zeroth.1) reason (number_at 0 x y at now)
          (subst (RanWhole w (start_at 0 zeroth.0 zeroth.1) [] (seat y)) (first_end reason ended) (whole_first zeroth.0 y now zeroth.1));
      first = λ is. subst (λ (r : HartEnd). GoesOn w setup past alone started constructed (seat y).heard r (seat y).trail) (first_end reason ended) (goes_on y now (number_at 0 x y at now));
    }
    ways_at (suc h) x y reason at now ended =
        let off_at = start_is w setup past started off.starts legal owners fits (suc h) (hart x) (low (suc h) x at) (hart_at (suc h) x at) in
        record {
          start = start_behind (suc h) x at;
          sets_off = record { from = refl; entry = off_at.entry; given = off_at.given; registers = off_at.registers; hart = off_at.hart };
          way = leaves (suc h) y (start_behind (suc h) x at) reason (number_at (suc h) x y at now) (whole_other (suc h) x y reason (omega arith) at now (end_of_other h y reason now ended));
          first = λ is. absurd (let no : suc h ≡ 0 = is in omega (arith, no));
        }

    pub have_run : HaveRun w setup past started ends (map seat new)
    have_run = record {
      all = length-map new seat ∙ long ∙ count;
      all_end = counted ∙ long ∙ count;
      numbers = λ h j got. let y = from_map seat new h j got in let x = old_at h y.0 y.1 in subst (λ (i : HartView). i.number ≡ h) y.2 (number_at h x.0 y.0 x.1 y.1);
      heard = λ k d low. each_seat (HasHeard w past) (λ h y at. let x = old_at h y at in heard_at h x.0 y x.1 at) k d low;
      calling = λ k d low. each_seat (λ j. j.lane.calling ≡ false) (λ h y at. let x = old_at h y at in calm_at h x.0 y x.1 at) k d low;
      alone = alone;
      constructed = constructed;
      begun = λ one got. let y = from_map seat new 0 one got in subst (λ (j : HartView). BeginsWith j.heard (past ++ alone)) y.2 (begun_at y.0 y.1);
      ways = λ h reason j ended got. let y = from_map seat new h j got in let x = old_at h y.0 y.1 in
          subst (WayOf w setup past alone started constructed h reason) y.2 (ways_at h x.0 y.0 reason x.1 y.1 ended);
      fronts = λ one h j got_one behind got.
          let y = from_map seat new 0 one got_one in
          let z = from_map seat new h j got in
          let within = slice_get_within old h (old_at h z.0 z.1).0 (old_at h z.0 z.1).1 in
          let front : BeginsWith (seat y.0).heard (seat z.0).heard =
          subst (λ (v : X). BeginsWith (seat y.0).heard (seat v).heard) (get_or_from_slice_get new h z.0 y.0 z.1)
          (subst (λ (v : X). BeginsWith (seat v).heard (seat (get_or new h y.0)).heard) (get_or_from_slice_get new 0 y.0 y.0 y.1) (fronts h y.0 behind within)) in
          subst (λ (i : HartView). BeginsWith one.heard i.heard) z.2 (subst (λ (i : HartView). BeginsWith i.heard (seat z.0).heard) y.2 front);
    }
      where
        one_less : (xs : List X) → 0 < length xs → suc (length (drop 1 xs)) ≡ length xs
        one_less [] some = absurd (let no : 0 < 0 = some in omega (arith, no))
        one_less (z ∷ xs) some = refl

        counted : length ends ≡ length new
        counted =
            let harts : w.machine.harts ≡ harts_of setup = machine_harts w setup past started off.starts in
            let all = count in
            sym (length-map ends (λ r. Some r)) ∙ ap length ends_are ∙ ap suc (length-map (drop 1 new) (λ x. (hart x).«end»)) ∙ one_less new (omega (arith, long, all, harts))

        each_seat : (P : HartView → Type 0) → ((h : ℕ) (y : X) → slice_get new h ≡ Some y → P (seat y)) → (k : ℕ) (d : HartView) → k < length (map seat new) → P (get_or (map seat new) k d)
        each_seat P holds k d low =
            let y = element_at new k (let many = length-map new seat in omega (arith, low, many)) in
            subst P (sym (get_or_from_slice_get (map seat new) k (seat y.0) d (in_map seat new k y.0 y.1))) (holds k y.0 y.1)
