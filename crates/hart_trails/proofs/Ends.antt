-- A whole way ends as the journal has it last.
use Rattle.std.proofs.Common.{◌≡◌, ◌≢◌, ℕ, zero, suc, ◌+◌, ◌-◌, ◌≤◌, ◌<◌, Bool, true, false, List, [], ◌∷◌, ◌++◌, length, length-append, map, take, drop, Option, Some, None, refl, sym, ap, subst, ◌∙◌, lt_of_not-le, arith}
use mathlib.Core.Logic.{dite}
use native.Mathlib.Decide.{ℕ_discrete, dec_le}
use Rattle.std.specs.Prelude.{◌||◌}
use Rattle.std.specs.List.{slice_get}
use Rattle.std.proofs.lemmas.Bool.{false≢true}
use Rattle.std.proofs.lemmas.Option.{none-some, slice_get_within}
use Rattle.ld_base.specs.declared.fault.DlFault.{DlFault}
use Rattle.history_event.specs.declared.event.Event.{Event}
use Rattle.history_event.specs.declared.event.Event.TheVariants.{Ended, Unmapped}
use Rattle.history_event.specs.declared.handed.Function.{Function}
use Rattle.history_event.specs.declared.handed.HartEntry.{HartEntry}
use Rattle.history_event.specs.declared.hart_end.HartEnd.{HartEnd}
use Rattle.history_event.specs.declared.hart_end.HartEnd.TheVariants.{Exit, Memory}
use Rattle.rv_hart.specs.Registers.{Registers}
use Rattle.history_state.specs.After.{after}
use Rattle.history_state.specs.Setting.{Setting}
use Rattle.history_calls.specs.Answer.{Answer, returns, loading, closing, refused, granted, told, again, over as over_answer}
use Rattle.history_calls.specs.Functions.{left}
use Rattle.history_calls.specs.Gives.{ending}
use Rattle.history_calls.specs.Served.{answer_text}
use Rattle.hart_moves.specs.Copying.{text_words}
use Rattle.hart_moves.specs.Due.{Return}
use Rattle.hart_moves.specs.Follows.{EndsBehind, Follows, FollowsToItsEnd, HasNone, Turned, TurnsAt}
use Rattle.hart_moves.specs.Harts.{Frame, HartState, Purpose}
use Rattle.hart_moves.specs.Lemmas.Legality.{ended_stays}
use Rattle.hart_moves.specs.Moves.{Did, Takes, TellsOf, events_of, final_functions, freed, freed_by, own_fini, runs, spent, with_first}
use Rattle.hart_moves.specs.Starting.{finalising_hart, starting_hart, starting_harts, starting_registers}
use Rattle.hart_moves.specs.TurnEvents.Appends.{Appends, NoneEndsOrUnmaps, has_finals, is_of_end, neither_ends_nor_unmaps}
use Rattle.hart_moves.specs.TurnEvents.Lemmas.Frames.{first_end, runs_end, telling_end}
use Rattle.hart_moves.specs.TurnEvents.Lemmas.Kinds.{Kind, kind_of}
use Rattle.hart_moves.specs.TurnEvents.Lemmas.Turning.{turns_append}
use Rattle.hart_moves.specs.TurnFrames.Leaves.{AreFrames, LeavesFrames}
use Rattle.hart_moves.specs.TurnFrames.Lemmas.Turning.{turns_leave_frames}
use Rattle.hart_trails.specs.Ends.{EndIsLast, IsFresh, IsLastEnd, NoneEnds, OneEndOfTrail, StartIsFresh}
use Rattle.hart_trails.proofs.Growing.{ends_follow}

-- ---- the final destructors' code

-- each frame of the final destructors is of such a code
abbrev Codes : (ℕ → Type 0) → Purpose → Type 0
Codes P purpose = elim purpose [ Purpose.of_end code ↦ P code | _ ↦ Unit {0} ]

abbrev AllCodes : (ℕ → Type 0) → List Frame → Type 0
AllCodes P [] = Unit {0}
AllCodes P (frame ∷ rest) = Codes P frame.purpose × AllCodes P rest

no_code : (P : ℕ → Type 0) (purpose : Purpose) → is_of_end purpose ≡ false → Codes P purpose
no_code P (Purpose.of_startup registers) none = tt
no_code P (Purpose.of_opening to root) none = tt
no_code P (Purpose.of_closing to set) none = tt
no_code P (Purpose.of_end code) none = absurd (false≢true (sym none))

no_codes : (P : ℕ → Type 0) (frames : List Frame) → has_finals frames ≡ false → AllCodes P frames
no_codes P [] none = tt
no_codes P (frame ∷ rest) none = by (no_codes P rest) (is_of_end frame.purpose) refl none
  where
    by : (has_finals rest ≡ false → AllCodes P rest) → (t : Bool) → is_of_end frame.purpose ≡ t → (t || has_finals rest) ≡ false → Codes P frame.purpose × AllCodes P rest
    by others true is other = absurd (false≢true (sym other))
    by others false is other = (no_code P frame.purpose is, others other)

-- frames of a purpose above others
framed : (P : ℕ → Type 0) (purpose : Purpose) (functions : List Function) (below frames : List Frame) → Codes P purpose → AllCodes P below → AreFrames purpose functions below frames → AllCodes P frames
framed P (Purpose.of_startup registers) [] below frames one all are = subst (AllCodes P) (sym are) all
framed P (Purpose.of_opening to root) [] below frames one all are = subst (AllCodes P) (sym are) all
framed P (Purpose.of_closing to set) [] below frames one all are = subst (AllCodes P) (sym are) (tt, all)
framed P (Purpose.of_end code) [] below frames one all are = subst (AllCodes P) (sym are) all
framed P purpose (f ∷ rest) below frames one all are = subst (AllCodes P) (sym are) (one, all)

codes_stay : (P : ℕ → Type 0) (w : Setting) (past : List Event) (h : ℕ) (b c : HartState) (did : Did) → LeavesFrames w past h b did c → AllCodes P b.frames → AllCodes P c.frames
codes_stay P w past h b c did (LeavesFrames.stays none same) all = subst (AllCodes P) (sym same) all
codes_stay P w past h b c did (LeavesFrames.enters purpose f address more rest below was addresses none pc now) all =
    let old = subst (AllCodes P) was all in subst (AllCodes P) (sym now) (old.0, old.1)
codes_stay P w past h b c did (LeavesFrames.loads to root id ask first rest ranges functions are events now back entered) all =
    framed P (Purpose.of_opening to root) (left functions) b.frames c.frames tt all now
codes_stay P w past h b c did (LeavesFrames.dies to handle first rest functions are events now back entered) all =
    framed P (Purpose.of_closing to (first ∷ rest)) (left functions) b.frames c.frames tt all now
codes_stay P w past h b c did (LeavesFrames.completes purpose f rest below not_end was events now entered) all =
    let old = subst (AllCodes P) was all in framed P purpose (left rest) below c.frames old.0 old.1 now
codes_stay P w past h b c did (LeavesFrames.unmaps to set below was events now registers) all =
    let old = subst (AllCodes P) was all in subst (AllCodes P) (sym now) old.1
codes_stay P w past h b c did (LeavesFrames.finalises code f rest below events next was finals are now entered) all =
    let old = subst (AllCodes P) was all in framed P (Purpose.of_end code) (final_functions next) [] c.frames old.0 tt now

-- ---- a turn that ends its hart without an event

spares_no_end : (front : List Event) (h : ℕ) (reason : HartEnd) → NoneEndsOrUnmaps (front ++ Ended h reason ∷ []) → ⊥
spares_no_end [] h reason spares = false≢true spares.0
spares_no_end (e ∷ front) h reason spares = spares_no_end front h reason spares.1

-- the last of the final destructors end the hart by their code
abbrev EndsByCode : HartState → HartEnd → Type 0
EndsByCode b reason = (code : ℕ) × (queue : List Function) × (below : List Frame) × (b.frames ≡ record { purpose = Purpose.of_end code; queue = queue } ∷ below) × (reason ≡ Exit code)

freed_end : (added : List Event) (b : HartState) → (freed_by added b).«end» ≡ b.«end»
freed_end [] b = refl
freed_end (e ∷ rest) b = refl

module _ (w : Setting) (past : List Event) (h : ℕ) (b : HartState) (on : b.«end» ≡ None) where
  still : (c : HartState) (reason : HartEnd) → c.«end» ≡ b.«end» → c.«end» ≡ Some reason → EndsByCode b reason
  still c reason same over = absurd (let no : None ≡ Some reason = sym (same ∙ on) ∙ over in cc)

  by_telling : (text : ℕ) (to : Return) (fault : Option DlFault) (appended : List Event) (did : Did) (c : HartState) (reason : HartEnd) → c.«end» ≡ Some reason → TellsOf text b to fault appended did c → EndsByCode b reason
  by_telling text to (Some fault) appended did c reason over x = still c reason (ap (λ (z : HartState). z.«end») x.leaves ∙ telling_end text (text_words (answer_text fault)) (freed b)) over
  by_telling text to None appended did c reason over x = still c reason (ap (λ (z : HartState). z.«end») x.leaves) over

  by_kind : (did : Did) (c : HartState) (reason : HartEnd) → NoneEndsOrUnmaps (events_of did) → c.«end» ≡ Some reason → Kind w past h b did c → EndsByCode b reason
  by_kind did c reason spares over (Kind.goes none frames same) = still c reason same over
  by_kind did c reason spares over (Kind.ends other is frames ended) = absurd (false≢true (subst NoneEndsOrUnmaps is spares).0)
  by_kind did c reason spares over (Kind.calls asked to from x) = by_answer x.answer x.serves.are x.takes
    where
      by_answer : (answer : Answer) → x.appended ≡ x.serves.given ++ ending h answer → Takes w past h b asked to answer x.appended did c → EndsByCode b reason
      by_answer (returns value) are y = still c reason (ap (λ (z : HartState). z.«end») y.leaves) over
      by_answer (loading root added) are y = still c reason (ap (λ (z : HartState). z.«end») y.passes.leaves ∙ runs_end (Purpose.of_opening to.to root) (left y.functions) to.frames (freed b) refl) over
      by_answer (closing set) are y = still c reason (ap (λ (z : HartState). z.«end») y.passes.leaves ∙ runs_end (Purpose.of_closing to.to set) (left y.functions) to.frames (freed b) refl) over
      by_answer (refused fault) are y = still c reason (ap (λ (z : HartState). z.«end») y.leaves) over
      by_answer (granted g) are y = still c reason (ap (λ (z : HartState). z.«end») y.leaves) over
      by_answer (told fault) are y = by_telling _ to fault x.appended did c reason over y
      by_answer (again for) are y = still c reason (ap (λ (z : HartState). z.«end») y.leaves) over
      by_answer (over_answer other) are y = absurd (spares_no_end x.serves.given h other (subst NoneEndsOrUnmaps (ap events_of y.is ∙ are) spares))
  by_kind did c reason spares over (Kind.enters function frames from x) = still c reason (ap (λ (z : HartState). z.«end») x.leaves) over
  by_kind did c reason spares over (Kind.completes purpose object rest below not_end from x) =
      still c reason (ap (λ (z : HartState). z.«end») x.passes.leaves ∙ runs_end purpose (left rest) below (freed b) not_end) over
  by_kind did c reason spares over (Kind.finalises code object rest below from x) = by_next x.next x.leaves
    where
      own : List Event
      own = own_fini (after past) h object ++ x.events

      by_next : (next : Option Function) → c ≡ spent (runs (Purpose.of_end code) (final_functions next) [] (freed_by (own_fini (after past) h object ++ x.events) b)) → EndsByCode b reason
      by_next None leaves = (code, from.function ∷ rest, below, from.before, (let ended : Some (Exit code) ≡ Some reason = sym (ap (λ (z : HartState). z.«end») leaves) ∙ over in let same : Exit code ≡ reason = cc in sym same))
      by_next (Some f) leaves =
          still c reason (ap (λ (z : HartState). z.«end») leaves ∙ first_end (Purpose.of_end code) f.object f.addresses [] [] (freed_by own b) ∙ freed_end own b) over

-- ---- parts of a journal

take_at : {X : Type 0} (n : ℕ) (xs : List X) (k : ℕ) → k < n → slice_get (take n xs) k ≡ slice_get xs k
take_at {X} zero xs k low = absurd (omega (arith, low))
take_at {X} (suc n) [] k low = refl
take_at {X} (suc n) (x ∷ xs) zero low = refl
take_at {X} (suc n) (x ∷ xs) (suc k) low = take_at n xs k (omega (arith, low))

drop_at : {X : Type 0} (n : ℕ) (xs : List X) (k : ℕ) → slice_get (drop n xs) k ≡ slice_get xs (n + k)
drop_at {X} zero xs k = ap (slice_get xs) (let same : k ≡ 0 + k = omega arith in same)
drop_at {X} (suc n) [] k = refl
drop_at {X} (suc n) (x ∷ xs) k = let same : suc n + k ≡ suc (n + k) = omega arith in drop_at n xs k ∙ sym (ap (slice_get (x ∷ xs)) same)

at_end : (front : List Event) (e : Event) → slice_get (front ++ e ∷ []) (length front) ≡ Some e
at_end [] e = refl
at_end (x ∷ front) e = at_end front e

-- no event among some that spare all is an end
spares_at : (events : List Event) (k h : ℕ) (reason : HartEnd) → NoneEndsOrUnmaps events → slice_get events k ≡ Some (Ended h reason) → ⊥
spares_at [] k h reason spares at = none-some (Ended h reason) at
spares_at (e ∷ events) zero h reason spares at = let same : e ≡ Ended h reason = cc in false≢true (sym (ap neither_ends_nor_unmaps same) ∙ spares.0)
spares_at (e ∷ events) (suc k) h reason spares at = spares_at events k h reason spares.1 at

none_ends : (journal : List Event) (h from to : ℕ) → HasNone journal h from to → NoneEnds journal h from to
none_ends journal h from to none k reason low high at = none k (Ended h reason) low high at refl

both_none : (journal : List Event) (h from mid to : ℕ) → NoneEnds journal h from mid → NoneEnds journal h mid to → NoneEnds journal h from to
both_none journal h from mid to first second k reason low high at = dite (dec_le mid k)
    (λ (late : mid ≤ k). second k reason late high at)
    (λ (early : ¬ (mid ≤ k)). first k reason low (lt_of_not-le early) at)

-- ---- ways

-- the hart runs on, or has ended by its last event; or by the last of the final destructors
data Way (P : ℕ → Type 0) (journal : List Event) (h from to : ℕ) (c : HartState) : Type 0 where
  runs_on : c.«end» ≡ None → AllCodes P c.frames → NoneEnds journal h from to → Way P journal h from to c
  has_ended : (at : ℕ) (reason : HartEnd) → from ≤ at → at + 1 ≡ to → slice_get journal at ≡ Some (Ended h reason) → c.«end» ≡ Some reason → Way P journal h from to c
  has_passed : (code : ℕ) → P code → c.«end» ≡ Some (Exit code) → NoneEnds journal h from to → Way P journal h from to c

-- a hart that runs isn't one that has ended
on_no : (b : HartState) (reason : HartEnd) → b.«end» ≡ None → b.«end» ≡ Some reason → ⊥
on_no b reason on over = let no : None ≡ Some reason = sym on ∙ over in absurd cc

module _ (P : ℕ → Type 0) (w : Setting) (journal : List Event) (h : ℕ) where
  -- the turn's own events stand at their place
  own_at : (at : ℕ) (own : List Event) → take (length own) (drop at journal) ≡ own → (k : ℕ) → k < length own → slice_get journal (at + k) ≡ slice_get own k
  own_at at own is k low = sym (drop_at at journal k) ∙ sym (take_at (length own) (drop at journal) k low) ∙ ap (λ (es : List Event). slice_get es k) is

  spared : (at : ℕ) (own : List Event) → take (length own) (drop at journal) ≡ own → NoneEndsOrUnmaps own → NoneEnds journal h at (at + length own)
  spared at own is spares k reason low high there =
      let place : at + (k - at) ≡ k = omega (arith, low) in
      let within : k - at < length own = omega (arith, low, high) in
      spares_at own (k - at) h reason spares (sym (own_at at own is (k - at) within) ∙ ap (slice_get journal) place ∙ there)

  one_turn : (turn : Turned) (b c : HartState) → b.«end» ≡ None → AllCodes P b.frames → TurnsAt w journal h turn b c → Way P journal h turn.at (turn.at + length (events_of turn.did)) c
  one_turn turn b c on codes x = by (turns_append w (take turn.at journal) h b c turn.did x.moves)
    where
      leaves : AllCodes P c.frames
      leaves = codes_stay P w (take turn.at journal) h b c turn.did (turns_leave_frames w (take turn.at journal) h b c turn.did x.moves) codes

      by : Appends (take turn.at journal) h b turn.did c → Way P journal h turn.at (turn.at + length (events_of turn.did)) c
      by (Appends.no_end spares same) = Way.runs_on (same ∙ on) leaves (spared turn.at (events_of turn.did) x.own spares)
      by (Appends.unmapping set are same) = Way.runs_on (same ∙ on) leaves none
        where
          none : NoneEnds journal h turn.at (turn.at + length (events_of turn.did))
          none k reason low high there =
              let count : length (events_of turn.did) ≡ 1 = ap length are in
              let place : turn.at + 0 ≡ k = omega (arith, low, high, count) in
              let no : Some (Unmapped h set) ≡ Some (Ended h reason) =
              ap (λ (es : List Event). slice_get es 0) (sym are) ∙ sym (own_at turn.at (events_of turn.did) x.own 0 (omega (arith, count))) ∙ ap (slice_get journal) place ∙ there in
              absurd cc
      by (Appends.an_end front reason spares are over) =
          let count : length (events_of turn.did) ≡ length front + 1 = ap length are ∙ length-append front (Ended h reason ∷ []) in
          Way.has_ended (turn.at + length front) reason (omega arith) (omega (arith, count))
          (own_at turn.at (events_of turn.did) x.own (length front) (omega (arith, count)) ∙ ap (λ (es : List Event). slice_get es (length front)) are ∙ at_end front (Ended h reason)) over
      by (Appends.after_finals code spares finals over all) =
          let ends = by_kind w (take turn.at journal) h b on turn.did c (Exit code) spares over (kind_of w (take turn.at journal) h b turn.did c x.moves) in
          let same : Exit code ≡ Exit ends.0 = ends.4 in
          Way.has_passed ends.0 (subst (AllCodes P) ends.3 codes).0 (over ∙ ap (λ (r : HartEnd). Some r) same) (spared turn.at (events_of turn.did) x.own spares)

  -- a hart that has ended takes no turn more
  stops : (from to : ℕ) (c d : HartState) (reason : HartEnd) (turns : List Turned) → c.«end» ≡ Some reason → Follows w journal h from c turns to d → (to ≡ from) × (d ≡ c)
  stops from to c d reason turns over (Follows.no_more _ _) = (refl, refl)
  stops from to c d reason turns over (Follows.one_more _ _ _ e _ next more later none y on_it) = absurd (ended_stays w (take next.at journal) h c e next.did reason over y.moves)

  way : (from to : ℕ) (b d : HartState) (turns : List Turned) → b.«end» ≡ None → AllCodes P b.frames → Follows w journal h from b turns to d → Way P journal h from to d
  way from to b d turns on codes (Follows.no_more _ _) = Way.runs_on on codes (λ k reason low high at. let no : ⊥ = omega (arith, low, high) in no)
  way from to b d turns on codes (Follows.one_more _ _ _ c _ turn rest late none x follows) =
      by (λ still all. way (turn.at + length (events_of turn.did)) to c d rest still all follows) (one_turn turn b c on codes x)
    where
      before : NoneEnds journal h from turn.at
      before = none_ends journal h from turn.at none

      by : (c.«end» ≡ None → AllCodes P c.frames → Way P journal h (turn.at + length (events_of turn.did)) to d) → Way P journal h turn.at (turn.at + length (events_of turn.did)) c
          → Way P journal h from to d
      by further (Way.runs_on runs all own) = joined (further runs all)
        where
          joined : Way P journal h (turn.at + length (events_of turn.did)) to d → Way P journal h from to d
          joined (Way.runs_on goes_on behind none_behind) =
              Way.runs_on goes_on behind (both_none journal h from turn.at to before (both_none journal h turn.at (turn.at + length (events_of turn.did)) to own none_behind))
          joined (Way.has_ended at reason low next there over) = Way.has_ended at reason (omega (arith, low, late)) next there over
          joined (Way.has_passed code is over none_behind) =
              Way.has_passed code is over (both_none journal h from turn.at to before (both_none journal h turn.at (turn.at + length (events_of turn.did)) to own none_behind))
      by further (Way.has_ended at reason low next there over) =
          let same = stops (turn.at + length (events_of turn.did)) to c d reason rest over follows in
          Way.has_ended at reason (omega (arith, low, late)) (next ∙ sym same.0) there (ap (λ (z : HartState). z.«end») same.1 ∙ over)
      by further (Way.has_passed code is over own) =
          let same = stops (turn.at + length (events_of turn.did)) to c d (Exit code) rest over follows in
          Way.has_passed code is (ap (λ (z : HartState). z.«end») same.1 ∙ over)
          (subst (NoneEnds journal h from) (sym same.0) (both_none journal h from turn.at (turn.at + length (events_of turn.did)) before own))

-- ---- the end

some_same : (x y : HartEnd) → Some x ≡ Some y → x ≡ y
some_same x y e = cc

none_behind : (journal : List Event) (h from : ℕ) → HasNone journal h from (length journal) → (k : ℕ) (other : HartEnd) → from ≤ k → slice_get journal k ≡ Some (Ended h other) → ⊥
none_behind journal h from none k other low there = none k (Ended h other) low (slice_get_within journal k (Ended h other) there) there refl

module _ (w : Setting) (journal : List Event) (h : ℕ) (registers : Registers) (from to : ℕ) (ended : HartState) (first : HartEnd) (over : ended.«end» ≡ Some first)
    (at : ℕ) (since : from ≤ at) (next : at + 1 ≡ to) (there : slice_get journal at ≡ Some (Ended h first)) where
  at_first : ((k : ℕ) (other : HartEnd) → to ≤ k → slice_get journal k ≡ Some (Ended h other) → ⊥) → IsLastEnd journal h from first
  at_first none = record { at = at; since = since; there = there; last = λ k other late here. none k other (omega (arith, late, next)) here }

  behind : (reason : HartEnd) → EndsBehind w journal h registers to ended first reason → IsLastEnd journal h from reason
  behind _ (EndsBehind.is_another other none) = at_first (none_behind journal h to none)
  behind _ (EndsBehind.none_runs is none runs) = at_first (none_behind journal h to none)
  behind _ (EndsBehind.none_is_left is none left) = at_first (none_behind journal h to none)
  behind _ (EndsBehind.no_memory is place lacks none) = record {
    at = place;
    since = let late : to ≤ place = lacks.since in omega (arith, since, next, late);
    there = subst (λ (n : ℕ). slice_get journal place ≡ Some (Ended n Memory)) (sym is) lacks.ends;
    last = λ k other late here. none_behind journal h (place + 1) none k other (omega (arith, late)) here;
  }
  behind _ (EndsBehind.all_run is place last begun final turns reason begins follows ends none) =
      by (way (λ (code : ℕ). code ≡ begins.code) w journal h place last begun final turns begun_on begun_codes follows)
    where
      f : Function
      f = record { object = begins.object; addresses = begins.addresses }

      new_on : (addresses : List ℕ) → (finalising_hart registers begins.code (record { object = begins.object; addresses = addresses }) ended).«end» ≡ None
      new_on [] = refl
      new_on (a ∷ more) = refl

      new_codes : (addresses : List ℕ) → AllCodes (λ (code : ℕ). code ≡ begins.code) (finalising_hart registers begins.code (record { object = begins.object; addresses = addresses }) ended).frames
      new_codes [] = (refl, tt)
      new_codes (a ∷ more) = (refl, tt)

      begun_on : begun.«end» ≡ None
      begun_on = ap (λ (z : HartState). z.«end») begins.is ∙ new_on begins.addresses

      begun_codes : AllCodes (λ (code : ℕ). code ≡ begins.code) begun.frames
      begun_codes = subst (λ (z : HartState). AllCodes (λ (code : ℕ). code ≡ begins.code) z.frames) (sym begins.is) (new_codes begins.addresses)

      none_between : NoneEnds journal h to place
      none_between = subst (λ (n : ℕ). NoneEnds journal n to place) (sym is) (none_ends journal 0 to place begins.none)

      by : Way (λ (code : ℕ). code ≡ begins.code) journal h place last final → IsLastEnd journal h from reason
      by (Way.runs_on on codes none_there) = absurd (on_no final reason on ends)
      by (Way.has_ended place' other low end_next end_there end_is) = record {
        at = place';
        since = let late : to ≤ place = begins.since in omega (arith, since, next, late, low);
        there = subst (λ (r : HartEnd). slice_get journal place' ≡ Some (Ended h r)) (some_same other reason (sym end_is ∙ ends)) end_there;
        last = λ k more late here. none_behind journal h last none k more (omega (arith, late, end_next)) here;
      }
      by (Way.has_passed code same end_is none_there) =
          let ends_first : first ≡ Exit begins.code = some_same first (Exit begins.code) (sym over ∙ begins.exited) in
          let ends_last : Exit code ≡ reason = some_same (Exit code) reason (sym end_is ∙ ends) in
          subst (IsLastEnd journal h from) (ends_first ∙ ap Exit (sym same) ∙ ends_last)
          (at_first (λ k other late here. dite (dec_le last k)
          (λ (past : last ≤ k). none_behind journal h last none k other past here)
          (λ (early : ¬ (last ≤ k)). both_none journal h to place last none_between none_there k other late (lt_of_not-le early) here)))

follows_last : (w : Setting) (journal : List Event) (start_from : ℕ) (registers : Registers) (start ended : HartState) (h to : ℕ) (turns : List Turned) (first reason : HartEnd) → IsFresh start
    → Follows w journal h start_from start turns to ended → ended.«end» ≡ Some first → EndsBehind w journal h registers to ended first reason → IsLastEnd journal h start_from reason
follows_last w journal from registers start ended h to turns first reason fresh follows over back =
    by (way (λ (code : ℕ). ⊥) w journal h from to start ended turns fresh.runs (no_codes (λ (code : ℕ). ⊥) start.frames fresh.no_finals) follows)
  where
    by : Way (λ (code : ℕ). ⊥) journal h from to ended → IsLastEnd journal h from reason
    by (Way.runs_on on codes none) = absurd (on_no ended first on over)
    by (Way.has_ended at other low next there is) =
        behind w journal h registers from to ended first over at low next (subst (λ (r : HartEnd). slice_get journal at ≡ Some (Ended h r)) (some_same other first (sym is ∙ over)) there) reason back
    by (Way.has_passed code never is none) = absurd never

pub end_is_last : EndIsLast
end_is_last w journal start h reason trail fresh leaves =
    let x : FollowsToItsEnd w journal start h reason = ends_follow w journal start h reason trail leaves in
    follows_last w journal start.from start.registers start.hart x.ended h x.to x.turns x.first reason fresh x.follows x.ends x.behind

one_last : (journal : List Event) (h from : ℕ) (reason other : HartEnd) → IsLastEnd journal h from reason → IsLastEnd journal h from other → reason ≡ other
one_last journal h from reason other x y = dite (ℕ_discrete x.at y.at)
    (λ (same : x.at ≡ y.at). let both : Some (Ended h reason) ≡ Some (Ended h other) = sym x.there ∙ ap (slice_get journal) same ∙ y.there in cc)
    (λ (apart : x.at ≢ y.at). dite (dec_le (x.at + 1) y.at)
    (λ (late : x.at + 1 ≤ y.at). absurd (x.last y.at other (omega (arith, late)) y.there))
    (λ (early : ¬ (x.at + 1 ≤ y.at)). absurd (let low : y.at < x.at + 1 = lt_of_not-le early in y.last x.at reason (omega (arith, low, apart)) x.there)))

pub one_end_of_trail : OneEndOfTrail
one_end_of_trail w journal start h reason other trail fresh x y =
    one_last journal h start.from reason other (end_is_last w journal start h reason trail fresh x) (end_is_last w journal start h other trail fresh y)

-- ---- where it starts

first_fresh : (fuel : ℕ) (entry : HartEntry) (functions : List Function) → IsFresh (runs (Purpose.of_startup (starting_registers entry)) functions [] (starting_hart fuel entry))
first_fresh fuel entry [] = record { runs = refl; no_finals = refl }
first_fresh fuel entry (f ∷ rest) = by f.addresses refl
  where
    by : (addresses : List ℕ) → f.addresses ≡ addresses → IsFresh (runs (Purpose.of_startup (starting_registers entry)) (f ∷ rest) [] (starting_hart fuel entry))
    by [] are = subst (λ (all : List ℕ). IsFresh (with_first (Purpose.of_startup (starting_registers entry)) f.object all rest [] (starting_hart fuel entry))) (sym are) (record { runs = refl; no_finals = refl })
    by (a ∷ more) are = subst (λ (all : List ℕ). IsFresh (with_first (Purpose.of_startup (starting_registers entry)) f.object all rest [] (starting_hart fuel entry))) (sym are) (record { runs = refl; no_finals = refl })

others_fresh : (fuel h : ℕ) (entries : List HartEntry) (b : HartState) → slice_get (map (starting_hart fuel) entries) h ≡ Some b → IsFresh b
others_fresh fuel h [] b at = absurd (none-some b at)
others_fresh fuel zero (entry ∷ rest) b at = subst IsFresh (let same : starting_hart fuel entry ≡ b = cc in same) (record { runs = refl; no_finals = refl })
others_fresh fuel (suc h) (entry ∷ rest) b at = others_fresh fuel h rest b at

all_fresh : (fuel h : ℕ) (functions : List Function) (entries : List HartEntry) (b : HartState) → slice_get (starting_harts fuel functions entries) h ≡ Some b → IsFresh b
all_fresh fuel h functions [] b at = absurd (none-some b at)
all_fresh fuel zero functions (entry ∷ rest) b at =
    subst IsFresh (let same : runs (Purpose.of_startup (starting_registers entry)) functions [] (starting_hart fuel entry) ≡ b = cc in same) (first_fresh fuel entry functions)
all_fresh fuel (suc h) functions (entry ∷ rest) b at = others_fresh fuel h rest b at

pub start_is_fresh : StartIsFresh
start_is_fresh fuel past started h start is = all_fresh fuel h started.functions started.entries start.hart is.hart
