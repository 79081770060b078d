-- A hart that has ended did so as its last Ended event says, in each world that a run may come to.
use Rattle.std.proofs.Common.{◌≡◌, ◌⊎◌, inl, inr, ⊎_elim, ℕ, zero, suc, ◌+◌, ◌-◌, eqb, Bool, true, false, cond, List}
use Rattle.std.proofs.Common.{[], ◌∷◌, ◌++◌, length, filter, map, Option, Some, None, refl, sym, ap, subst, ◌∙◌, length-append, append-nil, arith}
use Rattle.std.specs.List.{Contains, slice_get}
use Rattle.std.specs.Prelude.{slice_set}
use Rattle.std.proofs.lemmas.Bool.{eq-eqb, eqb-true, false≢true, true≢false}
use Rattle.std.proofs.lemmas.List.{length-map, map-append}
use Rattle.std.proofs.lemmas.List.Elements.{filter-append}
use Rattle.std.proofs.lemmas.Option.{none-some}
use Rattle.ld_base.specs.declared.fault.DlFault.{DlFault}
use Rattle.history_event.specs.declared.event.Event.{Event}
use Rattle.history_event.specs.declared.event.Event.TheVariants as events
use Rattle.history_event.specs.declared.handed.Function.{Function}
use Rattle.history_event.specs.declared.handed.HartEntry.{HartEntry}
use Rattle.history_event.specs.declared.hart_end.HartEnd.{HartEnd}
use Rattle.history_event.specs.declared.hart_end.HartEnd.TheVariants as ends
use Rattle.history_event.specs.declared.state.Ending.{Ending}
use Rattle.history_state.specs.After.{after}
use Rattle.history_state.specs.Owed.{is_end_of}
use Rattle.history_state.specs.Setting.{Setting}
use Rattle.history_state.specs.State.{State}
use Rattle.history_state.specs.Lemmas.History.{after_push}
use Rattle.history_state.specs.Lemmas.Lists.{first_or_later, here, later, none_in}
use Rattle.history_calls.specs.declared.link_served.startup.Setup.{Setup}
use Rattle.history_calls.specs.Answer.{Answer, returns, loading, closing, refused, granted, told, again}
use Rattle.history_calls.specs.Call.{Call}
use Rattle.history_calls.specs.Functions.{left}
use Rattle.history_calls.specs.Gives.{ending}
use Rattle.history_calls.specs.Lemmas.Unique.{both_found}
use Rattle.rv_hart.specs.Registers.{Registers}
use Rattle.hart_moves.specs.Due.{Return}
use Rattle.hart_moves.specs.Harts.{Frame, HartState, Phase, Purpose}
use Rattle.hart_moves.specs.Lemmas.Legality.{ended_stays}
use Rattle.hart_moves.specs.Moves.{Did, Moves, Takes, TellsOf, ended, events_of, final_functions, freed, freed_by, own_fini, runs, settles, spent}
use Rattle.hart_moves.specs.Copying.{text_words}
use Rattle.history_calls.specs.Served.{answer_text}
use Rattle.hart_moves.specs.Starting.{finalising_hart, starting_hart, starting_harts, starting_registers}
use Rattle.hart_moves.specs.TurnEvents.Appends.{Appends, NoneEndsOrUnmaps, is_of_end}
use Rattle.hart_moves.specs.TurnEvents.Lemmas.Frames.{first_end, runs_end, telling_end}
use Rattle.hart_moves.specs.TurnEvents.Lemmas.Kinds.{Kind, kind_of}
use Rattle.hart_moves.specs.TurnEvents.Lemmas.Turning.{turns_append}
use Rattle.hart_moves.specs.TurnFrames.Leaves.{AreFrames, LeavesFrames, behind_first}
use Rattle.hart_moves.specs.TurnFrames.Lemmas.Turning.{runs_frames, turns_leave_frames}
use Rattle.trace_text.specs.RunTexts.Ends.{AreLastEnds, ends_of, last_end}
use Rattle.world_turns.specs.Run.{IsStarted, LacksMemory, RunBegins, settled}
use Rattle.world_turns.specs.Turn.{Turn}
use Rattle.world_turns.specs.World.{World, found_harts, found_journal, settling}
use Rattle.world_turns.specs.Lemmas.Turning.{freed_at}
use Rattle.world_turns.specs.WorldEnds.Lemmas.Endings.{an_end, sparing_events, unmapping}
use Rattle.world_turns.specs.WorldEnds.Lemmas.Places.{at_set, running, set_here}
use Rattle.world_turns.specs.WorldEnds.Lemmas.Settled.{found_keeps, settling_keeps}
use Rattle.world_laws.specs.WorldSlots.Later.{Later, Part, Steps}
use Rattle.world_laws.proofs.RunMoments.Unmapped.{get_last}

-- ---- the last end

abbrev an_ending : ℕ → HartEnd → Ending
an_ending h reason = record { hart = h; «end» = reason }

ends_more : (j : ℕ) (es : List Ending) (e : Ending) → ends_of j (es ++ e ∷ []) ≡ ends_of j es ++ ends_of j (e ∷ [])
ends_more j es e =
    ap (λ (xs : List Ending). map (λ (x : Ending). x.«end») xs) (filter-append (is_end_of j) es (e ∷ []))
    ∙ map-append (λ (x : Ending). x.«end») (filter (is_end_of j) es) (filter (is_end_of j) (e ∷ []))

abbrev last_in : List HartEnd → Option HartEnd
last_in xs = slice_get xs (length xs - 1)

last_of_more : (xs : List HartEnd) (reason : HartEnd) → last_in (xs ++ reason ∷ []) ≡ Some reason
last_of_more xs reason =
    let long : length (xs ++ reason ∷ []) ≡ length xs + 1 = length-append xs (reason ∷ []) in
    let place : length (xs ++ reason ∷ []) - 1 ≡ length xs = omega (arith, long) in
    ap (λ (n : ℕ). slice_get (xs ++ reason ∷ []) n) place ∙ get_last xs reason

last_here : (h : ℕ) (es : List Ending) (reason : HartEnd) → last_end h (es ++ an_ending h reason ∷ []) ≡ Some reason
last_here h es reason =
    let own : ends_of h (an_ending h reason ∷ []) ≡ reason ∷ [] =
    ap (λ (t : Bool). map (λ (x : Ending). x.«end») (cond t (an_ending h reason ∷ []) [])) (eq-eqb h h refl) in
    ap last_in (ends_more h es (an_ending h reason) ∙ ap (λ (xs : List HartEnd). ends_of h es ++ xs) own) ∙ last_of_more (ends_of h es) reason

differs : (h j : ℕ) → (h ≡ j → ⊥) → (t : Bool) → eqb h j ≡ t → eqb h j ≡ false
differs h j apart true is = absurd (apart (eqb-true h j is))
differs h j apart false is = is

last_other : (h j : ℕ) (es : List Ending) (reason : HartEnd) → (h ≡ j → ⊥) → last_end j (es ++ an_ending h reason ∷ []) ≡ last_end j es
last_other h j es reason apart =
    let none : ends_of j (an_ending h reason ∷ []) ≡ [] =
    ap (λ (t : Bool). map (λ (x : Ending). x.«end») (cond t (an_ending h reason ∷ []) [])) (differs h j apart (eqb h j) refl) in
    ap last_in (ends_more j es (an_ending h reason) ∙ ap (λ (xs : List HartEnd). ends_of j es ++ xs) none ∙ append-nil (ends_of j es))

-- ---- frames of the run's end

-- with this code
pub record HasFinal (frames : List Frame) (code : ℕ) : Type 0 where
  pub queue : List Function
  pub there : Contains frames (record { purpose = Purpose.of_end code; queue = queue })

no_final : {P : Type 0} (code : ℕ) → HasFinal [] code → P
no_final code x = absurd (none_in _ x.there)

-- it is the first, or below it
first_final : (frame : Frame) (below : List Frame) (code : ℕ) → HasFinal (frame ∷ below) code → (frame.purpose ≡ Purpose.of_end code) ⊎ HasFinal below code
first_final frame below code x = ⊎_elim
    (λ (is : frame ≡ record { purpose = Purpose.of_end code; queue = x.queue }). inl (ap (λ (f : Frame). f.purpose) is))
    (λ (more : Contains below (record { purpose = Purpose.of_end code; queue = x.queue })). inr (record { queue = x.queue; there = more }))
    (first_or_later frame below (record { purpose = Purpose.of_end code; queue = x.queue }) x.there)

-- frames that are begun
begun_final : (purpose : Purpose) (functions : List Function) (below frames : List Frame) (code : ℕ) → AreFrames purpose functions below frames
    → HasFinal frames code
    → (purpose ≡ Purpose.of_end code) ⊎ HasFinal below code
begun_final purpose (f ∷ rest) below frames code are x =
    first_final (record { purpose = purpose; queue = behind_first f ∷ rest }) below code (subst (λ (fs : List Frame). HasFinal fs code) are x)
begun_final (Purpose.of_startup registers) [] below frames code are x = inr (subst (λ (fs : List Frame). HasFinal fs code) are x)
begun_final (Purpose.of_opening to root) [] below frames code are x = inr (subst (λ (fs : List Frame). HasFinal fs code) are x)
begun_final (Purpose.of_closing to set) [] below frames code are x =
    first_final (record { purpose = Purpose.of_closing to set; queue = [] }) below code (subst (λ (fs : List Frame). HasFinal fs code) are x)
begun_final (Purpose.of_end other) [] below frames code are x = inr (subst (λ (fs : List Frame). HasFinal fs code) are x)

-- frames below a first one
under : (frames below : List Frame) (frame : Frame) (code : ℕ) → frames ≡ frame ∷ below → HasFinal below code → HasFinal frames code
under frames below frame code are x =
    subst (λ (fs : List Frame). HasFinal fs code) (sym are)
    (record { queue = x.queue; there = later frame below (record { purpose = Purpose.of_end code; queue = x.queue }) x.there })

on_top : (frames below : List Frame) (purpose : Purpose) (queue : List Function) (code : ℕ) → frames ≡ record { purpose = purpose; queue = queue } ∷ below
    → purpose ≡ Purpose.of_end code → HasFinal frames code
on_top frames below purpose queue code are is =
    subst (λ (fs : List Frame). HasFinal fs code) (sym are) (subst (λ (p : Purpose). HasFinal (record { purpose = p; queue = queue } ∷ below) code) (sym is)
    (record { queue = queue; there = here (record { purpose = Purpose.of_end code; queue = queue }) below }))

not_end : {P : Type 0} (purpose : Purpose) (code : ℕ) → is_of_end purpose ≡ false → purpose ≡ Purpose.of_end code → P
not_end purpose code none is = absurd (false≢true (sym none ∙ ap is_of_end is))

-- what a turn tells of its hart's end: the hart runs on; its Ended event stands last; or the last final destructors have run, and leave their code
pub data EndsSo (past : List Event) (h : ℕ) (b : HartState) (did : Did) (c : HartState) : Type 0 where
  goes_on : (after (past ++ events_of did)).endings ≡ (after past).endings → c.«end» ≡ None → EndsSo past h b did c
  is_told : (reason : HartEnd) → (after (past ++ events_of did)).endings ≡ (after past).endings ++ an_ending h reason ∷ [] → c.«end» ≡ Some reason
      → EndsSo past h b did c
  is_final : (code : ℕ) → (after (past ++ events_of did)).endings ≡ (after past).endings → HasFinal b.frames code → c.«end» ≡ Some (ends.Exit code)
      → EndsSo past h b did c

module _ (w : Setting) (past : List Event) (h : ℕ) (b c : HartState) (did : Did) where
  -- a turn begins none
  kept_final : LeavesFrames w past h b did c → (code : ℕ) → HasFinal c.frames code → HasFinal b.frames code
  kept_final (LeavesFrames.stays none same) code x = subst (λ (fs : List Frame). HasFinal fs code) same x
  kept_final (LeavesFrames.enters purpose f address more rest below was has none pc is) code x = ⊎_elim
      (λ (final : purpose ≡ Purpose.of_end code). on_top b.frames below purpose (f ∷ rest) code was final)
      (λ (more_below : HasFinal below code). under b.frames below (record { purpose = purpose; queue = f ∷ rest }) code was more_below)
      (first_final (record { purpose = purpose; queue = record f { addresses = more } ∷ rest }) below code (subst (λ (fs : List Frame). HasFinal fs code) is x))
  kept_final (LeavesFrames.loads to root id ask first rest ranges functions are is frames back entered) code x = ⊎_elim
      (λ (final : Purpose.of_opening to root ≡ Purpose.of_end code). not_end (Purpose.of_opening to root) code refl final)
      (λ (below : HasFinal b.frames code). below)
      (begun_final (Purpose.of_opening to root) (left functions) b.frames c.frames code frames x)
  kept_final (LeavesFrames.dies to handle first rest functions are is frames back entered) code x = ⊎_elim
      (λ (final : Purpose.of_closing to (first ∷ rest) ≡ Purpose.of_end code). not_end (Purpose.of_closing to (first ∷ rest)) code refl final)
      (λ (below : HasFinal b.frames code). below)
      (begun_final (Purpose.of_closing to (first ∷ rest)) (left functions) b.frames c.frames code frames x)
  kept_final (LeavesFrames.completes purpose f rest below none was is frames entered) code x = ⊎_elim
      (λ (final : purpose ≡ Purpose.of_end code). not_end purpose code none final)
      (λ (more : HasFinal below code). under b.frames below (record { purpose = purpose; queue = f ∷ rest }) code was more)
      (begun_final purpose (left rest) below c.frames code frames x)
  kept_final (LeavesFrames.unmaps to set below was is frames registers) code x =
      under b.frames below (record { purpose = Purpose.of_closing to set; queue = [] }) code was (subst (λ (fs : List Frame). HasFinal fs code) frames x)
  kept_final (LeavesFrames.finalises other f rest below added next was finals is frames entered) code x = ⊎_elim
      (λ (final : Purpose.of_end other ≡ Purpose.of_end code). on_top b.frames below (Purpose.of_end other) (f ∷ rest) code was final)
      (λ (none : HasFinal [] code). no_final code none)
      (begun_final (Purpose.of_end other) (final_functions next) [] c.frames code frames x)

  -- ---- an end without an event

  never_both : {P : Type 0} → b.«end» ≡ None → c.«end» ≡ b.«end» → (code : ℕ) → c.«end» ≡ Some (ends.Exit code) → P
  never_both none same code over = absurd (none-some (ends.Exit code) (sym (same ∙ none) ∙ over))

  spares_none : {P : Type 0} (front : List Event) (reason : HartEnd) → NoneEndsOrUnmaps (front ++ events.Ended h reason ∷ []) → P
  spares_none [] reason spares = absurd (false≢true spares.0)
  spares_none (e ∷ front) reason spares = spares_none front reason spares.1

  freed_end : (added : List Event) → (freed_by added b).«end» ≡ b.«end»
  freed_end [] = refl
  freed_end (e ∷ rest) = refl

  told_none : (text : ℕ) (to : Return) (fault : Option DlFault) (appended : List Event) → TellsOf text b to fault appended did c → c.«end» ≡ b.«end»
  told_none text to (Some fault) appended x = ap (λ (z : HartState). z.«end») x.leaves ∙ telling_end text (text_words (answer_text fault)) (freed b)
  told_none text to None appended x = ap (λ (z : HartState). z.«end») x.leaves

  called_none : {P : Type 0} → b.«end» ≡ None → (code : ℕ) → c.«end» ≡ Some (ends.Exit code) → NoneEndsOrUnmaps (events_of did)
      → (asked : Call) (to : Return) (answer : Answer)
      (given appended : List Event) → appended ≡ given ++ ending h answer → Takes w past h b asked to answer appended did c → P
  called_none none code over spares asked to (returns value) given appended are x = never_both none (ap (λ (z : HartState). z.«end») x.leaves) code over
  called_none none code over spares asked to (loading root added) given appended are x =
      never_both none (ap (λ (z : HartState). z.«end») x.passes.leaves ∙ runs_end (Purpose.of_opening to.to root) (left x.functions) to.frames (freed b) refl) code over
  called_none none code over spares asked to (closing set) given appended are x =
      never_both none (ap (λ (z : HartState). z.«end») x.passes.leaves ∙ runs_end (Purpose.of_closing to.to set) (left x.functions) to.frames (freed b) refl) code over
  called_none none code over spares asked to (refused fault) given appended are x = never_both none (ap (λ (z : HartState). z.«end») x.leaves) code over
  called_none none code over spares asked to (granted g) given appended are x = never_both none (ap (λ (z : HartState). z.«end») x.leaves) code over
  called_none none code over spares asked to (told fault) given appended are x = never_both none (told_none _ to fault appended x) code over
  called_none none code over spares asked to (again for) given appended are x = never_both none (ap (λ (z : HartState). z.«end») x.leaves) code over
  called_none none code over spares asked to (Answer.over reason) given appended are x =
      spares_none given reason (subst NoneEndsOrUnmaps (ap events_of x.is ∙ are) spares)

  -- the last final destructors leave their code
  final_end : b.«end» ≡ None → NoneEndsOrUnmaps (events_of did) → (code : ℕ) → c.«end» ≡ Some (ends.Exit code) → Kind w past h b did c
      → HasFinal b.frames code
  final_end none spares code over (Kind.goes nothing frames same) = never_both none same code over
  final_end none spares code over (Kind.ends reason is frames ended) = spares_none [] reason (subst NoneEndsOrUnmaps is spares)
  final_end none spares code over (Kind.calls asked to from x) =
      called_none none code over spares asked to x.answer x.serves.given x.appended x.serves.are x.takes
  final_end none spares code over (Kind.enters function frames from x) = never_both none (ap (λ (z : HartState). z.«end») x.leaves) code over
  final_end none spares code over (Kind.completes purpose object rest below none_of from x) =
      never_both none (ap (λ (z : HartState). z.«end») x.passes.leaves ∙ runs_end purpose (left rest) below (freed b) none_of) code over
  final_end none spares code over (Kind.finalises other object rest below from x) = by x.next x.leaves
    where
      added : List Event
      added = own_fini (after past) h object ++ x.events

      by : (next : Option Function) → c ≡ spent (runs (Purpose.of_end other) (final_functions next) [] (freed_by added b)) → HasFinal b.frames code
      by None leaves =
          let both : Some (ends.Exit other) ≡ Some (ends.Exit code) = sym (ap (λ (z : HartState). z.«end») leaves) ∙ over in
          let same : other ≡ code = cc in
          on_top b.frames below (Purpose.of_end other) (from.function ∷ rest) code from.before (ap Purpose.of_end same)
      by (Some f) leaves =
          never_both none (ap (λ (z : HartState). z.«end») leaves ∙ first_end (Purpose.of_end other) f.object f.addresses [] [] (freed_by added b) ∙ freed_end added) code over

  pub ends_by : b.«end» ≡ None → Moves w past h b did c → Appends past h b did c → EndsSo past h b did c
  ends_by none moves (Appends.no_end spares same) = EndsSo.goes_on (sparing_events past (events_of did) spares) (same ∙ none)
  ends_by none moves (Appends.unmapping set is same) =
      EndsSo.goes_on (ap (λ (es : List Event). (after (past ++ es)).endings) is ∙ unmapping past h set) (same ∙ none)
  ends_by none moves (Appends.an_end front reason spares is over) =
      EndsSo.is_told reason (ap (λ (es : List Event). (after (past ++ es)).endings) is ∙ an_end past front h reason spares) over
  ends_by none moves (Appends.after_finals code spares finals over last) =
      EndsSo.is_final code (sparing_events past (events_of did) spares) (final_end none spares code over (kind_of w past h b did c moves)) over

-- ---- a world

-- a hart that has ended did so as its last end of these says; while it runs final destructors, that is its exit
pub record IsTold (es : List Ending) (h : ℕ) (b : HartState) : Type 0 where
  pub over : (reason : HartEnd) → b.«end» ≡ Some reason → last_end h es ≡ Some reason
  pub final : b.«end» ≡ None → (code : ℕ) → HasFinal b.frames code → last_end h es ≡ Some (ends.Exit code)

abbrev pub AllAreTold : World → Type 0
AllAreTold world = (h : ℕ) (b : HartState) → slice_get world.harts h ≡ Some b → IsTold (after world.journal).endings h b

-- of a hart in this place
abbrev AreTold : List Ending → List HartState → Type 0
AreTold es harts = (h : ℕ) (b : HartState) → slice_get harts h ≡ Some b → IsTold es h b

freed_told : (es : List Ending) (h : ℕ) (b d : HartState) → freed b ≡ d → IsTold es h b → IsTold es h d
freed_told es h b d is x = subst (IsTold es h) is (record { over = x.over; final = x.final })

all_freed : (es : List Ending) (harts : List HartState) → AreTold es harts → AreTold es (map freed harts)
all_freed es harts x h d at = let y = freed_at harts h d at in freed_told es h y.0 d y.2 (x h y.0 y.1)

found_told : (es : List Ending) (harts : List HartState) (t : Bool) → AreTold es harts → AreTold es (cond t (map freed harts) harts)
found_told es harts true x = all_freed es harts x
found_told es harts false x = x

-- an end of another hart changes nothing
more_told : (es : List Ending) (h j : ℕ) (reason : HartEnd) (d : HartState) → (h ≡ j → ⊥) → IsTold es j d → IsTold (es ++ an_ending h reason ∷ []) j d
more_told es h j reason d apart x = record {
  over = λ why is. last_other h j es reason apart ∙ x.over why is;
  final = λ still code final. last_other h j es reason apart ∙ x.final still code final;
}

own_told : (es : List Ending) (h : ℕ) (reason : HartEnd) (c : HartState) → c.«end» ≡ Some reason → IsTold (es ++ an_ending h reason ∷ []) h c
own_told es h reason c over = record {
  over = λ why is. let both : Some reason ≡ Some why = sym over ∙ is in let same : reason ≡ why = cc in last_here h es reason ∙ ap
      (λ (r : HartEnd). Some r) same;
  final = λ none code final. absurd (none-some reason (sym none ∙ over));
}

-- ---- a turn

module _ (w : Setting) (h : ℕ) (old new : World) (turn : Turn w h old new) (x : AllAreTold old) where
  abbrev past : List Event
  past = found_journal old turn.did

  abbrev told_ends : List Ending
  told_ends = (after old.journal).endings

  running_on : turn.before.«end» ≡ None
  running_on = running turn.before.«end» (λ reason over. ended_stays w past h turn.before turn.left turn.did reason over turn.moves)

  found_endings : (after past).endings ≡ told_ends
  found_endings = found_keeps (List Ending) (λ (s : State). s.endings) (λ s number standing. refl) old turn.did

  endings_are : (more : List Ending) → (after (past ++ events_of turn.did)).endings ≡ (after past).endings ++ more
      → (after new.journal).endings ≡ told_ends ++ more
  endings_are more is = ap (λ (journal : List Event). (after journal).endings) turn.journal ∙ is ∙ ap (λ (xs : List Ending). xs ++ more) found_endings

  endings_same : (after (past ++ events_of turn.did)).endings ≡ (after past).endings → (after new.journal).endings ≡ told_ends
  endings_same is = ap (λ (journal : List Event). (after journal).endings) turn.journal ∙ is ∙ found_endings

  before : IsTold told_ends h turn.before
  before = x h turn.before turn.there

  -- where the hart's own place keeps what is told, and other harts' does
  placed : (fs : List Ending) → IsTold fs h turn.left → ((j : ℕ) (d : HartState) → (h ≡ j → ⊥) → IsTold told_ends j d → IsTold fs j d)
      → (after new.journal).endings ≡ fs → AllAreTold new
  placed fs own others is j d at = subst (λ (xs : List Ending). IsTold xs j d) (sym is) (by (eqb h j) refl)
    where
      found : slice_get (slice_set (found_harts old turn.did) h turn.left) j ≡ Some d
      found = subst (λ (bs : List HartState). slice_get bs j ≡ Some d) turn.harts at

      by : (t : Bool) → eqb h j ≡ t → IsTold fs j d
      by true is_h =
          let same : h ≡ j = eqb-true h j is_h in
          ⊎_elim
          (λ (y : (j ≡ h) × (d ≡ turn.left)). subst (IsTold fs j) (sym y.1) (subst (λ (n : ℕ). IsTold fs n turn.left) same own))
          (λ (y : slice_get (found_harts old turn.did) j ≡ Some d).
          let left_is : turn.left ≡ d = both_found (slice_get (slice_set (found_harts old turn.did) h turn.left) j) turn.left d
          (subst (λ (n : ℕ). slice_get (slice_set (found_harts old turn.did) h turn.left) n ≡ Some turn.left) same
          (set_here (found_harts old turn.did) h d turn.left (subst (λ (n : ℕ). slice_get (found_harts old turn.did) n ≡ Some d) (sym same) y))) found in
          subst (IsTold fs j) left_is (subst (λ (n : ℕ). IsTold fs n turn.left) same own))
          (at_set (found_harts old turn.did) h turn.left j d found)
      by false is_h =
          let apart : h ≡ j → ⊥ = λ same. true≢false (sym (eq-eqb h j same) ∙ is_h) in
          ⊎_elim
          (λ (y : (j ≡ h) × (d ≡ turn.left)). absurd (apart (sym y.0)))
          (λ (y : slice_get (found_harts old turn.did) j ≡ Some d). others j d apart (found_told told_ends old.harts (settles turn.did) x j d y))
          (at_set (found_harts old turn.did) h turn.left j d found)

  by_ends : EndsSo past h turn.before turn.did turn.left → AllAreTold new
  by_ends (EndsSo.goes_on same on) = placed told_ends (record {
    over = λ reason is. absurd (none-some reason (sym on ∙ is));
    final = λ still code final. before.final running_on code
        (kept_final w past h turn.before turn.left turn.did (turns_leave_frames w past h turn.before turn.left turn.did turn.moves) code final);
  }) (λ j d apart y. y) (endings_same same)
  by_ends (EndsSo.is_told reason are over) =
      placed (told_ends ++ an_ending h reason ∷ []) (own_told told_ends h reason turn.left over) (λ j d apart y. more_told told_ends h j reason d apart y)
      (endings_are (an_ending h reason ∷ []) are)
  by_ends (EndsSo.is_final code same final over) = placed told_ends (record {
    over = λ reason is.
        let both : Some (ends.Exit code) ≡ Some reason = sym over ∙ is in
        let one : ends.Exit code ≡ reason = cc in
        before.final running_on code final ∙ ap (λ (r : HartEnd). Some r) one;
    final = λ still other more. absurd (none-some (ends.Exit code) (sym still ∙ over));
  }) (λ j d apart y. y) (endings_same same)

  pub turn_told : AllAreTold new
  turn_told =
      by_ends (ends_by w past h turn.before turn.left turn.did running_on turn.moves (turns_append w past h turn.before turn.left turn.did turn.moves))

-- ---- the final destructors

exit_is : (e : Option HartEnd) (code : ℕ) → (elim e [ Some reason ↦ elim reason [ ends.Exit c ↦ Some c | _ ↦ None ] | None ↦ None ]) ≡ Some code
    → e ≡ Some (ends.Exit code)
exit_is None code is = absurd (none-some code is)
exit_is (Some (ends.Exit c)) code is = let same : c ≡ code = cc in ap (λ (n : ℕ). Some (ends.Exit n)) same
exit_is (Some other) code is = absurd (none-some code is)

abbrev finalised : Registers → HartState → HartState
finalised registers b = record b { registers = registers; phase = Phase.at_pc; frames = []; «end» = None }

first_told : (es : List Ending) (registers : Registers) (code : ℕ) (f : Function) (b : HartState) → b.«end» ≡ Some (ends.Exit code) → IsTold es 0 b
    → IsTold es 0 (finalising_hart registers code f b)
first_told es registers code f b exits x = record {
  over = λ reason is. absurd (none-some reason (sym (first_end (Purpose.of_end code) f.object f.addresses [] [] (finalised registers b)) ∙ is));
  final = λ on other final. ⊎_elim
      (λ (same : Purpose.of_end code ≡ Purpose.of_end other).
      let one : code ≡ other = cc in x.over (ends.Exit code) exits ∙ ap (λ (n : ℕ). Some (ends.Exit n)) one)
      (λ (more : HasFinal [] other). no_final other more)
      (begun_final (Purpose.of_end code) (f ∷ []) [] (finalising_hart registers code f b).frames other
      (runs_frames (Purpose.of_end code) (f ∷ []) [] (finalised registers b)) final);
}

begun_told : (registers : Registers) (old new : World) → RunBegins registers old new → AllAreTold old → AllAreTold new
begun_told registers old new begins x = subst AllAreTold (sym begins.begun) so
  where
    at_first : (h : ℕ) (b : HartState) → slice_get (begins.first ∷ begins.others) h ≡ Some b → IsTold (after old.journal).endings h b
    at_first h b at = x h b (ap (λ (bs : List HartState). slice_get bs h) begins.harts ∙ at)

    so : AreTold (after old.journal).endings
        (finalising_hart registers begins.code (record { object = begins.object; addresses = begins.addresses }) begins.first ∷ begins.others)
    so zero b at =
        let same : finalising_hart registers begins.code (record { object = begins.object; addresses = begins.addresses }) begins.first ≡ b = cc in
        subst (IsTold (after old.journal).endings 0) same
        (first_told (after old.journal).endings registers begins.code (record { object = begins.object; addresses = begins.addresses }) begins.first
        (exit_is begins.first.«end» begins.code begins.exited) (at_first 0 begins.first refl))
    so (suc h) b at = at_first (suc h) b at

settled_endings : (journal : List Event) (harts : List HartState) → (after (journal ++ settling harts)).endings ≡ (after journal).endings
settled_endings = settling_keeps (List Ending) (λ (s : State). s.endings) (λ s number standing. refl)

lacking_told : (w : Setting) (old new : World) → LacksMemory w old new → AllAreTold old → AllAreTold new
lacking_told w old new lacks x = subst AllAreTold (sym lacks.leaves)
    (λ h b at. subst (λ (fs : List Ending). IsTold fs h b) (sym endings_are) (so h b at))
  where
    es : List Ending
    es = (after old.journal).endings

    endings_are : (after ((old.journal ++ settling old.harts) ++ events.Ended 0 ends.Memory ∷ [])).endings ≡ es ++ an_ending 0 ends.Memory ∷ []
    endings_are =
        ap (λ (s : State). s.endings) (after_push (old.journal ++ settling old.harts) (events.Ended 0 ends.Memory))
        ∙ ap (λ (xs : List Ending). xs ++ an_ending 0 ends.Memory ∷ []) (settled_endings old.journal old.harts)

    so : AreTold (es ++ an_ending 0 ends.Memory ∷ []) (ended ends.Memory lacks.first ∷ map freed lacks.others)
    so zero b at =
        let same : ended ends.Memory lacks.first ≡ b = cc in
        subst (IsTold (es ++ an_ending 0 ends.Memory ∷ []) 0) same (own_told es 0 ends.Memory (ended ends.Memory lacks.first) refl)
    so (suc h) b at =
        let y = freed_at lacks.others h b at in
        more_told es 0 (suc h) ends.Memory b (λ (same : 0 ≡ suc h). omega (arith, same))
        (freed_told es (suc h) y.0 b y.2 (x (suc h) y.0 (ap (λ (bs : List HartState). slice_get bs (suc h)) lacks.harts ∙ y.1)))

pub settled_told : (world : World) → AllAreTold world → AllAreTold (settled world)
settled_told world x h b at =
    subst (λ (es : List Ending). IsTold es h b) (sym (settled_endings world.journal world.harts)) (all_freed (after world.journal).endings world.harts x h b at)

-- ---- every world that is reached

fresh_told : (es : List Ending) (h : ℕ) (b : HartState) → b.«end» ≡ None → ((code : ℕ) → HasFinal b.frames code → ⊥) → IsTold es h b
fresh_told es h b still none = record { over = λ reason is. absurd (none-some reason (sym still ∙ is)); final = λ on code final. absurd (none code final) }

starting_told : (es : List Ending) (fuel : ℕ) (n : ℕ) (entries : List HartEntry) (h : ℕ) (b : HartState)
    → slice_get (map (starting_hart fuel) entries) h ≡ Some b → IsTold es n b
starting_told es fuel n [] h b at = absurd (none-some b at)
starting_told es fuel n (entry ∷ rest) zero b at =
    let same : starting_hart fuel entry ≡ b = cc in
    subst (IsTold es n) same (fresh_told es n (starting_hart fuel entry) refl (λ code final. no_final code final))
starting_told es fuel n (entry ∷ rest) (suc h) b at = starting_told es fuel n rest h b at

started_told : (es : List Ending) (fuel : ℕ) (functions : List Function) (entries : List HartEntry) → AreTold es (starting_harts fuel functions entries)
started_told es fuel functions [] h b at = absurd (none-some b at)
started_told es fuel functions (entry ∷ rest) zero b at =
    let first : HartState = runs (Purpose.of_startup (starting_registers entry)) functions [] (starting_hart fuel entry) in
    let same : runs (Purpose.of_startup (starting_registers entry)) functions [] (starting_hart fuel entry) ≡ b = cc in
    subst (IsTold es 0) same (fresh_told es 0 first (runs_end (Purpose.of_startup (starting_registers entry)) functions [] (starting_hart fuel entry) refl)
    (λ code final. ⊎_elim
    (λ (final_so : Purpose.of_startup (starting_registers entry) ≡ Purpose.of_end code). not_end (Purpose.of_startup (starting_registers entry)) code refl final_so)
    (λ (none : HasFinal [] code). no_final code none)
    (begun_final (Purpose.of_startup (starting_registers entry)) functions [] first.frames code
    (runs_frames (Purpose.of_startup (starting_registers entry)) functions [] (starting_hart fuel entry)) final)))
started_told es fuel functions (entry ∷ rest) (suc h) b at = starting_told es fuel (suc h) rest h b at

pub start_told : (w : Setting) (setup : Setup) (world : World) → IsStarted w setup world → AllAreTold world
start_told w setup world x =
    subst (AreTold (after world.journal).endings) (sym x.harts) (started_told (after world.journal).endings setup.fuel x.started.functions x.started.entries)

step_told : (w : Setting) (part other : Part) (old new : World) → Steps w part old other new → AllAreTold old → AllAreTold new
step_told w part other old new (Steps.by_turn _ h _ _ turn) x = turn_told w h old new turn x
step_told w part other old new (Steps.by_beginning registers _ _ exited begins) x = begun_told registers old new begins x
step_told w part other old new (Steps.by_lacking _ _ exited lacks) x = lacking_told w old new lacks x
step_told w part other old new (Steps.by_settling _ _ _ is) x = subst AllAreTold (sym is) (settled_told old x)

pub later_told : (w : Setting) (part other : Part) (old new : World) → Later w part old other new → AllAreTold old → AllAreTold new
later_told w part other old new (Later.no_more _ _) x = x
later_told w part other old new (Later.one_more _ middle _ _ between _ step more) x =
    later_told w middle other between new more (step_told w part middle old between step x)

-- ---- the ends of a run

ends_at : (harts : List HartState) (last : List HartEnd) → map (λ (b : HartState). b.«end») harts ≡ map Some last → (k : ℕ) (reason : HartEnd)
    → slice_get last k ≡ Some reason
    → (b : HartState) × (slice_get harts k ≡ Some b) × (b.«end» ≡ Some reason)
ends_at harts [] are k reason at = absurd (none-some reason at)
ends_at [] (r ∷ rest) are k reason at = absurd (let no : [] ≡ Some r ∷ map Some rest = are in cc)
ends_at (b ∷ harts) (r ∷ rest) are zero reason at =
    let both : b.«end» ∷ map (λ (c : HartState). c.«end») harts ≡ Some r ∷ map Some rest = are in
    let first : b.«end» ≡ Some r = cc in
    let same : r ≡ reason = cc in
    (b, refl, first ∙ ap (λ (x : HartEnd). Some x) same)
ends_at (b ∷ harts) (r ∷ rest) are (suc k) reason at =
    let both : b.«end» ∷ map (λ (c : HartState). c.«end») harts ≡ Some r ∷ map Some rest = are in
    let tails : map (λ (c : HartState). c.«end») harts ≡ map Some rest = cc in
    ends_at harts rest tails k reason at

pub last_ends : (n : ℕ) (harts : List HartState) (es : List Ending) → length harts ≡ n
    → ((h : ℕ) (b : HartState) (reason : HartEnd) → slice_get harts h ≡ Some b → b.«end» ≡ Some reason → last_end h es ≡ Some reason)
    → (last : List HartEnd) → map (λ (b : HartState). b.«end») harts ≡ map Some last → AreLastEnds n es last
last_ends n harts es many says last are = record {
  all = sym (length-map last Some) ∙ sym (ap (λ (xs : List (Option HartEnd)). length xs) are) ∙ length-map harts (λ (b : HartState). b.«end») ∙ many;
  each = λ hart reason at. let y = ends_at harts last are hart reason at in says hart y.0 reason y.1 y.2;
}
