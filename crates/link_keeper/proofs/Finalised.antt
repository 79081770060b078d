-- The turn in which the final destructors of an object have run.
use Rattle.std.proofs.Common.{◌≡◌, ⊎_elim, inl, inr, ℕ, ◌<◌, ◌==◌, nat_lt, if◌then◌else◌, Bool, true, false, List, [], ◌∷◌, ◌++◌, drop, length, Option, None, Some, IsTrue, refl, sym, ap, subst, ◌∙◌, append-nil}
use Rattle.std.proofs.Math.Seq.{drop-append_seam}
use Rattle.std.specs.List.{Contains}
use Rattle.std.proofs.lemmas.Bool.{and_parts, false≢true, ltb-true}
use Rattle.history_event.specs.declared.event.Event.{Event}
use Rattle.history_event.specs.declared.event.Event.TheVariants as events
use Rattle.history_event.specs.declared.handed.Function.{Function}
use Rattle.history_event.specs.declared.hart_end.HartEnd.{HartEnd}
use Rattle.history_event.specs.declared.hart_end.HartEnd.TheVariants as ends
use Rattle.history_journal.specs.Following.{machine_of}
use Rattle.history_state.specs.After.{after}
use Rattle.history_state.specs.Allowed.{MayEnd}
use Rattle.history_state.specs.Legal.{Legal}
use Rattle.history_state.specs.Lemmas.History.{legal_is_lawful, one_behind}
use Rattle.history_state.specs.Lemmas.Lists.{here, later}
use Rattle.history_state.specs.Objects.{has}
use Rattle.history_state.specs.Setting.{Machine, Setting, have_exited}
use Rattle.history_state.specs.State.{State}
use Rattle.history_state.specs.Step.{step}
use Rattle.history_calls.specs.Laws.{hart_of}
use Rattle.hart_fits.specs.Fits.{FitsMayEnd, HartFits, IsBefore, IsInFinals}
use Rattle.hart_moves.specs.Due.{Due, by_phase, by_resolving, due, is_finalising}
use Rattle.hart_moves.specs.Harts.{Frame, HartState, Purpose, Resolving}
use Rattle.hart_moves.specs.Moves.{AreAllowed, Did, Finalises, Moves, MovesAs, did_by, ended, final_functions, freed_by, own_fini, runs, settled_resolving, settles, spent, with_first}
use Rattle.hart_moves.specs.TurnEvents.Appends.{has_finals}
use Rattle.hart_moves.specs.TurnEvents.Lemmas.Dues.{IsFrom, within_from}
use Rattle.world_turns.specs.WorldFrames.Belong.{FramesFit}
use Rattle.world_turns.specs.WorldFrames.Finals.{FinalsFit, final_frame}
use Rattle.world_turns.specs.WorldFrames.Laws.{FinalsFinish, FinalsPass}
use Rattle.world_turns.specs.WorldFrames.Lemmas.Finals.{Top, head_is, none_above, top_of}
use Rattle.world_answers.specs.GuestsPart.GuestWorlds.Worlds.{MayEndNow}
use Rattle.world_answers.specs.ReturnsPart.FinalTurns.Laws.{FinalsGoOn, SettlingKeepsPlans}
use Rattle.world_answers.specs.ReturnsPart.FinalTurns.Planned.{FinalsMayFollow, IsPlanned}
use Rattle.world_answers.specs.ReturnsPart.FinalTurns.Table.{FinalPlan, finis, plan_events}
use Rattle.world_memory.specs.TurnAnswers.Changes.{LeaveMemory}
use Rattle.world_memory.specs.declared.turn_answers.answered.MemoryChange.{MemoryChange}
use Rattle.world_memory.specs.declared.turn_answers.answered.MemoryChange.TheVariants as change
use Rattle.link_state.specs.Table.{LinkTable}
use Rattle.link_keeper.specs.Acting.{Acts, Answers, OpenNothing}
use Rattle.link_keeper.specs.Attending.{NobodysCame}
use Rattle.link_keeper.specs.Entering.{AreQuiet}
use Rattle.link_keeper.specs.Finalising.{IsPlannedOr, MayFinalise, PlansEvents}
use Rattle.link_keeper.specs.declared.acting.Reply.{Reply}
use Rattle.link_keeper.specs.declared.acting.Reply.TheVariants as reply
use Rattle.link_keeper.proofs.Acted.{IsFree}
use Rattle.link_keeper.proofs.Premises.{EndsAreFew, ends_on}

-- ---- a hart whose turn it is

in_fuel : (b : HartState) (d : Due) (t : Bool) → nat_lt b.turns b.fuel ≡ t → is_finalising (if t then d else Due.fuel_out) ≡ true → b.turns < b.fuel
in_fuel b d true less is = ltb-true b.turns b.fuel less
in_fuel b d false less is = absurd (false≢true is)

last_by : (s : State) (b : HartState) (r : Resolving) → b.resolving ≡ r → b.«end» ≡ None → is_finalising (by_resolving s b r) ≡ true → IsFree b (by_resolving s b r)
last_by s b Resolving.idle at runs last =
    record { runs = runs; rests = ap settled_resolving at; fuel = in_fuel b (by_phase s b b.phase) (nat_lt b.turns b.fuel) refl last; from = within_from s b }
last_by s b (Resolving.to_exchange o) at runs last = absurd (false≢true last)
last_by s b (Resolving.to_finish o found) at runs last = absurd (false≢true last)
last_by s b (Resolving.to_settle o found) at runs last =
    record { runs = runs; rests = ap settled_resolving at; fuel = in_fuel b (by_phase s b b.phase) (nat_lt b.turns b.fuel) refl last; from = within_from s b }

abbrev due_by : State → HartState → Option HartEnd → Due
due_by s b stopped = elim stopped [ Some reason ↦ Due.nothing | None ↦ by_resolving s b b.resolving ]

last_at : (s : State) (b : HartState) (stopped : Option HartEnd) → b.«end» ≡ stopped → is_finalising (due_by s b stopped) ≡ true → IsFree b (due_by s b stopped)
last_at s b (Some reason) is last = absurd (false≢true last)
last_at s b None is last = last_by s b b.resolving refl is last

pub is_last : (s : State) (b : HartState) → is_finalising (due s b) ≡ true → IsFree b (due s b)
unfolding due
is_last s b last = last_at s b b.«end» refl last

pub record IsFinalise (d : Due) : Type 0 where
  pub code : ℕ
  pub object : ℕ
  pub is : d ≡ Due.finalise code object

pub finalise_of : (d : Due) → is_finalising d ≡ true → IsFinalise d
finalise_of Due.nothing is = absurd (false≢true is)
finalise_of (Due.exchange o) is = absurd (false≢true is)
finalise_of (Due.finish o found) is = absurd (false≢true is)
finalise_of Due.fuel_out is = absurd (false≢true is)
finalise_of Due.instruction is = absurd (false≢true is)
finalise_of (Due.copy copy start bytes) is = absurd (false≢true is)
finalise_of (Due.serve call back) is = absurd (false≢true is)
finalise_of (Due.wait for) is = absurd (false≢true is)
finalise_of (Due.store text stored word more) is = absurd (false≢true is)
finalise_of (Due.enter function frames) is = absurd (false≢true is)
finalise_of (Due.complete purpose object rest below) is = absurd (false≢true is)
finalise_of (Due.finalise code object) is = record { code = code; object = object; is = refl }

-- it runs final destructors
pub runs_finals : (s : State) (b : HartState) → is_finalising (due s b) ≡ true → has_finals b.frames ≡ true
runs_finals s b last =
    let d : IsFinalise (due s b) = finalise_of (due s b) last in
    let from : IsFrom b (Due.finalise d.code d.object) = subst (IsFrom b) d.is (is_last s b last).from in
    ap has_finals from.2.before

-- ---- that it may take it

module _ (finish : FinalsFinish) (pass : FinalsPass) (goes_on : FinalsGoOn) (w : Setting) (past : List Event) (h : ℕ) (b : HartState) (fits : HartFits w past h b) (code object : ℕ) (from : IsFrom b (Due.finalise code object)) where
  last : IsInFinals w past h b
  last = ⊎_elim
      (λ (before : IsBefore past h b). absurd (false≢true (sym before.no_finals ∙ ap has_finals from.2.before)))
      (λ (x : IsInFinals w past h b). x)
      fits.place

  fit : FinalsFit w past (record { purpose = Purpose.of_end code; queue = from.2.function ∷ from.0 } ∷ from.1)
  fit = subst (FinalsFit w past) from.2.before last.frames

  object_is : fit.function.object ≡ object
  object_is = by (top_of fit.above (final_frame fit.code fit.function) (record { purpose = Purpose.of_end code; queue = from.2.function ∷ from.0 }) from.1 (sym fit.are)) ∙ from.2.is
    where
      by : Top fit.above (final_frame fit.code fit.function) (record { purpose = Purpose.of_end code; queue = from.2.function ∷ from.0 }) from.1 → fit.function.object ≡ from.2.function.object
      by (Top.is_last none same under) = ap (λ (f : Function). f.object) (head_is fit.function from.2.function [] from.0 (ap (λ (x : Frame). x.queue) same))
      by (Top.is_above others are under) = absurd (none_above (after past) 0 code (from.2.function ∷ from.0) others (subst (FramesFit (after past) 0) are fit.fit))

  over : IsTrue (have_exited w (after past))
  over = (and_parts (length (after past).endings == w.machine.harts) (have_exited w (after past)) last.over).1

  own : AreAllowed w past (own_fini (after past) 0 object)
  own = subst (λ (o : ℕ). AreAllowed w past (own_fini (after past) 0 o)) from.2.is (finish w past code from.2.function from.0 from.1 fit)

  pub first_is : h ≡ 0
  first_is = last.first

  pub was_initialised : IsTrue (has (after past).inits object)
  was_initialised = subst (λ (o : ℕ). IsTrue (has (after past).inits o)) object_is fit.initialised

  pub may_follow : FinalsMayFollow w past h object
  may_follow = subst (λ (n : ℕ). FinalsMayFollow w past n object) (sym last.first) (goes_on w past 0 object over own (λ before next rest exited is. pass w before next rest exited is))

module _ (finish : FinalsFinish) (pass : FinalsPass) (goes_on : FinalsGoOn) (w : Setting) (past : List Event) (h : ℕ) (b : HartState) (fits : HartFits w past h b) (asks : (s : State) → is_finalising (due s b) ≡ true) where
  free : IsFree b (due (after past) b)
  free = is_last (after past) b (asks (after past))

  pub may_finalise : (harts : ℕ) → w.machine ≡ machine_of harts → Legal w past → MayFinalise w harts past h b
  may_finalise harts machine legal = record {
    machine = machine;
    legal = legal;
    fits = fits;
    runs = free.runs;
    rests = free.rests;
    fuel = free.fuel;
    asks = asks (after past);
    may = λ code object is. may_follow finish pass goes_on w past h b fits code object (subst (IsFrom b) (is (after past)) free.from);
  }

  pub initialised_so : (code object : ℕ) → ((s : State) → due s b ≡ Due.finalise code object) → IsTrue (has (after past).inits object)
  initialised_so code object is = was_initialised finish pass goes_on w past h b fits code object (subst (IsFrom b) (is (after past)) free.from)

  pub zeroth : h ≡ 0
  zeroth =
      let d : IsFinalise (due (after past) b) = finalise_of (due (after past) b) (asks (after past)) in
      first_is finish pass goes_on w past h b fits d.code d.object (subst (IsFrom b) d.is free.from)

-- ---- what is planned

pub plan_on : SettlingKeepsPlans → (old more : List Event) → ((e : Event) → Contains more e → hart_of e ≡ None) → (plan : FinalPlan) → IsPlanned (after old) plan → IsPlanned (after (old ++ more)) plan
plan_on keeps old [] nobodys plan x = subst (λ (es : List Event). IsPlanned (after es) plan) (sym (append-nil old)) x
plan_on keeps old (e ∷ rest) nobodys plan x =
    subst (λ (es : List Event). IsPlanned (after es) plan) (one_behind old e rest)
    (plan_on keeps (old ++ e ∷ []) rest (λ d there. nobodys d (later e rest d there)) plan (one e (nobodys e (here e rest))))
  where
    one : (d : Event) → hart_of d ≡ None → IsPlanned (after (old ++ d ∷ [])) plan
    one (events.Bound number) is = keeps old number 0 true plan x
    one (events.Lost number saw) is = keeps old number saw false plan x
    one (events.Open hart ask answer) is = absurd (let no : Some hart ≡ None = is in cc)
    one (events.Close hart handle answer) is = absurd (let no : Some hart ≡ None = is in cc)
    one (events.Unmapped hart set) is = absurd (let no : Some hart ≡ None = is in cc)
    one (events.Grant number hart owner slot choice value) is = absurd (let no : Some hart ≡ None = is in cc)
    one (events.Unresolved hart owner slot choice) is = absurd (let no : Some hart ≡ None = is in cc)
    one (events.Sym hart ask answer) is = absurd (let no : Some hart ≡ None = is in cc)
    one (events.Tls hart owner address) is = absurd (let no : Some hart ≡ None = is in cc)
    one (events.Init hart object) is = absurd (let no : Some hart ≡ None = is in cc)
    one (events.Fini hart object) is = absurd (let no : Some hart ≡ None = is in cc)
    one (events.Wrote hart bytes) is = absurd (let no : Some hart ≡ None = is in cc)
    one (events.Told hart fault) is = absurd (let no : Some hart ≡ None = is in cc)
    one (events.Ended hart reason) is = absurd (let no : Some hart ≡ None = is in cc)

pub planned_on : SettlingKeepsPlans → (old new : List Event) (b : HartState) (spare : ℕ) → NobodysCame old new → (plan : Option FinalPlan) → IsPlannedOr (after old) b spare plan → IsPlannedOr (after new) b spare plan
planned_on keeps old new b spare came None x = tt
planned_on keeps old new b spare came (Some plan) x = (
  record {
    planned = subst (λ (es : List Event). IsPlanned (after es) plan) (sym came.are) (plan_on keeps old came.more came.nobodys plan x.0.planned);
    is = x.0.is;
    room = x.0.room;
  },
  x.1,
)

-- ---- its events

pub finis_quiet : (h : ℕ) (objects : List ℕ) → AreQuiet (finis h objects)
finis_quiet h [] = tt
finis_quiet h (o ∷ rest) = (refl, finis_quiet h rest)

pub finis_open_none : (h : ℕ) (objects : List ℕ) → OpenNothing (finis h objects)
finis_open_none h [] = tt
finis_open_none h (o ∷ rest) = (refl, finis_open_none h rest)

finis_leave : (s : State) (h : ℕ) (objects : List ℕ) → LeaveMemory s (finis h objects)
finis_leave s h [] = tt
finis_leave s h (o ∷ rest) = (refl, refl, finis_leave (step s (events.Fini h o)) h rest)

-- ---- where it leaves the hart

first_rests : (code object : ℕ) (addresses : List ℕ) (rest : List Function) (below : List Frame) (b : HartState) → (with_first (Purpose.of_end code) object addresses rest below b).resolving ≡ b.resolving
first_rests code object [] rest below b = refl
first_rests code object (function ∷ more) rest below b = refl

runs_rests : (code : ℕ) (functions : List Function) (below : List Frame) (b : HartState) → (runs (Purpose.of_end code) functions below b).resolving ≡ b.resolving
runs_rests code [] below b = refl
runs_rests code (f ∷ rest) below b = first_rests code f.object f.addresses rest below b

freed_rests : (es : List Event) (b : HartState) → settled_resolving b.resolving ≡ Resolving.idle → settled_resolving (freed_by es b).resolving ≡ Resolving.idle
freed_rests [] b rests = rests
freed_rests (e ∷ es) b rests = ap settled_resolving rests

pub finalised_rests : (w : Setting) (past : List Event) (h : ℕ) (b c : HartState) (code object : ℕ) (did : Did) → Finalises w past h b code object did c → settled_resolving b.resolving ≡ Resolving.idle
    → settled_resolving c.resolving ≡ Resolving.idle
finalised_rests w past h b c code object did x rests =
    ap (λ (y : HartState). settled_resolving y.resolving) x.leaves
    ∙ ap settled_resolving (runs_rests code (final_functions x.next) [] (freed_by (own_fini (after past) h object ++ x.events) b))
    ∙ freed_rests (own_fini (after past) h object ++ x.events) b rests

-- ---- by a plan

module _ (w : Setting) (past : List Event) (h : ℕ) (b c : HartState) (plan : FinalPlan) (is : (s : State) → due s b ≡ Due.finalise plan.code plan.object)
    (carried : Finalises w past h b plan.code plan.object (did_by (plan_events h plan)) c) (rests : settled_resolving b.resolving ≡ Resolving.idle) where
  moves_by : (did : Did) → did_by (plan_events h plan) ≡ did → Moves w past h b did c
  moves_by did same = subst (λ (d : Due). MovesAs w past h b d did c) (sym (is (after past))) (inl (subst (λ (x : Did). Finalises w past h b plan.code plan.object x c) same carried))

  -- without an event
  pub quiet_moves : plan_events h plan ≡ [] → Moves w past h b (Did.quiet []) c
  quiet_moves none = moves_by (Did.quiet []) (ap did_by none)

  pub carried_rests : settled_resolving c.resolving ≡ Resolving.idle
  carried_rests = finalised_rests w past h b c plan.code plan.object (did_by (plan_events h plan)) carried rests

  module _ (state : LinkTable) (are : state.events ≡ past ++ plan_events h plan) (some : PlansEvents plan) where
    pub carried_opens : OpenNothing (drop (length past) state.events)
    carried_opens = subst OpenNothing (sym (ap (drop (length past)) are ∙ drop-append_seam past (plan_events h plan))) (finis_open_none h plan.finalised)

    first_own : (objects : List ℕ) → plan.finalised ≡ objects → (e : Event) × Contains (plan_events h plan) e × (hart_of e ≡ Some h)
    first_own [] none = absurd (false≢true (sym (ap (λ (os : List ℕ). settles (did_by (finis h os))) none) ∙ some h))
    first_own (o ∷ rest) same = (events.Fini h o, subst (λ (os : List ℕ). Contains (finis h os) (events.Fini h o)) (sym same) (here (events.Fini h o) (finis h rest)), refl)

    pub carried_own : (e : Event) × Contains (drop (length past) state.events) e × (hart_of e ≡ Some h)
    carried_own =
        let x = first_own plan.finalised refl in
        (x.0, subst (λ (es : List Event). Contains es x.0) (sym (ap (drop (length past)) are ∙ drop-append_seam past (plan_events h plan))) x.1, x.2)

    acts_by : (spare : ℕ) (objects : List ℕ) → plan.finalised ≡ objects → Acts w past state h b c spare change.Nothing reply.Events
    acts_by spare [] none = absurd (false≢true (sym (ap (λ (os : List ℕ). settles (did_by (finis h os))) none) ∙ some h))
    acts_by spare (o ∷ rest) same = record {
      did = Did.serves [] (events.Fini h o ∷ finis h rest);
      moves = moves_by (Did.serves [] (events.Fini h o ∷ finis h rest)) (ap (λ (os : List ℕ). did_by (finis h os)) same);
      are = are ∙ ap (λ (os : List ℕ). past ++ finis h os) same;
      changes = finis_leave (after past) h (o ∷ rest);
      answers = Answers.by_events (record {
        first = events.Fini h o;
        rest = finis h rest;
        is = refl;
        quiet = finis_quiet h rest;
        behind = finis_open_none h rest;
        plain = refl;
        stored = λ yes. absurd (false≢true yes);
        alone = λ yes. absurd (false≢true yes);
        rests = carried_rests;
      });
      room = λ yes. absurd (false≢true yes);
    }

    pub carried_acts : (spare : ℕ) → Acts w past state h b c spare change.Nothing reply.Events
    carried_acts spare = acts_by spare plan.finalised refl

-- ---- where memory is wanted

module _ (w : Setting) (harts : ℕ) (past : List Event) (h : ℕ) (b : HartState) (may : MayFinalise w harts past h b) (may_end : FitsMayEnd) where
  pub end_may : MayEnd w (after past) h
  end_may = may_end w past h b may.fits may.runs

  pub end_now : EndsAreFew → MayEndNow harts past h
  end_now few = record {
    hart = subst (λ (m : Machine). h < m.harts) may.machine may.fits.within;
    times = few w past h (legal_is_lawful w past may.legal) end_may;
    may = λ v on. ends_on w (machine_of harts) (after past) h may.machine end_may v on;
  }

  module _ (c : HartState) (state : LinkTable) (are : state.events ≡ past ++ events.Ended h ends.Memory ∷ []) (left : c ≡ ended ends.Memory (spent b)) where
    pub lacking_opens : OpenNothing (drop (length past) state.events)
    lacking_opens = subst OpenNothing (sym (ap (drop (length past)) are ∙ drop-append_seam past (events.Ended h ends.Memory ∷ []))) (refl, tt)

    pub lacking_own : (e : Event) × Contains (drop (length past) state.events) e × (hart_of e ≡ Some h)
    lacking_own = (
      events.Ended h ends.Memory,
      subst (λ (es : List Event). Contains es (events.Ended h ends.Memory)) (sym (ap (drop (length past)) are ∙ drop-append_seam past (events.Ended h ends.Memory ∷ []))) (here (events.Ended h ends.Memory) []),
      refl,
    )

    acts : (spare : ℕ) → Acts w past state h b c spare change.Nothing reply.Events
    acts spare =
        let d : IsFinalise (due (after past) b) = finalise_of (due (after past) b) may.asks in
        record {
          did = Did.serves [] (events.Ended h ends.Memory ∷ []);
          moves = subst (λ (x : Due). MovesAs w past h b x (Did.serves [] (events.Ended h ends.Memory ∷ [])) c) (sym d.is) (inr (record { may = end_may; is = refl; leaves = left }));
          are = are;
          changes = (refl, refl, tt);
          answers = Answers.by_events (record {
            first = events.Ended h ends.Memory;
            rest = [];
            is = refl;
            quiet = tt;
            behind = tt;
            plain = refl;
            stored = λ yes. absurd (false≢true yes);
            alone = λ yes. absurd (false≢true yes);
            rests = ap (λ (x : HartState). settled_resolving x.resolving) left ∙ ap settled_resolving may.rests;
          });
          room = λ yes. absurd (false≢true yes);
        }

    pub lacking_acts : (does : MemoryChange) (answer : Reply) (spare : ℕ) → does ≡ change.Nothing → answer ≡ reply.Events → Acts w past state h b c spare does answer
    lacking_acts does answer spare nothing same =
        subst (λ (x : MemoryChange). Acts w past state h b c spare x answer) (sym nothing) (subst (Acts w past state h b c spare change.Nothing) (sym same) (acts spare))
