-- The first hart has run alone: it goes on from there, and each other is told of what came.
use Rattle.std.proofs.Common.{◌≡◌, ◌≢◌, ⊎_elim, inl, inr, ℕ, zero, suc, ◌+◌, ◌<◌, ◌≤◌, false, List, [], ◌∷◌, ◌++◌, length, map, take, append-nil, Option, Some, None, refl, sym, ap, subst, ◌∙◌, arith}
use Rattle.std.proofs.Math.Seq.{take-append_seam}
use Rattle.std.proofs.lemmas.List.{take_all}
use Rattle.std.proofs.lemmas.Option.{none-some, slice_get_within}
use Rattle.std.specs.List.{Contains, slice_get}
use Rattle.history_event.specs.declared.event.Event.{Event}
use Rattle.history_event.specs.declared.event.Event.TheVariants as events
use Rattle.history_event.specs.declared.hart_end.HartEnd.{HartEnd}
use Rattle.history_event.specs.declared.state.Ending.{Ending}
use Rattle.history_event.specs.declared.state.Standing.{Standing}
use Rattle.rv_hart.specs.Registers.{Registers}
use Rattle.word_rule.specs.declared.view.HartView.{HartView}
use Rattle.word_rule.specs.declared.view.TrailItem.{TrailItem}
use Rattle.word_rule.specs.Views.{BeginsWith, IsLane, known_of, last_block}
use Rattle.history_state.specs.After.{after}
use Rattle.history_state.specs.Allowed.{Allowed}
use Rattle.history_state.specs.Legal.{Legal}
use Rattle.history_state.specs.Lemmas.History.{after_push, legal_is_lawful, one_behind}
use Rattle.history_state.specs.Lemmas.Lists.{at_in, here, in_map, later}
use Rattle.history_state.specs.Lemmas.Tidy.{in_at}
use Rattle.history_state.specs.Setting.{Setting}
use Rattle.history_state.specs.State.{State}
use Rattle.history_state.specs.Step.{settle, step}
use Rattle.history_state.specs.Storage.{tls_block, tp_of}
use Rattle.history_calls.specs.Gives.{HasBlock}
use Rattle.history_calls.specs.Laws.{hart_of}
use Rattle.tls_blocks.specs.Blocks.{BlockTable, block_at}
use Rattle.hart_moves.specs.Follows.{AreOthers, Turned}
use Rattle.hart_moves.specs.Harts.{HartState}
use Rattle.hart_moves.specs.Moves.{AreAllowed, events_of}
use Rattle.hart_moves.specs.TurnEvents.Appends.{has_finals}
use Rattle.hart_moves.specs.TurnEvents.Laws.{FinalsStayAway, TurnsAppend}
use Rattle.hart_fits.specs.Fits.{HartFits, IsBefore, IsInFinals, OthersLeaveHart}
use Rattle.hart_fits.specs.Lemmas.Owners.{owners_end}
use Rattle.hart_fits.specs.Lemmas.Settling.{all_settled}
use Rattle.hart_fits.specs.Lemmas.Waits.{others_leave_waits}
use Rattle.hart_linker.specs.Between.{AreCurrent, HaveReached, Hears, IsAtRow, IsBetweenTurns}
use Rattle.hart_linker.specs.Lemmas.Hearing.{blocks_told, early_on, hears_between, row_told}
use Rattle.hart_trails.specs.Laws.{TrailsStay}
use Rattle.hart_trails.specs.Trails.{FollowsBy}
use Rattle.hart_threads.specs.Ends.{EndsTold}
use Rattle.hart_threads.specs.Run.{IsReady, IsUnrun, RunsToEnd}
use Rattle.hart_threads.specs.Turns.{Proceeds, RunsBy}
use Rattle.hart_threads.proofs.Hearing.{hears_on}
use Rattle.hart_threads.proofs.Once.{runs_here, runs_yet}
use Rattle.hart_threads.proofs.Stepping.{goes_further}
use Rattle.hart_threads.proofs.Told.{ends_told, told_to}
use Rattle.hart_threads.proofs.Whole.{StandsAt}

-- ---- a legal history, from a moment on

may_come : (w : Setting) (past : List Event) (e : Event) (rest : List Event) → Legal w (past ++ e ∷ rest) → Allowed w past e
unfolding Legal
may_come w past e rest legal = subst (λ (es : List Event). Allowed w es e) (take-append_seam past (e ∷ rest)) (legal (length past) e (at_seam past))
  where
    at_seam : (front : List Event) → slice_get (front ++ e ∷ rest) (length front) ≡ Some e
    at_seam [] = refl
    at_seam (x ∷ front) = at_seam front

allowed_from : (w : Setting) (past more : List Event) → Legal w (past ++ more) → AreAllowed w past more
allowed_from w past [] legal = tt
allowed_from w past (e ∷ rest) legal =
    (may_come w past e rest legal, allowed_from w (past ++ e ∷ []) rest (subst (Legal w) (sym (one_behind past e rest)) legal))

-- ---- where an event stands

behind_get : (past more : List Event) (k : ℕ) → slice_get (past ++ more) (length past + k) ≡ slice_get more k
behind_get [] more k = let same : 0 + k ≡ k = omega arith in ap (slice_get more) same
behind_get (x ∷ past) more k = let same : length (x ∷ past) + k ≡ suc (length past + k) = omega arith in ap (slice_get (x ∷ (past ++ more))) same ∙ behind_get past more k

front_get : (past more : List Event) (k : ℕ) (e : Event) → slice_get past k ≡ Some e → slice_get (past ++ more) k ≡ Some e
front_get [] more k e at = absurd (none-some e at)
front_get (x ∷ past) more zero e at = at
front_get (x ∷ past) more (suc k) e at = front_get past more k e at

record Stands (from : ℕ) (journal : List Event) (e : Event) : Type 0 where
  at : ℕ
  since : from ≤ at
  there : slice_get journal at ≡ Some e

stands : (past more journal : List Event) (e : Event) → journal ≡ past ++ more → Contains more e → Stands (length past) journal e
stands past more journal e are there =
    let place = in_at more e there in
    record {
      at = length past + place.0;
      since = omega arith;
      there = ap (λ (es : List Event). slice_get es (length past + place.0)) are ∙ behind_get past more place.0 ∙ place.1;
    }

-- ---- what is nobody's

record SameBut (s t : State) : Type 0 where
  generation : t.generation ≡ s.generation
  blocks : (h number block : ℕ) → HasBlock s h number block → HasBlock t h number block

settles_same : (s : State) (number : ℕ) (standing : Standing) → SameBut s (settle number standing s)
unfolding tls_block tp_of
settles_same s number standing = record { generation = refl; blocks = λ h n block x. record { of = x.of; there = x.there; is = x.is } }

nobodys_same : (s : State) (e : Event) → hart_of e ≡ None → SameBut s (step s e)
nobodys_same s (events.Bound number) none = settles_same s number _
nobodys_same s (events.Lost number saw) none = settles_same s number _
nobodys_same s (events.Open hart ask answer) none = absurd (let no : Some hart ≡ None = none in cc)
nobodys_same s (events.Close hart handle answer) none = absurd (let no : Some hart ≡ None = none in cc)
nobodys_same s (events.Unmapped hart set) none = absurd (let no : Some hart ≡ None = none in cc)
nobodys_same s (events.Grant number hart owner slot choice value) none = absurd (let no : Some hart ≡ None = none in cc)
nobodys_same s (events.Unresolved hart owner slot choice) none = absurd (let no : Some hart ≡ None = none in cc)
nobodys_same s (events.Sym hart ask answer) none = absurd (let no : Some hart ≡ None = none in cc)
nobodys_same s (events.Tls hart owner address) none = absurd (let no : Some hart ≡ None = none in cc)
nobodys_same s (events.Init hart object) none = absurd (let no : Some hart ≡ None = none in cc)
nobodys_same s (events.Fini hart object) none = absurd (let no : Some hart ≡ None = none in cc)
nobodys_same s (events.Wrote hart bytes) none = absurd (let no : Some hart ≡ None = none in cc)
nobodys_same s (events.Told hart fault) none = absurd (let no : Some hart ≡ None = none in cc)
nobodys_same s (events.Ended hart reason) none = absurd (let no : Some hart ≡ None = none in cc)

all_same : (past more now : List Event) → now ≡ past ++ more → ((e : Event) → Contains more e → hart_of e ≡ None) → SameBut (after past) (after now)
all_same past [] now are nobodys =
    let same : now ≡ past = are ∙ append-nil past in
    record {
      generation = ap (λ (es : List Event). (after es).generation) same;
      blocks = λ h number block. subst (λ (es : List Event). HasBlock (after es) h number block) (sym same);
    }
all_same past (e ∷ rest) now are nobodys =
    let one : SameBut (after past) (after (past ++ e ∷ [])) = subst (SameBut (after past)) (sym (after_push past e)) (nobodys_same (after past) e (nobodys e (here e rest))) in
    let more = all_same (past ++ e ∷ []) rest now (are ∙ sym (one_behind past e rest)) (λ d there. nobodys d (later e rest d there)) in
    record { generation = more.generation ∙ one.generation; blocks = λ h number block x. more.blocks h number block (one.blocks h number block x) }

-- ---- a hart that runs hears of more, and may be run

module _ (others : OthersLeaveHart) (w : Setting) (begun : List Event) (before now : HartView) (b : HartState) (d : BlockTable) (x : Hears w begun before now) (lane : IsLane before.lane)
    (calm : before.lane.calling ≡ false) (runs : b.«end» ≡ None) (at : IsBetweenTurns w begun before b d) where
  abbrev pub more : List Event
  more = x.longer.0

  number_same : now.number ≡ before.number
  number_same = ap (λ (h : HartView). h.number) x.told

  apart : AreOthers before.number more
  apart e there =
      let y = stands before.heard more now.heard e x.longer.1 there in
      x.none y.at e y.since (slice_get_within now.heard y.at e y.there) y.there

  whole : Legal w (before.heard ++ more)
  whole = subst (Legal w) x.longer.1 x.heard.legal

  fits_on : (IsInFinals w before.heard before.number b → (e : Event) → Contains more e → hart_of e ≡ None) → HartFits w now.heard now.number b
  fits_on last =
      let fits = at.fits runs in
      subst (λ (n : ℕ). HartFits w now.heard n b) (sym number_same)
      (subst (λ (es : List Event). HartFits w es before.number b) (sym x.longer.1) (record {
        within = fits.within;
        writes = fits.writes;
        waits = others_leave_waits w before.heard more before.number b apart fits.waits;
        place = ⊎_elim
            (λ (y : IsBefore before.heard before.number b). inl (others w before.heard more before.number b (legal_is_lawful w before.heard at.heard.legal)
            (legal_is_lawful w (before.heard ++ more) whole) (allowed_from w before.heard more whole) apart
            (subst (λ (es : List Event). (e : Ending) → Contains (after es).endings e → e.hart < w.machine.harts) x.longer.1 (owners_end w now.heard x.heard.own)) fits.within runs y))
            (λ (y : IsInFinals w before.heard before.number b). inr (all_settled w before.heard more before.number b (last y) y))
            fits.place;
      }))

  ready_with : HartFits w now.heard now.number b → AreCurrent d now → IsReady w begun now b d
  ready_with fits current = record {
    between = record {
      heard = x.heard;
      fits = λ on. fits;
      row = row_told w begun before now x calm lane b.resolving at.row;
      blocks = blocks_told w begun before now d x at.blocks;
      early = early_on d before.heard more now.heard x.longer.1 at.early;
      current = λ on. current;
      reached = λ on none. subst (HaveReached d.generation) (sym (ap (λ (h : HartView). known_of h.lane) x.told)) (at.reached runs none);
    };
    calm = λ reason over. absurd (let no : None ≡ Some reason = sym runs ∙ over in cc);
  }

  -- whatever others did, where nothing was handed to it yet
  pub unrun_ready : before.number ≢ 0 → known_of before.lane ≡ [] → IsReady w begun now b d
  unrun_ready other none_known = ready_with (fits_on (λ last. absurd (other last.first))) (record {
    current = inr known;
    are = λ number block kept. absurd (none-some block (sym (none number) ∙ kept));
  })
    where
      known : known_of now.lane ≡ []
      known = ap (λ (h : HartView). known_of h.lane) x.told ∙ none_known

      none : (number : ℕ) → block_at d.entries number ≡ None
      none number = at.blocks.same number ∙ ap (last_block d.generation number) none_known

  -- and where nobody did anything
  pub alone_ready : ((e : Event) → Contains more e → hart_of e ≡ None) → IsReady w begun now b d
  alone_ready nobodys = ready_with (fits_on (λ last. nobodys)) (record {
    current = ⊎_elim
        (λ (y : d.generation ≡ (after before.heard).generation). inl (y ∙ sym same.generation))
        (λ (y : known_of before.lane ≡ []). inr (ap (λ (h : HartView). known_of h.lane) x.told ∙ y))
        was.current;
    are = λ number block kept. subst (λ (n : ℕ). HasBlock (after now.heard) n number block) (sym number_same) (same.blocks before.number number block (was.are number block kept));
  })
    where
      same : SameBut (after before.heard) (after now.heard)
      same = all_same before.heard more now.heard x.longer.1 nobodys

      was : AreCurrent d before
      was = at.current runs

-- ---- the first one, and the others

pub other_ready : OthersLeaveHart → (w : Setting) (begun : List Event) (before now : HartView) (b : HartState) (d : BlockTable) → Hears w begun before now → IsLane before.lane
    → IsReady w begun before b d → IsUnrun before b → before.number ≢ 0 → IsReady w begun now b d
other_ready others w begun before now b d x lane ready unrun other =
    unrun_ready others w begun before now b d x lane (subst (IsAtRow before) unrun.idle ready.between.row) unrun.runs ready.between other unrun.none_known

pub first_ready : OthersLeaveHart → (w : Setting) (begun : List Event) (before now : HartView) (b : HartState) (d : BlockTable) → (x : Hears w begun before now) → IsLane before.lane
    → before.lane.calling ≡ false → IsReady w begun before b d → ((e : Event) → Contains x.longer.0 e → hart_of e ≡ None) → IsReady w begun now b d
first_ready others w begun before now b d x lane calm ready nobodys = by b.«end» refl
  where
    by : (o : Option HartEnd) → b.«end» ≡ o → IsReady w begun now b d
    by None runs = alone_ready others w begun before now b d x lane calm runs ready.between nobodys
    by (Some reason) over = record {
      between = hears_between w begun before now b d reason x over calm lane ready.between;
      calm = λ other ended. ap (λ (h : HartView). h.lane.calling) x.told ∙ calm;
    }

-- another hart, as it was before it was told with the first one, and as it is then
pub record IsToldToo (w : Setting) (begun : List Event) (h : ℕ) (first told : HartView) : Type 0 where
  pub before : HartView
  pub now : HartView
  pub hears : Hears w begun before now
  pub number : before.number ≡ h
  pub behind : BeginsWith now.heard told.heard
  pub early : length before.heard ≤ length first.heard

-- what the first one hears is nobody's then
pub nobodys_since : (w : Setting) (begun : List Event) (first told : HartView) → (x : Hears w begun first told) → first.number ≡ 0
    → ((h : ℕ) → 0 < h → h < w.machine.harts → IsToldToo w begun h first told) → (e : Event) → Contains x.longer.0 e → hart_of e ≡ None
nobodys_since w begun first told x zeroth others e there = by (hart_of e) refl
  where
    y : Stands (length first.heard) told.heard e
    y = stands first.heard x.longer.0 told.heard e x.longer.1 there

    within : y.at < length told.heard
    within = slice_get_within told.heard y.at e y.there

    by : (o : Option ℕ) → hart_of e ≡ o → hart_of e ≡ None
    by None is = is
    by (Some zero) is = absurd (x.none y.at e y.since within y.there (is ∙ ap (λ (n : ℕ). Some n) (sym zeroth)))
    by (Some (suc m)) is =
        let less : suc m < w.machine.harts = x.heard.own e (suc m) (at_in told.heard y.at e y.there) is in
        let z = others (suc m) (omega arith) less in
        let early = z.early in
        let since = y.since in
        let at_now : slice_get z.now.heard y.at ≡ Some e =
        ap (λ (es : List Event). slice_get es y.at) z.behind.1 ∙ front_get told.heard z.behind.0 y.at e y.there in
        absurd (z.hears.none y.at e (omega (arith, early, since)) (slice_get_within z.now.heard y.at e at_now) at_now
        (is ∙ ap (λ (n : ℕ). Some n) (sym z.number)))

-- ---- a way from there on

module _ (append : TurnsAppend) (away : FinalsStayAway) where
  finals_away : (w : Setting) (journal : List Event) (h from to : ℕ) (first b : HartState) (turns : List Turned) (trail : List TrailItem) → FollowsBy w journal h from first turns trail to b
      → has_finals first.frames ≡ false → has_finals b.frames ≡ false
  finals_away w journal h from to first b turns trail (FollowsBy.no_more _ _) calm = calm
  finals_away w journal h from to first b turns trail (FollowsBy.one_more _ _ _ c _ turn rest items left late none x leaves follows) calm =
      finals_away w journal h (turn.at + length (events_of turn.did)) to c b rest left follows (away w (take turn.at journal) h first c turn.did x.moves calm)

  -- where a hart has come before the final destructors a new way of it may begin
  pub new_from : (w : Setting) (registers : Registers) (before now : HartView) (b c : HartState) → HartFits w before.heard before.number b → b.«end» ≡ None → has_finals b.frames ≡ false
      → Proceeds w before now b c → StandsAt w (record { from = length now.heard; registers = registers; hart = c }) now.trail now c
  new_from w registers before now b c fits runs calm on =
      let r : RunsBy w (length before.heard) b before.trail now c = on.on (length before.heard) b before.trail (runs_here append away w before b) in
      record {
        low = omega arith;
        new = record {
          no_finals = finals_away w now.heard now.number (length before.heard) r.to b c r.turns r.own r.follows calm;
          told = subst (λ (es : List Event). EndsTold now.number es c) (sym (take_all (length now.heard) now.heard (omega arith)))
              (told_to now.number now.heard r.to c r.late r.none
              (ends_told append away w now.heard now.number (length before.heard) r.to b c r.turns r.own r.follows calm none_there_yet));
        };
        runs = runs_here append away w now c;
      }
    where
      none_there_yet : EndsTold now.number (take (length before.heard) now.heard) b
      none_there_yet e there own =
          let here_before : Contains (after before.heard).endings e =
          subst (λ (es : List Event). Contains (after es).endings e) (ap (take (length before.heard)) on.longer.1 ∙ take-append_seam before.heard on.longer.0) there in
          absurd (runs_yet append away w before b fits runs calm
          (subst (Contains (map (λ (x : Ending). x.hart) (after before.heard).endings)) (own ∙ on.same) (in_map (λ (x : Ending). x.hart) (after before.heard).endings e here_before)))

-- ---- told, run to its end, and told again

pub on_to_told : TrailsStay → (w : Setting) (begun : List Event) (first told run last : HartView) (b c : HartState) (d : BlockTable) → Hears w begun first told
    → RunsToEnd w begun told run b c d → Hears w begun run last → Proceeds w first last b c
on_to_told stay w begun first told run last b c d x on y =
    goes_further w first run last b c c (goes_further w first told run b b c (hears_on stay w begun first told b x) on.runs.proceeds) (hears_on stay w begun run last c y)
