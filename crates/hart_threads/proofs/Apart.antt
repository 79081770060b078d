-- The harts of a run: the first has run alone, all are told of it, and run to their ends.
use Rattle.std.proofs.Common.{◌≡◌, ℕ, zero, suc, ◌+◌, ◌<◌, ◌≤◌, false, List, ◌++◌, length, length-append, get_or, refl, sym, ap, subst, ◌∙◌, arith}
use Rattle.history_event.specs.declared.event.Event.{Event}
use Rattle.history_event.specs.declared.hart_end.HartEnd.{HartEnd}
use Rattle.rv_hart.specs.Registers.{Registers}
use Rattle.word_rule.specs.declared.view.HartView.{HartView}
use Rattle.word_rule.specs.declared.view.TrailItem.{TrailItem}
use Rattle.word_rule.specs.Views.{BeginsWith, IsLane}
use Rattle.history_state.specs.Setting.{Setting}
use Rattle.tls_blocks.specs.Blocks.{BlockTable}
use Rattle.hart_moves.specs.Harts.{HartState}
use Rattle.hart_moves.specs.Starting.{HartStart}
use Rattle.hart_moves.specs.TurnEvents.Laws.{FinalsStayAway, TurnsAppend}
use Rattle.hart_fits.specs.Fits.{HartFits, OthersLeaveHart}
use Rattle.hart_trails.specs.Ends.{IsFresh}
use Rattle.hart_trails.specs.Laws.{TrailsStay}
use Rattle.hart_trails.specs.Owners.{AreNobodys}
use Rattle.hart_linker.specs.Between.{Hears, IsAtRow}
use Rattle.hart_threads.specs.Ends.{IsThrough, IsToldOf, RanFirst, RanWhole, RunsAlone}
use Rattle.hart_threads.specs.Run.{HasStarted, IsReady, IsUnrun, RunsOn, RunsToEnd}
use Rattle.hart_threads.specs.Turns.{Proceeds}
use Rattle.hart_threads.proofs.Begun.{first_ready, new_from, nobodys_since, on_to_told, other_ready}
use Rattle.hart_threads.proofs.Hearing.{front_of, through_then}
use Rattle.hart_threads.proofs.Stepping.{goes_further}
use Rattle.hart_threads.proofs.Whole.{StandsAt, stands_at}

module _ (fit : OthersLeaveHart) (w : Setting) (begun : List Event) {X : Type 0} (seat : X → HartView) (hart : X → HartState) (blocks : X → BlockTable) (old alone : List X)
    (count : length alone ≡ length old) (harts : length old ≡ w.machine.harts)
    (first : (d : X) → RunsOn w begun (seat (get_or old 0 d)) (seat (get_or alone 0 d)) (hart (get_or old 0 d)) (hart (get_or alone 0 d)) (blocks (get_or alone 0 d)))
    (calling : (d : X) → (seat (get_or alone 0 d)).lane.calling ≡ false)
    (others : (i : ℕ) (d : X) → 0 < i → get_or alone i d ≡ get_or old i d)
    (ready : (i : ℕ) (d : X) → i < length alone → IsReady w begun (seat (get_or alone i d)) (hart (get_or alone i d)) (blocks (get_or alone i d)))
    (numbers : (i : ℕ) (d : X) → i < length old → (seat (get_or old i d)).number ≡ i)
    (heard : (i : ℕ) (d : X) → i < length old → (seat (get_or old i d)).heard ≡ begun)
    (unrun : (i : ℕ) (d : X) → i < length old → IsUnrun (seat (get_or old i d)) (hart (get_or old i d))) where
  unrun_still : (i : ℕ) (d : X) → 0 < i → i < length old → IsUnrun (seat (get_or alone i d)) (hart (get_or alone i d))
  unrun_still i d some low = subst (λ (x : X). IsUnrun (seat x) (hart x)) (sym (others i d some)) (unrun i d low)

  number_of : (i : ℕ) (d : X) → i < length old → (seat (get_or alone i d)).number ≡ i
  number_of zero d low = (first d).proceeds.same ∙ numbers 0 d low
  number_of (suc i) d low = ap (λ (x : X). (seat x).number) (others (suc i) d (omega arith)) ∙ numbers (suc i) d low

  -- none of them is calling
  pub calm : (i : ℕ) (d : X) → i < length alone → (seat (get_or alone i d)).lane.calling ≡ false
  calm zero d low = calling d
  calm (suc i) d low =
      subst (IsAtRow (seat (get_or alone (suc i) d))) (unrun_still (suc i) d (omega arith) (let same = count in omega (arith, low, same))).idle (ready (suc i) d low).between.row

  -- the first has heard of no less than others
  early : (i : ℕ) (d : X) → 0 < i → i < length old → length (seat (get_or alone i d)).heard ≤ length (seat (get_or alone 0 d)).heard
  early i d some low =
      let on : BeginsWith (seat (get_or alone 0 d)).heard (seat (get_or old 0 d)).heard = (first d).proceeds.longer in
      let long : length (seat (get_or alone 0 d)).heard ≡ length (seat (get_or old 0 d)).heard + length on.0 = ap length on.1 ∙ length-append (seat (get_or old 0 d)).heard on.0 in
      let zeroth : length (seat (get_or old 0 d)).heard ≡ length begun = ap length (heard 0 d (omega (arith, low))) in
      let here : length (seat (get_or alone i d)).heard ≡ length begun = ap (λ (x : X). length (seat x).heard) (others i d some) ∙ ap length (heard i d low) in
      omega (arith, long, zeroth, here)

  -- ---- they are told

  module _ (told : List X) (more : length told ≡ length alone)
      (hears : (i : ℕ) (d : X) → i < length alone → Hears w begun (seat (get_or alone i d)) (seat (get_or told i d)))
      (lanes : (i : ℕ) (d : X) → i < length alone → IsLane (seat (get_or alone i d)).lane)
      (since : (i : ℕ) (d : X) → i < length alone → BeginsWith (seat (get_or told i d)).heard (seat (get_or told 0 d)).heard)
      (same_hart : (i : ℕ) (d : X) → hart (get_or told i d) ≡ hart (get_or alone i d))
      (same_blocks : (i : ℕ) (d : X) → blocks (get_or told i d) ≡ blocks (get_or alone i d)) where
    nobodys : (d : X) (some : 0 < length alone) → AreNobodys (hears 0 d some).longer.0
    nobodys d some = nobodys_since w begun (seat (get_or alone 0 d)) (seat (get_or told 0 d)) (hears 0 d some) (number_of 0 d (let same = count in omega (arith, some, same)))
        (λ h behind less.
        let low : h < length old = (let all = harts in omega (arith, less, all)) in
        let within : h < length alone = (let same = count in omega (arith, low, same)) in
        record {
          before = seat (get_or alone h d);
          now = seat (get_or told h d);
          hears = hears h d within;
          number = number_of h d low;
          behind = since h d within;
          early = early h d behind low;
        })

    there : (i : ℕ) (d : X) → i < length told → i < length alone
    there i d low = (let same = more in omega (arith, low, same))

    ready_still : (i : ℕ) (d : X) → i < length told → IsReady w begun (seat (get_or told i d)) (hart (get_or alone i d)) (blocks (get_or alone i d))
    ready_still zero d low =
        first_ready fit w begun (seat (get_or alone 0 d)) (seat (get_or told 0 d)) (hart (get_or alone 0 d)) (blocks (get_or alone 0 d)) (hears 0 d (there 0 d low)) (lanes 0 d (there 0 d low))
        (calling d) (ready 0 d (there 0 d low)) (nobodys d (there 0 d low))
    ready_still (suc i) d low =
        let within : suc i < length alone = there (suc i) d low in
        let inside : suc i < length old = (let same = count in omega (arith, within, same)) in
        other_ready fit w begun (seat (get_or alone (suc i) d)) (seat (get_or told (suc i) d)) (hart (get_or alone (suc i) d)) (blocks (get_or alone (suc i) d)) (hears (suc i) d within)
        (lanes (suc i) d within) (ready (suc i) d within) (unrun_still (suc i) d (omega arith) inside)
        (λ zeroth. let no : suc i ≡ 0 = sym (number_of (suc i) d inside) ∙ zeroth in omega (arith, no))

    -- and may be run
    pub told_ready : (i : ℕ) (d : X) → i < length told → IsReady w begun (seat (get_or told i d)) (hart (get_or told i d)) (blocks (get_or told i d))
    told_ready i d low =
        subst (λ (b : BlockTable). IsReady w begun (seat (get_or told i d)) (hart (get_or told i d)) b) (sym (same_blocks i d))
        (subst (λ (b : HartState). IsReady w begun (seat (get_or told i d)) b (blocks (get_or alone i d))) (sym (same_hart i d)) (ready_still i d low))

    pub told_over : (d : X) → HasStarted (hart (get_or alone 0 d)) → HasStarted (hart (get_or told 0 d))
    told_over d over = subst HasStarted (sym (same_hart 0 d)) over

    -- ---- what that comes to, of the events that stand there then

    whole : (e : X) → 0 < length told → (seat (get_or alone 0 e)).heard ≡ begun ++ (first e).proceeds.longer.0
    whole e some = (first e).proceeds.longer.1 ∙ ap (λ (es : List Event). es ++ (first e).proceeds.longer.0) (heard 0 e (let a = more in let b = count in omega (arith, some, a, b)))

    pub runs_alone : (d e : X) → 0 < length told → IsFresh (hart (get_or old 0 d)) → HartFits w (seat (get_or old 0 d)).heard (seat (get_or old 0 d)).number (hart (get_or old 0 d))
        → get_or alone 0 e ≡ get_or alone 0 d → RunsAlone w begun (first e).proceeds.longer.0 (seat (get_or old 0 d)) (seat (get_or told 0 d)) (hart (get_or old 0 d)) (hart (get_or told 0 d))
    runs_alone d e some fresh fits same = record {
      first = numbers 0 d (let a = more in let b = count in omega (arith, some, a, b));
      fresh = fresh;
      fits = fits;
      seat = seat (get_or alone 0 d);
      on = subst (Proceeds w (seat (get_or old 0 d)) (seat (get_or alone 0 d)) (hart (get_or old 0 d))) (sym (same_hart 0 d)) (first d).proceeds;
      heard = ap (λ (x : X). (seat x).heard) (sym same) ∙ whole e some;
      hears = hears 0 d (there 0 d some);
    }

    pub told_of : (i : ℕ) (d e : X) → 0 < i → i < length told → get_or alone 0 e ≡ get_or alone 0 d
        → IsToldOf w begun (first e).proceeds.longer.0 (seat (get_or old i d)) (seat (get_or told i d))
    told_of i d e some low same = record {
      hears = subst (λ (x : X). Hears w begun (seat x) (seat (get_or told i d))) (others i d some) (hears i d (there i d low));
      behind = subst (BeginsWith (seat (get_or told i d)).heard) (ap (λ (x : X). (seat x).heard) (sym same) ∙ whole e (omega (arith, low)))
          (front_of (seat (get_or told i d)) (seat (get_or told 0 d)) (seat (get_or alone 0 d)) (since i d (there i d low)) (hears 0 d (there 0 d (omega (arith, low)))).longer);
    }

-- ---- they run to their ends, and are told again

-- the first one, once it had run alone
module _ (stay : TrailsStay) (w : Setting) (begun alone : List Event) (before told run last : HartView) (b m c : HartState) (d : BlockTable) (x : RunsAlone w begun alone before told b m)
    (runs : RunsToEnd w begun told run m c d) (again : Hears w begun run last) where
  pub on_alone : Proceeds w x.seat last m c
  on_alone = on_to_told stay w begun x.seat told run last m c d x.hears runs again

  pub on_whole : Proceeds w before last b c
  on_whole = goes_further w before x.seat last b m c x.on on_alone

  module _ (append : TurnsAppend) (away : FinalsStayAway) (registers : Registers) (now : HartView) (reason : HartEnd) (over : HasStarted m)
      (finished : (start : HartStart) (own : List TrailItem) → start.registers ≡ registers → StandsAt w start own last c → RanWhole w start own now reason)
      (through : IsThrough w begun last now) where
    pub ran_first : RanFirst w begun alone registers before now b reason
    ran_first = record {
      seat = x.seat;
      hart = m;
      on = x.on;
      heard = x.heard;
      over = over;
      further = front_of now last x.seat through.longer on_alone.longer;
      rest = finished (record { from = length x.seat.heard; registers = registers; hart = m }) x.seat.trail refl
          (stands_at w (record { from = length x.seat.heard; registers = registers; hart = m }) x.seat.trail x.seat last m c on_alone
          (new_from append away w registers before x.seat b m x.fits x.fresh.runs x.fresh.no_finals x.on));
      whole = λ start own same low new r. finished start own same (stands_at w start own before last b c on_whole (record { low = low; new = new; runs = r }));
      through = through_then w begun before last now on_whole.same on_whole.longer through;
    }
