-- The turn of the first hart in which the final destructors of an object have run: as it was told of events before, and without an event.
use Rattle.std.proofs.Common.{◌≡◌, ◌⊎◌, ⊎_elim, inr, ℕ, ◌+◌, ◌<◌, ◌≤◌, ◌==◌, cond, true, false, List, [], ◌∷◌, ◌++◌, drop, length, length-append, take, None, Some, refl, sym, ap, subst, ◌∙◌, append-nil, append_assoc, arith}
use Rattle.std.proofs.Math.Seq.{drop-append_seam}
use Rattle.std.specs.List.{Contains}
use Rattle.std.proofs.lemmas.Bool.{false≢true}
use Rattle.std.proofs.lemmas.List.{take_all}
use Rattle.std.proofs.lemmas.List.Elements.{Contains-append_cases, Contains-append_right}
use Rattle.history_event.specs.declared.event.Event.{Event}
use Rattle.word_rule.specs.declared.view.HartView.{HartView}
use Rattle.word_rule.specs.declared.view.KeeperView.{KeeperView}
use Rattle.word_rule.specs.declared.view.TrailItem.{TrailItem}
use Rattle.word_rule.specs.Layout.{harts_at_most}
use Rattle.word_rule.specs.Views.{NoneAbove, known_of, readings_of, row_of}
use Rattle.history_state.specs.After.{after}
use Rattle.history_state.specs.Laws.{ModulesAreTidy}
use Rattle.history_state.specs.Legal.{Lawful, Legal}
use Rattle.history_state.specs.Lemmas.History.{legal_is_lawful}
use Rattle.history_state.specs.Lemmas.Lists.{first_or_later, none_in}
use Rattle.history_state.specs.Read.{BeginsUntouched}
use Rattle.history_state.specs.Setting.{Machine, Setting}
use Rattle.history_state.specs.State.{State}
use Rattle.history_calls.specs.Laws.{hart_of}
use Rattle.tls_blocks.specs.Blocks.{BlockTable}
use Rattle.hart_fits.specs.Finals.{OwnMovesFit}
use Rattle.hart_fits.specs.Fits.{HartFits, OthersLeaveHart}
use Rattle.hart_linker.specs.Between.{Hears, IsAtRow, IsBetweenTurns}
use Rattle.hart_linker.specs.Lemmas.Hearing.{blocks_told, early_on}
use Rattle.hart_linker.specs.Serving.{ServesTurn}
use Rattle.hart_moves.specs.Due.{due, is_finalising}
use Rattle.hart_moves.specs.Follows.{HasNone, TurnsAt}
use Rattle.hart_moves.specs.Harts.{HartState, Resolving}
use Rattle.hart_moves.specs.Moves.{Did, Moves, settled_resolving}
use Rattle.hart_moves.specs.TurnEvents.Appends.{has_finals}
use Rattle.hart_moves.specs.TurnEvents.Laws.{FinalsStay}
use Rattle.hart_moves.specs.Trails.{Beside, beside_of}
use Rattle.hart_trails.specs.Trails.{Leaves, Reads}
use Rattle.link_keeper.specs.Acting.{Acts, OpenNothing}
use Rattle.link_keeper.specs.Attending.{Attends, NobodysCame}
use Rattle.link_keeper.specs.Finalising.{MayFinalise}
use Rattle.link_keeper.specs.Handing.{MayHandOver}
use Rattle.link_keeper.specs.Keeping.{KeepsState, KeepsView, OpensNothing, is_opening}
use Rattle.link_keeper.specs.Serving.{IsTaken}
use Rattle.link_keeper.specs.declared.acting.Reply.{Reply}
use Rattle.link_state.specs.Table.{LinkTable}
use Rattle.world_answers.specs.ReturnsPart.FinalTurns.Laws.{FinalsGoOn}
use Rattle.world_memory.specs.declared.turn_answers.answered.MemoryChange.{MemoryChange}
use Rattle.world_turns.specs.WorldFrames.Laws.{FinalsFinish, FinalsPass}
use Rattle.link_keeper.proofs.Finalised.{may_finalise}
use Rattle.link_keeper.proofs.Begun.{blocks_begun}
use Rattle.link_keeper.proofs.Current.{current_of}
use Rattle.link_keeper.proofs.Fitting.{fits_on}
use Rattle.link_keeper.proofs.Lacking.{none_both}
use Rattle.link_keeper.proofs.Shown.{nobodys_opening}

-- ---- it was told of events first

pub attends_before : (w : Setting) (begun : List Event) (k : KeeperView) (before told h : HartView) (id : ℕ) → Hears w begun before told → id ≡ before.number → Attends k told h id → Attends k before h id
attends_before w begun k before told h id hears same at = record {
  calling = at.calling;
  step = at.step;
  may = at.may;
  number = at.number ∙ ap (λ (x : HartView). x.number) hears.told;
  trail = at.trail ∙ ap (λ (x : HartView). x.trail) hears.told;
  taken = at.taken ∙ ap (λ (x : HartView). x.lane.taken) hears.told;
  longer = (hears.longer.0 ++ at.longer.0, at.longer.1 ∙ ap (λ (es : List Event). es ++ at.longer.0) hears.longer.1 ∙ append_assoc before.heard hears.longer.0 at.longer.0);
  none = none_both id (length before.heard) told.heard k.events k.events at.longer.0 [] at.longer.1 (sym (append-nil k.events))
      (subst (λ (n : ℕ). HasNone told.heard n (length before.heard) (length told.heard)) (sym same) hears.none) at.none;
  free = at.free;
  found = at.found;
  read = subst (λ (items : List TrailItem). NoneAbove (after k.events).generation (readings_of items)) (ap (λ (x : HartView). x.trail) hears.told) at.read;
}

-- ---- what it fits

module _ (others : OthersLeaveHart) (w : Setting) (begun : List Event) (k : KeeperView) (before : HartView) (id : ℕ) (b : HartState) (d : BlockTable) (view : KeepsView w begun k)
    (between : IsBetweenTurns w begun before b d) (same : id ≡ before.number) (runs : b.«end» ≡ None) where
  pub fits_behind : (more : List Event) → k.events ≡ before.heard ++ more → HasNone k.events id (length before.heard) (length k.events) → HartFits w k.events id b
  fits_behind more are none = fits_on others w begun before.heard more k id b between.heard.legal view are none runs (subst (λ (n : ℕ). HartFits w before.heard n b) (sym same) (between.fits runs))

  pub fits_told : (told : HartView) → Hears w begun before told → told.heard ≡ k.events → HartFits w k.events id b
  fits_told told hears all = fits_behind hears.longer.0 (sym all ∙ hears.longer.1)
      (subst (λ (es : List Event). HasNone es id (length before.heard) (length es)) all
      (subst (λ (n : ℕ). HasNone told.heard n (length before.heard) (length told.heard)) (sym same) hears.none))

pub row_idle : (h : HartView) (r : Resolving) → settled_resolving r ≡ Resolving.idle → IsAtRow h r → h.lane.calling ≡ false
row_idle h Resolving.idle is at = at
row_idle h (Resolving.to_exchange o) is at = absurd (let bad : Resolving.to_exchange o ≡ Resolving.idle = is in cc)
row_idle h (Resolving.to_finish o found) is at = absurd (let bad : Resolving.to_finish o found ≡ Resolving.idle = is in cc)
row_idle h (Resolving.to_settle o found) is at = at

at_row : (h : HartView) (r : Resolving) → settled_resolving r ≡ Resolving.idle → h.lane.calling ≡ false → IsAtRow h r
at_row h Resolving.idle is calling = calling
at_row h (Resolving.to_exchange o) is calling = absurd (let no : Resolving.to_exchange o ≡ Resolving.idle = is in cc)
at_row h (Resolving.to_finish o found) is calling = absurd (let no : Resolving.to_finish o found ≡ Resolving.idle = is in cc)
at_row h (Resolving.to_settle o found) is calling = calling

-- ---- without an event

reads_none : (s : State) (b : HartState) (read : List TrailItem) → is_finalising (due s b) ≡ true → Reads s b read → read ≡ []
reads_none s b _ last (Reads.is_another other) = refl
reads_none s b _ last (Reads.none_kept number offset generation block back is low none) = absurd (false≢true (sym (ap is_finalising is) ∙ last))

quiet_leaves : (past : List Event) (b : HartState) (beside : Beside) (read : List TrailItem) → read ≡ [] → Leaves past b beside (Did.quiet []) (read ++ [])
quiet_leaves past b beside read none = subst (λ (items : List TrailItem). Leaves past b beside (Did.quiet []) (items ++ [])) (sym none) (Leaves.calls [])

module _ (own_fit : OwnMovesFit) (tidy : (m : Machine) (journal : List Event) → Lawful m journal → ModulesAreTidy (after journal))
    (begins : (m : Machine) (journal : List Event) → Lawful m journal → BeginsUntouched (after journal)) (w : Setting) (begun : List Event) (k : KeeperView) (before told : HartView) (id : ℕ) (b c : HartState)
    (d e : BlockTable) (view : KeepsView w begun k) (between : IsBetweenTurns w begun before b d) (hears : Hears w begun before told) (all : told.heard ≡ k.events) (same : id ≡ before.number)
    (fits : HartFits w k.events id b) (runs : b.«end» ≡ None) (rests : settled_resolving b.resolving ≡ Resolving.idle) (moves : Moves w k.events id b (Did.quiet []) c)
    (rests_on : settled_resolving c.resolving ≡ Resolving.idle) where
  number_is : told.number ≡ before.number
  number_is = ap (λ (h : HartView). h.number) hears.told

  whole : take (length k.events) k.events ≡ k.events
  whole = take_all (length k.events) k.events (omega arith)

  heard_whole : take (length k.events) told.heard ≡ k.events
  heard_whole = ap (take (length k.events)) all ∙ whole

  turns_at : TurnsAt w k.events id (record { at = length k.events; did = Did.quiet []; beside = beside_of k.events id b (Did.quiet []) }) b c
  turns_at = record {
    within = omega arith;
    moves = subst (λ (es : List Event). Moves w es id b (Did.quiet []) c) (sym whole) moves;
    own = refl;
    beside = ap (λ (es : List Event). beside_of es id b (Did.quiet [])) (sym whole);
  }

  pub quiet_turn : NoneAbove k.generation (readings_of before.trail) → ((s : State) → is_finalising (due s b) ≡ true) → ServesTurn w before told b c
  quiet_turn readings last = record {
    same = number_is;
    longer = hears.longer;
    turn = record { at = length k.events; did = Did.quiet []; beside = beside_of k.events id b (Did.quiet []) };
    since = let count : length told.heard ≡ length before.heard + length hears.longer.0 = ap length hears.longer.1 ∙ length-append before.heard hears.longer.0 in
        let long : length told.heard ≡ length k.events = ap length all in omega (arith, count, long);
    none = subst (λ (n : ℕ). HasNone told.heard before.number (length before.heard) n) (ap length all) hears.none;
    free = λ asks. absurd (false≢true asks);
    turns = subst (λ (es : List Event). TurnsAt w es before.number (record { at = length k.events; did = Did.quiet []; beside = beside_of k.events id b (Did.quiet []) }) b c) (sym all)
        (subst (λ (n : ℕ). TurnsAt w k.events n (record { at = length k.events; did = Did.quiet []; beside = beside_of k.events id b (Did.quiet []) }) b c) same turns_at);
    last = let long : length told.heard ≡ length k.events = ap length all in omega (arith, long);
    read = λ n there.
        let low : n ≤ k.generation = readings n there in
        let kept : k.generation ≡ (after k.events).generation = view.kept.generation in
        let here : (after (take (length k.events) told.heard)).generation ≡ (after k.events).generation = ap (λ (es : List Event). (after es).generation) heard_whole in
        omega (arith, low, kept, here);
    items = [];
    trail = ap (λ (h : HartView). h.trail) hears.told ∙ sym (append-nil before.trail);
    leaves = λ read reads. quiet_leaves (take (length k.events) told.heard) b (beside_of k.events id b (Did.quiet [])) read (reads_none (after (take (length k.events) told.heard)) b read (last (after (take (length k.events) told.heard))) reads);
  }

  low : told.number < harts_at_most
  low =
      let few : w.machine.harts ≤ harts_at_most = view.kept.few in
      let within : id < w.machine.harts = fits.within in
      let number : told.number ≡ id = number_is ∙ sym same in
      omega (arith, few, within, number)

  pub quiet_between : FinalsStay → has_finals b.frames ≡ true → (g : ℕ) → g ≡ (after k.events).generation → e.entries ≡ (cond (d.generation == g) d.entries []) → e.generation ≡ g → known_of before.lane ≡ (row_of k before.number).issued
      → IsBetweenTurns w begun told c e
  quiet_between finals last g is entries generation issued =
      let early : d.generation ≤ (after told.heard).generation = early_on d before.heard hears.longer.0 told.heard hears.longer.1 between.early in
      let heard_is : (after told.heard).generation ≡ (after k.events).generation = ap (λ (es : List Event). (after es).generation) all in
      let fit = blocks_begun d e told g entries generation (omega (arith, early, heard_is, is)) (blocks_told w begun before told d hears between.blocks) in
      record {
        heard = hears.heard;
        fits = λ goes. subst (λ (es : List Event). HartFits w es told.number c) (append-nil k.events ∙ sym all)
            (subst (λ (n : ℕ). HartFits w (k.events ++ []) n c) (same ∙ sym number_is)
            (own_fit w k.events id b c (Did.quiet []) (legal_is_lawful w k.events view.kept.legal) moves runs goes fits));
        row = at_row told c.resolving rests_on (ap (λ (h : HartView). h.lane.calling) hears.told ∙ row_idle before b.resolving rests between.row);
        blocks = fit;
        early = omega (arith, generation, is, heard_is);
        current = λ goes. current_of tidy begins w begun k told e view.kept low
            (ap (λ (h : HartView). known_of h.lane) hears.told ∙ issued ∙ ap (λ (n : ℕ). (row_of k n).issued) (sym number_is)) all fit (generation ∙ is);
        reached = λ goes calm. absurd (false≢true (sym calm ∙ finals w k.events id b c (Did.quiet []) moves last goes));
      }

-- ---- with events

module _ (others : OthersLeaveHart) (w : Setting) (given : List Event) (state : LinkTable) (k : KeeperView) (before told h : HartView) (id : ℕ) (b : HartState) (d : BlockTable) (keeps : KeepsState w given state k)
    (between : IsBetweenTurns w given before b d) (hears : Hears w given before told) (same : id ≡ before.number) (runs : b.«end» ≡ None) (attended : Attends k told h id) where
  pub at_last : Attends k before h id
  at_last = attends_before w given k before told h id hears same attended

  pub fits_last : HartFits w k.events id b
  fits_last = fits_behind others w given k before id b d keeps.view between same runs at_last.longer.0 at_last.longer.1 at_last.none

  pub may_last : FinalsFinish → FinalsPass → FinalsGoOn → ((s : State) → is_finalising (due s b) ≡ true) → MayFinalise w state.harts state.events id b
  may_last finish pass goes_on asks = may_finalise finish pass goes_on w state.events id b (subst (λ (es : List Event). HartFits w es id b) keeps.same fits_last) asks state.harts keeps.machine
      (subst (λ (es : List Event). Legal w es) keeps.same keeps.view.kept.legal)

  pub hand_last : MayHandOver w given k h id
  hand_last = record {
    view = keeps.view;
    low = fits_last.within;
    number = same ∙ sym at_last.number;
    calling = at_last.calling;
    step = at_last.step;
    may = at_last.may;
    found = at_last.found;
  }

  pub taken_last : (t : LinkTable) (c : HartState) (spare : ℕ) (does : MemoryChange) (answer : Reply) → Acts w state.events t id b c spare does answer → IsTaken w t k id b c spare does answer
  taken_last t c spare does answer acts = record {
    fits = fits_last;
    runs = runs;
    acts = subst (λ (es : List Event). Acts w es t id b c spare does answer) (sym keeps.same) acts;
  }

module _ (old between new own : List Event) (came : NobodysCame old between) (are : new ≡ between ++ own) where
  behind : new ≡ old ++ (came.more ++ own)
  behind = are ∙ ap (λ (es : List Event). es ++ own) came.are ∙ append_assoc old came.more own

  open_none : (es : List Event) → OpenNothing es → (e : Event) → Contains es e → is_opening e ≡ false
  open_none [] none e there = absurd (none_in e there)
  open_none (x ∷ rest) none e there = ⊎_elim
      (λ (same : x ≡ e). ap is_opening (sym same) ∙ none.0)
      (λ (more : Contains rest e). open_none rest none.1 e more)
      (first_or_later x rest e there)

  pub opens_behind : OpenNothing own → OpensNothing old new
  opens_behind none = record {
    more = came.more ++ own;
    are = behind;
    none = λ e there. ⊎_elim
        (λ (x : Contains came.more e). nobodys_opening e (came.nobodys e x))
        (λ (x : Contains own e). open_none own none e x)
        (Contains-append_cases came.more own e there);
  }

  pub own_behind : (id : ℕ) → id ≡ 0 → (e : Event) × Contains own e × (hart_of e ≡ Some id) → (new ≡ old) ⊎ ((e : Event) × Contains (drop (length old) new) e × (hart_of e ≡ Some 0))
  own_behind id zeroth x = inr (
    x.0,
    subst (λ (es : List Event). Contains es x.0) (sym (ap (drop (length old)) behind ∙ drop-append_seam old (came.more ++ own))) (Contains-append_right came.more own x.0 x.1),
    x.2 ∙ ap (λ (n : ℕ). Some n) zeroth,
  )
