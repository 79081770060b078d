-- A turn that asks, once it is handed over to its hart.
use Rattle.std.proofs.Common.{◌≡◌, ⊎_elim, inr, ℕ, zero, suc, ◌+◌, ◌<◌, ◌≤◌, ◌==◌, ◌&&◌, true, false, if◌then◌else◌, IsSome, List, [], ◌∷◌, ◌++◌, length, length-append, take, None, Some, refl, sym, ap, subst, ◌∙◌, append-nil, append_assoc, arith}
use Rattle.std.proofs.Math.Seq.{drop-append_seam, take-append_seam}
use Rattle.std.specs.List.{Contains, slice_get}
use Rattle.std.proofs.lemmas.List.Elements.{Contains-append_cases, Contains-append_right}
use Rattle.history_event.specs.declared.event.Event.{Event}
use Rattle.word_rule.specs.declared.entry.Entry.{Entry}
use Rattle.word_rule.specs.declared.view.HartView.{HartView}
use Rattle.word_rule.specs.declared.view.KeeperView.{KeeperView}
use Rattle.word_rule.specs.declared.view.TrailItem.{TrailItem}
use Rattle.word_rule.specs.Layout.{harts_at_most}
use Rattle.word_rule.specs.Views.{NoneAbove, known_of, readings_of}
use Rattle.history_state.specs.After.{after}
use Rattle.history_state.specs.Laws.{ModulesAreTidy}
use Rattle.history_state.specs.Legal.{Lawful, Legal}
use Rattle.history_state.specs.Objects.{is_startup}
use Rattle.history_state.specs.Lemmas.History.{legal_is_lawful}
use Rattle.history_state.specs.Lemmas.Lists.{here, only_in}
use Rattle.history_state.specs.Read.{BeginsUntouched}
use Rattle.history_state.specs.Setting.{Machine, Setting}
use Rattle.history_state.specs.Slots.{HasNoGrant}
use Rattle.history_state.specs.State.{State}
use Rattle.history_event.specs.declared.state.Module.{Module}
use Rattle.history_journal.specs.Following.{machine_of}
use Rattle.hart_fits.specs.Finals.{OwnMovesFit}
use Rattle.hart_fits.specs.Fits.{HartFits, OthersLeaveHart}
use Rattle.hart_linker.specs.Between.{AreCurrent, BlocksFit, IsAtRow, IsBetweenTurns}
use Rattle.hart_linker.specs.Serving.{ServesTurn, is_asking}
use Rattle.hart_moves.specs.Due.{due}
use Rattle.hart_moves.specs.Follows.{HasNone, Turned, TurnsAt}
use Rattle.hart_moves.specs.Harts.{HartState, Resolving}
use Rattle.hart_moves.specs.Moves.{Did, Moves, events_of, settled_resolving}
use Rattle.hart_moves.specs.Trails.{beside_of}
use Rattle.hart_trails.specs.Lemmas.Rising.{generation_rises}
use Rattle.hart_trails.specs.Trails.{Leaves, Reads}
use Rattle.link_state.specs.Table.{LinkTable}
use Rattle.tls_blocks.specs.Blocks.{BlockTable, block_at}
use Rattle.tls_blocks.specs.Numbers.{module_at}
use Rattle.tls_blocks.specs.declared.entry.Entry.{Entry as BlockEntry}
use Rattle.world_memory.specs.declared.turn_answers.answered.MemoryChange.{MemoryChange}
use Rattle.kept_words.specs.Handed.{is_event_mark}
use Rattle.link_keeper.specs.Acting.{Acts, MayAct}
use Rattle.link_keeper.specs.Attending.{Attends}
use Rattle.link_keeper.specs.Handing.{KeepsAnswer, MayHandOver, is_stored}
use Rattle.link_keeper.specs.Keeping.{KeepsState}
use Rattle.link_keeper.specs.Serving.{IsHandedOver, IsTaken}
use Rattle.link_keeper.specs.declared.acting.Reply.{Reply}
use Rattle.link_keeper.proofs.Acted.{is_free}
use Rattle.link_keeper.proofs.Current.{current_of}
use Rattle.link_keeper.proofs.Ended.{idle_known}
use Rattle.link_keeper.proofs.Ending.{event_plain, heard_on}
use Rattle.link_keeper.proofs.Fitting.{fits_on}
use Rattle.link_keeper.proofs.Stored.{blocks_fit}

take_all : {X : Type 0} (xs : List X) → take (length xs) xs ≡ xs
take_all {X} xs = ap (take (length xs)) (sym (append-nil xs)) ∙ take-append_seam xs []

front_none : (h from : ℕ) (past more : List Event) → HasNone past h from (length past) → HasNone (past ++ more) h from (length past)
front_none h from past more none k e above below at = none k e above below (sym (front_same past more k below) ∙ at)
  where
    front_same : {X : Type 0} (xs ys : List X) (n : ℕ) → n < length xs → slice_get (xs ++ ys) n ≡ slice_get xs n
    front_same {X} [] ys n low = absurd (omega (arith, low))
    front_same {X} (z ∷ xs) ys zero low = refl
    front_same {X} (z ∷ xs) ys (suc n) low = front_same xs ys n (omega (arith, low))

-- a hart that asks isn't calling
pub asks_idle : (s : State) (h : HartView) (b : HartState) → IsAtRow h b.resolving → is_asking (due s b) ≡ true → h.lane.calling ≡ false
asks_idle s h b row asks = by b.resolving (is_free s b asks).rests row
  where
    by : (r : Resolving) → settled_resolving r ≡ Resolving.idle → IsAtRow h r → h.lane.calling ≡ false
    by Resolving.idle is at = at
    by (Resolving.to_exchange o) is at = absurd (let bad : Resolving.to_exchange o ≡ Resolving.idle = is in cc)
    by (Resolving.to_finish o found) is at = absurd (let bad : Resolving.to_finish o found ≡ Resolving.idle = is in cc)
    by (Resolving.to_settle o found) is at = at

-- ---- before the turn

module _ (others : OthersLeaveHart) (w : Setting) (given : List Event) (state : LinkTable) (k : KeeperView) (before h : HartView) (id : ℕ) (b : HartState) (d : BlockTable)
    (keeps : KeepsState w given state k) (between : IsBetweenTurns w given before b d) (same : id ≡ before.number) (asks : (s : State) → is_asking (due s b) ≡ true) (at : Attends k before h id) where
  pub runs_here : b.«end» ≡ None
  runs_here = (is_free (after k.events) b (asks (after k.events))).runs

  pub fits_here : HartFits w k.events id b
  fits_here = fits_on others w given before.heard at.longer.0 k id b between.heard.legal keeps.view at.longer.1 at.none runs_here
      (subst (λ (n : ℕ). HartFits w before.heard n b) (sym same) (between.fits runs_here))

  pub may_act : MayAct w state id b
  may_act = record {
    machine = keeps.machine;
    legal = subst (λ (es : List Event). Legal w es) keeps.same keeps.view.kept.legal;
    started = ap (λ (es : List Event). is_startup (after es)) (sym keeps.same) ∙ keeps.view.kept.started;
    fits = subst (λ (es : List Event). HartFits w es id b) keeps.same fits_here;
    free = subst (λ (es : List Event). HasNoGrant (after es) id) keeps.same at.free;
    asks = asks (after state.events);
  }

  pub may_hand_over : MayHandOver w given k h id
  may_hand_over = record {
    view = keeps.view;
    low = fits_here.within;
    number = same ∙ sym at.number;
    calling = at.calling;
    step = at.step;
    may = at.may;
    found = at.found;
  }

  pub is_taken : (t : LinkTable) (c : HartState) (spare : ℕ) (does : MemoryChange) (answer : Reply) → Acts w state.events t id b c spare does answer → IsTaken w t k id b c spare does answer
  is_taken t c spare does answer acts = record {
    fits = fits_here;
    runs = runs_here;
    acts = subst (λ (es : List Event). Acts w es t id b c spare does answer) (sym keeps.same) acts;
  }

-- ---- once it is handed over

module _ (w : Setting) (given : List Event) (t : LinkTable) (k l : KeeperView) (h i : HartView) (id : ℕ) (b c : HartState) (spare : ℕ) (does : MemoryChange) (answer : Reply) (first : Entry)
    (turn : IsTaken w t k id b c spare does answer) (over : IsHandedOver w given k l h i id b c turn.acts.did spare first) where
  pub journal_is : l.events ≡ t.events
  journal_is = over.passed.events ∙ sym turn.acts.are

  -- the module of the answer is there
  pub module_there : (modules : List Module) → modules ≡ (after t.events).modules → is_stored first ≡ true → IsSome (module_at modules first.slot)
  module_there modules are stored =
      subst (λ (ms : List Module). IsSome (module_at ms first.slot)) (ap (λ (es : List Event). (after es).modules) journal_is ∙ sym are) (over.there stored)

  -- what is kept of it, by what was kept before the turn
  pub kept_now : (generation : ℕ) (d mid now : BlockTable) → generation ≡ (after t.events).generation → mid.entries ≡ d.entries → mid.generation ≡ d.generation → KeepsAnswer generation first mid now
      → KeepsAnswer (after l.events).generation first d now
  kept_now generation d mid now is entries same x =
      subst (λ (n : ℕ). KeepsAnswer n first d now) (is ∙ ap (λ (es : List Event). (after es).generation) (sym journal_is)) (record {
        generation_is = x.generation_is;
        blocks = λ number. x.blocks number
            ∙ ap (λ (es : List BlockEntry). if (first.slot == number) && is_stored first then Some first.value else (if mid.generation == generation then block_at es number else None)) entries
            ∙ ap (λ (n : ℕ). if (first.slot == number) && is_stored first then Some first.value else (if n == generation then block_at d.entries number else None)) same;
      })

module _ (own_fit : OwnMovesFit) (tidy : (m : Machine) (journal : List Event) → Lawful m journal → ModulesAreTidy (after journal))
    (begins : (m : Machine) (journal : List Event) → Lawful m journal → BeginsUntouched (after journal)) (w : Setting) (given : List Event) (state t : LinkTable) (k l : KeeperView) (before h i : HartView) (id : ℕ)
    (b c : HartState) (spare : ℕ) (does : MemoryChange) (answer : Reply) (first : Entry) (d now : BlockTable) (keeps : KeepsState w given state k) (between : IsBetweenTurns w given before b d) (same : id ≡ before.number)
    (idle : before.lane.offer ≡ None) (at : Attends k before h id) (turn : IsTaken w t k id b c spare does answer) (harts : t.harts ≡ state.harts)
    (over : IsHandedOver w given k l h i id b c turn.acts.did spare first) (kept : KeepsAnswer (after l.events).generation first d now) where
  abbrev did : Did
  did = turn.acts.did

  events_are : l.events ≡ k.events ++ events_of did
  events_are = over.passed.events

  heard_is : i.heard ≡ k.events ++ events_of did
  heard_is = over.passed.heard ∙ events_are

  number_is : i.number ≡ before.number
  number_is = over.passed.number ∙ at.number

  pub keeps_now : KeepsState w given t l
  keeps_now = record { view = over.passed.view; machine = keeps.machine ∙ ap machine_of (sym harts); same = events_are ∙ sym turn.acts.are }

  known : known_of i.lane ≡ known_of before.lane ++ (first ∷ over.passed.more)
  known = over.passed.known ∙ ap (λ (es : List Entry). es ++ (first ∷ over.passed.more)) (at.taken ∙ sym (idle_known before idle))

  before_short : length before.heard ≤ length k.events
  before_short = let whole : length k.events ≡ length before.heard + length at.longer.0 = ap length at.longer.1 ∙ length-append before.heard at.longer.0 in omega (arith, whole)

  before_least : length before.heard ≤ length l.events
  before_least =
      let short : length before.heard ≤ length k.events = before_short in
      let whole : length l.events ≡ length k.events + length (events_of did) = ap length events_are ∙ length-append k.events (events_of did) in
      omega (arith, short, whole)

  abbrev turned : Turned
  turned = record { at = length k.events; did = did; beside = beside_of k.events id b did }

  turns_at : TurnsAt w (k.events ++ events_of did) id (record { at = length k.events; did = did; beside = beside_of k.events id b did }) b c
  turns_at = record {
    within = let whole : length (k.events ++ events_of did) ≡ length k.events + length (events_of did) = length-append k.events (events_of did) in omega (arith, whole);
    moves = subst (λ (es : List Event). Moves w es id b did c) (sym (take-append_seam k.events (events_of did))) turn.acts.moves;
    own = ap (take (length (events_of did))) (drop-append_seam k.events (events_of did)) ∙ take_all (events_of did);
    beside = ap (λ (es : List Event). beside_of es id b did) (sym (take-append_seam k.events (events_of did)));
  }

  front : take (length k.events) i.heard ≡ k.events
  front = ap (take (length k.events)) heard_is ∙ take-append_seam k.events (events_of did)

  pub serves_turn : ServesTurn w before i b c
  serves_turn = record {
    same = number_is;
    longer = (at.longer.0 ++ events_of did, heard_is ∙ ap (λ (es : List Event). es ++ events_of did) at.longer.1 ∙ append_assoc before.heard at.longer.0 (events_of did));
    turn = turned;
    since = before_short;
    none = subst (λ (es : List Event). HasNone es before.number (length before.heard) (length k.events)) (sym heard_is)
        (subst (λ (n : ℕ). HasNone (k.events ++ events_of did) n (length before.heard) (length k.events)) same
        (front_none id (length before.heard) k.events (events_of did) at.none));
    turns = subst (λ (es : List Event). TurnsAt w es before.number turned b c) (sym heard_is)
        (subst (λ (n : ℕ). TurnsAt w (k.events ++ events_of did) n turned b c) same turns_at);
    last = ap length heard_is ∙ length-append k.events (events_of did);
    free = λ settles. subst (λ (es : List Event). HasNoGrant (after es) before.number) (sym front) (subst (λ (n : ℕ). HasNoGrant (after k.events) n) same at.free);
    read = subst (λ (es : List Event). NoneAbove (after es).generation (readings_of before.trail)) (sym front) at.read;
    items = over.items;
    trail = over.passed.trail ∙ ap (λ (items : List TrailItem). items ++ over.items) at.trail;
    leaves = λ read reads.
        subst (λ (es : List Event). Leaves es b (beside_of k.events id b did) did (read ++ over.items)) (sym front)
        (over.leaves read (subst (λ (es : List Event). Reads (after es) b read) front reads));
  }

  low_numbers : (e : Entry) → Contains (first ∷ over.passed.more) e → is_event_mark e.mark ≡ true → e.number ≤ length l.events
  low_numbers e there event = ⊎_elim
      (λ (new : Contains (first ∷ []) e).
      subst (λ (x : Entry). x.number ≤ length l.events) (only_in first e new) (over.passed.low (ap (λ (x : Entry). is_event_mark x.mark) (only_in first e new) ∙ event)))
      (λ (more : Contains over.passed.more e). (over.passed.plain e more).2)
      (Contains-append_cases (first ∷ []) over.passed.more e there)

  generation_now : now.generation ≡ (after l.events).generation
  generation_now = kept.generation_is

  early_now : d.generation ≤ (after l.events).generation
  early_now =
      let rises : (after before.heard).generation ≤ (after (before.heard ++ (at.longer.0 ++ events_of did))).generation = generation_rises before.heard (at.longer.0 ++ events_of did) in
      let same_events : (after (before.heard ++ (at.longer.0 ++ events_of did))).generation ≡ (after l.events).generation =
      ap (λ (es : List Event). (after es).generation) (sym (events_are ∙ ap (λ (es : List Event). es ++ events_of did) at.longer.1 ∙ append_assoc before.heard at.longer.0 (events_of did))) in
      let early : d.generation ≤ (after before.heard).generation = between.early in
      omega (arith, rises, same_events, early)

  fit_now : BlocksFit now i
  fit_now = blocks_fit d now before i first over.passed.more (after l.events).generation between.blocks early_now over.generation known
      (λ e there. event_plain e (over.passed.plain e there).0 (over.passed.plain e there).1) kept

  low : i.number < harts_at_most
  low =
      let all : w.machine.harts ≤ harts_at_most = over.passed.view.kept.few in
      let within : id < w.machine.harts = turn.fits.within in
      let number : i.number ≡ id = number_is ∙ sym same in
      omega (arith, all, within, number)

  current_now : AreCurrent now i
  current_now = current_of tidy begins w given l i now over.passed.view.kept low over.passed.step over.passed.heard fit_now generation_now

  pub between_now : IsBetweenTurns w given i c now
  between_now = record {
    heard = heard_on w given l before i (first ∷ over.passed.more) over.passed.view between.heard over.passed.heard before_least known low_numbers;
    fits = λ goes. subst (λ (es : List Event). HartFits w es i.number c) (sym heard_is)
        (subst (λ (n : ℕ). HartFits w (k.events ++ events_of did) n c) (same ∙ sym number_is)
        (own_fit w k.events id b c did (legal_is_lawful w k.events keeps.view.kept.legal) turn.acts.moves turn.runs goes turn.fits));
    row = over.row;
    blocks = fit_now;
    early = let its : now.generation ≡ (after l.events).generation = generation_now in
        let heard : (after i.heard).generation ≡ (after l.events).generation = ap (λ (es : List Event). (after es).generation) over.passed.heard in omega (arith, its, heard);
    current = λ goes. current_now;
    reached = λ goes calm. inr (
      first,
      subst (λ (es : List Entry). Contains es first) (sym known) (Contains-append_right (known_of before.lane) (first ∷ over.passed.more) first (here first over.passed.more)),
      over.generation ∙ sym generation_now,
    );
  }
