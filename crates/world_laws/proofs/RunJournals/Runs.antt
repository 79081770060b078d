-- Whose events the journal of a run has, turn by turn.
use Rattle.std.proofs.Common.{◌≡◌, ◌⊎◌, inl, inr, ⊎_elim, ℕ, zero, suc, ◌<◌, Bool, true, false, cond, List, [], ◌∷◌, ◌++◌, length, map, Some}
use Rattle.std.proofs.Common.{None, refl, sym, ap, subst, ◌∙◌, arith, append-nil}
use Rattle.std.specs.List.{Contains, slice_get}
use Rattle.std.proofs.lemmas.List.{length-set}
use Rattle.std.proofs.lemmas.Bool.{false≢true}
use Rattle.std.proofs.lemmas.Option.{none-some}
use Rattle.history_event.specs.declared.event.Event.{Event}
use Rattle.history_event.specs.declared.event.Event.TheVariants as events
use Rattle.history_event.specs.declared.hart_end.HartEnd.TheVariants as ends
use Rattle.history_event.specs.declared.state.Ending.{Ending}
use Rattle.history_calls.specs.Laws.{hart_of}
use Rattle.history_calls.specs.Lemmas.Ends.{step_ends, told_by}
use Rattle.history_calls.specs.RunJournal.{AreByHarts, IsByHart, IsRunJournal, RunJournalsGrow, RunJournalsStart}
use Rattle.history_calls.specs.declared.link_served.startup.Setup.{Setup}
use Rattle.history_state.specs.After.{after}
use Rattle.history_state.specs.Allowed.{MayEnd}
use Rattle.history_state.specs.Setting.{Setting}
use Rattle.history_state.specs.State.{State}
use Rattle.history_state.specs.Lemmas.History.{after_push}
use Rattle.history_state.specs.Lemmas.Lists.{here, later}
use Rattle.rv_hart.specs.Registers.{Registers}
use Rattle.hart_moves.specs.Harts.{HartState, Offered, Resolving}
use Rattle.hart_moves.specs.Laws.{EndedStays, TurnsAreOwn}
use Rattle.hart_moves.specs.Moves.{Did, events_of, freed, settles}
use Rattle.hart_moves.specs.Starting.{starting_registers}
use Rattle.hart_moves.specs.TurnEvents.Appends.{Appends, NoneEndsOrUnmaps, neither_ends_nor_unmaps}
use Rattle.hart_moves.specs.TurnEvents.Laws.{TurnsAppend}
use Rattle.world_turns.specs.declared.schedules.schedule.TurnItem.{TurnItem}
use Rattle.world_turns.specs.Run.{Finalises, Run, RunEnds}
use Rattle.world_turns.specs.Turn.{Turn}
use Rattle.world_turns.specs.World.{World, found_harts, found_journal, has_won, settled_by, settling, settling_event}
use Rattle.world_turns.specs.WorldEnds.Ends.{BeforeFinals, EndsFit, InFinals}
use Rattle.world_turns.specs.WorldEnds.Laws.{FinalsBegin, FinalsLack, HartsMayEnd, RunsFit, StartFits, TurnsKeepBefore, TurnsKeepFinals}
use Rattle.world_turns.specs.WorldEnds.Lemmas.Places.{running}
use Rattle.world_turns.specs.WorldEnds.Lemmas.Settled.{found_keeps}
use Rattle.world_turns.specs.Lemmas.Running.{constructs, finishes, items_keep}
use Rattle.world_turns.specs.Lemmas.Turning.{freed_length}
use Rattle.world_laws.specs.RunJournals.Laws.{RunsHaveJournals}

-- ---- events

abbrev endings_of : State → List Ending
endings_of s = s.endings

-- a hart may end by what has ended alone
may_end_alike : (w : Setting) (s t : State) (h : ℕ) → s.endings ≡ t.endings → MayEnd w s h → MayEnd w t h
may_end_alike w s t h same may = subst (λ (es : List Ending). MayEnd w (record t { endings = es }) h) same may

told_none : (e : Event) → neither_ends_nor_unmaps e ≡ true → told_by e ≡ []
told_none (events.Open hart ask answer) spares = refl
told_none (events.Close hart handle answer) spares = refl
told_none (events.Unmapped hart set) spares = refl
told_none (events.Grant number hart owner slot choice value) spares = refl
told_none (events.Bound number) spares = refl
told_none (events.Lost number saw) spares = refl
told_none (events.Unresolved hart owner slot choice) spares = refl
told_none (events.Sym hart ask answer) spares = refl
told_none (events.Tls hart owner address) spares = refl
told_none (events.Init hart object) spares = refl
told_none (events.Fini hart object) spares = refl
told_none (events.Wrote hart bytes) spares = refl
told_none (events.Told hart fault) spares = refl
told_none (events.Ended hart reason) spares = absurd (false≢true spares)

module _ (w : Setting) (h : ℕ) (less : h < w.machine.harts) where
  abbrev IsOwn : Event → Type 0
  IsOwn e = hart_of e ≡ Some h

  by_hart : (past : List Event) (e : Event) → IsOwn e → MayEnd w (after past) h → IsByHart w past e
  by_hart past e own may k is = let same : h ≡ k = (let both : Some h ≡ Some k = sym own ∙ is in cc) in
      (subst (λ (n : ℕ). n < w.machine.harts) same less, subst (λ (n : ℕ). MayEnd w (after past) n) same may)

  may_still : (past : List Event) (e : Event) → neither_ends_nor_unmaps e ≡ true → MayEnd w (after past) h → MayEnd w (after (past ++ e ∷ [])) h
  may_still past e spares may =
      let same : (after (past ++ e ∷ [])).endings ≡ (after past).endings = ap endings_of (after_push past e) ∙ step_ends (after past) e
      ∙ ap (λ (es : List Ending). (after past).endings ++ es) (told_none e spares) ∙ append-nil (after past).endings in
      may_end_alike w (after past) (after (past ++ e ∷ [])) h (sym same) may

  -- events that end nothing, and one behind them
  all_own : (past front last : List Event) → NoneEndsOrUnmaps front → ((e : Event) → Contains (front ++ last) e → IsOwn e) → MayEnd w (after past) h
      → ((past : List Event) → ((e : Event) → Contains last e → IsOwn e) → MayEnd w (after past) h → AreByHarts w past last) → AreByHarts w past (front ++ last)
  all_own past [] last spares own may behind = behind past own may
  all_own past (e ∷ rest) last spares own may behind = (
    by_hart past e (own e (here e (rest ++ last))) may,
    all_own (past ++ e ∷ []) rest last spares.1 (λ x there. own x (later e (rest ++ last) x there)) (may_still past e spares.0 may) behind,
  )

  one_own : (e : Event) (past : List Event) → ((x : Event) → Contains (e ∷ []) x → IsOwn x) → MayEnd w (after past) h → AreByHarts w past (e ∷ [])
  one_own e past own may = (by_hart past e (own e (here e [])) may, tt)

  none_own : (past : List Event) → ((x : Event) → Contains [] x → IsOwn x) → MayEnd w (after past) h → AreByHarts w past []
  none_own past own may = tt

  sparing_own : (past added : List Event) → NoneEndsOrUnmaps added → ((e : Event) → Contains added e → IsOwn e) → MayEnd w (after past) h
      → AreByHarts w past added
  sparing_own past added spares own may =
      subst (AreByHarts w past) (append-nil added)
      (all_own past added [] spares (λ e there. own e (subst (λ (es : List Event). Contains es e) (append-nil added) there)) may none_own)

  -- the events of a turn
  turn_own : (past : List Event) (b c : HartState) (did : Did) → Appends past h b did c → ((e : Event) → Contains (events_of did) e → IsOwn e)
      → MayEnd w (after past) h
      → AreByHarts w past (events_of did)
  turn_own past b c did (Appends.no_end spares same) own may = sparing_own past (events_of did) spares own may
  turn_own past b c did (Appends.unmapping set is same) own may =
      subst (AreByHarts w past) (sym is) (one_own (events.Unmapped h set) past
      (λ e there. own e (subst (λ (es : List Event). Contains es e) (sym is) there)) may)
  turn_own past b c did (Appends.an_end front reason spares is over) own may =
      subst (AreByHarts w past) (sym is)
      (all_own past front (events.Ended h reason ∷ []) spares (λ e there. own e (subst (λ (es : List Event). Contains es e) (sym is) there)) may
      (one_own (events.Ended h reason)))
  turn_own past b c did (Appends.after_finals code spares some over none) own may = sparing_own past (events_of did) spares own may

-- ---- what is settled has no hart

settling_none : (o : Offered) (found : ℕ) (won : Bool) → hart_of (cond won (events.Bound o.number) (events.Lost o.number found)) ≡ None
settling_none o found true = refl
settling_none o found false = refl

module _ (w : Setting) where
  settled_own : (past more : List Event) (r : Resolving) → ((journal : List Event) → AreByHarts w journal more) → AreByHarts w past (settled_by r ++ more)
  settled_own past more Resolving.idle rest = rest past
  settled_own past more (Resolving.to_exchange o) rest = rest past
  settled_own past more (Resolving.to_finish o found) rest = rest past
  settled_own past more (Resolving.to_settle o found) rest =
      ((λ h is. absurd (none-some h (sym (settling_none o found (has_won o found)) ∙ is))), rest (past ++ settling_event o found ∷ []))

  settling_own : (past : List Event) (harts : List HartState) → AreByHarts w past (settling harts)
  settling_own past [] = tt
  settling_own past (b ∷ rest) = settled_own past (settling rest) b.resolving (λ journal. settling_own journal rest)

  found_own : (world : World) (t : Bool) → AreByHarts w world.journal (cond t (settling world.harts) [])
  found_own world true = settling_own world.journal world.harts
  found_own world false = tt

-- ---- a world

pub record Laws : Type 0 where
  pub start : RunJournalsStart
  pub grow : RunJournalsGrow
  pub own : TurnsAreOwn
  pub over : EndedStays
  pub append : TurnsAppend
  pub begun : StartFits
  pub before : TurnsKeepBefore
  pub finals : TurnsKeepFinals
  pub begin : FinalsBegin
  pub lack : FinalsLack
  pub may : HartsMayEnd
  pub fit : RunsFit

record Goes (w : Setting) (setup : Setup) (world : World) : Type 0 where
  pub journal : IsRunJournal w setup world.journal
  pub harts : length world.harts ≡ w.machine.harts
  pub ends : EndsFit w world

stands_below : (harts : List HartState) (h : ℕ) (b : HartState) → slice_get harts h ≡ Some b → h < length harts
stands_below [] h b at = absurd (none-some b at)
stands_below (c ∷ rest) zero b at = omega arith
stands_below (c ∷ rest) (suc h) b at = let below = stands_below rest h b at in omega (arith, below)

found_length : (harts : List HartState) (t : Bool) → length (cond t (map freed harts) harts) ≡ length harts
found_length harts true = freed_length harts
found_length harts false = refl

module _ (laws : Laws) (w : Setting) (setup : Setup) where
  grows : (journal more : List Event) → IsRunJournal w setup journal → AreByHarts w journal more → IsRunJournal w setup (journal ++ more)
  grows = laws.grow w setup

  turn_goes : (h : ℕ) (old new : World) → Goes w setup old → Turn w h old new → Goes w setup new
  turn_goes h old new x turn = record {
    journal = subst (IsRunJournal w setup) (sym turn.journal)
        (grows past (events_of turn.did) (grows old.journal (cond (settles turn.did) (settling old.harts) []) x.journal (found_own w old (settles turn.did)))
        (turn_own w h below past turn.before turn.left turn.did (laws.append w past h turn.before turn.left turn.did turn.moves)
        (laws.own w past h turn.before turn.left turn.did turn.moves) may));
    harts = ap (λ (bs : List HartState). length bs) turn.harts ∙ length-set (found_harts old turn.did) h turn.left
        ∙ found_length old.harts (settles turn.did) ∙ x.harts;
    ends = ⊎_elim
        (λ (b : BeforeFinals w old). inl (laws.before w h old new turn b))
        (λ (f : InFinals w old). inr (laws.finals w h old new turn f))
        x.ends;
  }
    where
      past : List Event
      past = found_journal old turn.did

      below : h < w.machine.harts
      below = subst (λ (n : ℕ). h < n) x.harts (stands_below old.harts h turn.before turn.there)

      runs : turn.before.«end» ≡ None
      runs = running turn.before.«end» (λ reason over. laws.over w past h turn.before turn.left turn.did reason over turn.moves)

      may : MayEnd w (after past) h
      may = may_end_alike w (after old.journal) (after past) h (sym (found_keeps (List Ending) endings_of (λ s number standing. refl) old turn.did))
          (laws.may w old x.ends h turn.before turn.there runs)

  -- ---- the final destructors

  ends_go : (old new : World) → RunEnds w old new → Goes w setup old → Goes w setup new
  ends_go old new (RunEnds.no_more _ all) x = x
  ends_go old new (RunEnds.one_more _ between _ runs turn more) x = ends_go between new more (turn_goes 0 old between x turn)

  finals_go : (registers : Registers) (old new : World) → BeforeFinals w old → Goes w setup old → Finalises w registers old new → Goes w setup new
  finals_go registers old new before x (Finalises.none_runs exited same) = subst (Goes w setup) (sym same) x
  finals_go registers old new before x (Finalises.none_is_left none same) = subst (Goes w setup) (sym same) x
  finals_go registers old new before x (Finalises.no_memory exited lack) = record {
    journal = subst (λ (world : World). IsRunJournal w setup world.journal) (sym lack.leaves)
        (grows (old.journal ++ settling old.harts) (events.Ended 0 ends.Memory ∷ [])
        (grows old.journal (settling old.harts) x.journal (settling_own w old.journal old.harts))
        (by_hart w 0 below (old.journal ++ settling old.harts) (events.Ended 0 ends.Memory) refl lack.may, tt));
    harts = ap (λ (world : World). length world.harts) lack.leaves ∙ ap suc (freed_length lack.others) ∙ long;
    ends = inr (laws.lack w old new exited lack before);
  }
    where
      long : suc (length lack.others) ≡ w.machine.harts
      long = ap (λ (bs : List HartState). length bs) (sym lack.harts) ∙ x.harts

      below : 0 < w.machine.harts
      below = omega (arith, long)
  finals_go registers old new before x (Finalises.all_run begun exited begin run) = ends_go begun new run (record {
    journal = subst (λ (world : World). IsRunJournal w setup world.journal) (sym begin.begun) x.journal;
    harts = ap (λ (world : World). length world.harts) begin.begun ∙ ap (λ (bs : List HartState). length bs) (sym begin.harts) ∙ x.harts;
    ends = inr (laws.begin w registers old begun exited begin before);
  })

  -- ---- a run

  start_goes : (items : List TurnItem) (world : World) (run : Run w setup items world) → Goes w setup run.started
  start_goes items world run = record {
    journal = laws.start w setup run.started.journal run.starts.started run.starts.starts;
    harts = (laws.begun w setup run.started run.starts).harts;
    ends = inl (laws.begun w setup run.started run.starts);
  }

  run_goes : (items : List TurnItem) (world : World) (run : Run w setup items world) → Goes w setup run.finalised
  run_goes items world run =
      let constructed : Goes w setup run.constructed = constructs w (Goes w setup) turn_goes run.started run.constructed run.constructs
      (start_goes items world run) in
      let scheduled : Goes w setup run.scheduled = items_keep w (Goes w setup) turn_goes items run.constructed run.scheduled run.follows constructed in
      let finished : Goes w setup run.finished = finishes w (Goes w setup) turn_goes run.scheduled run.finished run.finishes scheduled in
      finals_go (starting_registers run.entry) run.finished run.finalised (laws.fit w setup items world run).finished finished run.finalises

pub runs_have_journals : Laws → RunsHaveJournals
runs_have_journals laws w setup items world run =
    let x : Goes w setup run.finalised = run_goes laws w setup items world run in
    subst (λ (y : World). IsRunJournal w setup y.journal) (sym run.ends)
    (laws.grow w setup run.finalised.journal (settling run.finalised.harts) x.journal (settling_own w run.finalised.journal run.finalised.harts))
