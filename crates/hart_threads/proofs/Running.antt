-- A hart of a run goes on with a turn of each sort, and stands between two turns again.
use Rattle.std.proofs.Common.{◌≡◌, inl, inr, ℕ, ◌≤◌, true, false, List, [], ◌∷◌, ◌++◌, length, map, take, Option, Some, None, refl, sym, ap, subst, ◌∙◌, append_assoc, append-nil}
use Rattle.history_event.specs.declared.event.Event.{Event}
use Rattle.history_event.specs.declared.event.Event.TheVariants.{Ended}
use Rattle.history_event.specs.declared.hart_end.HartEnd.{HartEnd}
use Rattle.history_event.specs.declared.hart_end.HartEnd.TheVariants.{FuelOut}
use Rattle.rv_hart.specs.declared.bus.Item.{Item}
use Rattle.rv_hart.specs.Items.{items_left}
use Rattle.word_rule.specs.declared.view.HartView.{HartView}
use Rattle.word_rule.specs.declared.view.TrailItem.{TrailItem}
use Rattle.word_rule.specs.declared.view.TrailItem.TheVariants.{Call, Done, Exchanged, Took, Generation as ReadGeneration}
use Rattle.word_rule.specs.Views.{IsLane, known_of, last_block}
use Rattle.word_access.specs.Accesses.{in_memory, with_items}
use Rattle.std.proofs.lemmas.Bool.{false≢true}
use Rattle.slot_bind.specs.Rows.{offer_of, offer_or}
use Rattle.slot_bind.specs.Grants.{exchange_of, exchanged as exchanged_view, found_by}
use Rattle.history_state.specs.After.{after}
use Rattle.history_state.specs.Allowed.{MayEnd}
use Rattle.history_state.specs.Setting.{Setting}
use Rattle.history_state.specs.State.{State}
use Rattle.history_calls.specs.Call.{locates}
use Rattle.tls_blocks.specs.Blocks.{BlockTable}
use Rattle.hart_moves.specs.Due.{Due, back, due, is_finalising}
use Rattle.hart_moves.specs.Harts.{HartState, Offered, Resolving}
use Rattle.hart_moves.specs.Moves.{Did, Moves, MovesAs, ended, settled_resolving, spent}
use Rattle.hart_moves.specs.TurnEvents.Laws.{FinalsStay}
use Rattle.hart_fits.specs.Finals.{OwnMovesFit}
use Rattle.hart_trails.specs.Entries.{entry_behind}
use Rattle.hart_trails.specs.Laws.{TrailsStay, TurnsBehind}
use Rattle.hart_trails.specs.Lemmas.Rising.{generation_rises}
use Rattle.hart_trails.specs.Trails.{Reads, is_located}
use Rattle.hart_turns.specs.Turns.{is_own}
use Rattle.hart_turns.specs.declared.turned.Turned.{Turned}
use Rattle.hart_turns.specs.declared.turned.Turned.TheVariants.{Again, Ends, Over}
use Rattle.world_turns.specs.Lemmas.Resolution.{Resolution, resolution, rests_after}
use Rattle.hart_linker.specs.Between.{BlocksFit, HasGrant, HasHeard, IsAtRow, IsBetweenTurns}
use Rattle.hart_linker.specs.Serving.{EndsTurn, ServesTurn, WasRunning, is_asking}
use Rattle.hart_threads.specs.Binding.{BindsSlot, exchanged_to}
use Rattle.hart_threads.specs.Keeping.{Answers, ReadsBlock, kept_in}
use Rattle.hart_threads.specs.Next.{HoldsSlot, IsNext}
use Rattle.hart_threads.specs.declared.next.Next.{Next}
use Rattle.hart_threads.specs.declared.next.Next.TheVariants as next
use Rattle.hart_threads.specs.Quiet.{TakesQuiet, end_of}
use Rattle.std.specs.Option.{IsSome}
use Rattle.hart_threads.specs.Run.{HasStarted, IsBegun, IsCalm, RunsOn}
use Rattle.hart_threads.specs.Turns.{Proceeds}
use Rattle.hart_threads.proofs.Blocks.{kept_moves, kept_turn, reads_none, was_read}
use Rattle.hart_threads.proofs.Bound.{bound_stands, exchange_turn, finish_turn}
use Rattle.hart_linker.specs.Lemmas.Hearing.{early_on}
use Rattle.hart_threads.proofs.Standing.{at_rest, blocks_stay, due_there, row_settles, stands_on, stands_still}
use Rattle.hart_threads.proofs.Stepping.{front_longer, goes_further, proceeds}
use Rattle.hart_threads.proofs.Turning.{ending_trail, ending_turn, own_is_not_located, quiet_turn, served_turn}

-- ---- what isn't an exchange

pub own_is_no_exchange : (d : Due) → is_own d ≡ true → (o : Offered) → d ≡ Due.exchange o → ⊥
own_is_no_exchange d own o is = let no : true ≡ false = sym own ∙ ap is_own is in cc

-- nor is any other turn than that of a slot
pub next_holds_none : (b : HartState) (d : Due) (n : Next) → IsNext b d n → (n ≡ next.Bind → ⊥) → (o : Offered) → d ≡ Due.exchange o → ⊥
next_holds_none b d next.Bind is other o at = other refl
next_holds_none b d next.Quiet is other o at = own_is_no_exchange d is o at
next_holds_none b d (next.Locate number offset) is other o at = let no : Due.serve (locates number offset) (back b) ≡ Due.exchange o = sym is.0 ∙ at in cc
next_holds_none b d next.Serve is other o at = false≢true (sym (ap is_asking at) ∙ is.0)
next_holds_none b d next.Finalise is other o at = false≢true (sym (ap is_finalising at) ∙ is)
next_holds_none b d next.FuelOut is other o at = let no : Due.fuel_out ≡ Due.exchange o = sym is ∙ at in cc
next_holds_none b d next.Nothing is other o at = let no : Due.nothing ≡ Due.exchange o = sym is ∙ at in cc

pub located_is_no_exchange : (d : Due) (number offset : ℕ) (to : _) → d ≡ Due.serve (locates number offset) to → (o : Offered) → d ≡ Due.exchange o → ⊥
located_is_no_exchange d number offset to at o is = let no : Due.serve (locates number offset) to ≡ Due.exchange o = sym at ∙ is in cc

-- nor does a hart that is due one hold a grant
pub no_grant : (b : HartState) → b.«end» ≡ None → ((s : State) → (o : Offered) → due s b ≡ Due.exchange o → ⊥) → (o : Offered) → b.resolving ≡ Resolving.to_exchange o → ⊥
no_grant b runs none o is = none (after []) o (due_there (after []) b o runs is)

pub own_no_grant : (b : HartState) → b.«end» ≡ None → ((s : State) → is_own (due s b) ≡ true) → (o : Offered) → b.resolving ≡ Resolving.to_exchange o → ⊥
own_no_grant b runs own = no_grant b runs (λ s. own_is_no_exchange (due s b) (own s))

pub out_no_grant : (b : HartState) → b.«end» ≡ None → ((s : State) → due s b ≡ Due.fuel_out) → (o : Offered) → b.resolving ≡ Resolving.to_exchange o → ⊥
out_no_grant b runs out = no_grant b runs (λ s o is. let no : Due.fuel_out ≡ Due.exchange o = sym (out s) ∙ is in cc)

pub out_calm : (h : HartView) (b : HartState) → b.«end» ≡ None → IsAtRow h b.resolving → ((s : State) → due s b ≡ Due.fuel_out) → h.lane.calling ≡ false
out_calm h b runs row out = at_rest (after []) h b runs row (λ o is. let no : Due.fuel_out ≡ Due.exchange o = sym (out (after [])) ∙ is in cc)

pub last_not_located : (d : Due) → is_finalising d ≡ true → is_located d ≡ false
last_not_located Due.nothing e = refl
last_not_located (Due.exchange o) e = refl
last_not_located (Due.finish o found) e = refl
last_not_located Due.fuel_out e = refl
last_not_located Due.instruction e = refl
last_not_located (Due.copy copy start bytes) e = refl
last_not_located (Due.serve call back) e = absurd (false≢true e)
last_not_located (Due.wait for) e = refl
last_not_located (Due.store text stored word more) e = refl
last_not_located (Due.enter function frames) e = refl
last_not_located (Due.complete purpose object rest below) e = refl
last_not_located (Due.finalise code object) e = refl

-- the grant in the row of a hart that is at a slot has mark 3
pub grant_mark : (h : HartView) (b : HartState) → HoldsSlot b → IsAtRow h b.resolving → (offer_of h).mark ≡ 3
grant_mark h b (inl (o, is)) row = by (subst (IsAtRow h) is row)
  where
    by : HasGrant h o → (offer_of h).mark ≡ 3
    by held = ap (λ x. (offer_or x).mark) held.read ∙ (held.is 0).mark
grant_mark h b (inr (o, found, is)) row = absurd (subst (IsAtRow h) is row)

-- ---- what a quiet turn shows before its hart's end

ends_so : (result : Option Turned) (reason : HartEnd) → end_of result ≡ Some reason → result ≡ Some (Ends reason)
ends_so None reason is = absurd (let no : None ≡ Some reason = is in cc)
ends_so (Some Over) reason is = absurd (let no : None ≡ Some reason = is in cc)
ends_so (Some (Again shown)) reason is = absurd (let no : None ≡ Some reason = is in cc)
ends_so (Some (Ends other)) reason is = let same : other ≡ reason = (let so : Some other ≡ Some reason = is in cc) in ap (λ (r : HartEnd). Some (Ends r)) same

pub none_of : (end : Option HartEnd) → ((reason : HartEnd) → end ≡ Some reason → ⊥) → end ≡ None
none_of None none = refl
none_of (Some reason) none = absurd (none reason refl)

pub ending : (before mid : HartView) (b e : HartState) (result : Option Turned) (reason : HartEnd) → ((s : State) → TakesQuiet before mid (due s b) b e result) → end_of result ≡ Some reason
    → (s : State) → TakesQuiet before mid (due s b) b e (Some (Ends reason))
ending before mid b e result reason quiet is s = subst (λ (r : Option Turned). TakesQuiet before mid (due s b) b e r) (ends_so result reason is) (quiet s)

module _ (w : Setting) (begun : List Event) (before mid : HartView) (b e : HartState) (d : BlockTable) (result : Option Turned) (reason : HartEnd)
    (between : IsBetweenTurns w begun before b d) (runs : b.«end» ≡ None) (quiet : (s : State) → TakesQuiet before mid (due s b) b e result) (is : end_of result ≡ Some reason) where
  view : mid ≡ with_items (map Call (items_left in_memory (ending before mid b e result reason quiet is (after [])).0.items)) before
  view = (ending before mid b e result reason quiet is (after [])).0.trail

  pub end_heard : HasHeard w begun mid
  end_heard = subst (HasHeard w begun) (sym view) (stands_still w begun before _ b d between).heard

  pub end_run : WasRunning w mid
  end_run = subst (WasRunning w) (sym view) (record { before = b; fits = between.fits runs; runs = runs })

  pub end_calm : ((s : State) → is_own (due s b) ≡ true) → mid.lane.calling ≡ false
  end_calm own = ap (λ (h : HartView). h.lane.calling) view ∙ at_rest (after []) before b runs between.row (own_is_no_exchange (due (after []) b) (own (after [])))

-- ---- thread-local storage is asked for

-- nothing but the trail has changed
pub asked_same : (before mid : HartView) (b a : HartState) (d : BlockTable) (number offset : ℕ) → ReadsBlock before mid d number offset b a false → a ≡ b
asked_same before mid b a d number offset x = by (kept_in d x.generation number) refl
  where
    by : (k : Option ℕ) → kept_in d x.generation number ≡ k → a ≡ b
    by None at = (subst (λ o. Answers offset b a o false) at x.answers).1
    by (Some block) at = absurd (let no = subst (λ o. Answers offset b a o false) at x.answers in let f : false ≡ true = no.0 in cc)

pub asked_between : (w : Setting) (begun : List Event) (before mid : HartView) (b a : HartState) (d : BlockTable) (number offset : ℕ) → IsBetweenTurns w begun before b d
    → ReadsBlock before mid d number offset b a false → IsBetweenTurns w begun mid a d
asked_between w begun before mid b a d number offset between x =
    subst (λ (p : HartView × HartState). IsBetweenTurns w begun p.0 p.1 d) (λ i. (sym x.view i, sym (asked_same before mid b a d number offset x) i))
    (stands_still w begun before (ReadGeneration x.generation number (last_block x.generation number before.lane.taken) ∷ []) b d between)

-- ---- a hart that ended

-- it is at no slot, so it isn't calling
at_end : (h : HartView) (r : Resolving) → IsAtRow h r → settled_resolving r ≡ Resolving.idle → h.lane.calling ≡ false
at_end h Resolving.idle row is = row
at_end h (Resolving.to_exchange o) row is = absurd (let no : Resolving.to_exchange o ≡ Resolving.idle = is in cc)
at_end h (Resolving.to_finish o found) row is = absurd row
at_end h (Resolving.to_settle o found) row is = row

calm_after : (w : Setting) (past : List Event) (h : ℕ) (now : HartView) (b c : HartState) (did : Did) → Moves w past h b did c → IsAtRow now c.resolving → IsCalm now c
calm_after w past h now b c did moves row reason over = at_end now c.resolving row (rests_after w past h b did c moves reason over)

goes_calm : (seat : HartView) (c : HartState) → c.«end» ≡ None → IsCalm seat c
goes_calm seat c on reason over = absurd (let no : None ≡ Some reason = sym on ∙ over in cc)

-- ---- by the lock

module _ (stay : TrailsStay) (behind : TurnsBehind) (w : Setting) (begun : List Event) where
  -- its blocks aren't of a later generation
  end_early : (mid now : HartView) (b c : HartState) (reason : HartEnd) → EndsTurn w mid now reason b c → (d : BlockTable) → d.generation ≤ (after mid.heard).generation
      → d.generation ≤ (after now.heard).generation
  end_early mid now b c reason x d =
      early_on d mid.heard (x.since.0 ++ Ended mid.number reason ∷ []) now.heard
      (x.heard ∙ ap (λ (es : List Event). es ++ Ended mid.number reason ∷ []) x.since.1 ∙ append_assoc mid.heard x.since.0 (Ended mid.number reason ∷ []))

  -- what a hart is that ended
  ended_stands : (before now : HartView) (b c : HartState) (d : BlockTable) (reason : HartEnd) → b.«end» ≡ None → IsAtRow before b.resolving
      → ((o : Offered) → b.resolving ≡ Resolving.to_exchange o → ⊥) → c.resolving ≡ settled_resolving b.resolving → c.«end» ≡ Some reason
      → HasHeard w begun now → now.lane.calling ≡ false → BlocksFit d now → d.generation ≤ (after now.heard).generation → IsBetweenTurns w begun now c d
  ended_stands before now b c d reason runs row none place over heard calm blocks early = record {
    heard = heard;
    fits = λ on. absurd (let no : None ≡ Some reason = sym on ∙ over in cc);
    row = subst (IsAtRow now) (sym place) (by b.resolving refl row);
    blocks = blocks;
    early = early;
    current = λ on. absurd (let no : None ≡ Some reason = sym on ∙ over in cc);
    reached = λ on. absurd (let no : None ≡ Some reason = sym on ∙ over in cc);
  }
    where
      by : (r : Resolving) → b.resolving ≡ r → IsAtRow before r → IsAtRow now (settled_resolving r)
      by Resolving.idle is x = calm
      by (Resolving.to_exchange o) is x = absurd (none o is)
      by (Resolving.to_finish o found) is x = absurd x
      by (Resolving.to_settle o found) is x = calm

  pub end_on : (before mid now : HartView) (b spent_b c : HartState) (d : BlockTable) (reason : HartEnd) → IsBetweenTurns w begun before b d → b.«end» ≡ None
      → ((s : State) → is_own (due s b) ≡ true) → (result : Option Turned) → ((s : State) → TakesQuiet before mid (due s b) b spent_b result) → end_of result ≡ Some reason
      → EndsTurn w mid now reason spent_b c → HasHeard w begun now → now.lane.calling ≡ false → (BlocksFit d mid → BlocksFit d now) → RunsOn w begun before now b c d
  end_on before mid now b spent_b c d reason between runs own result quiet is x heard calm blocks =
      let q = ending before mid b spent_b result reason quiet is (after x.past) in
      let none = own_no_grant b runs own in
      let items : List Item = q.0.items in
      let view : mid ≡ with_items (map Call (items_left in_memory items)) before = q.0.trail in
      let number : mid.number ≡ before.number = ap (λ (h : HartView). h.number) view in
      let left : c ≡ ended reason spent_b = x.left in
      let spent_is : spent_b ≡ spent b = q.1 in
      let moves : Moves w x.past before.number b (Did.serves items (Ended before.number reason ∷ [])) c =
      subst (λ (e : HartState). Moves w x.past before.number b (Did.serves items (Ended before.number reason ∷ [])) e) (sym left)
      (q.0.turn w x.past before.number (subst (λ (n : ℕ). MayEnd w (after x.past) n) number x.may)) in
      record {
        proceeds = proceeds stay behind w before now b c (map Call (items_left in_memory items) ++ Took (entry_behind x.past (Ended before.number reason)) ∷ [])
            (ending_trail w before mid now spent_b c reason items view x)
            (ending_turn w before mid now b spent_b c reason items view x (own_is_not_located (due (after x.past) b) (own (after x.past))) moves);
        between = ended_stands before now b c d reason runs between.row none
            (ap (λ (e : HartState). e.resolving) left ∙ ap (λ (e : HartState). settled_resolving e.resolving) spent_is)
            (ap (λ (e : HartState). e.«end») left) heard calm (blocks (blocks_stay d before mid (ap (λ (h : HartView). known_of h.lane) view) between.blocks))
            (end_early mid now spent_b c reason x d (subst (λ (h : HartView). d.generation ≤ (after h.heard).generation) (sym view) between.early));
        calm = λ over_as over. calm;
      }

  pub run_out_on : (before now : HartView) (b c : HartState) (d : BlockTable) → IsBetweenTurns w begun before b d → b.«end» ≡ None
      → ((s : State) → due s b ≡ Due.fuel_out) → EndsTurn w before now FuelOut b c → HasHeard w begun now → now.lane.calling ≡ false → (BlocksFit d before → BlocksFit d now) → RunsOn w begun before now b c d
  run_out_on before now b c d between runs out x heard calm blocks =
      let none = out_no_grant b runs out in
      let view : before ≡ with_items [] before = ap (λ (items : List TrailItem). record before { trail = items }) (sym (append-nil before.trail)) in
      let moves : Moves w x.past before.number b (Did.serves [] (Ended before.number FuelOut ∷ [])) c =
      subst (λ (e : Due). MovesAs w x.past before.number b e (Did.serves [] (Ended before.number FuelOut ∷ [])) c) (sym (out (after x.past))) (record { may = x.may; is = refl; leaves = x.left }) in
      record {
        proceeds = proceeds stay behind w before now b c (Took (entry_behind x.past (Ended before.number FuelOut)) ∷ [])
            (ending_trail w before before now b c FuelOut [] view x)
            (ending_turn w before before now b b c FuelOut [] view x (ap is_located (out (after x.past))) moves);
        between = ended_stands before now b c d FuelOut runs between.row none (ap (λ (e : HartState). e.resolving) x.left) (ap (λ (e : HartState). e.«end») x.left) heard calm
            (blocks between.blocks) (end_early before now b c FuelOut x d between.early);
        calm = λ over_as over. calm;
      }

  -- ---- a turn under the lock

  pub serve_on : (before now : HartView) (b c : HartState) (d : BlockTable) → ((s : State) → is_located (due s b) ≡ false) → ServesTurn w before now b c
      → IsBetweenTurns w begun now c d → RunsOn w begun before now b c d
  serve_on before now b c d other x between = record {
    proceeds = proceeds stay behind w before now b c x.items x.trail (served_turn w before before now b c [] refl refl x (Reads.is_another (other (after (take x.turn.at now.heard)))));
    between = between;
    calm = calm_after w (take x.turn.at now.heard) before.number now b c x.turn.did x.turns.moves between.row;
  }

  -- ---- before it thread-local storage is asked for

  asked_at : (before mid now : HartView) (b c : HartState) (d e : BlockTable) (number offset : ℕ) → IsBetweenTurns w begun before b d → b.«end» ≡ None → IsLane before.lane
      → ((s : State) → due s b ≡ Due.serve (locates number offset) (back b)) → ReadsBlock before mid d number offset b b false → ServesTurn w mid now b c
      → IsBetweenTurns w begun now c e → RunsOn w begun before now b c e
  asked_at before mid now b c d e number offset between runs lane is x y after_it = by (kept_in d x.generation number) refl
    where
      idle : before.lane.offer ≡ None
      idle = lane.idle (at_rest (after before.heard) before b runs between.row (located_is_no_exchange (due (after before.heard) b) number offset (back b) (is (after before.heard))))

      past : List Event
      past = take y.turn.at now.heard

      item : TrailItem
      item = ReadGeneration x.generation number (last_block x.generation number before.lane.taken)

      rises : (after before.heard).generation ≤ (after past).generation
      rises =
          let longer = front_longer before.heard now.heard y.longer.0 y.turn.at
          (y.longer.1 ∙ ap (λ (h : HartView). h.heard ++ y.longer.0) x.view) (subst (λ (h : HartView). length h.heard ≤ y.turn.at) x.view y.since) in
          subst (λ (es : List Event). (after before.heard).generation ≤ (after es).generation) (sym longer.1) (generation_rises before.heard longer.0)

      by : (k : Option ℕ) → kept_in d x.generation number ≡ k → RunsOn w begun before now b c e
      by (Some block) at = absurd (let no = subst (λ o. Answers offset b b o false) at x.answers in let f : false ≡ true = no.0 in cc)
      by None at =
          let reads : Reads (after past) b (item ∷ []) = reads_none before mid d number offset b b false (after past) idle between.blocks (between.current runs) (between.reached runs) rises (is (after past)) x
          (was_read before mid d number offset b b false (after past).generation x y.read) at in
          record {
            proceeds = proceeds stay behind w before now b c (item ∷ y.items)
                (y.trail ∙ ap (λ (h : HartView). h.trail ++ y.items) x.view ∙ append_assoc before.trail (item ∷ []) y.items)
                (served_turn w before mid now b c (item ∷ []) (ap (λ (h : HartView). h.number) x.view) (ap (λ (h : HartView). h.heard) x.view) y reads);
            between = after_it;
            calm = calm_after w past mid.number now b c y.turn.did y.turns.moves after_it.row;
          }

  pub asked_on : (before mid now : HartView) (b a c : HartState) (d e : BlockTable) (number offset : ℕ) → IsBetweenTurns w begun before b d → b.«end» ≡ None → IsLane before.lane
      → ((s : State) → due s b ≡ Due.serve (locates number offset) (back b)) → ReadsBlock before mid d number offset b a false → ServesTurn w mid now a c
      → IsBetweenTurns w begun now c e → RunsOn w begun before now b c e
  asked_on before mid now b a c d e number offset between runs lane is x y after_it =
      let same : a ≡ b = asked_same before mid b a d number offset x in
      asked_at before mid now b c d e number offset between runs lane is (subst (λ (z : HartState). ReadsBlock before mid d number offset b z false) same x)
      (subst (λ (z : HartState). ServesTurn w mid now z c) same y) after_it

-- ---- without it

module _ (fit : OwnMovesFit) (stay : TrailsStay) (behind : TurnsBehind) (w : Setting) (begun : List Event) where
  bind_at : (o : Offered) (before now : HartView) (b c : HartState) (d : BlockTable) → IsBetweenTurns w begun before b d → b.«end» ≡ None → b.resolving ≡ Resolving.to_exchange o
      → HasGrant before o → (x : BindsSlot before now b c) → RunsOn w begun before now b c d
  bind_at o before now b c d between runs is held x =
      let mid : HartView = exchanged_view (exchange_of x.grant x.bound) before in
      let one : Proceeds w before mid b (exchanged_to o (found_by x.grant x.bound) b) =
      proceeds stay behind w before mid b (exchanged_to o (found_by x.grant x.bound) b) (Exchanged (exchange_of x.grant x.bound) ∷ []) refl (exchange_turn w o before now b c runs is held x) in
      let two : Proceeds w mid now (exchanged_to o (found_by x.grant x.bound) b) c =
      proceeds stay behind w mid now (exchanged_to o (found_by x.grant x.bound) b) c (Done ∷ []) (ap (λ (h : HartView). h.trail) x.view) (finish_turn w o before now b c runs is x) in
      record {
        proceeds = goes_further w before mid now b (exchanged_to o (found_by x.grant x.bound) b) c one two;
        between = bound_stands fit w begun o before now b c d between runs is held x;
        calm = goes_calm now c (ap (λ (e : HartState). e.«end») (x.hart o is) ∙ runs);
      }

  pub bind_on : (before now : HartView) (b c : HartState) (d : BlockTable) → IsBetweenTurns w begun before b d → b.«end» ≡ None → HoldsSlot b
      → BindsSlot before now b c → RunsOn w begun before now b c d
  bind_on before now b c d between runs (inl (o, is)) x = bind_at o before now b c d between runs is (subst (IsAtRow before) is between.row) x
  bind_on before now b c d between runs (inr (o, found, is)) x = absurd (subst (IsAtRow before) is between.row)

-- ---- turns that may change what it has to run

module _ (fit : OwnMovesFit) (finals : FinalsStay) (stay : TrailsStay) (behind : TurnsBehind) (w : Setting) (begun : List Event) where
  -- ---- a quiet turn

  still : (h : ℕ) (past : List Event) (b c : HartState) (items : List Item) → Resolution past h b (Did.quiet items) c → c.resolving ≡ b.resolving
  still h past b c items (Resolution.quietly others is same) = same
  still h past b c items (Resolution.serving others added is same none) = absurd (let no : Did.quiet items ≡ Did.serves others added = is in cc)
  still h past b c items (Resolution.granting g o is hart open_yet same offer was stays) = absurd (let no : Did.quiet items ≡ Did.serves [] _ = is in cc)
  still h past b c items (Resolution.waiting for is same) = absurd (let no : Did.quiet items ≡ Did.waits for = is in cc)
  still h past b c items (Resolution.exchanging o found is was same) = absurd (let no : Did.quiet items ≡ Did.exchanges o found = is in cc)
  still h past b c items (Resolution.finishing o found is was same) = absurd (let no : Did.quiet items ≡ Did.finishes = is in cc)

  quiet_at : (before now : HartView) (b c : HartState) (d : BlockTable) (items : List Item) → IsBetweenTurns w begun before b d → b.«end» ≡ None
      → now ≡ with_items (map Call (items_left in_memory items)) before → Moves w before.heard before.number b (Did.quiet items) c → RunsOn w begun before now b c d
  quiet_at before now b c d items between runs view moves = record {
    proceeds = proceeds stay behind w before now b c (map Call (items_left in_memory items)) (ap (λ (h : HartView). h.trail) view) (quiet_turn w before now b c items view moves);
    between = subst (λ (h : HartView). IsBetweenTurns w begun h c d) (sym view)
        (stands_on fit finals w begun before (map Call (items_left in_memory items)) b c d (Did.quiet items) between runs moves refl
        (row_of moves));
    calm = λ reason over. ap (λ (h : HartView). h.lane.calling) view ∙ calm_after w before.heard before.number before b c (Did.quiet items) moves (row_of moves) reason over;
  }
    where
      row_of : Moves w before.heard before.number b (Did.quiet items) c → IsAtRow before c.resolving
      row_of m = subst (IsAtRow before) (sym (still before.number before.heard b c items (resolution w before.heard before.number b (Did.quiet items) c m))) between.row

  pub quiet_on : (before now : HartView) (b c : HartState) (d : BlockTable) (result : Option Turned) → IsBetweenTurns w begun before b d → b.«end» ≡ None
      → ((s : State) → is_own (due s b) ≡ true) → ((s : State) → TakesQuiet before now (due s b) b c result) → end_of result ≡ None → RunsOn w begun before now b c d
  quiet_on before now b c d None between runs own quiet none =
      absurd (let no : true ≡ false = sym (own (after before.heard)) ∙ (quiet (after before.heard)).0 in cc)
  quiet_on before now b c d (Some Over) between runs own quiet none =
      let x = quiet (after before.heard) in quiet_at before now b c d x.0.items between runs x.0.trail (x.0.turn w before.heard before.number)
  quiet_on before now b c d (Some (Again shown)) between runs own quiet none =
      let x = quiet (after before.heard) in quiet_at before now b c d x.0.items between runs x.0.trail (x.0.turn w before.heard before.number)
  quiet_on before now b c d (Some (Ends reason)) between runs own quiet none = absurd (let no : Some reason ≡ None = none in cc)

  -- ---- a block that is kept

  pub kept_on : (before now : HartView) (b c : HartState) (d : BlockTable) (number offset : ℕ) → IsBetweenTurns w begun before b d → b.«end» ≡ None → IsLane before.lane
      → ((s : State) → due s b ≡ Due.serve (locates number offset) (back b)) → ReadsBlock before now d number offset b c true → RunsOn w begun before now b c d
  kept_on before now b c d number offset between runs lane is x = by (kept_in d x.generation number) refl
    where
      idle : before.lane.offer ≡ None
      idle = lane.idle (at_rest (after before.heard) before b runs between.row (located_is_no_exchange (due (after before.heard) b) number offset (back b) (is (after before.heard))))

      by : (k : Option ℕ) → kept_in d x.generation number ≡ k → RunsOn w begun before now b c d
      by None at = absurd (let no = subst (λ o. Answers offset b c o true) at x.answers in let e : true ≡ false = no.0 in cc)
      by (Some block) at =
          let turn = kept_turn w before now d number offset b c true idle between.blocks (between.current runs) (is (after before.heard)) x block at in
          let answer = subst (λ o. Answers offset b c o true) at x.answers in
          let item : TrailItem = ReadGeneration x.generation number (last_block x.generation number before.lane.taken) in
          let row : IsAtRow before c.resolving = subst (IsAtRow before) (ap (λ (e : HartState). e.resolving) (sym answer.1)) (row_settles before b.resolving between.row) in
          let moves : Moves w before.heard before.number b (Did.serves [] []) c = kept_moves w before now d number offset b c true idle between.blocks (between.current runs) (is (after before.heard)) x block at in
          record {
            proceeds = proceeds stay behind w before now b c (item ∷ []) (ap (λ (h : HartView). h.trail) x.view) turn;
            between = subst (λ (h : HartView). IsBetweenTurns w begun h c d) (sym x.view)
                (stands_on fit finals w begun before (item ∷ []) b c d (Did.serves [] []) between runs moves refl
                row);
            calm = λ reason over. ap (λ (h : HartView). h.lane.calling) x.view ∙ calm_after w before.heard before.number before b c (Did.serves [] []) moves row reason over;
          }

none_there : (o : Option HartEnd) → IsSome o → o ≡ None → ⊥
none_there (Some reason) some is = (let no : Some reason ≡ None = is in absurd cc)
none_there None some is = false≢true some

-- a hart that has begun isn't calling
pub begun_calm : (w : Setting) (begun : List Event) (before now : HartView) (b c : HartState) (d : BlockTable) → RunsOn w begun before now b c d → IsBegun c → now.lane.calling ≡ false
begun_calm w begun before now b c d x at = by c.«end» refl at
  where
    by : (o : Option HartEnd) → c.«end» ≡ o → IsBegun c → now.lane.calling ≡ false
    by (Some reason) over begins = x.calm reason over
    by None runs (inl started) = at_rest (after []) now c runs x.between.row (started.1 (after []))
    by None runs (inr over) = absurd (none_there c.«end» over runs)

pub begun_over : (b : HartState) → IsBegun b → HasStarted b
begun_over b (inl started) = inl started.0
begun_over b (inr ended) = inr ended

-- turns one after another
pub runs_further : (w : Setting) (begun : List Event) (x y z : HartView) (a b c : HartState) (d e : BlockTable) → RunsOn w begun x y a b d → RunsOn w begun y z b c e
    → RunsOn w begun x z a c e
runs_further w begun x y z a b c d e p q = record { proceeds = goes_further w x y z a b c p.proceeds q.proceeds; between = q.between; calm = q.calm }
