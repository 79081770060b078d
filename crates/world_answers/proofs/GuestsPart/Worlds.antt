-- A hart's turn behind the settling is one turn of the run.
use Rattle.std.proofs.Common.{◌≡◌, ℕ, ◌<◌, Bool, true, false, List, ◌++◌, map, length, get_or, Option, Some, None, refl, sym, ap, subst, ◌∙◌}
use Rattle.std.proofs.Math.ListN.{set}
use Rattle.std.proofs.lemmas.Bool.{true≢false}
use Rattle.std.proofs.lemmas.List.{length-map}
use Rattle.std.specs.List.{slice_get}
use Rattle.ld_base.specs.declared.linking.File.{File}
use Rattle.history_event.specs.declared.event.Event.{Event}
use Rattle.history_state.specs.After.{after}
use Rattle.history_state.specs.State.{State}
use Rattle.history_calls.specs.Call.{Call}
use Rattle.link_state.specs.Table.{LinkTable}
use Rattle.rv_hart.specs.declared.doubleword.Doubleword.{Doubleword}
use Rattle.hart_moves.specs.Due.{Due, Return, due}
use Rattle.hart_moves.specs.Harts.{HartState}
use Rattle.hart_moves.specs.Moves.{events_of, freed}
use Rattle.hart_seat.specs.Table.{HartTable}
use Rattle.world_memory.specs.TurnParts.Freed.{FreedIsDue, FreedTakesTurns}
use Rattle.world_answers.specs.Answers.{is_service}
use Rattle.world_answers.specs.ReturnsPart.Completing.{MayPass, is_complete}
use Rattle.world_answers.specs.ReturnsPart.Settling.{freed_in, harts_in}
use Rattle.world_turns.specs.Run.{settled}
use Rattle.world_turns.specs.Turn.{Turn as one_turn}
use Rattle.world_turns.specs.World.{settling}
use Rattle.world_answers.specs.GuestsPart.GuestWorlds.Coming.{LeavesHart}
use Rattle.world_answers.specs.GuestsPart.GuestWorlds.Laws.{CallsNow, MaySettle, PassesNow, ServiceTurns, SettlesNow}
use Rattle.world_answers.specs.GuestsPart.GuestWorlds.Worlds.{MayBeAt, TurnsOver, world_of}
use Rattle.world_answers.specs.declared.guests.guest_worlds.turn.Turn.{Turn}
use Rattle.world_answers.specs.declared.guests.guest_worlds.turn.Turn.TheVariants as turn
use Rattle.world_answers.specs.GuestsPart.Next.{OfNext}
use Rattle.world_answers.specs.GuestsPart.Asking.{is_called}
use Rattle.world_answers.specs.GuestsPart.Taking.{HartTurns, HartTurnsOn, HartTurnsOver, HasCalled, IsLegal, IsOutcome, MakesCall}
use Rattle.world_answers.proofs.GuestsPart.GuestWorlds.Dues.{HasTurn, has_turn, takes_fuel}
use Rattle.world_answers.proofs.GuestsPart.Freed.{IsServe, freed_at, freed_twice, hart_at, harts_freed, left_at, same_hart, serve_of}

-- ---- a turn that asks for something else

serves_not_complete : (call : Call) (back : Return) → is_complete (Due.serve call back) ≡ true → ⊥
serves_not_complete call back is = true≢false (sym is)

pub complete_no_call : (d : Due) → is_complete d ≡ true → is_service d ≡ false
complete_no_call (Due.complete purpose object rest below) is = refl
complete_no_call (Due.serve call back) is = absurd (serves_not_complete call back is)
complete_no_call _ is = refl

called_takes : (d : Due) → is_called d ≡ true → takes_fuel d ≡ true
called_takes Due.nothing is = is
called_takes (Due.exchange o) is = is
called_takes (Due.finish o found) is = is
called_takes Due.fuel_out is = is
called_takes _ is = refl

-- ---- behind the settling

-- the state, the harts, and the hart whose turn it is
pub record Behind (old mid : LinkTable) (words : List Doubleword) (harts after_all : List HartTable) (h : ℕ) (b b' : HartState) : Type 0 where
  pub state : mid ≡ record old { events = (settled (world_of old words harts)).journal }
  pub all : harts_in after_all ≡ (settled (world_of old words harts)).harts
  pub there : slice_get (harts_in harts) h ≡ Some b
  pub hart : b' ≡ freed b

pub behind : (old mid : LinkTable) (words : List Doubleword) (harts after_all : List HartTable) (i h : ℕ) (d d' : HartTable)
    → mid ≡ record old { events = old.events ++ settling (harts_in harts) } → after_all ≡ map freed_in harts → i ≡ h → h < length harts
    → Behind old mid words harts after_all h (get_or harts i d).hart (get_or after_all i d').hart
behind old mid words harts after_all i h d d' state all same lt = record {
  state = state;
  all = settled_all;
  there = there;
  hart = same_hart (slice_get (harts_in after_all) h) (get_or after_all i d').hart (freed (get_or harts i d).hart) (hart_at after_all i h d' same lt_all)
      (ap (λ (bs : List HartState). slice_get bs h) settled_all ∙ freed_at (harts_in harts) h (get_or harts i d).hart there);
}
  where
    settled_all : harts_in after_all ≡ map freed (harts_in harts)
    settled_all = ap harts_in all ∙ harts_freed harts

    there : slice_get (harts_in harts) h ≡ Some (get_or harts i d).hart
    there = hart_at harts i h d same lt

    lt_all : h < length after_all
    lt_all = subst (λ (n : ℕ). h < n) (sym (ap (λ (ts : List HartTable). length ts) all ∙ length-map harts freed_in)) lt

module _ (old mid : LinkTable) (words : List Doubleword) (harts after_all : List HartTable) (h : ℕ) (b b' : HartState)
    (x : Behind old mid words harts after_all h b b') (same_due : FreedIsDue) where
  abbrev past : List Event
  past = (settled (world_of old words harts)).journal

  as_due : (s : State) → due s b' ≡ due s b
  as_due s = ap (due s) x.hart ∙ same_due s b

  pub completes : ((s : State) → is_complete (due s b) ≡ true) → is_complete (due (after mid.events) b') ≡ true
  completes complete = ap is_complete (as_due (after mid.events)) ∙ complete (after mid.events)

  -- what holds there of the state and of the hart holds of the run
  pub of_next : (Holds : ℕ → List Event → Due → Type 0) → Holds mid.harts mid.events (due (after mid.events) b') → OfNext (world_of old words harts) h (Holds old.harts)
  of_next Holds holds = λ c at.
      let in_past : Holds old.harts past (due (after past) b') = subst (λ (t : LinkTable). Holds t.harts t.events (due (after t.events) b')) x.state holds in
      let of_hart : Holds old.harts past (due (after past) b) = subst (Holds old.harts past) (as_due (after past)) in_past in
      subst (λ (y : HartState). Holds old.harts past (due (after past) y)) (same_hart (slice_get (harts_in harts) h) b c x.there at) of_hart

  -- and the other way round
  pub from_next : (Holds : ℕ → List Event → Due → Type 0) → OfNext (world_of old words harts) h (Holds old.harts) → Holds mid.harts mid.events (due (after mid.events) b')
  from_next Holds holds =
      let in_past : Holds old.harts past (due (after past) b') = subst (Holds old.harts past) (sym (as_due (after past))) (holds b x.there) in
      subst (λ (t : LinkTable). Holds t.harts t.events (due (after t.events) b')) (sym x.state) in_past

  -- ---- what the turn meets

  module _ (folders : List (List ℕ)) (begun : Bool) (at : MayBeAt old.harts folders begun (world_of old words harts)) (settles : SettlesNow) where
    settled_at : MaySettle old.harts folders begun (world_of old words harts)
    settled_at = settles old.harts folders begun (world_of old words harts) at

    pub legal_there : IsLegal mid.harts folders mid.events
    legal_there =
        subst (λ (t : LinkTable). IsLegal t.harts folders t.events) (sym x.state)
        (record { preload = settled_at.at.preload; legal = settled_at.at.running.sound.legal })

    freed_there : slice_get (settled (world_of old words harts)).harts h ≡ Some b'
    freed_there = freed_at (harts_in harts) h b x.there ∙ ap (λ (y : HartState). Some y) (sym x.hart)

    freed_stays : freed b' ≡ b'
    freed_stays = ap freed x.hart ∙ freed_twice b ∙ sym x.hart

    makes_call : CallsNow → is_service (due (after past) b') ≡ true → MakesCall old.harts past h b'
    makes_call calls service =
        let serve : IsServe (due (after past) b') = serve_of (due (after past) b') service in
        record {
          call = serve.call;
          back = serve.back;
          is = serve.is;
          may = calls old.harts folders begun (settled (world_of old words harts)) h b' serve.call serve.back settled_at.at freed_there freed_stays serve.is;
        }

    pub has_called : CallsNow → ((s : State) → is_called (due s b) ≡ true) → HasCalled mid.harts mid.events h b'
    has_called calls called =
        let now : is_called (due (after past) b') ≡ true = ap is_called (as_due (after past)) ∙ called (after past) in
        let has : HasTurn b' = has_turn (after past) b' (due (after past) b') refl (called_takes (due (after past) b') now) in
        subst (λ (t : LinkTable). HasCalled t.harts t.events h b') (sym x.state)
        (record { called = now; makes = λ service. makes_call calls service; runs = has.runs; fuel = has.fuel })

    pub may_pass : PassesNow → MayPass mid.harts mid.events h (due (after mid.events) b')
    may_pass passes =
        subst (λ (t : LinkTable). MayPass t.harts t.events h (due (after t.events) b')) (sym x.state)
        (passes old.harts folders begun (settled (world_of old words harts)) h b' settled_at.at freed_there)

  -- ---- the turn

  module _ (new : LinkTable) (left : List Doubleword) (c : HartState) (left_harts : List HartTable) (folders : List (List ℕ)) (files : Option (List File))
      (turns : HartTurnsOver folders files mid new words left h b' c) (as_left : harts_in left_harts ≡ set (harts_in after_all) h c) where
    turns_there : HartTurnsOver folders files (record old { events = past }) new words left h (freed b) c
    turns_there =
        subst (λ (y : HartState). HartTurnsOver folders files (record old { events = past }) new words left h y c) x.hart
        (subst (λ (t : LinkTable). HartTurnsOver folders files t new words left h b' c) x.state turns)

    pub turned : ServiceTurns → FreedTakesTurns → TurnsOver old.harts folders files h (world_of old words harts) (world_of new left left_harts)
    turned service takes = λ w on.
        let t : HartTurns w past new.events words left h (freed b) c = turns_there w on in
        let made : one_turn w h (world_of old words harts) (record { journal = past ++ events_of t.did; words = left; harts = set (map freed (harts_in harts)) h c }) =
        service w h (world_of old words harts) left b c t.did t.settling x.there (takes w past h b t.did c t.settling t.moves) t.does in
        subst (λ (bs : List HartState). one_turn w h (world_of old words harts) (record { journal = new.events; words = left; harts = bs }))
        (ap (λ (bs : List HartState). set bs h c) (sym x.all) ∙ sym as_left)
        (subst (λ (es : List Event). one_turn w h (world_of old words harts) (record { journal = es; words = left; harts = set (map freed (harts_in harts)) h c })) (sym t.are) made)

    pub came_of : (came : Turn) → b.«end» ≡ None → IsOutcome c came → LeavesHart (world_of old words harts) (world_of new left left_harts) h came
    came_of came runs out = by came out
      where
        there_now : slice_get (harts_in left_harts) h ≡ Some c
        there_now =
            ap (λ (bs : List HartState). slice_get bs h) (as_left ∙ ap (λ (bs : List HartState). set bs h c) x.all)
            ∙ left_at (map freed (harts_in harts)) h (freed b) c (freed_at (harts_in harts) h b x.there)

        by : (came : Turn) → IsOutcome c came → LeavesHart (world_of old words harts) (world_of new left left_harts) h came
        by turn.Stepped out = (c, there_now, out)
        by (turn.Again shown) out = (c, there_now, out)
        by (turn.Ended reason) out = ((b, x.there, runs), (c, there_now, out))
        by turn.Idle out = absurd out

-- a turn on the machine is one over any files
pub over_files : (folders : List (List ℕ)) (files : Option (List File)) (old new : LinkTable) (words left : List Doubleword) (h : ℕ) (b c : HartState)
    → HartTurnsOn old new words left h b c → HartTurnsOver folders files old new words left h b c
over_files folders files old new words left h b c turns = λ w on. turns w on.machine
