-- A turn over told files is one over untold ones: it may do there what it may do here.
use Rattle.std.proofs.Common.{inl, inr, ⊎_elim, ℕ, ◌+◌, ◌*◌, List, [], ◌∷◌, ◌++◌, map, Option, Result, Ok, Err}
use Rattle.history_event.specs.declared.event.Event.{Event}
use Rattle.history_event.specs.declared.event.Event.TheVariants as events
use Rattle.history_event.specs.declared.handed.Function.{Function}
use Rattle.history_event.specs.declared.hart_end.HartEnd.{HartEnd}
use Rattle.history_event.specs.declared.hart_end.HartEnd.TheVariants as ends
use Rattle.rv_hart.specs.declared.bus.BusFault.{BusFault}
use Rattle.rv_hart.specs.declared.bus.BusFault.TheVariants.{Role as RoleFault, Misaligned, Again}
use Rattle.rv_hart.specs.declared.bus.Item.{Item}
use Rattle.rv_hart.specs.declared.bus.Item.TheVariants.{Write}
use Rattle.rv_hart.specs.declared.stepping.Stop.{Stop}
use Rattle.rv_hart.specs.declared.stepping.Stop.TheVariants as stop
use Rattle.rv_hart.specs.Trail.{Place, Ready, Accessing, Stopped}
use Rattle.history_state.specs.After.{after}
use Rattle.history_state.specs.Setting.{Setting}
use Rattle.history_calls.specs.Answer.{Answer, returns, loading, closing, refused, granted, told, again, over}
use Rattle.history_calls.specs.Call.{Call}
use Rattle.history_calls.specs.Functions.{passed}
use Rattle.history_calls.specs.UntoldFiles.Untold.{AllowedUntold, ServesUntold, untold}
use Rattle.hart_moves.specs.Copying.{Copy, first_left}
use Rattle.hart_moves.specs.Due.{Due, Return, due}
use Rattle.hart_moves.specs.Harts.{Frame, HartState, Purpose}
use Rattle.hart_moves.specs.Moves.{Did, Trap, copied_item, own_fini, passing, spent, trap_of}
use Rattle.hart_moves.specs.Moves.{AreAllowed, Calls, Comes, Completes, Copies, CopiesBy, TurnEnds, EndsObject, Finalises, Finals, Instructs, MovesAs, Passes}
use Rattle.hart_moves.specs.Moves.{TurnRefuses, TurnStops, StoresBy, StoresText, Takes, Traps, Unread}
use Rattle.world_turns.specs.Turn.{Turn}
use Rattle.world_turns.specs.World.{World, found_journal}

module _ (allowed : AllowedUntold) (serves : ServesUntold) (w : Setting) (h : ℕ) where
  -- ---- events

  all_allowed : (past more : List Event) → AreAllowed w past more → AreAllowed (untold w) past more
  all_allowed past [] may = tt
  all_allowed past (e ∷ rest) may = (allowed w past e may.0, all_allowed (past ++ e ∷ []) rest may.1)

  finals : (past more : List Event) (next : Option Function) → Finals w h past more next → Finals (untold w) h past more next
  finals past more next (Finals.no_more _ none) = Finals.no_more past none
  finals past more next (Finals.one_runs _ object function rest others order are) = Finals.one_runs past object function rest others order are
  finals past more next (Finals.one_passes _ object rest behind last order are may later) =
      Finals.one_passes past object rest behind last order are (allowed w past (events.Fini h object) may)
      (finals (past ++ events.Fini h object ∷ []) behind last later)

  module _ (past : List Event) (did : Did) (c : HartState) where
    ending : (b : HartState) (items : List Item) (reason : HartEnd) → TurnEnds w past h b items reason did c → TurnEnds (untold w) past h b items reason did c
    ending b items reason x = record { may = x.may; is = x.is; leaves = x.leaves }

    -- ---- an instruction

    traps : (b : HartState) (items : List Item) (trap : Trap) → Traps w past h b items trap did c → Traps (untold w) past h b items trap did c
    traps b items (Trap.exits code) x = ending (spent b) items (ends.Exit code) x
    traps b items (Trap.gives value) x = x
    traps b items Trap.writes x = x

    refuses : (b : HartState) (items : List Item) (address : ℕ) (fault : BusFault) → TurnRefuses w past h b items address fault did c
        → TurnRefuses (untold w) past h b items address fault did c
    refuses b items address (RoleFault role) x = ending (spent b) items _ x
    refuses b items address Misaligned x = ending (spent b) items _ x
    refuses b items address (Again shown) x = x

    stops : (b : HartState) (items : List Item) (s : Stop) → TurnStops w past h b items s did c → TurnStops (untold w) past h b items s did c
    stops b items stop.Ecall x = traps b items (trap_of b.registers) x
    stops b items stop.Break x = ending (spent b) items _ x
    stops b items (stop.Bad word) x = ending (spent b) items _ x
    stops b items (stop.Misaligned address) x = ending (spent b) items _ x
    stops b items (stop.Refused address fault) x = refuses b items address fault x

    comes : (b : HartState) (items : List Item) (place : Place) → Comes w past h b items place did c → Comes (untold w) past h b items place did c
    comes b items (Ready r) x = x
    comes b items (Accessing r decoded) x = x
    comes b items (Stopped r s) x = stops b items s x

    instructs : (b : HartState) → Instructs w past h b did c → Instructs (untold w) past h b did c
    instructs b x = record { items = x.items; place = x.place; step = x.step; comes = comes b x.items x.place x.comes }

    -- ---- copies and stores

    unread : (b : HartState) (items : List Item) (copy : Copy) (address : ℕ) → Unread w past h b items copy address did c
        → Unread (untold w) past h b items copy address did c
    unread b items (Copy.of_name n) address x = ending (spent b) items _ x
    unread b items (Copy.of_version name) address x = ending (spent b) items _ x
    unread b items Copy.of_pair address x = ending (spent b) items _ x
    unread b items (Copy.of_text count) address x = x

    copies_by : (b : HartState) (items : List Item) (copy : Copy) (start : ℕ) (bytes : List ℕ) (answer : Result ℕ BusFault)
        → CopiesBy w past h b items copy start bytes answer did c → CopiesBy (untold w) past h b items copy start bytes answer did c
    copies_by b items copy start bytes (Ok word) x = x
    copies_by b items copy start bytes (Err (RoleFault role)) x = unread b items copy (first_left start bytes) x
    copies_by b items copy start bytes (Err Misaligned) x = x
    copies_by b items copy start bytes (Err (Again shown)) x = x

    copies : (b : HartState) (copy : Copy) (start : ℕ) (bytes : List ℕ) → Copies w past h b copy start bytes did c
        → Copies (untold w) past h b copy start bytes did c
    copies b copy start bytes x = record { answer = x.answer; comes = copies_by b (copied_item start bytes x.answer ∷ []) copy start bytes x.answer x.comes }

    stores_by : (b : HartState) (items : List Item) (text stored : ℕ) (more : List ℕ) (answer : Result Unit BusFault)
        → StoresBy w past h b items text stored more answer did c → StoresBy (untold w) past h b items text stored more answer did c
    stores_by b items text stored more (Ok done) x = x
    stores_by b items text stored more (Err (RoleFault role)) x = ending (spent b) items _ x
    stores_by b items text stored more (Err Misaligned) x = x
    stores_by b items text stored more (Err (Again shown)) x = x

    stores : (b : HartState) (text stored word : ℕ) (more : List ℕ) → StoresText w past h b text stored word more did c
        → StoresText (untold w) past h b text stored word more did c
    stores b text stored word more x =
        record { answer = x.answer; comes = stores_by b (Write (text + 8 * stored) 8 word x.answer ∷ []) text stored more x.answer x.comes }

    -- ---- functions that the linker has run

    passes : (b : HartState) (purpose : Purpose) (before : List Event) (functions : List Function) (below : List Frame)
        → Passes w past h b purpose before functions below did c → Passes (untold w) past h b purpose before functions below did c
    passes b purpose before functions below x = record {
      may = all_allowed (past ++ before) (map (passing purpose h) (passed functions)) x.may;
      is = x.is;
      leaves = x.leaves;
    }

    completes : (b : HartState) (purpose : Purpose) (object : ℕ) (rest : List Function) (below : List Frame)
        → Completes w past h b purpose object rest below did c → Completes (untold w) past h b purpose object rest below did c
    completes b purpose object rest below x = record {
      may = allowed w past (passing purpose h object) x.may;
      passes = passes b purpose (passing purpose h object ∷ []) rest below x.passes;
    }

    finalises : (b : HartState) (code object : ℕ) → Finalises w past h b code object did c → Finalises (untold w) past h b code object did c
    finalises b code object x = record {
      may = all_allowed past (own_fini (after past) h object) x.may;
      events = x.events;
      next = x.next;
      finals = finals (past ++ own_fini (after past) h object) x.events x.next x.finals;
      is = x.is;
      leaves = x.leaves;
    }

    ends_object : (b : HartState) (code object : ℕ) → EndsObject w past h b code object did c → EndsObject (untold w) past h b code object did c
    ends_object b code object x = ⊎_elim
        (λ (f : Finalises w past h b code object did c). inl (finalises b code object f))
        (λ (e : TurnEnds w past h (spent b) [] ends.Memory did c). inr (ending (spent b) [] ends.Memory e))
        x

    -- ---- a service

    takes : (b : HartState) (call : Call) (back : Return) (answer : Answer) (appended : List Event) → Takes w past h b call back answer appended did c
        → Takes (untold w) past h b call back answer appended did c
    takes b call back (returns value) appended x = x
    takes b call back (loading root added) appended x = record {
      functions = x.functions;
      are = x.are;
      passes = passes b (Purpose.of_opening back.to root) appended x.functions back.frames x.passes;
    }
    takes b call back (closing set) appended x = record {
      functions = x.functions;
      are = x.are;
      passes = passes b (Purpose.of_closing back.to set) appended x.functions back.frames x.passes;
    }
    takes b call back (refused fault) appended x = x
    takes b call back (granted grant) appended x = x
    takes b call back (told fault) appended x = x
    takes b call back (again for) appended x = x
    takes b call back (over reason) appended x = x

    calls : (b : HartState) (call : Call) (back : Return) → Calls w past h b call back did c → Calls (untold w) past h b call back did c
    calls b call back x = record {
      appended = x.appended;
      answer = x.answer;
      serves = serves w past h call x.appended x.answer x.serves;
      takes = takes b call back x.answer x.appended x.takes;
    }

    -- ---- a turn

    moves_as : (b : HartState) (d : Due) → MovesAs w past h b d did c → MovesAs (untold w) past h b d did c
    moves_as b Due.nothing x = x
    moves_as b (Due.exchange o) x = x
    moves_as b (Due.finish o found) x = x
    moves_as b Due.fuel_out x = ending b [] ends.FuelOut x
    moves_as b Due.instruction x = instructs b x
    moves_as b (Due.copy copy start bytes) x = copies b copy start bytes x
    moves_as b (Due.serve call back) x = calls b call back x
    moves_as b (Due.wait for) x = x
    moves_as b (Due.store text stored word more) x = stores b text stored word more x
    moves_as b (Due.enter function frames) x = x
    moves_as b (Due.complete purpose object rest below) x = completes b purpose object rest below x
    moves_as b (Due.finalise code object) x = ends_object b code object x

pub untold_turn : AllowedUntold → ServesUntold → (w : Setting) (h : ℕ) (old new : World) → Turn w h old new → Turn (untold w) h old new
untold_turn allowed serves w h old new turn =
    let past : List Event = found_journal old turn.did in
    record {
      before = turn.before;
      left = turn.left;
      did = turn.did;
      there = turn.there;
      moves = moves_as allowed serves w h past turn.did turn.left turn.before (due (after past) turn.before) turn.moves;
      does = turn.does;
      journal = turn.journal;
      harts = turn.harts;
    }
