-- A hart whose grant is settled first takes the same turn as it does before: settled twice it is as settled once.
use Rattle.std.proofs.Common.{◌≡◌, ◌⊎◌, ⊎_elim, inl, inr, ap, sym, subst, refl, ◌∙◌, ℕ, false, List, [], ◌∷◌, ◌++◌, Option, Some, None, Result, Ok}
use Rattle.std.proofs.Common.{Err, true≢false}
use Rattle.std.specs.Prelude.{IsTrue}
use Rattle.ld_base.specs.declared.fault.DlFault.{DlFault}
use Rattle.ld_base.specs.declared.fault.Shown.{Shown}
use Rattle.history_event.specs.declared.event.Event.{Event}
use Rattle.history_event.specs.declared.handed.Function.{Function}
use Rattle.history_event.specs.declared.hart_end.HartEnd.{HartEnd}
use Rattle.history_event.specs.declared.hart_end.HartEnd.TheVariants as ends
use Rattle.rv_hart.specs.declared.bus.BusFault.{BusFault}
use Rattle.rv_hart.specs.declared.bus.BusFault.TheVariants.{Role as RoleFault, Misaligned, Again}
use Rattle.rv_hart.specs.declared.bus.Item.{Item}
use Rattle.rv_hart.specs.declared.stepping.Stop.{Stop}
use Rattle.rv_hart.specs.declared.stepping.Stop.TheVariants as stop
use Rattle.rv_hart.specs.Trail.{Place, Ready, Accessing, Stopped}
use Rattle.history_state.specs.After.{after}
use Rattle.history_state.specs.Setting.{Setting}
use Rattle.history_state.specs.State.{State}
use Rattle.history_calls.specs.Answer.{Answer, returns, loading, closing, refused, granted, told, again, over, refused_value}
use Rattle.history_calls.specs.Call.{Call}
use Rattle.history_calls.specs.Functions.{left}
use Rattle.history_calls.specs.Served.{answer_text}
use Rattle.hart_moves.specs.Copying.{Copy, first_left, text_words}
use Rattle.hart_moves.specs.Due.{Due, Return, by_phase, by_resolving, call_of, due}
use Rattle.hart_moves.specs.Harts.{Frame, HartState, Purpose, Resolving}
use Rattle.hart_moves.specs.Registers.{entered}
use Rattle.hart_moves.specs.Moves.{Did, after_all, did_by, final_functions, freed, freed_by, own_fini, returning, running, runs, settled_resolving}
use Rattle.hart_moves.specs.Moves.{settles, spent, stack_start, telling, trap_of, Trap, with_first}
use Rattle.hart_moves.specs.Moves.{Calls, Comes, Completes, Copies, CopiesBy, TurnEnds, EndsObject, Finalises, Goes, Instructs, Moves, MovesAs}
use Rattle.hart_moves.specs.Moves.{Passes, TurnRefuses, TurnStops, TurnWaits, StoresBy, StoresText, Takes, TellsOf, Traps, Unread}
use Rattle.hart_moves.specs.Waiting.{awaiting}

-- ---- settled twice

settled_twice : (r : Resolving) → settled_resolving (settled_resolving r) ≡ settled_resolving r
settled_twice Resolving.idle = refl
settled_twice (Resolving.to_exchange o) = refl
settled_twice (Resolving.to_finish o found) = refl
settled_twice (Resolving.to_settle o found) = refl

pub freed_twice : (b : HartState) → freed (freed b) ≡ freed b
freed_twice b = ap (λ (r : Resolving). record b { resolving = r }) (settled_twice b.resolving)

-- ---- functions that are run

all_freed : (purpose : Purpose) (below : List Frame) (b : HartState) → after_all purpose below (freed b) ≡ freed (after_all purpose below b)
all_freed (Purpose.of_startup registers) below b = refl
all_freed (Purpose.of_opening to root) below b = refl
all_freed (Purpose.of_closing to set) below b = refl
all_freed (Purpose.of_end code) below b = refl

first_freed : (purpose : Purpose) (object : ℕ) (addresses : List ℕ) (rest : List Function) (below : List Frame) (b : HartState)
    → with_first purpose object addresses rest below (freed b) ≡ freed (with_first purpose object addresses rest below b)
first_freed purpose object [] rest below b = refl
first_freed purpose object (function ∷ more) rest below b = refl

pub runs_freed : (purpose : Purpose) (functions : List Function) (below : List Frame) (b : HartState)
    → runs purpose functions below (freed b) ≡ freed (runs purpose functions below b)
runs_freed purpose [] below b = all_freed purpose below b
runs_freed purpose (f ∷ rest) below b = first_freed purpose f.object f.addresses rest below b

-- ---- the next turn

due_place : (s : State) (b : HartState) (r : Resolving) → by_resolving s (freed b) (settled_resolving r) ≡ by_resolving s b r
unfolding by_phase call_of
due_place s b Resolving.idle = refl
due_place s b (Resolving.to_exchange o) = refl
due_place s b (Resolving.to_finish o found) = refl
due_place s b (Resolving.to_settle o found) = refl

pub freed_due : (s : State) (b : HartState) → due s (freed b) ≡ due s b
unfolding due
freed_due s b =
    let unless_over : Due → Due = λ d. elim b.«end» [ Some reason ↦ Due.nothing | None ↦ d ] in
    ap unless_over (due_place s b b.resolving)

-- ---- turns

-- the turn of the hart as it was before leaves it so, too; or, where it settles nothing, with its grant unsettled
pub record Before (did : Did) (c : HartState) (Leaves : HartState → Type 0) : Type 0 where
  pub left : HartState
  pub leaves : Leaves left
  pub alike : (c ≡ left) ⊎ ((settles did ≡ false) × (c ≡ freed left))

module _ (w : Setting) (past : List Event) (h : ℕ) (b : HartState) (did : Did) (c : HartState) where
  goes : (items : List Item) (x : HartState) → Goes items (freed x) did c → Before did c (Goes items x did)
  goes items x g = record { left = spent x; leaves = record { is = g.is; leaves = refl }; alike = inr (ap settles g.is, g.leaves) }

  ending : (items : List Item) (reason : HartEnd) (x : HartState) → TurnEnds w past h (freed x) items reason did c
      → Before did c (TurnEnds w past h x items reason did)
  ending items reason x e = record {
    left = c;
    leaves = record { may = e.may; is = e.is; leaves = e.leaves ∙ ap (λ (y : HartState). record y { «end» = Some reason }) (freed_twice x) };
    alike = inl refl;
  }

  -- ---- an instruction

  traps : (items : List Item) (trap : Trap) → Traps w past h (freed b) items trap did c → Before did c (Traps w past h b items trap did)
  traps items (Trap.exits code) x = ending items (ends.Exit code) (spent b) x
  traps items (Trap.gives value) x = goes items _ x
  traps items Trap.writes x = goes items _ x

  refuses : (items : List Item) (address : ℕ) (fault : BusFault) → TurnRefuses w past h (freed b) items address fault did c
      → Before did c (TurnRefuses w past h b items address fault did)
  refuses items address (RoleFault role) x = ending items _ (spent b) x
  refuses items address Misaligned x = ending items _ (spent b) x
  refuses items address (Again shown) x = goes items b x

  stops : (items : List Item) (s : Stop) → TurnStops w past h (freed b) items s did c → Before did c (TurnStops w past h b items s did)
  stops items stop.Ecall x = traps items (trap_of b.registers) x
  stops items stop.Break x = ending items _ (spent b) x
  stops items (stop.Bad word) x = ending items _ (spent b) x
  stops items (stop.Misaligned address) x = ending items _ (spent b) x
  stops items (stop.Refused address fault) x = refuses items address fault x

  comes : (items : List Item) (place : Place) → Comes w past h (freed b) items place did c → Before did c (Comes w past h b items place did)
  comes items (Ready r) x = goes items (record b { registers = r }) x
  comes items (Accessing r decoded) x = absurd x
  comes items (Stopped r s) x = stops items s x

  instructs : Instructs w past h (freed b) did c → Before did c (Instructs w past h b did)
  instructs x = let y = comes x.items x.place x.comes in record {
    left = y.left;
    leaves = record { items = x.items; place = x.place; step = x.step; comes = y.leaves };
    alike = y.alike;
  }

  -- ---- copies and stores

  unread : (items : List Item) (copy : Copy) (address : ℕ) → Unread w past h (freed b) items copy address did c
      → Before did c (Unread w past h b items copy address did)
  unread items (Copy.of_name n) address x = ending items _ (spent b) x
  unread items (Copy.of_version name) address x = ending items _ (spent b) x
  unread items Copy.of_pair address x = ending items _ (spent b) x
  unread items (Copy.of_text count) address x = goes items _ x

  copies_by : (items : List Item) (copy : Copy) (start : ℕ) (bytes : List ℕ) (answer : Result ℕ BusFault)
      → CopiesBy w past h (freed b) items copy start bytes answer did c
      → Before did c (CopiesBy w past h b items copy start bytes answer did)
  copies_by items copy start bytes (Ok word) x = goes items _ x
  copies_by items copy start bytes (Err (RoleFault role)) x = unread items copy (first_left start bytes) x
  copies_by items copy start bytes (Err Misaligned) x = absurd x
  copies_by items copy start bytes (Err (Again shown)) x = goes items b x

  copies : (copy : Copy) (start : ℕ) (bytes : List ℕ) → Copies w past h (freed b) copy start bytes did c → Before did c (Copies w past h b copy start bytes did)
  copies copy start bytes x = let y = copies_by _ copy start bytes x.answer x.comes in record {
    left = y.left;
    leaves = record { answer = x.answer; comes = y.leaves };
    alike = y.alike;
  }

  stores_by : (items : List Item) (text stored : ℕ) (more : List ℕ) (answer : Result Unit BusFault)
      → StoresBy w past h (freed b) items text stored more answer did c
      → Before did c (StoresBy w past h b items text stored more answer did)
  stores_by items text stored [] (Ok done) x = goes items _ x
  stores_by items text stored (word ∷ more) (Ok done) x = goes items _ x
  stores_by items text stored more (Err (RoleFault role)) x = ending items _ (spent b) x
  stores_by items text stored more (Err Misaligned) x = absurd x
  stores_by items text stored more (Err (Again shown)) x = goes items b x

  stores : (text stored word : ℕ) (more : List ℕ) → StoresText w past h (freed b) text stored word more did c
      → Before did c (StoresText w past h b text stored word more did)
  stores text stored word more x = let y = stores_by _ text stored more x.answer x.comes in record {
    left = y.left;
    leaves = record { answer = x.answer; comes = y.leaves };
    alike = y.alike;
  }

  -- ---- functions that the linker has run

  passes : (purpose : Purpose) (before : List Event) (functions : List Function) (below : List Frame)
      → Passes w past h (freed b) purpose before functions below did c → Passes w past h b purpose before functions below did c
  passes purpose before functions below x = record {
    may = x.may;
    is = x.is;
    leaves = x.leaves
        ∙ ap (λ (y : HartState). spent (runs purpose (left functions) below y)) (freed_twice b);
  }

  completes : (purpose : Purpose) (object : ℕ) (rest : List Function) (below : List Frame) → Completes w past h (freed b) purpose object rest below did c
      → Completes w past h b purpose object rest below did c
  completes purpose object rest below x = record { may = x.may; passes = passes purpose _ rest below x.passes }

  -- a final turn without an event is no service
  finalises : (code object : ℕ) → Finalises w past h (freed b) code object did c → Before did c (Finalises w past h b code object did)
  finalises code object x = by (own_fini (after past) h object ++ x.events) x.is x.leaves
      (λ d leaves. record { may = x.may; events = x.events; next = x.next; finals = x.finals; is = x.is; leaves = leaves })
    where
      by : (added : List Event) → did ≡ did_by added → c ≡ spent (runs (Purpose.of_end code) (final_functions x.next) [] (freed_by added (freed b)))
          → ((d : HartState) → d ≡ spent (runs (Purpose.of_end code) (final_functions x.next) [] (freed_by added b)) → Finalises w past h b code object did d)
          → Before did c (Finalises w past h b code object did)
      by [] is leaves make = record {
        left = spent (runs (Purpose.of_end code) (final_functions x.next) [] b);
        leaves = make (spent (runs (Purpose.of_end code) (final_functions x.next) [] b)) refl;
        alike = inr (ap settles is, leaves ∙ ap spent (runs_freed (Purpose.of_end code) (final_functions x.next) [] b));
      }
      by (e ∷ rest) is leaves make = record {
        left = c;
        leaves = make c (leaves ∙ ap (λ (y : HartState). spent (runs (Purpose.of_end code) (final_functions x.next) [] y)) (freed_twice b));
        alike = inl refl;
      }

  ends_object : (code object : ℕ) → EndsObject w past h (freed b) code object did c → Before did c (EndsObject w past h b code object did)
  ends_object code object (inl x) = let y = finalises code object x in record { left = y.left; leaves = inl y.leaves; alike = y.alike }
  ends_object code object (inr x) = let y = ending [] ends.Memory (spent b) x in record { left = y.left; leaves = inr y.leaves; alike = y.alike }

  -- ---- a service

  tells : (text : ℕ) (back : Return) (fault : Option DlFault) (appended : List Event) → TellsOf text (freed b) back fault appended did c
      → TellsOf text b back fault appended did c
  tells text back (Some fault) appended x = record {
    is = x.is;
    leaves = x.leaves
        ∙ ap (λ (y : HartState). spent (telling text (text_words (answer_text fault)) y)) (freed_twice b);
  }
  tells text back None appended x = record { is = x.is; leaves = x.leaves ∙ ap (λ (y : HartState). spent (returning back 0 y)) (freed_twice b) }

  waits : (for : Shown) → TurnWaits (freed b) for did c → TurnWaits b for did c
  waits for x = record { is = x.is; leaves = x.leaves ∙ ap (λ (y : HartState). spent (awaiting for y)) (freed_twice b) }

  takes : (call : Call) (back : Return) (answer : Answer) (appended : List Event) → Takes w past h (freed b) call back answer appended did c
      → Takes w past h b call back answer appended did c
  takes call back (returns value) appended x = record { is = x.is; leaves = x.leaves ∙ ap (λ (y : HartState). spent (returning back value y)) (freed_twice b) }
  takes call back (loading root added) appended x = record {
    functions = x.functions;
    are = x.are;
    passes = passes
        (Purpose.of_opening back.to root) appended x.functions back.frames x.passes;
  }
  takes call back (closing set) appended x = record {
    functions = x.functions;
    are = x.are;
    passes = passes
        (Purpose.of_closing back.to set) appended x.functions back.frames x.passes;
  }
  takes call back (refused fault) appended x = record {
    is = x.is;
    leaves = x.leaves
        ∙ ap (λ (y : HartState). spent (returning back (refused_value call) y)) (freed_twice b);
  }
  takes call back (granted grant) appended x = record { offered = x.offered; offer = x.offer; is = x.is; leaves = x.leaves }
  takes call back (told fault) appended x = tells (stack_start (after past) h) back fault appended x
  takes call back (again for) appended x = waits for x
  takes call back (over reason) appended x = record {
    is = x.is;
    leaves = x.leaves
        ∙ ap (λ (r : Resolving). record (spent b) { resolving = r; «end» = Some reason }) (settled_twice b.resolving);
  }

  calls : (call : Call) (back : Return) → Calls w past h (freed b) call back did c → Calls w past h b call back did c
  calls call back x = record { appended = x.appended; answer = x.answer; serves = x.serves; takes = takes call back x.answer x.appended x.takes }

  -- ---- a turn

  same : {Leaves : HartState → Type 0} → Leaves c → Before did c Leaves
  same x = record { left = c; leaves = x; alike = inl refl }

  as_before : (d : Due) → MovesAs w past h (freed b) d did c → Before did c (MovesAs w past h b d did)
  as_before Due.nothing x = absurd x
  as_before (Due.exchange o) x = same (record { found = x.found; is = x.is; leaves = x.leaves })
  as_before (Due.finish o found) x = same (record { is = x.is; leaves = x.leaves })
  as_before Due.fuel_out x = ending [] ends.FuelOut b x
  as_before Due.instruction x = instructs x
  as_before (Due.copy copy start bytes) x = copies copy start bytes x
  as_before (Due.serve call back) x = same (calls call back x)
  as_before (Due.wait for) x = same (waits for x)
  as_before (Due.store text stored word more) x = stores text stored word more x
  as_before (Due.enter function frames) x =
      record {
        left = spent (running (entered function b.registers) (record b { frames = frames }));
        leaves = record { is = x.is; leaves = refl };
        alike = inr (ap settles x.is, x.leaves);
      }
  as_before (Due.complete purpose object rest below) x = same (completes purpose object rest below x)
  as_before (Due.finalise code object) x = ends_object code object x

pub freed_before : (w : Setting) (past : List Event) (h : ℕ) (b : HartState) (did : Did) (c : HartState) → Moves w past h (freed b) did c
    → Before did c (Moves w past h b did)
freed_before w past h b did c x = as_before w past h b did c (due (after past) b)
    (subst (λ (d : Due). MovesAs w past h (freed b) d did c) (freed_due (after past) b) x)

-- so a turn that settles leaves it so
settles_same : (did : Did) (c : HartState) (Leaves : HartState → Type 0) → IsTrue (settles did) → Before did c Leaves → Leaves c
settles_same did c Leaves serves x = ⊎_elim
    (λ (same : c ≡ x.left). subst Leaves (sym same) x.leaves)
    (λ (other : (settles did ≡ false) × (c ≡ freed x.left)). absurd (true≢false (sym serves ∙ other.0)))
    x.alike

pub freed_moves : (w : Setting) (past : List Event) (h : ℕ) (b : HartState) (d : Due) (did : Did) (c : HartState) → IsTrue (settles did)
    → MovesAs w past h (freed b) d did c → MovesAs w past h b d did c
freed_moves w past h b d did c serves x = settles_same did c (MovesAs w past h b d did) serves (as_before w past h b did c d x)

pub freed_turns : (w : Setting) (past : List Event) (h : ℕ) (b : HartState) (did : Did) (c : HartState) → IsTrue (settles did)
    → Moves w past h (freed b) did c → Moves w past h b did c
freed_turns w past h b did c serves x = settles_same did c (Moves w past h b did) serves (freed_before w past h b did c x)
