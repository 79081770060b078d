-- What a turn is: one of the hart's own, a call of the linker, or one of the functions that the linker has the hart run.
use Rattle.std.proofs.Common.{◌≡◌, inl, inr, ℕ, ◌+◌, ◌*◌, false, List, [], ◌∷◌, Option, Some, None, Result, Ok, Err, refl, ap, ◌∙◌}
use Rattle.history_event.specs.declared.event.Event.{Event}
use Rattle.history_event.specs.declared.event.Event.TheVariants.{Ended}
use Rattle.history_event.specs.declared.handed.Function.{Function}
use Rattle.history_event.specs.declared.hart_end.HartEnd.{HartEnd}
use Rattle.history_event.specs.declared.hart_end.HartEnd.TheVariants as reasons
use Rattle.rv_hart.specs.declared.bus.BusFault.{BusFault}
use Rattle.rv_hart.specs.declared.bus.BusFault.TheVariants.{Role as RoleFault, Misaligned, Again}
use Rattle.rv_hart.specs.declared.bus.Item.{Item}
use Rattle.rv_hart.specs.declared.bus.Item.TheVariants.{Write}
use Rattle.rv_hart.specs.declared.stepping.Stop.{Stop}
use Rattle.rv_hart.specs.declared.stepping.Stop.TheVariants as stop
use Rattle.rv_hart.specs.Trail.{Place, Ready, Accessing, Stopped}
use Rattle.history_state.specs.After.{after}
use Rattle.history_state.specs.Setting.{Setting}
use Rattle.history_calls.specs.Call.{Call}
use Rattle.hart_moves.specs.Copying.{Copy}
use Rattle.hart_moves.specs.Due.{Due, Return, by_phase, by_resolving, due, within_fuel}
use Rattle.hart_moves.specs.Harts.{Frame, HartState, Purpose, Resolving}
use Rattle.hart_moves.specs.Moves.{Calls, Comes, Completes, CopiesBy, Did, TurnEnds, TurnEnters, Finalises, Goes, Moves, MovesAs, TurnRefuses, TurnStops, StoresBy, Trap, Traps, Unread, copied_item, events_of, spent, stored_to, trap_of}
use Rattle.hart_moves.specs.TurnEvents.Appends.{is_of_end}
use Rattle.hart_moves.specs.TurnEvents.Lemmas.Dues.{AskedFrom, EntersFirst, HasRun, IsFrom, within_from}

pub data Kind (w : Setting) (past : List Event) (h : ℕ) (b : HartState) (did : Did) (c : HartState) : Type 0 where
  -- nothing is appended, and the hart runs on with its frames
  goes : events_of did ≡ [] → c.frames ≡ b.frames → c.«end» ≡ b.«end» → Kind w past h b did c
  -- it ends by itself
  ends : (reason : HartEnd) → events_of did ≡ Ended h reason ∷ [] → c.frames ≡ b.frames → c.«end» ≡ Some reason → Kind w past h b did c
  calls : (asked : Call) (to : Return) → AskedFrom b asked to → Calls w past h b asked to did c → Kind w past h b did c
  enters : (function : ℕ) (frames : List Frame) → EntersFirst b.frames function frames → TurnEnters function frames b did c → Kind w past h b did c
  completes : (purpose : Purpose) (object : ℕ) (rest : List Function) (below : List Frame) → is_of_end purpose ≡ false
      → HasRun b.frames purpose object rest below → Completes w past h b purpose object rest below did c → Kind w past h b did c
  finalises : (code object : ℕ) (rest : List Function) (below : List Frame) → HasRun b.frames (Purpose.of_end code) object rest below
      → Finalises w past h b code object did c → Kind w past h b did c

module _ (w : Setting) (past : List Event) (h : ℕ) (b : HartState) where
  by_goes : (x : HartState) (items : List Item) (did : Did) (c : HartState) → x.frames ≡ b.frames → x.«end» ≡ b.«end» → Goes items x did c → Kind w past h b did c
  by_goes x items did c frames runs y =
      Kind.goes (ap events_of y.is) (ap (λ (z : HartState). z.frames) y.leaves ∙ frames) (ap (λ (z : HartState). z.«end») y.leaves ∙ runs)

  by_ends : (x : HartState) (items : List Item) (reason : HartEnd) (did : Did) (c : HartState) → x.frames ≡ b.frames → TurnEnds w past h x items reason did c → Kind w past h b did c
  by_ends x items reason did c frames y =
      Kind.ends reason (ap events_of y.is) (ap (λ (z : HartState). z.frames) y.leaves ∙ frames) (ap (λ (z : HartState). z.«end») y.leaves)

  by_trap : (items : List Item) (trap : Trap) (did : Did) (c : HartState) → Traps w past h b items trap did c → Kind w past h b did c
  by_trap items (Trap.exits code) did c x = by_ends (spent b) items _ did c refl x
  by_trap items (Trap.gives value) did c x = by_goes _ items did c refl refl x
  by_trap items Trap.writes did c x = by_goes _ items did c refl refl x

  by_refusal : (items : List Item) (address : ℕ) (fault : BusFault) (did : Did) (c : HartState) → TurnRefuses w past h b items address fault did c → Kind w past h b did c
  by_refusal items address (RoleFault role) did c x = by_ends (spent b) items _ did c refl x
  by_refusal items address Misaligned did c x = by_ends (spent b) items _ did c refl x
  by_refusal items address (Again shown) did c x = by_goes b items did c refl refl x

  by_stop : (items : List Item) (s : Stop) (did : Did) (c : HartState) → TurnStops w past h b items s did c → Kind w past h b did c
  by_stop items stop.Ecall did c x = by_trap items (trap_of b.registers) did c x
  by_stop items stop.Break did c x = by_ends (spent b) items _ did c refl x
  by_stop items (stop.Bad word) did c x = by_ends (spent b) items _ did c refl x
  by_stop items (stop.Misaligned address) did c x = by_ends (spent b) items _ did c refl x
  by_stop items (stop.Refused address fault) did c x = by_refusal items address fault did c x

  by_place : (items : List Item) (place : Place) (did : Did) (c : HartState) → Comes w past h b items place did c → Kind w past h b did c
  by_place items (Ready r) did c x = by_goes _ items did c refl refl x
  by_place items (Accessing r decoded) did c x = absurd x
  by_place items (Stopped r s) did c x = by_stop items s did c x

  by_unread : (items : List Item) (copy : Copy) (address : ℕ) (did : Did) (c : HartState) → Unread w past h b items copy address did c → Kind w past h b did c
  by_unread items (Copy.of_name n) address did c x = by_ends (spent b) items _ did c refl x
  by_unread items (Copy.of_version name) address did c x = by_ends (spent b) items _ did c refl x
  by_unread items Copy.of_pair address did c x = by_ends (spent b) items _ did c refl x
  by_unread items (Copy.of_text count) address did c x = by_goes _ items did c refl refl x

  by_copy : (items : List Item) (copy : Copy) (start : ℕ) (bytes : List ℕ) (answer : Result ℕ BusFault) (did : Did) (c : HartState) → CopiesBy w past h b items copy start bytes answer did c → Kind w past h b did c
  by_copy items copy start bytes (Ok word) did c x = by_goes _ items did c refl refl x
  by_copy items copy start bytes (Err (RoleFault role)) did c x = by_unread items copy _ did c x
  by_copy items copy start bytes (Err Misaligned) did c x = absurd x
  by_copy items copy start bytes (Err (Again shown)) did c x = by_goes b items did c refl refl x

  stored_frames : (text stored : ℕ) (more : List ℕ) → (stored_to text stored more b).frames ≡ b.frames
  stored_frames text stored [] = refl
  stored_frames text stored (word ∷ more) = refl

  stored_end : (text stored : ℕ) (more : List ℕ) → (stored_to text stored more b).«end» ≡ b.«end»
  stored_end text stored [] = refl
  stored_end text stored (word ∷ more) = refl

  by_store : (items : List Item) (text stored : ℕ) (more : List ℕ) (answer : Result Unit BusFault) (did : Did) (c : HartState) → StoresBy w past h b items text stored more answer did c → Kind w past h b did c
  by_store items text stored more (Ok done) did c x = by_goes (stored_to text stored more b) items did c (stored_frames text stored more) (stored_end text stored more) x
  by_store items text stored more (Err (RoleFault role)) did c x = by_ends (spent b) items _ did c refl x
  by_store items text stored more (Err Misaligned) did c x = absurd x
  by_store items text stored more (Err (Again shown)) did c x = by_goes b items did c refl refl x

  by_due : (d : Due) (did : Did) (c : HartState) → IsFrom b d → MovesAs w past h b d did c → Kind w past h b did c
  by_due Due.nothing did c from x = absurd x
  by_due (Due.exchange o) did c from x = Kind.goes (ap events_of x.is) (ap (λ (z : HartState). z.frames) x.leaves) (ap (λ (z : HartState). z.«end») x.leaves)
  by_due (Due.finish o found) did c from x = Kind.goes (ap events_of x.is) (ap (λ (z : HartState). z.frames) x.leaves) (ap (λ (z : HartState). z.«end») x.leaves)
  by_due Due.fuel_out did c from x = by_ends b [] reasons.FuelOut did c refl x
  by_due Due.instruction did c from x = by_place x.items x.place did c x.comes
  by_due (Due.copy copy start bytes) did c from x = by_copy (copied_item start bytes x.answer ∷ []) copy start bytes x.answer did c x.comes
  by_due (Due.serve asked to) did c from x = Kind.calls asked to from x
  by_due (Due.wait for) did c from x = Kind.goes (ap events_of x.is) (ap (λ (z : HartState). z.frames) x.leaves) (ap (λ (z : HartState). z.«end») x.leaves)
  by_due (Due.store text stored word more) did c from x = by_store (Write (text + 8 * stored) 8 word x.answer ∷ []) text stored more x.answer did c x.comes
  by_due (Due.enter function frames) did c from x = Kind.enters function frames from x
  by_due (Due.complete purpose object rest below) did c from x = Kind.completes purpose object rest below from.1 from.0 x
  by_due (Due.finalise code object) did c from (inl x) = Kind.finalises code object from.0 from.1 from.2 x
  by_due (Due.finalise code object) did c from (inr x) = by_ends (spent b) [] reasons.Memory did c refl x

  by_state : (e : Option HartEnd) (r : Resolving) (did : Did) (c : HartState) → MovesAs w past h b (elim e [ Some reason ↦ Due.nothing | None ↦ by_resolving (after past) b r ]) did c → Kind w past h b did c
  by_state (Some reason) r did c x = absurd x
  by_state None Resolving.idle did c x = by_due (within_fuel b (by_phase (after past) b b.phase)) did c (within_from (after past) b) x
  by_state None (Resolving.to_exchange o) did c x = by_due (Due.exchange o) did c tt x
  by_state None (Resolving.to_finish o found) did c x = by_due (Due.finish o found) did c tt x
  by_state None (Resolving.to_settle o found) did c x = by_due (within_fuel b (by_phase (after past) b b.phase)) did c (within_from (after past) b) x

  pub kind_of : (did : Did) (c : HartState) → Moves w past h b did c → Kind w past h b did c
  unfolding due
  kind_of did c moves = by_state b.«end» b.resolving did c moves
