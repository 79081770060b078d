-- Which turns refuse an opening: those of openings alone, which append nothing else then.
use Rattle.std.proofs.Common.{◌≡◌, inl, inr, ℕ, ◌+◌, ◌*◌, Bool, true, false, cond, List, [], ◌∷◌, ◌++◌, map, Option, Some, None, Result, Ok, Err, refl, ap, subst, ◌∙◌, append-nil}
use Rattle.std.specs.Prelude.{not, ◌&&◌, ◌||◌}
use Rattle.std.specs.List.{list_any}
use Rattle.std.specs.Option.{is_some}
use Rattle.ld_base.specs.declared.fault.DlFault.{DlFault}
use Rattle.history_event.specs.declared.event.Event.{Event}
use Rattle.history_event.specs.declared.event.Event.TheVariants as events
use Rattle.history_event.specs.declared.event.OpenAnswer.TheVariants as openings
use Rattle.history_event.specs.declared.event.OpenAsk.{OpenAsk}
use Rattle.history_event.specs.declared.handed.Function.{Function}
use Rattle.history_event.specs.declared.hart_end.HartEnd.{HartEnd}
use Rattle.rv_hart.specs.Trail.{Place, Ready, Accessing, Stopped}
use Rattle.rv_hart.specs.declared.bus.BusFault.{BusFault}
use Rattle.rv_hart.specs.declared.bus.BusFault.TheVariants.{Role as RoleFault, Misaligned, Again}
use Rattle.rv_hart.specs.declared.bus.Item.{Item}
use Rattle.rv_hart.specs.declared.bus.Item.TheVariants.{Write}
use Rattle.rv_hart.specs.declared.stepping.Stop.{Stop}
use Rattle.rv_hart.specs.declared.stepping.Stop.TheVariants as stop
use Rattle.history_state.specs.After.{after}
use Rattle.history_state.specs.Objects.{has, object_at}
use Rattle.history_state.specs.Setting.{Setting}
use Rattle.history_state.specs.State.{State}
use Rattle.history_calls.specs.Answer.{Answer, returns, loading, closing, refused, granted, told, again, over}
use Rattle.history_calls.specs.Call.{Call, opens}
use Rattle.history_calls.specs.Functions.{passed}
use Rattle.history_calls.specs.Gives.{EventAnswers, Gives, ending}
use Rattle.hart_moves.specs.Copying.{Copy}
use Rattle.hart_moves.specs.Due.{Due, Return, due}
use Rattle.hart_moves.specs.Harts.{HartState, Purpose}
use Rattle.hart_moves.specs.Moves.{Calls, Comes, CopiesBy, Did, TurnEnds, Finals, Goes, Moves, MovesAs, TurnRefuses, TurnStops, StoresBy, Takes, TellsOf, Trap, Traps, Unread, copied_item, events_of, own_fini, passing, settles, spent, stack_start, stored_to, trap_of}
use Rattle.hart_moves.specs.TurnEvents.Lemmas.Frames.{did_events}
use Rattle.world_answers.specs.GuestsPart.Counting.{is_refusal}
use Rattle.world_answers.specs.GuestsPart.Lemmas.Counting.{both_spare}

-- the events refuse no opening
abbrev pub Spare : List Event → Type 0
Spare es = list_any is_refusal es ≡ false

-- so it is of a turn; or it is an opening that was refused
pub data Refusal (past : List Event) (b : HartState) (h : ℕ) (did : Did) : Type 0 where
  spares : Spare (events_of did) → Refusal past b h did
  refuses : (ask : OpenAsk) (back : Return) (fault : DlFault) → due (after past) b ≡ Due.serve (opens ask) back → settles did ≡ true
      → events_of did ≡ events.Open h ask (openings.Refused fault) ∷ [] → Refusal past b h did

-- ---- what a call gives

data Gave (h : ℕ) (call : Call) (given : List Event) (answer : Answer) : Type 0 where
  spares : Spare given → Gave h call given answer
  refuses : (ask : OpenAsk) (fault : DlFault) → call ≡ opens ask → answer ≡ refused fault → given ≡ events.Open h ask (openings.Refused fault) ∷ []
      → Gave h call given answer

answer_gave : (h : ℕ) (call : Call) (e : Event) (answer : Answer) → EventAnswers h call e answer → Gave h call (e ∷ []) answer
answer_gave h call e answer (EventAnswers.is_loaded ask id root first rest ranges) = Gave.spares refl
answer_gave h call e answer (EventAnswers.is_there ask id root ranges) = Gave.spares refl
answer_gave h call e answer (EventAnswers.is_absent ask) = Gave.spares refl
answer_gave h call e answer (EventAnswers.is_not_opened ask fault) = Gave.refuses ask fault refl refl refl
answer_gave h call e answer (EventAnswers.dies handle first rest) = Gave.spares refl
answer_gave h call e answer (EventAnswers.stays handle) = Gave.spares refl
answer_gave h call e answer (EventAnswers.is_not_closed handle fault) = Gave.spares refl
answer_gave h call e answer (EventAnswers.is_unmapped set) = Gave.spares refl
answer_gave h call e answer (EventAnswers.is_granted owner eights slot number choice value is) = Gave.spares refl
answer_gave h call e answer (EventAnswers.is_unresolved owner eights slot is) = Gave.spares refl
answer_gave h call e answer (EventAnswers.is_not_code owner eights slot serial index is) = Gave.spares refl
answer_gave h call e answer (EventAnswers.is_found ask serial index value) = Gave.spares refl
answer_gave h call e answer (EventAnswers.is_not_found ask fault) = Gave.spares refl
answer_gave h call e answer (EventAnswers.is_told fault) = Gave.spares refl
answer_gave h call e answer (EventAnswers.is_written bytes) = Gave.spares refl

given_gave : (w : Setting) (past : List Event) (h : ℕ) (call : Call) (given : List Event) (answer : Answer) → Gives w past h call given answer
    → Gave h call given answer
given_gave w past h call given answer (Gives.by_event _ e _ answers may) = answer_gave h call e answer answers
given_gave w past h call given answer (Gives.by_first_block ask e f value finds) =
    Gave.spares (ap (λ (x : Event). is_refusal x || (is_refusal f || false)) finds.gets ∙ ap (λ (x : Event). is_refusal x || false) finds.finds)
given_gave w past h call given answer (Gives.in_new_block number offset block e gets) =
    Gave.spares (ap (λ (x : Event). is_refusal x || false) gets.is)
given_gave w past h call given answer (Gives.in_block number offset block has_it) = Gave.spares refl
given_gave w past h call given answer (Gives.to_again _ for shows) = Gave.spares refl
given_gave w past h call given answer (Gives.to_end _ reason ends) = Gave.spares refl

ending_spares : (h : ℕ) (answer : Answer) → Spare (ending h answer)
ending_spares h (over reason) = refl
ending_spares h _ = refl

-- ---- functions that have run

passing_spares : (purpose : Purpose) (h : ℕ) (objects : List ℕ) → Spare (map (passing purpose h) objects)
passing_spares purpose h [] = refl
passing_spares (Purpose.of_startup registers) h (o ∷ rest) = passing_spares (Purpose.of_startup registers) h rest
passing_spares (Purpose.of_opening to root) h (o ∷ rest) = passing_spares (Purpose.of_opening to root) h rest
passing_spares (Purpose.of_closing to set) h (o ∷ rest) = passing_spares (Purpose.of_closing to set) h rest
passing_spares (Purpose.of_end code) h (o ∷ rest) = passing_spares (Purpose.of_end code) h rest

finals_spare : (w : Setting) (h : ℕ) (past added : List Event) (next : Option Function) → Finals w h past added next → Spare added
finals_spare w h past added next (Finals.no_more _ none) = refl
finals_spare w h past added next (Finals.one_runs _ object function rest more finis addresses) = refl
finals_spare w h past added next (Finals.one_passes _ object rest behind last finis addresses may finals) =
    finals_spare w h (past ++ events.Fini h object ∷ []) behind next finals

own_spares : (s : State) (h object : ℕ) → Spare (own_fini s h object)
own_spares s h object = by (is_some (object_at s object) && not (has s.finis object))
  where
    by : (t : Bool) → Spare (cond t (events.Fini h object ∷ []) [])
    by true = refl
    by false = refl

-- ---- a turn

module _ (w : Setting) (past : List Event) (h : ℕ) (b : HartState) (did : Did) (c : HartState) where
  abbrev Spares : Type 0
  Spares = Spare (events_of did)

  did_spare : (done : Did) → did ≡ done → Spare (events_of done) → Spares
  did_spare done is spare = ap (λ (d : Did). list_any is_refusal (events_of d)) is ∙ spare

  goes : (x : HartState) (items : List Item) → Goes items x did c → Spares
  goes x items y = did_spare (Did.quiet items) y.is refl

  ends : (x : HartState) (items : List Item) (reason : HartEnd) → TurnEnds w past h x items reason did c → Spares
  ends x items reason y = did_spare (Did.serves items (events.Ended h reason ∷ [])) y.is refl

  by_trap : (items : List Item) (trap : Trap) → Traps w past h b items trap did c → Spares
  by_trap items (Trap.exits code) x = ends (spent b) items _ x
  by_trap items (Trap.gives value) x = goes _ items x
  by_trap items Trap.writes x = goes _ items x

  by_refusal : (items : List Item) (address : ℕ) (fault : BusFault) → TurnRefuses w past h b items address fault did c → Spares
  by_refusal items address (RoleFault role) x = ends (spent b) items _ x
  by_refusal items address Misaligned x = ends (spent b) items _ x
  by_refusal items address (Again shown) x = goes b items x

  by_stop : (items : List Item) (s : Stop) → TurnStops w past h b items s did c → Spares
  by_stop items stop.Ecall x = by_trap items (trap_of b.registers) x
  by_stop items stop.Break x = ends (spent b) items _ x
  by_stop items (stop.Bad word) x = ends (spent b) items _ x
  by_stop items (stop.Misaligned address) x = ends (spent b) items _ x
  by_stop items (stop.Refused address fault) x = by_refusal items address fault x

  by_place : (items : List Item) (place : Place) → Comes w past h b items place did c → Spares
  by_place items (Ready r) x = goes _ items x
  by_place items (Accessing r decoded) x = absurd x
  by_place items (Stopped r s) x = by_stop items s x

  by_unread : (items : List Item) (copy : Copy) (address : ℕ) → Unread w past h b items copy address did c → Spares
  by_unread items (Copy.of_name n) address x = ends (spent b) items _ x
  by_unread items (Copy.of_version name) address x = ends (spent b) items _ x
  by_unread items Copy.of_pair address x = ends (spent b) items _ x
  by_unread items (Copy.of_text count) address x = goes _ items x

  by_copy : (items : List Item) (copy : Copy) (start : ℕ) (bytes : List ℕ) (answer : Result ℕ BusFault)
      → CopiesBy w past h b items copy start bytes answer did c → Spares
  by_copy items copy start bytes (Ok word) x = goes _ items x
  by_copy items copy start bytes (Err (RoleFault role)) x = by_unread items copy _ x
  by_copy items copy start bytes (Err Misaligned) x = absurd x
  by_copy items copy start bytes (Err (Again shown)) x = goes b items x

  by_store : (items : List Item) (text stored : ℕ) (more : List ℕ) (answer : Result Unit BusFault)
      → StoresBy w past h b items text stored more answer did c → Spares
  by_store items text stored more (Ok done) x = goes (stored_to text stored more b) items x
  by_store items text stored more (Err (RoleFault role)) x = ends (spent b) items _ x
  by_store items text stored more (Err Misaligned) x = absurd x
  by_store items text stored more (Err (Again shown)) x = goes b items x

  by_told : (text : ℕ) (back : Return) (fault : Option DlFault) (appended : List Event) → Spare appended → TellsOf text b back fault appended did c → Spares
  by_told text back (Some fault) appended spare x = did_spare (Did.serves [] appended) x.is spare
  by_told text back None appended spare x = did_spare (Did.serves [] appended) x.is spare

  with_passed : (appended : List Event) (purpose : Purpose) (functions : List Function) → Spare appended
      → did ≡ Did.serves [] (appended ++ map (passing purpose h) (passed functions)) → Spares
  with_passed appended purpose functions spare is =
      did_spare (Did.serves [] (appended ++ map (passing purpose h) (passed functions))) is
      (both_spare appended (map (passing purpose h) (passed functions)) spare (passing_spares purpose h (passed functions)))

  by_answer : (call : Call) (back : Return) (answer : Answer) (appended : List Event) → Spare appended → Takes w past h b call back answer appended did c → Spares
  by_answer call back (returns value) appended spare x = did_spare (Did.serves [] appended) x.is spare
  by_answer call back (loading root added) appended spare x = with_passed appended (Purpose.of_opening back.to root) x.functions spare x.passes.is
  by_answer call back (closing set) appended spare x = with_passed appended (Purpose.of_closing back.to set) x.functions spare x.passes.is
  by_answer call back (refused fault) appended spare x = did_spare (Did.serves [] appended) x.is spare
  by_answer call back (granted grant) appended spare x = did_spare (Did.serves [] appended) x.is spare
  by_answer call back (told fault) appended spare x = by_told (stack_start (after past) h) back fault appended spare x
  by_answer call back (again for) appended spare x = did_spare (Did.waits for) x.is refl
  by_answer call back (over reason) appended spare x = did_spare (Did.serves [] appended) x.is spare

  -- ---- a call

  did_refuse : (call : Call) (back : Return) (fault : DlFault) (appended : List Event) → Takes w past h b call back (refused fault) appended did c
      → did ≡ Did.serves [] appended
  did_refuse call back fault appended x = x.is

  by_call : (call : Call) (back : Return) → due (after past) b ≡ Due.serve call back → Calls w past h b call back did c → Refusal past b h did
  by_call call back is x = by (given_gave w past h call x.serves.given x.answer x.serves.gives)
    where
      by : Gave h call x.serves.given x.answer → Refusal past b h did
      by (Gave.spares spare) = Refusal.spares (by_answer call back x.answer x.appended
          (ap (list_any is_refusal) x.serves.are ∙ both_spare x.serves.given (ending h x.answer) spare (ending_spares h x.answer)) x.takes)
      by (Gave.refuses ask fault opening answer given) =
          let did_is : did ≡ Did.serves [] x.appended =
          did_refuse call back fault x.appended (subst (λ (a : Answer). Takes w past h b call back a x.appended did c) answer x.takes) in
          let appended : x.appended ≡ events.Open h ask (openings.Refused fault) ∷ [] =
          x.serves.are ∙ ap (λ (a : Answer). x.serves.given ++ ending h a) answer ∙ append-nil x.serves.given ∙ given in
          Refusal.refuses ask back fault (is ∙ ap (λ (asked : Call). Due.serve asked back) opening) (ap settles did_is) (ap events_of did_is ∙ appended)

  by_due : (d : Due) → due (after past) b ≡ d → MovesAs w past h b d did c → Refusal past b h did
  by_due Due.nothing is x = absurd x
  by_due (Due.exchange o) is x = Refusal.spares (did_spare _ x.is refl)
  by_due (Due.finish o found) is x = Refusal.spares (did_spare _ x.is refl)
  by_due Due.fuel_out is x = Refusal.spares (ends b [] _ x)
  by_due Due.instruction is x = Refusal.spares (by_place x.items x.place x.comes)
  by_due (Due.copy copy start bytes) is x = Refusal.spares (by_copy (copied_item start bytes x.answer ∷ []) copy start bytes x.answer x.comes)
  by_due (Due.serve call back) is x = by_call call back is x
  by_due (Due.wait for) is x = Refusal.spares (did_spare _ x.is refl)
  by_due (Due.store text stored word more) is x = Refusal.spares (by_store (Write (text + 8 * stored) 8 word x.answer ∷ []) text stored more x.answer x.comes)
  by_due (Due.enter function frames) is x = Refusal.spares (did_spare _ x.is refl)
  by_due (Due.complete purpose object rest below) is x =
      Refusal.spares (with_passed (passing purpose h object ∷ []) purpose rest (passing_spares purpose h (object ∷ [])) x.passes.is)
  by_due (Due.finalise code object) is (inl x) =
      let own : List Event = own_fini (after past) h object in
      Refusal.spares (did_spare _ x.is (ap (list_any is_refusal) (did_events (own ++ x.events))
      ∙ both_spare own x.events (own_spares (after past) h object) (finals_spare w h (past ++ own) x.events x.next x.finals)))
  by_due (Due.finalise code object) is (inr x) = Refusal.spares (ends (spent b) [] _ x)

  pub refusal_of : Moves w past h b did c → Refusal past b h did
  refusal_of moves = by_due (due (after past) b) refl moves
