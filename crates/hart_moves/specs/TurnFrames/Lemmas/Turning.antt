-- What each turn makes of its hart's frames, by the kinds of turns.
use Rattle.std.proofs.Common.{◌≡◌, ◌⊎◌, inl, inr, ℕ, List, [], ◌∷◌, ◌++◌, drop, map, Option, Some, None, refl, sym, ap, subst, ◌∙◌}
use Rattle.ld_base.specs.declared.fault.DlFault.{DlFault}
use Rattle.ld_base.specs.declared.linking.Loaded.{Loaded}
use Rattle.history_event.specs.declared.event.CloseAnswer.TheVariants as closings
use Rattle.history_event.specs.declared.event.Event.{Event}
use Rattle.history_event.specs.declared.event.Event.TheVariants as events
use Rattle.history_event.specs.declared.event.OpenAnswer.TheVariants as openings
use Rattle.history_event.specs.declared.event.OpenAsk.{OpenAsk}
use Rattle.history_event.specs.declared.event.Range.{Range}
use Rattle.history_event.specs.declared.event.SymAsk.{SymAsk}
use Rattle.history_event.specs.declared.handed.Function.{Function}
use Rattle.history_state.specs.After.{after}
use Rattle.history_state.specs.Objects.{serial_of}
use Rattle.history_state.specs.Setting.{Setting}
use Rattle.history_calls.specs.Answer.{Answer, returns, loading, closing, refused, granted, told, again, over}
use Rattle.history_calls.specs.Call.{Call, resolves, opens, looks_up, closes, unmaps, asks_fault, locates, writes, stops}
use Rattle.history_calls.specs.Functions.{AreConstructors, AreDestructors, left, passed}
use Rattle.history_calls.specs.Gives.{EventAnswers, Gives, Serves, ending}
use Rattle.history_calls.specs.Served.{answer_text}
use Rattle.hart_moves.specs.Copying.{text_words}
use Rattle.hart_moves.specs.Due.{Return}
use Rattle.hart_moves.specs.Harts.{Frame, HartState, Purpose}
use Rattle.hart_moves.specs.Moves.{Did, Finalises, Finals, Takes, TellsOf, after_all, events_of, final_functions, freed, freed_by, own_fini, passing, runs, spent, telling, with_first}
use Rattle.hart_moves.specs.Registers.{returned}
use Rattle.hart_moves.specs.TurnEvents.Lemmas.Dues.{AskedFrom, HasRun}
use Rattle.hart_moves.specs.TurnEvents.Lemmas.Frames.{did_events, telling_frames}
use Rattle.hart_moves.specs.TurnEvents.Lemmas.Kinds.{Kind, kind_of}
use Rattle.hart_moves.specs.TurnFrames.Leaves.{AreFrames, FirstIsEntered, LeavesFrames, NoneTouchesFrames, TurnsLeaveFrames}

-- ---- functions that are run

first_frames : (purpose : Purpose) (object : ℕ) (addresses : List ℕ) (rest : List Function) (below : List Frame) (b : HartState)
    → (with_first purpose object addresses rest below b).frames ≡ record { purpose = purpose; queue = record { object = object; addresses = drop 1 addresses } ∷ rest } ∷ below
first_frames purpose object [] rest below b = refl
first_frames purpose object (function ∷ more) rest below b = refl

all_frames : (purpose : Purpose) (below : List Frame) (b : HartState) → AreFrames purpose [] below (after_all purpose below b).frames
all_frames (Purpose.of_startup registers) below b = refl
all_frames (Purpose.of_opening to root) below b = refl
all_frames (Purpose.of_closing to set) below b = refl
all_frames (Purpose.of_end code) below b = refl

pub runs_frames : (purpose : Purpose) (functions : List Function) (below : List Frame) (b : HartState) → AreFrames purpose functions below (runs purpose functions below b).frames
runs_frames purpose [] below b = all_frames purpose below b
runs_frames purpose (f ∷ rest) below b = first_frames purpose f.object f.addresses rest below b

-- the first of them has a function
abbrev HasFirst : List Function → Type 0
HasFirst [] = Unit {0}
HasFirst (f ∷ rest) = (address : ℕ) × (more : List ℕ) × (f.addresses ≡ address ∷ more)

left_first : (functions : List Function) → HasFirst (left functions)
left_first [] = tt
left_first (f ∷ rest) = by (left_first rest) f.addresses refl
  where
    by : HasFirst (left rest) → (addresses : List ℕ) → f.addresses ≡ addresses → HasFirst (elim addresses [ [] ↦ left rest | a ∷ more ↦ f ∷ rest ])
    by behind [] are = behind
    by behind (address ∷ more) are = (address, more, are)

final_first : (w : Setting) (h : ℕ) (past behind : List Event) (next : Option Function) → Finals w h past behind next → HasFirst (final_functions next)
final_first w h past _ _ (Finals.no_more _ none) = tt
final_first w h past _ _ (Finals.one_runs _ object function rest more next are) = (function, more, refl)
final_first w h past _ next (Finals.one_passes _ object rest behind _ first are may more) = final_first w h (past ++ events.Fini h object ∷ []) behind next more

runs_entered : (purpose : Purpose) (functions : List Function) (below : List Frame) (b c : HartState) → HasFirst functions → c ≡ spent (runs purpose functions below b) → FirstIsEntered functions c
runs_entered purpose [] below b c has leaves = tt
runs_entered purpose (f ∷ rest) below b c (address, more, are) leaves = (
  address,
  more,
  are,
  ap (λ (z : HartState). z.registers.pc) leaves ∙ ap (λ (addresses : List ℕ). (with_first purpose f.object addresses rest below b).registers.pc) are,
)

-- ---- what a call appends

record IsLoading (h : ℕ) (call : Call) (given : List Event) (root : ℕ) (added : List Loaded) : Type 0 where
  pub ask : OpenAsk
  pub id : ℕ
  pub first : Loaded
  pub rest : List Loaded
  pub ranges : List Range
  pub asked : call ≡ opens ask
  pub are : added ≡ first ∷ rest
  pub is : given ≡ events.Open h ask (openings.Done id root (first ∷ rest) ranges) ∷ []

record IsClosing (h : ℕ) (call : Call) (given : List Event) (set : List ℕ) : Type 0 where
  pub handle : ℕ
  pub first : ℕ
  pub rest : List ℕ
  pub asked : call ≡ closes handle
  pub are : set ≡ first ∷ rest
  pub is : given ≡ events.Close h handle (closings.Done (first ∷ rest)) ∷ []

-- other answers leave what is to be run
record IsOther (call : Call) (given : List Event) : Type 0 where
  pub touches_none : NoneTouchesFrames given
  pub not_unmaps : (set : List ℕ) → call ≡ unmaps set → ⊥

abbrev ComesTo : ℕ → Call → List Event → Answer → Type 0
ComesTo h call given (returns value) = IsOther call given ⊎ ((set : List ℕ) × (call ≡ unmaps set) × (value ≡ 0) × (given ≡ events.Unmapped h set ∷ []))
ComesTo h call given (loading root added) = IsLoading h call given root added
ComesTo h call given (closing set) = IsClosing h call given set
ComesTo h call given (refused fault) = IsOther call given
ComesTo h call given (granted g) = NoneTouchesFrames given
ComesTo h call given (told fault) = IsOther call given
ComesTo h call given (again for) = NoneTouchesFrames given
ComesTo h call given (over reason) = NoneTouchesFrames given

no_open : (ask : OpenAsk) (set : List ℕ) → opens ask ≡ unmaps set → ⊥
no_open ask set e = let no : opens ask ≡ unmaps set = e in cc

no_look : (ask : SymAsk) (set : List ℕ) → looks_up ask ≡ unmaps set → ⊥
no_look ask set e = let no : looks_up ask ≡ unmaps set = e in cc

no_close : (handle : ℕ) (set : List ℕ) → closes handle ≡ unmaps set → ⊥
no_close handle set e = let no : closes handle ≡ unmaps set = e in cc

no_fault : (set : List ℕ) → asks_fault ≡ unmaps set → ⊥
no_fault set e = let no : asks_fault ≡ unmaps set = e in cc

no_write : (bytes set : List ℕ) → writes bytes ≡ unmaps set → ⊥
no_write bytes set e = let no : writes bytes ≡ unmaps set = e in cc

no_locate : (number offset : ℕ) (set : List ℕ) → locates number offset ≡ unmaps set → ⊥
no_locate number offset set e = let no : locates number offset ≡ unmaps set = e in cc

answer_comes : (h : ℕ) (call : Call) (e : Event) (answer : Answer) → EventAnswers h call e answer → ComesTo h call (e ∷ ending h answer) answer
answer_comes h call e answer (EventAnswers.is_loaded ask id root first rest ranges) = record { ask = ask; id = id; first = first; rest = rest; ranges = ranges; asked = refl; are = refl; is = refl }
answer_comes h call e answer (EventAnswers.is_there ask id root ranges) = inl (record { touches_none = (refl, tt); not_unmaps = no_open ask })
answer_comes h call e answer (EventAnswers.is_absent ask) = inl (record { touches_none = (refl, tt); not_unmaps = no_open ask })
answer_comes h call e answer (EventAnswers.is_not_opened ask fault) = record { touches_none = (refl, tt); not_unmaps = no_open ask }
answer_comes h call e answer (EventAnswers.dies handle first rest) = record { handle = handle; first = first; rest = rest; asked = refl; are = refl; is = refl }
answer_comes h call e answer (EventAnswers.stays handle) = inl (record { touches_none = (refl, tt); not_unmaps = no_close handle })
answer_comes h call e answer (EventAnswers.is_not_closed handle fault) = record { touches_none = (refl, tt); not_unmaps = no_close handle }
answer_comes h call e answer (EventAnswers.is_unmapped set) = inr (set, refl, refl, refl)
answer_comes h call e answer (EventAnswers.is_granted owner eights slot number choice value is) = (refl, tt)
answer_comes h call e answer (EventAnswers.is_unresolved owner eights slot is) = (refl, (refl, tt))
answer_comes h call e answer (EventAnswers.is_not_code owner eights slot serial index is) = (refl, (refl, tt))
answer_comes h call e answer (EventAnswers.is_found ask serial index value) = inl (record { touches_none = (refl, tt); not_unmaps = no_look ask })
answer_comes h call e answer (EventAnswers.is_not_found ask fault) = record { touches_none = (refl, tt); not_unmaps = no_look ask }
answer_comes h call e answer (EventAnswers.is_told fault) = record { touches_none = (refl, tt); not_unmaps = no_fault }
answer_comes h call e answer (EventAnswers.is_written bytes) = inl (record { touches_none = (refl, tt); not_unmaps = no_write bytes })

given_comes : (w : Setting) (past : List Event) (h : ℕ) (call : Call) (given : List Event) (answer : Answer) → Gives w past h call given answer → ComesTo h call (given ++ ending h answer) answer
given_comes w past h call given answer (Gives.by_event _ e _ answers may) = answer_comes h call e answer answers
given_comes w past h call given answer (Gives.by_first_block ask e f value finds) = inl (record {
  touches_none = subst (λ (x : Event). NoneTouchesFrames (x ∷ f ∷ [])) (sym finds.gets) (subst (λ (x : Event). NoneTouchesFrames (events.Tls h finds.serial finds.block ∷ x ∷ [])) (sym finds.finds) (refl, (refl, tt)));
  not_unmaps = no_look ask;
})
given_comes w past h call given answer (Gives.in_new_block number offset block e gets) =
    inl (record { touches_none = subst (λ (x : Event). NoneTouchesFrames (x ∷ [])) (sym gets.is) (refl, tt); not_unmaps = no_locate number offset })
given_comes w past h call given answer (Gives.in_block number offset block has) = inl (record { touches_none = tt; not_unmaps = no_locate number offset })
given_comes w past h call given answer (Gives.to_again _ for shows) = tt
given_comes w past h call given answer (Gives.to_end _ reason ends) = (refl, tt)

serves_comes : (w : Setting) (past : List Event) (h : ℕ) (call : Call) (appended : List Event) (answer : Answer) → Serves w past h call appended answer → ComesTo h call appended answer
serves_comes w past h call appended answer serves =
    subst (λ (es : List Event). ComesTo h call es answer) (sym serves.are) (given_comes w past h call serves.given answer serves.gives)

-- a call that isn't an unmapping returns to the hart's frames
to_same : (b : HartState) (call : Call) (to : Return) → ((set : List ℕ) → call ≡ unmaps set → ⊥) → AskedFrom b call to → to.frames ≡ b.frames
to_same b (resolves owner eights) to not_so from = from
to_same b (opens ask) to not_so from = from.1
to_same b (looks_up ask) to not_so from = from
to_same b (closes handle) to not_so from = from.1
to_same b (unmaps set) to not_so from = absurd (not_so set refl)
to_same b asks_fault to not_so from = from
to_same b (locates number offset) to not_so from = from
to_same b (writes bytes) to not_so from = from
to_same b (stops reason) to not_so from = from

-- ---- a turn

module _ (w : Setting) (past : List Event) (h : ℕ) (b : HartState) where
  by_touching_none : (x : HartState) (added : List Event) (did : Did) (c : HartState) → x.frames ≡ b.frames → NoneTouchesFrames added → events_of did ≡ added → c ≡ x → LeavesFrames w past h b did c
  by_touching_none x added did c same none are leaves = LeavesFrames.stays (subst NoneTouchesFrames (sym are) none) (ap (λ (y : HartState). y.frames) leaves ∙ same)

  by_telling : (text : ℕ) (to : Return) (fault : Option DlFault) (appended : List Event) (did : Did) (c : HartState) → to.frames ≡ b.frames → NoneTouchesFrames appended → TellsOf text b to fault appended did c → LeavesFrames w past h b did c
  by_telling text to (Some fault) appended did c same none x =
      by_touching_none (spent (telling text (text_words (answer_text fault)) (freed b))) appended did c (telling_frames text (text_words (answer_text fault)) (freed b)) none (ap events_of x.is) x.leaves
  by_telling text to None appended did c same none x = by_touching_none _ appended did c same none (ap events_of x.is) x.leaves

  by_answer : (asked : Call) (to : Return) (answer : Answer) (appended : List Event) (did : Did) (c : HartState) → AskedFrom b asked to → ComesTo h asked appended answer → Takes w past h b asked to answer appended did c
      → LeavesFrames w past h b did c
  by_answer asked to (returns value) appended did c from (inl other) x = by_touching_none _ appended did c (to_same b asked to other.not_unmaps from) other.touches_none (ap events_of x.is) x.leaves
  by_answer asked to (returns value) appended did c from (inr (set, is, none, are)) x =
      let at = subst (λ (call : Call). AskedFrom b call to) is from in
      LeavesFrames.unmaps to.to set to.frames at (ap events_of x.is ∙ are) (ap (λ (z : HartState). z.frames) x.leaves)
      (ap (λ (z : HartState). z.registers) x.leaves ∙ ap (λ (v : ℕ). returned to.to v b.registers) none)
  by_answer asked to (loading root added) appended did c from it x =
      let same : to.frames ≡ b.frames = to_same b asked to (λ set e. no_open it.ask set (sym it.asked ∙ e)) from in
      LeavesFrames.loads to.to root it.id it.ask it.first it.rest it.ranges x.functions
      (subst (λ (es : List Event). AreConstructors (after (past ++ es)) (map serial_of (it.first ∷ it.rest)) x.functions) it.is (subst (λ (os : List Loaded). AreConstructors (after (past ++ appended)) (map serial_of os) x.functions) it.are x.are))
      (ap events_of x.passes.is ∙ ap (λ (es : List Event). es ++ map (passing (Purpose.of_opening to.to root) h) (passed x.functions)) it.is)
      (subst (λ (fs : List Frame). AreFrames (Purpose.of_opening to.to root) (left x.functions) fs c.frames) same
      (subst (λ (fs : List Frame). AreFrames (Purpose.of_opening to.to root) (left x.functions) to.frames fs) (sym (ap (λ (z : HartState). z.frames) x.passes.leaves))
      (runs_frames (Purpose.of_opening to.to root) (left x.functions) to.frames (freed b))))
      (subst (λ (call : Call). AskedFrom b call to) it.asked from).0
      (runs_entered (Purpose.of_opening to.to root) (left x.functions) to.frames (freed b) c (left_first x.functions) x.passes.leaves)
  by_answer asked to (closing set) appended did c from it x =
      let same : to.frames ≡ b.frames = to_same b asked to (λ other e. no_close it.handle other (sym it.asked ∙ e)) from in
      LeavesFrames.dies to.to it.handle it.first it.rest x.functions
      (subst (λ (es : List Event). AreDestructors (after (past ++ es)) (it.first ∷ it.rest) x.functions) it.is (subst (λ (os : List ℕ). AreDestructors (after (past ++ appended)) os x.functions) it.are x.are))
      (ap events_of x.passes.is ∙ ap (λ (es : List Event). es ++ map (passing (Purpose.of_closing to.to set) h) (passed x.functions)) it.is
      ∙ ap (λ (os : List ℕ). events.Close h it.handle (closings.Done (it.first ∷ it.rest)) ∷ map (passing (Purpose.of_closing to.to os) h) (passed x.functions)) it.are)
      (subst (λ (os : List ℕ). AreFrames (Purpose.of_closing to.to os) (left x.functions) b.frames c.frames) it.are
      (subst (λ (fs : List Frame). AreFrames (Purpose.of_closing to.to set) (left x.functions) fs c.frames) same
      (subst (λ (fs : List Frame). AreFrames (Purpose.of_closing to.to set) (left x.functions) to.frames fs) (sym (ap (λ (z : HartState). z.frames) x.passes.leaves))
      (runs_frames (Purpose.of_closing to.to set) (left x.functions) to.frames (freed b)))))
      (subst (λ (call : Call). AskedFrom b call to) it.asked from).0
      (runs_entered (Purpose.of_closing to.to set) (left x.functions) to.frames (freed b) c (left_first x.functions) x.passes.leaves)
  by_answer asked to (refused fault) appended did c from other x = by_touching_none _ appended did c (to_same b asked to other.not_unmaps from) other.touches_none (ap events_of x.is) x.leaves
  by_answer asked to (granted g) appended did c from none x = by_touching_none _ appended did c refl none (ap events_of x.is) x.leaves
  by_answer asked to (told fault) appended did c from other x = by_telling _ to fault appended did c (to_same b asked to other.not_unmaps from) other.touches_none x
  by_answer asked to (again for) appended did c from none x = by_touching_none _ [] did c refl tt (ap events_of x.is) x.leaves
  by_answer asked to (over reason) appended did c from none x = by_touching_none _ appended did c refl none (ap events_of x.is) x.leaves

  by_finalising : (code object : ℕ) (rest : List Function) (below : List Frame) (did : Did) (c : HartState) → HasRun b.frames (Purpose.of_end code) object rest below → Finalises w past h b code object did c → LeavesFrames w past h b did c
  by_finalising code object rest below did c from x =
      LeavesFrames.finalises code from.function rest below x.events x.next from.before
      (subst (λ (o : ℕ). Finals w h (past ++ own_fini (after past) h o) x.events x.next) (sym from.is) x.finals)
      (ap events_of x.is ∙ did_events (own_fini (after past) h object ++ x.events) ∙ ap (λ (o : ℕ). own_fini (after past) h o ++ x.events) (sym from.is))
      (subst (λ (fs : List Frame). AreFrames (Purpose.of_end code) (final_functions x.next) [] fs) (sym (ap (λ (z : HartState). z.frames) x.leaves))
      (runs_frames (Purpose.of_end code) (final_functions x.next) [] (freed_by (own_fini (after past) h object ++ x.events) b)))
      (runs_entered (Purpose.of_end code) (final_functions x.next) [] (freed_by (own_fini (after past) h object ++ x.events) b) c
      (final_first w h (past ++ own_fini (after past) h object) x.events x.next x.finals) x.leaves)

  by_kind : (did : Did) (c : HartState) → Kind w past h b did c → LeavesFrames w past h b did c
  by_kind did c (Kind.goes none frames runs_on) = LeavesFrames.stays (subst NoneTouchesFrames (sym none) tt) frames
  by_kind did c (Kind.ends reason is frames ended) = LeavesFrames.stays (subst NoneTouchesFrames (sym is) (refl, tt)) frames
  by_kind did c (Kind.calls asked to from x) = by_answer asked to x.answer x.appended did c from (serves_comes w past h asked x.appended x.answer x.serves) x.takes
  by_kind did c (Kind.enters function frames from x) =
      LeavesFrames.enters from.purpose from.function function from.more from.rest from.below from.before from.next (ap events_of x.is)
      (ap (λ (z : HartState). z.registers.pc) x.leaves) (ap (λ (z : HartState). z.frames) x.leaves ∙ from.after)
  by_kind did c (Kind.completes purpose object rest below not_end from x) =
      LeavesFrames.completes purpose from.function rest below not_end from.before
      (ap events_of x.passes.is ∙ ap (λ (o : ℕ). passing purpose h o ∷ map (passing purpose h) (passed rest)) (sym from.is))
      (subst (λ (fs : List Frame). AreFrames purpose (left rest) below fs) (sym (ap (λ (z : HartState). z.frames) x.passes.leaves)) (runs_frames purpose (left rest) below (freed b)))
      (runs_entered purpose (left rest) below (freed b) c (left_first rest) x.passes.leaves)
  by_kind did c (Kind.finalises code object rest below from x) = by_finalising code object rest below did c from x

pub turns_leave_frames : TurnsLeaveFrames
turns_leave_frames w past h b c did moves = by_kind w past h b did c (kind_of w past h b did c moves)
