-- What each turn appends, by the kinds of turns.
use Rattle.std.proofs.Common.{◌≡◌, ◌⊎◌, inl, inr, ⊎_elim, ℕ, Bool, true, false, cond, List, [], ◌∷◌, ◌++◌, map, Option, Some, None, refl, sym, ap, subst, ◌∙◌}
use Rattle.std.specs.Prelude.{not, ◌&&◌, ◌||◌}
use Rattle.std.specs.Option.{is_some}
use Rattle.std.proofs.lemmas.Bool.{true≢false}
use Rattle.std.proofs.lemmas.List.{append-nil, append_assoc}
use Rattle.ld_base.specs.declared.fault.DlFault.{DlFault}
use Rattle.history_event.specs.declared.event.Event.{Event}
use Rattle.history_event.specs.declared.event.Event.TheVariants as events
use Rattle.history_event.specs.declared.handed.Function.{Function}
use Rattle.history_event.specs.declared.hart_end.HartEnd.{HartEnd}
use Rattle.history_event.specs.declared.hart_end.HartEnd.TheVariants.{Exit}
use Rattle.history_state.specs.After.{after}
use Rattle.history_state.specs.Objects.{has, object_at}
use Rattle.history_state.specs.Setting.{Setting}
use Rattle.history_state.specs.State.{State}
use Rattle.history_calls.specs.Answer.{Answer, returns, loading, closing, refused, granted, told, again, over}
use Rattle.history_calls.specs.Call.{Call}
use Rattle.history_calls.specs.Functions.{left, passed}
use Rattle.history_calls.specs.Gives.{EventAnswers, Gives, Serves, ending}
use Rattle.history_calls.specs.Served.{answer_text}
use Rattle.hart_moves.specs.Copying.{text_words}
use Rattle.hart_moves.specs.Due.{Return}
use Rattle.hart_moves.specs.Harts.{Frame, HartState, Purpose}
use Rattle.hart_moves.specs.Moves.{Did, Finalises, Finals, Moves, Passes, Takes, TellsOf, all_finis, did_by, events_of, final_functions, freed, freed_by, own_fini, passing, runs, spent, telling}
use Rattle.hart_moves.specs.TurnEvents.Appends.{Appends, NoneEndsOrUnmaps, has_finals, is_of_end}
use Rattle.hart_moves.specs.TurnEvents.Laws.{FinalsStay, FinalsStayAway, TurnsAppend}
use Rattle.hart_moves.specs.TurnEvents.Lemmas.Dues.{EntersFirst, HasRun}
use Rattle.hart_moves.specs.TurnEvents.Lemmas.Frames.{asked_some, did_events, first_end, first_some, runs_end, runs_some, telling_end, telling_frames}
use Rattle.hart_moves.specs.TurnEvents.Lemmas.Kinds.{Kind, kind_of}

-- ---- events that neither unmap nor end

both_spare : (one other : List Event) → NoneEndsOrUnmaps one → NoneEndsOrUnmaps other → NoneEndsOrUnmaps (one ++ other)
both_spare [] other a b = b
both_spare (e ∷ rest) other a b = (a.0, both_spare rest other a.1 b)

passings_spare : (purpose : Purpose) (h : ℕ) (objects : List ℕ) → NoneEndsOrUnmaps (map (passing purpose h) objects)
passings_spare purpose h [] = tt
passings_spare (Purpose.of_startup registers) h (o ∷ rest) = (refl, passings_spare (Purpose.of_startup registers) h rest)
passings_spare (Purpose.of_opening to root) h (o ∷ rest) = (refl, passings_spare (Purpose.of_opening to root) h rest)
passings_spare (Purpose.of_closing to set) h (o ∷ rest) = (refl, passings_spare (Purpose.of_closing to set) h rest)
passings_spare (Purpose.of_end code) h (o ∷ rest) = (refl, passings_spare (Purpose.of_end code) h rest)

finals_spare : (w : Setting) (h : ℕ) (past added : List Event) (next : Option Function) → Finals w h past added next → NoneEndsOrUnmaps added
finals_spare w h past added next (Finals.no_more _ none) = tt
finals_spare w h past added next (Finals.one_runs _ object function rest more finis addresses) = tt
finals_spare w h past added next (Finals.one_passes _ object rest behind last finis addresses may finals) = (refl, finals_spare w h (past ++ events.Fini h object ∷ []) behind next finals)

own_spares : (s : State) (h object : ℕ) → NoneEndsOrUnmaps (own_fini s h object)
own_spares s h object = by (is_some (object_at s object) && not (has s.finis object))
  where
    by : (t : Bool) → NoneEndsOrUnmaps (cond t (events.Fini h object ∷ []) [])
    by true = (refl, tt)
    by false = tt

-- where no object comes next, none is left
none_is_left : (w : Setting) (h : ℕ) (past added : List Event) (next : Option Function) → next ≡ None → Finals w h past added next → all_finis (after (past ++ added)) ≡ []
none_is_left w h past added next is (Finals.no_more _ none) = ap (λ (es : List Event). all_finis (after es)) (append-nil past) ∙ none
none_is_left w h past added next is (Finals.one_runs _ object function rest more finis addresses) = absurd (let no : Some (record { object = object; addresses = function ∷ more }) ≡ None = is in cc)
none_is_left w h past added next is (Finals.one_passes _ object rest behind last finis addresses may finals) =
    ap (λ (es : List Event). all_finis (after es)) (sym (append_assoc past (events.Fini h object ∷ []) behind)) ∙ none_is_left w h (past ++ events.Fini h object ∷ []) behind next is finals

-- ---- what a call appends

-- it unmaps objects, or spares them
data Gone (h : ℕ) (given : List Event) : Type 0 where
  nothing_goes : NoneEndsOrUnmaps given → Gone h given
  objects_go : (set : List ℕ) → given ≡ events.Unmapped h set ∷ [] → Gone h given

record EndsIn (h : ℕ) (given : List Event) (reason : HartEnd) : Type 0 where
  pub front : List Event
  pub spares : NoneEndsOrUnmaps front
  pub is : given ≡ front ++ events.Ended h reason ∷ []

abbrev ComesTo : ℕ → List Event → Answer → Type 0
ComesTo h given (returns value) = Gone h given
ComesTo h given (loading root added) = NoneEndsOrUnmaps given
ComesTo h given (closing set) = NoneEndsOrUnmaps given
ComesTo h given (refused fault) = NoneEndsOrUnmaps given
ComesTo h given (granted g) = NoneEndsOrUnmaps given
ComesTo h given (told fault) = NoneEndsOrUnmaps given
ComesTo h given (again for) = NoneEndsOrUnmaps given
ComesTo h given (over reason) = EndsIn h given reason

answer_comes : (h : ℕ) (call : Call) (e : Event) (answer : Answer) → EventAnswers h call e answer → ComesTo h (e ∷ ending h answer) answer
answer_comes h call e answer (EventAnswers.is_loaded ask id root first rest ranges) = (refl, tt)
answer_comes h call e answer (EventAnswers.is_there ask id root ranges) = Gone.nothing_goes (refl, tt)
answer_comes h call e answer (EventAnswers.is_absent ask) = Gone.nothing_goes (refl, tt)
answer_comes h call e answer (EventAnswers.is_not_opened ask fault) = (refl, tt)
answer_comes h call e answer (EventAnswers.dies handle first rest) = (refl, tt)
answer_comes h call e answer (EventAnswers.stays handle) = Gone.nothing_goes (refl, tt)
answer_comes h call e answer (EventAnswers.is_not_closed handle fault) = (refl, tt)
answer_comes h call e answer (EventAnswers.is_unmapped set) = Gone.objects_go set refl
answer_comes h call e answer (EventAnswers.is_granted owner eights slot number choice value is) = (refl, tt)
answer_comes h call e answer (EventAnswers.is_unresolved owner eights slot is) = record { front = e ∷ []; spares = (refl, tt); is = refl }
answer_comes h call e answer (EventAnswers.is_not_code owner eights slot serial index is) = record { front = e ∷ []; spares = (refl, tt); is = refl }
answer_comes h call e answer (EventAnswers.is_found ask serial index value) = Gone.nothing_goes (refl, tt)
answer_comes h call e answer (EventAnswers.is_not_found ask fault) = (refl, tt)
answer_comes h call e answer (EventAnswers.is_told fault) = (refl, tt)
answer_comes h call e answer (EventAnswers.is_written bytes) = Gone.nothing_goes (refl, tt)

given_comes : (w : Setting) (past : List Event) (h : ℕ) (call : Call) (given : List Event) (answer : Answer) → Gives w past h call given answer → ComesTo h (given ++ ending h answer) answer
given_comes w past h call given answer (Gives.by_event _ e _ answers may) = answer_comes h call e answer answers
given_comes w past h call given answer (Gives.by_first_block ask e f value finds) =
    Gone.nothing_goes (subst (λ (x : Event). NoneEndsOrUnmaps (x ∷ f ∷ [])) (sym finds.gets) (subst (λ (x : Event). NoneEndsOrUnmaps (events.Tls h finds.serial finds.block ∷ x ∷ [])) (sym finds.finds) (refl, (refl, tt))))
given_comes w past h call given answer (Gives.in_new_block number offset block e gets) = Gone.nothing_goes (subst (λ (x : Event). NoneEndsOrUnmaps (x ∷ [])) (sym gets.is) (refl, tt))
given_comes w past h call given answer (Gives.in_block number offset block has_it) = Gone.nothing_goes tt
given_comes w past h call given answer (Gives.to_again _ for shows) = tt
given_comes w past h call given answer (Gives.to_end _ reason ends) = record { front = []; spares = tt; is = refl }

serves_comes : (w : Setting) (past : List Event) (h : ℕ) (call : Call) (appended : List Event) (answer : Answer) → Serves w past h call appended answer → ComesTo h appended answer
serves_comes w past h call appended answer serves =
    subst (λ (es : List Event). ComesTo h es answer) (sym serves.are) (given_comes w past h call serves.given answer serves.gives)

-- ---- a turn

-- the hart has final frames where it had some, but that it ends with the last of them
abbrev KeepsFinals : HartState → HartState → Type 0
KeepsFinals b c = (has_finals c.frames ≡ has_finals b.frames) ⊎ ((has_finals b.frames ≡ true) × (code : ℕ) × (c.«end» ≡ Some (Exit code)))

record Leaves (past : List Event) (h : ℕ) (b : HartState) (did : Did) (c : HartState) : Type 0 where
  pub appends : Appends past h b did c
  pub finals : KeepsFinals b c

module _ (w : Setting) (past : List Event) (h : ℕ) (b : HartState) where
  -- events that spare all, behind which the hart is another that runs on
  by_sparing : (x : HartState) (added : List Event) (did : Did) (c : HartState) → x.«end» ≡ b.«end» → has_finals x.frames ≡ has_finals b.frames → NoneEndsOrUnmaps added → events_of did ≡ added → c ≡ x → Leaves past h b did c
  by_sparing x added did c runs_on same spares are leaves = record {
    appends = Appends.no_end (subst NoneEndsOrUnmaps (sym are) spares) (ap (λ (y : HartState). y.«end») leaves ∙ runs_on);
    finals = inl (ap (λ (y : HartState). has_finals y.frames) leaves ∙ same);
  }

  by_passing : (purpose : Purpose) (before : List Event) (functions : List Function) (below : List Frame) (did : Did) (c : HartState) → is_of_end purpose ≡ false → has_finals below ≡ has_finals b.frames → NoneEndsOrUnmaps before
      → Passes w past h b purpose before functions below did c → Leaves past h b did c
  by_passing purpose before functions below did c not_end same spares x =
      by_sparing (spent (runs purpose (left functions) below (freed b))) (before ++ map (passing purpose h) (passed functions)) did c
      (runs_end purpose (left functions) below (freed b) not_end)
      (runs_some is_of_end purpose (left functions) below (freed b) not_end ∙ same)
      (both_spare before (map (passing purpose h) (passed functions)) spares (passings_spare purpose h (passed functions)))
      (ap events_of x.is) x.leaves

  by_gone : (x : HartState) (added : List Event) (did : Did) (c : HartState) → x.«end» ≡ b.«end» → has_finals x.frames ≡ has_finals b.frames → Gone h added → did ≡ Did.serves [] added → c ≡ x → Leaves past h b did c
  by_gone x added did c runs_on same (Gone.nothing_goes spares) is leaves = by_sparing x added did c runs_on same spares (ap events_of is) leaves
  by_gone x added did c runs_on same (Gone.objects_go set one) is leaves = record {
    appends = Appends.unmapping set (ap events_of is ∙ one) (ap (λ (y : HartState). y.«end») leaves ∙ runs_on);
    finals = inl (ap (λ (y : HartState). has_finals y.frames) leaves ∙ same);
  }

  by_telling : (text : ℕ) (to : Return) (fault : Option DlFault) (appended : List Event) (did : Did) (c : HartState) → has_finals to.frames ≡ has_finals b.frames → NoneEndsOrUnmaps appended
      → TellsOf text b to fault appended did c → Leaves past h b did c
  by_telling text to (Some fault) appended did c same spares x =
      by_sparing (spent (telling text (text_words (answer_text fault)) (freed b))) appended did c (telling_end text (text_words (answer_text fault)) (freed b))
      (ap has_finals (telling_frames text (text_words (answer_text fault)) (freed b))) spares (ap events_of x.is) x.leaves
  by_telling text to None appended did c same spares x = by_sparing _ appended did c refl same spares (ap events_of x.is) x.leaves

  by_answer : (asked : Call) (to : Return) (answer : Answer) (appended : List Event) (did : Did) (c : HartState) → has_finals to.frames ≡ has_finals b.frames → ComesTo h appended answer
      → Takes w past h b asked to answer appended did c → Leaves past h b did c
  by_answer asked to (returns value) appended did c same comes x = by_gone _ appended did c refl same comes x.is x.leaves
  by_answer asked to (loading root added) appended did c same comes x = by_passing (Purpose.of_opening to.to root) appended x.functions to.frames did c refl same comes x.passes
  by_answer asked to (closing set) appended did c same comes x = by_passing (Purpose.of_closing to.to set) appended x.functions to.frames did c refl same comes x.passes
  by_answer asked to (refused fault) appended did c same comes x = by_sparing _ appended did c refl same comes (ap events_of x.is) x.leaves
  by_answer asked to (granted g) appended did c same comes x = by_sparing _ appended did c refl refl comes (ap events_of x.is) x.leaves
  by_answer asked to (told fault) appended did c same comes x = by_telling _ to fault appended did c same comes x
  by_answer asked to (again for) appended did c same comes x = by_sparing _ [] did c refl refl tt (ap events_of x.is) x.leaves
  by_answer asked to (over reason) appended did c same comes x = record {
    appends = Appends.an_end comes.front reason comes.spares (ap events_of x.is ∙ comes.is) (ap (λ (z : HartState). z.«end») x.leaves);
    finals = inl (ap (λ (z : HartState). has_finals z.frames) x.leaves);
  }

  entered_finals : (old new : List Frame) (function : ℕ) → EntersFirst old function new → has_finals new ≡ has_finals old
  entered_finals old new function from = ap has_finals from.after ∙ sym (ap has_finals from.before)

  below_finals : (purpose : Purpose) (object : ℕ) (rest : List Function) (below : List Frame) → is_of_end purpose ≡ false → HasRun b.frames purpose object rest below → has_finals below ≡ has_finals b.frames
  below_finals purpose object rest below not_end from =
      let here : has_finals (record { purpose = purpose; queue = from.function ∷ rest } ∷ below) ≡ has_finals below = ap (λ (t : Bool). t || has_finals below) not_end in
      sym here ∙ sym (ap has_finals from.before)

  freed_end : (added : List Event) → (freed_by added b).«end» ≡ b.«end»
  freed_end [] = refl
  freed_end (e ∷ rest) = refl

  by_finals : (code : ℕ) (added : List Event) (next : Option Function) (did : Did) (c : HartState) → NoneEndsOrUnmaps added → has_finals b.frames ≡ true → (next ≡ None → all_finis (after (past ++ added)) ≡ []) → did ≡ did_by added
      → c ≡ spent (runs (Purpose.of_end code) (final_functions next) [] (freed_by added b)) → Leaves past h b did c
  by_finals code added next did c spares finals none is leaves = by next none leaves
    where
      are : events_of did ≡ added
      are = ap events_of is ∙ did_events added

      by : (n : Option Function) → (n ≡ None → all_finis (after (past ++ added)) ≡ []) → c ≡ spent (runs (Purpose.of_end code) (final_functions n) [] (freed_by added b)) → Leaves past h b did c
      by None last so = record {
        appends = Appends.after_finals code (subst NoneEndsOrUnmaps (sym are) spares) finals (ap (λ (y : HartState). y.«end») so) (ap (λ (es : List Event). all_finis (after (past ++ es))) are ∙ last refl);
        finals = inr (finals, code, ap (λ (y : HartState). y.«end») so);
      }
      by (Some f) last so = record {
        appends = Appends.no_end (subst NoneEndsOrUnmaps (sym are) spares)
            (ap (λ (y : HartState). y.«end») so ∙ first_end (Purpose.of_end code) f.object f.addresses [] [] (freed_by added b) ∙ freed_end added);
        finals = inl (ap (λ (y : HartState). has_finals y.frames) so ∙ first_some is_of_end (Purpose.of_end code) f.object f.addresses [] [] (freed_by added b) ∙ sym finals);
      }

  by_finalising : (code object : ℕ) (did : Did) (c : HartState) → has_finals b.frames ≡ true → Finalises w past h b code object did c → Leaves past h b did c
  by_finalising code object did c finals x =
      by_finals code (own_fini (after past) h object ++ x.events) x.next did c
      (both_spare (own_fini (after past) h object) x.events (own_spares (after past) h object) (finals_spare w h (past ++ own_fini (after past) h object) x.events x.next x.finals))
      finals (λ last. ap (λ (es : List Event). all_finis (after es)) (sym (append_assoc past (own_fini (after past) h object) x.events)) ∙ none_is_left w h (past ++ own_fini (after past) h object) x.events x.next last x.finals)
      x.is x.leaves

  by_kind : (did : Did) (c : HartState) → Kind w past h b did c → Leaves past h b did c
  by_kind did c (Kind.goes none frames runs_on) = record { appends = Appends.no_end (subst NoneEndsOrUnmaps (sym none) tt) runs_on; finals = inl (ap has_finals frames) }
  by_kind did c (Kind.ends reason is frames ended) = record { appends = Appends.an_end [] reason tt is ended; finals = inl (ap has_finals frames) }
  by_kind did c (Kind.calls asked to from x) = by_answer asked to x.answer x.appended did c (asked_some is_of_end (λ ra set. refl) b asked to from) (serves_comes w past h asked x.appended x.answer x.serves) x.takes
  by_kind did c (Kind.enters function frames from x) = by_sparing _ [] did c refl (entered_finals b.frames frames function from) tt (ap events_of x.is) x.leaves
  by_kind did c (Kind.completes purpose object rest below not_end from x) =
      by_passing purpose (passing purpose h object ∷ []) rest below did c not_end (below_finals purpose object rest below not_end from) (passings_spare purpose h (object ∷ [])) x.passes
  by_kind did c (Kind.finalises code object rest below from x) = by_finalising code object did c (ap has_finals from.before) x

leaves_so : (w : Setting) (past : List Event) (h : ℕ) (b c : HartState) (did : Did) → Moves w past h b did c → Leaves past h b did c
leaves_so w past h b c did moves = by_kind w past h b did c (kind_of w past h b did c moves)

pub turns_append : TurnsAppend
turns_append w past h b c did moves = (leaves_so w past h b c did moves).appends

pub finals_away : FinalsStayAway
finals_away w past h b c did moves none = ⊎_elim
    (λ (same : has_finals c.frames ≡ has_finals b.frames). same ∙ none)
    (λ (y : (has_finals b.frames ≡ true) × (code : ℕ) × (c.«end» ≡ Some (Exit code))). absurd (true≢false (sym y.0 ∙ none)))
    (leaves_so w past h b c did moves).finals

pub finals_stay : FinalsStay
finals_stay w past h b c did moves finals runs = ⊎_elim
    (λ (same : has_finals c.frames ≡ has_finals b.frames). same ∙ finals)
    (λ (y : (has_finals b.frames ≡ true) × (code : ℕ) × (c.«end» ≡ Some (Exit code))). absurd (let no : None ≡ Some (Exit y.1) = sym runs ∙ y.2 in cc))
    (leaves_so w past h b c did moves).finals
