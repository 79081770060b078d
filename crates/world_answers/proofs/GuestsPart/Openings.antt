-- An opening that finds all that it needs opens, unless a read fails or memory is wanted.
use Rattle.std.proofs.Common.{◌≡◌, ◌⊎◌, inl, inr, ℕ, Bool, true, false, List, [], ◌∷◌, ◌++◌, Option, Some, None, refl, sym, ap, subst, ◌∙◌, append-nil}
use Rattle.std.proofs.lemmas.Bool.{true≢false}
use Rattle.ld_base.specs.declared.fault.DlFault.{DlFault}
use Rattle.ld_base.specs.declared.fault.DlFault.TheVariants as faults
use Rattle.ld_base.specs.declared.linking.File.{File}
use Rattle.ld_base.specs.declared.linking.Loaded.{Loaded}
use Rattle.library_source.specs.Count.{Rises}
use Rattle.history_event.specs.declared.event.Event.{Event}
use Rattle.history_event.specs.declared.event.Event.TheVariants as events
use Rattle.history_event.specs.declared.event.OpenAnswer.TheVariants as openings
use Rattle.history_event.specs.declared.event.OpenAsk.{OpenAsk}
use Rattle.history_event.specs.declared.event.Range.{Range}
use Rattle.history_event.specs.declared.hart_end.HartEnd.{HartEnd}
use Rattle.history_event.specs.declared.hart_end.HartEnd.TheVariants as ends
use Rattle.history_state.specs.After.{after}
use Rattle.history_state.specs.Opening.{Opens}
use Rattle.history_state.specs.Setting.{Setting}
use Rattle.history_calls.specs.Answer.{Answer, returns, loading, closing, refused, granted, told, again, over}
use Rattle.history_calls.specs.Call.{Call, opens}
use Rattle.history_calls.specs.Gives.{EventAnswers, Gives, Serves, ending}
use Rattle.history_calls.specs.Laws.{PassedOpens, is_chance, is_memory, is_read_fault}
use Rattle.link_state.specs.Table.{LinkTable}
use Rattle.rv_hart.specs.declared.doubleword.Doubleword.{Doubleword}
use Rattle.hart_moves.specs.Due.{Due, Return, due}
use Rattle.hart_moves.specs.Harts.{HartState}
use Rattle.hart_moves.specs.Moves.{Calls, Did, MovesAs, Takes, TellsOf, events_of, stack_start}
use Rattle.world_answers.specs.Openings.{TurnRefusalIsCounted}
use Rattle.world_answers.specs.declared.guests.guest_worlds.turn.Turn.{Turn}
use Rattle.world_answers.specs.declared.guests.guest_worlds.turn.Turn.TheVariants as turn
use Rattle.world_answers.specs.GuestsPart.Next.{ComesFirst, TurnOpens}
use Rattle.world_answers.specs.GuestsPart.Taking.{HartTurns, HartTurnsOver, IsOutcome}

-- ---- what chance does

-- which path a failed read is of
path_of : (fault : DlFault) → is_read_fault fault ≡ true → (path : List ℕ) × (fault ≡ faults.ReadFault path)
path_of (faults.MissingLibrary name) e = absurd (true≢false (sym e))
path_of (faults.ReadFault path) e = (path, refl)
path_of (faults.NotAccepted path rule) e = absurd (true≢false (sym e))
path_of (faults.MissingVersion object file version) e = absurd (true≢false (sym e))
path_of (faults.MissingSymbol object name version) e = absurd (true≢false (sym e))
path_of (faults.NotCode object name) e = absurd (true≢false (sym e))
path_of (faults.NeedsStaticTls object) e = absurd (true≢false (sym e))
path_of (faults.AddressSpaceFull pages) e = absurd (true≢false (sym e))
path_of faults.NamespacesFull e = absurd (true≢false (sym e))
path_of (faults.BadHandle handle) e = absurd (true≢false (sym e))
path_of (faults.BadFlags flags) e = absurd (true≢false (sym e))
path_of (faults.ClosingHere path) e = absurd (true≢false (sym e))
path_of faults.NameTooLong e = absurd (true≢false (sym e))
path_of (faults.BadNamespace number) e = absurd (true≢false (sym e))

memory_is : (reason : HartEnd) → is_memory reason ≡ true → reason ≡ ends.Memory
memory_is (ends.Exit code) e = absurd (true≢false (sym e))
memory_is ends.FuelOut e = absurd (true≢false (sym e))
memory_is (ends.NotMapped pc address) e = absurd (true≢false (sym e))
memory_is (ends.SlotStore pc address) e = absurd (true≢false (sym e))
memory_is (ends.BadInstruction pc word) e = absurd (true≢false (sym e))
memory_is (ends.Misaligned pc address) e = absurd (true≢false (sym e))
memory_is (ends.Break pc) e = absurd (true≢false (sym e))
memory_is (ends.BadModule number) e = absurd (true≢false (sym e))
memory_is (ends.Unloaded owner) e = absurd (true≢false (sym e))
memory_is (ends.NoSlot owner eights) e = absurd (true≢false (sym e))
memory_is (ends.Unresolved owner slot) e = absurd (true≢false (sym e))
memory_is (ends.NotCode owner slot) e = absurd (true≢false (sym e))
memory_is (ends.AddressSpaceFull pages) e = absurd (true≢false (sym e))
memory_is ends.Memory e = refl

-- what an opening that is refused gives, and one that is to wait
abbrev pub Gave : ℕ → Call → List Event → Answer → Type 0
Gave h call given (returns value) = Unit {0}
Gave h call given (loading root added) = Unit {0}
Gave h call given (closing set) = Unit {0}
Gave h call given (refused fault) = (ask : OpenAsk) → call ≡ opens ask → given ≡ events.Open h ask (openings.Refused fault) ∷ []
Gave h call given (granted grant) = Unit {0}
Gave h call given (told fault) = Unit {0}
Gave h call given (again for) = given ≡ []
Gave h call given (over reason) = Unit {0}

answer_gave : (h : ℕ) (call : Call) (e : Event) (answer : Answer) → EventAnswers h call e answer → Gave h call (e ∷ []) answer
answer_gave h call e answer (EventAnswers.is_loaded ask id root first rest ranges) = tt
answer_gave h call e answer (EventAnswers.is_there ask id root ranges) = tt
answer_gave h call e answer (EventAnswers.is_absent ask) = tt
answer_gave h call e answer (EventAnswers.is_not_opened ask fault) = λ other is.
    let same : ask ≡ other = cc in ap (λ (a : OpenAsk). events.Open h a (openings.Refused fault) ∷ []) same
answer_gave h call e answer (EventAnswers.dies handle first rest) = tt
answer_gave h call e answer (EventAnswers.stays handle) = tt
answer_gave h call e answer (EventAnswers.is_not_closed handle fault) = λ other is. absurd cc
answer_gave h call e answer (EventAnswers.is_unmapped set) = tt
answer_gave h call e answer (EventAnswers.is_granted owner eights slot number choice value is) = tt
answer_gave h call e answer (EventAnswers.is_unresolved owner eights slot is) = tt
answer_gave h call e answer (EventAnswers.is_not_code owner eights slot serial index is) = tt
answer_gave h call e answer (EventAnswers.is_found ask serial index value) = tt
answer_gave h call e answer (EventAnswers.is_not_found ask fault) = λ other is. absurd cc
answer_gave h call e answer (EventAnswers.is_told fault) = tt
answer_gave h call e answer (EventAnswers.is_written bytes) = tt

pub given_gave : (w : Setting) (past : List Event) (h : ℕ) (call : Call) (given : List Event) (answer : Answer) → Gives w past h call given answer
    → Gave h call given answer
given_gave w past h call given answer (Gives.by_event _ e _ answers may) = answer_gave h call e answer answers
given_gave w past h call given answer (Gives.by_first_block ask e f value finds) = tt
given_gave w past h call given answer (Gives.in_new_block number offset block e gets) = tt
given_gave w past h call given answer (Gives.in_block number offset block has) = tt
given_gave w past h call given answer (Gives.to_again _ for shows) = refl
given_gave w past h call given answer (Gives.to_end _ reason ends) = tt

-- ---- the events of a call's turn

-- those of the call come first
abbrev pub Begin : List Event → Did → Type 0
Begin appended did = (behind : List Event) × (events_of did ≡ appended ++ behind)

begins_all : (appended : List Event) (did : Did) → events_of did ≡ appended → Begin appended did
begins_all appended did is = ([], is ∙ sym (append-nil appended))

tells_begin : (text : ℕ) (b : HartState) (back : Return) (fault : Option DlFault) (appended : List Event) (did : Did) (c : HartState)
    → TellsOf text b back fault appended did c → Begin appended did
tells_begin text b back (Some fault) appended did c x = begins_all appended did (ap events_of x.is)
tells_begin text b back None appended did c x = begins_all appended did (ap events_of x.is)

takes_begin : (w : Setting) (past : List Event) (h : ℕ) (b : HartState) (call : Call) (back : Return) (answer : Answer) (appended : List Event) (did : Did) (c : HartState)
    → Serves w past h call appended answer → Takes w past h b call back answer appended did c → Begin appended did
takes_begin w past h b call back (returns value) appended did c serves x = begins_all appended did (ap events_of x.is)
takes_begin w past h b call back (loading root added) appended did c serves x = (_, ap events_of x.passes.is)
takes_begin w past h b call back (closing set) appended did c serves x = (_, ap events_of x.passes.is)
takes_begin w past h b call back (refused fault) appended did c serves x = begins_all appended did (ap events_of x.is)
takes_begin w past h b call back (granted grant) appended did c serves x = begins_all appended did (ap events_of x.is)
takes_begin w past h b call back (told fault) appended did c serves x = tells_begin (stack_start (after past) h) b back fault appended did c x
takes_begin w past h b call back (again for) appended did c serves x =
    let none : serves.given ≡ [] = given_gave w past h call serves.given (again for) serves.gives in
    begins_all appended did (ap events_of x.is ∙ sym (serves.are ∙ append-nil serves.given ∙ none))
takes_begin w past h b call back (over reason) appended did c serves x = begins_all appended did (ap events_of x.is)

-- ---- an opening

module _ (law : PassedOpens) (w : Setting) (folders : List (List ℕ)) (told_files : List File) (past journal : List Event) (h : ℕ) (b c : HartState) (ask : OpenAsk) (back : Return)
    (did : Did) (came : Turn) (failures failures' misses misses' : ℕ) (calls : Calls w past h b (opens ask) back did c) (are : journal ≡ past ++ events_of did)
    (outcome : IsOutcome c came) (files : w.files ≡ Some told_files) (sound : ¬ (Rises failures failures'))
    (counted : TurnRefusalIsCounted folders past journal h (Due.serve (opens ask) back) failures failures' misses misses')
    (id root : ℕ) (added : List Loaded) (ranges : List Range) (may : Opens w (after past) h ask id root added ranges) where
  abbrev Comes : Type 0
  Comes = ComesFirst past journal (events.Open h ask (openings.Done id root added ranges)) ⊎ (came ≡ turn.Ended ends.Memory)

  abbrev opening : Event
  opening = events.Open h ask (openings.Done id root added ranges)

  begun : Begin calls.appended did
  begun = takes_begin w past h b (opens ask) back calls.answer calls.appended did c calls.serves calls.takes

  -- by no chance
  soundly : is_chance calls.answer ≡ false → Comes
  soundly safe =
      let given : calls.serves.given ≡ opening ∷ [] = law w past h ask told_files id root added ranges calls.serves.given calls.answer files may calls.serves.gives safe in
      let all : events_of did ≡ ((opening ∷ []) ++ ending h calls.answer) ++ begun.0 =
      begun.1 ∙ ap (λ (es : List Event). es ++ begun.0) (calls.serves.are ∙ ap (λ (es : List Event). es ++ ending h calls.answer) given) in
      inl (ending h calls.answer ++ begun.0, are ∙ ap (λ (es : List Event). past ++ es) all)

  -- a read failed
  refused_so : (fault : DlFault) → calls.answer ≡ refused fault → is_read_fault fault ≡ true → ⊥
  refused_so fault is read =
      let path = path_of fault read in
      let given : calls.serves.given ≡ events.Open h ask (openings.Refused fault) ∷ [] =
      subst (λ (a : Answer). Gave h (opens ask) calls.serves.given a) is (given_gave w past h (opens ask) calls.serves.given calls.answer calls.serves.gives) ask refl in
      let appended : calls.appended ≡ events.Open h ask (openings.Refused fault) ∷ [] =
      calls.serves.are ∙ ap (λ (a : Answer). calls.serves.given ++ ending h a) is ∙ append-nil calls.serves.given ∙ given in
      let all : events_of did ≡ events.Open h ask (openings.Refused fault) ∷ [] =
      refused_did fault (subst (λ (a : Answer). Takes w past h b (opens ask) back a calls.appended did c) is calls.takes) ∙ appended in
      sound ((counted ask back refl ask fault (are ∙ ap (λ (es : List Event). past ++ es) all)).failed path.0 (ap (λ (x : DlFault). Some x) path.1))
    where
      refused_did : (fault : DlFault) → Takes w past h b (opens ask) back (refused fault) calls.appended did c → events_of did ≡ calls.appended
      refused_did fault x = ap events_of x.is

  -- memory is wanted
  wanting : (reason : HartEnd) → calls.answer ≡ over reason → reason ≡ ends.Memory → came ≡ turn.Ended ends.Memory
  wanting reason is memory = by came outcome
    where
      over_end : Takes w past h b (opens ask) back (over reason) calls.appended did c → c.«end» ≡ Some reason
      over_end x = ap (λ (y : HartState). y.«end») x.leaves

      ended : c.«end» ≡ Some ends.Memory
      ended = over_end (subst (λ (a : Answer). Takes w past h b (opens ask) back a calls.appended did c) is calls.takes) ∙ ap (λ (r : HartEnd). Some r) memory

      by : (came : Turn) → IsOutcome c came → came ≡ turn.Ended ends.Memory
      by turn.Stepped out = absurd (let e : None ≡ Some ends.Memory = sym out ∙ ended in cc)
      by (turn.Again shown) out = absurd (let e : None ≡ Some ends.Memory = sym out ∙ ended in cc)
      by (turn.Ended why) out = let same : why ≡ ends.Memory = (let e : Some why ≡ Some ends.Memory = sym out ∙ ended in cc) in ap turn.Ended same
      by turn.Idle out = absurd out

  by_answer : (answer : Answer) → calls.answer ≡ answer → Comes
  by_answer (returns value) is = soundly (ap is_chance is)
  by_answer (loading root added) is = soundly (ap is_chance is)
  by_answer (closing set) is = soundly (ap is_chance is)
  by_answer (refused fault) is = by (is_read_fault fault) refl
    where
      by : (read : Bool) → is_read_fault fault ≡ read → Comes
      by true read = absurd (refused_so fault is read)
      by false safe = soundly (ap is_chance is ∙ safe)
  by_answer (granted grant) is = soundly (ap is_chance is)
  by_answer (told fault) is = soundly (ap is_chance is)
  by_answer (again for) is = soundly (ap is_chance is)
  by_answer (over reason) is = by (is_memory reason) refl
    where
      by : (memory : Bool) → is_memory reason ≡ memory → Comes
      by true memory = inr (wanting reason is (memory_is reason memory))
      by false safe = soundly (ap is_chance is ∙ safe)

  pub opening_comes : Comes
  opening_comes = by_answer calls.answer refl

pub turn_opens : PassedOpens → (old new : LinkTable) (folders : List (List ℕ)) (files : Option (List File)) (words left : List Doubleword) (h : ℕ) (b c : HartState) (came : Turn)
    (failures failures' misses misses' : ℕ) → HartTurnsOver folders files old new words left h b c → IsOutcome c came
    → TurnRefusalIsCounted folders old.events new.events h (due (after old.events) b) failures failures' misses misses'
    → TurnOpens old.harts folders files failures failures' old.events new.events h came (due (after old.events) b)
turn_opens law old new folders files words left h b c came failures failures' misses misses' turns outcome counted =
    λ ask back told_files is tells sound w id root added ranges on may.
    let t : HartTurns w old.events new.events words left h b c =
    turns w (record { machine = on.machine; folders_are = on.folders_are; files_are = on.files_are ∙ sym tells }) in
    opening_comes law w folders told_files old.events new.events h b c ask back t.did came failures failures' misses misses'
    (subst (λ (d : Due). MovesAs w old.events h b d t.did c) is t.moves) t.are outcome on.files_are sound
    (subst (λ (d : Due). TurnRefusalIsCounted folders old.events new.events h d failures failures' misses misses') is counted) id root added ranges may
