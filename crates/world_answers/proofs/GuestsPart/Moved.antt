-- A turn that asks the linker makes no call of the bus, and its history is legal.
use Rattle.std.proofs.Common.{◌≡◌, ℕ, true, List, [], ◌∷◌, ◌++◌, Option, Some, None, refl, sym, subst, append-nil}
use Rattle.std.proofs.lemmas.Bool.{true≢false}
use Rattle.ld_base.specs.declared.fault.DlFault.{DlFault}
use Rattle.ld_base.specs.declared.fault.Shown.{Shown}
use Rattle.ld_base.specs.declared.linking.File.{File}
use Rattle.history_event.specs.declared.event.Event.{Event}
use Rattle.history_state.specs.After.{after}
use Rattle.history_state.specs.Legal.{Legal}
use Rattle.history_state.specs.Setting.{Setting}
use Rattle.history_state.specs.Lemmas.History.{legal_push, one_behind}
use Rattle.history_calls.specs.Answer.{Answer, returns, loading, closing, refused, granted, told, again, over}
use Rattle.history_calls.specs.Call.{Call}
use Rattle.history_journal.specs.Following.{machine_of}
use Rattle.history_calls.specs.CallLaws.Coming.{IsOn, IsOver}
use Rattle.history_calls.specs.UntoldFiles.Untold.{AllowedUntold, untold}
use Rattle.rv_hart.specs.declared.doubleword.Doubleword.{Doubleword}
use Rattle.hart_moves.specs.Due.{Due, Return, due}
use Rattle.hart_moves.specs.Harts.{HartState}
use Rattle.hart_moves.specs.Moves.{AreAllowed, Did, MovesAs, Takes, TellsOf, events_of, stack_start}
use Rattle.hart_moves.specs.Lemmas.Legality.{turns_allowed}
use Rattle.world_memory.specs.TurnAnswers.Changes.{Changes}
use Rattle.world_memory.specs.TurnAnswers.Turn.{TakesService}
use Rattle.world_memory.specs.declared.turn_answers.answered.MemoryChange.{MemoryChange}
use Rattle.world_memory.specs.declared.turn_answers.answered.MemoryChange.TheVariants as change
use Rattle.link_state.specs.Table.{LinkTable}
use Rattle.world_turns.specs.Memory.{Does, RemakesAll}
use Rattle.world_answers.specs.GuestsPart.GuestWorlds.Worlds.{setting_without}
use Rattle.world_answers.specs.GuestsPart.Asking.{asks_linker}
use Rattle.world_answers.specs.GuestsPart.Taking.{HartTurns, HartTurnsOn, HartTurnsOver, IsLegal}

-- ---- memory

module _ (past : List Event) (words left : List Doubleword) (did : Did) where
  -- memory is remade by the events alone
  abbrev Alone : Type 0
  Alone = RemakesAll (after past) (events_of did) words left → Does past words did left

  does_alone : (appended : List Event) → did ≡ Did.serves [] appended → Alone
  does_alone appended is =
      subst (λ (x : Did). RemakesAll (after past) (events_of x) words left → Does past words x left) (sym is) (λ remade. (words, refl, remade))

  does_none : (for : Shown) → did ≡ Did.waits for → Alone
  does_none for is = subst (λ (x : Did). RemakesAll (after past) (events_of x) words left → Does past words x left) (sym is) (λ remade. remade)

  tells_alone : (text : ℕ) (b : HartState) (back : Return) (fault : Option DlFault) (appended : List Event) (c : HartState)
      → TellsOf text b back fault appended did c → Alone
  tells_alone text b back (Some fault) appended c x = does_alone appended x.is
  tells_alone text b back None appended c x = does_alone appended x.is

  takes_alone : (w : Setting) (h : ℕ) (b : HartState) (call : Call) (back : Return) (answer : Answer) (appended : List Event) (c : HartState)
      → Takes w past h b call back answer appended did c → Alone
  takes_alone w h b call back (returns value) appended c x = does_alone appended x.is
  takes_alone w h b call back (loading root added) appended c x = does_alone _ x.passes.is
  takes_alone w h b call back (closing set) appended c x = does_alone _ x.passes.is
  takes_alone w h b call back (refused fault) appended c x = does_alone appended x.is
  takes_alone w h b call back (granted grant) appended c x = does_alone appended x.is
  takes_alone w h b call back (told fault) appended c x = tells_alone (stack_start (after past) h) b back fault appended c x
  takes_alone w h b call back (again for) appended c x = does_none for x.is
  takes_alone w h b call back (over reason) appended c x = does_alone appended x.is

  pub asks_alone : (w : Setting) (h : ℕ) (b : HartState) (d : Due) (c : HartState) → asks_linker d ≡ true → MovesAs w past h b d did c → Alone
  asks_alone w h b Due.nothing c asks x = absurd (true≢false (sym asks))
  asks_alone w h b (Due.exchange o) c asks x = absurd (true≢false (sym asks))
  asks_alone w h b (Due.finish o found) c asks x = absurd (true≢false (sym asks))
  asks_alone w h b Due.fuel_out c asks x = absurd (true≢false (sym asks))
  asks_alone w h b Due.instruction c asks x = absurd (true≢false (sym asks))
  asks_alone w h b (Due.copy copy start bytes) c asks x = absurd (true≢false (sym asks))
  asks_alone w h b (Due.serve call back) c asks x = takes_alone w h b call back x.answer x.appended c x.takes
  asks_alone w h b (Due.wait for) c asks x = does_none for x.is
  asks_alone w h b (Due.store text stored word more) c asks x = absurd (true≢false (sym asks))
  asks_alone w h b (Due.enter function frames) c asks x = absurd (true≢false (sym asks))
  asks_alone w h b (Due.complete purpose object rest below) c asks x = does_alone _ x.passes.is
  asks_alone w h b (Due.finalise code object) c asks x = absurd (true≢false (sym asks))

-- ---- the history

legal_with : (w : Setting) (past added : List Event) → Legal w past → AreAllowed w past added → Legal w (past ++ added)
legal_with w past [] legal may = subst (Legal w) (sym (append-nil past)) legal
legal_with w past (e ∷ rest) legal may =
    subst (Legal w) (one_behind past e rest) (legal_with w (past ++ e ∷ []) rest (legal_push w past e legal may.0) may.1)

are_untold : AllowedUntold → (w : Setting) (past added : List Event) → AreAllowed w past added → AreAllowed (untold w) past added
are_untold law w past [] may = tt
are_untold law w past (e ∷ rest) may = (law w past e may.0, are_untold law w (past ++ e ∷ []) rest may.1)

-- a run over the files as the library tells them
abbrev pub setting_with : ℕ → (folders preload : List (List ℕ)) → Option (List File) → Setting
setting_with count folders preload files = record { machine = machine_of count; folders = folders; preload = preload; files = files }

pub is_over : (count : ℕ) (folders preload : List (List ℕ)) (files : Option (List File))
    → IsOver (machine_of count) folders files (setting_with count folders preload files)
is_over count folders preload files = record { machine = refl; folders_are = refl; files_are = refl }

-- ---- a turn

module _ (old new : LinkTable) (h : ℕ) (b c : HartState) (does : MemoryChange) (asks : asks_linker (due (after old.events) b) ≡ true) where
  abbrev pub ServiceIn : Setting → Type 0
  ServiceIn w = TakesService w old.events new.events new.made h (due (after old.events) b) b c does

  turns : (w : Setting) (words left : List Doubleword) (t : ServiceIn w) → RemakesAll (after old.events) (events_of t.did) words left
      → HartTurns w old.events new.events words left h b c
  turns w words left t remade = record {
    did = t.did;
    settling = t.settling;
    moves = t.moves;
    are = t.are;
    does = asks_alone old.events words left t.did w h b (due (after old.events) b) c asks t.moves remade;
  }

  legal_behind : AllowedUntold → (folders : List (List ℕ)) (files : Option (List File)) (legal : IsLegal old.harts folders old.events)
      → ((w : Setting) → IsOver (machine_of old.harts) folders files w → ServiceIn w) → Legal (setting_without old.harts folders legal.preload) new.events
  legal_behind law folders files legal takes =
      let w : Setting = setting_with old.harts folders legal.preload files in
      let t : ServiceIn w = takes w (is_over old.harts folders legal.preload files) in
      subst (Legal (untold w)) (sym t.are)
      (legal_with (untold w) old.events (events_of t.did) legal.legal (are_untold law w old.events (events_of t.did) (turns_allowed w old.events h b c t.did t.moves)))

  -- where the change is made of memory, whatever the history
  pub turns_over : AllowedUntold → (folders : List (List ℕ)) (files : Option (List File)) (words left : List Doubleword)
      → IsLegal old.harts folders old.events → ((w : Setting) → IsOver (machine_of old.harts) folders files w → ServiceIn w)
      → ((w : Setting) (past given : List Event) → Legal w (past ++ given) → Changes (after past) given new.made does
      → RemakesAll (after past) given words left)
      → HartTurnsOver folders files old new words left h b c
  turns_over law folders files words left legal takes made = λ w on.
      let t : ServiceIn w = takes w on in
      turns w words left t
      (made (setting_without old.harts folders legal.preload) old.events (events_of t.did)
      (subst (Legal (setting_without old.harts folders legal.preload)) t.are (legal_behind law folders files legal takes)) t.changes)

-- where nothing is made of memory it stays
pub turns_on : (old new : LinkTable) (h : ℕ) (b c : HartState) → asks_linker (due (after old.events) b) ≡ true
    → ((w : Setting) → IsOn (machine_of old.harts) w → TakesService w old.events new.events new.made h (due (after old.events) b) b c change.Nothing)
    → (words : List Doubleword) → ((past given : List Event) → Changes (after past) given new.made change.Nothing → RemakesAll (after past) given words words)
    → HartTurnsOn old new words words h b c
turns_on old new h b c asks takes words stays = λ w on.
    let t : TakesService w old.events new.events new.made h (due (after old.events) b) b c change.Nothing = takes w on in
    turns old new h b c change.Nothing asks w words words t (stays old.events (events_of t.did) t.changes)
