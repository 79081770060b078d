-- One part of a run after another: each comes to one world.
use Rattle.std.proofs.Common.{◌≡◌, ℕ, cond, List, [], ◌∷◌, ◌++◌, Option, Some, None, refl, sym, ap, subst, ◌∙◌, append-nil, append_assoc}
use Rattle.std.specs.List.{slice_get}
use Rattle.std.proofs.lemmas.Bool.{true≢false}
use Rattle.ld_base.specs.declared.linking.File.{File}
use Rattle.history_event.specs.declared.event.Event.{Event}
use Rattle.history_event.specs.declared.event.Event.TheVariants as events
use Rattle.history_event.specs.declared.hart_end.HartEnd.{HartEnd}
use Rattle.history_event.specs.declared.hart_end.HartEnd.TheVariants as ends
use Rattle.rv_hart.specs.Registers.{Registers}
use Rattle.history_state.specs.Accepted.{AcceptsOnly}
use Rattle.history_state.specs.After.{after}
use Rattle.history_state.specs.Memory.{image_of}
use Rattle.history_state.specs.Setting.{Setting}
use Rattle.history_state.specs.State.{Linked}
use Rattle.history_calls.specs.Functions.{AreAddresses, destructors}
use Rattle.history_calls.specs.Lemmas.Unique.{both_found}
use Rattle.hart_moves.specs.Harts.{HartState}
use Rattle.hart_moves.specs.Moves.{all_finis, events_of, settles}
use Rattle.hart_moves.specs.Starting.{finalising_hart}
use Rattle.hart_moves.specs.Lemmas.Legality.{ended_stays}
use Rattle.world_turns.specs.declared.schedules.schedule.TurnItem.{TurnItem}
use Rattle.world_turns.specs.Laws.{FinalsBeginSound, TurnsAreSound}
use Rattle.world_turns.specs.Run.{RunBegins, Constructs, RunEnds, Finalises, RunFinishes, LacksMemory, Repeats, Rounds, TakesItems, all_harts, exit_code}
use Rattle.world_turns.specs.Sound.{Sound}
use Rattle.world_turns.specs.Turn.{TakesTurn, Turn}
use Rattle.world_turns.specs.World.{World, found_journal, settling}
use Rattle.world_laws.specs.TurnOnce.Laws.{NothingFails, OneTurn}
use Rattle.world_laws.specs.TurnOnce.Lemmas.Failing.{front_part, last_part}

-- ---- journals grow

pub record Grows (old new : World) : Type 0 where
  pub more : List Event
  pub is : new.journal ≡ old.journal ++ more

stays : (old : World) → Grows old old
stays old = record { more = []; is = sym (append-nil old.journal) }

both : (old between new : World) → Grows old between → Grows between new → Grows old new
both old between new x y = record { more = x.more ++ y.more; is = y.is ∙ ap (λ (es : List Event). es ++ y.more) x.is ∙ append_assoc old.journal x.more y.more }

same_grows : (old new : World) → new ≡ old → Grows old new
same_grows old new same = subst (Grows old) (sym same) (stays old)

turn_grows : (w : Setting) (h : ℕ) (old new : World) → Turn w h old new → Grows old new
turn_grows w h old new turn = record {
  more = cond (settles turn.did) (settling old.harts) [] ++ events_of turn.did;
  is = turn.journal ∙ append_assoc old.journal (cond (settles turn.did) (settling old.harts) []) (events_of turn.did);
}

-- no turn of a run has failed, so that the next may come
abbrev pub HasNotFailed : World → Type 0
HasNotFailed world = NothingFails world.journal

pub none_yet : (old new : World) → Grows old new → HasNotFailed new → HasNotFailed old
none_yet old new x none = front_part old.journal x.more (subst NothingFails x.is none)

none_in : (w : Setting) (h : ℕ) (old new : World) (t : Turn w h old new) → HasNotFailed new → NothingFails (events_of t.did)
none_in w h old new t none = last_part (found_journal old t.did) (events_of t.did) (subst NothingFails t.journal none)

module _ (w : Setting) where
  takes_grow : (h : ℕ) (old new : World) → TakesTurn w h old new → Grows old new
  takes_grow h old new (TakesTurn.turn t) = turn_grows w h old new t
  takes_grow h old new (TakesTurn.passed_over b reason at over same) = same_grows old new same

  pub constructs_grow : (old new : World) → Constructs w old new → Grows old new
  constructs_grow old new (Constructs.no_more _ none) = stays old
  constructs_grow old new (Constructs.one_more _ between _ starts t more) = both old between new (turn_grows w 0 old between t) (constructs_grow between new more)

  repeats_grow : (h count : ℕ) (old new : World) → Repeats w h count old new → Grows old new
  repeats_grow h count old new (Repeats.no_more _) = stays old
  repeats_grow h count old new (Repeats.one_more rest _ between _ t more) = both old between new (takes_grow h old between t) (repeats_grow h rest between new more)

  pub items_grow : (items : List TurnItem) (old new : World) → TakesItems w items old new → Grows old new
  items_grow items old new (TakesItems.no_more _) = stays old
  items_grow items old new (TakesItems.one_more item rest _ between _ first more) = both old between new (repeats_grow item.hart item.count old between first) (items_grow rest between new more)

  rounds_grow : (harts : List ℕ) (old new : World) → Rounds w harts old new → Grows old new
  rounds_grow harts old new (Rounds.no_more _) = stays old
  rounds_grow harts old new (Rounds.one_more h rest _ between _ t more) = both old between new (takes_grow h old between t) (rounds_grow rest between new more)

  pub finishes_grow : (old new : World) → RunFinishes w old new → Grows old new
  finishes_grow old new (RunFinishes.no_more _ all) = stays old
  finishes_grow old new (RunFinishes.one_more _ between _ runs round more) = both old between new (rounds_grow (all_harts old) old between round) (finishes_grow between new more)

  ends_grow : (old new : World) → RunEnds w old new → Grows old new
  ends_grow old new (RunEnds.no_more _ all) = stays old
  ends_grow old new (RunEnds.one_more _ between _ runs t more) = both old between new (turn_grows w 0 old between t) (ends_grow between new more)

  begins_grow : (registers : Registers) (old new : World) → RunBegins registers old new → Grows old new
  begins_grow registers old new x = record { more = []; is = ap (λ (y : World). y.journal) x.begun ∙ sym (append-nil old.journal) }

  lacks_grow : (old new : World) → LacksMemory w old new → Grows old new
  lacks_grow old new x = record {
    more = settling old.harts ++ events.Ended 0 ends.Memory ∷ [];
    is = ap (λ (y : World). y.journal) x.leaves ∙ append_assoc old.journal (settling old.harts) (events.Ended 0 ends.Memory ∷ []);
  }

  pub finals_grow : (registers : Registers) (old new : World) → Finalises w registers old new → Grows old new
  finals_grow registers old new (Finalises.none_runs exited same) = same_grows old new same
  finals_grow registers old new (Finalises.none_is_left none same) = same_grows old new same
  finals_grow registers old new (Finalises.no_memory exited lack) = lacks_grow old new lack
  finals_grow registers old new (Finalises.all_run begun exited begin run) = both old begun new (begins_grow registers old begun begin) (ends_grow begun new run)

-- want of memory is a failure
lacks_none : (w : Setting) (old new : World) → LacksMemory w old new → HasNotFailed new → ⊥
lacks_none w old new x none =
    true≢false (last_part (old.journal ++ settling old.harts) (events.Ended 0 ends.Memory ∷ []) (subst NothingFails (ap (λ (y : World). y.journal) x.leaves) none))

-- ---- the final destructors begin in one way

one_list : (found : Option Linked) (xs ys : List ℕ) → AreAddresses destructors xs found → AreAddresses destructors ys found → xs ≡ ys
one_list (Some m) xs ys x y = x ∙ sym y
one_list None xs ys x y = absurd x

head_same : {X : Type 0} (a b : X) (xs ys : List X) → a ∷ xs ≡ b ∷ ys → a ≡ b
head_same a b xs ys e = let same : a ∷ xs ≡ b ∷ ys = e in cc

tail_same : {X : Type 0} (a b : X) (xs ys : List X) → a ∷ xs ≡ b ∷ ys → xs ≡ ys
tail_same a b xs ys e = let same : a ∷ xs ≡ b ∷ ys = e in cc

begins_once : (registers : Registers) (old new other : World) → RunBegins registers old new → RunBegins registers old other → new ≡ other
begins_once registers old new other x y =
    let first : x.first ≡ y.first = head_same x.first y.first x.others y.others (sym x.harts ∙ y.harts) in
    let others : x.others ≡ y.others = tail_same x.first y.first x.others y.others (sym x.harts ∙ y.harts) in
    let code : x.code ≡ y.code = both_found (exit_code x.first) x.code y.code x.exited (ap exit_code first ∙ y.exited) in
    let object : x.object ≡ y.object = head_same x.object y.object x.rest y.rest (sym x.next ∙ y.next) in
    let addresses : x.addresses ≡ y.addresses = one_list (image_of (after old.journal) x.object) x.addresses y.addresses x.are (subst (λ (o : ℕ). AreAddresses destructors y.addresses (image_of (after old.journal) o)) (sym object) y.are) in
    x.begun
    ∙ ap (λ (b : HartState). record old { harts = finalising_hart registers x.code (record { object = x.object; addresses = x.addresses }) b ∷ x.others }) first
    ∙ ap (λ (bs : List HartState). record old { harts = finalising_hart registers x.code (record { object = x.object; addresses = x.addresses }) y.first ∷ bs }) others
    ∙ ap (λ (n : ℕ). record old { harts = finalising_hart registers n (record { object = x.object; addresses = x.addresses }) y.first ∷ y.others }) code
    ∙ ap (λ (o : ℕ). record old { harts = finalising_hart registers y.code (record { object = o; addresses = x.addresses }) y.first ∷ y.others }) object
    ∙ ap (λ (list : List ℕ). record old { harts = finalising_hart registers y.code (record { object = y.object; addresses = list }) y.first ∷ y.others }) addresses
    ∙ sym y.begun

-- ---- folds

pub record TurnLaws : Type 0 where
  pub turn : OneTurn
  pub sound : TurnsAreSound
  pub begins : FinalsBeginSound

module _ (laws : TurnLaws) (w : Setting) (files : List File) (files_are : w.files ≡ Some files) (only : AcceptsOnly w.machine) where
  sound_turn : (h : ℕ) (old new : World) → Sound w old → Turn w h old new → Sound w new
  sound_turn h old new x t = laws.sound w h old new only x t

  turn_once : (h : ℕ) (old new other : World) → Sound w old → Turn w h old new → Turn w h old other → HasNotFailed new → HasNotFailed other → new ≡ other
  turn_once h old new other x s t none nor = laws.turn w files h old new other s t files_are only x (none_in w h old new s none) (none_in w h old other t nor)

  sound_takes : (h : ℕ) (old new : World) → Sound w old → TakesTurn w h old new → Sound w new
  sound_takes h old new x (TakesTurn.turn t) = sound_turn h old new x t
  sound_takes h old new x (TakesTurn.passed_over b reason at over same) = subst (Sound w) (sym same) x

  no_turn : (h : ℕ) (old new : World) (b : HartState) (reason : HartEnd) → slice_get old.harts h ≡ Some b → b.«end» ≡ Some reason → Turn w h old new → ⊥
  no_turn h old new b reason at over t =
      let same : t.before ≡ b = both_found (slice_get old.harts h) t.before b t.there at in
      ended_stays w (found_journal old t.did) h t.before t.left t.did reason (ap (λ (x : HartState). x.«end») same ∙ over) t.moves

  takes_once : (h : ℕ) (old new other : World) → Sound w old → TakesTurn w h old new → TakesTurn w h old other → HasNotFailed new → HasNotFailed other → new ≡ other
  takes_once h old new other x (TakesTurn.turn s) (TakesTurn.turn t) none nor = turn_once h old new other x s t none nor
  takes_once h old new other x (TakesTurn.turn s) (TakesTurn.passed_over b reason at over same) none nor = absurd (no_turn h old new b reason at over s)
  takes_once h old new other x (TakesTurn.passed_over b reason at over same) (TakesTurn.turn t) none nor = absurd (no_turn h old other b reason at over t)
  takes_once h old new other x (TakesTurn.passed_over b reason at over same) (TakesTurn.passed_over c why place is also) none nor = same ∙ sym also

  pub constructs_once : (old new other : World) → Sound w old → Constructs w old new → Constructs w old other → HasNotFailed new → HasNotFailed other → new ≡ other
  constructs_once old new other x (Constructs.no_more _ stop) (Constructs.no_more _ halt) none nor = refl
  constructs_once old new other x (Constructs.no_more _ stop) (Constructs.one_more _ between _ starts t more) none nor = absurd (true≢false (sym starts ∙ stop))
  constructs_once old new other x (Constructs.one_more _ between _ starts t more) (Constructs.no_more _ stop) none nor = absurd (true≢false (sym starts ∙ stop))
  constructs_once old new other x (Constructs.one_more _ between _ starts s more) (Constructs.one_more _ middle _ begins t others) none nor =
      let same : between ≡ middle = turn_once 0 old between middle x s t (none_yet between new (constructs_grow w between new more) none) (none_yet middle other (constructs_grow w middle other others) nor) in
      constructs_once between new other (sound_turn 0 old between x s) more (subst (λ (y : World). Constructs w y other) (sym same) others) none nor

  repeats_once : (h count : ℕ) (old new other : World) → Sound w old → Repeats w h count old new → Repeats w h count old other → HasNotFailed new → HasNotFailed other → new ≡ other
  repeats_once h count old new other x (Repeats.no_more _) (Repeats.no_more _) none nor = refl
  repeats_once h count old new other x (Repeats.one_more rest _ between _ s more) (Repeats.one_more _ _ middle _ t others) none nor =
      let same : between ≡ middle = takes_once h old between middle x s t (none_yet between new (repeats_grow w h rest between new more) none) (none_yet middle other (repeats_grow w h rest middle other others) nor) in
      repeats_once h rest between new other (sound_takes h old between x s) more (subst (λ (y : World). Repeats w h rest y other) (sym same) others) none nor

  sound_repeats : (h count : ℕ) (old new : World) → Sound w old → Repeats w h count old new → Sound w new
  sound_repeats h count old new x (Repeats.no_more _) = x
  sound_repeats h count old new x (Repeats.one_more rest _ between _ s more) = sound_repeats h rest between new (sound_takes h old between x s) more

  pub items_once : (items : List TurnItem) (old new other : World) → Sound w old → TakesItems w items old new → TakesItems w items old other → HasNotFailed new → HasNotFailed other → new ≡ other
  items_once items old new other x (TakesItems.no_more _) (TakesItems.no_more _) none nor = refl
  items_once items old new other x (TakesItems.one_more item rest _ between _ s more) (TakesItems.one_more _ _ _ middle _ t others) none nor =
      let same : between ≡ middle = repeats_once item.hart item.count old between middle x s t (none_yet between new (items_grow w rest between new more) none) (none_yet middle other (items_grow w rest middle other others) nor) in
      items_once rest between new other (sound_repeats item.hart item.count old between x s) more (subst (λ (y : World). TakesItems w rest y other) (sym same) others) none nor

  rounds_once : (harts : List ℕ) (old new other : World) → Sound w old → Rounds w harts old new → Rounds w harts old other → HasNotFailed new → HasNotFailed other → new ≡ other
  rounds_once harts old new other x (Rounds.no_more _) (Rounds.no_more _) none nor = refl
  rounds_once harts old new other x (Rounds.one_more h rest _ between _ s more) (Rounds.one_more _ _ _ middle _ t others) none nor =
      let same : between ≡ middle = takes_once h old between middle x s t (none_yet between new (rounds_grow w rest between new more) none) (none_yet middle other (rounds_grow w rest middle other others) nor) in
      rounds_once rest between new other (sound_takes h old between x s) more (subst (λ (y : World). Rounds w rest y other) (sym same) others) none nor

  sound_rounds : (harts : List ℕ) (old new : World) → Sound w old → Rounds w harts old new → Sound w new
  sound_rounds harts old new x (Rounds.no_more _) = x
  sound_rounds harts old new x (Rounds.one_more h rest _ between _ s more) = sound_rounds rest between new (sound_takes h old between x s) more

  pub finishes_once : (old new other : World) → Sound w old → RunFinishes w old new → RunFinishes w old other → HasNotFailed new → HasNotFailed other → new ≡ other
  finishes_once old new other x (RunFinishes.no_more _ all) (RunFinishes.no_more _ over) none nor = refl
  finishes_once old new other x (RunFinishes.no_more _ all) (RunFinishes.one_more _ between _ runs s more) none nor = absurd (true≢false (sym all ∙ runs))
  finishes_once old new other x (RunFinishes.one_more _ between _ runs s more) (RunFinishes.no_more _ all) none nor = absurd (true≢false (sym all ∙ runs))
  finishes_once old new other x (RunFinishes.one_more _ between _ runs s more) (RunFinishes.one_more _ middle _ goes t others) none nor =
      let same : between ≡ middle = rounds_once (all_harts old) old between middle x s t (none_yet between new (finishes_grow w between new more) none) (none_yet middle other (finishes_grow w middle other others) nor) in
      finishes_once between new other (sound_rounds (all_harts old) old between x s) more (subst (λ (y : World). RunFinishes w y other) (sym same) others) none nor

  ends_once : (old new other : World) → Sound w old → RunEnds w old new → RunEnds w old other → HasNotFailed new → HasNotFailed other → new ≡ other
  ends_once old new other x (RunEnds.no_more _ all) (RunEnds.no_more _ over) none nor = refl
  ends_once old new other x (RunEnds.no_more _ all) (RunEnds.one_more _ between _ runs s more) none nor = absurd (true≢false (sym all ∙ runs))
  ends_once old new other x (RunEnds.one_more _ between _ runs s more) (RunEnds.no_more _ all) none nor = absurd (true≢false (sym all ∙ runs))
  ends_once old new other x (RunEnds.one_more _ between _ runs s more) (RunEnds.one_more _ middle _ goes t others) none nor =
      let same : between ≡ middle = turn_once 0 old between middle x s t (none_yet between new (ends_grow w between new more) none) (none_yet middle other (ends_grow w middle other others) nor) in
      ends_once between new other (sound_turn 0 old between x s) more (subst (λ (y : World). RunEnds w y other) (sym same) others) none nor

  no_first : (registers : Registers) (old new : World) → all_finis (after old.journal) ≡ [] → RunBegins registers old new → ⊥
  no_first registers old new none x = let no : [] ≡ x.object ∷ x.rest = sym none ∙ x.next in cc

  pub finals_once : (registers : Registers) (old new other : World) → Sound w old → Finalises w registers old new → Finalises w registers old other → HasNotFailed new → HasNotFailed other → new ≡ other
  finals_once registers old new other x (Finalises.none_runs runs same) (Finalises.none_runs going also) none nor = same ∙ sym also
  finals_once registers old new other x (Finalises.none_runs runs same) (Finalises.none_is_left left also) none nor = same ∙ sym also
  finals_once registers old new other x (Finalises.none_runs runs same) (Finalises.no_memory exited lack) none nor = absurd (true≢false (sym exited ∙ runs))
  finals_once registers old new other x (Finalises.none_runs runs same) (Finalises.all_run begun exited begin run) none nor = absurd (true≢false (sym exited ∙ runs))
  finals_once registers old new other x (Finalises.none_is_left left same) (Finalises.none_runs going also) none nor = same ∙ sym also
  finals_once registers old new other x (Finalises.none_is_left left same) (Finalises.none_is_left right also) none nor = same ∙ sym also
  finals_once registers old new other x (Finalises.none_is_left left same) (Finalises.no_memory exited lack) none nor = absurd (lacks_none w old other lack nor)
  finals_once registers old new other x (Finalises.none_is_left left same) (Finalises.all_run begun exited begin run) none nor = absurd (no_first registers old begun left begin)
  finals_once registers old new other x (Finalises.no_memory exited lack) y none nor = absurd (lacks_none w old new lack none)
  finals_once registers old new other x (Finalises.all_run begun exited begin run) (Finalises.none_runs going also) none nor = absurd (true≢false (sym exited ∙ going))
  finals_once registers old new other x (Finalises.all_run begun exited begin run) (Finalises.none_is_left left also) none nor = absurd (no_first registers old begun left begin)
  finals_once registers old new other x (Finalises.all_run begun exited begin run) (Finalises.no_memory over lack) none nor = absurd (lacks_none w old other lack nor)
  finals_once registers old new other x (Finalises.all_run begun exited begin run) (Finalises.all_run first over starts goes) none nor =
      let same : begun ≡ first = begins_once registers old begun first begin starts in
      ends_once begun new other (laws.begins w registers old begun begin x) run (subst (λ (y : World). RunEnds w y other) (sym same) goes) none nor

  pub sound_constructs : (old new : World) → Sound w old → Constructs w old new → Sound w new
  sound_constructs old new x (Constructs.no_more _ stop) = x
  sound_constructs old new x (Constructs.one_more _ between _ starts s more) = sound_constructs between new (sound_turn 0 old between x s) more

  pub sound_items : (items : List TurnItem) (old new : World) → Sound w old → TakesItems w items old new → Sound w new
  sound_items items old new x (TakesItems.no_more _) = x
  sound_items items old new x (TakesItems.one_more item rest _ between _ s more) = sound_items rest between new (sound_repeats item.hart item.count old between x s) more

  pub sound_finishes : (old new : World) → Sound w old → RunFinishes w old new → Sound w new
  sound_finishes old new x (RunFinishes.no_more _ all) = x
  sound_finishes old new x (RunFinishes.one_more _ between _ runs s more) = sound_finishes between new (sound_rounds (all_harts old) old between x s) more
