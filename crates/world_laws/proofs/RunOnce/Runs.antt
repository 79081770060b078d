-- A run comes to one world, failed reads and want of memory apart.
use Rattle.std.proofs.Common.{◌≡◌, List, Some, refl, sym, ap, subst, ◌∙◌}
use Rattle.std.specs.List.{slice_get}
use Rattle.ld_base.specs.declared.linking.File.{File}
use Rattle.history_event.specs.declared.event.Event.{Event}
use Rattle.history_event.specs.declared.handed.Function.{Function}
use Rattle.history_event.specs.declared.handed.HartEntry.{HartEntry}
use Rattle.history_calls.specs.declared.link_served.startup.Setup.{Setup}
use Rattle.rv_hart.specs.declared.doubleword.Doubleword.{Doubleword}
use Rattle.history_state.specs.Accepted.{AcceptsOnly}
use Rattle.history_state.specs.Setting.{Setting}
use Rattle.history_state.specs.State.{empty_state}
use Rattle.history_calls.specs.Laws.{StartsOneWay}
use Rattle.history_calls.specs.Lemmas.Unique.{both_found}
use Rattle.hart_moves.specs.Harts.{HartState}
use Rattle.hart_moves.specs.Starting.{starting_harts, starting_registers}
use Rattle.world_turns.specs.declared.schedules.schedule.TurnItem.{TurnItem}
use Rattle.world_laws.specs.TurnOnce.Laws.{OneTurn}
use Rattle.world_laws.specs.TurnOnce.Lemmas.Memory.{all_remade, same_words}
use Rattle.world_turns.specs.Laws.{FinalsBeginSound, StartIsSound, TurnsAreSound}
use Rattle.world_turns.specs.Memory.{RemakesAll}
use Rattle.world_turns.specs.Run.{Constructs, Finalises, RunFinishes, IsStarted, Run, TakesItems, settled}
use Rattle.world_turns.specs.Sound.{Sound}
use Rattle.world_turns.specs.World.{World, settling}
use Rattle.world_laws.specs.RunOnce.Laws.{OneRun}
use Rattle.world_laws.proofs.RunOnce.Folds.{Grows, HasNotFailed, TurnLaws, constructs_once, finals_grow, finals_once, finishes_grow, finishes_once, items_grow, items_once, none_yet, sound_constructs, sound_finishes, sound_items}

pub record RunLaws : Type 0 where
  pub turn : OneTurn
  pub sound : TurnsAreSound
  pub begins : FinalsBeginSound
  pub start : StartIsSound
  pub starts : StartsOneWay

-- ---- the start

module _ (laws : RunLaws) (w : Setting) (setup : Setup) (files : List File) (files_are : w.files ≡ Some files) (one other : World) (x : IsStarted w setup one) (y : IsStarted w setup other) where
  way : (one.journal ≡ other.journal) × (x.started.functions ≡ y.started.functions) × (x.started.entries ≡ y.started.entries)
  way = laws.starts w setup files one.journal other.journal x.started y.started files_are x.starts y.starts

  fresh_same : x.fresh ≡ y.fresh
  fresh_same = same_words x.fresh y.fresh x.are_fresh.all y.are_fresh.all (λ a is. x.are_fresh.each a is ∙ sym (y.are_fresh.each a is))

  words_same : one.words ≡ other.words
  words_same = all_remade empty_state one.journal x.fresh one.words other.words x.are_fresh.all x.words
      (subst (λ (es : List Event). RemakesAll empty_state es x.fresh other.words) (sym way.0) (subst (λ (ws : List Doubleword). RemakesAll empty_state other.journal ws other.words) (sym fresh_same) y.words))

  harts_same : one.harts ≡ other.harts
  harts_same = x.harts ∙ ap (λ (fs : List Function). starting_harts setup.fuel fs x.started.entries) way.1 ∙ ap (λ (es : List HartEntry). starting_harts setup.fuel y.started.functions es) way.2 ∙ sym y.harts

  pub start_once : one ≡ other
  start_once =
      ap (λ (es : List Event). record { journal = es; words = one.words; harts = one.harts }) way.0
      ∙ ap (λ (ws : List Doubleword). record { journal = other.journal; words = ws; harts = one.harts }) words_same
      ∙ ap (λ (bs : List HartState). record { journal = other.journal; words = other.words; harts = bs }) harts_same

  pub entries_once : x.started.entries ≡ y.started.entries
  entries_once = way.2

-- ---- a run

settled_grows : (world : World) → Grows world (settled world)
settled_grows world = record { more = settling world.harts; is = refl }

module _ (laws : RunLaws) (w : Setting) (setup : Setup) (items : List TurnItem) (files : List File) (files_are : w.files ≡ Some files) (only : AcceptsOnly w.machine) (world other : World)
    (x : Run w setup items world) (y : Run w setup items other) (none : HasNotFailed world) (nor : HasNotFailed other) where
  turns : TurnLaws
  turns = record { turn = laws.turn; sound = laws.sound; begins = laws.begins }

  none_finalised : (v : World) (z : Run w setup items v) → HasNotFailed v → HasNotFailed z.finalised
  none_finalised v z free = none_yet z.finalised (settled z.finalised) (settled_grows z.finalised) (subst HasNotFailed z.ends free)

  none_finished : (v : World) (z : Run w setup items v) → HasNotFailed v → HasNotFailed z.finished
  none_finished v z free = none_yet z.finished z.finalised (finals_grow w (starting_registers z.entry) z.finished z.finalised z.finalises) (none_finalised v z free)

  none_scheduled : (v : World) (z : Run w setup items v) → HasNotFailed v → HasNotFailed z.scheduled
  none_scheduled v z free = none_yet z.scheduled z.finished (finishes_grow w z.scheduled z.finished z.finishes) (none_finished v z free)

  none_constructed : (v : World) (z : Run w setup items v) → HasNotFailed v → HasNotFailed z.constructed
  none_constructed v z free = none_yet z.constructed z.scheduled (items_grow w items z.constructed z.scheduled z.follows) (none_scheduled v z free)

  started : x.started ≡ y.started
  started = start_once laws w setup files files_are x.started y.started x.starts y.starts

  sound_started : Sound w x.started
  sound_started = laws.start w setup x.started only x.starts

  constructed : x.constructed ≡ y.constructed
  constructed = constructs_once turns w files files_are only x.started x.constructed y.constructed sound_started x.constructs
      (subst (λ (z : World). Constructs w z y.constructed) (sym started) y.constructs) (none_constructed world x none) (none_constructed other y nor)

  sound_constructed : Sound w x.constructed
  sound_constructed = sound_constructs turns w files files_are only x.started x.constructed sound_started x.constructs

  scheduled : x.scheduled ≡ y.scheduled
  scheduled = items_once turns w files files_are only items x.constructed x.scheduled y.scheduled sound_constructed x.follows
      (subst (λ (z : World). TakesItems w items z y.scheduled) (sym constructed) y.follows) (none_scheduled world x none) (none_scheduled other y nor)

  sound_scheduled : Sound w x.scheduled
  sound_scheduled = sound_items turns w files files_are only items x.constructed x.scheduled sound_constructed x.follows

  finished : x.finished ≡ y.finished
  finished = finishes_once turns w files files_are only x.scheduled x.finished y.finished sound_scheduled x.finishes
      (subst (λ (z : World). RunFinishes w z y.finished) (sym scheduled) y.finishes) (none_finished world x none) (none_finished other y nor)

  sound_finished : Sound w x.finished
  sound_finished = sound_finishes turns w files files_are only x.scheduled x.finished sound_scheduled x.finishes

  entry : x.entry ≡ y.entry
  entry = both_found (slice_get x.starts.started.entries 0) x.entry y.entry x.first
      (ap (λ (es : List HartEntry). slice_get es 0) (entries_once laws w setup files files_are x.started y.started x.starts y.starts) ∙ y.first)

  finalised : x.finalised ≡ y.finalised
  finalised = finals_once turns w files files_are only (starting_registers x.entry) x.finished x.finalised y.finalised sound_finished x.finalises
      (subst (λ (e : HartEntry). Finalises w (starting_registers e) x.finished y.finalised) (sym entry) (subst (λ (z : World). Finalises w (starting_registers y.entry) z y.finalised) (sym finished) y.finalises))
      (none_finalised world x none) (none_finalised other y nor)

  pub run_once : world ≡ other
  run_once = x.ends ∙ ap settled finalised ∙ sym y.ends

pub one_run : RunLaws → OneRun
one_run laws w setup items files world other files_are only x y none nor = run_once laws w setup items files files_are only world other x y none nor
