-- Every world of a run is sound, and at its end no hart has an open grant.
use Rattle.std.proofs.Common.{◌≡◌, ℕ, zero, suc, ◌<◌, Bool, ◌&&◌, IsTrue, List, [], ◌∷◌, length, map, Option, Some, None, refl, sym, ap, subst, ◌∙◌, arith}
use Rattle.std.specs.List.{list_all, slice_get}
use Rattle.std.specs.Option.{is_some}
use Rattle.std.proofs.lemmas.Bool.{and_parts, false≢true}
use Rattle.std.proofs.lemmas.Option.{none-some}
use Rattle.history_event.specs.declared.hart_end.HartEnd.{HartEnd}
use Rattle.history_calls.specs.declared.link_served.startup.Setup.{Setup}
use Rattle.rv_hart.specs.Registers.{Registers}
use Rattle.history_state.specs.Accepted.{AcceptsOnly}
use Rattle.history_state.specs.After.{after}
use Rattle.history_state.specs.Setting.{Setting}
use Rattle.history_state.specs.Slots.{HasNoGrant}
use Rattle.hart_moves.specs.Harts.{HartState, Resolving}
use Rattle.hart_moves.specs.Moves.{freed}
use Rattle.hart_moves.specs.Starting.{starting_registers}
use Rattle.world_turns.specs.declared.schedules.schedule.TurnItem.{TurnItem}
use Rattle.world_turns.specs.Laws.{FinalsBeginSound, FinalsLackSound, SettlingIsSound, StartIsSound, TurnsAreSound}
use Rattle.world_turns.specs.Run.{RunBegins, Constructs, RunEnds, Finalises, RunFinishes, LacksMemory, Repeats, Rounds, Run, TakesItems, all_harts, has_ended, settled}
use Rattle.world_turns.specs.Sound.{Fits, Sound}
use Rattle.world_turns.specs.Throughout.{ConstructorsKeep, FinalsKeep, IsSoundThroughout, ItemsKeep, RoundsKeep, RunsAreSound, RunsEnd, RunsLeaveNoGrant}
use Rattle.world_turns.specs.Turn.{TakesTurn, Turn}
use Rattle.world_turns.specs.World.{World}
use Rattle.world_turns.specs.Lemmas.Turning.{freed_at}

-- ---- turns

-- what holds of a world, and with every turn of the next
module _ (w : Setting) (Holds : World → Type 0) (turns : (h : ℕ) (old new : World) → Holds old → Turn w h old new → Holds new) where
  takes : (h : ℕ) (old new : World) → TakesTurn w h old new → Holds old → Holds new
  takes h old new (TakesTurn.turn t) x = turns h old new x t
  takes h old new (TakesTurn.passed_over b reason at is same) x = subst Holds (sym same) x

  pub constructs : (old new : World) → Constructs w old new → Holds old → Holds new
  constructs old new (Constructs.no_more _ none) x = x
  constructs old new (Constructs.one_more _ between _ starts turn more) x = constructs between new more (turns 0 old between x turn)

  repeats : (h count : ℕ) (old new : World) → Repeats w h count old new → Holds old → Holds new
  repeats h count old new (Repeats.no_more _) x = x
  repeats h count old new (Repeats.one_more rest _ between _ taken more) x = repeats h rest between new more (takes h old between taken x)

  pub items_keep : (items : List TurnItem) (old new : World) → TakesItems w items old new → Holds old → Holds new
  items_keep items old new (TakesItems.no_more _) x = x
  items_keep items old new (TakesItems.one_more item rest _ between _ first more) x = items_keep rest between new more (repeats item.hart item.count old between first x)

  rounds : (harts : List ℕ) (old new : World) → Rounds w harts old new → Holds old → Holds new
  rounds harts old new (Rounds.no_more _) x = x
  rounds harts old new (Rounds.one_more h rest _ between _ taken more) x = rounds rest between new more (takes h old between taken x)

  pub finishes : (old new : World) → RunFinishes w old new → Holds old → Holds new
  finishes old new (RunFinishes.no_more _ all) x = x
  finishes old new (RunFinishes.one_more _ between _ runs round more) x = finishes between new more (rounds (all_harts old) old between round x)

  pub ends_keep : (old new : World) → RunEnds w old new → Holds old → Holds new
  ends_keep old new (RunEnds.no_more _ all) x = x
  ends_keep old new (RunEnds.one_more _ between _ runs turn more) x = ends_keep between new more (turns 0 old between x turn)

  pub finals : (registers : Registers) (old new : World) → ((begun : World) → RunBegins registers old begun → Holds begun) → (LacksMemory w old new → Holds new) → Finalises w registers old new → Holds old → Holds new
  finals registers old new begins lacks (Finalises.none_runs exited same) x = subst Holds (sym same) x
  finals registers old new begins lacks (Finalises.none_is_left none same) x = subst Holds (sym same) x
  finals registers old new begins lacks (Finalises.no_memory exited lack) x = lacks lack
  finals registers old new begins lacks (Finalises.all_run begun exited begin run) x = ends_keep begun new run (begins begun begin)

turns_by : TurnsAreSound → (w : Setting) → AcceptsOnly w.machine → (h : ℕ) (old new : World) → Sound w old → Turn w h old new → Sound w new
turns_by turns w only h old new x turn = turns w h old new only x turn

pub constructors_keep : TurnsAreSound → ConstructorsKeep
constructors_keep turns w old new only = constructs w (Sound w) (turns_by turns w only) old new

pub schedule_keeps : TurnsAreSound → ItemsKeep
schedule_keeps turns w items old new only = items_keep w (Sound w) (turns_by turns w only) items old new

pub rounds_keep : TurnsAreSound → RoundsKeep
rounds_keep turns w old new only = finishes w (Sound w) (turns_by turns w only) old new

pub finals_keep : TurnsAreSound → FinalsBeginSound → FinalsLackSound → FinalsKeep
finals_keep turns begin lack w registers old new only final x =
    finals w (Sound w) (turns_by turns w only) registers old new (λ begun b. begin w registers old begun b x) (λ l. lack w old new only x l) final x

pub runs_sound : StartIsSound → TurnsAreSound → FinalsBeginSound → FinalsLackSound → SettlingIsSound → RunsAreSound
runs_sound start turns begin lack settle w setup items world run only =
    let started : Sound w run.started = start w setup run.started only run.starts in
    let constructed : Sound w run.constructed = constructors_keep turns w run.started run.constructed only run.constructs started in
    let scheduled : Sound w run.scheduled = schedule_keeps turns w items run.constructed run.scheduled only run.follows constructed in
    let finished : Sound w run.finished = rounds_keep turns w run.scheduled run.finished only run.finishes scheduled in
    let finalised : Sound w run.finalised = finals_keep turns begin lack w (starting_registers run.entry) run.finished run.finalised only run.finalises finished in
    record {
      started = started;
      constructed = constructed;
      scheduled = scheduled;
      finished = finished;
      finalised = finalised;
      ended = subst (λ (x : World). Sound w x) (sym run.ends) (settle w run.finalised only finalised);
    }

-- ---- ends

-- what doesn't look at a slot holds of harts that are freed where it holds of them
pub freed_alike : (p : HartState → Bool) → ((b : HartState) → p (freed b) ≡ p b) → (harts : List HartState) → list_all p (map freed harts) ≡ list_all p harts
freed_alike p same [] = refl
freed_alike p same (b ∷ rest) = ap (λ (t : Bool). t && list_all p (map freed rest)) (same b) ∙ ap (λ (t : Bool). p b && t) (freed_alike p same rest)

abbrev pub HaveEnded : List HartState → Type 0
HaveEnded harts = IsTrue (list_all has_ended harts)

pub rounds_end : (w : Setting) (old new : World) → RunFinishes w old new → HaveEnded new.harts
rounds_end w old new (RunFinishes.no_more _ all) = all
rounds_end w old new (RunFinishes.one_more _ between _ runs round more) = rounds_end w between new more

pub turns_end : (w : Setting) (old new : World) → RunEnds w old new → HaveEnded new.harts
turns_end w old new (RunEnds.no_more _ all) = all
turns_end w old new (RunEnds.one_more _ between _ runs turn more) = turns_end w between new more

finals_end : (w : Setting) (registers : Registers) (old new : World) → HaveEnded old.harts → Finalises w registers old new → HaveEnded new.harts
finals_end w registers old new over (Finalises.none_runs exited same) = subst (λ (x : World). HaveEnded x.harts) (sym same) over
finals_end w registers old new over (Finalises.none_is_left none same) = subst (λ (x : World). HaveEnded x.harts) (sym same) over
finals_end w registers old new over (Finalises.no_memory exited lack) =
    subst (λ (x : World). HaveEnded x.harts) (sym lack.leaves)
    (freed_alike has_ended (λ b. refl) lack.others ∙ (and_parts (has_ended lack.first) (list_all has_ended lack.others) (subst HaveEnded lack.harts over)).1)
finals_end w registers old new over (Finalises.all_run begun exited begin run) = turns_end w begun new run

finalised_end : (w : Setting) (setup : Setup) (items : List TurnItem) (world : World) (run : Run w setup items world) → HaveEnded run.finalised.harts
finalised_end w setup items world run = finals_end w (starting_registers run.entry) run.finished run.finalised (rounds_end w run.scheduled run.finished run.finishes) run.finalises

pub runs_end : RunsEnd
runs_end w setup items world run =
    subst (λ (x : World). HaveEnded x.harts) (sym run.ends) (freed_alike has_ended (λ b. refl) run.finalised.harts ∙ finalised_end w setup items world run)

-- ---- grants

pub some_end : (e : Option HartEnd) → IsTrue (is_some e) → (reason : HartEnd) × (e ≡ Some reason)
some_end (Some reason) is = (reason, refl)
some_end None is = absurd (false≢true is)

each_ended : (harts : List HartState) (h : ℕ) (b : HartState) → HaveEnded harts → slice_get harts h ≡ Some b → (reason : HartEnd) × (b.«end» ≡ Some reason)
each_ended [] h b all at = absurd (none-some b at)
each_ended (c ∷ rest) zero b all at =
    let same : c ≡ b = cc in
    some_end b.«end» (subst (λ (x : HartState). IsTrue (has_ended x)) same (and_parts (has_ended c) (list_all has_ended rest) all).0)
each_ended (c ∷ rest) (suc h) b all at = each_ended rest h b (and_parts (has_ended c) (list_all has_ended rest) all).1 at

there : (harts : List HartState) (h : ℕ) → h < length harts → (b : HartState) × (slice_get harts h ≡ Some b)
there [] h less = absurd (omega (arith, less))
there (b ∷ rest) zero less = (b, refl)
there (b ∷ rest) (suc h) less = there rest h (omega (arith, less))

none_left : (w : Setting) (world : World) → Sound w world → Sound w (settled world) → HaveEnded world.harts → (h : ℕ) → h < w.machine.harts → HasNoGrant (after (settled world).journal) h
none_left w world before x over h less =
    let at = there (settled world).harts h (subst (λ (n : ℕ). h < n) (sym x.harts) less) in
    let from = freed_at world.harts h at.0 at.1 in
    let end = each_ended world.harts h from.0 over from.1 in
    let idle : at.0.resolving ≡ Resolving.idle = ap (λ (b : HartState). b.resolving) (sym from.2) ∙ before.rests h from.0 end.0 from.1 end.1 in
    subst (λ (r : Resolving). Fits (after (settled world).journal) (settled world).words h r) idle (x.fits h at.0 at.1)

pub runs_leave_no_grant : RunsAreSound → RunsLeaveNoGrant
runs_leave_no_grant sound w setup items world run only h less =
    let x : IsSoundThroughout w setup items world run = sound w setup items world run only in
    subst (λ (y : World). HasNoGrant (after y.journal) h) (sym run.ends)
    (none_left w run.finalised x.finalised (subst (λ (y : World). Sound w y) run.ends x.ended) (finalised_end w setup items world run) h less)
