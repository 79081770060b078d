-- A run that starts, and is played by a schedule.
use Rattle.std.proofs.Common.{◌≡◌, false, List, ◌++◌, refl, sym, subst, ◌∙◌, true≢false}
use Rattle.rv_hart.specs.Registers.{Registers}
use Rattle.history_state.specs.Setting.{Setting}
use Rattle.world_turns.specs.declared.schedules.schedule.TurnItem.{TurnItem}
use Rattle.world_turns.specs.Run.{Constructs, Finalises, Repeats, TakesItems, is_starting}
use Rattle.world_turns.specs.World.{World}
use Rattle.plain_world.specs.Laws.{HandedIsRun, PlayedIsRun}
use Rattle.plain_world.specs.Playing.{FinalisesOnce, TakesByHand}
use Rattle.plain_world.proofs.Begun.{stays_begun}
use Rattle.plain_world.proofs.Going.{starts_first, turn_of}

once : (w : Setting) (registers : Registers) (old new : World) → FinalisesOnce w false registers old new → Finalises w registers old new
once w registers old new (FinalisesOnce.for_once before finals) = finals
once w registers old new (FinalisesOnce.no_more before same) = absurd (true≢false (sym before))

pub played : PlayedIsRun
played w setup entry items started world at plays = record {
  started = started;
  starts = at.starts;
  constructed = plays.constructed;
  constructs = plays.constructs;
  scheduled = plays.scheduled;
  follows = plays.follows;
  finished = plays.finished;
  finishes = plays.finishes;
  entry = entry;
  first = at.first;
  finalised = plays.finalised;
  finalises = once w _ plays.finished plays.finalised plays.finalises;
  ends = plays.ends;
}

-- what follows turns by hand goes on from them: what is left of the constructors, and then the items
record Follows (w : Setting) (items : List TurnItem) (old scheduled : World) : Type 0 where
  pub constructed : World
  pub constructs : Constructs w old constructed
  pub follows : TakesItems w items constructed scheduled

-- behind the constructors none are left
begun : (w : Setting) (old new : World) → is_starting old ≡ false → Constructs w old new → new ≡ old
begun w old new over (Constructs.no_more _ is) = refl
begun w old new over (Constructs.one_more _ between _ starting turn rest) = absurd (true≢false (sym starting ∙ over))

handed : (w : Setting) (taken items : List TurnItem) (old between scheduled : World) → TakesByHand w taken old between → Follows w items between scheduled → Follows w (taken ++ items) old scheduled
handed w taken items old between scheduled (TakesByHand.no_more _) x = x
handed w taken items old between scheduled (TakesByHand.constructs _ _ next _ starting takes rest) x =
    let behind = handed w taken items next between scheduled rest x in
    record {
      constructed = behind.constructed;
      constructs = Constructs.one_more old next behind.constructed starting (turn_of w 0 old next (starts_first old starting) takes) behind.constructs;
      follows = behind.follows;
    }
handed w taken items old between scheduled (TakesByHand.takes h more _ next _ over takes rest) x =
    let behind = handed w more items next between scheduled rest x in
    let same : behind.constructed ≡ next = begun w next behind.constructed (stays_begun w h old next takes over) behind.constructs in
    record {
      constructed = old;
      constructs = Constructs.no_more old over;
      follows = TakesItems.one_more (record { hart = h; count = 1 }) (more ++ items) old next scheduled
          (Repeats.one_more 0 old next next takes (Repeats.no_more next))
          (subst (λ (world : World). TakesItems w (more ++ items) world scheduled) same behind.follows);
    }

pub handed_is_run : HandedIsRun
handed_is_run w setup entry taken items started between world at hand plays =
    let x : Follows w (taken ++ items) started plays.scheduled =
    handed w taken items started between plays.scheduled hand (record { constructed = plays.constructed; constructs = plays.constructs; follows = plays.follows }) in
    played w setup entry (taken ++ items) started world at
    (record {
      constructed = x.constructed;
      constructs = x.constructs;
      scheduled = plays.scheduled;
      follows = x.follows;
      finished = plays.finished;
      finishes = plays.finishes;
      finalised = plays.finalised;
      finalises = plays.finalises;
      ends = plays.ends;
    })
