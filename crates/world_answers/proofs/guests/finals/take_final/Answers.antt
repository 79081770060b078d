use Rattle.std.proofs.Common.{◌≡◌, false, get_or, refl, ap}
use Rattle.history_state.specs.After.{after}
use Rattle.world_answers.specs.Answers.{is_service}
use Rattle.world_answers.specs.GuestsPart.GuestWorlds.Worlds.{world_of}
use Rattle.world_turns.specs.Run.{settled}
use Rattle.world_turns.specs.World.{World}
use Rattle.world_answers.specs.GuestsPart.Lemmas.Places.{read_at}
use Rattle.world_answers.specs.GuestsPart.Lemmas.Turns.{next_is}
use Rattle.world_answers.proofs.GuestsPart.Places.{comes_stays, has_room, is_last, last_read, run_stays, turns_stay}
use Rattle.world_answers.proofs.guests.finals.take_final.Goals as goal

pub returns-in_default-clause-other : goal.returns-in_default-clause-other
returns-in_default-clause-other c = (
  (get_or c.args.harts.now c.number-index.result c.index-harts-index.result).hart,
  read_at c.args.harts.now c.number-index.result c.args.id c.index-harts-index.result c.number-index.ensures c.requires.hart,
  c.in_default.ensures.none (after c.args.state.now.events),
)

pub prepare-requires : goal.prepare-requires
prepare-requires c =
    (c.guests_may_turn.ensures.finals c.args.state.now.harts c.requires.run.1.0 c.requires.run.1.1 (world_of c.args.state.now c.requires.run.0 c.args.harts.now) c.args.id
    (get_or c.args.harts.now c.number-index.result c.index-harts-index.result).hart c.in-Some.finalised.code c.in-Some.finalised.object c.requires.run.1.2
    (read_at c.args.harts.now c.number-index.result c.args.id c.index-harts-index.result c.number-index.ensures c.requires.hart) (c.in-Some.ensures.finalised (after c.args.state.now.events))).initialised

pub carry_out-requires-clause-run : goal.carry_out-requires-clause-run
carry_out-requires-clause-run c = run_stays c.args.state.now c.args.harts.now c.number-index.result c.args.id c.index-harts-index-2.result c.number-index.ensures c.requires.hart c.prepare.new.hart c.in-Ok.ensures.hart c.requires.run

pub carry_out-requires-clause-last : goal.carry_out-requires-clause-last
carry_out-requires-clause-last c =
    is_last c.args.state.now c.args.harts.now c.number-index.result c.args.id c.index-harts-index-2.result c.number-index.ensures c.requires.hart c.prepare.new.hart c.in-Ok.ensures.hart
    c.in-Ok.plan.code c.in-Ok.plan.object c.in-Some.finalised.code c.in-Some.finalised.object c.in-Ok.ensures.finalised.0 c.in-Ok.ensures.finalised.1
    (λ s. last_read c.args.harts.now c.number-index.result c.args.id c.index-harts-index.result c.index-harts-index-2.result c.number-index.ensures c.requires.hart
    c.in-Some.finalised.code c.in-Some.finalised.object c.in-Some.ensures.finalised s)

pub carry_out-requires-clause-room : goal.carry_out-requires-clause-room
carry_out-requires-clause-room c = has_room c.args.state.now c.args.harts.now c.number-index.result c.args.id c.index-harts-index-2.result c.number-index.ensures c.requires.hart c.prepare.new.hart c.in-Ok.ensures.hart c.in-Ok.ensures.room

pub returns-in-Ok-clause-turn : goal.returns-in-Ok-clause-turn
returns-in-Ok-clause-turn c = λ words.
    turns_stay c.args.state.now c.args.harts.now c.number-index.result c.args.id c.index-harts-index-2.result c.number-index.ensures c.requires.hart c.prepare.new.hart c.in-Ok.ensures.hart
    words (world_of c.carry_out.new.state words c.carry_out.new.harts) (c.carry_out.ensures.turn words)

pub returns-in-Ok-clause-comes : goal.returns-in-Ok-clause-comes
returns-in-Ok-clause-comes c = λ words.
    comes_stays c.args.state.now c.args.harts.now c.number-index.result c.args.id c.index-harts-index-2.result c.number-index.ensures c.requires.hart c.prepare.new.hart c.in-Ok.ensures.hart
    words (world_of c.carry_out.new.state words c.carry_out.new.harts) c.carry_out.result (c.carry_out.ensures.comes words)

pub lack_memory-requires-clause-run : goal.lack_memory-requires-clause-run
lack_memory-requires-clause-run c = run_stays c.args.state.now c.args.harts.now c.number-index.result c.args.id c.index-harts-index-2.result c.number-index.ensures c.requires.hart c.prepare.new.hart c.in-Err.ensures.hart c.requires.run

pub lack_memory-requires-clause-last : goal.lack_memory-requires-clause-last
lack_memory-requires-clause-last c = (
  c.in-Some.finalised.code,
  c.in-Some.finalised.object,
  is_last c.args.state.now c.args.harts.now c.number-index.result c.args.id c.index-harts-index-2.result c.number-index.ensures c.requires.hart c.prepare.new.hart c.in-Err.ensures.hart
      c.in-Some.finalised.code c.in-Some.finalised.object c.in-Some.finalised.code c.in-Some.finalised.object refl refl
      (λ s. last_read c.args.harts.now c.number-index.result c.args.id c.index-harts-index.result c.index-harts-index-2.result c.number-index.ensures c.requires.hart
      c.in-Some.finalised.code c.in-Some.finalised.object c.in-Some.ensures.finalised s),
)

pub returns-in-Err-clause-turn : goal.returns-in-Err-clause-turn
returns-in-Err-clause-turn c = λ words.
    turns_stay c.args.state.now c.args.harts.now c.number-index.result c.args.id c.index-harts-index-2.result c.number-index.ensures c.requires.hart c.prepare.new.hart c.in-Err.ensures.hart
    words (world_of c.lack_memory.new.state words c.lack_memory.new.harts) (c.lack_memory.ensures.turn words)

pub returns-in-Err-clause-comes : goal.returns-in-Err-clause-comes
returns-in-Err-clause-comes c = λ words.
    comes_stays c.args.state.now c.args.harts.now c.number-index.result c.args.id c.index-harts-index-2.result c.number-index.ensures c.requires.hart c.prepare.new.hart c.in-Err.ensures.hart
    words (world_of c.lack_memory.new.state words c.lack_memory.new.harts) c.lack_memory.result (c.lack_memory.ensures.comes words)

pub returns-in-Ok-clause-no_call : goal.returns-in-Ok-clause-no_call
returns-in-Ok-clause-no_call c = λ words.
    let old : World = world_of c.args.state.now words c.args.harts.now in
    next_is old c.args.id (get_or c.args.harts.now c.number-index.result c.index-harts-index.result).hart (λ past d. is_service d ≡ false)
    (read_at c.args.harts.now c.number-index.result c.args.id c.index-harts-index.result c.number-index.ensures c.requires.hart)
    (ap is_service (c.in-Some.ensures.finalised (after (settled old).journal)))

pub returns-in-Err-clause-no_call : goal.returns-in-Err-clause-no_call
returns-in-Err-clause-no_call c = λ words.
    let old : World = world_of c.args.state.now words c.args.harts.now in
    next_is old c.args.id (get_or c.args.harts.now c.number-index.result c.index-harts-index.result).hart (λ past d. is_service d ≡ false)
    (read_at c.args.harts.now c.number-index.result c.args.id c.index-harts-index.result c.number-index.ensures c.requires.hart)
    (ap is_service (c.in-Some.ensures.finalised (after (settled old).journal)))
