use Rattle.std.proofs.Common.{◌≡◌, Some, false, get_or, refl, sym, ap, subst, ◌∙◌, ◌++◌}
use Rattle.history_state.specs.After.{after}
use Rattle.hart_moves.specs.Due.{due}
use Rattle.hart_moves.specs.Harts.{HartState}
use Rattle.hart_turns.specs.declared.turned.Turned.{Turned}
use Rattle.world_answers.specs.Answers.{is_service}
use Rattle.world_answers.specs.GuestsPart.GuestWorlds.Worlds.{world_of}
use Rattle.world_answers.specs.declared.guests.guest_worlds.turn.Turn.TheVariants as came_as
use Rattle.world_answers.specs.ReturnsPart.Settling.{harts_in}
use Rattle.world_turns.specs.Run.{settled}
use Rattle.world_turns.specs.Turn.{TakesTurn}
use Rattle.world_turns.specs.World.{World, settling}
use Rattle.world_answers.specs.GuestsPart.Alone.{TakesAlone}
use Rattle.world_answers.specs.GuestsPart.Lemmas.Places.{read_at, set_same, written_at}
use Rattle.world_answers.specs.GuestsPart.Lemmas.Turns.{came_to_end, ended_by, may_end, next_is, runs_by, runs_on, took_its_end, went_on}
use Rattle.world_answers.proofs.GuestsPart.Freed.{ended_due}
use Rattle.world_answers.proofs.guests.quiet.take_quiet.Goals as goal

-- ---- the hart has ended

pub returns-then-is_some-clause-turn : goal.returns-then-is_some-clause-turn
returns-then-is_some-clause-turn c = λ w on.
    let hart : HartState = (get_or c.args.harts.now c.number-index.result c.index-harts-index.result).hart in
    let over = ended_by hart c.end.result c.is_some.result c.end.ensures c.is_some.ensures c.if-is_some.true in
    TakesTurn.passed_over hart over.0 (read_at c.args.harts.now c.number-index.result c.args.id c.index-harts-index.result c.number-index.ensures c.requires.hart) over.1 refl

pub returns-then-is_some-clause-comes : goal.returns-then-is_some-clause-comes
returns-then-is_some-clause-comes c =
    let hart : HartState = (get_or c.args.harts.now c.number-index.result c.index-harts-index.result).hart in
    let over = ended_by hart c.end.result c.is_some.result c.end.ensures c.is_some.ensures c.if-is_some.true in
    (refl, (over.0, (hart, read_at c.args.harts.now c.number-index.result c.args.id c.index-harts-index.result c.number-index.ensures c.requires.hart, over.1)))

pub returns-then-is_some-clause-no_call : goal.returns-then-is_some-clause-no_call
returns-then-is_some-clause-no_call c =
    let old : World = world_of c.args.state.now c.args.memory.now c.args.harts.now in
    let hart : HartState = (get_or c.args.harts.now c.number-index.result c.index-harts-index.result).hart in
    let over = ended_by hart c.end.result c.is_some.result c.end.ensures c.is_some.ensures c.if-is_some.true in
    next_is old c.args.id hart (λ past d. is_service d ≡ false)
    (read_at c.args.harts.now c.number-index.result c.args.id c.index-harts-index.result c.number-index.ensures c.requires.hart)
    (ap is_service (ended_due (after (settled old).journal) hart over.0 over.1))

-- ---- it asks the linker

pub take_alone-requires : goal.take_alone-requires
take_alone-requires c =
    runs_by c.args.harts.now c.number-index.result c.args.id c.index-harts-index.result c.index-harts-index-2.result c.end.result c.is_some.result c.number-index.ensures c.requires.hart
    c.end.ensures c.is_some.ensures c.if-is_some.false

pub returns-in_default-clause-other : goal.returns-in_default-clause-other
returns-in_default-clause-other c = (
  (get_or c.args.harts.now c.number-index.result c.index-harts-index-2.result).hart,
  read_at c.args.harts.now c.number-index.result c.args.id c.index-harts-index-2.result c.number-index.ensures c.requires.hart,
  (c.in_default.ensures (after c.args.state.now.events)).0,
)

pub returns-in_default-clause-unchanged : goal.returns-in_default-clause-unchanged
returns-in_default-clause-unchanged c =
    let hart : HartState = (get_or c.args.harts.now c.number-index.result c.index-harts-index-2.result).hart in
    let same = c.in_default.ensures (after c.args.state.now.events) in (
      refl,
      same.1,
      written_at c.args.harts.now c.number-index.result c.args.id c.take_alone.new.hart hart c.number-index.ensures same.2
          ∙ set_same (harts_in c.args.harts.now) c.args.id hart
          (read_at c.args.harts.now c.number-index.result c.args.id c.index-harts-index-2.result c.number-index.ensures c.requires.hart),
    )

-- ---- it runs on

pub returns-in-Over-clause-turn : goal.returns-in-Over-clause-turn
returns-in-Over-clause-turn c = λ w on.
    let hart : HartState = (get_or c.args.harts.now c.number-index.result c.index-harts-index-2.result).hart in
    let alone = subst (λ (t : Turned). TakesAlone c.args.memory.now c.take_alone.new.memory (due (after c.args.state.now.events) hart) hart c.take_alone.new.hart.hart (Some t)) c.in-Over.is (c.in-Some.ensures (after c.args.state.now.events)) in
    went_on c.args.state.now c.args.memory.now c.take_alone.new.memory c.args.harts.now c.number-index.result c.args.id c.index-harts-index-2.result c.take_alone.new.hart c.number-index.ensures c.requires.hart
    c.guests_take_turns.ensures.quiet w alone

pub returns-in-Over-clause-comes : goal.returns-in-Over-clause-comes
returns-in-Over-clause-comes c =
    let hart : HartState = (get_or c.args.harts.now c.number-index.result c.index-harts-index-2.result).hart in
    let alone = subst (λ (t : Turned). TakesAlone c.args.memory.now c.take_alone.new.memory (due (after c.args.state.now.events) hart) hart c.take_alone.new.hart.hart (Some t)) c.in-Over.is (c.in-Some.ensures (after c.args.state.now.events)) in
    runs_on c.args.state.now c.args.memory.now c.take_alone.new.memory c.args.harts.now c.number-index.result c.args.id c.index-harts-index-2.result c.take_alone.new.hart c.number-index.ensures c.requires.hart
    alone.runs

pub returns-in-Again-clause-turn : goal.returns-in-Again-clause-turn
returns-in-Again-clause-turn c = λ w on.
    let hart : HartState = (get_or c.args.harts.now c.number-index.result c.index-harts-index-2.result).hart in
    let alone = subst (λ (t : Turned). TakesAlone c.args.memory.now c.take_alone.new.memory (due (after c.args.state.now.events) hart) hart c.take_alone.new.hart.hart (Some t)) c.in-Again.is (c.in-Some.ensures (after c.args.state.now.events)) in
    went_on c.args.state.now c.args.memory.now c.take_alone.new.memory c.args.harts.now c.number-index.result c.args.id c.index-harts-index-2.result c.take_alone.new.hart c.number-index.ensures c.requires.hart
    c.guests_take_turns.ensures.quiet w alone

pub returns-in-Again-clause-comes : goal.returns-in-Again-clause-comes
returns-in-Again-clause-comes c =
    let hart : HartState = (get_or c.args.harts.now c.number-index.result c.index-harts-index-2.result).hart in
    let alone = subst (λ (t : Turned). TakesAlone c.args.memory.now c.take_alone.new.memory (due (after c.args.state.now.events) hart) hart c.take_alone.new.hart.hart (Some t)) c.in-Again.is (c.in-Some.ensures (after c.args.state.now.events)) in
    runs_on c.args.state.now c.args.memory.now c.take_alone.new.memory c.args.harts.now c.number-index.result c.args.id c.index-harts-index-2.result c.take_alone.new.hart c.number-index.ensures c.requires.hart
    alone.runs

pub returns-in-Over-clause-no_call : goal.returns-in-Over-clause-no_call
returns-in-Over-clause-no_call c =
    let old : World = world_of c.args.state.now c.args.memory.now c.args.harts.now in
    let hart : HartState = (get_or c.args.harts.now c.number-index.result c.index-harts-index-2.result).hart in
    let alone = subst (λ (t : Turned). TakesAlone c.args.memory.now c.take_alone.new.memory (due (after (settled old).journal) hart) hart c.take_alone.new.hart.hart (Some t)) c.in-Over.is (c.in-Some.ensures (after (settled old).journal)) in
    next_is old c.args.id hart (λ past d. is_service d ≡ false)
    (read_at c.args.harts.now c.number-index.result c.args.id c.index-harts-index-2.result c.number-index.ensures c.requires.hart) alone.no_call

pub returns-in-Again-clause-no_call : goal.returns-in-Again-clause-no_call
returns-in-Again-clause-no_call c =
    let old : World = world_of c.args.state.now c.args.memory.now c.args.harts.now in
    let hart : HartState = (get_or c.args.harts.now c.number-index.result c.index-harts-index-2.result).hart in
    let alone = subst (λ (t : Turned). TakesAlone c.args.memory.now c.take_alone.new.memory (due (after (settled old).journal) hart) hart c.take_alone.new.hart.hart (Some t)) c.in-Again.is (c.in-Some.ensures (after (settled old).journal)) in
    next_is old c.args.id hart (λ past d. is_service d ≡ false)
    (read_at c.args.harts.now c.number-index.result c.args.id c.index-harts-index-2.result c.number-index.ensures c.requires.hart) alone.no_call

-- ---- it ends

pub end_hart-requires-clause-settling : goal.end_hart-requires-clause-settling
end_hart-requires-clause-settling c =
    let hart : HartState = (get_or c.args.harts.now c.number-index.result c.index-harts-index-2.result).hart in
    let alone = subst (λ (t : Turned). TakesAlone c.args.memory.now c.take_alone.new.memory (due (after c.args.state.now.events) hart) hart c.take_alone.new.hart.hart (Some t)) c.in-Ends.is (c.in-Some.ensures (after c.args.state.now.events)) in
    (may_end c.args.state.now c.args.memory.now c.take_alone.new.memory c.args.harts.now c.number-index.result c.args.id c.index-harts-index-2.result c.take_alone.new.hart c.number-index.ensures c.requires.hart
    c.ends_are_turns.ensures.may c.requires.run
    (runs_by c.args.harts.now c.number-index.result c.args.id c.index-harts-index.result c.index-harts-index-2.result c.end.result c.is_some.result c.number-index.ensures c.requires.hart
    c.end.ensures c.is_some.ensures c.if-is_some.false) alone.place).0

pub end_hart-requires-clause-ends : goal.end_hart-requires-clause-ends
end_hart-requires-clause-ends c =
    let hart : HartState = (get_or c.args.harts.now c.number-index.result c.index-harts-index-2.result).hart in
    let alone = subst (λ (t : Turned). TakesAlone c.args.memory.now c.take_alone.new.memory (due (after c.args.state.now.events) hart) hart c.take_alone.new.hart.hart (Some t)) c.in-Ends.is (c.in-Some.ensures (after c.args.state.now.events)) in
    (may_end c.args.state.now c.args.memory.now c.take_alone.new.memory c.args.harts.now c.number-index.result c.args.id c.index-harts-index-2.result c.take_alone.new.hart c.number-index.ensures c.requires.hart
    c.ends_are_turns.ensures.may c.requires.run
    (runs_by c.args.harts.now c.number-index.result c.args.id c.index-harts-index.result c.index-harts-index-2.result c.end.result c.is_some.result c.number-index.ensures c.requires.hart
    c.end.ensures c.is_some.ensures c.if-is_some.false) alone.place).1

pub returns-in-Ends-clause-turn : goal.returns-in-Ends-clause-turn
returns-in-Ends-clause-turn c = λ w on.
    let hart : HartState = (get_or c.args.harts.now c.number-index.result c.index-harts-index-2.result).hart in
    let alone = subst (λ (t : Turned). TakesAlone c.args.memory.now c.take_alone.new.memory (due (after (c.args.state.now.events ++ settling (harts_in c.args.harts.now))) hart) hart c.take_alone.new.hart.hart (Some t)) c.in-Ends.is (c.in-Some.ensures (after (c.args.state.now.events ++ settling (harts_in c.args.harts.now)))) in
    TakesTurn.turn (took_its_end c.args.state.now c.args.memory.now c.take_alone.new.memory c.args.harts.now c.number-index.result c.args.id c.index-harts-index-2.result c.take_alone.new.hart c.number-index.ensures c.requires.hart
    c.end_hart.new.state c.end_hart.new.harts c.in-Ends.reason c.end_hart.ensures.harts c.ends_are_turns.ensures.turn w alone
    ((may_end c.args.state.now c.args.memory.now c.take_alone.new.memory c.args.harts.now c.number-index.result c.args.id c.index-harts-index-2.result c.take_alone.new.hart c.number-index.ensures c.requires.hart
    c.ends_are_turns.ensures.may c.requires.run
    (runs_by c.args.harts.now c.number-index.result c.args.id c.index-harts-index.result c.index-harts-index-2.result c.end.result c.is_some.result c.number-index.ensures c.requires.hart
    c.end.ensures c.is_some.ensures c.if-is_some.false) alone.place).1.may w on)
    c.end_hart.ensures.state)

pub returns-in-Ends-clause-comes : goal.returns-in-Ends-clause-comes
returns-in-Ends-clause-comes c =
    came_to_end c.args.state.now c.args.memory.now c.take_alone.new.memory c.args.harts.now c.number-index.result c.args.id c.index-harts-index-2.result c.take_alone.new.hart c.number-index.ensures c.requires.hart
    c.end_hart.new.state c.end_hart.new.harts c.in-Ends.reason c.end_hart.ensures.harts c.end_hart.result c.end_hart.ensures.result
    (runs_by c.args.harts.now c.number-index.result c.args.id c.index-harts-index.result c.index-harts-index-2.result c.end.result c.is_some.result c.number-index.ensures c.requires.hart
    c.end.ensures c.is_some.ensures c.if-is_some.false)

pub returns-in-Ends-clause-no_call : goal.returns-in-Ends-clause-no_call
returns-in-Ends-clause-no_call c =
    let old : World = world_of c.args.state.now c.args.memory.now c.args.harts.now in
    let hart : HartState = (get_or c.args.harts.now c.number-index.result c.index-harts-index-2.result).hart in
    let alone = subst (λ (t : Turned). TakesAlone c.args.memory.now c.take_alone.new.memory (due (after (settled old).journal) hart) hart c.take_alone.new.hart.hart (Some t)) c.in-Ends.is (c.in-Some.ensures (after (settled old).journal)) in
    next_is old c.args.id hart (λ past d. is_service d ≡ false)
    (read_at c.args.harts.now c.number-index.result c.args.id c.index-harts-index-2.result c.number-index.ensures c.requires.hart) alone.no_call

pub returns-in-Ends-clause-no_wait : goal.returns-in-Ends-clause-no_wait
returns-in-Ends-clause-no_wait c = λ shown is. let no : came_as.Ended c.in-Ends.reason ≡ came_as.Again shown = sym c.end_hart.ensures.result ∙ is in absurd cc
