use Rattle.std.proofs.Common.{◌≡◌, ◌++◌, get_or, sym, ap, subst, ◌∙◌}
use Rattle.history_event.specs.declared.hart_end.HartEnd.TheVariants.{Memory}
use Rattle.history_state.specs.After.{after}
use Rattle.hart_moves.specs.Due.{due}
use Rattle.hart_moves.specs.Harts.{HartState}
use Rattle.world_answers.specs.GuestsPart.GuestWorlds.Worlds.{world_of}
use Rattle.world_answers.specs.declared.guests.guest_worlds.turn.Turn.TheVariants as came_as
use Rattle.world_answers.specs.GuestsPart.Alone.{IsToEnd}
use Rattle.world_answers.specs.GuestsPart.Lemmas.Places.{read_at}
use Rattle.world_answers.specs.GuestsPart.Lemmas.Turns.{came_to_end, may_end, took_its_end}
use Rattle.world_answers.specs.ReturnsPart.Settling.{harts_in}
use Rattle.world_turns.specs.World.{settling}
use Rattle.world_answers.proofs.GuestsPart.Lasting.{is_to_end, runs_last}
use Rattle.world_answers.proofs.GuestsPart.Places.{due_here}
use Rattle.world_answers.proofs.guests.finals.lack_memory.Goals as goal

pub spend-requires : goal.spend-requires
spend-requires c =
    let hart : HartState = (get_or c.args.harts.now c.number.result c.index-harts-number.result).hart in
    (c.guests_may_turn.ensures.finals c.args.state.now.harts c.requires.run.1.0 c.requires.run.1.1 (world_of c.args.state.now c.requires.run.0 c.args.harts.now) c.args.id
    hart c.requires.last.0 c.requires.last.1 c.requires.run.1.2
    (read_at c.args.harts.now c.number.result c.args.id c.index-harts-number.result c.number.ensures c.requires.hart)
    ((due_here c.args.state.now c.args.harts.now c.number.result c.args.id c.index-harts-number.result c.number.ensures c.requires.hart c.requires.last.0 c.requires.last.1 c.requires.last.2) (after c.args.state.now.events))).fuel

pub end_hart-requires-clause-settling : goal.end_hart-requires-clause-settling
end_hart-requires-clause-settling c =
    let hart : HartState = (get_or c.args.harts.now c.number.result c.index-harts-number.result).hart in
    (may_end c.args.state.now c.requires.run.0 c.requires.run.0 c.args.harts.now c.number.result c.args.id c.index-harts-number.result c.spend.new.self c.number.ensures c.requires.hart
    c.ends_are_turns.ensures.may c.requires.run.1 (runs_last (after c.args.state.now.events) hart c.requires.last.0 c.requires.last.1 ((due_here c.args.state.now c.args.harts.now c.number.result c.args.id c.index-harts-number.result c.number.ensures c.requires.hart c.requires.last.0 c.requires.last.1 c.requires.last.2) (after c.args.state.now.events))) (ap (λ (b : HartState). b.resolving) c.spend.ensures)).0

pub end_hart-requires-clause-ends : goal.end_hart-requires-clause-ends
end_hart-requires-clause-ends c =
    let hart : HartState = (get_or c.args.harts.now c.number.result c.index-harts-number.result).hart in
    (may_end c.args.state.now c.requires.run.0 c.requires.run.0 c.args.harts.now c.number.result c.args.id c.index-harts-number.result c.spend.new.self c.number.ensures c.requires.hart
    c.ends_are_turns.ensures.may c.requires.run.1 (runs_last (after c.args.state.now.events) hart c.requires.last.0 c.requires.last.1 ((due_here c.args.state.now c.args.harts.now c.number.result c.args.id c.index-harts-number.result c.number.ensures c.requires.hart c.requires.last.0 c.requires.last.1 c.requires.last.2) (after c.args.state.now.events))) (ap (λ (b : HartState). b.resolving) c.spend.ensures)).1

pub returns-clause-turn : goal.returns-clause-turn
returns-clause-turn c = λ words w on.
    let hart : HartState = (get_or c.args.harts.now c.number.result c.index-harts-number.result).hart in
    let past = c.args.state.now.events ++ settling (harts_in c.args.harts.now) in
    took_its_end c.args.state.now words words c.args.harts.now c.number.result c.args.id c.index-harts-number.result c.spend.new.self c.number.ensures c.requires.hart
    c.end_hart.new.state c.end_hart.new.harts Memory c.end_hart.ensures.harts c.ends_are_turns.ensures.turn w
    (subst (λ (b : HartState). IsToEnd words words (due (after past) hart) hart b Memory) (sym c.spend.ensures)
    (is_to_end words (after past) hart c.requires.last.0 c.requires.last.1 ((due_here c.args.state.now c.args.harts.now c.number.result c.args.id c.index-harts-number.result c.number.ensures c.requires.hart c.requires.last.0 c.requires.last.1 c.requires.last.2) (after past))))
    ((may_end c.args.state.now c.requires.run.0 c.requires.run.0 c.args.harts.now c.number.result c.args.id c.index-harts-number.result c.spend.new.self c.number.ensures c.requires.hart
    c.ends_are_turns.ensures.may c.requires.run.1 (runs_last (after c.args.state.now.events) hart c.requires.last.0 c.requires.last.1 ((due_here c.args.state.now c.args.harts.now c.number.result c.args.id c.index-harts-number.result c.number.ensures c.requires.hart c.requires.last.0 c.requires.last.1 c.requires.last.2) (after c.args.state.now.events))) (ap (λ (b : HartState). b.resolving) c.spend.ensures)).1.may w on) c.end_hart.ensures.state

pub returns-clause-comes : goal.returns-clause-comes
returns-clause-comes c = λ words.
    let hart : HartState = (get_or c.args.harts.now c.number.result c.index-harts-number.result).hart in
    came_to_end c.args.state.now words words c.args.harts.now c.number.result c.args.id c.index-harts-number.result c.spend.new.self c.number.ensures c.requires.hart
    c.end_hart.new.state c.end_hart.new.harts Memory c.end_hart.ensures.harts c.end_hart.result c.end_hart.ensures.result (runs_last (after c.args.state.now.events) hart c.requires.last.0 c.requires.last.1 ((due_here c.args.state.now c.args.harts.now c.number.result c.args.id c.index-harts-number.result c.number.ensures c.requires.hart c.requires.last.0 c.requires.last.1 c.requires.last.2) (after c.args.state.now.events)))

pub returns-clause-no_wait : goal.returns-clause-no_wait
returns-clause-no_wait c = λ shown is. let no : came_as.Ended Memory ≡ came_as.Again shown = sym c.end_hart.ensures.result ∙ is in absurd cc
