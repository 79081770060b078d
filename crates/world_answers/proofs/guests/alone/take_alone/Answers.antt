use Rattle.std.proofs.Common.{Some, [], refl, sym, subst}
use Rattle.history_event.specs.declared.hart_end.HartEnd.TheVariants as ends
use Rattle.hart_moves.specs.Due.{Due, due}
use Rattle.hart_seat.specs.HartParts.Views.{offered_of}
use Rattle.hart_turns.specs.declared.turned.Turned.{Turned}
use Rattle.hart_turns.specs.declared.turned.Turned.TheVariants.{Ends}
use Rattle.world_answers.specs.GuestsPart.Alone.{TakesAlone}
use Rattle.world_answers.proofs.GuestsPart.Arms.{asks_by, own_by}
use Rattle.world_answers.proofs.GuestsPart.Own.{takes_alone}
use Rattle.world_answers.proofs.guests.alone.take_alone.Goals as goal

pub returns-in-Instruction : goal.returns-in-Instruction
returns-in-Instruction c = λ s.
    subst (λ (d : Due). TakesAlone c.args.memory.now c.instruct.new.bus d c.args.hart.now.hart c.instruct.new.hart.hart (Some c.instruct.result)) (c.in-Instruction.ensures.is s)
    (takes_alone c.args.memory.now c.instruct.new.bus Due.instruction c.args.hart.now.hart c.instruct.new.hart.hart refl c.requires (Some c.instruct.result)
    (c.instruct.ensures.turn, c.instruct.ensures.ends))

pub returns-in-Copy : goal.returns-in-Copy
returns-in-Copy c = λ s.
    takes_alone c.args.memory.now c.take_turn.new.bus (due s c.args.hart.now.hart) c.args.hart.now.hart c.take_turn.new.hart.hart
    (own_by s c.args.hart.now.hart c.due.result c.in-Copy.is (c.due.ensures.is s)) c.requires c.take_turn.result (c.take_turn.ensures s)

pub returns-in-Exchange : goal.returns-in-Exchange
returns-in-Exchange c = λ s.
    subst (λ (d : Due). TakesAlone c.args.memory.now c.exchange.new.memory d c.args.hart.now.hart c.exchange.new.hart.hart (Some c.exchange.result)) (c.in-Exchange.ensures.is s)
    (subst (λ (t : Turned). TakesAlone c.args.memory.now c.exchange.new.memory (Due.exchange (offered_of c.in-Exchange.offered)) c.args.hart.now.hart c.exchange.new.hart.hart (Some t))
    (sym c.exchange.ensures.result) c.exchange.ensures.turn)

pub returns-in-Finish : goal.returns-in-Finish
returns-in-Finish c = λ s.
    subst (λ (d : Due). TakesAlone c.args.memory.now c.args.memory.now d c.args.hart.now.hart c.finish_offer.new.hart.hart (Some c.finish_offer.result)) (c.in-Finish.ensures.is s)
    (subst (λ (t : Turned). TakesAlone c.args.memory.now c.args.memory.now (Due.finish (offered_of c.in-Finish.field-0) c.in-Finish.field-1) c.args.hart.now.hart c.finish_offer.new.hart.hart (Some t))
    (sym c.finish_offer.ensures.result)
    (c.finish_offer.ensures.turn c.args.memory.now (offered_of c.in-Finish.field-0) c.in-Finish.field-1 c.in-Finish.ensures.parts))

pub returns-in-FuelOut : goal.returns-in-FuelOut
returns-in-FuelOut c = λ s.
    subst (λ (d : Due). TakesAlone c.args.memory.now c.args.memory.now d c.args.hart.now.hart c.args.hart.now.hart (Some (Ends ends.FuelOut))) (c.in-FuelOut.ensures.is s)
    (record { items = []; chain = refl; moves = λ w past h may. record { may = may; is = refl; leaves = refl }; place = refl; no_call = refl })

pub returns-in-Nothing : goal.returns-in-Nothing
returns-in-Nothing c = λ s. (asks_by s c.args.hart.now.hart c.due.result c.in-Nothing.is (c.due.ensures.is s) c.requires, refl, refl)
