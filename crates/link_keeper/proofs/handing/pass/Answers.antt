use Rattle.link_keeper.proofs.Over.{again_asked, again_over, block_asked, block_over, events_given, events_over, grant_given, grant_over}
use Rattle.link_keeper.proofs.handing.pass.Goals as goal

pub pass_events-requires-clause-events : goal.pass_events-requires-clause-events
pass_events-requires-clause-events g c = events_given c.running_is_not_over.ensures.runs c.turns_append.ensures.events g.J.RunNaming.setting g.J.RunNaming.journal c.args.state.now c.args.keeper.now c.args.seat.now c.args.id
    c.requires.taken.0 c.requires.taken.1 c.requires.taken.2 c.args.acted.now.change c.args.acted.now.reply c.requires.machine c.requires.hand c.requires.taken.3 c.in-Events.is

pub pass_offer-requires-clause-grant : goal.pass_offer-requires-clause-grant
pass_offer-requires-clause-grant g c = grant_given c.running_is_not_over.ensures.runs c.turns_append.ensures.events g.J.RunNaming.setting g.J.RunNaming.journal c.args.state.now c.args.keeper.now c.args.seat.now c.args.id
    c.requires.taken.0 c.requires.taken.1 c.requires.taken.2 c.args.acted.now.change c.args.acted.now.reply c.requires.machine c.requires.hand c.requires.taken.3 c.in-Granted.offered c.in-Granted.is

pub pass_no_event-requires-clause-mark : goal.pass_no_event-requires-clause-mark
pass_no_event-requires-clause-mark g c = (block_asked c.running_is_not_over.ensures.runs c.turns_append.ensures.events g.J.RunNaming.setting g.J.RunNaming.journal c.args.state.now c.args.keeper.now c.args.seat.now c.args.id
    c.requires.taken.0 c.requires.taken.1 c.requires.taken.2 c.args.acted.now.change c.args.acted.now.reply c.requires.machine c.requires.hand c.requires.taken.3 c.in-Block.number c.in-Block.block c.in-Block.is c.block_entry-entry.result c.block_entry-entry.ensures).mark

pub pass_no_event-requires-clause-number : goal.pass_no_event-requires-clause-number
pass_no_event-requires-clause-number g c = (block_asked c.running_is_not_over.ensures.runs c.turns_append.ensures.events g.J.RunNaming.setting g.J.RunNaming.journal c.args.state.now c.args.keeper.now c.args.seat.now c.args.id
    c.requires.taken.0 c.requires.taken.1 c.requires.taken.2 c.args.acted.now.change c.args.acted.now.reply c.requires.machine c.requires.hand c.requires.taken.3 c.in-Block.number c.in-Block.block c.in-Block.is c.block_entry-entry.result c.block_entry-entry.ensures).number

pub pass_no_event-requires-clause-generation : goal.pass_no_event-requires-clause-generation
pass_no_event-requires-clause-generation g c = (block_asked c.running_is_not_over.ensures.runs c.turns_append.ensures.events g.J.RunNaming.setting g.J.RunNaming.journal c.args.state.now c.args.keeper.now c.args.seat.now c.args.id
    c.requires.taken.0 c.requires.taken.1 c.requires.taken.2 c.args.acted.now.change c.args.acted.now.reply c.requires.machine c.requires.hand c.requires.taken.3 c.in-Block.number c.in-Block.block c.in-Block.is c.block_entry-entry.result c.block_entry-entry.ensures).generation

pub pass_no_event-requires-clause-issued : goal.pass_no_event-requires-clause-issued
pass_no_event-requires-clause-issued g c = (block_asked c.running_is_not_over.ensures.runs c.turns_append.ensures.events g.J.RunNaming.setting g.J.RunNaming.journal c.args.state.now c.args.keeper.now c.args.seat.now c.args.id
    c.requires.taken.0 c.requires.taken.1 c.requires.taken.2 c.args.acted.now.change c.args.acted.now.reply c.requires.machine c.requires.hand c.requires.taken.3 c.in-Block.number c.in-Block.block c.in-Block.is c.block_entry-entry.result c.block_entry-entry.ensures).issued

pub pass_no_event-requires-in-Again-clause-mark : goal.pass_no_event-requires-in-Again-clause-mark
pass_no_event-requires-in-Again-clause-mark g c = (again_asked c.running_is_not_over.ensures.runs c.turns_append.ensures.events g.J.RunNaming.setting g.J.RunNaming.journal c.args.state.now c.args.keeper.now c.args.seat.now c.args.id
    c.requires.taken.0 c.requires.taken.1 c.requires.taken.2 c.args.acted.now.change c.args.acted.now.reply c.requires.machine c.requires.hand c.requires.taken.3 c.in-Again.shown c.in-Again.is c.again_entry-entry.result c.again_entry-entry.ensures).mark

pub pass_no_event-requires-in-Again-clause-number : goal.pass_no_event-requires-in-Again-clause-number
pass_no_event-requires-in-Again-clause-number g c = (again_asked c.running_is_not_over.ensures.runs c.turns_append.ensures.events g.J.RunNaming.setting g.J.RunNaming.journal c.args.state.now c.args.keeper.now c.args.seat.now c.args.id
    c.requires.taken.0 c.requires.taken.1 c.requires.taken.2 c.args.acted.now.change c.args.acted.now.reply c.requires.machine c.requires.hand c.requires.taken.3 c.in-Again.shown c.in-Again.is c.again_entry-entry.result c.again_entry-entry.ensures).number

pub pass_no_event-requires-in-Again-clause-generation : goal.pass_no_event-requires-in-Again-clause-generation
pass_no_event-requires-in-Again-clause-generation g c = (again_asked c.running_is_not_over.ensures.runs c.turns_append.ensures.events g.J.RunNaming.setting g.J.RunNaming.journal c.args.state.now c.args.keeper.now c.args.seat.now c.args.id
    c.requires.taken.0 c.requires.taken.1 c.requires.taken.2 c.args.acted.now.change c.args.acted.now.reply c.requires.machine c.requires.hand c.requires.taken.3 c.in-Again.shown c.in-Again.is c.again_entry-entry.result c.again_entry-entry.ensures).generation

pub pass_no_event-requires-in-Again-clause-issued : goal.pass_no_event-requires-in-Again-clause-issued
pass_no_event-requires-in-Again-clause-issued g c = (again_asked c.running_is_not_over.ensures.runs c.turns_append.ensures.events g.J.RunNaming.setting g.J.RunNaming.journal c.args.state.now c.args.keeper.now c.args.seat.now c.args.id
    c.requires.taken.0 c.requires.taken.1 c.requires.taken.2 c.args.acted.now.change c.args.acted.now.reply c.requires.machine c.requires.hand c.requires.taken.3 c.in-Again.shown c.in-Again.is c.again_entry-entry.result c.again_entry-entry.ensures).issued

pub returns-in-Events : goal.returns-in-Events
returns-in-Events g c b d spare turn = events_over c.running_is_not_over.ensures.runs c.turns_append.ensures.events g.J.RunNaming.setting g.J.RunNaming.journal c.args.state.now c.args.keeper.now c.args.seat.now c.args.id
    b d spare c.args.acted.now.change c.args.acted.now.reply c.requires.machine c.requires.hand turn c.in-Events.is c.pass_events.new.keeper c.pass_events.new.seat c.pass_events.result
    c.pass_events.ensures.passed c.pass_events.ensures.entry c.pass_events.ensures.calling

pub returns-in-Granted : goal.returns-in-Granted
returns-in-Granted g c b d spare turn = grant_over c.running_is_not_over.ensures.runs c.turns_append.ensures.events g.J.RunNaming.setting g.J.RunNaming.journal c.args.state.now c.args.keeper.now c.args.seat.now c.args.id
    b d spare c.args.acted.now.change c.args.acted.now.reply c.requires.machine c.requires.hand turn c.in-Granted.offered c.in-Granted.is c.pass_offer.new.keeper c.pass_offer.new.seat c.pass_offer.result
    c.pass_offer.ensures.passed c.pass_offer.ensures.grant c.pass_offer.ensures.mark c.pass_offer.ensures.generation

pub returns-in-Block : goal.returns-in-Block
returns-in-Block g c b d spare turn = block_over c.running_is_not_over.ensures.runs c.turns_append.ensures.events g.J.RunNaming.setting g.J.RunNaming.journal c.args.state.now c.args.keeper.now c.args.seat.now c.args.id
    b d spare c.args.acted.now.change c.args.acted.now.reply c.requires.machine c.requires.hand turn c.in-Block.number c.in-Block.block c.in-Block.is c.pass_no_event.new.keeper c.pass_no_event.new.seat
    c.block_entry-entry.result c.pass_no_event.result c.block_entry-entry.ensures c.pass_no_event.ensures.entry c.pass_no_event.ensures.passed c.pass_no_event.ensures.calling

pub returns-in-Again : goal.returns-in-Again
returns-in-Again g c b d spare turn = again_over c.running_is_not_over.ensures.runs c.turns_append.ensures.events g.J.RunNaming.setting g.J.RunNaming.journal c.args.state.now c.args.keeper.now c.args.seat.now c.args.id
    b d spare c.args.acted.now.change c.args.acted.now.reply c.requires.machine c.requires.hand turn c.in-Again.shown c.in-Again.is c.pass_no_event-in-Again.new.keeper c.pass_no_event-in-Again.new.seat
    c.again_entry-entry.result c.pass_no_event-in-Again.result c.again_entry-entry.ensures c.pass_no_event-in-Again.ensures.entry c.pass_no_event-in-Again.ensures.passed c.pass_no_event-in-Again.ensures.calling
