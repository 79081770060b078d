use Rattle.std.proofs.Common.{nat_lt, length, sym, ap, subst, ◌∙◌}
use Rattle.history_event.specs.declared.event.Event.TheVariants.{Ended}
use Rattle.history_event.specs.declared.hart_end.HartEnd.{HartEnd}
use Rattle.hart_moves.specs.Moves.{ended, spent}
use Rattle.link_state.specs.Table.{LinkTable, appended}
use Rattle.world_answers.specs.GuestsPart.GuestWorlds.Worlds.{MayEndNow}
use Rattle.link_keeper.proofs.Premises.{end_here, ends_now, free}
use Rattle.link_keeper.proofs.Taken.{locate_acts, located_opens, unlocated_acts, unlocated_is, unlocated_opens}
use Rattle.link_keeper.proofs.acting.locate.Goals as goal

pub give_block-requires : goal.give_block-requires
give_block-requires g c = (free g.J.RunNaming.setting c.args.state.now c.args.id c.args.hart.now.hart c.requires.may.may).fuel

pub end_call-requires-clause-fuel : goal.end_call-requires-clause-fuel
end_call-requires-clause-fuel g c = (free g.J.RunNaming.setting c.args.state.now c.args.id c.args.hart.now.hart c.requires.may.may).fuel

pub end_call-requires-clause-may : goal.end_call-requires-clause-may
end_call-requires-clause-may g c = subst (λ (t : LinkTable). MayEndNow t.harts t.events c.args.id)
    (sym (unlocated_is c.args.state.now c.tls_block.new.self c.args.id c.args.number c.in-Err.fault c.in-Err.ensures.err))
    (ends_now g.J.RunNaming.setting c.args.state.now c.args.id c.args.hart.now.hart c.requires.may.may c.ends_are_few.ensures c.harts_fit.ensures.may_end)

pub returns-in-Ok-clause-acts : goal.returns-in-Ok-clause-acts
returns-in-Ok-clause-acts g c = λ spare room.
    locate_acts g.J.RunNaming.setting c.args.state.now c.tls_block.new.self c.args.id c.args.number c.args.offset c.in-Ok.block c.args.hart.now.hart c.give_block.new.hart.hart
    (free g.J.RunNaming.setting c.args.state.now c.args.id c.args.hart.now.hart c.requires.may.may) c.requires.may.may.machine c.requires.asked c.in-Ok.ensures.ok c.give_block.ensures.hart
    (nat_lt (length c.as_slice-count.result.now) (length c.as_slice.result.now)) c.give_block.result.change c.give_block.result.reply spare
    (λ i. nat_lt (length ((c.as_slice-count.ensures ∙ c.journal.ensures.events) i)) (length ((c.as_slice.ensures ∙ c.journal-in-Ok.ensures.events) i)))
    c.give_block.ensures.change c.give_block.ensures.reply room

pub returns-in-Err-clause-acts : goal.returns-in-Err-clause-acts
returns-in-Err-clause-acts g c = λ spare room.
    unlocated_acts g.J.RunNaming.setting c.args.state.now c.tls_block.new.self c.end_call.new.state c.args.id c.args.number c.args.offset c.args.hart.now.hart c.end_call.new.hart.hart c.in-Err.fault
    c.end_call.result.change c.end_call.result.reply spare (free g.J.RunNaming.setting c.args.state.now c.args.id c.args.hart.now.hart c.requires.may.may) c.requires.may.may.machine c.requires.asked c.in-Err.ensures.err
    (end_here g.J.RunNaming.setting c.args.state.now c.args.id c.args.hart.now.hart c.requires.may.may c.ends_are_few.ensures c.harts_fit.ensures.may_end)
    (c.end_call.ensures.noted ∙ ap (λ (e : HartEnd). appended c.tls_block.new.self (Ended c.args.id e)) c.tls_end.ensures)
    (c.end_call.ensures.hart ∙ ap (λ (e : HartEnd). ended e (spent c.args.hart.now.hart)) c.tls_end.ensures) c.end_call.ensures.change c.end_call.ensures.reply

pub returns-in-Ok-clause-none : goal.returns-in-Ok-clause-none
returns-in-Ok-clause-none g c =
    located_opens g.J.RunNaming.setting c.args.state.now c.tls_block.new.self c.args.id c.args.number c.args.offset c.in-Ok.block c.args.hart.now.hart c.give_block.new.hart.hart
    (free g.J.RunNaming.setting c.args.state.now c.args.id c.args.hart.now.hart c.requires.may.may) c.requires.may.may.machine c.requires.asked c.in-Ok.ensures.ok c.give_block.ensures.hart

pub returns-in-Err-clause-none : goal.returns-in-Err-clause-none
returns-in-Err-clause-none g c = unlocated_opens c.args.state.now c.tls_block.new.self c.end_call.new.state c.args.id c.args.number c.in-Err.fault c.tls_end.result c.in-Err.ensures.err c.end_call.ensures.noted
