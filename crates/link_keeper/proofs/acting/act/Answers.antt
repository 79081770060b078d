use Rattle.std.proofs.Common.{◌<◌, ℕ, refl, sym, ap, subst, ◌∙◌}
use Rattle.history_calls.specs.CallLaws.Coming.{IsOver}
use Rattle.history_journal.specs.Following.{machine_of}
use Rattle.history_state.specs.After.{after}
use Rattle.hart_moves.specs.Due.{Due, due}
use Rattle.hart_moves.specs.Harts.{HartState}
use Rattle.hart_moves.specs.Moves.{freed, spent}
use Rattle.hart_moves.specs.Waiting.{awaiting}
use Rattle.link_state.specs.Table.{LinkTable}
use Rattle.world_memory.specs.declared.turn_answers.answered.MemoryChange.TheVariants as change
use Rattle.world_answers.specs.Openings.{TurnReadsNothing}
use Rattle.link_keeper.specs.declared.acting.Reply.TheVariants as reply
use Rattle.link_keeper.proofs.Premises.{carried_call, free, passes_here}
use Rattle.link_keeper.proofs.Taken.{carried_acts, carried_due, carried_shown, complete_acts, complete_shown, waits_act, waits_shown}
use Rattle.link_keeper.proofs.acting.act.Goals as goal

pub complete-requires : goal.complete-requires
complete-requires g c = passes_here g.J.RunNaming.setting c.args.state.now c.args.id c.args.hart.now.hart c.requires.may c.functions_may_pass.ensures.frames

pub wait-requires : goal.wait-requires
wait-requires g c = subst (λ (b : HartState). b.turns < b.fuel) (sym (c.complete.ensures.other c.if-complete.false).1)
    (free g.J.RunNaming.setting c.args.state.now c.args.id c.args.hart.now.hart c.requires.may).fuel

pub call-requires-clause-may : goal.call-requires-clause-may
call-requires-clause-may g c = carried_call g.J.RunNaming.setting c.args.state.now c.complete.new.state c.args.id c.args.hart.now.hart c.complete.new.hart.hart
    (c.complete.ensures.other c.if-complete.false).0 (c.complete.ensures.other c.if-complete.false).1 c.requires.may (sym c.complete.ensures.told ∙ c.if-complete.false) c.in-None.ensures.none

pub call-requires-clause-over : goal.call-requires-clause-over
call-requires-clause-over g c = subst (λ (n : ℕ). IsOver (machine_of n) c.args.folders.now (g.L.Library.files c.args.library.now) g.J.RunNaming.setting) (sym c.complete.ensures.harts) c.requires.over

pub returns-then-complete-clause-acts : goal.returns-then-complete-clause-acts
returns-then-complete-clause-acts g c =
    complete_acts g.J.RunNaming.setting c.args.state.now.events c.complete.new.state c.args.id c.args.hart.now.hart c.complete.new.hart.hart (due (after c.args.state.now.events) c.args.hart.now.hart)
    change.Nothing reply.Events c.args.blocks.now.spare refl (sym c.complete.ensures.told ∙ c.if-complete.true)
    (free g.J.RunNaming.setting c.args.state.now c.args.id c.args.hart.now.hart c.requires.may) (c.complete.ensures.turn c.if-complete.true g.J.RunNaming.setting c.requires.may.machine) refl refl

pub returns-then-complete-clause-shown : goal.returns-then-complete-clause-shown
returns-then-complete-clause-shown g c =
    complete_shown c.args.folders.now g.J.RunNaming.setting c.args.state.now.events c.complete.new.state c.args.id c.args.hart.now.hart c.complete.new.hart.hart
    (due (after c.args.state.now.events) c.args.hart.now.hart) (record { faults = g.L.Library.faults c.args.library.now; misses = g.L.Library.misses c.args.library.now })
    (sym c.complete.ensures.told ∙ c.if-complete.true) (c.complete.ensures.turn c.if-complete.true g.J.RunNaming.setting c.requires.may.machine)

pub returns-in-Some-clause-acts : goal.returns-in-Some-clause-acts
returns-in-Some-clause-acts g c =
    let other = c.complete.ensures.other c.if-complete.false in
    waits_act g.J.RunNaming.setting c.complete.new.state c.args.state.now.events c.args.id c.args.hart.now.hart c.wait.new.hart.hart
    (free g.J.RunNaming.setting c.args.state.now c.args.id c.args.hart.now.hart c.requires.may) c.in-Some.shown c.wait.result.change c.wait.result.reply c.args.blocks.now.spare
    (ap (λ (t : LinkTable). t.events) other.0)
    (carried_due c.args.state.now c.complete.new.state c.args.hart.now.hart c.complete.new.hart.hart (Due.wait c.in-Some.shown) other.0 other.1 c.in-Some.ensures.some)
    (c.wait.ensures.hart ∙ ap (λ (b : HartState). spent (awaiting c.in-Some.shown (freed b))) other.1) c.wait.ensures.change c.wait.ensures.reply

pub returns-in-Some-clause-shown : goal.returns-in-Some-clause-shown
returns-in-Some-clause-shown g c = waits_shown c.args.folders.now c.args.state.now c.complete.new.state
    (record { faults = g.L.Library.faults c.args.library.now; misses = g.L.Library.misses c.args.library.now }) (c.complete.ensures.other c.if-complete.false).0

pub returns-in-None-clause-acts : goal.returns-in-None-clause-acts
returns-in-None-clause-acts g c = carried_acts g.J.RunNaming.setting c.args.state.now c.complete.new.state c.call.new.state c.args.id c.args.hart.now.hart c.complete.new.hart.hart c.call.new.hart.hart
    c.call.new.blocks.spare c.call.result.change c.call.result.reply (c.complete.ensures.other c.if-complete.false).0 (c.complete.ensures.other c.if-complete.false).1 c.call.ensures.acts

pub returns-in-None-clause-shown : goal.returns-in-None-clause-shown
returns-in-None-clause-shown g c = carried_shown c.args.folders.now c.args.state.now c.complete.new.state c.call.new.state
    (record { faults = g.L.Library.faults c.args.library.now; misses = g.L.Library.misses c.args.library.now })
    (record { faults = g.L.Library.faults c.call.new.library; misses = g.L.Library.misses c.call.new.library })
    (c.complete.ensures.other c.if-complete.false).0 c.call.ensures.shown

pub returns-in-None-clause-unread : goal.returns-in-None-clause-unread
returns-in-None-clause-unread g c = λ reads.
    let other = c.complete.ensures.other c.if-complete.false in
    c.call.ensures.unread (subst (λ (b : HartState). TurnReadsNothing (after c.complete.new.state.events) (due (after c.complete.new.state.events) b)) (sym other.1)
    (subst (λ (t : LinkTable). TurnReadsNothing (after t.events) (due (after t.events) c.args.hart.now.hart)) (sym other.0) reads))
