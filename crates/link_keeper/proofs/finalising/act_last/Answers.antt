use Rattle.std.proofs.Common.{ℕ, ◌<◌, Bool, if◌then◌else◌, sym, ap, subst, ◌∙◌}
use Rattle.history_state.specs.After.{after}
use Rattle.hart_moves.specs.Harts.{HartState}
use Rattle.hart_moves.specs.Moves.{freed}
use Rattle.link_state.specs.Table.{LinkTable}
use Rattle.link_keeper.specs.Finalising.{IsPlannedOr}
use Rattle.link_keeper.proofs.Finalised.{carried_acts, carried_opens, carried_own, end_now, lacking_acts, lacking_opens, lacking_own}
use Rattle.link_keeper.proofs.finalising.act_last.Goals as goal

pub end_call-requires-clause-fuel : goal.end_call-requires-clause-fuel
end_call-requires-clause-fuel g c = c.requires.may.fuel

pub end_call-requires-clause-may : goal.end_call-requires-clause-may
end_call-requires-clause-may g c = end_now g.J.RunNaming.setting c.args.state.now.harts c.args.state.now.events c.args.id c.args.hart.now.hart c.requires.may c.harts_fit.ensures.may_end c.ends_are_few.ensures

pub returns-in_default-clause-acts : goal.returns-in_default-clause-acts
returns-in_default-clause-acts g c = λ spare.
    lacking_acts g.J.RunNaming.setting c.args.state.now.harts c.args.state.now.events c.args.id c.args.hart.now.hart c.requires.may c.harts_fit.ensures.may_end c.end_call.new.hart.hart c.end_call.new.state
    (ap (λ (t : LinkTable). t.events) c.end_call.ensures.noted) c.end_call.ensures.hart
    c.end_call.result.change c.end_call.result.reply spare c.end_call.ensures.change c.end_call.ensures.reply

pub returns-in_default-clause-opens : goal.returns-in_default-clause-opens
returns-in_default-clause-opens g c =
    lacking_opens g.J.RunNaming.setting c.args.state.now.harts c.args.state.now.events c.args.id c.args.hart.now.hart c.requires.may c.harts_fit.ensures.may_end c.end_call.new.hart.hart c.end_call.new.state
    (ap (λ (t : LinkTable). t.events) c.end_call.ensures.noted) c.end_call.ensures.hart

pub returns-in_default-clause-own : goal.returns-in_default-clause-own
returns-in_default-clause-own g c =
    lacking_own g.J.RunNaming.setting c.args.state.now.harts c.args.state.now.events c.args.id c.args.hart.now.hart c.requires.may c.harts_fit.ensures.may_end c.end_call.new.hart.hart c.end_call.new.state
    (ap (λ (t : LinkTable). t.events) c.end_call.ensures.noted) c.end_call.ensures.hart

pub returns-in_default-clause-harts : goal.returns-in_default-clause-harts
returns-in_default-clause-harts g c = ap (λ (t : LinkTable). t.harts) c.end_call.ensures.noted

pub carry_out-requires-clause-planned : goal.carry_out-requires-clause-planned
carry_out-requires-clause-planned g c = (subst (IsPlannedOr (after c.args.state.now.events) c.args.hart.now.hart c.args.hart.now.spare) c.in-Some.is c.requires.plan).0.planned

pub carry_out-requires-clause-may : goal.carry_out-requires-clause-may
carry_out-requires-clause-may g c = record { setting = g.J.RunNaming.setting; machine = c.requires.may.machine; may = c.requires.may.may c.in-Some.plan.code c.in-Some.plan.object (subst (IsPlannedOr (after c.args.state.now.events) c.args.hart.now.hart c.args.hart.now.spare) c.in-Some.is c.requires.plan).0.is }

pub carry_out-requires-clause-fuel : goal.carry_out-requires-clause-fuel
carry_out-requires-clause-fuel g c = subst (λ (x : HartState). x.turns < x.fuel) (sym c.settle.ensures.hart) c.requires.may.fuel

pub carry_out-requires-clause-room : goal.carry_out-requires-clause-room
carry_out-requires-clause-room g c = subst (λ (n : ℕ). 0 < n) (sym c.settle.ensures.spare) (subst (IsPlannedOr (after c.args.state.now.events) c.args.hart.now.hart c.args.hart.now.spare) c.in-Some.is c.requires.plan).0.room

pub returns-clause-acts : goal.returns-clause-acts
returns-clause-acts g c = λ spare.
    carried_acts g.J.RunNaming.setting c.args.state.now.events c.args.id c.args.hart.now.hart c.carry_out.new.hart.hart c.in-Some.plan (subst (IsPlannedOr (after c.args.state.now.events) c.args.hart.now.hart c.args.hart.now.spare) c.in-Some.is c.requires.plan).0.is
    (c.carry_out.ensures.turn g.J.RunNaming.setting c.args.hart.now.hart (c.requires.may.may c.in-Some.plan.code c.in-Some.plan.object (subst (IsPlannedOr (after c.args.state.now.events) c.args.hart.now.hart c.args.hart.now.spare) c.in-Some.is c.requires.plan).0.is)
    (c.settle.ensures.hart ∙ sym (ap (λ (t : Bool). if t then freed c.args.hart.now.hart else c.args.hart.now.hart) ((subst (IsPlannedOr (after c.args.state.now.events) c.args.hart.now.hart c.args.hart.now.spare) c.in-Some.is c.requires.plan).1 c.args.id))))
    c.requires.may.rests c.carry_out.new.state (ap (λ (t : LinkTable). t.events) c.carry_out.ensures.events) (subst (IsPlannedOr (after c.args.state.now.events) c.args.hart.now.hart c.args.hart.now.spare) c.in-Some.is c.requires.plan).1 spare

pub returns-clause-opens : goal.returns-clause-opens
returns-clause-opens g c =
    carried_opens g.J.RunNaming.setting c.args.state.now.events c.args.id c.args.hart.now.hart c.carry_out.new.hart.hart c.in-Some.plan (subst (IsPlannedOr (after c.args.state.now.events) c.args.hart.now.hart c.args.hart.now.spare) c.in-Some.is c.requires.plan).0.is
    (c.carry_out.ensures.turn g.J.RunNaming.setting c.args.hart.now.hart (c.requires.may.may c.in-Some.plan.code c.in-Some.plan.object (subst (IsPlannedOr (after c.args.state.now.events) c.args.hart.now.hart c.args.hart.now.spare) c.in-Some.is c.requires.plan).0.is)
    (c.settle.ensures.hart ∙ sym (ap (λ (t : Bool). if t then freed c.args.hart.now.hart else c.args.hart.now.hart) ((subst (IsPlannedOr (after c.args.state.now.events) c.args.hart.now.hart c.args.hart.now.spare) c.in-Some.is c.requires.plan).1 c.args.id))))
    c.requires.may.rests c.carry_out.new.state (ap (λ (t : LinkTable). t.events) c.carry_out.ensures.events) (subst (IsPlannedOr (after c.args.state.now.events) c.args.hart.now.hart c.args.hart.now.spare) c.in-Some.is c.requires.plan).1

pub returns-clause-own : goal.returns-clause-own
returns-clause-own g c =
    carried_own g.J.RunNaming.setting c.args.state.now.events c.args.id c.args.hart.now.hart c.carry_out.new.hart.hart c.in-Some.plan (subst (IsPlannedOr (after c.args.state.now.events) c.args.hart.now.hart c.args.hart.now.spare) c.in-Some.is c.requires.plan).0.is
    (c.carry_out.ensures.turn g.J.RunNaming.setting c.args.hart.now.hart (c.requires.may.may c.in-Some.plan.code c.in-Some.plan.object (subst (IsPlannedOr (after c.args.state.now.events) c.args.hart.now.hart c.args.hart.now.spare) c.in-Some.is c.requires.plan).0.is)
    (c.settle.ensures.hart ∙ sym (ap (λ (t : Bool). if t then freed c.args.hart.now.hart else c.args.hart.now.hart) ((subst (IsPlannedOr (after c.args.state.now.events) c.args.hart.now.hart c.args.hart.now.spare) c.in-Some.is c.requires.plan).1 c.args.id))))
    c.requires.may.rests c.carry_out.new.state (ap (λ (t : LinkTable). t.events) c.carry_out.ensures.events) (subst (IsPlannedOr (after c.args.state.now.events) c.args.hart.now.hart c.args.hart.now.spare) c.in-Some.is c.requires.plan).1

pub returns-clause-harts : goal.returns-clause-harts
returns-clause-harts g c = ap (λ (t : LinkTable). t.harts) c.carry_out.ensures.events
