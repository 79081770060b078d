use Rattle.std.proofs.Common.{if◌then◌else◌, List, ◌++◌, sym, ap, ◌∙◌, append-nil}
use Rattle.history_event.specs.declared.event.Event.{Event}
use Rattle.hart_moves.specs.Moves.{did_by, freed, settles}
use Rattle.link_keeper.proofs.Finalised.{carried_rests, quiet_moves}
use Rattle.link_keeper.proofs.finalising.go_by.Goals as goal

pub carry_out-requires-clause-may : goal.carry_out-requires-clause-may
carry_out-requires-clause-may g c = record { setting = g.J.RunNaming.setting; machine = c.requires.may.machine; may = c.requires.may.may c.args.plan.code c.args.plan.object c.requires.plan.is }

pub returns-clause-moves : goal.returns-clause-moves
returns-clause-moves g c =
    quiet_moves g.J.RunNaming.setting c.args.state.now.events c.args.id c.args.hart.now.hart c.carry_out.new.hart.hart c.args.plan c.requires.plan.is
    (c.carry_out.ensures.turn g.J.RunNaming.setting c.args.hart.now.hart (c.requires.may.may c.args.plan.code c.args.plan.object c.requires.plan.is)
    (sym (ap (λ (es : List Event). if settles (did_by es) then freed c.args.hart.now.hart else c.args.hart.now.hart) (c.requires.quiet c.args.id))))
    c.requires.may.rests (c.requires.quiet c.args.id)

pub returns-clause-rests : goal.returns-clause-rests
returns-clause-rests g c =
    carried_rests g.J.RunNaming.setting c.args.state.now.events c.args.id c.args.hart.now.hart c.carry_out.new.hart.hart c.args.plan c.requires.plan.is
    (c.carry_out.ensures.turn g.J.RunNaming.setting c.args.hart.now.hart (c.requires.may.may c.args.plan.code c.args.plan.object c.requires.plan.is)
    (sym (ap (λ (es : List Event). if settles (did_by es) then freed c.args.hart.now.hart else c.args.hart.now.hart) (c.requires.quiet c.args.id))))
    c.requires.may.rests

pub returns-clause-state : goal.returns-clause-state
returns-clause-state g c = c.carry_out.ensures.events
    ∙ ap (λ (es : List Event). record c.args.state.now { events = es }) (ap (λ (es : List Event). c.args.state.now.events ++ es) (c.requires.quiet c.args.id) ∙ append-nil c.args.state.now.events)
