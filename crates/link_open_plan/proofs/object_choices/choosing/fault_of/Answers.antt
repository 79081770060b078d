use Rattle.std.proofs.Common.{◌≡◌, Bool, sym, ap, subst, ◌∙◌}
use Rattle.ld_base.specs.declared.linking.Choice.{Choice}
use Rattle.scope_rule.specs.Relocation.{choice_at}
use Rattle.scope_rule.specs.Seen.{Seen, seen}
use Rattle.link_finds.specs.SeenChoices.Lemmas.Stands.{stands}
use Rattle.link_finds.specs.SeenChoices.Seeing.{StandsIn}
use Rattle.link_open_plan.specs.ObjectChoices.Sight.{chosen_at}
use Rattle.link_open_plan.proofs.object_choices.choosing.fault_of.Goals as goal

pub slot_fault-requires-clause-stands : goal.slot_fault-requires-clause-stands
slot_fault-requires-clause-stands c =
    let ns : Seen = seen c.args.sight.now.view in
    let is : c.args.choice.now ≡ choice_at ns c.args.owner.now c.args.slot.now =
    c.requires.choice ∙ ap (λ (b : Bool). chosen_at ns b c.args.owner.now c.args.slot.now) c.if-bound.true in
    subst (λ (choice : Choice). StandsIn ns choice) (sym is) (stands ns c.args.owner.now c.args.slot.now c.requires.there)
