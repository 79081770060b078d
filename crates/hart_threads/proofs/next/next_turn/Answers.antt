use Rattle.std.proofs.Common.{◌≡◌, ap, subst, ◌∙◌}
use Rattle.ld_base.specs.declared.fault.Shown.{Shown}
use Rattle.hart_moves.specs.Due.{due}
use Rattle.hart_seat.specs.HartParts.Views.{due_in}
use Rattle.hart_seat.specs.declared.hart_parts.due.Due.{Due}
use Rattle.hart_seat.specs.declared.hart_parts.due.Due.TheVariants.{Wait}
use Rattle.hart_threads.proofs.Waits.{closing_asks, starting_asks}
use Rattle.hart_threads.proofs.next.next_turn.Goals as goal

pub returns-in-Wait-Initialising-default : goal.returns-in-Wait-Initialising-default
returns-in-Wait-Initialising-default c =
    let arm = c.in-Wait-Initialising-default in
    let is = arm.is ∙ ap (λ (x : Shown). Wait x arm.field-1) arm.field-0-is in
    starting_asks c.args.hart.now.hart arm.field-1 arm.field-0-0 (λ s. subst (λ (d : Due). due_in s c.args.hart.now.hart d ≡ due s c.args.hart.now.hart) is (c.due.ensures.is s))

pub returns-in-Wait-Closing-default : goal.returns-in-Wait-Closing-default
returns-in-Wait-Closing-default c =
    let arm = c.in-Wait-Closing-default in
    let is = arm.is ∙ ap (λ (x : Shown). Wait x arm.field-1) arm.field-0-is in
    closing_asks c.args.hart.now.hart arm.field-1 arm.field-0-0 (λ s. subst (λ (d : Due). due_in s c.args.hart.now.hart d ≡ due s c.args.hart.now.hart) is (c.due.ensures.is s))
