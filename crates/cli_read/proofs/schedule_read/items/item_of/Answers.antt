use Rattle.std.proofs.Common.{rules, ◌≡◌, Some, None, sym, subst, ◌∙◌, arith}
use Rattle.std.proofs.lemmas.Option.{none-some}
use Rattle.cli_read.proofs.ScheduleRead.Each.{for_err, none_written, not_within, ok_or_none}
use Rattle.cli_read.proofs.ScheduleRead.Texts.{AreNumbers}
use Rattle.cli_read.proofs.schedule_read.items.item_of.Goals as goal

pub returns-in_err-hart-clause-not_turns : goal.returns-in_err-hart-clause-not_turns
returns-in_err-hart-clause-not_turns c =
    let none : c.in_ok-numbers_of.field-0 ≡ None = search rules in
    let numbers : AreNumbers c.args.text.now None = subst (AreNumbers c.args.text.now) none
    (record { written = c.in_ok-numbers_of.ensures.written; every = c.in_ok-numbers_of.ensures.every }) in
    for_err c.from_residual-in_err-hart.result (λ e is not item x. none_written c.args.harts c.args.text.now item (omega (arith, c.ranges.harts.fits)) numbers x)

pub returns-clause-not_turns : goal.returns-clause-not_turns
returns-clause-not_turns c =
    let some : c.in_ok-numbers_of.field-0 ≡ Some (c.in_ok-hart.hart, c.in_ok-hart.count) = search rules in
    let numbers : AreNumbers c.args.text.now (Some (c.in_ok-hart.hart, c.in_ok-hart.count)) = subst (AreNumbers c.args.text.now) some
    (record { written = c.in_ok-numbers_of.ensures.written; every = c.in_ok-numbers_of.ensures.every }) in
    for_err c.ok_or-2.result (λ e is not item x.
    let none : c.within.result ≡ None = ok_or_none c.within.result _ e (sym c.ok_or-2.ensures.value ∙ is) in
    not_within c.args.harts c.args.text.now c.in_ok-hart.hart c.in_ok-hart.count item (omega (arith, c.ranges.harts.fits)) numbers
    (λ y. none-some _ (sym none ∙ c.within.ensures.every y)) x)
