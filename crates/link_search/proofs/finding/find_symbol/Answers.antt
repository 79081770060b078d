use Rattle.std.proofs.Common.{Some, sym, ap, ◌∙◌}
use Rattle.link_search.proofs.Refusing.{nowhere, undefined}
use Rattle.link_search.proofs.finding.find_symbol.Goals as goal

pub returns-in_ok-missing_symbol-in-Some-None-clause-refused : goal.returns-in_ok-missing_symbol-in-Some-None-clause-refused
returns-in_ok-missing_symbol-in-Some-None-clause-refused c = λ s hart are caller.
    undefined s hart c.args.ask.now c.in_ok-missing_symbol-in-Some-None.field-0 c.requires.short
    (ap (λ x. Some x) (sym c.in-Some-None.field-0-is) ∙ sym c.in-Some-None.is ∙ c.in_ok-found.ensures s are) (c.in_ok-missing_symbol-in-Some-None.ensures s are)

pub returns-in-None-clause-refused : goal.returns-in-None-clause-refused
returns-in-None-clause-refused c = λ s hart are caller. nowhere s hart c.args.ask.now c.requires.short caller (sym c.in-None.is ∙ c.in_ok-found.ensures s are)
