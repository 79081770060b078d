use Rattle.history_calls.specs.Laws.RefusesAsk.{full, space}
use Rattle.trace_opens.proofs.OpeningRows.Judged.{are_full, bad_elsewhere, bad_new, bad_number}
use Rattle.trace_opens.proofs.opening_rows.asking.namespace_of.Goals as goal

pub returns-in-None-clause-refused : goal.returns-in-None-clause-refused
returns-in-None-clause-refused c = λ s are short flagged. space c.in-Some-Some.number short flagged
    (bad_number s c.args.ask.now.ns c.args.ask.now.name c.args.namespaces.now c.in-Some-Some.number _ are c.in-Some-Some.is-0 c.in-Some-Some.is-1 c.in-None.ensures.none)

pub returns-in-Some-None-clause-refused : goal.returns-in-Some-None-clause-refused
returns-in-Some-None-clause-refused c = λ s are short flagged. space c.in-Some-None.number short flagged
    (bad_elsewhere s c.args.ask.now.ns c.args.ask.now.name c.in-Some-None.number c.in-Some-None.is-0 c.in-Some-None.is-1 c.in-Some-None.number-test.1)

pub returns-in-None-free_number-clause-refused : goal.returns-in-None-free_number-clause-refused
returns-in-None-free_number-clause-refused c = λ s are short flagged. full short flagged
    (are_full s c.args.ask.now.ns c.args.ask.now.name _ c.in-None-Some.is-0 c.in-None-Some.is-1 (c.in-None-free_number.ensures.none s are))

pub returns-in-None-None-clause-refused : goal.returns-in-None-None-clause-refused
returns-in-None-None-clause-refused c = λ s are short flagged. space 18446744073709551615 short flagged
    (bad_new s c.args.ask.now.ns c.args.ask.now.name c.in-None-None.is-0 c.in-None-None.is-1)
