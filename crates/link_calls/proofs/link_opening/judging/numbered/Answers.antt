use Rattle.history_state.specs.After.{after}
use Rattle.history_journal.specs.Following.{machine_of}
use Rattle.link_calls.proofs.LinkOpening.Few.{none_past}
use Rattle.link_calls.proofs.link_opening.judging.numbered.Goals as goal

pub returns-in_default-clause-none : goal.returns-in_default-clause-none
returns-in_default-clause-none c =
    none_past (after c.args.state.now.events).namespaces c.args.number (c.namespaces_are_few.ensures (machine_of c.args.state.now.harts) c.args.state.now.events c.journal.ensures.lawful)
    c.in_default.ensures
