use Rattle.std.proofs.Common.{ap, length, sym, ◌∙◌}
use Rattle.word_memory.specs.WordSeats.Making.{new_harts}
use Rattle.world_threads.proofs.Started.{startup_is}
use Rattle.world_threads.proofs.run.set_up.Goals as goal

pub starting_memory-requires-clause-brings : goal.starting_memory-requires-clause-brings
starting_memory-requires-clause-brings g c =
    startup_is g.J.RunNaming.setting c.args.setup.now c.args.state.now.events c.args.started c.requires.starts c.served_calls_are_legal.ensures.starts c.events_have_owners.ensures.start
    c.requires.accepts c.requires.few c.requires.over

pub starting_runs-requires-clause-seats : goal.starting_runs-requires-clause-seats
starting_runs-requires-clause-seats g c =
    c.in_ok-memory.ensures.harts ∙ ap new_harts (c.requires.harts ∙ sym (c.served_calls_are_legal.ensures.entries g.J.RunNaming.setting c.args.setup.now c.args.state.now.events c.args.started c.requires.starts))
    ∙ ap (λ es. new_harts (length es)) (sym c.as_slice-entries.ensures)
