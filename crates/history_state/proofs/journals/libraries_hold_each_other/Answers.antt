use Rattle.history_state.specs.Lemmas.Cycled.{cycle_legal, cycle_whole, held_by_grants, not_finished, nothing_holds}
use Rattle.history_state.proofs.journals.libraries_hold_each_other.Goals as goal

pub returns-clause-legal : goal.returns-clause-legal
returns-clause-legal c = cycle_legal

pub returns-clause-whole : goal.returns-clause-whole
returns-clause-whole c = cycle_whole

pub returns-clause-dies_early : goal.returns-clause-dies_early
returns-clause-dies_early c = held_by_grants

pub returns-clause-never_dies : goal.returns-clause-never_dies
returns-clause-never_dies c = nothing_holds

pub returns-clause-unmapped_early : goal.returns-clause-unmapped_early
returns-clause-unmapped_early c = not_finished
