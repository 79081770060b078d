use Rattle.close_mark.proofs.UnmapSteps.Least.{held_by_first, none_holds}
use Rattle.history_state.specs.After.{after}
use Rattle.close_mark.proofs.unmap_steps.law.first_is_least.Goals as goal

pub returns-clause-least : goal.returns-clause-least
returns-clause-least c = λ m events lawful set g. held_by_first (after events) set g (c.grants_are_tidy.ensures m events lawful)

pub returns-clause-none : goal.returns-clause-none
returns-clause-none c = λ events. none_holds (after events)
