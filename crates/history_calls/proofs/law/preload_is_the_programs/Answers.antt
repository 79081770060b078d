use Rattle.history_calls.proofs.Preloads.{brings_with_preload, stops_with_preload}
use Rattle.history_calls.proofs.law.preload_is_the_programs.Goals as goal

pub returns-clause-brings : goal.returns-clause-brings
returns-clause-brings c = brings_with_preload

pub returns-clause-stops : goal.returns-clause-stops
returns-clause-stops c = stops_with_preload
