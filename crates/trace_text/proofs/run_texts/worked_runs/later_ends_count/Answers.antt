use Rattle.std.proofs.Common.{◌≡◌, Some, refl}
use Rattle.history_event.specs.declared.hart_end.HartEnd.TheVariants.{Break, Exit}
use Rattle.trace_text.proofs.run_texts.worked_runs.later_ends_count.Goals as goal

pub returns-clause-not_first : goal.returns-clause-not_first
returns-clause-not_first c last = let no : Some (Break 0x80f080) ≡ Some (Exit 0) = last.each 0 (Exit 0) refl in cc
