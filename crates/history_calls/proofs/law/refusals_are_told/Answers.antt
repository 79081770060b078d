use Rattle.history_calls.specs.Lemmas.Given.{refusal_is_kept, refusal_is_told}
use Rattle.std.specs.Option.{option_map}
use Rattle.std.proofs.Common.{Option, ap, ◌∙◌}
use Rattle.ld_base.specs.declared.fault.DlFault.{DlFault}
use Rattle.history_calls.specs.Served.{answer_text}
use Rattle.history_calls.proofs.law.refusals_are_told.Goals as goal

pub returns-clause-kept : goal.returns-clause-kept
returns-clause-kept c = refusal_is_kept

pub returns-clause-told : goal.returns-clause-told
returns-clause-told c = refusal_is_told

pub returns-clause-text : goal.returns-clause-text
returns-clause-text c w past h text given is = is.is ∙ ap (λ (fault : Option DlFault). option_map answer_text fault) (refusal_is_told w past h given is.fault is.gives).0
