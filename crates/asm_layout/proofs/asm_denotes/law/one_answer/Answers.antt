use Rattle.asm_layout.proofs.AsmDenotes.Sources.{either, denotes_unbroken, one_object, one_refusal}
use Rattle.asm_layout.proofs.asm_denotes.law.one_answer.Goals as goal

pub returns-clause-either : goal.returns-clause-either
returns-clause-either c = either c.one_source.ensures.says c.one_source.ensures.breaks

pub returns-clause-never_both : goal.returns-clause-never_both
returns-clause-never_both c = denotes_unbroken c.one_source.ensures.says c.one_source.ensures.breaks

pub returns-clause-one : goal.returns-clause-one
returns-clause-one c = one_object c.one_source.ensures.says c.one_source.ensures.breaks

pub returns-clause-one_fault : goal.returns-clause-one_fault
returns-clause-one_fault c = one_refusal c.one_source.ensures.says c.one_source.ensures.breaks
