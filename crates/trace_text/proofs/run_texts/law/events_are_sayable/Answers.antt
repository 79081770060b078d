use Rattle.trace_text.proofs.RunTexts.Sayable.{lawful_sayable, legal_sayable, sayable}
use Rattle.trace_text.proofs.run_texts.law.events_are_sayable.Goals as goal

pub returns-clause-allowed : goal.returns-clause-allowed
returns-clause-allowed c = sayable

pub returns-clause-legal : goal.returns-clause-legal
returns-clause-legal c = legal_sayable

pub returns-clause-lawful : goal.returns-clause-lawful
returns-clause-lawful c = lawful_sayable
