use Rattle.close_mark.proofs.ClosingLaws.Opened.{first_opened, none_opened}
use Rattle.close_mark.proofs.closing_laws.law.first_is_opened.Goals as goal

pub returns-clause-opened : goal.returns-clause-opened
returns-clause-opened c = first_opened

pub returns-clause-none : goal.returns-clause-none
returns-clause-none c = none_opened
