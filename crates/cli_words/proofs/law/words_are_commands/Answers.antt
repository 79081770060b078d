use Rattle.cli_words.proofs.Worked.{behind, ended, generated, joined, plain, scheduled}
use Rattle.cli_words.proofs.law.words_are_commands.Goals as goal

pub returns-clause-plain : goal.returns-clause-plain
returns-clause-plain c = plain

pub returns-clause-joined : goal.returns-clause-joined
returns-clause-joined c = joined

pub returns-clause-behind : goal.returns-clause-behind
returns-clause-behind c = behind

pub returns-clause-ended : goal.returns-clause-ended
returns-clause-ended c = ended

pub returns-clause-generated : goal.returns-clause-generated
returns-clause-generated c = generated

pub returns-clause-scheduled : goal.returns-clause-scheduled
returns-clause-scheduled c = scheduled
