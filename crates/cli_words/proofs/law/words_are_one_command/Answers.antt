use Rattle.cli_words.proofs.Same.{one_command}
use Rattle.cli_words.proofs.law.words_are_one_command.Goals as goal

pub returns : goal.returns
returns c = one_command
