use Rattle.cli_words.proofs.Pieces.{one_saying}
use Rattle.cli_words.proofs.law.words_say_once.Goals as goal

pub returns : goal.returns
returns c = one_saying
