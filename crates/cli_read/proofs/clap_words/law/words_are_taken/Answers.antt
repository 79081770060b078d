use Rattle.cli_read.proofs.ClapWords.Taking.{is_taken}
use Rattle.cli_read.proofs.clap_words.law.words_are_taken.Goals as goal

pub returns : goal.returns
returns c = is_taken
