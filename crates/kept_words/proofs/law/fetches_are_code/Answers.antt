use Rattle.kept_words.proofs.Fetching.{each_is_code}
use Rattle.kept_words.proofs.law.fetches_are_code.Goals as goal

pub returns : goal.returns
returns c = each_is_code
