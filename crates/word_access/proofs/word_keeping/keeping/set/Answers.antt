use Rattle.word_access.proofs.WordKeeping.Held.{sets}
use Rattle.word_access.proofs.word_keeping.keeping.set.Goals as goal

pub returns-clause-set : goal.returns-clause-set
returns-clause-set g c =
    sets c.args.at c.args.value c.args.lazy 0 c.args.role _ _ _ _ c.requires.at c.requires.resting c.store_word.ensures.long c.in-Ok.ensures.locked c.store_word.ensures.view c.add_word.ensures.view
