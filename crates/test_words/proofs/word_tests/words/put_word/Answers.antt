use Rattle.test_words.proofs.WordTests.Unset.{may_set, unset_more}
use Rattle.test_words.proofs.word_tests.words.put_word.Goals as goal

pub set_word-requires : goal.set_word-requires
set_word-requires g c = may_set c.args.keeper.now c.args.index c.args.value c.args.role c.requires.low c.requires.role.0 c.requires.role.1 c.requires.unset

pub returns : goal.returns
returns g c = unset_more c.args.keeper.now c.set_word.new.keeper c.args.index c.args.value c.args.role c.requires.low c.requires.unset c.set_word.ensures.long c.set_word.ensures.set
