use Rattle.test_words.proofs.BindTests.Posting.{has_asked}
use Rattle.test_words.proofs.bind_tests.calls.settle.Goals as goal

pub returns : goal.returns
returns g c = λ other. has_asked c.args.keeper.now c.args.hart c.ask.ensures.told.0 c.ask.ensures.long c.requires.hart c.requires.stocked c.ask.ensures.told.2 c.requires.posted.0 c.requires.posted.1 c.ask.new.keeper c.ask.result c.ask.ensures.asked other
