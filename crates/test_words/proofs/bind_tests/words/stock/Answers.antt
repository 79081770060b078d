use Rattle.test_words.proofs.BindTests.Places.{may_first, may_lazy, may_second, may_slot, ready}
use Rattle.test_words.proofs.bind_tests.words.stock.Goals as goal

pub put_word-requires : goal.put_word-requires
put_word-requires g c = may_lazy c.args.keeper.now c.requires

pub put_word-requires-2 : goal.put_word-requires-2
put_word-requires-2 g c = may_first c.args.keeper.now c.requires c.put_word.new.keeper c.put_word.ensures.set c.put_word.ensures.long

pub put_word-requires-3 : goal.put_word-requires-3
put_word-requires-3 g c = may_second c.args.keeper.now c.requires c.put_word.new.keeper c.put_word.ensures.set c.put_word.ensures.long c.put_word-2.new.keeper c.put_word-2.ensures.set c.put_word-2.ensures.long

pub put_word-requires-4 : goal.put_word-requires-4
put_word-requires-4 g c = may_slot c.args.keeper.now c.requires c.put_word.new.keeper c.put_word.ensures.set c.put_word.ensures.long c.put_word-2.new.keeper c.put_word-2.ensures.set c.put_word-2.ensures.long
    c.put_word-3.new.keeper c.put_word-3.ensures.set c.put_word-3.ensures.long

pub returns : goal.returns
returns g c = ready c.args.keeper.now c.requires c.put_word.new.keeper c.put_word.ensures.set c.put_word.ensures.long c.put_word-2.new.keeper c.put_word-2.ensures.set c.put_word-2.ensures.long
    c.put_word-3.new.keeper c.put_word-3.ensures.set c.put_word-3.ensures.long c.put_word-4.new.keeper c.put_word-4.ensures.set c.put_word-4.ensures.long
