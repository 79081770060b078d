use Rattle.std.proofs.Common.{◌+◌, ◌*◌, ◌<◌, arith}
use Rattle.std.proofs.lemmas.Option.{slice_get-get_or}
use Rattle.word_installs.proofs.Putting.{all_words, first_free, first_more}
use Rattle.word_installs.proofs.installing.put_words.Goals as goal

pub overflow_add-start : goal.overflow_add-start
overflow_add-start g c =
    let high : c.args.start + 8 * c.loop-index.index < 0x810000 = (c.requires.placed c.loop-index.index c.loop-index-test.true).high in
    omega (arith, high)

pub put_word-requires-clause-placed : goal.put_word-requires-clause-placed
put_word-requires-clause-placed g c = c.requires.placed c.loop-index.index c.loop-index-test.true

pub put_word-requires-clause-free : goal.put_word-requires-clause-free
put_word-requires-clause-free g c =
    first_free c.loop-index.index c.args.start c.args.words.now c.args.keeper.now c.loop-index.keeper c.requires c.loop-index-test.true c.loop-index.invariant

pub loop-index-preserved : goal.loop-index-preserved
loop-index-preserved g c =
    first_more c.loop-index.index c.args.start c.args.words.now _ c.args.keeper.now c.loop-index.keeper c.put_word.new.keeper c.requires.placed
    (slice_get-get_or c.args.words.now c.loop-index.index _ c.loop-index-test.true) c.loop-index.invariant c.put_word.ensures

pub returns : goal.returns
returns g c = all_words c.loop-index.index c.args.start c.args.words.now c.args.keeper.now c.loop-index.keeper c.loop-index-test.false c.loop-index.invariant
