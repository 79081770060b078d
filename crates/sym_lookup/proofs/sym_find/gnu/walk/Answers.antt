use Rattle.std.proofs.Common.{◌∙◌, sym}
use Rattle.sym_lookup.proofs.SymFind.GnuWalks.{goes_nowhere, walk_begins, walk_ends, walk_more, walk_on, walk_over}
use Rattle.sym_lookup.proofs.sym_find.gnu.walk.Goals as goal

pub loop-passed-init : goal.loop-passed-init
loop-passed-init c = record {
  goes = goes_nowhere c.args.gnu.now c.args.hash c.args.first c.words_from-word-items.result.now c.words_from-word-items.ensures c.args.search.now;
  knows = walk_begins c.args.gnu.now c.args.hash c.args.first c.words_from-word-items.result.now c.words_from-word-items.ensures c.args.search.now c.new-best.result c.new-best.ensures;
}

pub loop-passed-preserved : goal.loop-passed-preserved
loop-passed-preserved c = record {
  goes = walk_on c.args.gnu.now c.args.hash c.args.first c.words_from-word-items.result.now c.words_from-word-items.ensures c.args.search.now c.loop-passed.passed c.loop-passed-test.true c.loop-passed.best c.after_word-best.result
      c.loop-passed.invariant.goes c.loop-passed.invariant.knows c.after_word-best.ensures (sym c.is_last.ensures ∙ c.if-is_last.false);
  knows = walk_more c.args.gnu.now c.args.hash c.args.first c.words_from-word-items.result.now c.words_from-word-items.ensures c.args.search.now c.loop-passed.passed c.loop-passed-test.true c.loop-passed.best c.after_word-best.result
      c.loop-passed.invariant.goes c.loop-passed.invariant.knows c.after_word-best.ensures;
}

pub returns-then-is_last : goal.returns-then-is_last
returns-then-is_last c =
    walk_over c.args.gnu.now c.args.hash c.args.first c.words_from-word-items.result.now c.words_from-word-items.ensures c.args.search.now c.loop-passed.passed c.loop-passed-test.true c.loop-passed.best c.after_word-best.result
    c.loop-passed.invariant.goes c.loop-passed.invariant.knows c.after_word-best.ensures (sym c.is_last.ensures ∙ c.if-is_last.true)

pub returns : goal.returns
returns c =
    walk_ends c.args.gnu.now c.args.hash c.args.first c.words_from-word-items.result.now c.words_from-word-items.ensures c.args.search.now c.loop-passed.passed c.loop-passed.best c.loop-passed-test.false
    c.loop-passed.invariant.goes c.loop-passed.invariant.knows
