use Rattle.std.proofs.Common.{sym, ◌∙◌}
use Rattle.word_installs.proofs.Putting.{may_set, no_word, word_put}
use Rattle.word_installs.proofs.installing.put_word.Goals as goal

pub set_word-requires : goal.set_word-requires
set_word-requires g c = may_set c.args.keeper.now c.args.address c.args.word.value c.args.word.role c.requires.placed c.requires.free (sym c.is_plain.ensures ∙ c.if-is_plain.true)

pub returns-then-is_plain : goal.returns-then-is_plain
returns-then-is_plain g c =
    word_put c.args.address c.args.word c.args.keeper.now c.set_word.new.keeper c.set_word.ensures.long c.requires.placed (sym c.is_plain.ensures ∙ c.if-is_plain.true)
    c.set_word.ensures.set

pub returns-else-is_plain : goal.returns-else-is_plain
returns-else-is_plain g c = no_word c.args.address c.args.word c.args.keeper.now (sym c.is_plain.ensures ∙ c.if-is_plain.false)
