use Rattle.std.proofs.Common.{ap, ◌∙◌}
use Rattle.word_rule.specs.KeeperSteps.{with_row}
use Rattle.word_rule.specs.Views.{row_of}
use Rattle.word_rule.specs.Lemmas.Heeding.{heeds}
use Rattle.slot_bind.specs.Grants.{grant_of}
use Rattle.slot_bind.specs.Rows.{row_with}
use Rattle.slot_bind.proofs.Rows.{opens}
use Rattle.slot_bind.proofs.row.open_row.Goals as goal

pub returns-clause-posted : goal.returns-clause-posted
returns-clause-posted g c = opens c.args.keeper.now c.load_word-generation.new.self c.write_entry.new.keeper c.fill.new.keeper c.store_word.new.self c.args.hart 0 c.args.offer.now c.load_word-generation.ensures.resting.0 c.load_word-generation.ensures.resting.1 c.requires.low
    (c.load_word-generation.ensures.view ∙ heeds c.args.keeper.now c.load_word-generation.ensures.resting.0.note)
    (c.write_entry.ensures.row ∙ ap (λ n. with_row c.args.hart (row_with (grant_of c.args.offer.now n).entry (row_of c.load_word-generation.new.self c.args.hart)) c.load_word-generation.new.self) c.load_word-generation.ensures.learns.0)
    c.fill.ensures.row c.store_word.ensures.view
