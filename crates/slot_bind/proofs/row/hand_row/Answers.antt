use Rattle.slot_bind.proofs.Rows.{hands}
use Rattle.slot_bind.proofs.row.hand_row.Goals as goal

pub returns-clause-handed : goal.returns-clause-handed
returns-clause-handed g c = hands c.args.keeper.now c.write_entry.new.keeper c.store_word.new.self c.args.hart 0 c.args.entry c.write_entry.ensures.resting.0 c.write_entry.ensures.resting.1 c.requires.low c.write_entry.ensures.row c.store_word.ensures.view
