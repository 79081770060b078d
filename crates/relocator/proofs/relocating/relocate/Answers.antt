use Rattle.relocator.specs.Relocated.{image_byte, image_word, settled_word}
use Rattle.relocator.proofs.relocating.relocate.Goals as goal

pub copy_bytes-requires-clause-all : goal.copy_bytes-requires-clause-all
copy_bytes-requires-clause-all c = (c.put_linkers.ensures c.args.base _ (c.fill_words.ensures _ c.fill_slots.ensures)).all

pub returns-clause-image : goal.returns-clause-image
unfolding image_word image_byte settled_word
returns-clause-image c = c.copy_bytes.ensures c.args.base _ (c.put_linkers.ensures c.args.base _ (c.fill_words.ensures _ c.fill_slots.ensures))
