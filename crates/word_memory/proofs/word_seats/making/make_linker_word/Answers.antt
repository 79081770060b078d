use Rattle.std.proofs.Common.{refl}
use Rattle.word_memory.proofs.WordSeats.Made.{page_more, page_set, page_within}
use Rattle.word_memory.proofs.word_seats.making.make_linker_word.Goals as goal

pub set_word-requires : goal.set_word-requires
set_word-requires g c = page_set c.args.keeper.now c.args.index _ c.requires.low refl c.requires.made

pub returns : goal.returns
returns g c =
    page_more c.args.keeper.now c.set_word.new.keeper c.args.index _ c.requires.low refl c.requires.made (page_within c.args.keeper.now c.args.index _ c.requires.low refl c.set_word.ensures.long) c.set_word.ensures.set
