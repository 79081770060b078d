-- Line by line.
use Rattle.asm_laws.proofs.Sized.{sections_fit}
use Rattle.asm_laws.proofs.law.sections_have_their_sizes.Goals as goal

pub returns : goal.returns
returns c = sections_fit c.words_have_their_room.ensures
