use Rattle.std.proofs.Common.{slice_index}
use Rattle.word_holds.proofs.Held.{words_hold}
use Rattle.word_holds.proofs.law.shared_words_hold.Goals as goal

pub returns : goal.returns
returns c = λ s won number words views g is w. words_hold s won number (slice_index words) g.kept g.hart g.parts is w
