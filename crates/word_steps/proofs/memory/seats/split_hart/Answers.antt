use Rattle.std.proofs.Common.{rules}
use Rattle.word_rule.specs.Lemmas.Joining.{made_keeps}
use Rattle.word_steps.proofs.memory.seats.split_hart.Goals as goal

pub split_seat-requires : goal.split_seat-requires
split_seat-requires g c = (search rules, search rules, λ s holds at. made_keeps _ _ c.requires.room.1 s.words s.views holds at)
