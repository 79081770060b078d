use Rattle.std.proofs.Common.{rules}
use Rattle.word_rule.specs.Lemmas.Joining.{join_keeps}
use Rattle.word_steps.proofs.memory.seats.join_seat.Goals as goal

pub join_seat-requires : goal.join_seat-requires
join_seat-requires g c = (search rules, search rules, c.requires.empty.1, search rules, λ s holds at apart there. join_keeps _ _ _ _ c.requires.may s.words s.views holds at apart there)
