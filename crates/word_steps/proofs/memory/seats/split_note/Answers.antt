use Rattle.std.proofs.Common.{rules}
use Rattle.word_rule.specs.Lemmas.Joining.{note_keeps}
use Rattle.word_steps.proofs.memory.seats.split_note.Goals as goal

pub split_seat-requires : goal.split_seat-requires
split_seat-requires g c = (search rules, search rules, λ s holds at. note_keeps _ _ c.requires.noted.1 s.words s.views holds at)
