use Rattle.word_steps.proofs.Desks.{desk_noted}
use Rattle.word_steps.proofs.desk.Desk.note.Goals as goal

pub split_note-requires-clause-noted : goal.split_note-requires-clause-noted
split_note-requires-clause-noted g c = desk_noted _ c.self.invariant.1
