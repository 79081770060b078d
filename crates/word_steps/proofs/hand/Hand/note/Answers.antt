use Rattle.word_steps.proofs.Hands.{hand_noted}
use Rattle.word_steps.proofs.hand.Hand.note.Goals as goal

pub split_note-requires-clause-noted : goal.split_note-requires-clause-noted
split_note-requires-clause-noted g c = hand_noted _ c.self.invariant.1
