use Rattle.hart_seat.proofs.hart_parts.queue.FunctionQueue.due.Goals as goal

pub returns-in-empty-clause-parts : goal.returns-in-empty-clause-parts
returns-in-empty-clause-parts c = λ b below is. c.all_done.ensures.parts b
