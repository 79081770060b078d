use Rattle.hart_moves.specs.Lemmas.Freed.{freed_due, freed_moves, freed_turns}
use Rattle.world_memory.proofs.turn_parts.law.freed_harts_move.Goals as goal

pub returns-clause-due : goal.returns-clause-due
returns-clause-due c = freed_due

pub returns-clause-moves : goal.returns-clause-moves
returns-clause-moves c = freed_moves

pub returns-clause-turn : goal.returns-clause-turn
returns-clause-turn c = freed_turns
