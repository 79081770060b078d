use Rattle.world_laws.proofs.TurnOnce.Turns.{one_turn}
use Rattle.world_laws.proofs.turn_once.law.turns_are_one.Goals as goal

pub returns : goal.returns
returns c = one_turn (record {
  chain = c.steps_are_one.ensures.chain;
  read = c.steps_are_one.ensures.read;
  write = c.steps_are_one.ensures.write;
  step = c.steps_are_one.ensures.step;
  hart = c.turns_leave_one_hart.ensures.turn;
  answers = record { plain = c.one_answer.ensures.calls; openings = c.one_answer.ensures.openings };
  due = c.turns_are_due.ensures.turn;
  sound = c.turns_stay_sound.ensures.turns;
})
