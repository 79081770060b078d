use Rattle.std.proofs.Common.{◌∙◌}
use Rattle.history_state.specs.After.{after}
use Rattle.hart_moves.specs.Due.{due}
use Rattle.world_answers.proofs.GuestsPart.Freed.{asks_of_complete}
use Rattle.world_answers.proofs.GuestsPart.Moved.{turns_on}
use Rattle.world_answers.proofs.guests.passing.pass.Goals as goal

pub returns-clause-turns : goal.returns-clause-turns
returns-clause-turns c = λ words.
    turns_on c.args.state.now c.complete.new.state c.args.id c.args.hart.now.hart c.complete.new.hart.hart
    (asks_of_complete (due (after c.args.state.now.events) c.args.hart.now.hart) c.requires.passes) (c.complete.ensures.turn (c.complete.ensures.told ∙ c.requires.passes)) words
    (λ past given leaves. c.others_leave_memory.ensures.all_stay (after past) given words leaves)
