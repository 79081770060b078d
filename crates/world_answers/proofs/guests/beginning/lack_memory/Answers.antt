use Rattle.std.proofs.Common.{◌++◌, ◌<◌, ℕ, length, sym, subst}
use Rattle.world_answers.specs.GuestsPart.GuestWorlds.Worlds.{MayEndNow}
use Rattle.world_answers.specs.ReturnsPart.Settling.{harts_in}
use Rattle.world_turns.specs.World.{settling}
use Rattle.world_answers.proofs.GuestsPart.Starting.{first_may, lacks_now}
use Rattle.world_answers.proofs.guests.beginning.lack_memory.Goals as goal

pub end_hart-requires-clause-hart : goal.end_hart-requires-clause-hart
end_hart-requires-clause-hart c = subst (λ (k : ℕ). k < length c.args.harts.now) (sym c.new-first.ensures) c.requires.some

pub end_hart-requires-clause-settling : goal.end_hart-requires-clause-settling
end_hart-requires-clause-settling c =
    (first_may c.guests_may_turn.ensures.settles c.guests_may_turn.ensures.first c.args.state.now c.args.harts.now c.requires.some c.requires.run c.requires.over).0

pub end_hart-requires-clause-ends : goal.end_hart-requires-clause-ends
end_hart-requires-clause-ends c =
    subst (λ (k : ℕ). MayEndNow c.args.state.now.harts (c.args.state.now.events ++ settling (harts_in c.args.harts.now)) k) (sym c.new-first.ensures)
    (first_may c.guests_may_turn.ensures.settles c.guests_may_turn.ensures.first c.args.state.now c.args.harts.now c.requires.some c.requires.run c.requires.over).1

pub returns-clause-lacks : goal.returns-clause-lacks
returns-clause-lacks c = λ words.
    lacks_now c.guests_may_turn.ensures.settles c.guests_may_turn.ensures.first c.args.state.now c.end_hart.new.state words c.args.harts.now c.end_hart.new.harts c.new-first.result
    c.new-first.ensures c.requires.some c.requires.run c.requires.over c.end_hart.ensures.harts c.end_hart.ensures.state
