use Rattle.std.proofs.Common.{rules, ◌≡◌, ap}
use Rattle.hart_threads.proofs.Trailing.{taken_at, turn_leaves}
use Rattle.hart_threads.proofs.quiet.take_quiet.Goals as goal

pub returns : goal.returns
returns g c = λ s.
    let name : c.take_turn.new.bus.seat.ghost_name ≡ c.new-bus.result.seat.ghost_name = turn_leaves (λ bus. bus.seat.ghost_name) _ (λ a i b x. x.0) c.new-bus.result c.take_turn.new.bus _ _ _ _ (c.take_turn.ensures s) in
    taken_at (λ bus. bus.seat.now) _ (λ a i b x. x.1) c.new-bus.result c.take_turn.new.bus _ _ _ _ _ _ (ap (λ x. x.now) c.new-bus.ensures.seat) (search rules) (c.take_turn.ensures s)
