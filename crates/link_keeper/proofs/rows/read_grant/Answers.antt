use Rattle.std.proofs.Common.{ap, ◌∙◌}
use Rattle.word_rule.specs.declared.entry.Grant.{Grant}
use Rattle.link_keeper.specs.Passing.{has_read}
use Rattle.link_keeper.proofs.rows.read_grant.Goals as goal

pub returns-clause-seat : goal.returns-clause-seat
returns-clause-seat g c = c.read_handed.ensures.seat ∙ ap (λ (x : Grant). has_read x c.args.keeper.now.events c.args.seat.now)
    (λ i. record { entry = c.read_handed.ensures.entry i; lazy = (c.read_handed.ensures.lazy ∙ c.requires.lazy) i })
