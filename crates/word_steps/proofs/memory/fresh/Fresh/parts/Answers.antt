use Rattle.std.proofs.Common.{sym, subst}
use Rattle.atomic_table.specs.Table.{Me}
use Rattle.word_rule.specs.declared.view.View.{View}
use Rattle.word_rule.specs.Start.{IsFirst}
use Rattle.word_rule.specs.Views.{IsLong}
use Rattle.word_steps.specs.Views.{IsResting, keeper_of}
use Rattle.word_steps.proofs.Firsts.{first_long, first_of, first_rests}
use Rattle.word_steps.proofs.memory.fresh.Fresh.parts.Goals as goal

pub new-requires-clause-long : goal.new-requires-clause-long
new-requires-clause-long g c = subst (λ (p : Me Unit View). IsLong (keeper_of p.0)) (sym c.self.inside.first) first_long

pub returns-clause-first : goal.returns-clause-first
returns-clause-first g c = subst IsFirst (sym c.new.ensures) (subst (λ (p : Me Unit View). IsFirst (keeper_of p.0)) (sym c.self.inside.first) first_of)

pub returns-clause-resting : goal.returns-clause-resting
returns-clause-resting g c = subst IsResting (sym c.new.ensures) (subst (λ (p : Me Unit View). IsResting (keeper_of p.0)) (sym c.self.inside.first) first_rests)
