use Rattle.std.proofs.Common.{rules, ℕ, map, take, List, Bor, sym, subst, ◌+◌}
use Rattle.std.proofs.lemmas.List.{take_all}
use Rattle.world_turns.specs.SchedulesPart.Grammar.{AreItems}
use Rattle.cli_read.proofs.ScheduleRead.Each.{blames, for_err, longer}
use Rattle.cli_read.proofs.schedule_read.items.items_of.Goals as goal

pub returns-in_err-item_of-clause-not_turns : goal.returns-in_err-item_of-clause-not_turns
returns-in_err-item_of-clause-not_turns c = for_err c.from_residual.result (λ e is not items are.
    blames c.args.harts c.args.parts.now c.loop-part.part-index _ c.loop-part-test.true (c.in_err-item_of.ensures.not_turns (search rules)) items are)

pub loop-part-preserved : goal.loop-part-preserved
loop-part-preserved c = subst (λ turns. AreItems c.args.harts (map (λ (p : Bor (List ℕ)). p.now) (take (c.loop-part.part-index + 1) c.args.parts.now)) turns)
    (sym c.in_ok-push.ensures.ok)
    (longer c.args.harts c.args.parts.now c.loop-part.part-index _ c.loop-part.turns c.in_ok-item_of.field-0 c.loop-part-test.true c.loop-part.invariant c.in_ok-item_of.ensures.is)

pub returns-clause-are : goal.returns-clause-are
returns-clause-are c = subst (λ parts. AreItems c.args.harts (map (λ (p : Bor (List ℕ)). p.now) parts) c.loop-part.turns)
    (take_all c.loop-part.part-index c.args.parts.now c.loop-part-test.false) c.loop-part.invariant
