use Rattle.scope_rule.specs.Seen.{seen}
use Rattle.scope_lists.specs.Brought.{brought_of}
use Rattle.scope_lists.proofs.Stands.{opening_more}
use Rattle.scope_lists.proofs.brought.Brought.of.Goals as goal

pub loop-opening-preserved : goal.loop-opening-preserved
loop-opening-preserved c = λ q own.
    opening_more (seen c.args.view.now) c.args.view.now.opens.now c.loop-opening.opening-index q c.opening-item.result (brought_of c.loop-opening.brought q) (brought_of c.add.new.self q) c.loop-opening-test.true c.opening-item.is
    (c.loop-opening.invariant q own) (c.in_ok-add.ensures q own)
