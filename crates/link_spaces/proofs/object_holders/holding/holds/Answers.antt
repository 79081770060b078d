use Rattle.link_spaces.proofs.ObjectHolders.Pages.{holds_inside, holds_outside}
use Rattle.link_spaces.proofs.object_holders.holding.holds.Goals as goal

pub returns-then-own-low : goal.returns-then-own-low
returns-then-own-low c = holds_inside c.args.object.now c.args.address c.low_of-low.result c.pages_of.result c.low_of-low.ensures c.pages_of.ensures c.if-own-low.true

pub returns-else-own-low : goal.returns-else-own-low
returns-else-own-low c = holds_outside c.args.object.now c.args.address c.low_of-low.result c.low_of-low.ensures c.if-own-low.false
