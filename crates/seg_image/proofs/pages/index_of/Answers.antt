use Rattle.std.proofs.Common.{arith}
use Rattle.seg_image.proofs.Ordered.{inside_pages}
use Rattle.seg_image.proofs.pages.index_of.Goals as goal

pub overflow_sub-result : goal.overflow_sub-result
overflow_sub-result c = let inside = inside_pages c.args.object.now c.requires.accepted c.args.address c.requires.inside in omega arith

pub returns-clause-within : goal.returns-clause-within
returns-clause-within c = let inside = inside_pages c.args.object.now c.requires.accepted c.args.address c.requires.inside in omega arith

pub returns-clause-low : goal.returns-clause-low
returns-clause-low c = let inside = inside_pages c.args.object.now c.requires.accepted c.args.address c.requires.inside in omega arith
