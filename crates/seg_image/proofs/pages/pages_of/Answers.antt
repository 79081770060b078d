use Rattle.std.proofs.Common.{arith}
use Rattle.seg_image.proofs.Ordered.{low_under_high}
use Rattle.seg_image.proofs.pages.pages_of.Goals as goal

pub overflow_sub-result : goal.overflow_sub-result
overflow_sub-result c = let order = low_under_high c.args.object.now c.requires in omega arith
