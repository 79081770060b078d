use Rattle.std.proofs.Common.{length, arith}
use Rattle.elf_head.proofs.Accepted.{few_range}
use Rattle.elf_head.proofs.Placing.{range_found, HasRange}
use Rattle.elf_head.proofs.range.bytes_from.Goals as goal
use Rattle.elf_head.proofs.range.bytes_from.Goals.{In-Some}

range : (c : In-Some) → HasRange (length c.args.bytes.now) c.args.start 1 c.in-Some.header.now
range c = range_found _ c.args.head.now _ _ _ _ c.in-Some.header c.requires c.covering.ensures c.as_slice.ensures c.in-Some.is (omega arith)

pub overflow_sub-at : goal.overflow_sub-at
overflow_sub-at c = omega (arith, range (goal.at.overflow_sub-at c).In-Some)

pub overflow_add-at : goal.overflow_add-at
overflow_add-at c = omega (arith, range (goal.at.overflow_add-at c).In-Some)

pub overflow_add-result : goal.overflow_add-result
overflow_add-result c = omega (arith, range (goal.at.overflow_add-result c).In-Some)

pub slice_bounds-result-count : goal.slice_bounds-result-count
slice_bounds-result-count c = omega (arith, range (goal.at.slice_bounds-result-count c).In-Some)

pub slice_bounds-result-start : goal.slice_bounds-result-start
slice_bounds-result-start c = omega (arith, range (goal.at.slice_bounds-result-start c).In-Some)

pub slice_bounds-result-end : goal.slice_bounds-result-end
slice_bounds-result-end c = omega (arith, range (goal.at.slice_bounds-result-end c).In-Some)

pub returns-in-Some-clause-few : goal.returns-in-Some-clause-few
returns-in-Some-clause-few c = few_range c.args.bytes.now c.args.head.now _ _ c.requires
