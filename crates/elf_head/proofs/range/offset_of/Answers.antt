use Rattle.std.proofs.Common.{length, arith}
use Rattle.elf_head.proofs.Placing.{range_found, HasRange}
use Rattle.elf_head.proofs.range.offset_of.Goals as goal
use Rattle.elf_head.proofs.range.offset_of.Goals.{In_ok-header}

range : (c : In_ok-header) → HasRange (length c.args.bytes.now) c.args.start c.args.size c.in_ok-header.header.now
range c = range_found _ c.args.head.now _ _ _ _ c.in_ok-header.header c.requires c.covering.ensures c.as_slice.ensures c.in_ok-header.was (omega arith)

pub overflow_sub-result : goal.overflow_sub-result
overflow_sub-result c = (range (goal.at.overflow_sub-result c).In_ok-header).begins

pub overflow_add-result : goal.overflow_add-result
overflow_add-result c = omega (arith, range (goal.at.overflow_add-result c).In_ok-header)

pub returns-clause-held : goal.returns-clause-held
returns-clause-held c = omega (arith, range (goal.at.returns-clause-held c).In_ok-header)

pub returns-clause-low : goal.returns-clause-low
returns-clause-low c some can = (range (goal.at.returns-clause-low c).In_ok-header).low
