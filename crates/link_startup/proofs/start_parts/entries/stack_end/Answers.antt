use Rattle.std.proofs.Common.{arith}
use Rattle.history_event.specs.declared.event.Range.{Range}
use Rattle.history_calls.specs.Startup.{is_stack}
use Rattle.link_startup.proofs.StartParts.Seeing.{low_end}
use Rattle.link_startup.proofs.start_parts.entries.stack_end.Goals as goal

pub overflow_mul-result : goal.overflow_mul-result
overflow_mul-result c =
    let low = low_end c.args.ranges.now (λ (r : Range). is_stack c.args.hart r.purpose) c.in-Some.range c.requires.guests c.in-Some.ensures in grind (arith, low)

pub overflow_add-result : goal.overflow_add-result
overflow_add-result c =
    let low = low_end c.args.ranges.now (λ (r : Range). is_stack c.args.hart r.purpose) c.in-Some.range c.requires.guests c.in-Some.ensures in grind (arith, low)
