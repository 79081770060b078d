use Rattle.std.proofs.Common.{◌∙◌, rules}
use Rattle.trace_read.specs.Lists.{new_line}
use Rattle.trace_read.proofs.Looped.{each_stepped}
use Rattle.trace_read.proofs.lists.each_new_line.Goals as goal

pub loop-rest-preserved : goal.loop-rest-preserved
loop-rest-preserved c =
    each_stepped (λ text. text.now) new_line c.loop-rest.lines c.push.new.self c.in_ok-new_line.field-0 c.loop-rest.rest.now c.in-len1-up.len_at_least (λ d. search rules) (search rules)
    ∙ c.loop-rest.invariant
