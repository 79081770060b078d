use Rattle.std.proofs.Common.{◌∙◌, rules}
use Rattle.trace_read.specs.Numbers.{numeral}
use Rattle.trace_read.proofs.Looped.{each_stepped}
use Rattle.trace_read.proofs.lists.each_serial.Goals as goal

pub loop-rest-preserved : goal.loop-rest-preserved
loop-rest-preserved c =
    each_stepped (λ text. text.now) (numeral 10) c.loop-rest.serials c.push.new.self c.in_ok-ok_or.field-0 c.loop-rest.rest.now c.in-len1-up.len_at_least (λ d. search rules) (search rules)
    ∙ c.loop-rest.invariant
