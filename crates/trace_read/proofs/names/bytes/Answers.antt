use Rattle.std.proofs.Common.{◌∙◌, rules}
use Rattle.trace_read.proofs.Looped.{bytes_stepped}
use Rattle.trace_read.proofs.names.bytes.Goals as goal

pub loop-rest-preserved : goal.loop-rest-preserved
loop-rest-preserved c =
    bytes_stepped c.loop-rest.bytes c.push.new.self c.in_ok-ok_or.field-0 c.loop-rest.rest.now c.in-len2-up.len_at_least (search rules) (search rules) ∙ c.loop-rest.invariant
