use Rattle.std.proofs.Common.{◌∙◌, rules}
use Rattle.trace_read.proofs.Looped.{name_stepped, name_failed}
use Rattle.trace_read.proofs.names.unescaped.Goals as goal

pub returns-in_err-byte : goal.returns-in_err-byte
returns-in_err-byte c =
    let none = name_failed c.loop-rest.bytes.items c.loop-rest.rest.now _ c.in-len1-up.len_at_least (search rules) c.loop-rest.invariant in
    search rules

pub loop-rest-preserved : goal.loop-rest-preserved
loop-rest-preserved c =
    name_stepped c.loop-rest.bytes.items c.push.new.self.items c.in_ok-byte.byte c.loop-rest.rest.now c.in_ok-byte.behind.now c.in-len1-up.len_at_least (search rules) (search rules)
    ∙ c.loop-rest.invariant
