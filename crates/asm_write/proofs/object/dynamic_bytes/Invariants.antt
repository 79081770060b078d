use Rattle.std.proofs.Common.{◌≡◌, take, flat_map}
use Rattle.asm_write.specs.Fields.{record_bytes}
use Rattle.asm_write.specs.Records.{dynamic_fields}
use Rattle.asm_write.proofs.object.dynamic_bytes.Given as goal

abbrev pub invariant-loop-entry : goal.invariant-loop-entry
invariant-loop-entry l = l.out.items ≡ flat_map (λ entry. record_bytes (dynamic_fields l.starts entry)) (take l.entry-index l.entry-items)
