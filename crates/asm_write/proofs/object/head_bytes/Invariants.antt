use Rattle.std.proofs.Common.{◌≡◌, ◌++◌, take, flat_map}
use Rattle.asm_write.specs.Fields.{record_bytes}
use Rattle.asm_write.specs.Records.{header_of, header_fields}
use Rattle.asm_write.proofs.object.head_bytes.Given as goal

abbrev pub invariant-loop-segment : goal.invariant-loop-segment
invariant-loop-segment l =
    l.out.items
    ≡ l.initial.out.items
    ++ flat_map (λ segment. record_bytes (header_fields (header_of l.starts l.contents.sections segment))) (take l.segment-index l.segment-items)
