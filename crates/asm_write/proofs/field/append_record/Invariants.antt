-- What is appended is the record's fields so far.
use Rattle.std.proofs.Common.{◌≡◌, ◌++◌, take, flat_map}
use Rattle.asm_write.specs.Fields.{field_bytes}
use Rattle.asm_write.proofs.field.append_record.Given as goal

abbrev pub invariant-loop-field : goal.invariant-loop-field
invariant-loop-field l = l.out.items ≡ l.initial.out.items ++ flat_map field_bytes (take l.field-index l.fields)
