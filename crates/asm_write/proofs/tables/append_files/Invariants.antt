use Rattle.std.proofs.Common.{◌≡◌, ◌++◌, take, flat_map}
use Rattle.asm_write.specs.Fields.{record_bytes}
use Rattle.asm_write.specs.Records.{need_fields}
use Rattle.asm_write.proofs.tables.append_files.Given as goal

abbrev pub invariant-loop-file : goal.invariant-loop-file
invariant-loop-file l = l.out.items ≡ l.initial.out.items ++ flat_map (λ need. record_bytes (need_fields need)) (take l.file-index l.files)
