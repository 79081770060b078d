-- The verdict on a file: the object that it is, with its hash tables, or the rule that it breaks first.
use Rattle.std.specs.Prelude.{ℕ, Bool, List, Result, Ok}
use Rattle.ld_base.specs.declared.fault.NotAccepted.{NotAccepted}
use Rattle.ld_base.specs.declared.object.Object.{Object}
use Rattle.ld_base.specs.declared.parts.HashTable.{HashTable}
use Rattle.elf_head.specs.Rules.{head_verdict}
use Rattle.elf_head.specs.AcceptancePart.Entries.{◌>>=◌}
use Rattle.elf_dynamic.specs.Rules.{dynamic_verdict}
use Rattle.elf_versions.specs.Verdict.{versions_verdict}
use Rattle.sym_hash.specs.Verdict.{hash_verdict}
use Rattle.elf_object.specs.Object.{object_of}

-- the object of a file, as the program or as another object
unfoldable pub object_verdict : List ℕ → Bool → Result (Object × HashTable) NotAccepted
object_verdict bytes program = do
  head ← head_verdict bytes
  parts ← dynamic_verdict bytes head program
  versions ← versions_verdict bytes head parts
  table ← hash_verdict bytes head parts
  Ok (object_of bytes head parts versions, table)
