-- Field by field, by what the table tells.
use Rattle.asm_write.specs.Starts.{starts_of}
use Rattle.asm_write.specs.Values.{object_bytes}
use Rattle.asm_laws.specs.ElfSpelled.Said.{said_head}
use Rattle.asm_laws.proofs.ElfSpelled.Told.{by_itself}
use Rattle.asm_laws.proofs.elf_spelled.law.the_table_says_by_itself.Goals as goal

pub returns : goal.returns
returns c = λ contents code whole tells said are.
    by_itself contents (object_bytes (starts_of contents) contents code) (said_head contents).headers said
    (c.the_tags_are_spelled.ensures contents code whole tells said.tags are.tags) are
