-- Field by field, from where the head stands.
use Rattle.std.proofs.Common.{subst, ◌≡◌, ◌-◌, arith}
use Rattle.asm_write.specs.declared.part.Part.TheVariants as parts
use Rattle.asm_write.specs.Starts.{start_in, starts_of}
use Rattle.asm_write.specs.Values.{object_bytes, head_bytes, part_bytes}
use Rattle.asm_laws.specs.ElfRecords.Standing.{StandAt}
use Rattle.asm_laws.proofs.ElfSpelled.Heads.{head_said}
use Rattle.asm_laws.proofs.elf_spelled.law.the_head_is_spelled.Goals as goal

pub returns : goal.returns
unfolding part_bytes
returns c = λ contents code whole told spells.
    let bytes = object_bytes (starts_of contents) contents code in
    let none : start_in (starts_of contents) parts.Head - start_in (starts_of contents) parts.Head ≡ 0 = omega arith in
    head_said contents code whole bytes
    (subst (λ n. StandAt bytes n (head_bytes (starts_of contents) contents)) none (c.parts_stand_at_their_starts.ensures contents code whole parts.Head)) told spells
