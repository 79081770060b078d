-- Byte by byte.
use Rattle.asm_laws.specs.ElfRecords.Lemmas.Standing.{behind, front}
use Rattle.asm_laws.proofs.elf_records.law.joined_bytes_stand.Goals as goal

pub returns-clause-front : goal.returns-clause-front
returns-clause-front c = front

pub returns-clause-behind : goal.returns-clause-behind
returns-clause-behind c = behind
