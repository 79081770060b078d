-- Field by field.
use Rattle.asm_laws.specs.ElfRecords.Lemmas.Records.{symbol}
use Rattle.asm_laws.proofs.elf_records.law.symbols_read_back.Goals as goal

pub returns : goal.returns
returns c = symbol
