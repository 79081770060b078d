use Rattle.std.proofs.Common.{ap}
use Rattle.std.specs.Prelude.{is_some}
use Rattle.elf_versions.proofs.records.Records.bytes_at.Goals as goal

pub returns-in-Some-clause-low : goal.returns-in-Some-clause-low
returns-in-Some-clause-low c some = c.file_bytes.ensures.low some (ap is_some c.in-Some.is)
