use Rattle.elf_head.proofs.Law.{accepted, refused}
use Rattle.elf_head.proofs.verdict.one_verdict.Goals as goal

pub returns : goal.returns
returns c = record { accepted = accepted; refused = refused }
