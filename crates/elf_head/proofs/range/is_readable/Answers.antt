use Rattle.std.proofs.Common.{arith}
use Rattle.elf_head.proofs.Finding.{some_found}
use Rattle.elf_head.specs.Readable.{covers}
use Rattle.elf_head.proofs.range.is_readable.Goals as goal

pub returns-else-size-eq0 : goal.returns-else-size-eq0
returns-else-size-eq0 c =
    grind (arith, some_found (covers c.args.start c.args.size) c.args.headers.now c.covering.result c.covering.ensures)
