use Rattle.std.proofs.Common.{◌≡◌, drop}
use Rattle.std.specs.Prelude.{find}
use Rattle.elf_head.specs.Readable.{covers}
use Rattle.elf_head.proofs.range.covering.Given as goal

-- what the rest gives, the whole gives
abbrev pub invariant-loop-header : goal.invariant-loop-header
invariant-loop-header l = find (covers l.start l.size) (drop l.header-index l.headers) ≡ find (covers l.start l.size) l.headers
