use Rattle.std.proofs.Common.{append_assoc}
use Rattle.trace_text.proofs.writing.write_unmapped.Goals as goal

pub returns : goal.returns
returns c =
    let text = c.in_ok-write.ensures.bytes in
    let hart = c.number-hart.ensures in
    simp append_assoc (simp append_assoc at (rw (text, hart) at c.write_serials.ensures))
