use Rattle.std.proofs.Common.{◌++◌, List, ℕ, take, ap, ◌∙◌}
use Rattle.hart_seat.proofs.HartParts.Bytes.{whole_word}
use Rattle.hart_seat.proofs.hart_parts.passed.PassedBytes.grow.Goals as goal

pub returns : goal.returns
returns c =
    c.loop-byte.invariant
    ∙ ap (λ (bs : List ℕ). take c.args.most (c.args.self.now ++ bs))
    (whole_word c.args.address c.args.word c.loop-byte.byte-index c.to_le_bytes-bytes.result c.to_le_bytes-bytes.ensures c.loop-byte-test.false)
