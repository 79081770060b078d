use Rattle.std.proofs.Common.{◌≡◌, ℕ, ◌+◌, ◌<◌, get_or, arith, ap, ◌∙◌}
use Rattle.std.proofs.lemmas.List.FromFn.{fill_by_all}
use Rattle.std.specs.Int.{w64, from_le_bytes}
use Rattle.seg_image.specs.Words.{word_of}
use Rattle.hart_seat.proofs.hart_parts.number.number_at.Goals as goal

pub returns : goal.returns
unfolding word_of
returns c =
    let all : (k : ℕ) → k < 8 → get_or c.loop-offset.byte-items k 0 ≡ get_or c.args.bytes.now (c.args.place + k) 0 =
    λ k less. c.loop-offset.invariant k (omega arith) in
    let same = fill_by_all (λ i. get_or c.args.bytes.now (c.args.place + i) 0) c.loop-offset.byte-items 8 0 c.loop-offset-test.array_long all in
    c.from_le_bytes.ensures ∙ ap (from_le_bytes w64) same
