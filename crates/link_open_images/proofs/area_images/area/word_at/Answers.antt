use Rattle.std.proofs.Common.{◌≡◌, ℕ, ◌+◌, ◌<◌, get_or, arith, ap, ◌∙◌}
use Rattle.std.proofs.lemmas.List.FromFn.{fill_by_all}
use Rattle.std.specs.Int.{w64, from_le_bytes}
use Rattle.seg_image.specs.Words.{word_of}
use Rattle.link_open_images.specs.AreaImages.Areas.{byte_among}
use Rattle.link_open_images.proofs.area_images.area.word_at.Goals as goal

pub returns : goal.returns
unfolding word_of
returns c =
    let all : (k : ℕ) → k < 8 → get_or c.loop-offset.byte-items k 0 ≡ byte_among c.args.at c.args.bytes.now (c.args.address + k) =
    λ k less. c.loop-offset.invariant k (omega arith) in
    let same = fill_by_all (λ i. byte_among c.args.at c.args.bytes.now (c.args.address + i)) c.loop-offset.byte-items 8 0 c.loop-offset-test.array_long all in
    c.from_le_bytes.ensures ∙ ap (from_le_bytes w64) same
