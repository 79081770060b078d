use Rattle.std.proofs.Common.{◌≡◌, ℕ, ◌+◌, ◌<◌, get_or, arith, ap, ◌∙◌}
use Rattle.std.proofs.lemmas.List.FromFn.{fill_by_all}
use Rattle.std.specs.Int.{w64, from_le_bytes}
use Rattle.seg_image.specs.Words.{file_byte, file_word, word_of}
use Rattle.link_spaces.proofs.slot_words.words.file_word.Goals as goal

pub returns : goal.returns
unfolding file_word word_of
returns c =
    let all : (k : ℕ) → k < 8 → get_or c.loop-offset.byte-items k 0 ≡ file_byte c.args.object.now (c.args.address + k) =
    λ k less. c.loop-offset.invariant k (omega arith) in
    let same = fill_by_all (λ i. file_byte c.args.object.now (c.args.address + i)) c.loop-offset.byte-items 8 0 c.loop-offset-test.array_long all in
    c.from_le_bytes.ensures ∙ ap (from_le_bytes w64) same
