use Rattle.std.proofs.Common.{ℕ, ◌+◌, ◌%◌, ◌^◌, ◌++◌, List, [], ◌∷◌, map, sym, zero-add, ap, ◌∙◌}
use Rattle.std.specs.List.{range_with_len}
use Rattle.std.proofs.lemmas.List.FromFn.{map-range_with_len_more}
use Rattle.link_images.specs.ImageReads.Reads.{byte_within}
use Rattle.link_images.proofs.image_reads.bytes.bytes_of.Goals as goal

pub loop-offset-preserved : goal.loop-offset-preserved
loop-offset-preserved c = λ base byte are is.
    let f : ℕ → ℕ = λ k. byte_within c.args.object.now byte ((c.args.address + k) % 2 ^ 64) in
    let so_far : List ℕ = map f (range_with_len 0 c.loop-offset.offset) in
    c.in_ok-push.ensures.ok ∙ ap (λ (bs : List ℕ). bs ++ c.byte_at.result ∷ []) (c.loop-offset.invariant base byte are is)
    ∙ ap (λ (b : ℕ). so_far ++ b ∷ []) (c.byte_at.ensures base byte are is)
    ∙ sym (map-range_with_len_more f 0 c.loop-offset.offset c.loop-offset.offset (zero-add c.loop-offset.offset))
