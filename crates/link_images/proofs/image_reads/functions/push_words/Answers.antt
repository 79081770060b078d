use Rattle.std.proofs.Common.{ℕ, ◌+◌, ◌*◌, ◌++◌, List, [], ◌∷◌, map, sym, zero-add, append_assoc, ap, ◌∙◌, arith}
use Rattle.std.specs.List.{range_with_len}
use Rattle.std.proofs.lemmas.List.FromFn.{map-range_with_len_more}
use Rattle.link_images.proofs.image_reads.functions.push_words.Goals as goal

pub loop-index-preserved : goal.loop-index-preserved
loop-index-preserved c =
    let len = c.push_reserved.ensures.len in
    let before = c.loop-index.invariant.len in
    record {
      words = λ base value is.
          let f : ℕ → ℕ = λ k. value (c.args.start + 8 * k) in
          let old : List ℕ = c.args.words.now.items in
          let so_far : List ℕ = map f (range_with_len 0 c.loop-index.index) in
          c.push_reserved.ensures.items ∙ ap (λ (ws : List ℕ). ws ++ c.word_at.result ∷ []) (c.loop-index.invariant.words base value is)
          ∙ append_assoc old so_far (c.word_at.result ∷ []) ∙ ap (λ (w : ℕ). old ++ (so_far ++ w ∷ [])) (c.word_at.ensures base value is)
          ∙ ap (λ (ws : List ℕ). old ++ ws) (sym (map-range_with_len_more f 0 c.loop-index.index c.loop-index.index (zero-add c.loop-index.index)));
      len = omega (arith, len, before);
      capacity = c.push_reserved.ensures.capacity ∙ c.loop-index.invariant.capacity;
    }
