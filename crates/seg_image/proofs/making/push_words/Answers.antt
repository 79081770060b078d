use Rattle.std.proofs.Common.{◌≡◌, ◌+◌, ◌*◌, ◌∙◌, ◌<◌, ◌^◌, length, arith, ap}
use Rattle.seg_image.specs.Pages.{low_of}
use Rattle.seg_image.specs.Plain.{plain_word}
use Rattle.seg_image.proofs.Ordered.{all_pages}
use Rattle.seg_image.proofs.Steps.{words_after_push}
use Rattle.seg_image.proofs.making.push_words.Goals as goal

pub plain_word-requires-clause-aligned : goal.plain_word-requires-clause-aligned
plain_word-requires-clause-aligned c = let pages = all_pages c.args.object.now c.requires.accepted in omega arith

pub loop-index-preserved : goal.loop-index-preserved
loop-index-preserved c =
    let o = c.args.object.now in
    let n = c.loop-index.index in
    let count : length c.loop-index.words.items ≡ n = (let same = c.loop-index.words.ok.0 in let counted = c.loop-index.invariant.count in omega arith) in
    let is : c.plain_word.result ≡ plain_word o (low_of o + 8 * n) = c.plain_word.ensures ∙ ap (λ low. plain_word o (low + 8 * n)) c.low_of-low.ensures in
    let fits : c.plain_word.result.value < 2 ^ 64 = omega arith in
    record {
      plain = words_after_push (low_of o) (plain_word o) c.loop-index.words.items c.push.new.self.items c.plain_word.result n
          c.loop-index.invariant.plain c.in_ok-push.ensures.items count is fits;
      count = (let more = c.in_ok-push.ensures.len in let counted = c.loop-index.invariant.count in omega arith);
    }

pub returns-clause-end : goal.returns-clause-end
returns-clause-end c =
    let pages = all_pages c.args.object.now c.requires.accepted in
    let counted = c.loop-index.invariant.count in
    let before = c.requires.next.before in
    omega arith
