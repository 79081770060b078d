use Rattle.std.proofs.Common.{◌≡◌, ◌+◌, ◌*◌, ◌∙◌, length, vec_len, sym, arith, ap}
use Rattle.seg_image.specs.Pages.{low_of}
use Rattle.seg_image.proofs.Ordered.{all_pages, next_read, reached, reached_all, reached_more, read_at}
use Rattle.seg_image.proofs.making.plain_words.Goals as goal

pub overflow_mul-pages_of : goal.overflow_mul-pages_of
overflow_mul-pages_of c = let pages = all_pages c.args.object.now c.requires in omega arith

pub push_words-requires-clause-next : goal.push_words-requires-clause-next
push_words-requires-clause-next c =
    next_read c.args.object.now c.requires c.loop-segment.segment-index _ c.segment-item.result _
    c.as_slice-segment-items.ensures c.loop-segment-test.true c.segment-item.is c.loop-segment.invariant.reach

pub loop-segment-preserved : goal.loop-segment-preserved
loop-segment-preserved c =
    let o = c.args.object.now in
    let n = c.loop-segment.segment-index in
    let at = read_at o c.requires n c.segment-item.result _ c.as_slice-segment-items.ensures c.loop-segment-test.true c.segment-item.is in
    record {
      plain = c.in_ok-push_words.ensures.plain;
      reach = c.in_ok-push_words.ensures.end ∙ sym (reached_more o c.requires n c.segment-item.result at);
    }

pub returns-clause-all : goal.returns-clause-all
returns-clause-all c =
    let o = c.args.object.now in
    let all = reached_all o c.requires in
    let end : c.loop-segment.segment-index ≡ length o.segments = (let same = c.as_slice-segment-items.ensures in let past = c.loop-segment-test.false in let most = c.loop-segment.auto.segment-index-end in omega (arith, ap length same)) in
    let reach : low_of o + 8 * vec_len c.loop-segment.words ≡ reached o (length o.segments) = c.loop-segment.invariant.reach ∙ ap (reached o) end in
    let count = c.loop-segment.words.ok.0 in
    ap length c.from.ensures ∙ omega arith
