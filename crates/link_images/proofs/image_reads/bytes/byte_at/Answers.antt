use Rattle.std.proofs.Common.{◌≡◌, ℕ, ◌+◌, ◌-◌, ◌*◌, ◌/◌, ◌%◌, ◌<◌, ◌≤◌, List, get_or, length, sym, ap, ◌∙◌, arith}
use Rattle.seg_image.specs.Pages.{low_of, pages_of}
use Rattle.seg_image.specs.Words.{word_of}
use Rattle.seg_image.specs.declared.image.Word.{Word}
use Rattle.link_images.proofs.ImageReads.Places.{byte_read, inside_is, low_aligned, word_read}
use Rattle.link_images.proofs.image_reads.bytes.byte_at.Goals as goal

pub returns-in-Some : goal.returns-in-Some
returns-in-Some c = λ base byte are is.
    let o = c.args.object.now in
    let a : ℕ = c.args.address in
    let k : ℕ = (a - c.low_of-low.result) / 8 in
    let low : c.low_of-low.result ≡ low_of o = c.low_of-low.ensures in
    let aligned : low_of o % 4096 ≡ 0 = low_aligned o in
    let from : low_of o ≤ a = omega (arith, c.if-address-low.false, low) in
    let slice : c.as_slice.result.now ≡ c.args.image.now.words = c.as_slice.ensures in
    let inside : k < length c.as_slice.result.now = c.in-Some.ensures.lookup.3.0 in
    let within : k < 512 * pages_of o = omega (arith, inside, ap length slice, c.requires.all) in
    let value : c.in-Some.word.now.value ≡ word_of byte (low_of o + 8 * k) =
    ap (λ (w : Word). w.value) (c.in-Some.ensures.lookup.1 ∙ ap (λ (ws : List Word). get_or ws k c.in-Some.word.now) slice)
    ∙ word_read o base (word_of byte) c.args.image.now is k (low_of o + 8 * k) c.in-Some.word.now within (omega arith) in
    ap (λ (bs : List ℕ). get_or bs (a % 8) 0) c.to_le_bytes.ensures
    ∙ byte_read byte c.in-Some.word.now.value (low_of o + 8 * k) a are value (omega (arith, aligned)) (omega (arith, low, from)) (omega (arith, low, from))
    ∙ sym (inside_is o byte a from (omega (arith, low, from, within)))
