use Rattle.std.proofs.Common.{◌≡◌, ℕ, ◌+◌, ◌*◌, ◌<◌, ◌≤◌, ◌^◌, ◌∙◌, arith}
use Rattle.history_state.specs.Accepted.{IsStorage, IsWithin}
use Rattle.history_state.specs.State.{Linked}
use Rattle.relocator.specs.Relocated.{image_byte}
use Rattle.seg_image.specs.Images.{AreBytes, IsImage}
use Rattle.seg_image.specs.Pages.{IsInside, low_of, pages_of}
use Rattle.seg_image.specs.Words.{word_of}
use Rattle.link_images.specs.Parts.{storage_of}
use Rattle.link_images.specs.ImageReads.Reads.{IsImageOf, bytes_within}
use Rattle.link_images.proofs.ImageReads.Records.{if_ok, storage_none, storage_read, words_by_bytes}
use Rattle.link_images.proofs.image_reads.parts.storage_of.Goals as goal

pub returns-in-Some : goal.returns-in-Some
returns-in-Some c =
    let o = c.args.object.now in
    let seg = c.in-Some.segment in
    let stored : IsStorage o seg = c.requires.accepted.storage seg c.in-Some.is in
    let within : (k : ℕ) → k < seg.filesz → IsInside o (seg.vaddr + k) = λ k less.
    let place : IsWithin o (record { start = seg.vaddr; size = seg.filesz }) = stored.within (omega (arith, less)) in
    record { segment = place.segment; at = place.at; is = place.is; low = omega (arith, place.low); high = omega (arith, place.high, less) } in
    let inside : (k : ℕ) → k < seg.filesz → (low_of o ≤ seg.vaddr + k) × (seg.vaddr + k < low_of o + 4096 * pages_of o) = λ k less.
    (c.pages_hold_segments.ensures.low o (seg.vaddr + k) c.requires.accepted.image (within k less), c.pages_hold_segments.ensures.high o (seg.vaddr + k) c.requires.accepted.image (within k less)) in
    let low : seg.vaddr + seg.filesz ≤ 2 ^ 32 = omega (arith, stored.low, stored.bytes) in
    if_ok c.bytes_of.result
    (λ bytes. (base : ℕ) (byte : ℕ → ℕ) → AreBytes byte → IsImage o base (word_of byte) c.args.image.now → bytes ≡ bytes_within o byte seg.vaddr seg.filesz)
    (λ bytes. (m : Linked) (base : ℕ) → IsImageOf m o base c.args.image.now → bytes ≡ storage_of m)
    (λ bytes read m base is.
    read base (image_byte o base m.serial m.bindings m.places) is.bytes (words_by_bytes o base m c.args.image.now is.relocated)
    ∙ storage_read m o base is.object is.base_is seg c.in-Some.is low inside)
    c.bytes_of.ensures

pub returns-in-None : goal.returns-in-None
returns-in-None c = λ m base is. c.new.ensures ∙ storage_none m c.args.object.now base is.object is.base_is c.in-None.is
