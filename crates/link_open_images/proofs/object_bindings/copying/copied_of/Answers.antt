use Rattle.std.proofs.Common.{◌≡◌, ℕ, Bool, [], Option, Some, get_or, sym, ap, ◌∙◌, arith}
use Rattle.std.specs.List.{slice_get}
use Rattle.std.specs.Option.{option_map_or}
use Rattle.std.proofs.lemmas.Option.{slice_get-get_or}
use Rattle.ld_base.specs.declared.linking.Loaded.{Loaded}
use Rattle.scope_rule.specs.Seen.{Seen}
use Rattle.seg_image.specs.Images.{AreBytes, IsImage}
use Rattle.seg_image.specs.Pages.{own_address}
use Rattle.seg_image.specs.Words.{word_of}
use Rattle.seg_image.specs.declared.image.Image.{Image}
use Rattle.link_images.specs.ImageReads.Reads.{bytes_within}
use Rattle.link_open_images.specs.ObjectBindings.Bindings.{AreMade, IsMade, copies_from, plain_byte}
use Rattle.link_open_images.proofs.ObjectBindings.Lists.{if_ok}
use Rattle.link_open_images.specs.Lemmas.Plain.{plain_bytes, plain_image}
use Rattle.link_open_images.proofs.object_bindings.copying.copied_of.Goals as goal

pub bytes_of-requires-clause-accepted : goal.bytes_of-requires-clause-accepted
bytes_of-requires-clause-accepted c = c.requires.accepted c.in-Some.place _ (slice_get-get_or c.args.made.now.objects.now c.in-Some.place c.index-made-place.result c.in-Some.ensures.within)

pub bytes_of-requires-clause-all : goal.bytes_of-requires-clause-all
bytes_of-requires-clause-all c =
    c.requires.whole c.in-Some.place _ _ (slice_get-get_or c.args.made.now.objects.now c.in-Some.place c.index-made-place.result c.in-Some.ensures.within)
    (slice_get-get_or c.args.made.now.images.now c.in-Some.place c.index-made-place-in-Some.result (omega (arith, c.requires.count, c.in-Some.ensures.within)))

pub returns-in-Some : goal.returns-in-Some
unfolding own_address
returns-in-Some c =
    let k : ℕ = c.in-Some.place in
    let o : Loaded = get_or c.args.made.now.objects.now k c.index-made-place.result in
    let image : Image = get_or c.args.made.now.images.now k c.index-made-place-in-Some.result in
    let at : slice_get c.args.made.now.objects.now k ≡ Some o = slice_get-get_or c.args.made.now.objects.now k c.index-made-place.result c.in-Some.ensures.within in
    let made : slice_get c.args.made.now.images.now k ≡ Some image =
    slice_get-get_or c.args.made.now.images.now k c.index-made-place-in-Some.result (omega (arith, c.requires.count, c.in-Some.ensures.within)) in
    if_ok c.bytes_of.result
    (λ bytes. (base : ℕ) (byte : ℕ → ℕ) → AreBytes byte → IsImage o.object base (word_of byte) image → bytes ≡ bytes_within o.object byte (own_address o.base c.args.address) c.args.count)
    (λ bytes. (ns : Seen) (now : Bool) → AreMade ns now c.args.made.now.places.now c.args.made.now.objects.now c.args.made.now.images.now
    → bytes ≡ copies_from ns now c.args.made.now.places.now c.args.made.now.objects.now (Some c.args.serial) c.args.address c.args.count)
    (λ bytes read ns now are.
    let one : IsMade ns now c.args.made.now.places.now o image = are.each k o image at made in
    read o.base (plain_byte ns now c.args.made.now.places.now o) (plain_bytes ns now c.args.made.now.places.now o)
    (plain_image ns now c.args.made.now.places.now o image one.relocated)
    ∙ ap (λ (found : Option Loaded). option_map_or (λ x. bytes_within x.object (plain_byte ns now c.args.made.now.places.now x) (own_address x.base c.args.address) c.args.count) found [])
    (sym at ∙ c.in-Some.ensures.there))
    c.bytes_of.ensures
