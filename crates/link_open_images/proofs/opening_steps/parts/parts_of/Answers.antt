use Rattle.std.proofs.Common.{◌≡◌, ◌<◌, List, [], ◌∷◌, ◌++◌, length, map, take, Some, sym, ap, ◌∙◌, arith}
use Rattle.std.specs.List.{slice_get}
use Rattle.std.proofs.lemmas.List.{map-append, take_more}
use Rattle.std.proofs.lemmas.Option.{slice_get-get_or}
use Rattle.link_images.specs.Parts.{part_of}
use Rattle.link_images.specs.declared.parts.Part.{Part}
use Rattle.ld_base.specs.declared.linking.Loaded.{Loaded}
use Rattle.seg_image.specs.declared.image.Image.{Image}
use Rattle.link_open_images.proofs.opening_steps.parts.parts_of.Goals as goal

pub part_of-requires-clause-accepted : goal.part_of-requires-clause-accepted
part_of-requires-clause-accepted c =
    let lt : c.loop-index.index < length c.args.objects.now = omega arith in
    c.requires.accepted c.index-objects-index.result (c.loop-index.index, lt, sym c.index-objects-index.is)

pub part_of-requires-clause-all : goal.part_of-requires-clause-all
part_of-requires-clause-all c =
    let lt : c.loop-index.index < length c.args.objects.now = omega arith in
    let has : c.loop-index.index < length c.args.images.now = omega (arith, lt, c.requires.read.count) in
    let object : slice_get c.args.objects.now c.loop-index.index ≡ Some c.index-objects-index.result =
    slice_get-get_or c.args.objects.now c.loop-index.index c.index-objects-index.result lt ∙ ap (λ (o : Loaded). Some o) (sym c.index-objects-index.is) in
    let image : slice_get c.args.images.now c.loop-index.index ≡ Some c.index-images-index.result =
    slice_get-get_or c.args.images.now c.loop-index.index c.index-images-index.result has ∙ ap (λ (i : Image). Some i) (sym c.index-images-index.is) in
    c.requires.read.whole c.loop-index.index c.index-objects-index.result c.index-images-index.result object image

pub loop-index-preserved : goal.loop-index-preserved
loop-index-preserved c = λ record_of are.
    let lt : c.loop-index.index < length c.args.objects.now = omega arith in
    let has : c.loop-index.index < length c.args.images.now = omega (arith, lt, c.requires.read.count) in
    let o : Loaded = c.index-objects-index.result in
    let object : slice_get c.args.objects.now c.loop-index.index ≡ Some c.index-objects-index.result =
    slice_get-get_or c.args.objects.now c.loop-index.index c.index-objects-index.result lt ∙ ap (λ (x : Loaded). Some x) (sym c.index-objects-index.is) in
    let image : slice_get c.args.images.now c.loop-index.index ≡ Some c.index-images-index.result =
    slice_get-get_or c.args.images.now c.loop-index.index c.index-images-index.result has ∙ ap (λ (i : Image). Some i) (sym c.index-images-index.is) in
    let of = are c.loop-index.index c.index-objects-index.result c.index-images-index.result object image in
    let part : c.in_ok-part_of.field-0 ≡ part_of (record_of c.index-objects-index.result) = c.in_ok-part_of.ensures (record_of c.index-objects-index.result) of.serial of.is in
    let front : List Loaded = take c.loop-index.index c.args.objects.now in
    c.in_ok-push.ensures.items ∙ ap (λ (ps : List Part). ps ++ c.in_ok-part_of.field-0 ∷ []) (c.loop-index.invariant record_of are)
    ∙ ap (λ (p : Part). map part_of (map record_of front) ++ p ∷ []) part
    ∙ sym (map-append part_of (map record_of front) (record_of o ∷ []))
    ∙ ap (map part_of) (sym (map-append record_of front (o ∷ [])))
    ∙ ap (λ (x : Loaded). map part_of (map record_of (front ++ x ∷ []))) c.index-objects-index.is
    ∙ ap (λ (os : List Loaded). map part_of (map record_of os)) (sym (take_more c.args.objects.now c.loop-index.index c.index-objects-index.result lt))
