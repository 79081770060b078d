use Rattle.std.proofs.Common.{◌≡◌, ◌≤◌, ◌∙◌, [], ap, length, get_or, take, sym, refl, arith, subst}
use Rattle.std.proofs.lemmas.List.{take_all}
use Rattle.std.proofs.lemmas.Slice.Zip.{length-zip}
use Rattle.std.specs.List.{zip}
use Rattle.seg_image.specs.Images.{IsImage}
use Rattle.relocator.specs.Bindings.{relas_of}
use Rattle.relocator.specs.Relocated.{over, rela_at}
use Rattle.relocator.proofs.Layers.{image_same, rela_skip, rela_step}
use Rattle.relocator.proofs.Pairs.{no_reloc, reloc_read}
use Rattle.relocator.proofs.Types.{fills_where_given, skips_where_none}
use Rattle.relocator.proofs.relocating.fill_words.Goals as goal
use Rattle.relocator.proofs.relocating.fill_words.Goals.{in-Some, in_default}

pub loop-index-init : goal.loop-index-init
unfolding rela_at
loop-index-init c = record {
  all = refl;
  made = λ value is. image_same c.args.object.now c.args.base value (over (rela_at c.args.base c.args.serial c.args.places.now []) value) c.args.image.now is (λ v _. refl);
}

pub loop-index-preserved : goal.loop-index-preserved
loop-index-preserved c =
    let o = c.args.object.now in
    let n = c.loop-index.index in
    let lent = c.as_slice-bindings.result.now in
    let read = reloc_read c.as_slice-reloc-items.result.now o.relocs lent c.args.bindings.now c.as_slice-reloc-items.ensures c.as_slice-bindings.ensures n _ c.loop-index-test.true in
    let enough : length o.relocs ≤ length lent = rw c.as_slice-bindings.ensures c.requires.count in
    let b = c.index-bindings-index.result in
    elim c.match-word_of.branch [
      | in-Some w ↦ (
          let gives = fills_where_given c.args.base c.args.serial c.args.places.now _ b w.in-Some.word w.in-Some.ensures in
          record {
            all = rw w.image-is (w.set_value.ensures.all ∙ c.loop-index.invariant.all);
            made = λ value is. rw w.image-is (rela_step o c.requires.accepted c.args.base c.args.serial c.args.places.now lent enough value n w.in-Some.word _ b w.set_value.new.self
                read.0 read.1 c.index-bindings-index.is gives.0 gives.1 (w.set_value.ensures.set c.args.base _ (c.loop-index.invariant.made value is)));
          })
      | in_default w ↦ (
          let skips = skips_where_none c.args.base c.args.serial c.args.places.now (get_or c.as_slice-reloc-items.result.now n no_reloc) b (sym w.in_default.ensures) in
          record {
            all = rw w.image-is c.loop-index.invariant.all;
            made = λ value is. rw w.image-is (rela_skip o c.requires.accepted c.args.base c.args.serial c.args.places.now lent enough value n _ b c.loop-index.image
                read.0 read.1 c.index-bindings-index.is skips (c.loop-index.invariant.made value is));
          })
    ]

pub returns : goal.returns
returns c = λ value is.
    let o = c.args.object.now in
    let lent = c.as_slice-bindings.result.now in
    let long = length-zip o.relocs lent in
    let same = ap length c.as_slice-reloc-items.ensures in
    let past = c.loop-index-test.false in
    let all : take c.loop-index.index (zip o.relocs lent) ≡ relas_of o c.args.bindings.now = take_all c.loop-index.index (zip o.relocs lent) (omega arith) ∙ ap (zip o.relocs) c.as_slice-bindings.ensures in
    subst (λ pairs. IsImage o c.args.base (over (rela_at c.args.base c.args.serial c.args.places.now pairs) value) c.loop-index.image) all (c.loop-index.invariant.made value is)
