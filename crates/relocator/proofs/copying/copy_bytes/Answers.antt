use Rattle.std.proofs.Common.{◌≡◌, ◌+◌, ◌∙◌, [], ap, length, get_or, take, true, false, refl, sym, arith, subst}
use Rattle.std.proofs.lemmas.Bool.{eq-eqb, ne_eqb}
use Rattle.std.proofs.lemmas.List.{take_all}
use Rattle.std.proofs.lemmas.Slice.Zip.{length-zip}
use Rattle.std.specs.List.{zip}
use Rattle.seg_image.specs.Images.{IsImage}
use Rattle.seg_image.specs.Words.{word_of}
use Rattle.relocator.specs.Bindings.{AreBindings, is_copy, relas_of}
use Rattle.relocator.specs.Relocated.{with_copies}
use Rattle.relocator.proofs.Overlays.{byte_small, bytes_same, copied_inside, copy_skip, copy_step, image_by_bytes, no_copies}
use Rattle.relocator.proofs.Pairs.{no_reloc, reloc_read, some_at}
use Rattle.relocator.proofs.copying.copy_bytes.Goals as goal
use Rattle.relocator.proofs.copying.copy_bytes.Goals.{then-reloc-eq-R_RISCV_COPY, else-reloc-eq-R_RISCV_COPY}

pub loop-index-init : goal.loop-index-init
loop-index-init c = record {
  all = refl;
  bytes = λ value v. rw (no_copies value v) (byte_small _ v);
  made = λ base value is. bytes_same c.args.object.now base _ (with_copies [] value) c.args.image.now (image_by_bytes c.args.object.now base value c.args.image.now is) (no_copies value);
}

pub paste-requires-clause-inside : goal.paste-requires-clause-inside
paste-requires-clause-inside c = λ k less.
    let o = c.args.object.now in
    let n = c.loop-index.index in
    let lent = c.as_slice-bindings.result.now in
    let b = c.index-bindings-index.result in
    let r = get_or c.as_slice-reloc-items.result.now n no_reloc in
    let are : AreBindings o lent = rw c.as_slice-bindings.ensures c.requires.bindings in
    let read = reloc_read c.as_slice-reloc-items.result.now o.relocs lent c.args.bindings.now c.as_slice-reloc-items.ensures c.as_slice-bindings.ensures n no_reloc c.loop-index-test.true in
    let copy : is_copy r ≡ true = eq-eqb r.kind 4 c.if-reloc-eq-R_RISCV_COPY.true in
    let same : length c.as_slice.result.now ≡ length b.copied = ap length (c.as_slice.ensures ∙ ap (λ x. x.copied) (sym c.index-bindings-index.is)) in
    copied_inside o c.requires.accepted lent are n k r b read.0 read.1 c.index-bindings-index.is copy (omega arith)

pub loop-index-preserved : goal.loop-index-preserved
loop-index-preserved c =
    let o = c.args.object.now in
    let n = c.loop-index.index in
    let lent = c.as_slice-bindings.result.now in
    let pairs = zip o.relocs lent in
    let r = get_or c.as_slice-reloc-items.result.now n no_reloc in
    let are : AreBindings o lent = rw c.as_slice-bindings.ensures c.requires.bindings in
    let read = reloc_read c.as_slice-reloc-items.result.now o.relocs lent c.args.bindings.now c.as_slice-reloc-items.ensures c.as_slice-bindings.ensures n no_reloc c.loop-index-test.true in
    elim c.if-reloc-eq-R_RISCV_COPY.branch [
      | then-reloc-eq-R_RISCV_COPY w ↦ (
          let b = w.index-bindings-index.result in
          let copy : is_copy r ≡ true = eq-eqb r.kind 4 w.if-reloc-eq-R_RISCV_COPY.true in
          let bytes : w.as_slice.result.now ≡ b.copied = w.as_slice.ensures ∙ ap (λ x. x.copied) (sym w.index-bindings-index.is) in
          let step = copy_step o c.requires.accepted lent are n r b in
          record {
            all = rw w.image-is (w.paste.ensures.all ∙ c.loop-index.invariant.all);
            bytes = λ value v. rw (step value v read.0 read.1 w.index-bindings-index.is copy) (rw bytes at (w.paste.ensures.bytes (with_copies (take n pairs) value) (c.loop-index.invariant.bytes value) v));
            made = λ base value is. rw w.image-is (bytes_same o base _ (with_copies (take (n + 1) pairs) value) w.paste.new.image
                (rw bytes at (w.paste.ensures.pasted base (with_copies (take n pairs) value) (c.loop-index.invariant.bytes value) (c.loop-index.invariant.made base value is)))
                (λ v. step value v read.0 read.1 w.index-bindings-index.is copy));
          })
      | else-reloc-eq-R_RISCV_COPY w ↦ (
          let other : is_copy r ≡ false = ne_eqb r.kind 4 w.if-reloc-eq-R_RISCV_COPY.false in
          let count = are.count in
          let into = read.0 in
          let b = some_at lent n (omega arith) in
          let step = copy_skip o c.requires.accepted lent are n r b.0 in
          record {
            all = rw w.image-is c.loop-index.invariant.all;
            bytes = λ value v. rw (step value v read.0 read.1 b.1 other) (c.loop-index.invariant.bytes value v);
            made = λ base value is. rw w.image-is (bytes_same o base _ (with_copies (take (n + 1) pairs) value) c.loop-index.image
                (c.loop-index.invariant.made base value is) (λ v. step value v read.0 read.1 b.1 other));
          })
    ]

pub returns : goal.returns
returns c = λ base value is.
    let o = c.args.object.now in
    let lent = c.as_slice-bindings.result.now in
    let long = length-zip o.relocs lent in
    let same = ap length c.as_slice-reloc-items.ensures in
    let past = c.loop-index-test.false in
    let all : take c.loop-index.index (zip o.relocs lent) ≡ relas_of o c.args.bindings.now = take_all c.loop-index.index (zip o.relocs lent) (omega arith) ∙ ap (zip o.relocs) c.as_slice-bindings.ensures in
    subst (λ pairs. IsImage o base (word_of (with_copies pairs value)) c.loop-index.image) all (c.loop-index.invariant.made base value is)
