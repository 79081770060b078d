use Rattle.std.proofs.Common.{◌≡◌, ◌+◌, ◌∙◌, [], take, refl, arith, subst}
use Rattle.std.proofs.lemmas.List.{take_all}
use Rattle.seg_image.specs.Images.{IsImage}
use Rattle.seg_image.specs.Words.{word_of}
use Rattle.relocator.specs.Copies.{pasted}
use Rattle.relocator.proofs.Linkers.{low_address}
use Rattle.relocator.proofs.Overlays.{bytes_same, pasted_are, pasted_more, pasted_none, take_small}
use Rattle.relocator.proofs.copying.paste.Goals as goal

pub loop-offset-init : goal.loop-offset-init
loop-offset-init c = record {
  all = refl;
  bytes = λ old are. pasted_are c.args.place [] old (λ k. take_small c.args.bytes.now 0 k (λ i. let fits = c.type_inv.bytes i in omega arith)) are;
  made = λ base old are is. bytes_same c.args.object.now base old (pasted c.args.place [] old) c.args.image.now is (pasted_none c.args.place old);
}

pub overflow_add-place : goal.overflow_add-place
overflow_add-place c = let low = low_address c.args.object.now c.requires.accepted (c.args.place + c.loop-offset.offset) (c.requires.inside c.loop-offset.offset c.loop-offset-test.true) in omega arith

pub loop-offset-preserved : goal.loop-offset-preserved
loop-offset-preserved c =
    let o = c.args.object.now in
    let place = c.args.place in
    let n = c.loop-offset.offset in
    let bytes = c.args.bytes.now in
    record {
      all = c.set_byte.ensures.all ∙ c.loop-offset.invariant.all;
      bytes = λ old are. pasted_are place (take (n + 1) bytes) old (λ k. take_small bytes (n + 1) k (λ i. let fits = c.type_inv.bytes i in omega arith)) are;
      made = λ base old are is. bytes_same o base _ (pasted place (take (n + 1) bytes) old) c.set_byte.new.self
          (c.set_byte.ensures.set base (pasted place (take n bytes) old) (c.loop-offset.invariant.bytes old are) (c.loop-offset.invariant.made base old are is))
          (λ v. pasted_more place bytes old n v c.loop-offset-test.true);
    }

pub returns-clause-pasted : goal.returns-clause-pasted
returns-clause-pasted c = λ base old are is.
    let all : take c.loop-offset.offset c.args.bytes.now ≡ c.args.bytes.now = take_all c.loop-offset.offset c.args.bytes.now c.loop-offset-test.false in
    subst (λ bytes. IsImage c.args.object.now base (word_of (pasted c.args.place bytes old)) c.loop-offset.image) all (c.loop-offset.invariant.made base old are is)

pub returns-clause-bytes : goal.returns-clause-bytes
returns-clause-bytes c = λ old are. pasted_are c.args.place c.args.bytes.now old (λ i. let fits = c.type_inv.bytes i in omega arith) are
