use Rattle.std.proofs.Common.{◌≡◌, ⊎_elim, ℕ, List, [], ◌∷◌, length, Some, sym, ap, subst, ◌∙◌, arith, length-append}
use Rattle.std.specs.List.{slice_get}
use Rattle.std.proofs.lemmas.Option.{get_or_from_slice_get, slice_get-get_or}
use Rattle.ld_base.specs.declared.linking.Loaded.{Loaded}
use Rattle.link_open_images.specs.ObjectBindings.Bindings.{IsMade}
use Rattle.link_open_images.proofs.Places.{pushed_at}
use Rattle.seg_image.specs.declared.image.Image.{Image}
use Rattle.link_open_images.proofs.images.library_images.Goals as goal

pub library_image-requires-clause-may : goal.library_image-requires-clause-may
library_image-requires-clause-may c =
    c.requires.may c.loop-index.index c.index-objects-index.result
    (slice_get-get_or c.args.objects.now c.loop-index.index c.index-objects-index.result c.loop-index-test.true ∙ ap (λ (o : Loaded). Some o) (sym c.index-objects-index.is))

pub loop-index-preserved : goal.loop-index-preserved
loop-index-preserved c =
    let made : (o : Loaded) → slice_get c.args.objects.now c.loop-index.index ≡ Some o → IsMade c.args.indexed.now c.args.now c.args.places.now o c.in_ok-library_image.field-0 = λ o at.
    let same : c.index-objects-index.result ≡ o =
    c.index-objects-index.is ∙ get_or_from_slice_get c.args.objects.now c.loop-index.index o c.index-objects-index.result at in
    subst (λ (x : Loaded). IsMade c.args.indexed.now c.args.now c.args.places.now x c.in_ok-library_image.field-0) same
    (record {
      accepted = (c.requires.may c.loop-index.index c.index-objects-index.result (at ∙ ap (λ (x : Loaded). Some x) (sym same))).accepted;
      relocated = c.in_ok-library_image.ensures;
    }) in
    record {
      count = omega (arith, ap length c.in_ok-push.ensures.items, length-append c.loop-index.images.items (c.in_ok-library_image.field-0 ∷ []), c.loop-index.invariant.count);
      each = λ k o image at there. ⊎_elim
          (λ (old : slice_get c.loop-index.images.items k ≡ Some image). c.loop-index.invariant.each k o image at old)
          (λ (new : (c.in_ok-library_image.field-0 ≡ image) × (k ≡ length c.loop-index.images.items)).
          subst (λ (i : Image). IsMade c.args.indexed.now c.args.now c.args.places.now o i) new.0
          (made o (ap (λ (n : ℕ). slice_get c.args.objects.now n) (sym (new.1 ∙ c.loop-index.invariant.count)) ∙ at)))
          (pushed_at c.loop-index.images.items c.in_ok-library_image.field-0 k image (ap (λ (is : List Image). slice_get is k) (sym c.in_ok-push.ensures.items) ∙ there));
    }
