use Rattle.std.proofs.Common.{◌≡◌, ℕ, length, Some}
use Rattle.std.specs.List.{slice_get}
use Rattle.ld_base.specs.declared.linking.Loaded.{Loaded}
use Rattle.link_open_images.specs.ObjectBindings.Bindings.{IsMade}
use Rattle.seg_image.specs.declared.image.Image.{Image}
use Rattle.link_open_images.proofs.images.library_images.Given as goal

-- those of the objects in front
abbrev pub invariant-loop-index : goal.invariant-loop-index
invariant-loop-index l = record {
  count : length l.images.items ≡ l.index;
  each : (k : ℕ) (o : Loaded) (image : Image) → slice_get l.objects k ≡ Some o → slice_get l.images.items k ≡ Some image → IsMade l.indexed l.now l.places o image;
}
