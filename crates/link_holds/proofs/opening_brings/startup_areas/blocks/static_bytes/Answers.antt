use Rattle.std.proofs.Common.{◌≡◌, ℕ, ◌+◌, ◌<◌, List, length, get_or, Some, refl, sym, ap, subst, ◌∙◌, arith}
use Rattle.std.specs.List.{slice_get}
use Rattle.std.proofs.lemmas.List.{with_items_is}
use Rattle.std.proofs.lemmas.Option.{slice_get-get_or}
use Rattle.link_images.specs.declared.parts.Part.{Part}
use Rattle.ld_base.specs.declared.linking.Loaded.{Loaded}
use Rattle.link_holds.specs.OpeningBrings.StartupAreas.Blocks.{IsBlock, static_offset}
use Rattle.link_holds.proofs.OpeningBrings.StartupAreas.Written.{InFront, all_in_front, get_at, with_more, without_more}
use Rattle.link_holds.proofs.opening_brings.startup_areas.blocks.static_bytes.Goals.{in-Some, in_default}
use Rattle.link_holds.proofs.opening_brings.startup_areas.blocks.static_bytes.Goals as goal

pub overflow_add-tp : goal.overflow_add-tp
overflow_add-tp c =
    let lt : c.loop-index.index < length c.args.objects.now = c.loop-index-test.true in
    let at : slice_get c.args.objects.now c.loop-index.index ≡ Some c.index-objects-index.result =
    slice_get-get_or c.args.objects.now c.loop-index.index c.index-objects-index.result lt ∙ ap (λ (o : Loaded). Some o) (sym c.index-objects-index.is) in
    let part = get_at c.args.parts.now c.loop-index.index (length c.args.objects.now) c.requires.count lt in
    let is : IsBlock c.args.objects.now c.args.parts.now c.loop-index.index c.in-Some.offset part.0.storage = record {
      object = c.index-objects-index.result;
      there = at;
      stands = sym c.static_offset.ensures ∙ c.in-Some.is;
      part = part.0;
      kept = part.1;
      are = refl;
    } in
    omega (arith, c.requires.fit.within c.loop-index.index c.in-Some.offset part.0.storage is, c.ranges.size.fits)

pub write-requires : goal.write-requires
write-requires c =
    let lt : c.loop-index.index < length c.args.objects.now = c.loop-index-test.true in
    let has : c.loop-index.index < length c.args.parts.now = omega (arith, lt, c.requires.count) in
    let is : IsBlock c.args.objects.now c.args.parts.now c.loop-index.index c.in-Some.offset c.as_slice.result.now = record {
      object = c.index-objects-index.result;
      there = slice_get-get_or c.args.objects.now c.loop-index.index c.index-objects-index.result lt ∙ ap (λ (o : Loaded). Some o) (sym c.index-objects-index.is);
      stands = sym c.static_offset.ensures ∙ c.in-Some.is;
      part = c.index-parts-index.result;
      kept = slice_get-get_or c.args.parts.now c.loop-index.index c.index-parts-index.result has ∙ ap (λ (p : Part). Some p) (sym c.index-parts-index.is);
      are = c.as_slice.ensures ∙ ap (λ (p : Part). p.storage) (sym c.index-parts-index.is);
    } in
    omega (arith, c.requires.fit.within c.loop-index.index c.in-Some.offset c.as_slice.result.now is, ap length c.deref_mut.ensures.value, c.loop-index.invariant.count)

pub loop-index-preserved : goal.loop-index-preserved
loop-index-preserved c =
    let lt : c.loop-index.index < length c.args.objects.now = c.loop-index-test.true in
    let has : c.loop-index.index < length c.args.parts.now = omega (arith, lt, c.requires.count) in
    let at : slice_get c.args.objects.now c.loop-index.index ≡ Some c.index-objects-index.result =
    slice_get-get_or c.args.objects.now c.loop-index.index c.index-objects-index.result lt ∙ ap (λ (o : Loaded). Some o) (sym c.index-objects-index.is) in
    let go : List ℕ → Type 0 = InFront c.args.tp c.args.size c.args.objects.now c.args.parts.now (c.loop-index.index + 1) in
    elim c.match-static_offset.branch [
      | in-Some w ↦
          let is : IsBlock c.args.objects.now c.args.parts.now c.loop-index.index w.in-Some.offset w.as_slice.result.now = record {
            object = c.index-objects-index.result;
            there = at;
            stands = sym c.static_offset.ensures ∙ w.in-Some.is;
            part = w.index-parts-index.result;
            kept = slice_get-get_or c.args.parts.now c.loop-index.index w.index-parts-index.result has ∙ ap (λ (p : Part). Some p) (sym w.index-parts-index.is);
            are = w.as_slice.ensures ∙ ap (λ (p : Part). p.storage) (sym w.index-parts-index.is);
          } in
          let was : w.deref_mut.result.now ≡ c.loop-index.bytes.items = w.deref_mut.ensures.value in
          let long : length w.write.new.bytes ≡ length c.loop-index.bytes.items = w.write.ensures.length ∙ ap (λ (xs : List ℕ). length xs) was in
          subst go (sym (ap (λ v. v.items) w.bytes-is ∙ with_items_is c.loop-index.bytes w.write.new.bytes (long ∙ sym c.loop-index.bytes.ok.0)))
          (with_more c.args.tp c.args.size c.args.objects.now c.args.parts.now c.loop-index.index w.in-Some.offset w.as_slice.result.now c.loop-index.bytes.items w.write.new.bytes c.requires.fit is
          long w.write.ensures.inside (λ v out. w.write.ensures.beside v out ∙ ap (λ (xs : List ℕ). get_or xs v 0) was) c.loop-index.invariant)
      | in_default w ↦
          subst go (sym (ap (λ v. v.items) w.bytes-is))
          (without_more c.args.tp c.args.size c.args.objects.now c.args.parts.now c.loop-index.index c.loop-index.bytes.items c.index-objects-index.result at (sym c.static_offset.ensures ∙ w.in_default.is) c.loop-index.invariant)
    ]

pub returns : goal.returns
returns c = all_in_front c.args.tp c.args.size c.args.objects.now c.args.parts.now c.loop-index.index c.loop-index.bytes.items (omega (arith, c.loop-index-test.false)) c.loop-index.invariant
