use Rattle.std.proofs.Common.{◌≡◌, ◌+◌, Bool, true, false, cond, List, [], ◌∷◌, ◌++◌, take, sym, ap, subst, ◌∙◌}
use Rattle.std.specs.List.{filter}
use Rattle.std.proofs.lemmas.List.{append-nil}
use Rattle.history_event.specs.declared.event.Range.{Range}
use Rattle.history_calls.specs.Served.{is_area}
use Rattle.seg_image.specs.declared.image.Image.{Image}
use Rattle.link_holds.specs.OpeningBrings.StartupAreas.Areas.{AreFilled}
use Rattle.link_holds.proofs.OpeningBrings.StartupAreas.Filled.{next_filled, one_more}
use Rattle.link_holds.proofs.opening_brings.startup_areas.areas.filled.Goals.{then-is_area+in_ok-image_of+in_ok-push, else-is_area}
use Rattle.link_holds.proofs.opening_brings.startup_areas.areas.filled.Goals as goal

pub loop-range-preserved : goal.loop-range-preserved
loop-range-preserved c =
    let r : Range = c.range-item.result in
    let front : List Range = take c.loop-range.range-index c.args.ranges.now in
    let next : (b : Bool) → c.is_area.result ≡ b
    → filter is_area (take (c.loop-range.range-index + 1) c.args.ranges.now) ≡ filter is_area (take c.loop-range.range-index c.args.ranges.now) ++ cond b (c.range-item.result ∷ []) [] = λ b is.
    next_filled c.args.ranges.now c.loop-range.range-index c.range-item.result c.loop-range-test.true c.range-item.is
    ∙ ap (λ (t : Bool). filter is_area front ++ cond t (r ∷ []) []) (sym c.is_area.ensures ∙ is) in
    elim c.if-is_area.branch [
      | then-is_area+in_ok-image_of+in_ok-push w ↦
          subst (λ (rs : List Range). AreFilled c.args.bytes.now rs c.if-is_area.images) (sym (next true w.if-is_area.true))
          (subst (λ (is : List Image). AreFilled c.args.bytes.now (filter is_area front ++ r ∷ []) is) (sym (w.images-is ∙ w.in_ok-push.ensures.ok))
          (one_more c.args.bytes.now (filter is_area front) c.loop-range.images r w.in_ok-image_of.field-0 c.loop-range.invariant w.in_ok-image_of.ensures))
      | else-is_area w ↦
          subst (λ (rs : List Range). AreFilled c.args.bytes.now rs c.if-is_area.images) (sym (next false w.if-is_area.false ∙ append-nil (filter is_area front)))
          (subst (λ (is : List Image). AreFilled c.args.bytes.now (filter is_area front) is) (sym w.images-is) c.loop-range.invariant)
    ]
