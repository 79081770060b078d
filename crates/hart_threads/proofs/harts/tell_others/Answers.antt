use Rattle.std.proofs.Common.{◌≡◌, ◌<◌, ap, subst, sym, ◌∙◌, length, get_or, arith}
use Rattle.hart_threads.specs.Run.{HearsUpTo}
use Rattle.word_rule.specs.Views.{BeginsWith}
use Rattle.hart_threads.proofs.Hearing.{front_of, hears_more, told_same, told_still}
use Rattle.hart_threads.proofs.Slices.{any_is, set_cases}
use Rattle.hart_threads.proofs.harts.tell_others.Goals as goal

pub loop-other-preserved : goal.loop-other-preserved
loop-other-preserved g c =
    let w = g.J.RunNaming.setting in
    let begun = g.J.RunNaming.journal in
    let all = c.loop-other.others in
    let n = c.loop-other.other-index in
    let r = c.other-item.result in
    let inv = c.loop-other.invariant in
    let low_here : n < length all = omega (arith, c.loop-other.auto.others, c.loop-other-test.true) in
    record {
      first = hears_more w begun c.args.first.now c.loop-other.first c.tell_both.new.one inv.first c.tell_both.ensures.one;
      told = λ i d low. set_cases (λ x. HearsUpTo w begun c.tell_both.new.one (get_or c.args.others.now i d).seat x.seat) all n _ i d low_here
          (λ same. subst (λ h. HearsUpTo w begun c.tell_both.new.one h c.tell_both.new.other)
          (ap (λ x. x.seat) (any_is all n r d low_here ∙ inv.rest n d (omega arith) ∙ ap (λ k. get_or c.args.others.now k d) (sym same)))
          (told_same w begun c.tell_both.new.one (get_or all n r).seat c.tell_both.new.other c.tell_both.ensures.other c.tell_both.ensures.same c.tell_both.ensures.lane))
          (λ apart. told_still w begun c.loop-other.first c.tell_both.new.one (get_or c.args.others.now i d).seat (get_or all i d).seat c.tell_both.ensures.one (inv.told i d (omega (arith, low, apart))));
      since = λ i d low. set_cases (λ x. BeginsWith x.seat.heard c.args.first.now.heard) all n _ i d low_here
          (λ same. subst (λ es. BeginsWith es c.args.first.now.heard) (sym c.tell_both.ensures.same)
          (front_of c.tell_both.new.one c.loop-other.first c.args.first.now c.tell_both.ensures.one.longer inv.first.longer))
          (λ apart. inv.since i d (omega (arith, low, apart)));
      rest = λ i d high. set_cases (λ x. x ≡ get_or c.args.others.now i d) all n _ i d low_here
          (λ same. absurd (omega (arith, high, same)))
          (λ apart. inv.rest i d (omega (arith, high)));
      harts = λ i d. set_cases (λ x. x.hart ≡ (get_or c.args.others.now i d).hart) all n _ i d low_here
          (λ same. ap (λ x. x.hart) (any_is all n r d low_here) ∙ inv.harts n d ∙ ap (λ k. (get_or c.args.others.now k d).hart) (sym same))
          (λ apart. inv.harts i d);
      blocks = λ i d. set_cases (λ x. x.blocks ≡ (get_or c.args.others.now i d).blocks) all n _ i d low_here
          (λ same. ap (λ x. x.blocks) (any_is all n r d low_here) ∙ inv.blocks n d ∙ ap (λ k. (get_or c.args.others.now k d).blocks) (sym same))
          (λ apart. inv.blocks i d);
    }
