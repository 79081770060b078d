use Rattle.std.proofs.Common.{◌≡◌, ◌<◌, ◌++◌, suc, [], append-nil, ap, refl, sym, subst, ◌∙◌, length, get_or, arith}
use Rattle.std.proofs.lemmas.List.{length-set}
use Rattle.word_rule.specs.Views.{BeginsWith, IsLane}
use Rattle.hart_linker.specs.Between.{HasHeard, Hears}
use Rattle.hart_threads.proofs.Hearing.{hears_more}
use Rattle.hart_threads.proofs.Slices.{any_is, back_count, back_is, each_place, each_set, first_alone, first_is, front_is, one_and, none_at, one_same, set_cases, some_at, still_set}
use Rattle.hart_threads.proofs.harts.tell_begun.Goals as goal

pub returns-then-is_empty-clause-since : goal.returns-then-is_empty-clause-since
returns-then-is_empty-clause-since g c = λ i d low.
    let split = c.split_at_mut-first in
    let none = none_at (length split.result.1.now) (sym c.is_empty.ensures ∙ c.if-is_empty.true) in
    let zeroth : i ≡ 0 = omega (arith, low, none, back_count split.result.0.now split.result.1.now c.args.runs.now split.ensures.front_len split.ensures.value) in
    first_alone (λ x. x.seat.heard) (split.result.0.now ++ split.result.1.now) i d zeroth

pub tell_all-requires-clause-heard : goal.tell_all-requires-clause-heard
tell_all-requires-clause-heard g c =
    let split = c.split_at_mut-first in
    each_set (λ run. HasHeard g.J.RunNaming.setting g.J.RunNaming.journal run.seat) split.result.1.now _ c.tell_both.ensures.other.heard
    (λ k d low. subst (λ run. HasHeard g.J.RunNaming.setting g.J.RunNaming.journal run.seat) (back_is split.result.0.now split.result.1.now c.args.runs.now split.ensures.front_len split.ensures.value k d)
    (c.requires.heard (suc k) d (omega (arith, low, back_count split.result.0.now split.result.1.now c.args.runs.now split.ensures.front_len split.ensures.value))))

pub returns-clause-hears : goal.returns-clause-hears
returns-clause-hears g c =
    let some = some_at (length c.split_at_mut-first.result.1.now) (sym c.is_empty.ensures ∙ c.if-is_empty.false) in
    let w = g.J.RunNaming.setting in
    let begun = g.J.RunNaming.journal in
    let split = c.split_at_mut-first in
    one_and (λ first before now. Hears w begun before.seat now.seat) split.result.0.now split.result.1.now c.args.runs.now c.tell_all.new.runs _ split.ensures.front_len split.ensures.value
    (λ d. subst (λ h. Hears w begun h c.tell_both.new.one)
    (ap (λ x. x.seat) (sym (front_is split.result.0.now split.result.1.now c.args.runs.now split.ensures.front_len split.ensures.value d c.index-first-0.result))) c.tell_both.ensures.one)
    (λ k d low. set_cases (λ x. Hears w begun x.seat (get_or c.tell_all.new.runs k d).seat → Hears w begun (get_or split.result.1.now k d).seat (get_or c.tell_all.new.runs k d).seat)
    split.result.1.now 0 _ k d some
    (λ zeroth told. hears_more w begun (get_or split.result.1.now k d).seat c.tell_both.new.other (get_or c.tell_all.new.runs k d).seat
    (subst (λ h. Hears w begun h c.tell_both.new.other)
    (ap (λ x. x.seat) (any_is split.result.1.now 0 c.index-others-0.result d some ∙ ap (λ n. get_or split.result.1.now n d) (sym zeroth))) c.tell_both.ensures.other) told)
    (λ apart told. told)
    (c.tell_all.ensures.told k d (subst (λ n. k < n) (sym (length-set split.result.1.now 0 _)) low)).hears)

pub returns-clause-lanes : goal.returns-clause-lanes
returns-clause-lanes g c =
    let some = some_at (length c.split_at_mut-first.result.1.now) (sym c.is_empty.ensures ∙ c.if-is_empty.false) in
    let split = c.split_at_mut-first in
    each_place (λ x. IsLane x.seat.lane) c.args.runs.now
    (λ d. subst (λ x. IsLane x.seat.lane) (first_is c.args.runs.now c.index-runs-0.result d c.requires.some) c.number.ensures.lane)
    (λ k d low.
    let inside : k < length split.result.1.now = omega (arith, low, back_count split.result.0.now split.result.1.now c.args.runs.now split.ensures.front_len split.ensures.value) in
    subst (λ x. IsLane x.seat.lane) (sym (back_is split.result.0.now split.result.1.now c.args.runs.now split.ensures.front_len split.ensures.value k d))
    (set_cases (λ x. IsLane x.seat.lane → IsLane (get_or split.result.1.now k d).seat.lane) split.result.1.now 0 _ k d some
    (λ zeroth lane. subst (λ x. IsLane x.seat.lane) (any_is split.result.1.now 0 c.index-others-0.result d some ∙ ap (λ n. get_or split.result.1.now n d) (sym zeroth))
    c.tell_both.ensures.lane)
    (λ apart lane. lane)
    (c.tell_all.ensures.told k d (subst (λ n. k < n) (sym (length-set split.result.1.now 0 _)) inside)).lane))

pub returns-clause-since : goal.returns-clause-since
returns-clause-since g c =
    let some = some_at (length c.split_at_mut-first.result.1.now) (sym c.is_empty.ensures ∙ c.if-is_empty.false) in
    let split = c.split_at_mut-first in
    one_and (λ first before now. BeginsWith now.seat.heard first.seat.heard) split.result.0.now split.result.1.now c.args.runs.now c.tell_all.new.runs _ split.ensures.front_len split.ensures.value
    (λ d. ([], sym (append-nil c.tell_both.new.one.heard)))
    (λ k d low. subst (BeginsWith (get_or c.tell_all.new.runs k d).seat.heard)
    (set_cases (λ x. x.seat.heard ≡ c.tell_both.new.one.heard) split.result.1.now 0 _ 0 d some (λ zeroth. c.tell_both.ensures.same) (λ apart. absurd (apart refl)))
    (c.tell_all.ensures.since k d (subst (λ n. k < n) (sym (length-set split.result.1.now 0 _)) low)))

pub returns-clause-harts : goal.returns-clause-harts
returns-clause-harts g c =
    let some = some_at (length c.split_at_mut-first.result.1.now) (sym c.is_empty.ensures ∙ c.if-is_empty.false) in
    let split = c.split_at_mut-first in
    one_same (λ x. x.hart) split.result.0.now split.result.1.now c.args.runs.now c.tell_all.new.runs _ split.ensures.front_len split.ensures.value
    (λ d. ap (λ x. x.hart) (sym (front_is split.result.0.now split.result.1.now c.args.runs.now split.ensures.front_len split.ensures.value d c.index-first-0.result)))
    (λ k d. c.tell_all.ensures.harts k d ∙ still_set (λ x. x.hart) split.result.1.now _ c.index-others-0.result some refl k d)

pub returns-clause-blocks : goal.returns-clause-blocks
returns-clause-blocks g c =
    let some = some_at (length c.split_at_mut-first.result.1.now) (sym c.is_empty.ensures ∙ c.if-is_empty.false) in
    let split = c.split_at_mut-first in
    one_same (λ x. x.blocks) split.result.0.now split.result.1.now c.args.runs.now c.tell_all.new.runs _ split.ensures.front_len split.ensures.value
    (λ d. ap (λ x. x.blocks) (sym (front_is split.result.0.now split.result.1.now c.args.runs.now split.ensures.front_len split.ensures.value d c.index-first-0.result)))
    (λ k d. c.tell_all.ensures.blocks k d ∙ still_set (λ x. x.blocks) split.result.1.now _ c.index-others-0.result some refl k d)
