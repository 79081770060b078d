use Rattle.std.proofs.Common.{ap, refl, sym, subst, get_or}
use Rattle.word_rule.specs.Views.{BeginsWith, IsLane}
use Rattle.hart_linker.specs.Between.{Hears}
use Rattle.hart_threads.specs.Run.{HearsUpTo}
use Rattle.hart_threads.proofs.Hearing.{told_same}
use Rattle.hart_threads.proofs.Slices.{first_is, front_is, one_and, one_same}
use Rattle.hart_threads.proofs.harts.tell_all.Goals as goal

pub returns-clause-told : goal.returns-clause-told
returns-clause-told g c =
    let w = g.J.RunNaming.setting in
    let begun = g.J.RunNaming.journal in
    let split = c.split_at_mut-first in
    one_and (λ first before now. HearsUpTo w begun first.seat before.seat now.seat) split.result.0.now split.result.1.now c.args.runs.now c.tell_others.new.others _ split.ensures.front_len split.ensures.value
    (λ d. told_same w begun c.tell_others.new.first (get_or c.args.runs.now 0 d).seat c.tell_others.new.first
    (subst (λ h. Hears w begun h c.tell_others.new.first)
    (ap (λ x. x.seat) (sym (front_is split.result.0.now split.result.1.now c.args.runs.now split.ensures.front_len split.ensures.value d c.index-first-0.result))) c.tell_others.ensures.first)
    refl
    (subst (λ h. IsLane h.lane) (ap (λ x. x.seat) (first_is c.args.runs.now c.index-runs-0.result d c.requires.some)) c.number.ensures.lane))
    c.tell_others.ensures.told

pub returns-clause-since : goal.returns-clause-since
returns-clause-since g c = λ i d low.
    let split = c.split_at_mut-first in
    let first = ap (λ x. x.seat.heard) (sym (front_is split.result.0.now split.result.1.now c.args.runs.now split.ensures.front_len split.ensures.value d c.index-first-0.result)) in
    one_and (λ now before x. BeginsWith x.seat.heard (get_or c.args.runs.now 0 d).seat.heard) split.result.0.now split.result.1.now c.args.runs.now c.tell_others.new.others _ split.ensures.front_len split.ensures.value
    (λ e. subst (λ es. BeginsWith c.tell_others.new.first.heard es) first c.tell_others.ensures.first.longer)
    (λ k e inside. subst (λ es. BeginsWith (get_or c.tell_others.new.others k e).seat.heard es) first (c.tell_others.ensures.since k e inside))
    i d low

pub returns-clause-harts : goal.returns-clause-harts
returns-clause-harts g c =
    let split = c.split_at_mut-first in
    one_same (λ x. x.hart) split.result.0.now split.result.1.now c.args.runs.now c.tell_others.new.others _ split.ensures.front_len split.ensures.value (λ d. ap (λ x. x.hart) (sym (front_is split.result.0.now split.result.1.now c.args.runs.now split.ensures.front_len split.ensures.value d c.index-first-0.result))) c.tell_others.ensures.harts

pub returns-clause-blocks : goal.returns-clause-blocks
returns-clause-blocks g c =
    let split = c.split_at_mut-first in
    one_same (λ x. x.blocks) split.result.0.now split.result.1.now c.args.runs.now c.tell_others.new.others _ split.ensures.front_len split.ensures.value (λ d. ap (λ x. x.blocks) (sym (front_is split.result.0.now split.result.1.now c.args.runs.now split.ensures.front_len split.ensures.value d c.index-first-0.result))) c.tell_others.ensures.blocks
