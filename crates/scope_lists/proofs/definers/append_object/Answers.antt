use Rattle.std.proofs.Common.{◌≡◌, ◌+◌, List, length, subst, sym, ap, ◌∙◌, arith}
use Rattle.sym_hash.specs.Hash.{gnu_hash}
use Rattle.scope_lists.specs.Definers.{DefinesMore}
use Rattle.scope_lists.specs.declared.definers.Definer.{Definer}
use Rattle.scope_lists.proofs.Defining.{DefinesBelow, all_more, more_pushed, more_skipped, none_more}
use Rattle.scope_lists.proofs.definers.append_object.Goals as goal
use Rattle.scope_lists.proofs.definers.append_object.Goals.{then-is_offered_at+in_ok-push, else-is_offered_at}

pub loop-index-init : goal.loop-index-init
loop-index-init c = none_more c.args.object.now c.args.place c.args.definers.now.items

pub loop-index-preserved : goal.loop-index-preserved
loop-index-preserved c =
    let o = c.args.object.now in
    let old : List Definer = c.args.definers.now.items in
    elim c.if-is_offered_at.branch [
      | then-is_offered_at+in_ok-push w ↦
          let all = ap (λ v. v.items) w.definers-is ∙ w.in_ok-push.ensures.items in
          subst (λ (l : List Definer). DefinesMore (DefinesBelow (c.loop-index.index + 1) o) c.args.place old l) (sym all)
          (more_pushed o c.loop-index.index c.args.place old c.loop-index.definers.items w.gnu_hash-hash.result c.loop-index.invariant (sym c.is_offered_at.ensures ∙ w.if-is_offered_at.true)
          (w.gnu_hash-hash.ensures ∙ ap gnu_hash w.name_at.ensures))
      | else-is_offered_at w ↦
          subst (λ (l : List Definer). DefinesMore (DefinesBelow (c.loop-index.index + 1) o) c.args.place old l) (sym (ap (λ v. v.items) w.definers-is))
          (more_skipped o c.loop-index.index c.args.place old c.loop-index.definers.items c.loop-index.invariant (sym c.is_offered_at.ensures ∙ w.if-is_offered_at.false))
    ]

pub returns : goal.returns
returns c =
    let all : c.loop-index.index ≡ length c.args.object.now.symbols = omega (arith, c.len-index-end.ensures.len) in
    all_more c.args.object.now c.loop-index.index c.args.place c.args.definers.now.items c.loop-index.definers.items all c.loop-index.invariant
