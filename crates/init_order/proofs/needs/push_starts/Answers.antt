use Rattle.std.proofs.Common.{◌<◌, ℕ, ◌+◌, ◌++◌, ◌∷◌, [], List, Option, length, sym, ap, subst, ◌∙◌, arith}
use Rattle.std.proofs.lemmas.List.{get_or_default}
use Rattle.history_graph.specs.declared.graph.Edge.{Edge}
use Rattle.init_order.specs.Components.{number_of}
use Rattle.init_order.specs.Jobs.{Adds, IsStartNeed, need, opens, starts}
use Rattle.init_order.proofs.Pushes.{start_none, start_pushed}
use Rattle.init_order.proofs.needs.push_starts.Goals as goal

pub loop-place-preserved-in_default : goal.loop-place-preserved-in_default
loop-place-preserved-in_default c =
    let line : List ℕ = c.args.line.now in
    let i : ℕ = c.loop-place.place in
    let x : ℕ = c.index-line-place.result in
    let number : ℕ → Option ℕ = number_of c.args.components.now in
    let within : i < length line = omega arith in
    start_none c.args.needs.now.items c.loop-place.needs.items number c.args.components.now.count line i c.loop-place.invariant
    (λ d. ap number (get_or_default line i d x within ∙ sym c.index-line-place.is) ∙ sym c.in_default.ensures)

pub loop-place-preserved : goal.loop-place-preserved
loop-place-preserved c =
    let line : List ℕ = c.args.line.now in
    let i : ℕ = c.loop-place.place in
    let x : ℕ = c.index-line-place.result in
    let number : ℕ → Option ℕ = number_of c.args.components.now in
    let old : List Edge = c.args.needs.now.items in
    let new : List Edge = c.loop-place.needs.items in
    let within : i < length line = omega arith in
    subst (λ (es : List Edge). Adds old es (IsStartNeed number c.args.components.now.count line (i + 1)))
    (sym (c.in_ok-push-2.ensures.items ∙ ap (λ (es : List Edge). es ++ c.need-in-loop-place.result ∷ []) (c.in_ok-push.ensures.items ∙ ap (λ (e : Edge). new ++ e ∷ []) c.need.ensures)
    ∙ ap (λ (e : Edge). (new ++ need (starts c.args.components.now.count i) (opens c.in-Some.component) ∷ []) ++ e ∷ []) c.need-in-loop-place.ensures))
    (start_pushed old new number c.args.components.now.count line i c.in-Some.component c.loop-place.invariant
    (λ d. ap number (get_or_default line i d x within ∙ sym c.index-line-place.is) ∙ sym c.in-Some.ensures))
