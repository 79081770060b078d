use Rattle.std.proofs.Common.{◌≡◌, ◌<◌, ℕ, ◌+◌, ◌++◌, ◌∷◌, [], List, Option, length, take, sym, ap, subst, ◌∙◌, arith}
use Rattle.std.proofs.lemmas.List.{take_more}
use Rattle.history_graph.specs.declared.graph.Edge.{Edge}
use Rattle.init_order.specs.Components.{number_of}
use Rattle.init_order.specs.Jobs.{Adds, IsLedNeed}
use Rattle.init_order.proofs.Pushes.{led_none, led_pushed}
use Rattle.init_order.proofs.needs.push_edges.Goals as goal

pub loop-edge-preserved-in_default : goal.loop-edge-preserved-in_default
loop-edge-preserved-in_default c =
    let edges : List Edge = c.args.edges.now in
    let i : ℕ = c.loop-edge.edge-index in
    let x : Edge = c.edge-item.result in
    let number : ℕ → Option ℕ = number_of c.args.components.now in
    let old : List Edge = c.args.needs.now.items in
    let new : List Edge = c.loop-edge.needs.items in
    let within : i < length edges = omega arith in
    let more : take (i + 1) edges ≡ take i edges ++ x ∷ [] = take_more edges i x within ∙ ap (λ (y : Edge). take i edges ++ y ∷ []) (sym c.edge-item.is) in
    subst (λ (es : List Edge). Adds old new (IsLedNeed es number)) (sym more)
    (led_none old new number (take i edges) x c.loop-edge.invariant c.in_default.ensures.none)

pub loop-edge-preserved : goal.loop-edge-preserved
loop-edge-preserved c =
    let edges : List Edge = c.args.edges.now in
    let i : ℕ = c.loop-edge.edge-index in
    let x : Edge = c.edge-item.result in
    let number : ℕ → Option ℕ = number_of c.args.components.now in
    let old : List Edge = c.args.needs.now.items in
    let new : List Edge = c.loop-edge.needs.items in
    let within : i < length edges = omega arith in
    let more : take (i + 1) edges ≡ take i edges ++ x ∷ [] = take_more edges i x within ∙ ap (λ (y : Edge). take i edges ++ y ∷ []) (sym c.edge-item.is) in
    let apart = c.in-Some.ensures.some in
    subst (λ (es : List Edge). Adds old c.push.new.self.items (IsLedNeed es number)) (sym more)
    (subst (λ (es : List Edge). Adds old es (IsLedNeed (take i edges ++ x ∷ []) number))
    (sym (c.in_ok-push.ensures.items ∙ ap (λ (e : Edge). new ++ e ∷ []) c.need.ensures))
    (led_pushed old new number (take i edges) x c.in-Some.source c.in-Some.target c.loop-edge.invariant apart.0 apart.1 apart.2))
