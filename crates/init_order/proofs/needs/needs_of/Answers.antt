use Rattle.std.proofs.Common.{ℕ, ◌⊎◌, List, length, Option, subst}
use Rattle.history_graph.specs.declared.graph.Edge.{Edge}
use Rattle.init_order.specs.Components.{number_of}
use Rattle.init_order.specs.Jobs.{Adds, IsLedNeed, IsNeed, IsStartNeed, IsWholeNeed}
use Rattle.init_order.proofs.Pushes.{adds_join}
use Rattle.init_order.proofs.needs.needs_of.Goals as goal

pub returns : goal.returns
returns c =
    let number : ℕ → Option ℕ = number_of c.args.components.now in
    let count : ℕ = c.args.components.now.count in
    let line : List ℕ = c.args.line.now in
    let one : List Edge = c.push_starts.new.needs.items in
    let two : List Edge = c.push_components.new.needs.items in
    let all : List Edge = c.push_edges.new.needs.items in
    let led : Adds two all (IsLedNeed c.args.graph.now.edges number) = subst (λ (es : List Edge). Adds two all (IsLedNeed es number)) c.as_slice.ensures c.in_ok-push_edges.ensures in
    subst (λ (es : List Edge). Adds es all (IsNeed c.args.graph.now.edges number count line)) c.new-needs.ensures.items
    (adds_join c.new-needs.result.items one all (IsStartNeed number count line (length line)) (λ p. IsWholeNeed count p ⊎ IsLedNeed c.args.graph.now.edges number p) c.in_ok-push_starts.ensures
    (adds_join one two all (IsWholeNeed count) (IsLedNeed c.args.graph.now.edges number) c.in_ok-push_components.ensures led))
