use Rattle.std.proofs.Common.{ℕ, ◌*◌, [], List, refl, sym, subst, ◌∙◌}
use Rattle.std.specs.List.Sorted.{IsPermutation}
use Rattle.std.proofs.lemmas.Result.{IfOk-weaker}
use Rattle.history_graph.specs.declared.graph.Edge.{Edge}
use Rattle.history_graph.specs.Initialised.{InitOrder, program_last}
use Rattle.init_order.specs.Components.{AreComponents, number_of}
use Rattle.init_order.specs.Jobs.{Adds, AreFirsts, AreInTurn, IsNeed, IsPlan}
use Rattle.init_order.proofs.Pushes.{plan_of}
use Rattle.init_order.proofs.init.init_order.Goals as goal

pub returns : goal.returns
returns c =
    let edges : List Edge = c.args.graph.now.edges in
    let looked_at : List ℕ = program_last c.args.program c.args.new.now in
    let line : List ℕ = c.in_ok-line.line.items in
    let given : List ℕ = c.as_slice-5.result.now in
    let k = c.in_ok-components.components in
    let needs : List Edge = c.in_ok-needs.needs.items in
    let all : List Edge = c.in_ok-tasks.tasks.needs in
    let are : AreComponents edges line k = subst (λ (ys : List ℕ). AreComponents edges ys k) c.as_slice-2.ensures.value c.in_ok-components.ensures.components in
    let adds : Adds [] needs (IsNeed edges (number_of k) k.count line) =
    subst (λ (ys : List ℕ). Adds [] needs (IsNeed edges (number_of k) k.count ys)) c.as_slice-3.ensures.value c.in_ok-needs.ensures in
    let same : IsPermutation needs all = subst (λ (es : List Edge). IsPermutation es all) c.as_slice-4.ensures.value c.in_ok-tasks.ensures.needs in
    let plan : IsPlan edges (number_of k) k.count given all =
    subst (λ (ys : List ℕ). IsPlan edges (number_of k) k.count ys all) (sym c.as_slice-5.ensures.value) (plan_of edges k line needs all are adds same) in
    let firsts : AreFirsts looked_at given =
    subst (AreFirsts looked_at) (sym c.as_slice-5.ensures.value) (subst (λ (xs : List ℕ). AreFirsts xs line) (c.as_slice.ensures.value ∙ c.in_ok-looked_at.ensures) c.in_ok-line.ensures) in
    record {
      ordered =
          IfOk-weaker c.start_all.result (λ order. AreInTurn (2 * k.count) given all order.items) (λ order. InitOrder edges looked_at order.items)
          (λ order turns. turns edges looked_at (number_of k) k.count refl plan firsts) c.start_all.ensures;
    }
