use Rattle.std.proofs.Common.{◌≡◌, inl, eqb, List, map, refl, sym, subst, ◌∙◌, arith}
use Rattle.std.specs.HashMap.{get}
use Rattle.std.specs.List.{Contains}
use Rattle.std.specs.Option.{unwrap_or}
use Rattle.std.proofs.lemmas.List.Sorted.{Contains-permutation, IsPermutation-sym}
use Rattle.history_graph.specs.declared.graph.Edge.{Edge}
use Rattle.history_graph.specs.Lemmas.Members.{mapped}
use Rattle.init_order.specs.Least.{flip_of}
use Rattle.init_order.proofs.tasks.Tasks.new.Goals as goal

pub returns-clause-pending : goal.returns-clause-pending
returns-clause-pending c = record {
  waits = λ t undone. inl (c.in_ok-ready.ensures t ∙ sym (c.in_ok-left.ensures t) ∙ undone);
  used = λ e there.
      let turned : c.as_slice.result.now ≡ map flip_of c.args.needs.now = c.as_slice.ensures.value ∙ c.in_ok-turned.ensures in
      Contains-permutation c.as_slice.result.now c.in_ok-users.users (flip_of e) c.in_ok-users.ensures
      (subst (λ (es : List Edge). Contains es (flip_of e)) (sym turned)
      (mapped flip_of c.args.needs.now e (Contains-permutation c.in_ok-needs.needs c.args.needs.now e (IsPermutation-sym c.args.needs.now c.in_ok-needs.needs c.in_ok-needs.ensures) there)));
  past = λ t j d low within.
      let none : unwrap_or (get eqb c.new-met.result t) 0 ≡ 0 = rw c.new-met.ensures.empty refl in
      absurd (omega arith);
}
