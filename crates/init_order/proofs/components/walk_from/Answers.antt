use Rattle.std.proofs.Common.{◌≡◌, ℕ, ◌<◌, ◌≤◌, ⊎_elim, List, length, get_or, sym, ap, subst, ◌∙◌, arith}
use Rattle.std.specs.List.{Contains}
use Rattle.std.proofs.lemmas.Bool.{cases_lt}
use Rattle.std.proofs.lemmas.List.{get_or_default}
use Rattle.init_order.proofs.components.walk_from.Goals as goal

pub loop-root-preserved : goal.loop-root-preserved
loop-root-preserved c =
    let visited : List ℕ = c.explore.new.self.visited.items in
    let roots : List ℕ = c.args.roots.now in
    let i : ℕ = c.loop-root.root-index in
    let within : i < length roots = omega arith in
    record {
      walked = c.in_ok-explore.ensures.walked;
      free = c.in_ok-explore.ensures.free;
      rooted = λ k low. ⊎_elim
          (λ (before : k < i). c.in_ok-explore.ensures.grows (get_or roots k 0) (c.loop-root.invariant.rooted k before))
          (λ (here : i ≤ k).
          let e : k ≡ i = omega arith in
          let is : c.root-item.result ≡ get_or roots k 0 = c.root-item.is ∙ get_or_default roots i c.root-item.result 0 within ∙ ap (λ (n : ℕ). get_or roots n 0) (sym e) in
          subst (Contains visited) is c.in_ok-explore.ensures.root)
          (cases_lt k i);
    }

pub returns-clause-roots : goal.returns-clause-roots
returns-clause-roots c = λ q there.
    let roots : List ℕ = c.args.roots.now in
    let k : ℕ = there.0 in
    let within : k < length roots = there.1 in
    let is : get_or roots k 0 ≡ q = get_or_default roots k 0 q within ∙ there.2 in
    subst (Contains c.loop-root.walk.visited.items) is (c.loop-root.invariant.rooted k (omega arith))
