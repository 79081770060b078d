use Rattle.std.proofs.Common.{◌≡◌, ◌∷◌, [], ◌++◌, List, ℕ, ◌+◌, suc, length, take, drop, refl, sym, ap, subst, ◌∙◌}
use Rattle.std.proofs.lemmas.Result.{err_from_is_err_and}
use Rattle.link_startup.specs.StartParts.Harts.{FoundAll, IsLackingFrom}
use Rattle.link_startup.proofs.StartParts.Further.{found_next, lacks_so, names_all, names_next, none_yet, number_of}
use Rattle.link_startup.proofs.start_parts.harts.find_harts.Goals as goal

pub loop-index-init : goal.loop-index-init
loop-index-init c = (
  none_yet c.args.state.now.events c.push.new.self
      (c.in_ok-push.ensures.ok ∙ ap (λ (vs : List ℕ). vs ++ c.program_entry.result ∷ []) c.new-starts.ensures ∙ ap (λ (v : ℕ). v ∷ []) c.program_entry.ensures),
  refl,
  λ none. none,
)

pub loop-index-preserved : goal.loop-index-preserved
loop-index-preserved c =
    let items = c.as_slice-name-items.result.now in
    let names = c.args.setup.now.harts in
    let index = c.loop-index.index in
    let name = c.name-item.result in
    let number : c.new-hart.result ≡ 1 + length (take index names) =
    c.new-hart.ensures ∙ number_of names items index name c.as_slice-name-items.ensures c.loop-index-test.true c.name-item.is in
    let all : FoundAll c.args.state.now.events (take index names ++ name ∷ []) (c.loop-index.starts ++ c.in_ok-find_start.field-0 ∷ []) c.find_start.new.state.events =
    found_next c.args.state.now.events (take index names) c.loop-index.starts c.loop-index.state.events c.loop-index.invariant.0
    c.new-hart.result name c.in_ok-find_start.field-0 c.find_start.new.state.events number c.in_ok-find_start.ensures.found in (
      subst (λ (ns : List (List ℕ)). FoundAll c.args.state.now.events ns c.push-in-loop-index.new.self c.find_start.new.state.events)
          (names_next names items index name c.as_slice-name-items.ensures c.loop-index-test.true c.name-item.is)
          (subst (λ (vs : List ℕ). FoundAll c.args.state.now.events (take index names ++ name ∷ []) vs c.find_start.new.state.events) (sym c.in_ok-push-2.ensures.ok) all),
      c.find_start.ensures.same ∙ c.loop-index.invariant.1,
      λ none. c.find_start.ensures.made (c.loop-index.invariant.2 none),
    )

pub returns-in_err-find_start-clause-lacks : goal.returns-in_err-find_start-clause-lacks
returns-in_err-find_start-clause-lacks c =
    let items = c.as_slice-name-items.result.now in
    let names = c.args.setup.now.harts in
    let index = c.loop-index.index in
    let name = c.name-item.result in
    let number : c.new-hart.result ≡ 1 + length (take index names) =
    c.new-hart.ensures ∙ number_of names items index name c.as_slice-name-items.ensures c.loop-index-test.true c.name-item.is in
    let lacks : IsLackingFrom c.args.state.now.events 1 c.args.setup.now.program names c.in_err-find_start.field-0.0 c.find_start.new.state.events =
    subst (λ (ns : List (List ℕ)). IsLackingFrom c.args.state.now.events 1 c.args.setup.now.program ns c.in_err-find_start.field-0.0 c.find_start.new.state.events)
    (names_all names items index name c.as_slice-name-items.ensures c.loop-index-test.true c.name-item.is)
    (lacks_so c.args.state.now.events (take index names) c.loop-index.starts c.loop-index.state.events c.loop-index.invariant.0
    c.new-hart.result c.args.setup.now.program name c.in_err-find_start.field-0.0 (drop (suc index) names) c.find_start.new.state.events number c.in_err-find_start.ensures.lacks) in
    let p = err_from_is_err_and c.from_residual-in_err-find_start.result c.from_residual-in_err-find_start.ensures.1 in
    rw (p.1, p.2) lacks
