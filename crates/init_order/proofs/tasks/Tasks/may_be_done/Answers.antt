use Rattle.std.proofs.Common.{◌≡◌, ◌<◌, ◌≤◌, ℕ, true, List, length, get_or, ap, subst, ◌∙◌}
use Rattle.std.specs.List.{filter}
use Rattle.std.proofs.lemmas.Bool.{leb-true, leb-false}
use Rattle.history_graph.specs.declared.graph.Edge.{Edge}
use Rattle.history_graph.specs.Reached.{leads_from}
use Rattle.init_order.specs.Least.{AreMet, is_left}
use Rattle.init_order.proofs.Ready.{all_met, blocked_at}
use Rattle.init_order.proofs.tasks.Tasks.may_be_done.Goals as goal

pub returns-clause-met : goal.returns-clause-met
returns-clause-met c = λ all.
    let s = c.args.self.now in
    let edges : List Edge = filter (leads_from c.args.task) s.needs in
    let end : ℕ = c.first_left-end.result in
    let is : c.of-edges.result.now ≡ edges = c.of-edges.ensures ∙ ap (λ (n : ℕ). filter (leads_from n) s.needs) c.new.ensures in
    all_met (is_left s) s.needs c.args.task end
    (subst (λ (es : List Edge). AreMet (is_left s) es end) is c.first_left-end.ensures.past)
    (subst (λ (es : List Edge). length es ≤ end) is (leb-true (length c.of-edges.result.now) end all))

pub returns-clause-blocked : goal.returns-clause-blocked
returns-clause-blocked c = λ some undone.
    let s = c.args.self.now in
    let edges : List Edge = filter (leads_from c.args.task) s.needs in
    let end : ℕ = c.first_left-end.result in
    let is : c.of-edges.result.now ≡ edges = c.of-edges.ensures ∙ ap (λ (n : ℕ). filter (leads_from n) s.needs) c.new.ensures in
    let within : end < length c.of-edges.result.now = leb-false (length c.of-edges.result.now) end some in
    blocked_at (is_left s) s.needs c.args.task end (subst (λ (es : List Edge). end < length es) is within)
    (λ d. subst (λ (es : List Edge). is_left s (get_or es end d).target ≡ true) is (c.first_left-end.ensures.stops d within))
