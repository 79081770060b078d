use Rattle.std.proofs.Common.{ℕ, List, eq-eqb, sym, ap, subst, ◌∙◌}
use Rattle.std.specs.List.{Contains, filter}
use Rattle.history_graph.specs.declared.graph.Edge.{Edge}
use Rattle.history_graph.specs.Reached.{leads_from}
use Rattle.history_graph.specs.Lemmas.Members.{kept}
use Rattle.init_order.proofs.Results.{at_ok, by_ok}
use Rattle.init_order.proofs.tasks.Tasks.finish.Goals as goal

pub returns-clause-users : goal.returns-clause-users
returns-clause-users c =
    by_ok c.insert_targets.result _ (λ ok e there is.
    at_ok c.insert_targets.result _ ok c.insert_targets.ensures.put e
    (subst (λ (es : List Edge). Contains es e) (sym (c.of.ensures ∙ ap (λ (n : ℕ). filter (leads_from n) c.args.self.now.users) c.new.ensures)) (kept (leads_from c.args.task) c.args.self.now.users e there (eq-eqb e.source c.args.task is))))
