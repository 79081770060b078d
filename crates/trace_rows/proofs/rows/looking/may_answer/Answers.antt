use Rattle.std.proofs.Common.{◌&&◌, List, ap, ◌∙◌}
use Rattle.std.specs.List.{find}
use Rattle.std.proofs.lemmas.Bool.Decides.{Decides-at}
use Rattle.history_state.specs.After.{after}
use Rattle.history_state.specs.Objects.{has_id}
use Rattle.scope_rule.specs.declared.namespace.Namespace.{Namespace}
use Rattle.trace_rows.proofs.Found.{answers_so, there_so}
use Rattle.trace_rows.proofs.Tests.{all_two}
use Rattle.trace_rows.proofs.rows.looking.may_answer.Goals as goal

pub returns : goal.returns
returns c = λ w past same x.
    Decides-at c.all.result (c.is_some-is_there.result && c.is_answer.result) (c.all.ensures ∙ all_two c.is_some-is_there.result c.is_answer.result)
    (answers_so (after past) c.args.hart c.args.ask.now c.in_ok-expected.expected c.args.answer.now c.is_some-is_there.result c.is_answer.result
    (there_so (after past) c.args.replay.now c.args.ask.now.ns c.namespace_in.result c.is_some-is_there.result x.state (c.namespace_in.ensures ∙ ap (λ (nss : List Namespace). find (has_id c.args.ask.now.ns) nss) c.namespaces.ensures) c.is_some-is_there.ensures)
    (c.in_ok-expected.ensures past x) c.is_answer.ensures)
