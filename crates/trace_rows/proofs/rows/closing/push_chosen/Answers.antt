use Rattle.std.proofs.Common.{◌≡◌, ◌++◌, List, Option, ap, subst, ◌∙◌}
use Rattle.std.specs.Prelude.{OnOk}
use Rattle.std.specs.List.{flat_map}
use Rattle.history_graph.specs.declared.graph.Edge.{Edge}
use Rattle.ld_base.specs.declared.linking.Choice.{Choice}
use Rattle.trace_rows.specs.Closing.{choice_edges}
use Rattle.trace_rows.proofs.Closed.{choices_are}
use Rattle.trace_rows.proofs.rows.closing.push_chosen.Goals as goal

pub returns : goal.returns
returns c =
    subst (λ (es : List Edge). OnOk c.push_choices.result (c.push_choices.new.edges.items ≡ c.args.edges.now.items ++ es))
    (ap (λ (cs : List (Option Choice)). flat_map (choice_edges c.args.object.now.owner) cs) c.as_slice.ensures ∙ choices_are c.args.object.now.owner c.args.object.now.choices) c.push_choices.ensures
