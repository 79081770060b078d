use Rattle.std.proofs.Common.{◌≡◌, ◌++◌, take}
use Rattle.std.specs.List.{flat_map}
use Rattle.trace_rows.specs.Closing.{choice_edges}
use Rattle.trace_rows.proofs.rows.closing.push_choices.Given as goal

-- those of the choices so far stand at the end
abbrev pub invariant-loop-choice : goal.invariant-loop-choice
invariant-loop-choice l = l.edges.items ≡ l.fn.edges.items ++ flat_map (choice_edges l.source) (take l.choice-index l.choices)
