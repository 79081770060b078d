use Rattle.std.proofs.Common.{List, ap, ◌∙◌}
use Rattle.std.specs.List.{list_any}
use Rattle.std.proofs.lemmas.Bool.Decides.{Decides-at}
use Rattle.history_event.specs.declared.state.Loading.{Loading}
use Rattle.history_state.specs.After.{after}
use Rattle.trace_rows.specs.Functions.{starts_by}
use Rattle.trace_rows.proofs.Running.{starts_so}
use Rattle.trace_rows.proofs.rows.functions.may_initialise.Goals as goal

pub returns : goal.returns
returns c = λ w past same x.
    Decides-at c.has_next.result (list_any (starts_by c.args.hart c.args.object) c.args.replay.now.starting)
    (c.has_next.ensures ∙ ap (λ (ls : List Loading). list_any (starts_by c.args.hart c.args.object) ls) c.starting.ensures)
    (starts_so (after past) c.args.replay.now c.args.hart c.args.object x.starting)
