use Rattle.std.proofs.Common.{◌&&◌, eqb, length, List, ap, ◌∙◌}
use Rattle.std.specs.List.{filter}
use Rattle.std.proofs.lemmas.Bool.Decides.{Decides-at}
use Rattle.history_event.specs.declared.state.Granting.{Granting}
use Rattle.history_journal.specs.Following.{machine_of}
use Rattle.history_state.specs.After.{after}
use Rattle.history_state.specs.Grants.{is_open}
use Rattle.trace_rows.proofs.Settled.{none_open, whole_so}
use Rattle.trace_rows.proofs.Tests.{all_three}
use Rattle.trace_rows.proofs.whole.is_whole.Goals as goal

pub returns : goal.returns
returns c = λ w past same x.
    Decides-at c.all.result ((c.is_empty.result && c.are_settled.result) && c.is_finished.result) (c.all.ensures ∙ all_three c.is_empty.result c.are_settled.result c.is_finished.result)
    (whole_so w (after past) c.is_empty.result c.are_settled.result c.is_finished.result
    (none_open (after past) c.args.replay.now c.is_empty.result x.state
    (c.is_empty.ensures ∙ ap (λ (gs : List Granting). eqb (length gs) 0) (c.open.ensures ∙ ap (λ (gs : List Granting). filter is_open gs) c.grants.ensures)))
    (c.are_settled.ensures (after past) x.state (c.grants_are_tidy.ensures (machine_of c.args.replay.now.harts) past x.lawful)) (c.is_finished.ensures w (after past) same x.state))
