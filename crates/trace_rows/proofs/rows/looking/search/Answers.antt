use Rattle.std.proofs.Common.{List}
use Rattle.std.specs.Prelude.{IsTrue}
use Rattle.history_event.specs.declared.event.Event.{Event}
use Rattle.history_state.specs.After.{after}
use Rattle.history_state.specs.Objects.{has_namespace}
use Rattle.trace_replay.specs.Shown.{Shows}
use Rattle.trace_rows.specs.Looking.{ComesOfLooking, IsRefusalFor}
use Rattle.trace_rows.proofs.Closed.{if_ok}
use Rattle.trace_rows.proofs.Found.{refused_so}
use Rattle.trace_rows.proofs.rows.looking.search.Goals as goal

pub returns-in-Err : goal.returns-in-Err
returns-in-Err c =
    if_ok c.refused.result (IsRefusalFor c.in-Err.why)
    (λ found. (past : List Event) → Shows past c.args.replay.now → IsTrue (has_namespace (after past) c.args.ask.now.ns) → ComesOfLooking (after past) c.args.hart c.args.ask.now found)
    (λ found is past x has. refused_so (after past) c.args.hart c.args.ask.now c.in-Err.why found is (c.in-Err.ensures.refused past c.args.hart x has)) c.refused.ensures
