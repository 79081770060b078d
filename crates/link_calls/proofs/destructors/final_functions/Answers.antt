use Rattle.std.proofs.Common.{◌≡◌, List, map, reverse}
use Rattle.history_journal.specs.Following.{machine_of}
use Rattle.history_event.specs.declared.handed.Function.{Function}
use Rattle.history_state.specs.After.{after}
use Rattle.history_state.specs.Links.{unfinished}
use Rattle.history_calls.specs.Functions.{AreFinalDestructors, AreOf, destructors, object_of}
use Rattle.link_calls.proofs.Left.{are_final, if_both}
use Rattle.link_calls.proofs.destructors.final_functions.Goals as goal

pub returns : goal.returns
returns c =
    if_both c.all_destructors.result (λ (all : List Function). map object_of all ≡ reverse (unfinished (after c.args.state.now.events))) (AreOf (after c.args.state.now.events) destructors)
    (AreFinalDestructors (after c.args.state.now.events))
    (λ all order addresses. are_final (after c.args.state.now.events) all
    (c.unfinished_are_mapped.ensures (machine_of c.args.state.now.harts) c.args.state.now.events c.journal.ensures.lawful) order addresses)
    c.all_destructors.ensures.order c.all_destructors.ensures.addresses
