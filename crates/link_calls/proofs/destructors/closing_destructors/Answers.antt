use Rattle.std.proofs.Common.{◌≡◌, ℕ, List, map, reverse, rules, ap, subst, ◌∙◌}
use Rattle.std.specs.List.{Contains}
use Rattle.history_journal.specs.Following.{machine_of}
use Rattle.history_event.specs.declared.handed.Function.{Function}
use Rattle.history_graph.specs.Initialised.{fini_list, is_one_of}
use Rattle.history_state.specs.After.{after}
use Rattle.history_state.specs.Lemmas.Finalised.{from_reverse}
use Rattle.history_state.specs.Lemmas.Lists.{from_filter}
use Rattle.history_state.specs.Links.{finis_of, unfinished}
use Rattle.history_calls.specs.Functions.{AreDestructors, AreOf, destructors, object_of}
use Rattle.link_calls.proofs.Left.{has_image, if_both}
use Rattle.link_calls.proofs.destructors.closing_destructors.Goals as goal

pub destructors_in-requires : goal.destructors_in-requires
destructors_in-requires c =
    let lent : c.as_slice.result.now ≡ c.in_ok-order.order.items = search rules in
    let are : c.as_slice.result.now ≡ finis_of (after c.args.state.now.events) c.args.set.now = lent ∙ c.in_ok-order.ensures ∙ ap (λ (ds : List ℕ). fini_list ds c.args.set.now) c.unfinished.ensures in
    record {
      there = λ d inside.
          has_image (after c.args.state.now.events) (c.images_are_found.ensures (machine_of c.args.state.now.harts) c.args.state.now.events c.journal.ensures.lawful) d
          (c.unfinished_are_mapped.ensures (machine_of c.args.state.now.harts) c.args.state.now.events c.journal.ensures.lawful d
          (from_reverse (unfinished (after c.args.state.now.events)) d
          (from_filter (is_one_of c.args.set.now) (reverse (unfinished (after c.args.state.now.events))) d (subst (λ (ds : List ℕ). Contains ds d) are inside)).0));
    }

pub returns : goal.returns
returns c =
    let lent : c.as_slice.result.now ≡ c.in_ok-order.order.items = search rules in
    let are : c.as_slice.result.now ≡ finis_of (after c.args.state.now.events) c.args.set.now = lent ∙ c.in_ok-order.ensures ∙ ap (λ (ds : List ℕ). fini_list ds c.args.set.now) c.unfinished.ensures in
    if_both c.destructors_in.result (λ (all : List Function). map object_of all ≡ c.as_slice.result.now) (AreOf (after c.args.state.now.events) destructors)
    (AreDestructors (after c.args.state.now.events) c.args.set.now) (λ all order addresses. record { order = order ∙ are; addresses = addresses }) c.destructors_in.ensures.order c.destructors_in.ensures.addresses
