use Rattle.std.proofs.Common.{◌≡◌, ℕ, List, reverse, rules, subst}
use Rattle.std.specs.List.{Contains}
use Rattle.history_journal.specs.Following.{machine_of}
use Rattle.history_state.specs.After.{after}
use Rattle.history_state.specs.Lemmas.Finalised.{from_reverse}
use Rattle.history_state.specs.Links.{unfinished}
use Rattle.link_calls.proofs.Left.{has_image}
use Rattle.link_calls.proofs.destructors.all_destructors.Goals as goal

pub destructors_in-requires : goal.destructors_in-requires
destructors_in-requires c =
    let order : c.in_ok-order.order.items ≡ reverse c.unfinished.result.now = search rules in
    let are : c.as_slice.result.now ≡ reverse (unfinished (after c.args.state.now.events)) = search rules in
    record {
      there = λ d inside.
          has_image (after c.args.state.now.events) (c.images_are_found.ensures (machine_of c.args.state.now.harts) c.args.state.now.events c.journal.ensures.lawful) d
          (c.unfinished_are_mapped.ensures (machine_of c.args.state.now.harts) c.args.state.now.events c.journal.ensures.lawful d
          (from_reverse (unfinished (after c.args.state.now.events)) d (subst (λ (ds : List ℕ). Contains ds d) are inside)));
    }
