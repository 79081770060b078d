use Rattle.std.proofs.Common.{List, ℕ, [], ap, ◌∙◌}
use Rattle.std.specs.Prelude.{flat_map}
use Rattle.scope_rule.specs.Breadth.{extend}
use Rattle.scope_rule.specs.Seen.{seen}
use Rattle.scope_lists.proofs.Ended.{all_linked}
use Rattle.scope_lists.proofs.links.Links.of.Goals as goal

pub returns : goal.returns
returns c = record {
  places = c.in_ok-places.ensures;
  found = c.in_ok-found.ensures;
  all = all_linked (seen c.args.view.now) c.in_ok-all.all c.in_ok-found.found.items
      (c.in_ok-all.ensures ∙ ap (λ (fs : List (List ℕ)). extend [] (flat_map (λ (xs : List ℕ). xs) fs)) c.as_slice.ensures.value) c.in_ok-found.ensures;
}
