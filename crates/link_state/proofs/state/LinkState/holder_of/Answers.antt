use Rattle.std.proofs.Common.{◌≡◌, ℕ, List, ap, subst, ◌∙◌}
use Rattle.std.specs.Prelude.{IfNone}
use Rattle.std.specs.Option.{option_map}
use Rattle.std.specs.List.{find}
use Rattle.history_event.specs.declared.state.Granting.{Granting}
use Rattle.history_state.specs.After.{after}
use Rattle.history_state.specs.Allowed.{IsUngranted}
use Rattle.close_mark.specs.UnmapSteps.Touched.{is_touching}
use Rattle.link_state.specs.Table.{LinkTable}
use Rattle.link_holds.specs.Lemmas.Unmapped.{free_if}
use Rattle.link_state.proofs.state.LinkState.holder_of.Goals as goal

pub returns-clause-free : goal.returns-clause-free
returns-clause-free c =
    let is : c.holding.result ≡ option_map (λ (g : Granting). g.number) (find (is_touching c.args.dying.now.list) c.as_slice.result.now) =
    c.holding.ensures ∙ ap (λ (set : List ℕ). option_map (λ (g : Granting). g.number) (find (is_touching set) c.as_slice.result.now)) c.as_slice-2.ensures in
    subst (λ (v : LinkTable). IfNone c.holding.result (IsUngranted (after v.events) c.args.dying.now.list)) c.self.view_is
    (free_if (after c.self.inside.journal.events) c.args.dying.now.list c.as_slice.result.now c.holding.result
    (c.first_is_least.ensures.none c.self.inside.journal.events c.args.dying.now.list)
    (c.as_slice.ensures ∙ c.self.invariant.running.opens) is)
