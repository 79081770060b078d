use Rattle.std.proofs.Common.{refl, sym, subst, ◌∙◌}
use Rattle.std.specs.Prelude.{IfNone, IfSome}
use Rattle.std.specs.List.{find}
use Rattle.history_state.specs.After.{after}
use Rattle.history_state.specs.Slots.{HasNoGrant}
use Rattle.link_state.specs.Granting.{HasOpenGrant, is_by}
use Rattle.link_state.specs.Table.{LinkTable}
use Rattle.link_state.proofs.Pending.{found_is, none_is}
use Rattle.link_state.proofs.state.LinkState.open_grant.Goals as goal

pub returns-clause-pending : goal.returns-clause-pending
returns-clause-pending c =
    subst (λ (v : LinkTable). IfSome c.number_of.result (HasOpenGrant (after v.events) c.args.hart)) c.self.view_is
    (subst (λ r. IfSome r (HasOpenGrant (after c.self.inside.journal.events) c.args.hart)) (sym c.number_of.ensures)
    (found_is (after c.self.inside.journal.events) c.args.hart c.as_slice.result.now (find (is_by c.args.hart) c.as_slice.result.now) (c.as_slice.ensures ∙ c.self.invariant.running.opens) refl))

pub returns-clause-none : goal.returns-clause-none
returns-clause-none c =
    subst (λ (v : LinkTable). IfNone c.number_of.result (HasNoGrant (after v.events) c.args.hart)) c.self.view_is
    (subst (λ r. IfNone r (HasNoGrant (after c.self.inside.journal.events) c.args.hart)) (sym c.number_of.ensures)
    (none_is (after c.self.inside.journal.events) c.args.hart c.as_slice.result.now (find (is_by c.args.hart) c.as_slice.result.now) (c.as_slice.ensures ∙ c.self.invariant.running.opens) refl))
