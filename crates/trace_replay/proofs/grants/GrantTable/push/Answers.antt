use Rattle.std.proofs.Common.{◌≡◌, ◌+◌, List, [], ◌∷◌, ◌++◌, length, sym, ap, subst, ◌∙◌}
use Rattle.history_event.specs.declared.state.Granting.{Granting}
use Rattle.trace_replay.specs.Indexed.{IsIndexed}
use Rattle.trace_replay.proofs.Settled.{indexed_pushed}
use Rattle.trace_replay.proofs.grants.GrantTable.push.Goals as goal

pub invariant_of-self-2 : goal.invariant_of-self-2
invariant_of-self-2 c =
    let all : c.put.new.grants.items ≡ c.self.inside.all.items ++ c.args.grant.now ∷ [] = c.put.ensures ∙ ap (λ (gs : List Granting). gs ++ c.args.grant.now ∷ []) c.reserve.ensures.items in
    let left : c.put-2.new.grants.items ≡ c.self.inside.open.items ++ c.args.grant.now ∷ [] = c.put-2.ensures ∙ ap (λ (gs : List Granting). gs ++ c.args.grant.now ∷ []) c.reserve-2.ensures.items in
    let number : c.args.grant.now.number ≡ length c.self.inside.all.items + 1 = c.requires.numbered ∙ ap (λ (gs : List Granting). length gs + 1) (sym c.self.view_is) in
    subst (λ (gs : List Granting). IsIndexed gs c.put-2.new.grants.items c.self.inside.bound.entries) (sym all)
    (indexed_pushed c.self.inside.all.items c.self.inside.open.items c.put-2.new.grants.items c.self.inside.bound.entries c.args.grant.now c.self.invariant number c.requires.pending left)
