use Rattle.std.proofs.Common.{◌≡◌, rules, ap, ◌∙◌}
use Rattle.std.specs.List.{filter}
use Rattle.std.proofs.lemmas.Fn.{filter_same}
use Rattle.link_lists.specs.LinkPending.Pending.{GrantTable, is_another}
use Rattle.link_lists.proofs.link_pending.grants.OpenGrants.settle.Goals as goal

pub returns-clause-grants : goal.returns-clause-grants
returns-clause-grants c =
    let others : c.retain.new.self.items ≡ filter (is_another c.args.number) c.self.inside.grants.items =
    filter_same _ (is_another c.args.number) _ (λ x b f' k. search rules) _ _ c.retain.ensures.filtered in
    others ∙ ap (λ (v : GrantTable). filter (is_another c.args.number) v.grants) c.self.view_is
