use Rattle.std.proofs.Common.{◌≡◌, ℕ, Bool, not, eqb, rules, ap, ◌∙◌}
use Rattle.std.specs.List.{filter}
use Rattle.std.proofs.lemmas.Fn.{filter_same}
use Rattle.link_lists.specs.LinkPending.Pending.{SerialsWithRoom}
use Rattle.link_lists.proofs.link_pending.unfinished.Unfinished.remove.Goals as goal

pub returns-clause-serials : goal.returns-clause-serials
returns-clause-serials c =
    let other : ℕ → Bool = λ d. not (eqb d c.args.serial) in
    let others : c.retain.new.self.items ≡ filter other c.self.inside.serials.items =
    filter_same _ other _ (λ x b f' k. search rules) _ _ c.retain.ensures.filtered in
    others ∙ ap (λ (v : SerialsWithRoom). filter other v.serials) c.self.view_is
