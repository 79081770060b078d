use Rattle.std.proofs.Common.{◌≡◌, ℕ, Bool, not, rules, ap, ◌∙◌}
use Rattle.std.specs.List.{filter}
use Rattle.std.proofs.lemmas.Fn.{filter_same}
use Rattle.history_state.specs.Objects.{has}
use Rattle.link_spaces.proofs.dying.others.Goals as goal

pub returns : goal.returns
returns c =
    let other : ℕ → Bool = λ d. not (has c.args.set.now d) in
    let kept : c.retain.new.self.items ≡ filter other c.into_vec-serials.result.items =
    filter_same _ other _ (λ x b f' k. search rules) _ _ c.retain.ensures.filtered in
    c.from.ensures ∙ kept ∙ ap (filter other) c.into_vec-serials.ensures
