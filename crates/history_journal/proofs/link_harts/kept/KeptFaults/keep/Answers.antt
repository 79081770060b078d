use Rattle.std.proofs.Common.{◌≡◌, List, [], ◌∷◌, ◌++◌, rules, ap, ◌∙◌}
use Rattle.std.specs.List.{filter}
use Rattle.std.proofs.lemmas.Fn.{filter_same}
use Rattle.history_event.specs.declared.state.Kept.{Kept}
use Rattle.history_journal.specs.LinkHarts.Kept.{is_anothers}
use Rattle.history_journal.proofs.link_harts.kept.KeptFaults.keep.Goals as goal

pub returns : goal.returns
returns c =
    let others : c.retain.new.self.items ≡ filter (is_anothers c.args.hart) c.self.inside.kept.items =
    filter_same _ (is_anothers c.args.hart) _ (λ x b f' k. search rules) _ _ c.retain.ensures.filtered in
    c.push_reserved.ensures.items ∙ ap (λ (ks : List Kept). ks ++ record { hart = c.args.hart; fault = c.args.fault } ∷ []) (others ∙ ap (λ v. filter (is_anothers c.args.hart) v.kept) c.self.view_is)
