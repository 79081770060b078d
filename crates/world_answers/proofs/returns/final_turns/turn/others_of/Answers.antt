use Rattle.std.proofs.Common.{◌≡◌, Bool, rules, ap, ◌∙◌}
use Rattle.std.specs.List.{filter}
use Rattle.std.proofs.lemmas.Fn.{filter_same}
use Rattle.history_event.specs.declared.handed.Function.{Function}
use Rattle.world_answers.specs.ReturnsPart.FinalTurns.Planned.{is_other}
use Rattle.world_answers.proofs.returns.final_turns.turn.others_of.Goals as goal

pub returns : goal.returns
returns c =
    let of : Function → Bool = λ f. is_other c.args.object f.object in
    let kept : c.retain.new.self.items ≡ filter of c.into_vec-functions.result.items = filter_same _ of _ (λ x b f' k. search rules) _ _ c.retain.ensures.filtered in
    c.from.ensures ∙ kept ∙ ap (filter of) c.into_vec-functions.ensures
