use Rattle.std.proofs.Common.{ℕ, cond, eqb, List, [], ◌∷◌, ◌++◌, drop, map, take, refl, sym, ap, ◌∙◌}
use Rattle.std.specs.List.{list_any}
use Rattle.history_event.specs.declared.handed.Function.{Function}
use Rattle.history_state.specs.After.{after}
use Rattle.history_calls.specs.Functions.{left, object_of, passed}
use Rattle.world_answers.proofs.ReturnsPart.FinalTurns.Planning.{planned}
use Rattle.world_answers.proofs.returns.final_turns.turn.FinalTurn.plan.Goals as goal

pub returns-clause-planned : goal.returns-clause-planned
returns-clause-planned c =
    planned (after c.args.state.now.events) c.args.object c.in_ok-functions.functions c.others_of-others.result c.is_left-left.result _ c.requires.initialised c.in_ok-functions.ensures
    (c.is_left-left.ensures ∙ ap (list_any (λ f. eqb f.object c.args.object)) c.as_slice.ensures) c.others_of-others.ensures refl
    (c.in_ok-finalised.ensures
    ∙ ap (λ (ds : List ℕ). cond c.is_left-left.result (c.args.object ∷ []) [] ++ ds)
    (ap (λ (fs : List Function). map object_of (take c.passed_objects-passed.result fs)) (c.as_slice-3.ensures ∙ sym c.as_slice-2.ensures) ∙ c.passed_objects-passed.ensures.passed
    ∙ ap passed c.as_slice-2.ensures))
    (c.only_at-next.ensures
    ∙ ap (take 1) (ap (drop c.passed_objects-passed.result) (sym c.as_slice-2.ensures) ∙ c.passed_objects-passed.ensures.left ∙ ap left c.as_slice-2.ensures))
