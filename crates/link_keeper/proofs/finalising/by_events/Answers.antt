use Rattle.std.proofs.Common.{◌≡◌, false, List, [], ◌∷◌, refl, sym, ◌∙◌}
use Rattle.std.proofs.lemmas.Bool.{true≢false}
use Rattle.history_event.specs.declared.event.Event.{Event}
use Rattle.hart_moves.specs.Moves.{did_by, settles}
use Rattle.world_answers.specs.ReturnsPart.FinalTurns.Table.{plan_events}
use Rattle.link_keeper.proofs.finalising.by_events.Goals as goal

none_settled : (es : List Event) → settles (did_by es) ≡ false → es ≡ []
none_settled [] not = refl
none_settled (e ∷ es) not = absurd (true≢false not)

pub returns-then-has_events : goal.returns-then-has_events
returns-then-has_events c = λ s b spare x. (x, λ h. sym (c.has_events.ensures h) ∙ c.if-has_events.true)

pub returns-else-has_events : goal.returns-else-has_events
returns-else-has_events c = λ s b spare x. (x, λ h. none_settled (plan_events h c.args.plan) (sym (c.has_events.ensures h) ∙ c.if-has_events.false))
