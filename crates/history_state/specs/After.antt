-- The state after events: a fold from the left.
use Rattle.std.specs.Prelude.{List, [], ◌∷◌}
use Rattle.history_event.specs.declared.event.Event.{Event}
use Rattle.history_state.specs.State.{State, empty_state}
use Rattle.history_state.specs.Step.{step}

unfoldable pub after_from : State → List Event → State
after_from s [] = s
after_from s (e ∷ rest) = after_from (step s e) rest

-- After
abbrev pub after : List Event → State
after events = after_from empty_state events
