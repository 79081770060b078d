-- An event that is taken in.
use Rattle.std.specs.Prelude.{List, [], ◌∷◌, ◌++◌}
use Rattle.history_event.specs.declared.event.Event.{Event}
use Rattle.history_event.specs.declared.event.Event.TheVariants as events
use Rattle.history_event.specs.declared.event.OpenAnswer.{OpenAnswer}
use Rattle.history_event.specs.declared.event.OpenAnswer.TheVariants as opens
use Rattle.history_event.specs.declared.event.OpenAsk.{OpenAsk}
use Rattle.history_event.specs.declared.handed.Opening.{Opening}
use Rattle.history_journal.specs.Following.{MayFollow}
use Rattle.history_state.specs.After.{after}
use Rattle.history_state.specs.Step.{binds, seen_after}
use Rattle.ld_base.specs.declared.linking.Choice.{Choice}
use Rattle.link_open_images.specs.Relocated.{AreChoices}
use Rattle.trace_replay.specs.Lists.{Lists}
use Rattle.trace_replay.specs.Shown.{Shows}

-- the event may come after each history that the lists show
abbrev pub Follows : Lists → Event → Type 0
Follows l e = (past : List Event) → Shows past l → MayFollow l.harts past e

-- these lists show each such history with the event
abbrev pub Takes : Lists → Event → Lists → Type 0
Takes l e new = (past : List Event) → Shows past l → Shows (past ++ e ∷ []) new

-- the event opens nothing
abbrev pub AnswersNothing : OpenAnswer → Type 0
AnswersNothing (opens.Done id root added ranges) = ⊥
AnswersNothing opens.Absent = Unit {0}
AnswersNothing (opens.Refused fault) = Unit {0}

abbrev pub OpensNothing : Event → Type 0
OpensNothing (events.Open hart ask answer) = AnswersNothing answer
OpensNothing other = Unit {0}

-- the event of an opening
abbrev pub event_of : Opening → Event
event_of o = events.Open o.hart o.ask o.answer

-- the choices are those of the state with the new objects in it
abbrev pub ChosenFor : List Event → OpenAsk → List (List Choice) → OpenAnswer → Type 0
ChosenFor past ask choices (opens.Done id root added ranges) =
    AreChoices (seen_after (after past) ask id root added) (binds (after past) ask) added choices
ChosenFor past ask choices opens.Absent = Unit {0}
ChosenFor past ask choices (opens.Refused fault) = Unit {0}

abbrev pub AreChosen : Lists → Opening → Type 0
AreChosen l o = (past : List Event) → Shows past l → ChosenFor past o.ask o.choices o.answer
