-- What a line settles, and which line an event has.
use Rattle.std.specs.Prelude.{◌≡◌, ℕ, List}
use Rattle.history_event.specs.declared.event.Event.{Event}
use Rattle.history_event.specs.declared.event_line.EventLine.{EventLine}
use Rattle.trace_read.specs.Fits.{IsWritable}
use Rattle.trace_read.specs.Lines.{HasLine}
use Rattle.trace_read.specs.Said.{said_of}
use Rattle.trace_text.specs.Lines.{line_text}

-- a line says one thing at most
abbrev pub OneSaying : Type 0
OneSaying = (line : List ℕ) (one other : EventLine) → HasLine line one → HasLine line other → one ≡ other

-- an event has the line that is written of it, if a line can say it
abbrev pub EventsHaveLines : Type 0
EventsHaveLines = (event : Event) → IsWritable (said_of event) → HasLine (line_text event) (said_of event)
