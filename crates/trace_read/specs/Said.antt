-- What the line of an event says of it: all of it, but neither the records of new objects nor pages.
use Rattle.std.specs.Prelude.{map}
use Rattle.ld_base.specs.declared.linking.Loaded.{Loaded}
use Rattle.history_event.specs.declared.event.Event.{Event}
use Rattle.history_event.specs.declared.event.Event.TheVariants as events
use Rattle.history_event.specs.declared.event.OpenAnswer.{OpenAnswer}
use Rattle.history_event.specs.declared.event.OpenAnswer.TheVariants as answers
use Rattle.history_event.specs.declared.event_line.EventLine.{EventLine}
use Rattle.history_event.specs.declared.event_line.EventLine.TheVariants as lines
use Rattle.history_event.specs.declared.event_line.NewLine.{NewLine}
use Rattle.history_event.specs.declared.event_line.OpenLine.{OpenLine}
use Rattle.history_event.specs.declared.event_line.OpenLine.TheVariants as opens

abbrev pub said_of_new : Loaded → NewLine
said_of_new o = record { serial = o.serial; path = o.path; base = o.base; «module» = o.«module» }

abbrev pub said_of_answer : OpenAnswer → OpenLine
said_of_answer (answers.Done ns root added ranges) = opens.Done ns root (map said_of_new added)
said_of_answer answers.Absent = opens.Absent
said_of_answer (answers.Refused fault) = opens.Refused fault

abbrev pub said_of : Event → EventLine
said_of (events.Open hart ask answer) = lines.Open hart ask (said_of_answer answer)
said_of (events.Close hart handle answer) = lines.Close hart handle answer
said_of (events.Unmapped hart set) = lines.Unmapped hart set
said_of (events.Grant grant hart owner slot choice value) = lines.Grant grant hart owner slot choice value
said_of (events.Bound grant) = lines.Bound grant
said_of (events.Lost grant saw) = lines.Lost grant saw
said_of (events.Unresolved hart owner slot choice) = lines.Unresolved hart owner slot choice
said_of (events.Sym hart ask answer) = lines.Sym hart ask answer
said_of (events.Tls hart owner address) = lines.Tls hart owner address
said_of (events.Init hart object) = lines.Init hart object
said_of (events.Fini hart object) = lines.Fini hart object
said_of (events.Wrote hart bytes) = lines.Wrote hart bytes
said_of (events.Told hart fault) = lines.Told hart fault
said_of (events.Ended hart end) = lines.Ended hart end
