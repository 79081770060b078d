use Rattle.std.proofs.Common.{◌≡◌, ◌++◌, take}
use Rattle.std.specs.String.{string_bytes}
use Rattle.trace_text.specs.RunTexts.Printed.{journal_lines}
use Rattle.trace_text.proofs.run_texts.texts.write_events.Given as goal

-- the lines of the events so far are written
abbrev pub invariant-loop-event : goal.invariant-loop-event
invariant-loop-event l = string_bytes l.text ≡ string_bytes l.fn.text ++ journal_lines (take l.event-index l.events)
