use Rattle.std.proofs.Common.{◌≡◌, take}
use Rattle.std.specs.List.{flat_map}
use Rattle.trace_text.specs.RunTexts.Printed.{written_by}
use Rattle.trace_text.proofs.run_texts.texts.written.Given as goal

-- the bytes of the events so far
abbrev pub invariant-loop-event : goal.invariant-loop-event
invariant-loop-event l = l.bytes.items ≡ flat_map written_by (take l.event-index l.events)
