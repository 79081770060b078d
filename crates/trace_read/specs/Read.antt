-- A line, read back. For the code of this crate alone.
use Rattle.std.specs.Prelude.{ℕ, ◌-◌, if◌then◌else◌, length, take, drop, List, [], ◌∷◌, Option, None}
use Rattle.std.specs.Str.{bytes_eq}
use Rattle.history_event.specs.declared.event_line.EventLine.{EventLine}
use Rattle.trace_read.specs.Events.{event_of}

-- what stands before the line feed at the end
unfoldable pub read_line : List ℕ → Option EventLine
read_line line = if bytes_eq (drop (length line - 1) line) (10 ∷ []) then event_of (take (length line - 1) line) else None
