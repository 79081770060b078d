-- What is printed of a run before its last line.
use Rattle.std.specs.Prelude.{ℕ, ◌-◌, ◌==◌, Bool, false, not, if◌then◌else◌, List, [], ◌∷◌, ◌++◌, flat_map, length}
use Rattle.std.specs.List.{slice_get}
use Rattle.std.specs.Option.{option_map_or}
use Rattle.history_event.specs.declared.event.Event.{Event}
use Rattle.history_event.specs.declared.event.Event.TheVariants.{Wrote}
use Rattle.trace_text.specs.Lines.{line_text}

-- the journal: a line for each event
abbrev pub journal_lines : List Event → List ℕ
journal_lines journal = flat_map line_text journal

-- the bytes that the event wrote
unfoldable pub written_by : Event → List ℕ
written_by (Wrote hart bytes) = bytes
written_by other = []

-- there are bytes, and the last isn't a line feed
abbrev pub lacks_line_feed : List ℕ → Bool
lacks_line_feed bytes = option_map_or (λ byte. not (byte == 10)) (slice_get bytes (length bytes - 1)) false

abbrev pub with_line_feed : List ℕ → List ℕ
with_line_feed bytes = if lacks_line_feed bytes then bytes ++ 10 ∷ [] else bytes

-- what the guest wrote
abbrev pub guest_output : List Event → List ℕ
guest_output journal = with_line_feed (flat_map written_by journal)
