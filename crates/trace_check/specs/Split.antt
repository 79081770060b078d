-- The lines that a trace is split into, as contracts see them. For the code of this crate alone.
use Rattle.std.specs.Prelude.{map}
use Rattle.std.specs.Option.{option_map}
use Rattle.trace_check.specs.Lines.{Lines}
use Rattle.trace_check.specs.declared.lines.Lines.{Lines as Split}

abbrev pub lines_of : Split → Lines
lines_of l = record { events = map (λ line. line.now) l.events.items; last = option_map (λ line. line.now) l.last; rest = l.rest.now }
