-- What a line is to the start of a run. For the code of this crate alone.
use Rattle.std.specs.Prelude.{◌≡◌, ◌⊎◌, ℕ, false, List, IsTrue}
use Rattle.history_event.specs.declared.event_line.EventLine.{EventLine}
use Rattle.trace_check.specs.Harts.{IsNoEvent, ends_start, names_hart}
use Rattle.trace_check.specs.declared.harts.Part.{Part}
use Rattle.trace_check.specs.declared.harts.Part.TheVariants as parts
use Rattle.trace_read.specs.Lines.{HasLine}

abbrev pub IsPart : EventLine → Part → Type 0
IsPart event parts.Over = IsTrue (ends_start event)
IsPart event parts.Hart = IsTrue (names_hart event)
IsPart event parts.Other = (ends_start event ≡ false) × (names_hart event ≡ false)

pub record IsEventsPart (line : List ℕ) (part : Part) : Type 0 where
  pub event : EventLine
  pub has : HasLine line event
  pub is : IsPart event part

abbrev pub IsPartOf : List ℕ → Part → Type 0
IsPartOf line part = IsEventsPart line part ⊎ (IsNoEvent line × (part ≡ parts.Other))
