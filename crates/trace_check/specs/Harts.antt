-- How many harts a trace is of.
use Rattle.std.specs.Prelude.{◌≡◌, ℕ, ◌+◌, Bool, true, false, not, ◌==◌, List, [], ◌∷◌, IsTrue}
use Rattle.history_event.specs.declared.event_line.EventLine.{EventLine}
use Rattle.history_event.specs.declared.event_line.EventLine.TheVariants as lines
use Rattle.trace_read.specs.Lines.{HasLine}

-- the start of a run is over: an object is initialised, or a hart has ended
abbrev pub ends_start : EventLine → Bool
ends_start (lines.Init hart object) = true
ends_start (lines.Ended hart reason) = true
ends_start other = false

-- the look-up of a name for a hart, other than the first
abbrev pub names_hart : EventLine → Bool
names_hart (lines.Sym hart ask answer) = not (hart == 0)
names_hart other = false

-- no event has the line
abbrev pub IsNoEvent : List ℕ → Type 0
IsNoEvent line = (event : EventLine) → ¬ (HasLine line event)

-- so many of these lines name harts other than the first, before the start is over; one that is no event's is passed over
pub data NameHarts : List (List ℕ) → ℕ → Type 0 where
  no_more : NameHarts [] 0
  is_over : (line : List ℕ) (rest : List (List ℕ)) (event : EventLine) → HasLine line event → IsTrue (ends_start event) → NameHarts (line ∷ rest) 0
  names : (line : List ℕ) (rest : List (List ℕ)) (event : EventLine) (count : ℕ) → HasLine line event → IsTrue (names_hart event)
      → NameHarts rest count → NameHarts (line ∷ rest) (count + 1)
  other : (line : List ℕ) (rest : List (List ℕ)) (event : EventLine) (count : ℕ) → HasLine line event → ends_start event ≡ false
      → names_hart event ≡ false → NameHarts rest count → NameHarts (line ∷ rest) count
  passed : (line : List ℕ) (rest : List (List ℕ)) (count : ℕ) → IsNoEvent line → NameHarts rest count → NameHarts (line ∷ rest) count
