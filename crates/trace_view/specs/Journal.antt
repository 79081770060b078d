-- The journal that bytes are.
use Rattle.std.specs.Prelude.{◌≡◌, ◌≢◌, ℕ, ◌+◌, ◌==◌, if◌then◌else◌, List, [], ◌∷◌, ◌++◌, codes, flat_map, map, length, take, drop, All, IsTrue}
use Rattle.std.specs.Prelude.{Option, Some, None, option_map}
use Rattle.std.specs.List.{Contains, list_all}
use Rattle.std.specs.String.{string_bytes}
use Rattle.history_event.specs.declared.event_line.EventLine.{EventLine}
use Rattle.history_event.specs.declared.event_line.EventLine.TheVariants as lines
use Rattle.trace_read.specs.Fits.{IsWritable}
use Rattle.trace_read.specs.Lines.{HasLine, line_of}
use Rattle.trace_view.specs.Names.{is_visible}
use Rattle.trace_view.specs.declared.fault.ViewFault.{ViewFault}
use Rattle.trace_view.specs.declared.fault.ViewFault.TheVariants as faults
use Rattle.trace_view.specs.declared.journal.Journal.{Journal}
use Rattle.trace_view.specs.declared.journal.Made.{Made}
use Rattle.trace_view.specs.declared.journal.Step.{Step}

-- ---- the last line

-- the run's end is behind this word
abbrev pub last_line : Option (List ℕ) → List ℕ
last_line None = []
last_line (Some words) = codes "end " ++ words ++ 10 ∷ []

-- its words are visible characters and spaces
abbrev pub AreVisible : Option (List ℕ) → Type 0
AreVisible None = Unit {0}
AreVisible (Some words) = IsTrue (list_all is_visible words)

-- the line doesn't say the run's end
abbrev pub SaysNoEnd : List ℕ → Type 0
SaysNoEnd line = (words : List ℕ) → IsTrue (list_all is_visible words) → line ≢ last_line (Some words)

-- what a line says of the run's end; none where it says nothing of it
abbrev pub IsEnd : List ℕ → Option (List ℕ) → Type 0
IsEnd line None = SaysNoEnd line
IsEnd line (Some words) = (line ≡ last_line (Some words)) × IsTrue (list_all is_visible words)

-- ---- grants

-- the grant that an event makes in its row
abbrev pub made_by : ℕ → EventLine → Option Made
made_by row (lines.Grant grant hart owner slot choice value) =
    Some (record { row = row; grant = grant; hart = hart; owner = owner; slot = slot; choice = choice })
made_by row other = None

abbrev pub noted : List Made → Option Made → List Made
noted grants None = grants
noted grants (Some made) = grants ++ made ∷ []

-- the number of the grant that an event makes
abbrev pub granted_number : EventLine → Option ℕ
granted_number (lines.Grant grant hart owner slot choice value) = Some grant
granted_number other = None

-- the number of the grant that an event settles
abbrev pub settled_number : EventLine → Option ℕ
settled_number (lines.Bound grant) = Some grant
settled_number (lines.Lost grant saw) = Some grant
settled_number other = None

-- one of these grants that has this number, or none if none has it
abbrev pub IsGrantOf : List Made → ℕ → Option Made → Type 0
IsGrantOf grants number None = All (λ made. made.grant ≢ number) grants
IsGrantOf grants number (Some made) = Contains grants made × (made.grant ≡ number)

abbrev pub IsGrantIf : List Made → Option ℕ → Option Made → Type 0
IsGrantIf grants None given = given ≡ None
IsGrantIf grants (Some number) given = IsGrantOf grants number given

-- the grant that an event settles, of those before it
abbrev pub IsSettledBy : List Made → EventLine → Option Made → Type 0
IsSettledBy grants event given = IsGrantIf grants (settled_number event) given

-- the event stands behind the steps, with the grant that it settles
pub record IsOneMore (steps : List Step) (grants : List Made) (event : EventLine) (after : List Step) : Type 0 where
  pub grant : Option Made
  pub settled : IsSettledBy grants event grant
  pub are : after ≡ steps ++ record { row = length steps; event = event; grant = grant } ∷ []

-- one of the events, in this row, makes this grant
pub record IsMadeIn (events : List EventLine) (made : Made) : Type 0 where
  pub before : List EventLine
  pub event : EventLine
  pub behind : List EventLine
  pub there : events ≡ before ++ event ∷ behind
  pub makes : made_by (length before) event ≡ Some made

-- no event of these makes a grant of a number that the event settles
abbrev pub SettlesNone : List EventLine → EventLine → Type 0
SettlesNone events event = All (λ e. (number : ℕ) → settled_number event ≡ Some number → granted_number e ≢ Some number) events

-- what is given of a grant is one that an event before makes, of the number that the event settles; none where no event before makes one
abbrev pub SettledIn : List EventLine → EventLine → Option Made → Type 0
SettledIn before event None = SettlesNone before event
SettledIn before event (Some made) = IsMadeIn before made × (settled_number event ≡ Some made.grant)

-- ---- journals

abbrev pub events_of : List Step → List EventLine
events_of steps = map (λ step. step.event) steps

-- the lines of events, one behind the other
abbrev pub lines_of : List EventLine → List ℕ
lines_of events = flat_map line_of events

-- each has its row, from this one on
abbrev pub AreRows : ℕ → List Step → Type 0
AreRows row [] = Unit {0}
AreRows row (step ∷ steps) = (step.row ≡ row) × AreRows (row + 1) steps

-- each has the grant that it settles, of those that the events before it make
abbrev pub AreSettled : List EventLine → List Step → Type 0
AreSettled before [] = Unit {0}
AreSettled before (step ∷ steps) = SettledIn before step.event step.grant × AreSettled (before ++ step.event ∷ []) steps

-- the bytes are the lines of the journal's events, and then its last line, if it has one
pub record IsJournal (bytes : List ℕ) (journal : Journal) : Type 0 where
  pub text : bytes ≡ lines_of (events_of journal.steps) ++ last_line (option_map string_bytes journal.last)
  pub fit : All IsWritable (events_of journal.steps)
  pub rows : AreRows 0 journal.steps
  pub settled : AreSettled [] journal.steps
  pub visible : AreVisible (option_map string_bytes journal.last)

-- ---- refusals

-- how many bytes the first line has, its line feed too where it has one
abbrev pub line_length : List ℕ → ℕ
line_length [] = 0
line_length (byte ∷ rest) = if byte == 10 then 1 else line_length rest + 1

abbrev pub first_line : List ℕ → List ℕ
first_line bytes = take (line_length bytes) bytes

-- what stands behind the first line
abbrev pub behind_first : List ℕ → List ℕ
behind_first bytes = drop (line_length bytes) bytes

-- the lines before this number are those of events, and this line, which is there, is no event's, nor is it the run's end as the last
pub record IsNoEventAt (bytes : List ℕ) (number : ℕ) : Type 0 where
  pub events : List EventLine
  pub rest : List ℕ
  pub before : length events + 1 ≡ number
  pub text : bytes ≡ lines_of events ++ rest
  pub there : rest ≢ []
  pub no_event : (event : EventLine) → HasLine (first_line rest) event → ⊥
  pub no_end : behind_first rest ≡ [] → SaysNoEnd (first_line rest)

-- want of memory says nothing of the bytes
abbrev pub IsRefused : List ℕ → ViewFault → Type 0
IsRefused bytes (faults.NoEvent number) = IsNoEventAt bytes number
IsRefused bytes faults.Memory = Unit {0}

-- this line, of this number, is refused, and isn't the run's end as the last
abbrev pub IsNoEndAt : ℕ → List ℕ → List ℕ → ViewFault → Type 0
IsNoEndAt number line behind (faults.NoEvent refused) = (refused ≡ number) × (behind ≡ [] → SaysNoEnd line)
IsNoEndAt number line behind faults.Memory = Unit {0}

-- a journal of these steps, whose last line is the one that is left
pub record EndsAt (steps : List Step) (line : List ℕ) (behind : List ℕ) (journal : Journal) : Type 0 where
  pub are : journal.steps ≡ steps
  pub last : line ≡ last_line (option_map string_bytes journal.last)
  pub visible : AreVisible (option_map string_bytes journal.last)
  pub nothing : behind ≡ []
