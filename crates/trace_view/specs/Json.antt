-- A journal as lines of JSON.
use Rattle.std.specs.Prelude.{ℕ, List, [], ◌∷◌, ◌++◌, codes, flat_map, Option, Some, None, option_map}
use Rattle.serde_json.specs.Data.{Data, Members, put, null, number, unsigned, string, object, member, no_members}
use Rattle.serde_json.specs.Written.{compact_text}
use Rattle.history_event.specs.declared.event.SymAnswer.{SymAnswer}
use Rattle.history_event.specs.declared.event.SymAnswer.TheVariants as syms
use Rattle.history_event.specs.declared.event_line.EventLine.{EventLine}
use Rattle.history_event.specs.declared.event_line.EventLine.TheVariants as lines
use Rattle.history_event.specs.declared.event_line.OpenLine.{OpenLine}
use Rattle.history_event.specs.declared.event_line.OpenLine.TheVariants as opens
use Rattle.trace_view.specs.declared.journal.Made.{Made}
use Rattle.trace_view.specs.declared.journal.Step.{Step}
use Rattle.trace_view.specs.declared.members.Member.{Member}
use Rattle.trace_view.specs.Names.{object_name}
use Rattle.trace_view.specs.Picture.{hart_of}
use Rattle.trace_view.specs.Words.{step_words}

-- ---- what is said of an event

-- the first word of its line
abbrev pub kind_of : EventLine → List ℕ
kind_of (lines.Open hart ask answer) = codes "open"
kind_of (lines.Close hart handle answer) = codes "close"
kind_of (lines.Unmapped hart set) = codes "unmapped"
kind_of (lines.Grant grant hart owner slot choice value) = codes "grant"
kind_of (lines.Bound grant) = codes "bound"
kind_of (lines.Lost grant saw) = codes "lost"
kind_of (lines.Unresolved hart owner slot choice) = codes "unresolved"
kind_of (lines.Sym hart ask answer) = codes "sym"
kind_of (lines.Tls hart owner address) = codes "tls"
kind_of (lines.Init hart serial) = codes "init"
kind_of (lines.Fini hart serial) = codes "fini"
kind_of (lines.Wrote hart bytes) = codes "wrote"
kind_of (lines.Told hart fault) = codes "told"
kind_of (lines.Ended hart end) = codes "ended"

abbrev pub root_of : OpenLine → Option ℕ
root_of (opens.Done ns root added) = Some root
root_of opens.Absent = None
root_of (opens.Refused fault) = None

abbrev pub object_found : SymAnswer → Option ℕ
object_found (syms.Found serial index address) = Some serial
object_found (syms.Refused fault) = None

abbrev pub owner_of : Option Made → Option ℕ
owner_of made = option_map (λ m. m.owner) made

-- whose slot, storage or functions it is, or what was opened or found
abbrev pub object_by : EventLine → Option Made → Option ℕ
object_by (lines.Open hart ask answer) made = root_of answer
object_by (lines.Grant grant hart owner slot choice value) made = Some owner
object_by (lines.Bound grant) made = owner_of made
object_by (lines.Lost grant saw) made = owner_of made
object_by (lines.Unresolved hart owner slot choice) made = Some owner
object_by (lines.Sym hart ask answer) made = object_found answer
object_by (lines.Tls hart owner address) made = Some owner
object_by (lines.Init hart serial) made = Some serial
object_by (lines.Fini hart serial) made = Some serial
object_by other made = None

abbrev pub object_of : Step → Option ℕ
object_of step = object_by step.event step.grant

abbrev pub grant_of : EventLine → Option ℕ
grant_of (lines.Grant grant hart owner slot choice value) = Some grant
grant_of (lines.Bound grant) = Some grant
grant_of (lines.Lost grant saw) = Some grant
grant_of other = None

abbrev pub address_found : SymAnswer → Option ℕ
address_found (syms.Found serial index address) = Some address
address_found (syms.Refused fault) = None

abbrev pub address_of : EventLine → Option ℕ
address_of (lines.Grant grant hart owner slot choice value) = Some value
address_of (lines.Lost grant saw) = Some saw
address_of (lines.Sym hart ask answer) = address_found answer
address_of (lines.Tls hart owner address) = Some address
address_of other = None

-- ---- its object

abbrev pub number_or_null : Option ℕ → Data
number_or_null None = null
number_or_null (Some n) = number (unsigned n)

abbrev pub text_or_null : Option (List ℕ) → Data
text_or_null None = null
text_or_null (Some text) = string text

abbrev pub with_numbers : Step → Members → Members
with_numbers step ms =
    put (codes "address") (number_or_null (address_of step.event))
    (put (codes "grant") (number_or_null (grant_of step.event))
    (put (codes "hart") (number_or_null (hart_of step))
    (put (codes "row") (number (unsigned step.row)) ms)))

abbrev pub with_object : List Member → Option ℕ → Members → Members
with_object members serial ms = put (codes "object") (text_or_null (option_map (object_name members) serial)) (put (codes "serial") (number_or_null serial) ms)

abbrev pub line_data : Option ℕ → List ℕ → Option ℕ → Option ℕ → Option (List ℕ) → ℕ → Option ℕ → List ℕ → Data
line_data address kind grant hart name row serial words =
    object (member (codes "address") (number_or_null address)
    (member (codes "event") (string kind)
    (member (codes "grant") (number_or_null grant)
    (member (codes "hart") (number_or_null hart)
    (member (codes "object") (text_or_null name)
    (member (codes "row") (number (unsigned row))
    (member (codes "serial") (number_or_null serial)
    (member (codes "words") (string words) no_members))))))))

unfoldable pub data_of : List Member → Step → Data
data_of members step =
    line_data (address_of step.event) (kind_of step.event) (grant_of step.event) (hart_of step)
    (option_map (object_name members) (object_of step)) step.row (object_of step) (step_words members step)

-- ---- lines

abbrev pub json_line : List Member → Step → List ℕ
json_line members step = compact_text (data_of members step) ++ 10 ∷ []

unfoldable pub end_data : List ℕ → Data
end_data words = object (member (codes "event") (string (codes "end")) (member (codes "words") (string words) no_members))

abbrev pub end_line : Option (List ℕ) → List ℕ
end_line None = []
end_line (Some words) = compact_text (end_data words) ++ 10 ∷ []

-- an object an event, and one of the run's end where it is said
abbrev pub json_text : List Member → List Step → Option (List ℕ) → List ℕ
json_text members steps last = flat_map (json_line members) steps ++ end_line last
