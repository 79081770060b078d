-- The line of each event.
use Rattle.std.specs.Prelude.{◌≡◌, ℕ, List, [], ◌∷◌, ◌++◌, flat_map, length, codes, Option, Some, None}
use Rattle.std.specs.Fmt.{decimal}
use Rattle.ld_base.specs.declared.fault.DlFault.{DlFault}
use Rattle.ld_base.specs.declared.linking.Choice.{Choice}
use Rattle.ld_base.specs.declared.linking.Choice.TheVariants as choices
use Rattle.ld_base.specs.FaultText.{fault_text, hex_text}
use Rattle.ld_base.specs.Text.{name_text, name_or_none}
use Rattle.history_event.specs.declared.event.CloseAnswer.{CloseAnswer}
use Rattle.history_event.specs.declared.event.CloseAnswer.TheVariants as closes
use Rattle.history_event.specs.declared.event.Event.{Event}
use Rattle.history_event.specs.declared.event.Event.TheVariants as events
use Rattle.history_event.specs.declared.event.OpenAnswer.{OpenAnswer}
use Rattle.history_event.specs.declared.event.OpenAnswer.TheVariants as opens
use Rattle.history_event.specs.declared.event.OpenAsk.{OpenAsk}
use Rattle.history_event.specs.declared.event.SymAnswer.{SymAnswer}
use Rattle.history_event.specs.declared.event.SymAnswer.TheVariants as syms
use Rattle.history_event.specs.declared.event.SymAsk.{SymAsk}
use Rattle.history_event.specs.declared.hart_end.HartEnd.{HartEnd}
use Rattle.trace_text.specs.Said.{said, hart_word, object_word}
use Rattle.trace_text.specs.Lists.{added_text, byte_digits, serials_text}
use Rattle.trace_text.specs.Ends.{end_text}

-- a refusal behind a word
abbrev pub refused_text : DlFault → List ℕ
refused_text fault = said (codes "no" ∷ []) (fault_text fault)

-- a namespace that is asked for: its number, or a new one
abbrev pub asked_text : Option ℕ → List ℕ
asked_text (Some ns) = decimal ns
asked_text None = codes "new"

abbrev pub open_answer_text : OpenAnswer → List ℕ
open_answer_text (opens.Done ns root added ranges) =
    said (codes "ok" ∷ (codes "in=" ++ decimal ns) ∷ (codes "root=" ++ decimal root) ∷ []) (codes "new=" ++ added_text added)
open_answer_text opens.Absent = codes "absent"
open_answer_text (opens.Refused fault) = refused_text fault

unfoldable pub open_text : ℕ → OpenAsk → OpenAnswer → List ℕ
open_text hart ask answer =
    said (codes "open" ∷ hart_word hart ∷ (codes "ns=" ++ asked_text ask.ns)
    ∷ (codes "name=" ++ name_or_none ask.name) ∷ (codes "flags=" ++ hex_text ask.flags) ∷ [])
    (open_answer_text answer)

abbrev pub close_answer_text : CloseAnswer → List ℕ
close_answer_text (closes.Done dying) = said (codes "ok" ∷ []) (codes "dying=" ++ serials_text dying)
close_answer_text (closes.Refused fault) = refused_text fault

-- a definition: the object, and the index of its symbol
abbrev pub definition_text : ℕ → ℕ → List ℕ
definition_text serial index = decimal serial ++ 46 ∷ decimal index

abbrev pub sym_answer_text : SymAnswer → List ℕ
sym_answer_text (syms.Found serial index address) = said (codes "ok" ∷ definition_text serial index ∷ []) (hex_text address)
sym_answer_text (syms.Refused fault) = refused_text fault

unfoldable pub sym_text : ℕ → SymAsk → SymAnswer → List ℕ
sym_text hart ask answer =
    said (codes "sym" ∷ hart_word hart ∷ (codes "ns=" ++ decimal ask.ns) ∷ (codes "handle=" ++ hex_text ask.handle)
    ∷ (codes "name=" ++ name_text ask.name) ∷ (codes "ver=" ++ name_or_none ask.version) ∷ [])
    (sym_answer_text answer)

-- what a slot is to get
abbrev pub granted_text : Choice → ℕ → List ℕ
granted_text (choices.Def serial index) value = said (definition_text serial index ∷ []) (hex_text value)
granted_text choices.WeakZero value = said (codes "weak" ∷ []) (hex_text value)
granted_text choices.Missing value = codes "missing"

-- why a slot gets nothing
abbrev pub unresolved_text : Choice → List ℕ
unresolved_text (choices.Def serial index) = said (codes "not-code" ∷ []) (definition_text serial index)
unresolved_text choices.WeakZero = codes "weak"
unresolved_text choices.Missing = codes "missing"

-- the words of a grant's number
abbrev pub grant_word : ℕ → List ℕ
grant_word grant = codes "g=" ++ decimal grant

abbrev pub slot_word : ℕ → List ℕ
slot_word slot = codes "slot=" ++ decimal slot

abbrev pub told_text : ℕ → Option DlFault → List ℕ
told_text hart (Some fault) = said (codes "told" ∷ hart_word hart ∷ []) (fault_text fault)
told_text hart None = said (codes "told" ∷ hart_word hart ∷ []) (45 ∷ [])

abbrev pub unmapped_text : ℕ → List ℕ → List ℕ
unmapped_text hart set = said (codes "unmapped" ∷ hart_word hart ∷ []) (codes "set=" ++ serials_text set)

abbrev pub close_text : ℕ → ℕ → CloseAnswer → List ℕ
close_text hart handle answer = said (codes "close" ∷ hart_word hart ∷ (codes "handle=" ++ hex_text handle) ∷ []) (close_answer_text answer)

abbrev pub grant_text : ℕ → ℕ → ℕ → ℕ → Choice → ℕ → List ℕ
grant_text grant hart owner slot choice value =
    said (codes "grant" ∷ grant_word grant ∷ hart_word hart ∷ object_word owner ∷ slot_word slot ∷ codes "->" ∷ []) (granted_text choice value)

abbrev pub bound_text : ℕ → List ℕ
bound_text grant = said (codes "bound" ∷ []) (grant_word grant)

abbrev pub lost_text : ℕ → ℕ → List ℕ
lost_text grant saw = said (codes "lost" ∷ grant_word grant ∷ []) (codes "saw=" ++ hex_text saw)

abbrev pub unresolved_event_text : ℕ → ℕ → ℕ → Choice → List ℕ
unresolved_event_text hart owner slot choice =
    said (codes "unresolved" ∷ hart_word hart ∷ object_word owner ∷ slot_word slot ∷ []) (unresolved_text choice)

-- for the writer of this crate alone: an event of a slot; of any other nothing
abbrev pub slot_event_text : Event → List ℕ
slot_event_text (events.Grant grant hart owner slot choice value) = grant_text grant hart owner slot choice value
slot_event_text (events.Bound grant) = bound_text grant
slot_event_text (events.Lost grant saw) = lost_text grant saw
slot_event_text (events.Unresolved hart owner slot choice) = unresolved_event_text hart owner slot choice
slot_event_text other = []

abbrev pub block_text : ℕ → ℕ → ℕ → List ℕ
block_text hart owner address = said (codes "tls" ∷ hart_word hart ∷ object_word owner ∷ []) (hex_text address)

-- that a hart ran an object's constructors, or its destructors
abbrev pub ran_text : List ℕ → ℕ → ℕ → List ℕ
ran_text which hart object = said (which ∷ hart_word hart ∷ []) (object_word object)

abbrev pub wrote_text : ℕ → List ℕ → List ℕ
wrote_text hart bytes = said (codes "wrote" ∷ hart_word hart ∷ (codes "n=" ++ decimal (length bytes)) ∷ []) (flat_map byte_digits bytes)

abbrev pub ended_text : ℕ → HartEnd → List ℕ
ended_text hart end = said (codes "ended" ∷ hart_word hart ∷ []) (end_text end)

-- an event, without the line feed
unfoldable pub words_text : Event → List ℕ
words_text (events.Open hart ask answer) = open_text hart ask answer
words_text (events.Close hart handle answer) = close_text hart handle answer
words_text (events.Unmapped hart set) = unmapped_text hart set
words_text (events.Grant grant hart owner slot choice value) = grant_text grant hart owner slot choice value
words_text (events.Bound grant) = bound_text grant
words_text (events.Lost grant saw) = lost_text grant saw
words_text (events.Unresolved hart owner slot choice) = unresolved_event_text hart owner slot choice
words_text (events.Sym hart ask answer) = sym_text hart ask answer
words_text (events.Tls hart owner address) = block_text hart owner address
words_text (events.Init hart object) = ran_text (codes "init") hart object
words_text (events.Fini hart object) = ran_text (codes "fini") hart object
words_text (events.Wrote hart bytes) = wrote_text hart bytes
words_text (events.Told hart fault) = told_text hart fault
words_text (events.Ended hart end) = ended_text hart end

-- a line ends in a line feed
abbrev pub line_text : Event → List ℕ
line_text event = words_text event ++ 10 ∷ []

-- a grant has something to give, 0 by a weak symbol; what isn't there at all is no weak symbol's
abbrev pub IsSayable : Event → Type 0
IsSayable (events.Grant grant hart owner slot choice value) =
    elim choice [ choices.Def serial index ↦ Unit {0} | choices.WeakZero ↦ value ≡ 0 | choices.Missing ↦ ⊥ ]
IsSayable (events.Unresolved hart owner slot choice) = elim choice [ choices.Def serial index ↦ Unit {0} | choices.WeakZero ↦ ⊥ | choices.Missing ↦ Unit {0} ]
IsSayable other = Unit {0}
