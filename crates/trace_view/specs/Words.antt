-- Events in words.
use Rattle.std.specs.Prelude.{ℕ, ◌==◌, if◌then◌else◌, List, [], ◌∷◌, ◌++◌, codes, flat_map, Option, Some, None}
use Rattle.std.specs.Fmt.{decimal}
use Rattle.ld_base.specs.FaultText.{fault_text, hex_text}
use Rattle.ld_base.specs.Text.{name_text}
use Rattle.ld_base.specs.declared.fault.DlFault.{DlFault}
use Rattle.ld_base.specs.declared.linking.Choice.{Choice}
use Rattle.ld_base.specs.declared.linking.Choice.TheVariants as choices
use Rattle.history_event.specs.declared.event.CloseAnswer.{CloseAnswer}
use Rattle.history_event.specs.declared.event.CloseAnswer.TheVariants as closes
use Rattle.history_event.specs.declared.event.OpenAsk.{OpenAsk}
use Rattle.history_event.specs.declared.event.SymAnswer.{SymAnswer}
use Rattle.history_event.specs.declared.event.SymAnswer.TheVariants as syms
use Rattle.history_event.specs.declared.event.SymAsk.{SymAsk}
use Rattle.history_event.specs.declared.hart_end.HartEnd.{HartEnd}
use Rattle.history_event.specs.declared.event_line.EventLine.{EventLine}
use Rattle.history_event.specs.declared.event_line.EventLine.TheVariants as lines
use Rattle.history_event.specs.declared.event_line.NewLine.{NewLine}
use Rattle.history_event.specs.declared.event_line.OpenLine.{OpenLine}
use Rattle.history_event.specs.declared.event_line.OpenLine.TheVariants as opens
use Rattle.trace_text.specs.Ends.{end_text}
use Rattle.trace_view.specs.declared.journal.Made.{Made}
use Rattle.trace_view.specs.declared.journal.Step.{Step}
use Rattle.trace_view.specs.declared.members.Member.{Member}
use Rattle.trace_view.specs.Names.{choice_name, handle_name, news_text, object_name, objects_text, quoted, slot_name}

-- hart H, and what it does
abbrev pub by_hart : ℕ → List ℕ → List ℕ
by_hart hart does = codes "hart " ++ decimal hart ++ 32 ∷ does

-- ---- openings

abbrev pub asked_name : Option (List ℕ) → List ℕ
asked_name None = codes "the program"
asked_name (Some name) = name_text name

-- nothing is said of the base namespace
abbrev pub place_words : Option ℕ → List ℕ
place_words None = codes " in a new namespace"
place_words (Some ns) = if ns == 0 then [] else codes " in namespace " ++ decimal ns

-- new objects with their addresses; where there are none, what was loaded before
abbrev pub done_words : List Member → ℕ → List NewLine → List ℕ
done_words members root [] = object_name members root ++ codes ", which was loaded"
done_words members root (new ∷ news) = news_text (new ∷ news)

abbrev pub open_answer_words : List Member → OpenLine → List ℕ
open_answer_words members (opens.Done ns root added) = done_words members root added
open_answer_words members opens.Absent = codes "it isn't loaded"
open_answer_words members (opens.Refused fault) = codes "refused, " ++ fault_text fault

abbrev pub open_words : List Member → ℕ → OpenAsk → OpenLine → List ℕ
open_words members hart ask answer =
    by_hart hart (codes "opened " ++ asked_name ask.name ++ place_words ask.ns ++ codes ": " ++ open_answer_words members answer)

-- ---- closings

abbrev pub close_answer_words : List Member → CloseAnswer → List ℕ
close_answer_words members (closes.Done dying) = objects_text members dying ++ codes " will go"
close_answer_words members (closes.Refused fault) = codes "refused, " ++ fault_text fault

abbrev pub close_words : List Member → ℕ → ℕ → CloseAnswer → List ℕ
close_words members hart handle answer = by_hart hart (codes "closed " ++ handle_name members handle ++ codes ": " ++ close_answer_words members answer)

-- ---- slots

-- a call through a slot
abbrev pub call_words : List Member → ℕ → ℕ → List ℕ
call_words members owner slot = slot_name members owner slot ++ codes " from " ++ object_name members owner

abbrev pub no_code_words : Choice → List ℕ
no_code_words (choices.Def serial index) = codes " is no code"
no_code_words choices.WeakZero = []
no_code_words choices.Missing = []

unfoldable pub cannot_words : List Member → ℕ → ℕ → Choice → List ℕ
cannot_words members owner slot choice = codes "can't call " ++ call_words members owner slot ++ codes ": " ++ choice_name members choice

abbrev pub refused_words : List Member → ℕ → ℕ → ℕ → Choice → List ℕ
refused_words members hart owner slot choice = by_hart hart (cannot_words members owner slot choice ++ no_code_words choice)

-- a grant that is settled, with its hart, its slot and its definition
abbrev pub bound_words : List Member → Made → List ℕ
bound_words members made =
    by_hart made.hart (codes "bound its call of " ++ slot_name members made.owner made.slot ++ codes " to " ++ choice_name members made.choice)

unfoldable pub its_call_words : List Member → ℕ → ℕ → List ℕ
its_call_words members owner slot = codes "found its call of " ++ slot_name members owner slot

unfoldable pub bound_to_words : ℕ → List ℕ
bound_to_words saw = codes " bound to " ++ hex_text saw

abbrev pub found_words : List Member → ℕ → ℕ → ℕ → List ℕ
found_words members owner slot saw = its_call_words members owner slot ++ bound_to_words saw

abbrev pub lost_words : List Member → Made → ℕ → List ℕ
lost_words members made saw = by_hart made.hart (found_words members made.owner made.slot saw)

-- ---- look-ups

abbrev pub version_words : Option (List ℕ) → List ℕ
version_words None = []
version_words (Some version) = codes " of version " ++ name_text version

abbrev pub sym_answer_words : List Member → SymAnswer → List ℕ
sym_answer_words members (syms.Found serial index address) = choice_name members (choices.Def serial index) ++ codes ", " ++ hex_text address
sym_answer_words members (syms.Refused fault) = codes "refused, " ++ fault_text fault

unfoldable pub asked_words : List Member → SymAsk → List ℕ
asked_words members ask = codes "looked up " ++ name_text ask.name ++ version_words ask.version ++ codes " in " ++ handle_name members ask.handle ++ codes ": "

abbrev pub sym_words : List Member → ℕ → SymAsk → SymAnswer → List ℕ
sym_words members hart ask answer =
    by_hart hart (asked_words members ask ++ sym_answer_words members answer)

-- ---- events

abbrev pub told_words : ℕ → Option DlFault → List ℕ
told_words hart None = by_hart hart (codes "was told of no refusal")
told_words hart (Some fault) = by_hart hart (codes "was told " ++ fault_text fault)

unfoldable pub through_words : List Member → ℕ → ℕ → List ℕ
through_words members owner slot = codes "calls " ++ call_words members owner slot

unfoldable pub chosen_words : List Member → Choice → List ℕ
chosen_words members choice = codes ", and gets " ++ choice_name members choice

unfoldable pub value_words : ℕ → List ℕ
value_words value = codes ", " ++ hex_text value

abbrev pub gets_words : List Member → Choice → ℕ → List ℕ
gets_words members choice value = chosen_words members choice ++ value_words value

abbrev pub calls_words : List Member → ℕ → ℕ → Choice → ℕ → List ℕ
calls_words members owner slot choice value = through_words members owner slot ++ gets_words members choice value

unfoldable pub block_words : List Member → ℕ → ℕ → List ℕ
block_words members owner address = codes "got its block of " ++ object_name members owner ++ codes " at " ++ hex_text address

unfoldable pub ran_words : List Member → List ℕ → ℕ → List ℕ
ran_words members which object = codes "ran the " ++ which ++ codes " of " ++ object_name members object

unfoldable pub saw_words : ℕ → ℕ → List ℕ
saw_words grant saw = codes "grant " ++ decimal grant ++ codes " is lost to " ++ hex_text saw

abbrev pub unmapped_words : List Member → ℕ → List ℕ → List ℕ
unmapped_words members hart set = by_hart hart (codes "unmapped " ++ objects_text members set)

abbrev pub wrote_words : ℕ → List ℕ → List ℕ
wrote_words hart bytes = by_hart hart (codes "wrote " ++ quoted bytes)

abbrev pub ended_words : ℕ → HartEnd → List ℕ
ended_words hart end = by_hart hart (codes "ended: " ++ end_text end)

abbrev pub binding_words : ℕ → List ℕ
binding_words grant = codes "grant " ++ decimal grant ++ codes " is bound"

-- for the writer of this crate alone: what an event of a slot says by itself; of any other nothing
abbrev pub slot_event_words : List Member → EventLine → List ℕ
slot_event_words members (lines.Grant grant hart owner slot choice value) = by_hart hart (calls_words members owner slot choice value)
slot_event_words members (lines.Bound grant) = binding_words grant
slot_event_words members (lines.Lost grant saw) = saw_words grant saw
slot_event_words members (lines.Unresolved hart owner slot choice) = refused_words members hart owner slot choice
slot_event_words members other = []

-- what an event says by itself
unfoldable pub event_words : List Member → EventLine → List ℕ
event_words members (lines.Open hart ask answer) = open_words members hart ask answer
event_words members (lines.Close hart handle answer) = close_words members hart handle answer
event_words members (lines.Unmapped hart set) = unmapped_words members hart set
event_words members (lines.Grant grant hart owner slot choice value) = by_hart hart (calls_words members owner slot choice value)
event_words members (lines.Bound grant) = binding_words grant
event_words members (lines.Lost grant saw) = saw_words grant saw
event_words members (lines.Unresolved hart owner slot choice) = refused_words members hart owner slot choice
event_words members (lines.Sym hart ask answer) = sym_words members hart ask answer
event_words members (lines.Tls hart owner address) = by_hart hart (block_words members owner address)
event_words members (lines.Init hart object) = by_hart hart (ran_words members (codes "constructors") object)
event_words members (lines.Fini hart object) = by_hart hart (ran_words members (codes "destructors") object)
event_words members (lines.Wrote hart bytes) = wrote_words hart bytes
event_words members (lines.Told hart fault) = told_words hart fault
event_words members (lines.Ended hart end) = ended_words hart end

-- what settles a grant is told by that grant, where it is known
abbrev pub settled_words : List Member → EventLine → Made → List ℕ
settled_words members (lines.Bound grant) made = bound_words members made
settled_words members (lines.Lost grant saw) made = lost_words members made saw
settled_words members event made = event_words members event

abbrev pub words_by : List Member → EventLine → Option Made → List ℕ
words_by members event None = event_words members event
words_by members event (Some made) = settled_words members event made

unfoldable pub step_words : List Member → Step → List ℕ
step_words members step = words_by members step.event step.grant

-- ---- the text

abbrev pub last_words : Option (List ℕ) → List ℕ
last_words None = []
last_words (Some last) = codes "the run ended: " ++ last ++ 10 ∷ []

-- a line an event, and one of the run's end where it is said
abbrev pub words_text : List Member → List Step → Option (List ℕ) → List ℕ
words_text members steps last = flat_map (λ step. step_words members step ++ 10 ∷ []) steps ++ last_words last
