-- The line of an event, by what the line says of it.
use Rattle.std.specs.Prelude.{◌≡◌, ℕ, List, [], ◌∷◌, ◌++◌, flat_map, length, codes}
use Rattle.std.specs.Fmt.{decimal}
use Rattle.ld_base.specs.FaultText.{hex_text}
use Rattle.ld_base.specs.Text.{name_text, name_or_none}
use Rattle.history_event.specs.declared.event.OpenAsk.{OpenAsk}
use Rattle.history_event.specs.declared.event_line.EventLine.{EventLine}
use Rattle.history_event.specs.declared.event_line.EventLine.TheVariants as lines
use Rattle.history_event.specs.declared.event_line.NewLine.{NewLine}
use Rattle.history_event.specs.declared.event_line.OpenLine.{OpenLine}
use Rattle.history_event.specs.declared.event_line.OpenLine.TheVariants as opens
use Rattle.trace_text.specs.Said.{said, hart_word, object_word}
use Rattle.trace_text.specs.Lists.{place_text, byte_digits}
use Rattle.trace_text.specs.Ends.{end_text}
use Rattle.trace_text.specs.Lines.{refused_text, asked_text, close_answer_text, sym_text, granted_text, unresolved_text, grant_word, slot_word}
use Rattle.trace_text.specs.Lines.{told_text, unmapped_text}
use Rattle.trace_read.specs.Fits.{IsWritable}

-- a new object: its serial, its path, where it is mapped, and its module
abbrev pub new_line_text : NewLine → List ℕ
new_line_text o = decimal o.serial ++ 58 ∷ name_text o.path ++ 64 ∷ hex_text o.base ++ place_text o.«module»

abbrev pub new_lines_text : List NewLine → List ℕ
new_lines_text [] = 45 ∷ []
new_lines_text (o ∷ os) = new_line_text o ++ flat_map (λ n. 44 ∷ new_line_text n) os

abbrev pub open_line_text : OpenLine → List ℕ
open_line_text (opens.Done ns root added) =
    said (codes "ok" ∷ (codes "in=" ++ decimal ns) ∷ (codes "root=" ++ decimal root) ∷ []) (codes "new=" ++ new_lines_text added)
open_line_text opens.Absent = codes "absent"
open_line_text (opens.Refused fault) = refused_text fault

abbrev pub open_words : ℕ → OpenAsk → OpenLine → List ℕ
open_words hart ask answer =
    said (codes "open" ∷ hart_word hart ∷ (codes "ns=" ++ asked_text ask.ns) ∷ (codes "name=" ++ name_or_none ask.name) ∷
    (codes "flags=" ++ hex_text ask.flags) ∷ [])
    (open_line_text answer)

-- an event, without the line feed
unfoldable pub words_of : EventLine → List ℕ
words_of (lines.Open hart ask answer) = open_words hart ask answer
words_of (lines.Close hart handle answer) = said (codes "close" ∷ hart_word hart ∷ (codes "handle=" ++ hex_text handle) ∷ []) (close_answer_text answer)
words_of (lines.Unmapped hart set) = unmapped_text hart set
words_of (lines.Grant grant hart owner slot choice value) =
    said (codes "grant" ∷ grant_word grant ∷ hart_word hart ∷ object_word owner ∷ slot_word slot ∷ codes "->" ∷ []) (granted_text choice value)
words_of (lines.Bound grant) = said (codes "bound" ∷ []) (grant_word grant)
words_of (lines.Lost grant saw) = said (codes "lost" ∷ grant_word grant ∷ []) (codes "saw=" ++ hex_text saw)
words_of (lines.Unresolved hart owner slot choice) =
    said (codes "unresolved" ∷ hart_word hart ∷ object_word owner ∷ slot_word slot ∷ []) (unresolved_text choice)
words_of (lines.Sym hart ask answer) = sym_text hart ask answer
words_of (lines.Tls hart owner address) = said (codes "tls" ∷ hart_word hart ∷ object_word owner ∷ []) (hex_text address)
words_of (lines.Init hart object) = said (codes "init" ∷ hart_word hart ∷ []) (object_word object)
words_of (lines.Fini hart object) = said (codes "fini" ∷ hart_word hart ∷ []) (object_word object)
words_of (lines.Wrote hart bytes) = said (codes "wrote" ∷ hart_word hart ∷ (codes "n=" ++ decimal (length bytes)) ∷ []) (flat_map byte_digits bytes)
words_of (lines.Told hart fault) = told_text hart fault
words_of (lines.Ended hart end) = said (codes "ended" ∷ hart_word hart ∷ []) (end_text end)

-- a line ends in a line feed
abbrev pub line_of : EventLine → List ℕ
line_of event = words_of event ++ 10 ∷ []

-- the event has this line
pub record HasLine (line : List ℕ) (event : EventLine) : Type 0 where
  pub fits : IsWritable event
  pub text : line ≡ line_of event
