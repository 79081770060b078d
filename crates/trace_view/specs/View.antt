-- A journal's text in one of its forms.
use Rattle.std.specs.Prelude.{ℕ, List, [], codes, flat_map, option_map, string_bytes}
use Rattle.history_event.specs.declared.event_line.EventLine.{EventLine}
use Rattle.history_event.specs.declared.event_line.EventLine.TheVariants as lines
use Rattle.trace_view.specs.declared.journal.Journal.{Journal}
use Rattle.trace_view.specs.declared.journal.Step.{Step}
use Rattle.trace_view.specs.declared.members.Member.{Member}
use Rattle.trace_view.specs.declared.shown.Form.{Form}
use Rattle.trace_view.specs.declared.shown.Form.TheVariants as forms
use Rattle.trace_view.specs.Graph.{graph_text}
use Rattle.trace_view.specs.Json.{json_text}
use Rattle.trace_view.specs.Picture.{picture_text}
use Rattle.trace_view.specs.Words.{words_text}

abbrev pub written_by : EventLine → List ℕ
written_by (lines.Wrote hart bytes) = bytes
written_by other = []

-- the bytes that the guest wrote, in order
abbrev pub said_text : List Step → List ℕ
said_text steps = flat_map (λ step. written_by step.event) steps

abbrev pub word_of : Form → List ℕ
word_of forms.Words = codes "text"
word_of forms.Said = codes "said"
word_of forms.Json = codes "json"
word_of forms.Graph = codes "dot"
word_of forms.Picture = codes "svg"

-- the text of a journal in a form
abbrev pub view_of : Form → List Member → Journal → List ℕ
view_of forms.Words members journal = words_text members journal.steps (option_map string_bytes journal.last)
view_of forms.Said members journal = said_text journal.steps
view_of forms.Json members journal = json_text members journal.steps (option_map string_bytes journal.last)
view_of forms.Graph members journal = graph_text members journal.steps
view_of forms.Picture members journal = picture_text members journal.steps
