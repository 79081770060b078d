-- A journal as a graph in DOT.
use Rattle.std.specs.Prelude.{ℕ, ◌-◌, ◌==◌, nat_le, Bool, true, false, ◌&&◌, ◌||◌, if◌then◌else◌, List, [], ◌∷◌, ◌++◌, codes, flat_map, length, take, drop, Option, Some, None}
use Rattle.std.specs.Fmt.{decimal}
use Rattle.std.specs.List.{find}
use Rattle.std.specs.Str.{bytes_eq}
use Rattle.ld_base.specs.FaultText.{hex_text}
use Rattle.ld_base.specs.Text.{name_text}
use Rattle.ld_base.specs.declared.linking.Choice.{Choice}
use Rattle.ld_base.specs.declared.linking.Choice.TheVariants as choices
use Rattle.ld_base.specs.declared.object.Object.{Object}
use Rattle.history_event.specs.declared.event_line.EventLine.{EventLine}
use Rattle.history_event.specs.declared.event_line.EventLine.TheVariants as lines
use Rattle.trace_view.specs.declared.journal.Made.{Made}
use Rattle.trace_view.specs.declared.journal.Step.{Step}
use Rattle.trace_view.specs.declared.members.Member.{Member}
use Rattle.trace_view.specs.Names.{is_visible, slot_name}

-- a visible character or a space in a quoted string, escaped where DOT reads it otherwise; any other byte is a question mark
abbrev pub dot_byte : ℕ → List ℕ
dot_byte byte =
    if byte == 34 then codes "\\\""
    else if byte == 92 then codes "\\\\"
    else if is_visible byte then byte ∷ []
    else codes "?"

-- ---- objects

unfoldable pub node_start : ℕ → List ℕ
node_start serial = codes "  o" ++ decimal serial ++ codes " [label=\"" ++ decimal serial ++ codes " "

unfoldable pub node_end : ℕ → ℕ → List ℕ
node_end ns base = codes "\\nnamespace " ++ decimal ns ++ codes ", " ++ hex_text base ++ codes "\"];\n"

abbrev pub node_text : Member → List ℕ
node_text m = node_start m.serial ++ flat_map dot_byte (name_text m.path) ++ node_end m.ns m.base

-- ---- who needs whom

abbrev pub is_empty_or_folder : List ℕ → Bool
is_empty_or_folder front = if length front == 0 then true else bytes_eq (drop (length front - 1) front) (47 ∷ [])

-- the last part of the path
unfoldable pub is_file_name : List ℕ → List ℕ → Bool
is_file_name path name =
    if nat_le (length name) (length path) && bytes_eq (drop (length path - length name) path) name
    then is_empty_or_folder (take (length path - length name) path)
    else false

abbrev pub has_soname : Option (List ℕ) → List ℕ → Bool
has_soname None name = false
has_soname (Some soname) name = bytes_eq soname name

abbrev pub names_itself : Option Object → List ℕ → Bool
names_itself None name = false
names_itself (Some object) name = has_soname object.soname name

-- by its own name, or by its file's
unfoldable pub is_called : Member → List ℕ → Bool
is_called m name = names_itself m.object name || is_file_name m.path name

abbrev pub provider_of : List Member → ℕ → List ℕ → Option Member
provider_of members ns name = find (λ m. m.ns == ns && is_called m name) members

unfoldable pub edge_ends : ℕ → ℕ → List ℕ
edge_ends from to = codes "  o" ++ decimal from ++ codes " -> o" ++ decimal to

abbrev pub edge_to : ℕ → Option Member → List ℕ
edge_to serial None = []
edge_to serial (Some provider) = edge_ends serial provider.serial ++ codes " [style=dashed, color=gray];\n"

-- to the first object of its namespace that is called so, where there is one
abbrev pub need_edge : List Member → Member → List ℕ → List ℕ
need_edge members m name = edge_to m.serial (provider_of members m.ns name)

abbrev pub needs_by : List Member → Member → Option Object → List ℕ
needs_by members m None = []
needs_by members m (Some object) = flat_map (need_edge members m) object.needed

abbrev pub needs_of : List Member → Member → List ℕ
needs_of members m = needs_by members m m.object

-- ---- which slot was bound to whom

abbrev pub slot_label : List Member → ℕ → ℕ → List ℕ
slot_label members owner slot = codes " [label=\"" ++ flat_map dot_byte (slot_name members owner slot) ++ codes "\"];\n"

abbrev pub edge_by : List Member → Made → Choice → List ℕ
edge_by members made (choices.Def serial index) = edge_ends made.owner serial ++ slot_label members made.owner made.slot
edge_by members made choices.WeakZero = []
edge_by members made choices.Missing = []

abbrev pub bound_edge : List Member → Made → List ℕ
bound_edge members made = edge_by members made made.choice

abbrev pub edge_if_bound : List Member → EventLine → Option Made → List ℕ
edge_if_bound members (lines.Bound grant) (Some made) = bound_edge members made
edge_if_bound members event made = []

unfoldable pub edge_text : List Member → Step → List ℕ
edge_text members step = edge_if_bound members step.event step.grant

-- ---- the graph

unfoldable pub graph_start : List ℕ
graph_start = codes "digraph run {\n  rankdir=LR;\n  node [shape=box];\n  o0 [label=\"ldso\"];\n"

abbrev pub graph_text : List Member → List Step → List ℕ
graph_text members steps =
    graph_start ++ flat_map (λ m. node_text m ++ needs_of members m) members ++ flat_map (edge_text members) steps ++ codes "}\n"
