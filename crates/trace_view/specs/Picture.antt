-- A journal as a picture in SVG.
use Rattle.std.specs.Prelude.{ℕ, ◌+◌, ◌-◌, ◌*◌, ◌/◌, ◌==◌, if◌then◌else◌, List, [], ◌∷◌, ◌++◌, codes, flat_map, fold, length, Option, Some, None, option_map}
use Rattle.std.specs.Fmt.{decimal}
use Rattle.std.specs.List.{find, list_any}
use Rattle.history_event.specs.declared.event_line.EventLine.{EventLine}
use Rattle.history_event.specs.declared.event_line.EventLine.TheVariants as lines
use Rattle.trace_view.specs.declared.journal.Made.{Made}
use Rattle.trace_view.specs.declared.journal.Step.{Step}
use Rattle.trace_view.specs.declared.members.Member.{Member}
use Rattle.trace_view.specs.declared.picture.Lane.{Lane}
use Rattle.trace_view.specs.Names.{is_visible}
use Rattle.trace_view.specs.Words.{step_words}

-- ---- texts in XML

-- a visible character or a space, escaped where XML reads it otherwise; any other byte is a question mark
abbrev pub xml_byte : ℕ → List ℕ
xml_byte byte =
    if byte == 38 then codes "&amp;"
    else if byte == 60 then codes "&lt;"
    else if byte == 62 then codes "&gt;"
    else if byte == 34 then codes "&quot;"
    else if is_visible byte then byte ∷ []
    else codes "?"

-- ---- lanes

abbrev pub hart_by : EventLine → Option Made → Option ℕ
hart_by (lines.Open hart ask answer) made = Some hart
hart_by (lines.Close hart handle answer) made = Some hart
hart_by (lines.Unmapped hart set) made = Some hart
hart_by (lines.Grant grant hart owner slot choice value) made = Some hart
hart_by (lines.Bound grant) made = option_map (λ m. m.hart) made
hart_by (lines.Lost grant saw) made = option_map (λ m. m.hart) made
hart_by (lines.Unresolved hart owner slot choice) made = Some hart
hart_by (lines.Sym hart ask answer) made = Some hart
hart_by (lines.Tls hart owner address) made = Some hart
hart_by (lines.Init hart object) made = Some hart
hart_by (lines.Fini hart object) made = Some hart
hart_by (lines.Wrote hart bytes) made = Some hart
hart_by (lines.Told hart fault) made = Some hart
hart_by (lines.Ended hart end) made = Some hart

-- the hart of an event; of one that settles a grant, the grant's
unfoldable pub hart_of : Step → Option ℕ
hart_of step = hart_by step.event step.grant

abbrev pub with_hart : List Lane → Option ℕ → List Lane
with_hart lanes None = lanes
with_hart lanes (Some hart) =
    if list_any (λ lane. lane.hart == hart) lanes then lanes else lanes ++ record { place = length lanes; hart = hart } ∷ []

-- one a hart, in the order of their first events
abbrev pub lanes_of : List Step → List Lane
lanes_of steps = fold (λ lanes step. with_hart lanes (hart_of step)) [] steps

abbrev pub place_of : Option Lane → ℕ
place_of None = 0
place_of (Some lane) = lane.place

abbrev pub lane_for : List Lane → ℕ → Option Lane
lane_for lanes hart = find (λ lane. lane.hart == hart) lanes

unfoldable pub lane_of : List Lane → Option ℕ → ℕ
lane_of lanes None = 0
lane_of lanes (Some hart) = place_of (lane_for lanes hart)

-- ---- places

abbrev pub x_of : ℕ → ℕ
x_of place = 30 + 24 * place

abbrev pub y_of : ℕ → ℕ
y_of row = 50 + 20 * row

-- ---- what is drawn

abbrev pub head_text : ℕ → ℕ → List ℕ
head_text x hart = codes "<text x=\"" ++ decimal x ++ codes "\" y=\"24\" text-anchor=\"middle\">" ++ decimal hart ++ codes "</text>"

abbrev pub line_text : ℕ → ℕ → List ℕ
line_text x bottom =
    codes "<line x1=\"" ++ decimal x ++ codes "\" y1=\"32\" x2=\"" ++ decimal x ++ codes "\" y2=\"" ++ decimal bottom ++ codes "\" stroke=\"#d0d7de\"/>\n"

-- the line of a hart, with its number at the head
abbrev pub lane_text : ℕ → Lane → List ℕ
lane_text rows lane = head_text (x_of lane.place) lane.hart ++ line_text (x_of lane.place) (y_of rows)

-- blue: objects come and go; orange, green, red: a slot is asked for, is bound, is not; purple: constructors and destructors
abbrev pub colour_of : EventLine → List ℕ
colour_of (lines.Open hart ask answer) = codes "#0550ae"
colour_of (lines.Close hart handle answer) = codes "#0550ae"
colour_of (lines.Unmapped hart set) = codes "#0550ae"
colour_of (lines.Grant grant hart owner slot choice value) = codes "#bc4c00"
colour_of (lines.Bound grant) = codes "#1a7f37"
colour_of (lines.Lost grant saw) = codes "#cf222e"
colour_of (lines.Unresolved hart owner slot choice) = codes "#cf222e"
colour_of (lines.Sym hart ask answer) = codes "#57606a"
colour_of (lines.Tls hart owner address) = codes "#57606a"
colour_of (lines.Init hart object) = codes "#8250df"
colour_of (lines.Fini hart object) = codes "#8250df"
colour_of (lines.Wrote hart bytes) = codes "#57606a"
colour_of (lines.Told hart fault) = codes "#57606a"
colour_of (lines.Ended hart end) = codes "#57606a"

unfoldable pub path_start : ℕ → ℕ → List ℕ
path_start x from = codes "<path d=\"M" ++ decimal x ++ codes " " ++ decimal from

unfoldable pub path_bend : ℕ → ℕ → ℕ → ℕ → List ℕ
path_bend left middle x to = codes "Q" ++ decimal left ++ codes " " ++ decimal middle ++ codes " " ++ decimal x ++ codes " " ++ decimal to ++ codes "\""

unfoldable pub stroke_text : List ℕ → List ℕ
stroke_text colour = codes " fill=\"none\" stroke=\"" ++ colour ++ codes "\"/>\n"

abbrev pub curve_text : ℕ → ℕ → ℕ → ℕ → ℕ → List ℕ → List ℕ
curve_text x left from middle to colour = path_start x from ++ path_bend left middle x to ++ stroke_text colour

abbrev pub arc_from : ℕ → List ℕ → ℕ → Option Made → List ℕ
arc_from x colour row None = []
arc_from x colour row (Some made) = curve_text x (x - 16) (y_of made.row) ((y_of made.row + y_of row) / 2) (y_of row) colour

-- from the row of a grant to that in which it is settled
unfoldable pub arc_text : ℕ → Step → List ℕ
arc_text x step = arc_from x (colour_of step.event) step.row step.grant

unfoldable pub circle_x : ℕ → List ℕ
circle_x x = codes "<circle cx=\"" ++ decimal x ++ codes "\""

unfoldable pub circle_y : ℕ → List ℕ
circle_y y = codes " cy=\"" ++ decimal y ++ codes "\" r=\"4\""

abbrev pub circle_text : ℕ → ℕ → List ℕ
circle_text x y = circle_x x ++ circle_y y

unfoldable pub fill_text : List ℕ → List ℕ
fill_text colour = codes " fill=\"" ++ colour ++ codes "\"/>"

abbrev pub mark_text : ℕ → ℕ → List ℕ → List ℕ
mark_text x y colour = circle_text x y ++ fill_text colour

unfoldable pub label_text : ℕ → ℕ → List ℕ → List ℕ → List ℕ
label_text x y colour words =
    codes "<text x=\"" ++ decimal x ++ codes "\" y=\"" ++ decimal y ++ codes "\" fill=\"" ++ colour ++ codes "\">"
    ++ flat_map xml_byte words ++ codes "</text>\n"

-- the mark of an event in the lane of its hart, and its words behind all lanes
unfoldable pub row_text : List Member → List Lane → Step → List ℕ
row_text members lanes step =
    arc_text (x_of (lane_of lanes (hart_of step))) step
    ++ mark_text (x_of (lane_of lanes (hart_of step))) (y_of step.row) (colour_of step.event)
    ++ label_text (x_of (length lanes)) (y_of step.row + 4) (colour_of step.event) (step_words members step)

unfoldable pub opening_text : List ℕ
opening_text = codes "<svg xmlns=\"http://www.w3.org/2000/svg\""

unfoldable pub size_text : ℕ → ℕ → List ℕ
size_text width height = codes " width=\"" ++ decimal width ++ codes "\" height=\"" ++ decimal height ++ codes "\""

unfoldable pub ground_text : List ℕ
ground_text = codes " font-family=\"monospace\" font-size=\"12\">\n<rect width=\"100%\" height=\"100%\" fill=\"#ffffff\"/>\n"

abbrev pub start_text : ℕ → ℕ → List ℕ
start_text width height = opening_text ++ size_text width height ++ ground_text

abbrev pub picture_of : List Member → List Step → List Lane → List ℕ
picture_of members steps lanes =
    start_text (x_of (length lanes) + 960) (y_of (length steps))
    ++ flat_map (lane_text (length steps)) lanes ++ flat_map (row_text members lanes) steps ++ codes "</svg>\n"

abbrev pub picture_text : List Member → List Step → List ℕ
picture_text members steps = picture_of members steps (lanes_of steps)
