-- The arguments of each form.
use Rattle.std.specs.Prelude.{true, if◌then◌else◌, List, [], ◌∷◌, ◌++◌, map, Some, codes}
use Rattle.clap.specs.Simple.{App, Shape, new_rule, new_shape}
use Rattle.clap.specs.Walk.{Rule, Text}
use Rattle.clap.specs.declared.builder.action.ArgAction.{ArgAction}
use Rattle.clap.specs.declared.builder.action.ArgAction.TheVariants.{Set, SetTrue}
use Rattle.cli_words.specs.declared.switch.Switch.{Switch}
use Rattle.cli_words.specs.declared.switch.Switch.TheVariants as switches
use Rattle.cli_words.specs.Options.{has_value}
use Rattle.cli_words.specs.Reads.{bind_options, check_options, run_options, turns_options}
use Rattle.cli_read.specs.declared.clap_words.form.Form.{Form}
use Rattle.cli_read.specs.declared.clap_words.form.Form.TheVariants as forms

-- ---- what a form has

abbrev pub options_of : Form → List Switch
options_of forms.Bind = bind_options
options_of forms.Turns = turns_options
options_of forms.Run = run_options
options_of forms.Check = check_options
options_of forms.Path = []
options_of forms.Number = []

-- what its other words are called
abbrev pub names_of : Form → List Text
names_of forms.Bind = codes "program" ∷ []
names_of forms.Turns = codes "schedule" ∷ codes "program" ∷ []
names_of forms.Run = codes "program" ∷ []
names_of forms.Check = codes "path" ∷ []
names_of forms.Path = codes "path" ∷ []
names_of forms.Number = codes "number" ∷ []

-- ---- arguments

-- an option's name without its dashes
abbrev pub id_of : Switch → Text
id_of switches.Lib = codes "lib"
id_of switches.Preload = codes "preload"
id_of switches.Harts = codes "harts"
id_of switches.Fuel = codes "fuel"
id_of switches.Now = codes "now"
id_of switches.Trace = codes "trace"

abbrev pub action_for : Switch → ArgAction
action_for c = if has_value c then Set else SetTrue

-- an option of one value, or a flag
abbrev pub option_rule : Switch → Rule
option_rule c = record (new_rule (id_of c)) { long = Some (id_of c); action = Some (action_for c) }

abbrev pub rules_of : Form → List Rule
rules_of form = map option_rule (options_of form) ++ map new_rule (names_of form)

-- the options and the other words, without a help flag
abbrev pub shape_of : Text → Form → Shape
shape_of name form = record (new_shape name) { rules = rules_of form; disable_help_flag = true }

abbrev pub app_of : Text → Form → App
app_of name form = record { top = shape_of name form; subs = [] }
