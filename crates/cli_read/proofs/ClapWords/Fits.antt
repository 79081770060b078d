-- The arguments of each form, once they are built.
use Rattle.std.proofs.Common.{◌≡◌, true, false, List, [], ◌∷◌, Some, None, codes, refl, sym}
use Rattle.std.specs.Bool.{⊤}
use Rattle.std.specs.List.{list_all}
use Rattle.std.specs.Str.{bytes_eq}
use Rattle.std.proofs.lemmas.Bool.{true≢false}
use Rattle.clap.specs.Simple.{built, is_simple}
use Rattle.clap.specs.Takes.{default_passes, is_valid}
use Rattle.clap.specs.Walk.{Row, Rule, Text}
use Rattle.cli_words.specs.declared.switch.Switch.{Switch}
use Rattle.cli_words.specs.declared.switch.Switch.TheVariants as switches
use Rattle.cli_words.specs.Options.{has_value}
use Rattle.cli_read.specs.declared.clap_words.form.Form.{Form}
use Rattle.cli_read.specs.declared.clap_words.form.Form.TheVariants as forms
use Rattle.cli_read.specs.ClapWords.Forms.{app_of, id_of, names_of, options_of}
use Rattle.cli_read.proofs.ClapWords.Found.{is_quiet}
use Rattle.cli_read.proofs.ClapWords.Rows.{AreApart}
use Rattle.cli_read.proofs.ClapWords.Walks.{FindsOptions, FindsWords}

abbrev pub rules_of : Form → Text → List Rule
rules_of form name = (built (app_of name form)).top.rules

abbrev pub AreQuiet : List Text → List Rule → Type 0
AreQuiet [] rules = ⊤
AreQuiet (name ∷ names) rules = (list_all (is_quiet name) rules ≡ true) × AreQuiet names rules

pub record Fits (form : Form) (name : Text) : Type 0 where
  pub simple : is_simple (app_of name form) ≡ true
  pub alone : (built (app_of name form)).subs ≡ []
  pub options : FindsOptions (rules_of form name) (options_of form)
  pub words : FindsWords (rules_of form name) 0 (names_of form)
  pub apart : AreApart (names_of form)
  pub defaults : list_all default_passes (rules_of form name) ≡ true
  pub valid : (rs : List Row) → is_valid (built (app_of name form)).top rs false ≡ true
  -- no option with a value, and no other word, has a default
  pub quiet : (c : Switch) → has_value c ≡ true → list_all (is_quiet (id_of c)) (rules_of form name) ≡ true
  pub quiet_words : AreQuiet (names_of form) (rules_of form name)

none_some : {A X : Type 0} (x : X) → None ≡ Some x → A
none_some x e = let d : None ≡ Some x = e in absurd cc

no_value : {A : Type 0} → false ≡ true → A
no_value e = absurd (true≢false (sym e))

-- ---- options

bind_options : (name : Text) → FindsOptions (rules_of forms.Bind name) (options_of forms.Bind)
bind_options name switches.Lib is = (refl, refl)
bind_options name switches.Preload is = (refl, refl)
bind_options name switches.Harts is = none_some switches.Harts is
bind_options name switches.Fuel is = none_some switches.Fuel is
bind_options name switches.Now is = (refl, refl)
bind_options name switches.Trace is = none_some switches.Trace is

turns_options : (name : Text) → FindsOptions (rules_of forms.Turns name) (options_of forms.Turns)
turns_options name switches.Lib is = (refl, refl)
turns_options name switches.Preload is = (refl, refl)
turns_options name switches.Harts is = (refl, refl)
turns_options name switches.Fuel is = (refl, refl)
turns_options name switches.Now is = (refl, refl)
turns_options name switches.Trace is = none_some switches.Trace is

run_options : (name : Text) → FindsOptions (rules_of forms.Run name) (options_of forms.Run)
run_options name switches.Lib is = (refl, refl)
run_options name switches.Preload is = (refl, refl)
run_options name switches.Harts is = (refl, refl)
run_options name switches.Fuel is = (refl, refl)
run_options name switches.Now is = (refl, refl)
run_options name switches.Trace is = (refl, refl)

check_options : (name : Text) → FindsOptions (rules_of forms.Check name) (options_of forms.Check)
check_options name switches.Lib is = (refl, refl)
check_options name switches.Preload is = none_some switches.Preload is
check_options name switches.Harts is = none_some switches.Harts is
check_options name switches.Fuel is = none_some switches.Fuel is
check_options name switches.Now is = none_some switches.Now is
check_options name switches.Trace is = none_some switches.Trace is

-- ---- names

-- a name is none of the options'
abbrev IsApart : Text → Type 0
IsApart name = (c : Switch) → (bytes_eq (id_of c) name ≡ false) × (bytes_eq name (id_of c) ≡ false)

program_apart : IsApart (codes "program")
program_apart switches.Lib = (refl, refl)
program_apart switches.Preload = (refl, refl)
program_apart switches.Harts = (refl, refl)
program_apart switches.Fuel = (refl, refl)
program_apart switches.Now = (refl, refl)
program_apart switches.Trace = (refl, refl)

schedule_apart : IsApart (codes "schedule")
schedule_apart switches.Lib = (refl, refl)
schedule_apart switches.Preload = (refl, refl)
schedule_apart switches.Harts = (refl, refl)
schedule_apart switches.Fuel = (refl, refl)
schedule_apart switches.Now = (refl, refl)
schedule_apart switches.Trace = (refl, refl)

path_apart : IsApart (codes "path")
path_apart switches.Lib = (refl, refl)
path_apart switches.Preload = (refl, refl)
path_apart switches.Harts = (refl, refl)
path_apart switches.Fuel = (refl, refl)
path_apart switches.Now = (refl, refl)
path_apart switches.Trace = (refl, refl)

number_apart : IsApart (codes "number")
number_apart switches.Lib = (refl, refl)
number_apart switches.Preload = (refl, refl)
number_apart switches.Harts = (refl, refl)
number_apart switches.Fuel = (refl, refl)
number_apart switches.Now = (refl, refl)
number_apart switches.Trace = (refl, refl)

alone : (name : Text) → IsApart name → AreApart (name ∷ [])
alone name apart = (λ c. (apart c).0, λ c. (apart c).1, refl, tt)

both : AreApart (codes "schedule" ∷ codes "program" ∷ [])
both = (λ c. (schedule_apart c).0, λ c. (schedule_apart c).1, refl, alone (codes "program") program_apart)

-- ---- quiet arguments

bind_quiet : (name : Text) (c : Switch) → has_value c ≡ true → list_all (is_quiet (id_of c)) (rules_of forms.Bind name) ≡ true
bind_quiet name switches.Lib valued = refl
bind_quiet name switches.Preload valued = refl
bind_quiet name switches.Harts valued = refl
bind_quiet name switches.Fuel valued = refl
bind_quiet name switches.Now valued = no_value valued
bind_quiet name switches.Trace valued = no_value valued

turns_quiet : (name : Text) (c : Switch) → has_value c ≡ true → list_all (is_quiet (id_of c)) (rules_of forms.Turns name) ≡ true
turns_quiet name switches.Lib valued = refl
turns_quiet name switches.Preload valued = refl
turns_quiet name switches.Harts valued = refl
turns_quiet name switches.Fuel valued = refl
turns_quiet name switches.Now valued = no_value valued
turns_quiet name switches.Trace valued = no_value valued

run_quiet : (name : Text) (c : Switch) → has_value c ≡ true → list_all (is_quiet (id_of c)) (rules_of forms.Run name) ≡ true
run_quiet name switches.Lib valued = refl
run_quiet name switches.Preload valued = refl
run_quiet name switches.Harts valued = refl
run_quiet name switches.Fuel valued = refl
run_quiet name switches.Now valued = no_value valued
run_quiet name switches.Trace valued = no_value valued

check_quiet : (name : Text) (c : Switch) → has_value c ≡ true → list_all (is_quiet (id_of c)) (rules_of forms.Check name) ≡ true
check_quiet name switches.Lib valued = refl
check_quiet name switches.Preload valued = refl
check_quiet name switches.Harts valued = refl
check_quiet name switches.Fuel valued = refl
check_quiet name switches.Now valued = no_value valued
check_quiet name switches.Trace valued = no_value valued

path_quiet : (name : Text) (c : Switch) → has_value c ≡ true → list_all (is_quiet (id_of c)) (rules_of forms.Path name) ≡ true
path_quiet name switches.Lib valued = refl
path_quiet name switches.Preload valued = refl
path_quiet name switches.Harts valued = refl
path_quiet name switches.Fuel valued = refl
path_quiet name switches.Now valued = no_value valued
path_quiet name switches.Trace valued = no_value valued

number_quiet : (name : Text) (c : Switch) → has_value c ≡ true → list_all (is_quiet (id_of c)) (rules_of forms.Number name) ≡ true
number_quiet name switches.Lib valued = refl
number_quiet name switches.Preload valued = refl
number_quiet name switches.Harts valued = refl
number_quiet name switches.Fuel valued = refl
number_quiet name switches.Now valued = no_value valued
number_quiet name switches.Trace valued = no_value valued

-- ---- forms

pub fits : (form : Form) (name : Text) → Fits form name
fits forms.Bind name = record { simple = refl; alone = refl; options = bind_options name; words = (refl, refl, refl, tt); apart = alone (codes "program") program_apart; defaults = refl; valid = λ rs. refl; quiet = bind_quiet name; quiet_words = (refl, tt) }
fits forms.Turns name = record { simple = refl; alone = refl; options = turns_options name; words = (refl, refl, refl, (refl, refl, refl, tt)); apart = both; defaults = refl; valid = λ rs. refl; quiet = turns_quiet name; quiet_words = (refl, (refl, tt)) }
fits forms.Run name = record { simple = refl; alone = refl; options = run_options name; words = (refl, refl, refl, tt); apart = alone (codes "program") program_apart; defaults = refl; valid = λ rs. refl; quiet = run_quiet name; quiet_words = (refl, tt) }
fits forms.Check name = record { simple = refl; alone = refl; options = check_options name; words = (refl, refl, refl, tt); apart = alone (codes "path") path_apart; defaults = refl; valid = λ rs. refl; quiet = check_quiet name; quiet_words = (refl, tt) }
fits forms.Path name = record { simple = refl; alone = refl; options = λ x is. none_some x is; words = (refl, refl, refl, tt); apart = alone (codes "path") path_apart; defaults = refl; valid = λ rs. refl; quiet = path_quiet name; quiet_words = (refl, tt) }
fits forms.Number name = record { simple = refl; alone = refl; options = λ x is. none_some x is; words = (refl, refl, refl, tt); apart = alone (codes "number") number_apart; defaults = refl; valid = λ rs. refl; quiet = number_quiet name; quiet_words = (refl, tt) }
