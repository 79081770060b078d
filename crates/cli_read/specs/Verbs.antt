-- The own words of commands.
use Rattle.std.specs.Prelude.{ℕ, if◌then◌else◌, List, Option, Some, None, codes}
use Rattle.std.specs.Str.{bytes_eq}
use Rattle.cli_words.specs.declared.command.Command.{Command}
use Rattle.cli_words.specs.declared.command.Command.TheVariants as commands
use Rattle.cli_read.specs.declared.clap_words.form.Form.{Form}
use Rattle.cli_read.specs.declared.clap_words.form.Form.TheVariants as forms
use Rattle.cli_read.specs.declared.verb.Verb.{Verb}
use Rattle.cli_read.specs.declared.verb.Verb.TheVariants as verbs

abbrev pub verb_of : List ℕ → Option Verb
verb_of word =
    if bytes_eq word (codes "bind") then Some verbs.Bind
    else if bytes_eq word (codes "turns") then Some verbs.Turns
    else if bytes_eq word (codes "run") then Some verbs.Run
    else if bytes_eq word (codes "asm") then Some verbs.Assemble
    else if bytes_eq word (codes "dump") then Some verbs.Dump
    else if bytes_eq word (codes "check") then Some verbs.Check
    else if bytes_eq word (codes "gen") then Some verbs.Generate
    else None

abbrev pub form_of : Verb → Form
form_of verbs.Bind = forms.Bind
form_of verbs.Turns = forms.Turns
form_of verbs.Run = forms.Run
form_of verbs.Assemble = forms.Path
form_of verbs.Dump = forms.Path
form_of verbs.Check = forms.Check
form_of verbs.Generate = forms.Number

abbrev pub verb_for : Command → Verb
verb_for (commands.Bind bind) = verbs.Bind
verb_for (commands.Turns turns) = verbs.Turns
verb_for (commands.Run run) = verbs.Run
verb_for (commands.Assemble path) = verbs.Assemble
verb_for (commands.Dump path) = verbs.Dump
verb_for (commands.Check check) = verbs.Check
verb_for (commands.Generate number) = verbs.Generate
