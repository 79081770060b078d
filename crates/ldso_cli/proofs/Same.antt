-- Over the same files a command prints one text.
use Rattle.std.proofs.Common.{◌≡◌, ℕ, Bool, List, sym, ap, ◌∙◌}
use Rattle.ld_base.specs.declared.linking.File.{File}
use Rattle.ld_base.specs.declared.linking.Loaded.{Loaded}
use Rattle.scope_rule.specs.Load.{Brings, Load, Walk, records_of}
use Rattle.cli_text.specs.DumpLines.{dump_text}
use Rattle.cli_text.specs.Lines.{bound_text}
use Rattle.cli_words.specs.declared.command.Bind.{Bind}
use Rattle.cli_words.specs.declared.command.Command.{Command}
use Rattle.cli_words.specs.declared.command.Command.TheVariants as commands
use Rattle.ldso_cli.proofs.Assembling.{OneObject, asm_text}
use Rattle.ldso_cli.specs.Bind.{BindPrints, IsBound, BindLoads, namespace_of, program_load}
use Rattle.ldso_cli.specs.Command.{Prints}
use Rattle.ldso_cli.specs.Dump.{DumpPrints, IsDumped}
use Rattle.ldso_cli.specs.declared.outcome.Cause.{Cause}
use Rattle.ldso_cli.specs.declared.outcome.Cause.TheVariants as causes
use Rattle.ldso_cli.specs.declared.outcome.End.{End}

-- a load comes to one walk
abbrev pub OneWalk : Type 0
OneWalk = (load : Load) (first second : Walk) → Brings load first → Brings load second → first ≡ second

-- so a program's objects are one list
pub one_list : OneWalk → (bind : Bind) (files : List File) (first second : List Loaded) → BindLoads bind files first → BindLoads bind files second → first ≡ second
one_list law bind files first second p q =
    p.are ∙ ap (records_of (program_load bind files) Bool.false) (law (program_load bind files) p.walk q.walk p.brings q.brings) ∙ sym q.are

same_bound : OneWalk → (bind : Bind) (files : List File) (a b : List ℕ) → IsBound bind files a → IsBound bind files b → a ≡ b
same_bound law bind files a b p q =
    p.text_is ∙ ap (λ (objects : List Loaded). bound_text (namespace_of objects)) (one_list law bind files p.objects q.objects p.loads q.loads) ∙ sym q.text_is

same_dumped : (path : List ℕ) (files : List File) (a b : List ℕ) → IsDumped path files a → IsDumped path files b → a ≡ b
same_dumped path files a b p q =
    let same : p.object ≡ q.object = (let one = p.is in let two = q.is in cc) in
    p.text_is ∙ ap dump_text same ∙ sym q.text_is

bind_text : OneWalk → (bind : Bind) (files : List File) (cause : Cause) (a b : List ℕ) → BindPrints bind files cause a → BindPrints bind files cause b → a ≡ b
bind_text law bind files causes.Done a b p q = same_bound law bind files a b p q
bind_text law bind files (causes.Refused fault) a b p q = p ∙ sym q
bind_text law bind files (causes.AsmRefused line why) a b p q = absurd p
bind_text law bind files (causes.Ran run_end) a b p q = absurd p
bind_text law bind files (causes.TraceRefused line why) a b p q = absurd p
bind_text law bind files causes.Usage a b p q = absurd p
bind_text law bind files causes.WriteFault a b p q = absurd p
bind_text law bind files causes.Memory a b p q = absurd p

dumped_text : (path : List ℕ) (files : List File) (cause : Cause) (a b : List ℕ) → DumpPrints path files cause a → DumpPrints path files cause b → a ≡ b
dumped_text path files causes.Done a b p q = same_dumped path files a b p q
dumped_text path files (causes.Refused fault) a b p q = p ∙ sym q
dumped_text path files (causes.AsmRefused line why) a b p q = absurd p
dumped_text path files (causes.Ran run_end) a b p q = absurd p
dumped_text path files (causes.TraceRefused line why) a b p q = absurd p
dumped_text path files causes.Usage a b p q = absurd p
dumped_text path files causes.WriteFault a b p q = absurd p
dumped_text path files causes.Memory a b p q = absurd p

pub one_text : OneWalk → OneObject → (command : Command) (files : List File) (end : End) (a b : List ℕ) → Prints command files end a → Prints command files end b → a ≡ b
one_text law sources (commands.Bind bind) files end a b p q = bind_text law bind files end.cause a b p q
one_text law sources (commands.Dump path) files end a b p q = dumped_text path files end.cause a b p q
one_text law sources (commands.Assemble path) files end a b p q = asm_text sources path files end.cause a b p q
one_text law sources (commands.Turns turns) files end a b p q = absurd p
one_text law sources (commands.Run run) files end a b p q = absurd p
one_text law sources (commands.Check check) files end a b p q = absurd p
one_text law sources (commands.Generate number) files end a b p q = absurd p
