use Rattle.std.proofs.Common.{Some, refl, subst, ◌≤◌, arith}
use Rattle.std.proofs.lemmas.Bool.{true≢false}
use Rattle.cli_words.specs.Reads.{Reads}
use Rattle.cli_words.specs.declared.command.Command.{Command}
use Rattle.cli_words.specs.declared.command.Command.TheVariants as commands
use Rattle.history_calls.specs.Startup.{harts_of}
use Rattle.cli_read.specs.SaidWords.Words.{texts}
use Rattle.ldso_cli.specs.Outside.{library_at}
use Rattle.ldso_cli.proofs.Asking.{generated, left_as_is, turned, turns_read, unanswered}
use Rattle.ldso_cli.proofs.Bounds.{few_harts, few_run_harts, little_fuel, little_run_fuel}
use Rattle.ldso_cli.proofs.top.answer.Goals as goal

pub returns-in-Ok-Bind-clause-answers : goal.returns-in-Ok-Bind-clause-answers
returns-in-Ok-Bind-clause-answers g c =
    let reads : Reads (texts c.args.words.now) (commands.Bind c.in-Ok-Bind.command) =
    subst (λ (command : Command). Reads (texts c.args.words.now) command) c.in-Ok-Bind.field-0-is c.in-Ok-Bind.ensures.is in
    record { asked = Some (commands.Bind c.in-Ok-Bind.command); asks = (reads, tt); holds = c.bind.ensures.answers }

pub returns-in-Ok-Dump-clause-answers : goal.returns-in-Ok-Dump-clause-answers
returns-in-Ok-Dump-clause-answers g c =
    let reads : Reads (texts c.args.words.now) (commands.Dump c.in-Ok-Dump.path) =
    subst (λ (command : Command). Reads (texts c.args.words.now) command) c.in-Ok-Dump.field-0-is c.in-Ok-Dump.ensures.is in
    record { asked = Some (commands.Dump c.in-Ok-Dump.path); asks = (reads, tt); holds = c.dump.ensures.answers }

pub returns-in-Ok-Assemble-clause-answers : goal.returns-in-Ok-Assemble-clause-answers
returns-in-Ok-Assemble-clause-answers g c =
    let reads : Reads (texts c.args.words.now) (commands.Assemble c.in-Ok-Assemble.path) =
    subst (λ (command : Command). Reads (texts c.args.words.now) command) c.in-Ok-Assemble.field-0-is c.in-Ok-Assemble.ensures.is in
    record { asked = Some (commands.Assemble c.in-Ok-Assemble.path); asks = (reads, tt); holds = c.asm.ensures.answers }

pub turns-requires-clause-few : goal.turns-requires-clause-few
turns-requires-clause-few g c =
    let reads : Reads (texts c.args.words.now) (commands.Turns c.in-Ok-Turns.command) =
    subst (λ (command : Command). Reads (texts c.args.words.now) command) c.in-Ok-Turns.field-0-is c.in-Ok-Turns.ensures.is in
    let few : harts_of c.in-Ok-Turns.command.setup ≤ 16 = few_harts (texts c.args.words.now) c.in-Ok-Turns.command reads in
    omega (arith, few)

pub turns-requires-clause-fuel : goal.turns-requires-clause-fuel
turns-requires-clause-fuel g c =
    let reads : Reads (texts c.args.words.now) (commands.Turns c.in-Ok-Turns.command) =
    subst (λ (command : Command). Reads (texts c.args.words.now) command) c.in-Ok-Turns.field-0-is c.in-Ok-Turns.ensures.is in
    little_fuel (texts c.args.words.now) c.in-Ok-Turns.command reads

pub returns-in-Ok-Turns-clause-answers : goal.returns-in-Ok-Turns-clause-answers
returns-in-Ok-Turns-clause-answers g c =
    let reads : Reads (texts c.args.words.now) (commands.Turns c.in-Ok-Turns.command) =
    subst (λ (command : Command). Reads (texts c.args.words.now) command) c.in-Ok-Turns.field-0-is c.in-Ok-Turns.ensures.is in
    let before = library_at g.L.Library.files g.L.Library.faults g.L.Library.misses c.args.library in
    let after = library_at g.L.Library.files g.L.Library.faults g.L.Library.misses c.turns.new.library in
    turned c.words_are_one_command.ensures (texts c.args.words.now) c.in-Ok-Turns.command reads before after c.turns.result c.turns.ensures.comes

pub run-requires-clause-few : goal.run-requires-clause-few
run-requires-clause-few g c = λ _ _.
    let reads : Reads (texts c.args.words.now) (commands.Run c.in-Ok-Run.command) =
    subst (λ (command : Command). Reads (texts c.args.words.now) command) c.in-Ok-Run.field-0-is c.in-Ok-Run.ensures.is in
    few_run_harts (texts c.args.words.now) c.in-Ok-Run.command reads

pub run-requires-clause-fuel : goal.run-requires-clause-fuel
run-requires-clause-fuel g c = λ _ _.
    let reads : Reads (texts c.args.words.now) (commands.Run c.in-Ok-Run.command) =
    subst (λ (command : Command). Reads (texts c.args.words.now) command) c.in-Ok-Run.field-0-is c.in-Ok-Run.ensures.is in
    little_run_fuel (texts c.args.words.now) c.in-Ok-Run.command reads

pub returns-in-Ok-Run-clause-answers : goal.returns-in-Ok-Run-clause-answers
returns-in-Ok-Run-clause-answers g c =
    let reads : Reads (texts c.args.words.now) (commands.Run c.in-Ok-Run.command) =
    subst (λ (command : Command). Reads (texts c.args.words.now) command) c.in-Ok-Run.field-0-is c.in-Ok-Run.ensures.is in
    record { asked = Some (commands.Run c.in-Ok-Run.command); asks = (reads, tt); holds = c.run.ensures.comes }

pub returns-in-Ok-Check-clause-answers : goal.returns-in-Ok-Check-clause-answers
returns-in-Ok-Check-clause-answers g c =
    let reads : Reads (texts c.args.words.now) (commands.Check c.in-Ok-Check.command) =
    subst (λ (command : Command). Reads (texts c.args.words.now) command) c.in-Ok-Check.field-0-is c.in-Ok-Check.ensures.is in
    record { asked = Some (commands.Check c.in-Ok-Check.command); asks = (reads, tt); holds = c.check.ensures.answers }

pub returns-in-Ok-Generate-clause-answers : goal.returns-in-Ok-Generate-clause-answers
returns-in-Ok-Generate-clause-answers g c =
    let reads : Reads (texts c.args.words.now) (commands.Generate c.in-Ok-Generate.number) =
    subst (λ (command : Command). Reads (texts c.args.words.now) command) c.in-Ok-Generate.field-0-is c.in-Ok-Generate.ensures.is in
    let library = library_at g.L.Library.files g.L.Library.faults g.L.Library.misses c.args.library in
    generated (texts c.args.words.now) c.in-Ok-Generate.number reads library library c.generate.result c.generate.ensures.comes

pub returns-in-Err-Memory-clause-answers : goal.returns-in-Err-Memory-clause-answers
returns-in-Err-Memory-clause-answers g c =
    let memory = c.in-Err-Memory.ensures.memory c.in-Err-Memory.field-0-is in
    unanswered c.words_are_one_command.ensures (texts c.args.words.now) memory.0 memory.1 (λ _. tt)

pub returns-in-Ok-Bind-clause-untouched : goal.returns-in-Ok-Bind-clause-untouched
returns-in-Ok-Bind-clause-untouched g c =
    let reads : Reads (texts c.args.words.now) (commands.Bind c.in-Ok-Bind.command) =
    subst (λ (command : Command). Reads (texts c.args.words.now) command) c.in-Ok-Bind.field-0-is c.in-Ok-Bind.ensures.is in
    record { asked = Some (commands.Bind c.in-Ok-Bind.command); asks = (reads, tt); holds = λ no. absurd (true≢false no) }

pub returns-in-Ok-Dump-clause-untouched : goal.returns-in-Ok-Dump-clause-untouched
returns-in-Ok-Dump-clause-untouched g c =
    let reads : Reads (texts c.args.words.now) (commands.Dump c.in-Ok-Dump.path) =
    subst (λ (command : Command). Reads (texts c.args.words.now) command) c.in-Ok-Dump.field-0-is c.in-Ok-Dump.ensures.is in
    record { asked = Some (commands.Dump c.in-Ok-Dump.path); asks = (reads, tt); holds = λ no. absurd (true≢false no) }

pub returns-in-Ok-Assemble-clause-untouched : goal.returns-in-Ok-Assemble-clause-untouched
returns-in-Ok-Assemble-clause-untouched g c =
    let reads : Reads (texts c.args.words.now) (commands.Assemble c.in-Ok-Assemble.path) =
    subst (λ (command : Command). Reads (texts c.args.words.now) command) c.in-Ok-Assemble.field-0-is c.in-Ok-Assemble.ensures.is in
    record { asked = Some (commands.Assemble c.in-Ok-Assemble.path); asks = (reads, tt); holds = λ no. absurd (true≢false no) }

pub returns-in-Ok-Turns-clause-untouched : goal.returns-in-Ok-Turns-clause-untouched
returns-in-Ok-Turns-clause-untouched g c =
    let reads : Reads (texts c.args.words.now) (commands.Turns c.in-Ok-Turns.command) =
    subst (λ (command : Command). Reads (texts c.args.words.now) command) c.in-Ok-Turns.field-0-is c.in-Ok-Turns.ensures.is in
    turns_read c.words_are_one_command.ensures (texts c.args.words.now) c.in-Ok-Turns.command reads c.args.library c.turns.new.library c.turns.ensures.unread

pub returns-in-Ok-Run-clause-untouched : goal.returns-in-Ok-Run-clause-untouched
returns-in-Ok-Run-clause-untouched g c =
    let reads : Reads (texts c.args.words.now) (commands.Run c.in-Ok-Run.command) =
    subst (λ (command : Command). Reads (texts c.args.words.now) command) c.in-Ok-Run.field-0-is c.in-Ok-Run.ensures.is in
    record { asked = Some (commands.Run c.in-Ok-Run.command); asks = (reads, tt); holds = λ no. absurd (true≢false no) }

pub returns-in-Ok-Check-clause-untouched : goal.returns-in-Ok-Check-clause-untouched
returns-in-Ok-Check-clause-untouched g c =
    let reads : Reads (texts c.args.words.now) (commands.Check c.in-Ok-Check.command) =
    subst (λ (command : Command). Reads (texts c.args.words.now) command) c.in-Ok-Check.field-0-is c.in-Ok-Check.ensures.is in
    record { asked = Some (commands.Check c.in-Ok-Check.command); asks = (reads, tt); holds = λ no. absurd (true≢false no) }

pub returns-in-Ok-Generate-clause-untouched : goal.returns-in-Ok-Generate-clause-untouched
returns-in-Ok-Generate-clause-untouched g c =
    let reads : Reads (texts c.args.words.now) (commands.Generate c.in-Ok-Generate.number) =
    subst (λ (command : Command). Reads (texts c.args.words.now) command) c.in-Ok-Generate.field-0-is c.in-Ok-Generate.ensures.is in
    record { asked = Some (commands.Generate c.in-Ok-Generate.number); asks = (reads, tt); holds = λ unread. refl }

pub returns-in-Err-Memory-clause-untouched : goal.returns-in-Err-Memory-clause-untouched
returns-in-Err-Memory-clause-untouched g c =
    let memory = c.in-Err-Memory.ensures.memory c.in-Err-Memory.field-0-is in
    unanswered c.words_are_one_command.ensures (texts c.args.words.now) memory.0 memory.1 (λ command. left_as_is command c.args.library)
