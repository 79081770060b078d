-- Commands by the values that are found.
use Rattle.std.specs.Prelude.{◌≡◌, ◌^◌, ◌-◌, ℕ, Bool, Some, IsSome, codes}
use Rattle.clap.specs.Values.{bool_text}
use Rattle.clap.specs.Matches.{first_value, one_text}
use Rattle.clap.specs.declared.parser.matches.Found.{Found}
use Rattle.history_calls.specs.declared.link_served.startup.Setup.{Setup}
use Rattle.cli_words.specs.Values.{IsFuel, IsNumber}
use Rattle.cli_words.specs.declared.command.Bind.{Bind}
use Rattle.cli_words.specs.declared.command.Check.{Check}
use Rattle.cli_words.specs.declared.command.Command.{Command}
use Rattle.cli_words.specs.declared.command.Command.TheVariants as commands
use Rattle.cli_words.specs.declared.command.Run.{Run}
use Rattle.cli_words.specs.declared.command.Turns.{Turns}
use Rattle.cli_read.specs.Judged.{HasFuel, IsSomeNumber, parts_in}
use Rattle.cli_read.specs.declared.verb.Verb.{Verb}
use Rattle.cli_read.specs.declared.verb.Verb.TheVariants as verbs
use Rattle.cli_read.specs.SaidWords.Words.{Text}

-- ---- values that are there

-- the flag is found, as one that stands or as one that doesn't
abbrev pub HasFlag : Found → Text → Type 0
HasFlag found name = (stands : Bool) × (one_text found name ≡ Some (bool_text stands))

pub record HasSetup (found : Found) : Type 0 where
  pub program : IsSome (first_value found (codes "program"))
  pub turns : HasFuel (first_value found (codes "fuel"))
  pub now : HasFlag found (codes "now")

pub record HasBind (found : Found) : Type 0 where
  pub program : IsSome (first_value found (codes "program"))
  pub now : HasFlag found (codes "now")

pub record HasTurns (found : Found) : Type 0 where
  pub setup : HasSetup found
  pub schedule : IsSome (first_value found (codes "schedule"))

pub record HasRun (found : Found) : Type 0 where
  pub setup : HasSetup found
  pub trace : HasFlag found (codes "trace")

abbrev pub HasCommand : Verb → Found → Type 0
HasCommand verbs.Bind found = HasBind found
HasCommand verbs.Turns found = HasTurns found
HasCommand verbs.Run found = HasRun found
HasCommand verbs.Assemble found = IsSome (first_value found (codes "path"))
HasCommand verbs.Dump found = IsSome (first_value found (codes "path"))
HasCommand verbs.Check found = IsSome (first_value found (codes "path"))
HasCommand verbs.Generate found = IsSomeNumber (first_value found (codes "number"))

-- ---- commands that have them

pub record FoundSetup (found : Found) (setup : Setup) : Type 0 where
  pub path : first_value found (codes "program") ≡ Some setup.program
  pub folders : setup.folders ≡ parts_in 58 (first_value found (codes "lib"))
  pub preload : setup.preload ≡ parts_in 58 (first_value found (codes "preload"))
  pub now : one_text found (codes "now") ≡ Some (bool_text setup.bind_now)
  pub harts : setup.harts ≡ parts_in 44 (first_value found (codes "harts"))
  pub fuel : IsFuel (first_value found (codes "fuel")) setup.fuel

pub record FoundBind (found : Found) (bind : Bind) : Type 0 where
  pub folders : bind.folders ≡ parts_in 58 (first_value found (codes "lib"))
  pub preload : bind.preload ≡ parts_in 58 (first_value found (codes "preload"))
  pub now : one_text found (codes "now") ≡ Some (bool_text bind.now)
  pub program : first_value found (codes "program") ≡ Some bind.program

pub record FoundTurns (found : Found) (turns : Turns) : Type 0 where
  pub setup : FoundSetup found turns.setup
  pub schedule : first_value found (codes "schedule") ≡ Some turns.schedule

pub record FoundRun (found : Found) (run : Run) : Type 0 where
  pub setup : FoundSetup found run.setup
  pub trace : one_text found (codes "trace") ≡ Some (bool_text run.trace)

pub record FoundCheck (found : Found) (check : Check) : Type 0 where
  pub folders : check.folders ≡ parts_in 58 (first_value found (codes "lib"))
  pub trace : first_value found (codes "path") ≡ Some check.trace

pub record FoundNumber (found : Found) (number : ℕ) : Type 0 where
  pub word : Text
  pub is : first_value found (codes "number") ≡ Some word
  pub says : IsNumber 0 (2 ^ 32 - 1) word number

abbrev pub FoundCommand : Found → Command → Type 0
FoundCommand found (commands.Bind bind) = FoundBind found bind
FoundCommand found (commands.Turns turns) = FoundTurns found turns
FoundCommand found (commands.Run run) = FoundRun found run
FoundCommand found (commands.Assemble path) = first_value found (codes "path") ≡ Some path
FoundCommand found (commands.Dump path) = first_value found (codes "path") ≡ Some path
FoundCommand found (commands.Check check) = FoundCheck found check
FoundCommand found (commands.Generate number) = FoundNumber found number
