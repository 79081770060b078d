-- Reads: the command that words are, with its values.
use Rattle.std.specs.Prelude.{◌≡◌, ℕ, ◌-◌, ◌^◌, false, List, [], ◌∷◌, IsTrue, codes}
use Rattle.cli_words.specs.declared.switch.Switch.{Switch}
use Rattle.cli_words.specs.declared.switch.Switch.TheVariants as switches
use Rattle.cli_words.specs.declared.command.Bind.{Bind}
use Rattle.cli_words.specs.declared.command.Check.{Check}
use Rattle.cli_words.specs.declared.command.Command.{Command}
use Rattle.cli_words.specs.declared.command.Command.TheVariants as commands
use Rattle.cli_words.specs.declared.command.Run.{Run}
use Rattle.cli_words.specs.declared.command.Turns.{Turns}
use Rattle.history_calls.specs.declared.link_served.startup.Setup.{Setup}
use Rattle.cli_words.specs.Options.{Piece, Says, given, stand_once, stands, words_of}
use Rattle.cli_words.specs.Values.{AreFolders, AreHarts, ArePreloads, IsFuel, IsNumber}

-- ---- the options of each command

abbrev pub bind_options : List Switch
bind_options = switches.Lib ∷ switches.Preload ∷ switches.Now ∷ []

abbrev pub turns_options : List Switch
turns_options = switches.Lib ∷ switches.Preload ∷ switches.Harts ∷ switches.Fuel ∷ switches.Now ∷ []

abbrev pub run_options : List Switch
run_options = switches.Lib ∷ switches.Preload ∷ switches.Harts ∷ switches.Fuel ∷ switches.Now ∷ switches.Trace ∷ []

abbrev pub check_options : List Switch
check_options = switches.Lib ∷ []

-- the words say these pieces, each option once, and these other words
pub record Are (known : List Switch) (words : List (List ℕ)) (pieces : List Piece) (others : List (List ℕ)) : Type 0 where
  pub says : Says known false words pieces
  pub once : IsTrue (stand_once pieces)
  pub left : words_of pieces ≡ others

-- ---- values

pub record IsSetup (pieces : List Piece) (program : List ℕ) (setup : Setup) : Type 0 where
  pub path : setup.program ≡ program
  pub folders : AreFolders (given switches.Lib pieces) setup.folders
  pub preload : ArePreloads (given switches.Preload pieces) setup.preload
  pub now : setup.bind_now ≡ stands switches.Now pieces
  pub harts : AreHarts (given switches.Harts pieces) setup.harts
  pub fuel : IsFuel (given switches.Fuel pieces) setup.fuel

pub record ReadsBind (words : List (List ℕ)) (bind : Bind) : Type 0 where
  pub pieces : List Piece
  pub are : Are bind_options words pieces (bind.program ∷ [])
  pub folders : AreFolders (given switches.Lib pieces) bind.folders
  pub preload : ArePreloads (given switches.Preload pieces) bind.preload
  pub now : bind.now ≡ stands switches.Now pieces

-- the schedule stands before the program; whether it is one is asked once it is known how many harts there are
pub record ReadsTurns (words : List (List ℕ)) (turns : Turns) : Type 0 where
  pub pieces : List Piece
  pub are : Are turns_options words pieces (turns.schedule ∷ turns.setup.program ∷ [])
  pub setup : IsSetup pieces turns.setup.program turns.setup

pub record ReadsRun (words : List (List ℕ)) (run : Run) : Type 0 where
  pub pieces : List Piece
  pub are : Are run_options words pieces (run.setup.program ∷ [])
  pub setup : IsSetup pieces run.setup.program run.setup
  pub trace : run.trace ≡ stands switches.Trace pieces

pub record ReadsCheck (words : List (List ℕ)) (check : Check) : Type 0 where
  pub pieces : List Piece
  pub are : Are check_options words pieces (check.trace ∷ [])
  pub folders : AreFolders (given switches.Lib pieces) check.folders

-- a command without options has one word
pub record ReadsWord (words : List (List ℕ)) (word : List ℕ) : Type 0 where
  pub pieces : List Piece
  pub are : Are [] words pieces (word ∷ [])

pub record ReadsNumber (words : List (List ℕ)) (number : ℕ) : Type 0 where
  pub word : List ℕ
  pub reads : ReadsWord words word
  pub is : IsNumber 0 (2 ^ 32 - 1) word number

-- ---- commands

pub data Reads : List (List ℕ) → Command → Type 0 where
  bind : (words : List (List ℕ)) (bind : Bind) → ReadsBind words bind → Reads (codes "bind" ∷ words) (commands.Bind bind)
  turns : (words : List (List ℕ)) (turns : Turns) → ReadsTurns words turns → Reads (codes "turns" ∷ words) (commands.Turns turns)
  run : (words : List (List ℕ)) (run : Run) → ReadsRun words run → Reads (codes "run" ∷ words) (commands.Run run)
  asm : (words : List (List ℕ)) (path : List ℕ) → ReadsWord words path → Reads (codes "asm" ∷ words) (commands.Assemble path)
  dump : (words : List (List ℕ)) (path : List ℕ) → ReadsWord words path → Reads (codes "dump" ∷ words) (commands.Dump path)
  check : (words : List (List ℕ)) (check : Check) → ReadsCheck words check → Reads (codes "check" ∷ words) (commands.Check check)
  gen : (words : List (List ℕ)) (number : ℕ) → ReadsNumber words number → Reads (codes "gen" ∷ words) (commands.Generate number)

-- words are one command
abbrev pub OneCommand : Type 0
OneCommand = (words : List (List ℕ)) (command other : Command) → Reads words command → Reads words other → command ≡ other
