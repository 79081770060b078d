-- Worked command lines, and words that are none.
use Rattle.std.specs.Prelude.{ℕ, false, List, [], ◌∷◌, codes}
use Rattle.cli_words.specs.declared.command.Command.{Command}
use Rattle.cli_words.specs.declared.command.Command.TheVariants as commands
use Rattle.cli_words.specs.Reads.{Reads}

-- a program with its libraries in one folder
abbrev pub in_lib : Command
in_lib = commands.Bind (record { folders = codes "lib" ∷ []; preload = []; now = false; program = codes "prog" })

-- options and words may be mixed, a value may be joined to its option, and two dashes may end the options
abbrev pub Plain : Type 0
Plain = Reads (codes "bind" ∷ codes "--lib" ∷ codes "lib" ∷ codes "prog" ∷ []) in_lib

abbrev pub Joined : Type 0
Joined = Reads (codes "bind" ∷ codes "--lib=lib" ∷ codes "prog" ∷ []) in_lib

abbrev pub Behind : Type 0
Behind = Reads (codes "bind" ∷ codes "prog" ∷ codes "--lib" ∷ codes "lib" ∷ []) in_lib

abbrev pub Ended : Type 0
Ended = Reads (codes "bind" ∷ codes "--lib" ∷ codes "lib" ∷ codes "--" ∷ codes "prog" ∷ []) in_lib

abbrev pub Generated : Type 0
Generated = Reads (codes "gen" ∷ codes "3875" ∷ []) (commands.Generate 3875)

-- one hart has no turns of a second, which the schedule is asked for once it is known how many harts there are
abbrev pub Scheduled : Type 0
Scheduled = Reads (codes "turns" ∷ codes "1*3" ∷ codes "prog" ∷ [])
    (commands.Turns (record {
      setup = record { program = codes "prog"; folders = []; preload = []; bind_now = false; harts = []; fuel = 1000000 };
      schedule = codes "1*3";
    }))

-- these are no commands
abbrev pub IsNone : List (List ℕ) → Type 0
IsNone words = (command : Command) → Reads words command → ⊥

abbrev pub no_words : List (List ℕ)
no_words = []

abbrev pub no_program : List (List ℕ)
no_program = codes "run" ∷ []

abbrev pub twice : List (List ℕ)
twice = codes "bind" ∷ codes "--lib" ∷ codes "lib" ∷ codes "--lib" ∷ codes "lib" ∷ codes "prog" ∷ []

abbrev pub dashed : List (List ℕ)
dashed = codes "bind" ∷ codes "--lib" ∷ codes "-x" ∷ codes "prog" ∷ []

abbrev pub empty_part : List (List ℕ)
empty_part = codes "bind" ∷ codes "--lib" ∷ codes "a::b" ∷ codes "prog" ∷ []

abbrev pub help_option : List (List ℕ)
help_option = codes "bind" ∷ codes "--help" ∷ []

abbrev pub help_word : List (List ℕ)
help_word = codes "help" ∷ []

abbrev pub no_fuel : List (List ℕ)
no_fuel = codes "run" ∷ codes "--fuel" ∷ codes "0" ∷ codes "prog" ∷ []

abbrev pub leading_zero : List (List ℕ)
leading_zero = codes "gen" ∷ codes "01" ∷ []
