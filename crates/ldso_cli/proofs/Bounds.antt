-- How many harts and turns words may ask for.
use Rattle.std.proofs.Common.{ℕ, ◌^◌, ◌≤◌, List, length, Option, Some, None, sym, subst, arith}
use Rattle.cli_words.specs.Reads.{Reads}
use Rattle.cli_words.specs.Values.{AreHarts, IsFuel}
use Rattle.cli_words.specs.declared.command.Command.TheVariants as commands
use Rattle.cli_words.specs.declared.command.Run.{Run}
use Rattle.cli_words.specs.declared.command.Turns.{Turns}
use Rattle.history_calls.specs.Startup.{harts_of}

few_names : (given : Option (List ℕ)) (names : List (List ℕ)) → AreHarts given names → length names ≤ 15
few_names None names are = subst (λ (l : List (List ℕ)). length l ≤ 15) (sym are) (omega arith)
few_names (Some value) names are = are.few

few_turns : (given : Option (List ℕ)) (fuel : ℕ) → IsFuel given fuel → fuel ≤ 2 ^ 32
few_turns None fuel is = subst (λ n. n ≤ 2 ^ 32) (sym is) (omega arith)
few_turns (Some text) fuel is = is.to

pub few_harts : (words : List (List ℕ)) (turns : Turns) → Reads words (commands.Turns turns) → harts_of turns.setup ≤ 16
few_harts words turns (Reads.turns rest _ reads) =
    let few : length turns.setup.harts ≤ 15 = few_names _ turns.setup.harts reads.setup.harts in
    omega (arith, few)

pub little_fuel : (words : List (List ℕ)) (turns : Turns) → Reads words (commands.Turns turns) → turns.setup.fuel ≤ 2 ^ 32
little_fuel words turns (Reads.turns rest _ reads) = few_turns _ turns.setup.fuel reads.setup.fuel

pub few_run_harts : (words : List (List ℕ)) (run : Run) → Reads words (commands.Run run) → harts_of run.setup ≤ 16
few_run_harts words run (Reads.run rest _ reads) =
    let few : length run.setup.harts ≤ 15 = few_names _ run.setup.harts reads.setup.harts in
    omega (arith, few)

pub little_run_fuel : (words : List (List ℕ)) (run : Run) → Reads words (commands.Run run) → run.setup.fuel ≤ 2 ^ 32
little_run_fuel words run (Reads.run rest _ reads) = few_turns _ run.setup.fuel reads.setup.fuel
