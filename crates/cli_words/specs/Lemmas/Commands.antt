-- A command's own word, and what stands behind it.
use Rattle.std.specs.Prelude.{◌≡◌, List, ◌∷◌, ℕ, codes}
use Rattle.std.proofs.Common.{refl}
use Rattle.cli_words.specs.declared.command.Command.{Command}
use Rattle.cli_words.specs.declared.command.Command.TheVariants as commands
use Rattle.cli_words.specs.Reads.{Reads, ReadsBind, ReadsCheck, ReadsNumber, ReadsRun, ReadsTurns, ReadsWord}

abbrev pub word_of : Command → List ℕ
word_of (commands.Bind bind) = codes "bind"
word_of (commands.Turns turns) = codes "turns"
word_of (commands.Run run) = codes "run"
word_of (commands.Assemble path) = codes "asm"
word_of (commands.Dump path) = codes "dump"
word_of (commands.Check check) = codes "check"
word_of (commands.Generate number) = codes "gen"

abbrev pub ReadsBehind : List (List ℕ) → Command → Type 0
ReadsBehind words (commands.Bind bind) = ReadsBind words bind
ReadsBehind words (commands.Turns turns) = ReadsTurns words turns
ReadsBehind words (commands.Run run) = ReadsRun words run
ReadsBehind words (commands.Assemble path) = ReadsWord words path
ReadsBehind words (commands.Dump path) = ReadsWord words path
ReadsBehind words (commands.Check check) = ReadsCheck words check
ReadsBehind words (commands.Generate number) = ReadsNumber words number

pub record BeginsWithWord (words : List (List ℕ)) (command : Command) : Type 0 where
  pub rest : List (List ℕ)
  pub is : words ≡ word_of command ∷ rest
  pub reads : ReadsBehind rest command

pub begins_with_word : (words : List (List ℕ)) (command : Command) → Reads words command → BeginsWithWord words command
begins_with_word words command (Reads.bind rest bind reads) = record { rest = rest; is = refl; reads = reads }
begins_with_word words command (Reads.turns rest turns reads) = record { rest = rest; is = refl; reads = reads }
begins_with_word words command (Reads.run rest run reads) = record { rest = rest; is = refl; reads = reads }
begins_with_word words command (Reads.asm rest path reads) = record { rest = rest; is = refl; reads = reads }
begins_with_word words command (Reads.dump rest path reads) = record { rest = rest; is = refl; reads = reads }
begins_with_word words command (Reads.check rest check reads) = record { rest = rest; is = refl; reads = reads }
begins_with_word words command (Reads.gen rest number reads) = record { rest = rest; is = refl; reads = reads }

pub begin_with_word : (rest : List (List ℕ)) (command : Command) → ReadsBehind rest command → Reads (word_of command ∷ rest) command
begin_with_word rest (commands.Bind bind) reads = Reads.bind rest bind reads
begin_with_word rest (commands.Turns turns) reads = Reads.turns rest turns reads
begin_with_word rest (commands.Run run) reads = Reads.run rest run reads
begin_with_word rest (commands.Assemble path) reads = Reads.asm rest path reads
begin_with_word rest (commands.Dump path) reads = Reads.dump rest path reads
begin_with_word rest (commands.Check check) reads = Reads.check rest check reads
begin_with_word rest (commands.Generate number) reads = Reads.gen rest number reads
