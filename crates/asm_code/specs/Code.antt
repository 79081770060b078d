-- The words of lines, and what a refusal tells.
use Rattle.std.specs.Prelude.{◌≡◌, ℕ, ◌+◌, ◌<◌, List, length, Some, slice_index_or}
use Rattle.asm_statement.specs.declared.fault.AsmFault.{AsmFault}
use Rattle.asm_statement.specs.declared.fault.AsmFault.TheVariants.{At, Memory}
use Rattle.asm_statement.specs.declared.line.Line.{Line}
use Rattle.asm_layout.specs.Words.{words_at}
use Rattle.asm_layout.specs.Faults.{fault_at, IsFirstFault}
use Rattle.asm_code.specs.declared.encoding.LineWords.{LineWords}
use Rattle.asm_code.specs.Encoded.{word_list}

-- a list has the words of each of the first lines
pub record AreWordsTo (lines : List Line) (count : ℕ) (words : List LineWords) : Type 0 where
  pub all : length words ≡ count
  pub each : (k : ℕ) (d : LineWords) → k < count → word_list (slice_index_or words k d) ≡ words_at lines k

abbrev pub AreWordsOf : List Line → List LineWords → Type 0
AreWordsOf lines words = AreWordsTo lines (length lines) words

-- what is told of one line, by its number from 0
abbrev pub IsFaultAt : List Line → ℕ → AsmFault → Type 0
IsFaultAt lines k Memory = ⊥
IsFaultAt lines k (At number cause) = (number ≡ k + 1) × (fault_at lines k ≡ Some cause)

-- the first line that is refused, where memory wasn't wanting
abbrev pub TellsOf : List Line → AsmFault → Type 0
TellsOf lines Memory = Unit {0}
TellsOf lines (At number cause) = IsFirstFault lines number cause
