-- The object that a source denotes, and why a source denotes none.
use Rattle.std.specs.Prelude.{◌≡◌, ◌⊎◌, ℕ, true, false, List}
use Rattle.ld_base.specs.declared.fault.AsmCause.{AsmCause}
use Rattle.ld_base.specs.declared.fault.AsmCause.TheVariants as causes
use Rattle.asm_statement.specs.declared.line.Line.{Line}
use Rattle.asm_statement.specs.declared.fault.AsmFault.{AsmFault}
use Rattle.asm_statement.specs.declared.fault.AsmFault.TheVariants.{At, Memory}
use Rattle.asm_grammar.specs.Grammar.{SaysSource, BreaksSource}
use Rattle.asm_layout.specs.Faults.{HasNoFault, IsFirstFault}
use Rattle.asm_layout.specs.Object.{object_of, is_too_big, last_statement}

-- the bytes are the object of lines: none has a fault, and the object isn't too big
pub record AreObjectOf (lines : List Line) (bytes : List ℕ) : Type 0 where
  pub faultless : HasNoFault lines
  pub fits : is_too_big lines ≡ false
  pub are : bytes ≡ object_of lines

-- lines without a fault whose object is too big, which the line of the last statement tells
pub record AreTooBig (lines : List Line) (number : ℕ) (cause : AsmCause) : Type 0 where
  pub faultless : HasNoFault lines
  pub big : is_too_big lines ≡ true
  pub counted : number ≡ last_statement lines
  pub cause_is : cause ≡ causes.TooBig

-- why lines have no object: the first of them that has a fault, and its first one; or the object is too big
abbrev pub BreaksLines : List Line → ℕ → AsmCause → Type 0
BreaksLines lines number cause = IsFirstFault lines number cause ⊎ AreTooBig lines number cause

-- the bytes are the object of what the lines of the source say
pub record Denotes (source bytes : List ℕ) : Type 0 where
  pub lines : List Line
  pub says : SaysSource source lines
  pub object : AreObjectOf lines bytes

-- the source is one of the grammar, but what its lines say is refused
pub record BreaksSaid (source : List ℕ) (number : ℕ) (cause : AsmCause) : Type 0 where
  pub lines : List Line
  pub says : SaysSource source lines
  pub broken : BreaksLines lines number cause

-- the line at which a source is refused, and the cause: by the grammar first
abbrev pub AsmBroken : List ℕ → ℕ → AsmCause → Type 0
AsmBroken source number cause = BreaksSource source number cause ⊎ BreaksSaid source number cause

-- what a fault tells of lines and of a source, where memory wasn't wanting
abbrev pub TellsOfLines : List Line → AsmFault → Type 0
TellsOfLines lines Memory = Unit {0}
TellsOfLines lines (At number cause) = BreaksLines lines number cause

abbrev pub TellsOf : List ℕ → AsmFault → Type 0
TellsOf source Memory = Unit {0}
TellsOf source (At number cause) = AsmBroken source number cause
