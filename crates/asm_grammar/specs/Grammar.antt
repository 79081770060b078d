-- What a line of a source says and what breaks one, and the same of a source.
use Rattle.std.specs.Prelude.{ℕ, Bool, true, false, ◌≡◌, ◌≢◌, ◌≤◌, ◌<◌, ◌+◌, ◌^◌, ◌⊎◌, List, [], ◌∷◌, ◌++◌, length, Option, Some, None}
use Rattle.std.specs.List.{list_all}
use Rattle.std.specs.Str.{byte}
use Rattle.asm_statement.specs.AsmWords.Names.{is_name}
use Rattle.asm_statement.specs.AsmWords.DirectiveWords.{directive_word}
use Rattle.asm_statement.specs.AsmWords.Mnemonics.{mnemonic}
use Rattle.asm_statement.specs.declared.asm_words.directive_words.DirectiveWord.{DirectiveWord}
use Rattle.asm_statement.specs.declared.asm_words.mnemonics.Form.{Form}
use Rattle.asm_grammar.specs.Lines.{is_printed, is_quoted_after}
use Rattle.asm_grammar.specs.Texts.{AreBlank, BeginsBare, IsPadded, ArePadded, AreParts, IsWorded}
use Rattle.asm_grammar.specs.Operands.{instruction}
use Rattle.asm_grammar.specs.Directives.{directive}
use Rattle.asm_statement.specs.declared.line.Statement.{Statement}
use Rattle.asm_statement.specs.declared.line.Statement.TheVariants as statements
use Rattle.asm_statement.specs.declared.line.Line.{Line}
use Rattle.ld_base.specs.declared.fault.AsmCause.{AsmCause}
use Rattle.ld_base.specs.declared.fault.AsmCause.TheVariants as causes

-- whether what follows a text stands in quotes, where what follows the text before it does or doesn't
abbrev pub is_quoted : Bool → List ℕ → Bool
is_quoted before [] = before
is_quoted before (first ∷ rest) = is_quoted (is_quoted_after before first) rest

-- what a line says before its comment: the first # outside quotes begins the comment
pub record IsBeforeComment (quoted : Bool) (line said : List ℕ) : Type 0 where
  pub comment : List ℕ
  pub whole : line ≡ said ++ comment
  pub none : (front behind : List ℕ) → said ≡ front ++ (byte "#" ∷ behind) → is_quoted quoted front ≡ true
  pub begins : (comment ≡ []) ⊎ ((rest : List ℕ) × (comment ≡ byte "#" ∷ rest) × (is_quoted quoted said ≡ false))

-- a text begins with a label: a name and a colon
pub record BeginsWithLabel (text label rest : List ℕ) : Type 0 where
  pub gap : List ℕ
  pub whole : text ≡ label ++ (byte ":" ∷ (gap ++ rest))
  pub name : is_name label ≡ true
  pub blank : AreBlank gap
  pub begins : BeginsBare rest

-- the label of a text, where it has one, and the rest
abbrev pub IsLabelled : List ℕ → Option (List ℕ) → List ℕ → Type 0
IsLabelled text (Some label) rest = BeginsWithLabel text label rest
IsLabelled text None rest = (rest ≡ text) × ((label behind : List ℕ) → text ≡ label ++ (byte ":" ∷ behind) → is_name label ≡ false)

-- a line of printed bytes has such a label, and such a text between it and the comment
pub record HasText (line : List ℕ) (label : Option (List ℕ)) (text : List ℕ) : Type 0 where
  pub said : List ℕ
  pub inner : List ℕ
  pub printed : list_all is_printed line ≡ true
  pub before : IsBeforeComment false line said
  pub padded : IsPadded said inner
  pub labelled : IsLabelled inner label text

-- the operands of an instruction: what stands between commas, without the blanks around it
abbrev pub AreOperands : List ℕ → List (List ℕ) → Type 0
AreOperands text [] = text ≡ []
AreOperands text (operand ∷ operands) =
    (text ≢ []) × (parts : List (List ℕ)) × AreParts (byte ",") text parts × ArePadded parts (operand ∷ operands)

-- a statement of a word and what stands behind it
abbrev pub SaysOf : List ℕ → List ℕ → Statement → Type 0
SaysOf word text (statements.Directive says) = (which : DirectiveWord) × (directive_word word ≡ Some which) × (directive which text ≡ Some says)
SaysOf word text (statements.Instruction says) =
    (form : Form) × (operands : List (List ℕ)) × (directive_word word ≡ None) × (mnemonic word ≡ Some form) × AreOperands text operands
    × (instruction form operands ≡ Some says)

-- a text that is a statement: its first word is a name
pub record SaysStatement (text : List ℕ) (says : Statement) : Type 0 where
  pub word : List ℕ
  pub behind : List ℕ
  pub worded : IsWorded text word behind
  pub name : is_name word ≡ true
  pub of_word : SaysOf word behind says

-- a text that is a statement, or empty
abbrev pub SaysText : List ℕ → Option Statement → Type 0
SaysText text None = text ≡ []
SaysText text (Some says) = (text ≢ []) × SaysStatement text says

-- a line's label and its statement
pub record SaysLine (line : List ℕ) (says : Line) : Type 0 where
  pub text : List ℕ
  pub has : HasText line says.label text
  pub is : SaysText text says.statement

-- a text, not empty, of a label's line that begins with such a word
pub record HasWord (line word behind : List ℕ) : Type 0 where
  pub label : Option (List ℕ)
  pub text : List ℕ
  pub has : HasText line label text
  pub some : text ≢ []
  pub worded : IsWorded text word behind

-- why a line is none of the grammar: an unprinted byte or no name where a statement begins; a word that no table has; operands that the word doesn't take
abbrev pub BreaksLine : List ℕ → AsmCause → Type 0
BreaksLine line causes.BadStatement =
    (list_all is_printed line ≡ false) ⊎ ((word behind : List ℕ) × HasWord line word behind × (is_name word ≡ false))
BreaksLine line causes.UnknownWord =
    (word behind : List ℕ) × HasWord line word behind × (is_name word ≡ true) × (directive_word word ≡ None) × (mnemonic word ≡ None)
BreaksLine line causes.BadOperand =
    (word behind : List ℕ) × HasWord line word behind × (is_name word ≡ true)
    × ((directive_word word ≢ None) ⊎ (mnemonic word ≢ None)) × ((says : Statement) → SaysOf word behind says → ⊥)
BreaksLine line causes.OutOfRange = ⊥
BreaksLine line causes.DoubleLabel = ⊥
BreaksLine line causes.UnknownLabel = ⊥
BreaksLine line causes.WrongSection = ⊥
BreaksLine line causes.TooBig = ⊥

-- lines and what they say, one by one
abbrev pub SayLines : List (List ℕ) → List Line → Type 0
SayLines [] [] = Unit {0}
SayLines (line ∷ lines) (says ∷ rest) = SaysLine line says × SayLines lines rest
SayLines [] (says ∷ rest) = ⊥
SayLines (line ∷ lines) [] = ⊥

-- a source of at most 1 MiB, and what its lines say
pub record SaysSource (source : List ℕ) (says : List Line) : Type 0 where
  pub lines : List (List ℕ)
  pub bound : length source ≤ 2 ^ 20
  pub parts : AreParts (byte "\n") source lines
  pub each : SayLines lines says

-- the first line that is none of the grammar; lines count from 1
pub record BreaksAt (source : List ℕ) (number : ℕ) (cause : AsmCause) : Type 0 where
  pub front : List (List ℕ)
  pub says : List Line
  pub line : List ℕ
  pub behind : List (List ℕ)
  pub bound : length source ≤ 2 ^ 20
  pub parts : AreParts (byte "\n") source (front ++ (line ∷ behind))
  pub before : SayLines front says
  pub place : number ≡ length front + 1
  pub broken : BreaksLine line cause

-- why a source is refused: it is too long, which line 0 tells, or a line is none
abbrev pub BreaksSource : List ℕ → ℕ → AsmCause → Type 0
BreaksSource source number cause = ((number ≡ 0) × (cause ≡ causes.TooBig) × (2 ^ 20 < length source)) ⊎ BreaksAt source number cause
