-- Lines as they are read, step by step: what the code of the parser computes. What a line says stands in Grammar.
use Rattle.std.specs.Prelude.{ℕ, Bool, false, not, ◌||◌, ◌==◌, ◌+◌, ◌^◌, nat_lt, if◌then◌else◌, List, [], ◌∷◌, ◌++◌, length, take, Option, Some, None, Result}
use Rattle.std.specs.Prelude.{Ok, Err}
use Rattle.std.specs.Option.{option_map, ok_or}
use Rattle.std.specs.List.{list_all, slice_split}
use Rattle.std.specs.Str.{byte}
use Rattle.asm_statement.specs.AsmWords.Text.{trimmed, after_blanks, cut, cut_blank}
use Rattle.asm_statement.specs.AsmWords.Names.{is_name}
use Rattle.asm_statement.specs.AsmWords.DirectiveWords.{directive_word}
use Rattle.asm_statement.specs.AsmWords.Mnemonics.{mnemonic}
use Rattle.asm_statement.specs.declared.asm_words.directive_words.DirectiveWord.{DirectiveWord}
use Rattle.asm_statement.specs.declared.asm_words.mnemonics.Form.{Form}
use Rattle.asm_grammar.specs.Lines.{is_printed, is_quoted_after}
use Rattle.asm_grammar.specs.Operands.{operands_of, instruction}
use Rattle.asm_grammar.specs.Directives.{directive}
use Rattle.asm_statement.specs.declared.line.Statement.{Statement}
use Rattle.asm_statement.specs.declared.line.Statement.TheVariants as statements
use Rattle.asm_statement.specs.declared.line.Line.{Line}
use Rattle.ld_base.specs.declared.fault.AsmCause.{AsmCause}
use Rattle.ld_base.specs.declared.fault.AsmCause.TheVariants as causes

-- a value changed, or the same error
abbrev pub with_ok : {A B E : Type 0} → (A → B) → Result A E → Result B E
with_ok f (Ok x) = Ok (f x)
with_ok f (Err e) = Err e

-- how many bytes stand before a comment, which begins at a # outside quotes
abbrev pub before_comment : Bool → List ℕ → ℕ
before_comment is_quoted [] = 0
before_comment is_quoted (first ∷ rest) =
    if is_quoted || not (first == byte "#") then before_comment (is_quoted_after is_quoted first) rest + 1 else 0

abbrev pub uncommented : List ℕ → List ℕ
uncommented line = take (before_comment false line) line

-- the label before the first colon, where what stands before it is a name, and the rest
abbrev pub label_of : List ℕ → Option (List ℕ × List ℕ) → Option (List ℕ) × List ℕ
label_of text None = (None, text)
label_of text (Some parts) = if is_name parts.0 then (Some parts.0, after_blanks parts.1) else (None, text)

abbrev pub labelled : List ℕ → Option (List ℕ) × List ℕ
labelled text = label_of text (cut (byte ":") text)

-- the first word and what stands behind the blanks after it
abbrev pub word_of : List ℕ → Option (List ℕ × List ℕ) → List ℕ × List ℕ
word_of text None = (text, [])
word_of text (Some parts) = (parts.0, after_blanks parts.1)

abbrev pub worded : List ℕ → List ℕ × List ℕ
worded text = word_of text (cut_blank text)

-- a statement of a word that has a place in the table of directives, or in that of mnemonics, and its operands
unfoldable pub statement : Option DirectiveWord → Option Form → List ℕ → Result Statement AsmCause
statement None None text = Err causes.UnknownWord
statement (Some word) _ text = ok_or (option_map statements.Directive (directive word text)) causes.BadOperand
statement None (Some form) text = ok_or (option_map statements.Instruction (instruction form (operands_of text))) causes.BadOperand

-- a text that isn't empty as a statement, or why it is none
unfoldable pub read_statement : List ℕ → Result Statement AsmCause
read_statement text =
    if not (is_name (worded text).0) then Err causes.BadStatement
    else statement (directive_word (worded text).0) (mnemonic (worded text).0) (worded text).1

-- a text as a statement, as none where it is empty, or why it is neither
unfoldable pub read_text : List ℕ → Result (Option Statement) AsmCause
read_text text = if length text == 0 then Ok None else with_ok Some (read_statement text)

-- a line with its label and the text behind it, or why it is none
unfoldable pub line_of : Option (List ℕ) → List ℕ → Result Line AsmCause
line_of label text = with_ok (λ s. record { label = label; statement = s }) (read_text text)

-- a line, or why it is none
unfoldable pub read_line : List ℕ → Result Line AsmCause
read_line line =
    if not (list_all is_printed line) then Err causes.BadStatement
    else (let parts = labelled (trimmed (uncommented line)) in line_of parts.0 parts.1)

-- what a line gives before what the lines after it give: the first fault of them, with its number
abbrev pub before : ℕ → Result Line AsmCause → Result (List Line) (ℕ × AsmCause) → Result (List Line) (ℕ × AsmCause)
before number (Err cause) others = Err (number, cause)
before number (Ok line) others = with_ok (λ lines. line ∷ lines) others

-- all lines of a list, or the number and the cause of the first that is none
abbrev pub read_lines : ℕ → List (List ℕ) → Result (List Line) (ℕ × AsmCause)
read_lines number [] = Ok []
read_lines number (line ∷ lines) = before number (read_line line) (read_lines (number + 1) lines)

-- lines that are read, and behind them what others give
unfoldable pub behind : List Line → Result (List Line) (ℕ × AsmCause) → Result (List Line) (ℕ × AsmCause)
behind done others = with_ok (λ lines. done ++ lines) others

abbrev pub lines_of : List ℕ → List (List ℕ)
lines_of source = slice_split (λ code. code == byte "\n") source

-- the statements of a source, or its first fault: more than 1 MiB, or a line that is none
unfoldable pub statements_of : List ℕ → Result (List Line) (ℕ × AsmCause)
statements_of source =
    if nat_lt (2 ^ 20) (length source) then Err (0, causes.TooBig) else read_lines 1 (lines_of source)
