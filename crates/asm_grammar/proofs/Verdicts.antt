-- A line that is read says what is read, and one that is refused breaks the grammar so; and the other way round.
use Rattle.std.proofs.Common.{◌≡◌, ◌≢◌, ◌⊎◌, ℕ, ◌∙◌, true, false, List, [], ◌∷◌, Option, Some, None, Result, Ok, Err, refl, sym, ap, subst, inl, inr}
use Rattle.std.specs.List.{list_all}
use Rattle.std.specs.Option.{option_map, ok_or}
use Rattle.std.proofs.lemmas.Bool.{cases_Bool}
use Rattle.asm_statement.specs.AsmWords.Names.{is_name}
use Rattle.asm_statement.specs.AsmWords.DirectiveWords.{directive_word}
use Rattle.asm_statement.specs.AsmWords.Mnemonics.{mnemonic}
use Rattle.asm_statement.specs.declared.asm_words.directive_words.DirectiveWord.{DirectiveWord}
use Rattle.asm_statement.specs.declared.asm_words.mnemonics.Form.{Form}
use Rattle.asm_grammar.specs.Lines.{is_printed}
use Rattle.asm_grammar.specs.Texts.{IsWorded}
use Rattle.asm_grammar.specs.Grammar.{HasText, SaysOf, SaysStatement, SaysText, SaysLine, HasWord, BreaksLine}
use Rattle.asm_grammar.specs.Operands.{operands_of, instruction}
use Rattle.asm_grammar.specs.Directives.{directive}
use Rattle.asm_grammar.specs.Reading.{with_ok, worded, statement, read_statement, read_text, line_of, read_line}
use Rattle.asm_grammar.proofs.Texts.{is_worded, worded_is}
use Rattle.asm_grammar.proofs.Lines.{read_parts, has_text, text_is, are_operands, operands_are, some_text}
use Rattle.asm_statement.specs.declared.directive.Directive.{Directive}
use Rattle.asm_statement.specs.declared.instruction.Instruction.{Instruction}
use Rattle.asm_statement.specs.declared.line.Statement.{Statement}
use Rattle.asm_statement.specs.declared.line.Statement.TheVariants as statements
use Rattle.asm_statement.specs.declared.line.Line.{Line}
use Rattle.ld_base.specs.declared.fault.AsmCause.{AsmCause}
use Rattle.ld_base.specs.declared.fault.AsmCause.TheVariants as causes

pub same_ok : {A E : Type 0} (x y : A) → ◌≡◌ {A = Result A E} (Ok x) (Ok y) → x ≡ y
same_ok x y e = cc

-- statements

directive_says : (word text : List ℕ) (which : DirectiveWord) (read : Option Directive) → directive_word word ≡ Some which → directive which text ≡ read
    → (says : Statement) → ok_or (option_map statements.Directive read) causes.BadOperand ≡ Ok says → SaysOf word text says
directive_says word text which None is reads says e = absurd cc
directive_says word text which (Some read) is reads says e = subst (SaysOf word text) (same_ok {E = AsmCause} (statements.Directive read) says e) (which, is, reads)

instruction_says : (word text : List ℕ) (form : Form) (read : Option Instruction) → directive_word word ≡ None → mnemonic word ≡ Some form
    → instruction form (operands_of text) ≡ read
    → (says : Statement) → ok_or (option_map statements.Instruction read) causes.BadOperand ≡ Ok says → SaysOf word text says
instruction_says word text form None none is reads says e = absurd cc
instruction_says word text form (Some read) none is reads says e =
    subst (SaysOf word text) (same_ok {E = AsmCause} (statements.Instruction read) says e) (form, operands_of text, none, is, are_operands text, reads)

says_by : (word text : List ℕ) (which : Option DirectiveWord) (form : Option Form) → directive_word word ≡ which → mnemonic word ≡ form
    → (says : Statement) → statement which form text ≡ Ok says → SaysOf word text says
unfolding statement
says_by word text None None d m says e = absurd cc
says_by word text (Some which) form d m says e = directive_says word text which (directive which text) d refl says e
says_by word text None (Some form) d m says e = instruction_says word text form (instruction form (operands_of text)) d m refl says e

abbrev pub read_word : List ℕ → List ℕ → Result Statement AsmCause
read_word word text = statement (directive_word word) (mnemonic word) text

says_of : (word text : List ℕ) (says : Statement) → read_word word text ≡ Ok says → SaysOf word text says
says_of word text says e = says_by word text (directive_word word) (mnemonic word) refl refl says e

by_directive : (text : List ℕ) (which : DirectiveWord) (form : Option Form) (says : Directive) → directive which text ≡ Some says
    → statement (Some which) form text ≡ Ok (statements.Directive says)
unfolding statement
by_directive text which form says reads = rw reads refl

by_instruction : (text : List ℕ) (form : Form) (says : Instruction) → instruction form (operands_of text) ≡ Some says
    → statement None (Some form) text ≡ Ok (statements.Instruction says)
unfolding statement
by_instruction text form says reads = rw reads refl

of_says : (word text : List ℕ) (says : Statement) → SaysOf word text says → read_word word text ≡ Ok says
of_says word text (statements.Directive says) (which, is, reads) = rw is (by_directive text which (mnemonic word) says reads)
of_says word text (statements.Instruction says) (form, operands, none, is, are, reads) =
    rw (none, is) (by_instruction text form says (ap (instruction form) (operands_are text operands are) ∙ reads))

-- a line that is read

named_word : (text : List ℕ) (says : Statement) → read_statement text ≡ Ok says → (is_name (worded text).0 ≡ true) × (read_word (worded text).0 (worded text).1 ≡ Ok says)
unfolding read_statement
named_word text says e =
    elim (cases_Bool (is_name (worded text).0)) [
      | inl is ↦ (is, rw is at e)
      | inr isnt ↦ absurd (let bad : Err causes.BadStatement ≡ Ok says = rw isnt at e in cc)
    ]

statement_is : (text : List ℕ) (says : Statement) → read_statement text ≡ Ok says → SaysStatement text says
statement_is text says e =
    let both = named_word text says e in
    record {
      word = (worded text).0;
      behind = (worded text).1;
      worded = is_worded text;
      name = both.0;
      of_word = says_of (worded text).0 (worded text).1 says both.1;
    }

with_word : (text word behind : List ℕ) → IsWorded text word behind → is_name word ≡ true → read_statement text ≡ read_word word behind
unfolding read_statement
with_word text word behind is name = rw (worded_is text word behind is, name) refl

is_statement : (text : List ℕ) (says : Statement) → SaysStatement text says → read_statement text ≡ Ok says
is_statement text says is = with_word text is.word is.behind is.worded is.name ∙ of_says is.word is.behind says is.of_word

text_some : (c : ℕ) (text : List ℕ) → read_text (c ∷ text) ≡ with_ok Some (read_statement (c ∷ text))
unfolding read_text
text_some c text = rw (some_text c text) refl

statement_read : (text : List ℕ) (result : Result Statement AsmCause) (says : Option Statement) → text ≢ [] → read_statement text ≡ result → with_ok Some result ≡ Ok says → SaysText text says
statement_read text (Err cause) says some reads e = absurd cc
statement_read text (Ok read) says some reads e =
    subst (SaysText text) (same_ok {E = AsmCause} (Some read) says e) (some, statement_is text read reads)

text_says : (text : List ℕ) (says : Option Statement) → read_text text ≡ Ok says → SaysText text says
unfolding read_text
text_says [] says e = subst (SaysText []) (same_ok {E = AsmCause} None says e) refl
text_says (c ∷ text) says e = statement_read (c ∷ text) (read_statement (c ∷ text)) says (λ none. cc) refl (sym (text_some c text) ∙ e)

some_says : (text : List ℕ) (says : Statement) → text ≢ [] → read_statement text ≡ Ok says → read_text text ≡ Ok (Some says)
some_says [] says some e = absurd (some refl)
some_says (c ∷ text) says some e = text_some c text ∙ ap (with_ok Some) e

no_text : read_text [] ≡ Ok None
unfolding read_text
no_text = refl

says_text : (text : List ℕ) (says : Option Statement) → SaysText text says → read_text text ≡ Ok says
says_text text None none = ap read_text none ∙ no_text
says_text text (Some says) (some, is) = some_says text says some (is_statement text says is)

line_by : (line text : List ℕ) (label : Option (List ℕ)) (result : Result (Option Statement) AsmCause) (says : Line) → HasText line label text → read_text text ≡ result
    → with_ok (λ s. record { label = label; statement = s }) result ≡ Ok says → SaysLine line says
line_by line text label (Err cause) says has reads e = absurd cc
line_by line text label (Ok read) says has reads e =
    subst (SaysLine line) (same_ok {E = AsmCause} (record { label = label; statement = read }) says e) (record { text = text; has = has; is = text_says text read reads })

printed_line : (line : List ℕ) → list_all is_printed line ≡ true → read_line line ≡ line_of (read_parts line).0 (read_parts line).1
unfolding read_line
printed_line line printed = rw printed refl

unprinted_line : (line : List ℕ) → list_all is_printed line ≡ false → read_line line ≡ Err causes.BadStatement
unfolding read_line
unprinted_line line unprinted = rw unprinted refl

line_of_text : (label : Option (List ℕ)) (text : List ℕ) → line_of label text ≡ with_ok (λ s. record { label = label; statement = s }) (read_text text)
unfolding line_of
line_of_text label text = refl

pub line_says : (line : List ℕ) (says : Line) → read_line line ≡ Ok says → SaysLine line says
line_says line says e =
    elim (cases_Bool (list_all is_printed line)) [
      | inl printed ↦
          line_by line (read_parts line).1 (read_parts line).0 (read_text (read_parts line).1) says (has_text line printed) refl
          (sym (line_of_text (read_parts line).0 (read_parts line).1) ∙ sym (printed_line line printed) ∙ e)
      | inr unprinted ↦ absurd (let bad : Err causes.BadStatement ≡ Ok says = sym (unprinted_line line unprinted) ∙ e in cc)
    ]

line_with : (line text : List ℕ) (label : Option (List ℕ)) → HasText line label text
    → read_line line ≡ with_ok (λ s. record { label = label; statement = s }) (read_text text)
line_with line text label has =
    printed_line line has.printed
    ∙ ap (λ (p : Option (List ℕ) × List ℕ). line_of p.0 p.1) (text_is line label text has)
    ∙ line_of_text label text

pub says_line : (line : List ℕ) (says : Line) → SaysLine line says → read_line line ≡ Ok says
says_line line says is =
    line_with line is.text says.label is.has
    ∙ ap (with_ok (λ (s : Option Statement). record { label = says.label; statement = s })) (says_text is.text says.statement is.is)

-- a line that is refused

abbrev pub IsKnown : List ℕ → Type 0
IsKnown word = (directive_word word ≢ None) ⊎ (mnemonic word ≢ None)

pub same_err : {A E : Type 0} (x y : E) → ◌≡◌ {A = Result A E} (Err x) (Err y) → x ≡ y
same_err x y e = cc

err_below : {A B E : Type 0} (f : A → B) (result : Result A E) (cause : E) → with_ok f result ≡ Err cause → result ≡ Err cause
err_below f (Ok x) cause e = absurd cc
err_below f (Err x) cause e = cc

operand_cause : (read : Option Statement) (cause : AsmCause) → ok_or read causes.BadOperand ≡ Err cause → cause ≡ causes.BadOperand
operand_cause None cause e = sym (same_err {A = Statement} causes.BadOperand cause e)
operand_cause (Some says) cause e = absurd cc

abbrev pub WhyRefused : List ℕ → AsmCause → Type 0
WhyRefused word cause =
    ((cause ≡ causes.UnknownWord) × (directive_word word ≡ None) × (mnemonic word ≡ None)) ⊎ ((cause ≡ causes.BadOperand) × IsKnown word)

refused_by : (word text : List ℕ) (which : Option DirectiveWord) (form : Option Form) → directive_word word ≡ which → mnemonic word ≡ form
    → (cause : AsmCause) → statement which form text ≡ Err cause → WhyRefused word cause
unfolding statement
refused_by word text None None d m cause e = inl (sym (same_err {A = Statement} causes.UnknownWord cause e), d, m)
refused_by word text (Some which) form d m cause e =
    inr (operand_cause (option_map statements.Directive (directive which text)) cause e, inl (λ none. cc))
refused_by word text None (Some form) d m cause e =
    inr (operand_cause (option_map statements.Instruction (instruction form (operands_of text))) cause e, inr (λ none. cc))

why_refused : (word text : List ℕ) (cause : AsmCause) → read_word word text ≡ Err cause → WhyRefused word cause
why_refused word text cause e = refused_by word text (directive_word word) (mnemonic word) refl refl cause e

says_nothing : (word text : List ℕ) (cause : AsmCause) → read_word word text ≡ Err cause → (says : Statement) → SaysOf word text says → ⊥
says_nothing word text cause e says of = let is : read_word word text ≡ Ok says = of_says word text says of in cc

text_refused : (text : List ℕ) (cause : AsmCause) → read_text text ≡ Err cause → (text ≢ []) × (read_statement text ≡ Err cause)
text_refused [] cause e = absurd (let fine : read_text [] ≡ Ok None = no_text in cc)
text_refused (c ∷ text) cause e = (λ none. cc, err_below Some (read_statement (c ∷ text)) cause (sym (text_some c text) ∙ e))

statement_refused : (text : List ℕ) (cause : AsmCause) → read_statement text ≡ Err cause
    → ((cause ≡ causes.BadStatement) × (is_name (worded text).0 ≡ false)) ⊎ ((is_name (worded text).0 ≡ true) × (read_word (worded text).0 (worded text).1 ≡ Err cause))
unfolding read_statement
statement_refused text cause e =
    elim (cases_Bool (is_name (worded text).0)) [
      | inl is ↦ inr (is, rw is at e)
      | inr isnt ↦ inl (sym (same_err {A = Statement} causes.BadStatement cause (rw isnt at e)), isnt)
    ]

word_breaks : (line word behind : List ℕ) (cause : AsmCause) → HasWord line word behind → is_name word ≡ true → read_word word behind ≡ Err cause → BreaksLine line cause
word_breaks line word behind cause has name e =
    elim (why_refused word behind cause e) [
      | inl (is, none, other) ↦ subst (BreaksLine line) (sym is) (word, behind, has, name, none, other)
      | inr (is, known) ↦ subst (BreaksLine line) (sym is) (word, behind, has, name, known, says_nothing word behind cause e)
    ]

text_breaks : (line text : List ℕ) (label : Option (List ℕ)) (cause : AsmCause) → HasText line label text → text ≢ [] → read_statement text ≡ Err cause → BreaksLine line cause
text_breaks line text label cause has some e =
    let word : HasWord line (worded text).0 (worded text).1 = record { label = label; text = text; has = has; some = some; worded = is_worded text } in
    elim (statement_refused text cause e) [
      | inl (is, isnt) ↦ subst (BreaksLine line) (sym is) (inr ((worded text).0, (worded text).1, word, isnt))
      | inr (name, refused) ↦ word_breaks line (worded text).0 (worded text).1 cause word name refused
    ]

pub line_breaks : (line : List ℕ) (cause : AsmCause) → read_line line ≡ Err cause → BreaksLine line cause
line_breaks line cause e =
    elim (cases_Bool (list_all is_printed line)) [
      | inl printed ↦
          let below : read_text (read_parts line).1 ≡ Err cause =
          err_below (λ (s : Option Statement). record { label = (read_parts line).0; statement = s }) (read_text (read_parts line).1) cause
          (sym (line_with line (read_parts line).1 (read_parts line).0 (has_text line printed)) ∙ e) in
          let both = text_refused (read_parts line).1 cause below in
          text_breaks line (read_parts line).1 (read_parts line).0 cause (has_text line printed) both.0 both.1
      | inr unprinted ↦
          let is : cause ≡ causes.BadStatement = sym (same_err {A = Line} causes.BadStatement cause (sym (unprinted_line line unprinted) ∙ e)) in
          subst (BreaksLine line) (sym is) (inl unprinted)
    ]

-- the other way round

some_refused : (text : List ℕ) (cause : AsmCause) → text ≢ [] → read_statement text ≡ Err cause → read_text text ≡ Err cause
some_refused [] cause some e = absurd (some refl)
some_refused (c ∷ text) cause some e = text_some c text ∙ ap (with_ok Some) e

word_refused : (line word behind : List ℕ) (cause : AsmCause) (has : HasWord line word behind) → read_statement has.text ≡ Err cause → read_line line ≡ Err cause
word_refused line word behind cause has e =
    line_with line has.text has.label has.has
    ∙ ap (with_ok (λ (s : Option Statement). record { label = has.label; statement = s })) (some_refused has.text cause has.some e)

without_name : (text word behind : List ℕ) → IsWorded text word behind → is_name word ≡ false → read_statement text ≡ Err causes.BadStatement
unfolding read_statement
without_name text word behind is isnt = rw (worded_is text word behind is, isnt) refl

unknown : (word text : List ℕ) → directive_word word ≡ None → mnemonic word ≡ None → read_word word text ≡ Err causes.UnknownWord
unfolding statement
unknown word text d m = rw (d, m) refl

refused_operand : (word text : List ℕ) (result : Result Statement AsmCause) → read_word word text ≡ result → IsKnown word
    → ((says : Statement) → SaysOf word text says → ⊥) → result ≡ Err causes.BadOperand
refused_operand word text (Ok says) reads known none = absurd (none says (says_of word text says reads))
refused_operand word text (Err cause) reads known none =
    elim (why_refused word text cause reads) [
      | inl (is, no_directive, no_mnemonic) ↦ elim known [
        | inl known ↦ absurd (known no_directive)
        | inr known ↦ absurd (known no_mnemonic)
      ]
      | inr (is, known) ↦ ap Err is
    ]

pub breaks_line : (line : List ℕ) (cause : AsmCause) → BreaksLine line cause → read_line line ≡ Err cause
breaks_line line causes.BadStatement breaks =
    elim breaks [
      | inl unprinted ↦ unprinted_line line unprinted
      | inr (word, behind, has, isnt) ↦ word_refused line word behind causes.BadStatement has (without_name has.text word behind has.worded isnt)
    ]
breaks_line line causes.UnknownWord (word, behind, has, name, none, other) =
    word_refused line word behind causes.UnknownWord has (with_word has.text word behind has.worded name ∙ unknown word behind none other)
breaks_line line causes.BadOperand (word, behind, has, name, known, none) =
    word_refused line word behind causes.BadOperand has
    (with_word has.text word behind has.worded name ∙ refused_operand word behind (read_word word behind) refl known none)
breaks_line line causes.OutOfRange breaks = absurd breaks
breaks_line line causes.DoubleLabel breaks = absurd breaks
breaks_line line causes.UnknownLabel breaks = absurd breaks
breaks_line line causes.WrongSection breaks = absurd breaks
breaks_line line causes.TooBig breaks = absurd breaks

-- one verdict

verdict_of : (line : List ℕ) (result : Result Line AsmCause) → read_line line ≡ result → ((says : Line) × SaysLine line says) ⊎ ((cause : AsmCause) × BreaksLine line cause)
verdict_of line (Ok says) e = inl (says, line_says line says e)
verdict_of line (Err cause) e = inr (cause, line_breaks line cause e)

pub either_one : (line : List ℕ) → ((says : Line) × SaysLine line says) ⊎ ((cause : AsmCause) × BreaksLine line cause)
either_one line = verdict_of line (read_line line) refl

pub never_both : (line : List ℕ) (says : Line) (cause : AsmCause) → SaysLine line says → BreaksLine line cause → ⊥
never_both line says cause is breaks =
    let fine : read_line line ≡ Ok says = says_line line says is in
    let bad : read_line line ≡ Err cause = breaks_line line cause breaks in
    cc

pub one_said : (line : List ℕ) (first second : Line) → SaysLine line first → SaysLine line second → first ≡ second
one_said line first second one two = same_ok {E = AsmCause} first second (sym (says_line line first one) ∙ says_line line second two)

pub one_cause : (line : List ℕ) (first second : AsmCause) → BreaksLine line first → BreaksLine line second → first ≡ second
one_cause line first second one two = same_err {A = Line} first second (sym (breaks_line line first one) ∙ breaks_line line second two)
