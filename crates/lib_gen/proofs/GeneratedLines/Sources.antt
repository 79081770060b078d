-- The source of a library, and that of the program, part by part.
use Rattle.std.proofs.Common.{◌≡◌, ◌∙◌, ap, subst, refl, ℕ, zero, suc, ◌+◌, ◌*◌, ◌/◌, ◌%◌, ◌^◌, ◌<◌, ◌≤◌, Bool, true, false, nat_lt, if◌then◌else◌, List, [], ◌∷◌, ◌++◌, length, flat_map, arith, codes, decimal, append_assoc, length-append}
use Rattle.std.specs.List.{range_with_len}
use Rattle.std.specs.Str.{byte}
use Rattle.std.proofs.lemmas.Fmt.{length-decimal-le}
use Rattle.std.proofs.lemmas.Nat.{div_below, mod_below, mul-le}
use Rattle.rv_isa.specs.declared.operation.RegOp.TheVariants as ops
use Rattle.asm_statement.specs.AsmWords.DirectiveWords.{directive_word}
use Rattle.asm_statement.specs.AsmWords.Kinds.{kind}
use Rattle.asm_statement.specs.AsmWords.Mnemonics.{mnemonic, word_form}
use Rattle.asm_statement.specs.AsmWords.Names.{is_name, is_name_byte, may_begin}
use Rattle.asm_statement.specs.AsmWords.Number.{digit_below, number}
use Rattle.asm_statement.specs.AsmWords.Registers.{register}
use Rattle.asm_statement.specs.AsmWords.Text.{is_blank, is_mark}
use Rattle.asm_statement.specs.declared.directive.ObjectKind.TheVariants as kinds
use Rattle.asm_statement.specs.declared.directive.Export.TheVariants as exports
use Rattle.asm_statement.specs.declared.directive.Directive.TheVariants as directives
use Rattle.asm_statement.specs.declared.instruction.PlainOp.TheVariants as plains
use Rattle.asm_statement.specs.declared.instruction.Instruction.TheVariants as instructions
use Rattle.asm_statement.specs.declared.line.Line.{Line}
use Rattle.asm_grammar.specs.Directives.{directive, named}
use Rattle.asm_grammar.specs.Grammar.{SaysLine, SaysSource}
use Rattle.asm_grammar.specs.Lines.{is_printed}
use Rattle.asm_grammar.specs.Operands.{instruction, of_registers}
use Rattle.asm_grammar.specs.Reading.{line_of, read_line, read_statement, read_text, statement}
use Rattle.asm_grammar.proofs.Verdicts.{line_says}
use Rattle.lib_gen.specs.GeneratedSources.Shape.{call_count, function_count, library_count}
use Rattle.lib_gen.specs.GeneratedSources.Sources.{call_lines, exit_lines, first_lines, function_lines, last_lines, library_source, name_line, program_source}
use Rattle.lib_gen.specs.GeneratedSources.Sources.{needed_line as needed_text}
use Rattle.lib_gen.specs.GeneratedLines.Lines.{at_label, call_said, calls_said, does, exit_said, first_said, function_name, function_said, last_said, library_lines, library_name, library_said, needed_said, nothing, program_lines, program_said, says}
use Rattle.lib_gen.specs.GeneratedLines.Lines.{number as plain_number}
use Rattle.lib_gen.proofs.GeneratedLines.Pieces.{Tells, all, both, one, where_there, whole}
use Rattle.lib_gen.proofs.GeneratedLines.Said.{IsLine, answer_line, call_line, export_line, needed_line, soname_line, tail_line}

-- A line

piece : (line : List ℕ) (says : Line) → IsLine line says → Tells (line ++ byte "\n" ∷ []) (says ∷ [])
piece line says is = one line says is.said is.no_feed is.short

-- lines of fixed text

export_last : IsLine (codes ".global g") (says (directives.Export exports.Global (codes "g")))
unfolding is_printed directive named statement read_statement read_text line_of read_line is_blank is_mark is_name_byte may_begin is_name directive_word mnemonic word_form
export_last = record { said = line_says (codes ".global g") (says (directives.Export exports.Global (codes "g"))) refl; no_feed = refl; short = omega arith }

returned : IsLine (codes "ret") (does (instructions.Plain plains.Ret))
unfolding is_printed of_registers instruction statement read_statement read_text line_of read_line is_blank is_mark is_name_byte may_begin is_name register directive_word mnemonic word_form
returned = record { said = line_says (codes "ret") (does (instructions.Plain plains.Ret)) refl; no_feed = refl; short = omega arith }

empty : SaysLine [] nothing
unfolding is_printed statement read_statement read_text line_of read_line is_blank is_mark is_name_byte may_begin is_name
empty = line_says [] nothing refl

kind_line : IsLine (codes ".kind prog") (says (directives.Kind kinds.Program))
unfolding is_printed directive kind statement read_statement read_text line_of read_line is_blank is_mark is_name_byte may_begin is_name directive_word mnemonic word_form
kind_line = record { said = line_says (codes ".kind prog") (says (directives.Kind kinds.Program)) refl; no_feed = refl; short = omega arith }

needed_first : IsLine (codes ".needed lib0.so") (says (directives.Needed (codes "lib0.so")))
unfolding is_printed directive named statement read_statement read_text line_of read_line is_blank is_mark is_name_byte may_begin is_name directive_word mnemonic word_form
needed_first = record { said = line_says (codes ".needed lib0.so") (says (directives.Needed (codes "lib0.so"))) refl; no_feed = refl; short = omega arith }

start_line : IsLine (codes "_start: li s0, 0") (at_label (codes "_start") (instructions.Li 8 (plain_number 0)))
unfolding is_printed of_registers instruction statement read_statement read_text line_of read_line is_blank is_mark is_name_byte may_begin is_name digit_below number register directive_word mnemonic word_form
start_line = record { said = line_says (codes "_start: li s0, 0") (at_label (codes "_start") (instructions.Li 8 (plain_number 0))) refl; no_feed = refl; short = omega arith }

sum_line : IsLine (codes "add s0, s0, a0") (does (instructions.Op ops.Add 8 8 10))
unfolding is_printed of_registers instruction statement read_statement read_text line_of read_line is_blank is_mark is_name_byte may_begin is_name register directive_word mnemonic word_form
sum_line = record { said = line_says (codes "add s0, s0, a0") (does (instructions.Op ops.Add 8 8 10)) refl; no_feed = refl; short = omega arith }

status_line : IsLine (codes "mv a0, s0") (does (instructions.Mv 10 8))
unfolding is_printed of_registers instruction statement read_statement read_text line_of read_line is_blank is_mark is_name_byte may_begin is_name register directive_word mnemonic word_form
status_line = record { said = line_says (codes "mv a0, s0") (does (instructions.Mv 10 8)) refl; no_feed = refl; short = omega arith }

exit_line : IsLine (codes "li a7, 93") (does (instructions.Li 17 (plain_number 93)))
unfolding is_printed of_registers instruction statement read_statement read_text line_of read_line is_blank is_mark is_name_byte may_begin is_name digit_below number register directive_word mnemonic word_form
exit_line = record { said = line_says (codes "li a7, 93") (does (instructions.Li 17 (plain_number 93))) refl; no_feed = refl; short = omega arith }

call_system : IsLine (codes "ecall") (does (instructions.Plain plains.Ecall))
unfolding is_printed of_registers instruction statement read_statement read_text line_of read_line is_blank is_mark is_name_byte may_begin is_name register directive_word mnemonic word_form
call_system = record { said = line_says (codes "ecall") (does (instructions.Plain plains.Ecall)) refl; no_feed = refl; short = omega arith }

-- Names, within a text

pub library_short : (i : ℕ) → i < 2 ^ 64 → length (library_name i) ≤ 50
unfolding library_name
library_short i low = omega (arith, length-decimal-le 20 i (omega arith) (omega (arith, low)) low, length-append (decimal i) (codes ".so"))

pub function_short : (i j : ℕ) → i < 2 ^ 64 → j < 2 ^ 64 → length (function_name i j) ≤ 50
unfolding function_name
function_short i j low less =
    omega (
      arith,
      length-decimal-le 20 i (omega arith) (omega (arith, low)) low,
      length-decimal-le 20 j (omega arith) (omega (arith, less)) less,
      length-append (decimal i) (codes "_" ++ decimal j),
    )

library_then : (i : ℕ) (rest : List ℕ) → library_name i ++ rest ≡ codes "lib" ++ (decimal i ++ (codes ".so" ++ rest))
unfolding library_name
library_then i rest = ap (λ (text : List ℕ). codes "lib" ++ text) (append_assoc (decimal i) (codes ".so") rest)

function_then : (i j : ℕ) (rest : List ℕ) → function_name i j ++ rest ≡ codes "f_" ++ (decimal i ++ (codes "_" ++ (decimal j ++ rest)))
unfolding function_name
function_then i j rest = ap (λ (text : List ℕ). codes "f_" ++ text) (append_assoc (decimal i) (codes "_" ++ decimal j) rest)

-- A library

soname_said : (i : ℕ) → i < 2 ^ 64 → Tells (name_line i) (says (directives.Soname (library_name i)) ∷ [])
soname_said i low =
    subst (λ text. Tells text (says (directives.Soname (library_name i)) ∷ [])) (ap (λ (text : List ℕ). codes ".soname " ++ text) (library_then i (byte "\n" ∷ [])))
    (piece (codes ".soname " ++ library_name i) (says (directives.Soname (library_name i))) (soname_line i low (library_short i low)))

one_needed : (d : ℕ) → d < 2 ^ 64
    → Tells (codes ".needed lib" ++ (decimal d ++ (codes ".so" ++ byte "\n" ∷ []))) (says (directives.Needed (library_name d)) ∷ [])
one_needed d low =
    subst (λ text. Tells text (says (directives.Needed (library_name d)) ∷ [])) (ap (λ (text : List ℕ). codes ".needed " ++ text) (library_then d (byte "\n" ∷ [])))
    (piece (codes ".needed " ++ library_name d) (says (directives.Needed (library_name d))) (needed_line d low (library_short d low)))

needs_said : (libraries d : ℕ) → d < 2 ^ 64 → Tells (needed_text libraries d) (needed_said libraries d)
needs_said libraries d low = where_there (nat_lt d libraries) _ _ (one_needed d low)

a_function : (i j : ℕ) → i < 2 ^ 64 → j < 2 ^ 64 → Tells (function_lines i j) (function_said i j)
a_function i j low less =
    let name = function_name i j in
    let short = function_short i j low less in
    let first = piece (codes ".global " ++ name) (says (directives.Export exports.Global name)) (export_line i j low less short) in
    let second = piece (name ++ codes ": tail g") (at_label name (instructions.Tail (codes "g"))) (tail_line i j low less short) in
    let tail : (name ++ codes ": tail g") ++ byte "\n" ∷ [] ≡ codes "f_" ++ (decimal i ++ (codes "_" ++ (decimal j ++ (codes ": tail g" ++ byte "\n" ∷ []))))
    = append_assoc name (codes ": tail g") (byte "\n" ∷ []) ∙ function_then i j (codes ": tail g" ++ byte "\n" ∷ []) in
    let text = codes "f_" ++ (decimal i ++ (codes "_" ++ (decimal j ++ (codes ": tail g" ++ byte "\n" ∷ [])))) in
    let whole : (codes ".global " ++ name ++ byte "\n" ∷ []) ++ ((name ++ codes ": tail g") ++ byte "\n" ∷ []) ≡ function_lines i j
    = ap (λ (t : List ℕ). (codes ".global " ++ name ++ byte "\n" ∷ []) ++ t) tail
    ∙ append_assoc (codes ".global " ++ name) (byte "\n" ∷ []) text
    ∙ ap (λ (t : List ℕ). codes ".global " ++ t) (function_then i j (byte "\n" ∷ text)) in
    subst (λ t. Tells t (function_said i j)) whole (both _ _ _ _ first second)

last_ones : (i : ℕ) → i < 64 → Tells (last_lines i) (last_said i)
last_ones i low =
    let short = length-decimal-le 20 (i + 1) (omega arith) (omega (arith, low)) (omega (arith, low)) in
    let first = piece (codes ".global g") (says (directives.Export exports.Global (codes "g"))) export_last in
    let second = piece (codes "g: li a0, " ++ decimal (i + 1)) (at_label (codes "g") (instructions.Li 10 (plain_number (i + 1)))) (answer_line (i + 1) (omega (arith, low)) short) in
    let third = piece (codes "ret") (does (instructions.Plain plains.Ret)) returned in
    subst (λ t. Tells t (last_said i)) (ap (λ (t : List ℕ). codes ".global g" ++ (byte "\n" ∷ (codes "g: li a0, " ++ t))) (again (decimal (i + 1))))
    (both _ _ _ _ first (both _ _ _ _ second third))
  where
    again : (text : List ℕ) → (text ++ byte "\n" ∷ []) ++ (codes "ret" ++ byte "\n" ∷ []) ≡ text ++ (byte "\n" ∷ (codes "ret" ++ byte "\n" ∷ []))
    again text = append_assoc text (byte "\n" ∷ []) (codes "ret" ++ byte "\n" ∷ [])

library_said_is : (libraries functions i : ℕ) → i < 64 → functions ≤ 64 → Tells (library_source libraries functions i) (library_said libraries functions i)
unfolding library_source library_said
library_said_is libraries functions i low few =
    both _ _ _ _ (soname_said i (omega (arith, low)))
    (both _ _ _ _ (needs_said libraries (2 * i + 1) (omega (arith, low)))
    (both _ _ _ _ (needs_said libraries (2 * i + 2) (omega (arith, low)))
    (both _ _ _ _ (all (function_lines i) (function_said i) functions 0 (λ j less. a_function i j (omega (arith, low)) (omega (arith, less, few))))
    (last_ones i low))))

-- How many lines

twice : (lines : ℕ → List Line) → ((k : ℕ) → length (lines k) ≤ 2) → (n a : ℕ) → length (flat_map lines (range_with_len a n)) ≤ 2 * n
twice lines few zero a = omega arith
twice lines few (suc n) a =
    let rest = twice lines few n (a + 1) in
    let first = few a in
    omega (arith, rest, first, length-append (lines a) (flat_map lines (range_with_len (a + 1) n)))

if_few : (b : Bool) (line : Line) → length (if b then line ∷ [] else []) ≤ 1
if_few true line = omega arith
if_few false line = omega arith

pub library_count_of : (libraries functions i : ℕ) → length (library_said libraries functions i) ≤ 6 + 2 * functions
unfolding library_said
library_count_of libraries functions i =
    let middle = flat_map (function_said i) (range_with_len 0 functions) in
    let first = needed_said libraries (2 * i + 1) in
    let second = needed_said libraries (2 * i + 2) in
    let one = if_few (nat_lt (2 * i + 1) libraries) (says (directives.Needed (library_name (2 * i + 1)))) in
    let other = if_few (nat_lt (2 * i + 2) libraries) (says (directives.Needed (library_name (2 * i + 2)))) in
    omega (
      arith,
      twice (function_said i) (λ j. omega arith) functions 0,
      one,
      other,
      length-append middle (last_said i),
      length-append second (middle ++ last_said i),
      length-append first (second ++ (middle ++ last_said i)),
    )

pub program_count_of : (number : ℕ) → length (program_said number) ≤ 6 + 2 * call_count number
unfolding program_said
program_count_of number =
    let calls = calls_said (function_count number) number (call_count number) in
    omega (arith, twice (λ place. call_said (function_count number) ((place + number) % call_count number)) (λ place. omega arith) (call_count number) 0, length-append calls exit_said)

-- The program

a_call : (functions x : ℕ) → x / functions < 2 ^ 64 → x % functions < 2 ^ 64 → Tells (call_lines functions x) (call_said functions x)
a_call functions x low less =
    let i = x / functions in
    let j = x % functions in
    let name = function_name i j in
    let rest = codes "add s0, s0, a0" ++ byte "\n" ∷ [] in
    let first = piece (codes "call " ++ name) (does (instructions.Call name)) (call_line i j low less (function_short i j low less)) in
    let second = piece (codes "add s0, s0, a0") (does (instructions.Op ops.Add 8 8 10)) sum_line in
    let whole : (codes "call " ++ name ++ byte "\n" ∷ []) ++ rest ≡ call_lines functions x
    = append_assoc (codes "call " ++ name) (byte "\n" ∷ []) rest ∙ ap (λ (t : List ℕ). codes "call " ++ t) (function_then i j (byte "\n" ∷ rest)) in
    subst (λ t. Tells t (call_said functions x)) whole (both _ _ _ _ first second)

first_ones : Tells first_lines first_said
first_ones =
    both _ _ _ _ (piece (codes ".kind prog") (says (directives.Kind kinds.Program)) kind_line)
    (both _ _ _ _ (piece (codes ".needed lib0.so") (says (directives.Needed (codes "lib0.so"))) needed_first)
    (piece (codes "_start: li s0, 0") (at_label (codes "_start") (instructions.Li 8 (plain_number 0))) start_line))

exit_ones : Tells exit_lines exit_said
exit_ones =
    both _ _ _ _ (piece (codes "mv a0, s0") (does (instructions.Mv 10 8)) status_line)
    (both _ _ _ _ (piece (codes "li a7, 93") (does (instructions.Li 17 (plain_number 93))) exit_line)
    (piece (codes "ecall") (does (instructions.Plain plains.Ecall)) call_system))

called : (libraries functions x : ℕ) → 0 < functions → functions ≤ 64 → libraries ≤ 64 → x < libraries * functions → Tells (call_lines functions x) (call_said functions x)
called libraries functions x some few small within =
    let i = div_below x functions libraries some within in
    let j = mod_below x functions some in
    a_call functions x (omega (arith, i, small)) (omega (arith, j, few))

pub few_libraries : (number : ℕ) → (8 ≤ library_count number) × (library_count number ≤ 64)
unfolding library_count
few_libraries number = (omega arith, omega arith)

pub few_functions : (number : ℕ) → (4 ≤ function_count number) × (function_count number ≤ 64)
unfolding function_count
few_functions number = (omega arith, omega arith)

pub some_calls : (libraries functions : ℕ) → 0 < libraries → 0 < functions → 0 < libraries * functions
some_calls (suc libraries) (suc functions) one other = omega arith
some_calls zero functions one other = absurd (omega (arith, one))
some_calls (suc libraries) zero one other = absurd (omega (arith, other))

pub few_calls : (number : ℕ) → call_count number ≤ 4096
few_calls number = mul-le (library_count number) (function_count number) 64 64 (few_libraries number).1 (few_functions number).1

program_said_is : (number : ℕ) → Tells (program_source number) (program_said number)
unfolding program_source program_said
program_said_is number =
    let (some_libraries, few) = few_libraries number in
    let (some_functions, low) = few_functions number in
    let some = some_calls (library_count number) (function_count number) (omega (arith, some_libraries)) (omega (arith, some_functions)) in
    let calls = call_count number in
    both _ _ _ _ first_ones
    (both _ _ _ _
    (all (λ place. call_lines (function_count number) ((place + number) % calls)) (λ place. call_said (function_count number) ((place + number) % calls)) calls 0
    (λ place less. called (library_count number) (function_count number) ((place + number) % calls) (omega (arith, some_functions)) low few (mod_below (place + number) calls some)))
    exit_ones)

-- Both

pub library_says : (number i : ℕ) → i < library_count number
    → SaysSource (library_source (library_count number) (function_count number) i) (library_lines (library_count number) (function_count number) i)
library_says number i less =
    let libraries = library_count number in
    let functions = function_count number in
    let few = (few_libraries number).1 in
    let low = (few_functions number).1 in
    whole (library_source libraries functions i) (library_said libraries functions i) (library_said_is libraries functions i (omega (arith, less, few)) low) empty
    (omega (arith, library_count_of libraries functions i, low))

pub program_says : (number : ℕ) → SaysSource (program_source number) (program_lines number)
program_says number =
    whole (program_source number) (program_said number) (program_said_is number) empty (omega (arith, program_count_of number, few_calls number))
