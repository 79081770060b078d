-- Each generated source denotes an object: its lines have no fault, and the object isn't too big.
use Rattle.std.proofs.Common.{◌≡◌, ◌∙◌, ap, refl, ℕ, zero, suc, ◌+◌, ◌*◌, ◌/◌, ◌%◌, ◌^◌, ◌<◌, ◌≤◌, Bool, true, false, nat_lt, if◌then◌else◌, List, [], ◌∷◌, ◌++◌, length, map, flat_map, filter_map, arith, length-append}
use Rattle.std.specs.Prelude.{None}
use Rattle.std.specs.List.{All, cons_option, range_with_len}
use Rattle.std.proofs.lemmas.Nat.{div_below, mod_below}
use Rattle.ld_base.specs.declared.fault.AsmCause.{AsmCause}
use Rattle.ld_base.specs.declared.linking.File.{File}
use Rattle.asm_write.specs.Starts.{starts_of}
use Rattle.asm_laws.specs.ElfWritten.Standing.{AlignsInPages}
use Rattle.asm_statement.specs.declared.directive.Directive.TheVariants as directives
use Rattle.asm_statement.specs.declared.fault.AsmFault.TheVariants.{At, Memory}
use Rattle.asm_statement.specs.declared.line.Line.{Line}
use Rattle.asm_grammar.specs.Grammar.{SaysSource}
use Rattle.asm_layout.specs.Contents.{contents_of, string_names}
use Rattle.asm_layout.specs.Expansions.{expansion}
use Rattle.asm_layout.specs.Object.{object_of}
use Rattle.asm_layout.specs.Uses.{distinct, exported_by, exports, if_labelled, same_export}
use Rattle.asm_layout.specs.AsmDenotes.Denotes.{AsmBroken, Denotes}
use Rattle.asm_laws.specs.Lemmas.Each.{Each, all, both}
use Rattle.asm_laws.specs.Lemmas.Fewer.{once_of}
use Rattle.asm_laws.specs.Lemmas.Lists.{joined}
use Rattle.asm_laws.specs.Said.{IsSaid}
use Rattle.asm_laws.specs.Short.{AreOfSource}
use Rattle.asm_laws.specs.AsmWhole.Aligned.{AreAligned}
use Rattle.asm_laws.specs.AsmWhole.Named.{AreNames}
use Rattle.lib_gen.specs.GeneratedSources.Shape.{call_count, function_count, library_count}
use Rattle.lib_gen.specs.GeneratedSources.Sources.{library_file, library_source, program_file, program_source, sources}
use Rattle.lib_gen.specs.GeneratedLines.Lines.{call_said, calls_said, exit_said, first_said, function_said, last_said, library_lines, library_name, library_said, needed_said, nothing, program_lines, program_said, says}
use Rattle.lib_gen.proofs.GeneratedLines.Sources.{few_calls, few_functions, few_libraries, function_short, library_count_of, library_short, program_count_of, some_calls}
use Rattle.lib_gen.specs.GeneratedDenotes.Accepted.{HasObject, IsUnrefused}
use Rattle.lib_gen.proofs.GeneratedDenotes.Clean.{clean}
use Rattle.lib_gen.proofs.GeneratedDenotes.Ends.{EndsLow, low_ends, not_too_big}
use Rattle.lib_gen.proofs.GeneratedDenotes.Labels.{IsKnown, New, library_known, library_new, program_known, program_new}
use Rattle.lib_gen.proofs.GeneratedDenotes.Plain.{ArePlain, IsOne}
use Rattle.lib_gen.proofs.GeneratedDenotes.Sizes.{part_few}

-- What is known of a source's lines

abbrev pub Short : Type 0
Short = (source : List ℕ) (lines : List Line) → SaysSource source lines → AreOfSource lines × AreAligned lines × AreNames lines

abbrev pub Aligns : Type 0
Aligns = (lines : List Line) → AreAligned lines → AlignsInPages (contents_of lines)

abbrev pub Strings : Type 0
Strings = (lines : List Line) → All (IsSaid lines) (string_names lines)

denoted : Short → Aligns → Strings → (source : List ℕ) (lines : List Line) → SaysSource source lines → ArePlain lines → length lines ≤ 8200 → length (exports lines) ≤ 140
    → New [] lines → Each (IsKnown lines) lines → HasObject source
denoted short aligns strings source lines says plain count exported new known =
    let (few, aligned, names) = short source lines says in
    let ends : EndsLow (starts_of (contents_of lines)) = low_ends (contents_of lines) (aligns lines aligned) (part_few lines plain count exported (strings lines)) in (
      object_of lines,
      record {
        lines = lines;
        says = says;
        object = record { faultless = clean lines plain count ends new known; fits = not_too_big lines ends; are = refl };
      },
    )

-- Lists over numbers in order

each_number : {A : Type 0} (P : A → Type 0) (f : ℕ → List A) (n a : ℕ) → ((k : ℕ) → k < a + n → Each P (f k)) → Each P (flat_map f (range_with_len a n))
each_number P f zero a is = tt
each_number P f (suc n) a is =
    both P (f a) (flat_map f (range_with_len (a + 1) n)) (is a (omega arith)) (each_number P f n (a + 1) (λ k less. is k (omega (arith, less))))

each_mapped : {A : Type 0} (P : A → Type 0) (f : ℕ → A) (n a : ℕ) → ((k : ℕ) → k < a + n → P (f k)) → Each P (map f (range_with_len a n))
each_mapped P f zero a is = tt
each_mapped P f (suc n) a is = (is a (omega arith), each_mapped P f n (a + 1) (λ k less. is k (omega (arith, less))))

-- A library

plain_needed : (b : Bool) (d : ℕ) → d < 2 ^ 64 → ArePlain (if b then says (directives.Needed (library_name d)) ∷ [] else [])
plain_needed true d low = (record { plain = tt; short = (library_short d low, tt) }, tt)
plain_needed false d low = tt

plain_function : (i j : ℕ) → i < 2 ^ 64 → j < 2 ^ 64 → ArePlain (function_said i j)
unfolding expansion
plain_function i j low less =
    let short = function_short i j low less in
    (record { plain = tt; short = (short, tt) }, (record { plain = tt; short = (short, (omega arith, tt)) }, tt))

plain_last : (i : ℕ) → i < 64 → ArePlain (last_said i)
unfolding expansion
plain_last i low = (
  record { plain = tt; short = (omega arith, tt) },
  (record { plain = (i + 1, refl, omega (arith, low)); short = (omega arith, tt) }, (record { plain = tt; short = tt }, tt)),
)

plain_nothing : ArePlain (nothing ∷ [])
plain_nothing = (record { plain = tt; short = tt }, tt)

library_plain : (libraries functions i : ℕ) → i < 64 → functions ≤ 64 → ArePlain (library_lines libraries functions i)
unfolding library_said
library_plain libraries functions i low few =
    let last = flat_map (function_said i) (range_with_len 0 functions) ++ last_said i in
    let second = needed_said libraries (2 * i + 2) ++ last in
    let first = needed_said libraries (2 * i + 1) ++ second in
    both IsOne (library_said libraries functions i) (nothing ∷ [])
    (both IsOne (says (directives.Soname (library_name i)) ∷ []) first (record { plain = tt; short = (library_short i (omega (arith, low)), tt) }, tt)
    (both IsOne (needed_said libraries (2 * i + 1)) second (plain_needed (nat_lt (2 * i + 1) libraries) (2 * i + 1) (omega (arith, low)))
    (both IsOne (needed_said libraries (2 * i + 2)) last (plain_needed (nat_lt (2 * i + 2) libraries) (2 * i + 2) (omega (arith, low)))
    (both IsOne (flat_map (function_said i) (range_with_len 0 functions)) (last_said i)
    (each_number IsOne (function_said i) functions 0 (λ j less. plain_function i j (omega (arith, low)) (omega (arith, less, few)))) (plain_last i low)))))
    plain_nothing

few_exported : (lines : List Line) (n : ℕ) → length lines ≤ n → length (exports lines) ≤ n
unfolding exports
few_exported lines n few = omega (arith, few, once_of same_export (λ line. if_labelled lines (exported_by lines line.statement)) lines)

-- The program

plain_call : (functions x : ℕ) → x / functions < 2 ^ 64 → x % functions < 2 ^ 64 → ArePlain (call_said functions x)
unfolding expansion
plain_call functions x low less =
    (record { plain = tt; short = (function_short (x / functions) (x % functions) low less, tt) }, (record { plain = tt; short = tt }, tt))

plain_first : ArePlain first_said
unfolding expansion
plain_first = (
  record { plain = tt; short = tt },
  (record { plain = tt; short = (omega arith, tt) }, (record { plain = (0, refl, omega arith); short = (omega arith, tt) }, tt)),
)

plain_exit : ArePlain exit_said
unfolding expansion
plain_exit = (record { plain = tt; short = tt }, (record { plain = (93, refl, omega arith); short = tt }, (record { plain = tt; short = tt }, tt)))

called : (libraries functions x : ℕ) → 0 < functions → functions ≤ 64 → libraries ≤ 64 → x < libraries * functions → ArePlain (call_said functions x)
called libraries functions x some few small within =
    let i = div_below x functions libraries some within in
    let j = mod_below x functions some in
    plain_call functions x (omega (arith, i, small)) (omega (arith, j, few))

program_plain : (number : ℕ) → ArePlain (program_lines number)
unfolding program_said
program_plain number =
    let (some_libraries, few) = few_libraries number in
    let (some_functions, low) = few_functions number in
    let some = some_calls (library_count number) (function_count number) (omega (arith, some_libraries)) (omega (arith, some_functions)) in
    let calls = call_count number in
    both IsOne (program_said number) (nothing ∷ [])
    (both IsOne first_said (calls_said (function_count number) number calls ++ exit_said) plain_first
    (both IsOne (calls_said (function_count number) number calls) exit_said
    (each_number IsOne (λ place. call_said (function_count number) ((place + number) % calls)) calls 0
    (λ place less. called (library_count number) (function_count number) ((place + number) % calls) (omega (arith, some_functions)) low few (mod_below (place + number) calls some)))
    plain_exit))
    plain_nothing

-- it exports nothing

abbrev Hidden : List Line → Line → Type 0
Hidden lines line = exported_by lines line.statement ≡ None

hidden_call : (lines : List Line) (functions x : ℕ) → Each (Hidden lines) (call_said functions x)
hidden_call lines functions x = (refl, (refl, tt))

all_hidden : (lines : List Line) (number : ℕ) → Each (Hidden lines) (program_lines number)
unfolding program_said
all_hidden lines number =
    both (Hidden lines) (program_said number) (nothing ∷ [])
    (both (Hidden lines) first_said (calls_said (function_count number) number (call_count number) ++ exit_said) (refl, (refl, (refl, tt)))
    (both (Hidden lines) (calls_said (function_count number) number (call_count number)) exit_said
    (joined (Hidden lines) (λ place. call_said (function_count number) ((place + number) % call_count number))
    (λ place. hidden_call lines (function_count number) ((place + number) % call_count number)) (range_with_len 0 (call_count number)))
    (refl, (refl, (refl, tt)))))
    (refl, tt)

none_exported : (lines rest : List Line) → Each (Hidden lines) rest → filter_map (λ line. if_labelled lines (exported_by lines line.statement)) rest ≡ []
none_exported lines [] hidden = refl
none_exported lines (line ∷ rest) (first, hidden) =
    ap (λ given. cons_option (if_labelled lines given) (filter_map (λ line. if_labelled lines (exported_by lines line.statement)) rest)) first
    ∙ none_exported lines rest hidden

program_exports : (number : ℕ) → exports (program_lines number) ≡ []
unfolding exports distinct
program_exports number = rw (none_exported (program_lines number) (program_lines number) (all_hidden (program_lines number) number)) refl

-- All of them

abbrev pub LibrariesSay : Type 0
LibrariesSay = (number i : ℕ) → i < library_count number
    → SaysSource (library_source (library_count number) (function_count number) i) (library_lines (library_count number) (function_count number) i)

abbrev pub ProgramsSay : Type 0
ProgramsSay = (number : ℕ) → SaysSource (program_source number) (program_lines number)

module _ (short : Short) (aligns : Aligns) (strings : Strings) (libraries : LibrariesSay) (programs : ProgramsSay) where
  library_denotes : (number i : ℕ) → i < library_count number → HasObject (library_source (library_count number) (function_count number) i)
  library_denotes number i less =
      let count = library_count number in
      let functions = function_count number in
      let few = (few_libraries number).1 in
      let low = (few_functions number).1 in
      let lines = library_lines count functions i in
      let long : length lines ≤ 140 = omega (arith, library_count_of count functions i, low, length-append (library_said count functions i) (nothing ∷ [])) in
      denoted short aligns strings (library_source count functions i) lines (libraries number i less) (library_plain count functions i (omega (arith, less, few)) low)
      (omega (arith, long)) (few_exported lines 140 long) (library_new count functions i low) (library_known count functions i low)

  program_denotes : (number : ℕ) → HasObject (program_source number)
  program_denotes number =
      let lines = program_lines number in
      let long : length lines ≤ 8200 = omega (arith, program_count_of number, few_calls number, length-append (program_said number) (nothing ∷ [])) in
      denoted short aligns strings (program_source number) lines (programs number) (program_plain number) long
      (omega (arith, ap length (program_exports number))) (program_new number) (program_known number)

  pub denote : (number : ℕ) → All (λ file. HasObject file.bytes) (sources number)
  unfolding sources
  denote number =
      let P : File → Type 0 = λ file. HasObject file.bytes in
      all P (map (library_file number) (range_with_len 0 (library_count number)) ++ program_file number ∷ [])
      (both P (map (library_file number) (range_with_len 0 (library_count number))) (program_file number ∷ [])
      (each_mapped P (library_file number) (library_count number) 0 (λ i less. library_denotes number i (omega (arith, less)))) (program_denotes number, tt))

-- A source that denotes an object is not refused

abbrev pub NeverBoth : Type 0
NeverBoth = (source bytes : List ℕ) (number : ℕ) (cause : AsmCause) → Denotes source bytes → AsmBroken source number cause → ⊥

pub unrefused : NeverBoth → (source : List ℕ) → HasObject source → IsUnrefused source
unrefused never source (bytes, denotes) Memory tells = refl
unrefused never source (bytes, denotes) (At number cause) tells = absurd (never source bytes number cause denotes tells)
