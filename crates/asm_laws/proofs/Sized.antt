-- The bytes of a section are as many as its lines fill.
use Rattle.std.proofs.Common.{◌≡◌, ◌∙◌, ap, sym, subst, ℕ, zero, suc, ◌+◌, ◌*◌, ℤ, pos, ◌-ℤ◌, Bool, true, false, ◌&&◌, if◌then◌else◌, List, [], ◌∷◌, ◌++◌, length, flat_map, filter_map, replicate, refl, arith, length-append, append_assoc, append-nil}
use Rattle.std.specs.Prelude.{Option, Some, None, nat_lt, slice_get}
use Rattle.std.specs.List.{list_any, range_with_len}
use Rattle.std.specs.Option.{is_some}
use Rattle.std.specs.Int.{w32, to_le_bytes}
use Rattle.std.specs.Str.{bytes_eq}
use Rattle.std.proofs.lemmas.List.{length-map, length-replicate}
use Rattle.asm_write.specs.declared.starts.Starts.{Starts}
use Rattle.asm_write.specs.Sizes.{plt_size}
use Rattle.rv_isa.specs.Encoding.{word_of}
use Rattle.asm_statement.specs.declared.directive.DataSize.{DataSize}
use Rattle.asm_statement.specs.declared.directive.DataSize.TheVariants as sizes
use Rattle.asm_statement.specs.declared.directive.Directive.{Directive}
use Rattle.asm_statement.specs.declared.directive.Directive.TheVariants as directives
use Rattle.asm_statement.specs.declared.directive.Doubleword.TheVariants as doublewords
use Rattle.asm_statement.specs.declared.directive.Section.{Section}
use Rattle.asm_statement.specs.declared.directive.Section.TheVariants as sections
use Rattle.asm_statement.specs.declared.instruction.Instruction.{Instruction}
use Rattle.asm_statement.specs.declared.line.Line.{Line}
use Rattle.asm_statement.specs.declared.line.Statement.{Statement}
use Rattle.asm_statement.specs.declared.line.Statement.TheVariants as statements
use Rattle.asm_layout.specs.declared.place.Place.{Place}
use Rattle.asm_layout.specs.declared.uses.GotUse.{GotUse}
use Rattle.asm_layout.specs.Contents.{contents_of}
use Rattle.asm_layout.specs.Expansions.{Operand, Registers, Immediate, Upper, Word, Label, Code, Entry, expansion, operand_of}
use Rattle.asm_layout.specs.Faults.{HasNoFault, for_statement, statement_fits, statement_is_known, statement_may_stand, directive_may_stand, number_fits, all_have_form, operand_is_known}
use Rattle.asm_layout.specs.Fixes.{addend_of}
use Rattle.asm_layout.specs.Numbers.{bytes_of, count_of}
use Rattle.asm_layout.specs.Object.{instr_bytes, slot_code, plt_begin, plt_bytes, data_bytes, directive_bytes, statement_bytes, bytes_in, lines_bytes, section_bytes, code_of}
use Rattle.asm_layout.specs.Places.{directive_size, filled, filling, is_section, padding, place_after, place_at, size_at, words_in}
use Rattle.asm_layout.specs.Spots.{sections_of}
use Rattle.asm_layout.specs.Uses.{slots, got_uses, got_use, callee, code_name, entry_of, if_preemptible, same_use, distinct}
use Rattle.asm_layout.specs.Words.{address_at, instrs_at, instrs_of, line_words, operand_value, statement_words, words_at, words_or_none}
use Rattle.asm_laws.specs.Lemmas.Passed.{Passes, got_at, passes}
use Rattle.asm_laws.specs.Lemmas.Filled.{one_more, is_same}
use Rattle.asm_laws.specs.Lemmas.Given.{given, same_name}
use Rattle.asm_laws.proofs.Known.{same_as_itself, HasSlot, valued}
use Rattle.asm_laws.proofs.Ordered.{at_line}
use Rattle.asm_laws.specs.ElfWritten.Fitting.{FitsSections}

first_of : (a b : Bool) → (a && b) ≡ true → a ≡ true
first_of true b both = refl
first_of false b both = absurd (cc both)

-- The words of an instruction

four_each : (words : List ℕ) → length (flat_map (to_le_bytes w32) words) ≡ 4 * length words
four_each [] = refl
four_each (word ∷ words) = let rest = four_each words in omega (arith, length-append (to_le_bytes w32 word) (flat_map (to_le_bytes w32) words), rest)

abbrev HasRoom : Type 0
HasRoom = (instruction : Instruction) (value : ℤ) → length ((expansion instruction).instrs value) ≡ words_in instruction

some_words : HasRoom → (instruction : Instruction) (value : Option ℤ) → is_some value ≡ true → length (words_or_none (instrs_of (expansion instruction) value)) ≡ words_in instruction
some_words room instruction None there = absurd (cc there)
some_words room instruction (Some value) there = length-map ((expansion instruction).instrs value) word_of ∙ room instruction value

abbrev said : Instruction → Option Statement
said instruction = Some (statements.Instruction instruction)

slot_of : (lines before rest : List Line) (line : Line) (instruction : Instruction) → lines ≡ before ++ line ∷ rest → line.statement ≡ said instruction
    → (operand : Operand) → operand ≡ operand_of instruction → HasSlot lines operand
unfolding slots got_uses distinct
slot_of lines before rest line instruction whole is Registers op = tt
slot_of lines before rest line instruction whole is (Immediate number) op = tt
slot_of lines before rest line instruction whole is (Upper number) op = tt
slot_of lines before rest line instruction whole is (Word number) op = tt
slot_of lines before rest line instruction whole is (Label name) op = tt
slot_of lines before rest line instruction whole is (Code name) op = λ other.
    let called : callee line.statement ≡ Some name = ap callee is ∙ ap code_name (sym op) in
    let gives : if_preemptible lines (callee line.statement) ≡ Some name = ap (if_preemptible lines) called ∙ rw other refl in
    subst (λ (all : List Line). list_any (bytes_eq name) (distinct bytes_eq (filter_map (λ line. if_preemptible lines (callee line.statement)) all)) ≡ true) (sym whole)
    (given bytes_eq (λ line. if_preemptible lines (callee line.statement)) before line rest name (same_name name) gives)
slot_of lines before rest line instruction whole is (Entry kind name) op =
    let got : GotUse = record { kind = kind; name = name } in
    let gives : got_use line.statement ≡ Some got = ap got_use is ∙ ap entry_of (sym op) in
    subst (λ (all : List Line). list_any (same_use got) (distinct same_use (filter_map (λ line. got_use line.statement) all)) ≡ true) (sym whole)
    (given same_use (λ line. got_use line.statement) before line rest got (same_as_itself got) gives)

instruction_bytes : HasRoom → (lines before rest : List Line) (line : Line) (instruction : Instruction) (k : ℕ) → k ≡ length before → lines ≡ before ++ line ∷ rest
    → line.statement ≡ said instruction → slice_get lines k ≡ Some line → Passes lines k line → length (flat_map (to_le_bytes w32) (words_at lines k)) ≡ 4 * words_in instruction
unfolding words_at
instruction_bytes room lines before rest line instruction k count whole is here (fits, (known, stands)) =
    let operand = operand_of instruction in
    let number : number_fits operand ≡ true = first_of (number_fits operand) (all_have_form (instrs_at lines k instruction)) (ap (for_statement (statement_fits lines k)) (sym is) ∙ fits) in
    let target : operand_is_known lines operand ≡ true = ap (for_statement (statement_is_known lines)) (sym is) ∙ known in
    let value = valued lines (address_at lines k) operand number target (slot_of lines before rest line instruction whole is operand refl) in
    let words : line_words lines k (slice_get lines k) ≡ words_or_none (instrs_at lines k instruction) = ap (line_words lines k) here ∙ ap (statement_words lines k) is in
    four_each (line_words lines k (slice_get lines k)) ∙ ap (λ words. 4 * length words) words
    ∙ ap (λ n. 4 * n) (some_words room instruction (operand_value lines (address_at lines k) operand) value)

-- The bytes of a directive

of_number : (size : DataSize) (number : ℕ) → length (data_bytes size number) ≡ bytes_of size
of_number sizes.Word number = refl
of_number sizes.Half number = refl
of_number sizes.Byte number = refl

zeros : (n : ℕ) → length (replicate n (zero)) ≡ n
zeros n = length-replicate {A = ℕ} n zero

directive_sized : (lines : List Line) (starts : Starts) (place : Place) (directive : Directive) → directive_may_stand place.section directive ≡ true
    → is_section sections.Bss place.section ≡ false → length (directive_bytes lines starts place directive) ≡ directive_size place.offset directive
unfolding directive_size
directive_sized lines starts place (directives.Soname name) stands other = refl
directive_sized lines starts place (directives.Needed name) stands other = refl
directive_sized lines starts place (directives.Entry name) stands other = refl
directive_sized lines starts place (directives.Export export name) stands other = refl
directive_sized lines starts place (directives.Weak name) stands other = refl
directive_sized lines starts place (directives.Version name) stands other = refl
directive_sized lines starts place (directives.Entries array name) stands other = refl
directive_sized lines starts place (directives.Data size number) stands other = of_number size (addend_of number)
directive_sized lines starts place (directives.Zero number) stands other = zeros (count_of number)
directive_sized lines starts place (directives.Section _) stands other = refl
directive_sized lines starts place (directives.Kind kind) stands other = refl
directive_sized lines starts place (directives.Hash hash) stands other = refl
directive_sized lines starts place (directives.Flags flags) stands other = refl
directive_sized lines starts place (directives.Symver symver) stands other = refl
directive_sized lines starts place (directives.Need need) stands other = refl
directive_sized lines starts place (directives.Dword (doublewords.Number number)) stands other = refl
directive_sized lines starts place (directives.Dword (doublewords.Address name addend)) stands other = refl
directive_sized lines starts place (directives.Asciz text) stands other = length-append text (0 ∷ [])
directive_sized lines starts place (directives.Align alignment) stands other = zeros (padding place.offset alignment)
directive_sized lines starts place directives.Relr stands other = refl
directive_sized lines starts place (directives.Copy name size) stands other = absurd (cc (sym stands ∙ other))

-- The bytes of a line, and of a section

line_sized : HasRoom → (lines before rest : List Line) (line : Line) (starts : Starts) (k : ℕ) → k ≡ length before → lines ≡ before ++ line ∷ rest
    → slice_get lines k ≡ Some line → Passes lines k line → is_section sections.Bss (place_at lines k).section ≡ false
    → (statement : Option Statement) → line.statement ≡ statement → length (statement_bytes lines starts k statement) ≡ size_at (place_at lines k).offset statement
line_sized room lines before rest line starts k count whole here passed other None is = refl
line_sized room lines before rest line starts k count whole here (fits, (known, stands)) other (Some (statements.Directive directive)) is =
    directive_sized lines starts (place_at lines k) directive (ap (for_statement (statement_may_stand (place_at lines k).section)) (sym is) ∙ stands) other
line_sized room lines before rest line starts k count whole here passed other (Some (statements.Instruction instruction)) is =
    instruction_bytes room lines before rest line instruction k count whole is here passed

section_sized : HasRoom → (lines : List Line) → HasNoFault lines → (starts : Starts) (section : Section) → is_section sections.Bss section ≡ false
    → (before rest : List Line) (k : ℕ) → k ≡ length before → lines ≡ before ++ rest
    → filled section before + length (lines_bytes lines starts section k rest) ≡ filled section (before ++ rest)
section_sized room lines faultless starts section other before [] k count whole = omega (arith, ap (filled section) (append-nil before))
section_sized room lines faultless starts section other before (line ∷ rest) k count whole =
    let here : slice_get lines k ≡ Some line = ap (slice_get lines) count ∙ ap (λ (all : List Line). slice_get all (length before)) whole ∙ got_at before line rest in
    let passed = passes lines k line faultless here in
    let longer : k + 1 ≡ length (before ++ line ∷ []) = omega (arith, count, length-append before (line ∷ [])) in
    let again : (before ++ line ∷ []) ++ rest ≡ before ++ line ∷ rest = append_assoc before (line ∷ []) rest in
    let more = section_sized room lines faultless starts section other (before ++ line ∷ []) rest (k + 1) longer (whole ∙ sym again) in
    let place : place_at lines k ≡ place_after before = at_line lines before (line ∷ rest) k count whole in
    let size = size_at (filled section before) line.statement in
    let P : Bool → Type 0 = λ own. is_section section (place_at lines k).section ≡ own
    → filled section before + length (if own then statement_bytes lines starts k line.statement else []) ≡ (if own then filled section before + size else filled section before) in
    let own : is_section section (place_at lines k).section ≡ true → filled section before + length (statement_bytes lines starts k line.statement) ≡ filled section before + size = λ is.
    let same : section ≡ (place_at lines k).section = is_same section (place_at lines k).section is in
    let there : is_section sections.Bss (place_at lines k).section ≡ false = ap (is_section sections.Bss) (sym same) ∙ other in
    let offset : (place_at lines k).offset ≡ filled section before = ap (λ (p : Place). p.offset) place ∙ ap (λ s. filled s before) (sym (same ∙ ap (λ (p : Place). p.section) place)) in
    ap (λ n. filled section before + n) (line_sized room lines before rest line starts k count whole here passed there line.statement refl ∙ ap (λ n. size_at n line.statement) offset) in
    let cases : (own : Bool) → P own = λ is_own. elim is_own as P [ true ↦ own | false ↦ λ is. omega arith ] in
    let first = cases (is_section section (place_at lines k).section) refl in
    let filled_more = one_more section before line ∙ ap (λ (s : Section). if is_section section s then filled section before + size else filled section before) (sym (ap (λ (p : Place). p.section) place)) in
    let parts = length-append (bytes_in lines starts section k line) (lines_bytes lines starts section (k + 1) rest) in
    sum (filled section before) (length (bytes_in lines starts section k line)) (length (lines_bytes lines starts section (k + 1) rest)) _ _ parts (first ∙ sym filled_more) more
    ∙ ap (filled section) again
  where
    sum : (a b c d e : ℕ) → d ≡ b + c → {f : ℕ} → a + b ≡ e → e + c ≡ f → a + d ≡ f
    sum a b c d e parts first more = omega (arith, parts, first, more)

none_filled : (section : Section) → filled section [] ≡ 0
unfolding filling
none_filled section = refl

sized : HasRoom → (lines : List Line) → HasNoFault lines → (starts : Starts) (section : Section) → is_section sections.Bss section ≡ false
    → length (section_bytes lines starts section) ≡ filled section lines
sized room lines faultless starts section other =
    let whole = section_sized room lines faultless starts section other [] lines 0 refl refl in
    let none = none_filled section in
    omega (arith, whole, none)

-- The procedure linkage table

each_slot : (plt got_plt : ℕ) (slots : List ℕ) → length (flat_map (slot_code plt got_plt) slots) ≡ 16 * length slots
each_slot plt got_plt [] = refl
each_slot plt got_plt (slot ∷ slots) = let rest = each_slot plt got_plt slots in omega (arith, length-append (slot_code plt got_plt slot) (flat_map (slot_code plt got_plt) slots), rest)

range_long : (least n : ℕ) → length (range_with_len least n) ≡ n
range_long least zero = refl
range_long least (suc n) = ap suc (range_long (least + 1) n)

plt_sized : (plt got_plt slots : ℕ) → length (plt_bytes plt got_plt slots) ≡ plt_size slots
unfolding plt_bytes
plt_sized plt got_plt slots =
    let begin = instr_bytes (plt_begin (pos got_plt -ℤ pos plt)) in
    let codes = flat_map (slot_code plt got_plt) (range_with_len 0 slots) in
    let some : length (begin ++ codes) ≡ 32 + 16 * slots = omega (arith, length-append begin codes, each_slot plt got_plt (range_with_len 0 slots), range_long 0 slots) in
    let P : Bool → Type 0 = λ has. length (if has then begin ++ codes else []) ≡ (if has then 32 + 16 * slots else 0) in
    let cases : (has : Bool) → P has = λ has. elim has as P [ true ↦ some | false ↦ refl ] in
    cases (nat_lt 0 slots)

pub sections_fit : HasRoom → (lines : List Line) → HasNoFault lines → (starts : Starts) → FitsSections (contents_of lines) (code_of lines starts)
unfolding contents_of code_of sections_of
sections_fit room lines faultless starts = record {
  rodata = sized room lines faultless starts sections.Rodata refl;
  plt = plt_sized _ _ (length (slots lines)) ∙ ap plt_size (sym (length-map (slots lines) _));
  text = sized room lines faultless starts sections.Text refl;
  relro = sized room lines faultless starts sections.Relro refl;
  tdata = sized room lines faultless starts sections.Tdata refl;
  content = sized room lines faultless starts sections.Data refl;
}
