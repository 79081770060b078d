-- What each line of a generated source says.
use Rattle.std.proofs.Common.{◌≡◌, ◌≢◌, ap, sym, subst, refl, ℕ, ◌+◌, ◌^◌, ◌<◌, ◌≤◌, ◌==◌, Bool, true, false, not, List, [], ◌∷◌, ◌++◌, length, reverse, Option, Some, None, inl, inr, arith, codes, decimal, append-nil, length-append}
use Rattle.std.specs.Fmt.{digits}
use Rattle.std.specs.List.{list_all}
use Rattle.std.specs.Str.{byte}
use Rattle.std.proofs.lemmas.Bool.{agree_below_at, and_parts, eq-eqb, eqb-true, not-true}
use Rattle.std.proofs.lemmas.Fmt.{decimal_nonempty}
use Rattle.asm_statement.specs.AsmWords.DirectiveWords.{directive_word}
use Rattle.asm_statement.specs.AsmWords.Mnemonics.{mnemonic, word_form}
use Rattle.asm_statement.specs.AsmWords.Names.{is_name, is_name_byte, may_begin, name}
use Rattle.asm_statement.specs.AsmWords.Number.{digit_below, number}
use Rattle.asm_statement.specs.AsmWords.Registers.{register}
use Rattle.asm_statement.specs.AsmWords.Text.{is_blank}
use Rattle.asm_statement.specs.declared.asm_words.directive_words.NameWord.{NameWord}
use Rattle.asm_statement.specs.declared.asm_words.directive_words.NameWord.TheVariants as names
use Rattle.asm_statement.specs.declared.asm_words.directive_words.DirectiveWord.TheVariants as words
use Rattle.asm_statement.specs.declared.asm_words.mnemonics.Form.TheVariants as forms
use Rattle.asm_statement.specs.declared.asm_words.mnemonics.RegisterForm.TheVariants as registers
use Rattle.asm_statement.specs.declared.asm_words.mnemonics.TargetForm.TheVariants as targets
use Rattle.asm_statement.specs.declared.directive.Directive.TheVariants as directives
use Rattle.asm_statement.specs.declared.directive.Export.TheVariants as exports
use Rattle.asm_statement.specs.declared.instruction.Instruction.TheVariants as instructions
use Rattle.asm_statement.specs.declared.line.Line.{Line}
use Rattle.asm_statement.specs.declared.line.Statement.{Statement}
use Rattle.asm_statement.specs.declared.line.Statement.TheVariants as statements
use Rattle.asm_statement.specs.declared.number.Number.{Number}
use Rattle.asm_grammar.specs.Directives.{directive, named}
use Rattle.asm_grammar.specs.Grammar.{AreOperands, HasText, IsBeforeComment, SaysLine, SaysOf, SaysStatement}
use Rattle.asm_grammar.specs.Lines.{is_printed}
use Rattle.asm_grammar.specs.Operands.{instruction, of_registers}
use Rattle.asm_grammar.specs.Texts.{BeginsBare, IsPadded, Lacks, LacksBlanks}
use Rattle.lib_gen.specs.GeneratedLines.Lines.{at_label, does, function_name, library_name, says, number as plain_number}
use Rattle.lib_gen.proofs.GeneratedLines.Bytes.{Plain, begins_as, begins_bare, decimal_plain, ends_as, ends_bare, is_function_name, is_library_name, is_plain, joined, function_plain, library_plain, no_colon, no_comma, no_feed, no_hash, plain_bare, plain_printed}

-- a line that is read: printed bytes, no line feed and no comment
pub record IsOpen (line : List ℕ) : Type 0 where
  pub printed : list_all is_printed line ≡ true
  pub no_feed : Lacks (byte "\n") line
  pub no_hash : Lacks (byte "#") line

-- a mark is in no text that lacks it
missing : (mark : ℕ) (front behind text : List ℕ) → Lacks mark text → text ≡ front ++ (mark ∷ behind) → ⊥
missing mark front behind text lacks whole = within front (subst (Lacks mark) whole lacks)
  where
    within : (front : List ℕ) → Lacks mark (front ++ (mark ∷ behind)) → ⊥
    within [] lacks =
        let both = and_parts (not (mark == mark)) (list_all (λ c. not (c == mark)) behind) lacks in
        let isnt : (mark == mark) ≡ false = not-true (mark == mark) both.0 in
        let is : (mark == mark) ≡ true = eq-eqb mark mark refl in
        absurd cc
    within (c ∷ front) lacks = within front (and_parts (not (c == mark)) (list_all (λ d. not (d == mark)) (front ++ (mark ∷ behind))) lacks).1

uncommented : (line : List ℕ) → Lacks (byte "#") line → IsBeforeComment false line line
uncommented line lacks = record {
  comment = [];
  whole = sym (append-nil line);
  none = λ front behind whole. absurd (missing (byte "#") front behind line lacks whole);
  begins = inl refl;
}

bare : (text : List ℕ) → BeginsBare text → BeginsBare (reverse text) → IsPadded text text
bare text begins ends = record {
  front = [];
  behind = [];
  whole = sym (append-nil text);
  front_blank = refl;
  behind_blank = refl;
  begins = begins;
  ends = ends;
}

-- a line without a label, and one with a label

unlabelled : (line : List ℕ) → IsOpen line → Lacks (byte ":") line → BeginsBare line → BeginsBare (reverse line) → HasText line None line
unlabelled line is lacks begins ends = record {
  said = line;
  inner = line;
  printed = is.printed;
  before = uncommented line is.no_hash;
  padded = bare line begins ends;
  labelled = (refl, λ label behind whole. absurd (missing (byte ":") label behind line lacks whole));
}

labelled : (label text : List ℕ) → IsOpen (label ++ (codes ": " ++ text)) → is_name label ≡ true → BeginsBare (label ++ (codes ": " ++ text)) → BeginsBare text
    → BeginsBare (reverse (label ++ (codes ": " ++ text))) → HasText (label ++ (codes ": " ++ text)) (Some label) text
unfolding is_blank
labelled label text is name begins behind ends = record {
  said = label ++ (codes ": " ++ text);
  inner = label ++ (codes ": " ++ text);
  printed = is.printed;
  before = uncommented (label ++ (codes ": " ++ text)) is.no_hash;
  padded = bare (label ++ (codes ": " ++ text)) begins ends;
  labelled = record { gap = codes " "; whole = refl; name = name; blank = refl; begins = behind };
}

-- a word and its operands, one blank apart
stated : (word behind : List ℕ) (says : Statement) → LacksBlanks word → is_name word ≡ true → BeginsBare behind → SaysOf word behind says
    → SaysStatement (word ++ (codes " " ++ behind)) says
unfolding is_blank
stated word behind says whole name begins of_word = record {
  word = word;
  behind = behind;
  worded = (whole, inr (record { gap = codes " "; whole = refl; some = omega arith; blank = refl; begins = begins }));
  name = name;
  of_word = of_word;
}

-- operands

alone : (text : List ℕ) → text ≢ [] → Plain text → AreOperands text (text ∷ [])
alone text some plain = (
  some,
  text ∷ [],
  record { joined = refl; some = omega arith; without = (no_comma text plain, tt) },
  (bare text (begins_bare text plain) (ends_bare text plain), tt),
)

-- directives of a name

by_name : (word : NameWord) (text : List ℕ) → is_name text ≡ true → directive (words.Name word) text ≡ Some (named word text)
unfolding directive
by_name word text is = rw is refl

some_name : (text : List ℕ) → is_name text ≡ true → text ≢ []
unfolding is_name
some_name [] is none = absurd cc
some_name (c ∷ text) is none = absurd cc

long_name : (text : List ℕ) → is_name text ≡ true → 0 < length text
unfolding is_name
long_name [] is = absurd cc
long_name (c ∷ text) is = omega arith

-- Lines

pub record IsLine (line : List ℕ) (says : Line) : Type 0 where
  pub said : SaysLine line says
  pub no_feed : Lacks (byte "\n") line
  pub short : length line ≤ 63

-- a word and a name
spaced : (word text : List ℕ) → Plain word → Plain text → IsOpen (word ++ (codes " " ++ text))
unfolding is_printed
spaced word text plain behind = record {
  printed = joined is_printed word (codes " " ++ text) (plain_printed word plain) (plain_printed text behind);
  no_feed = joined (λ c. not (c == 10)) word (codes " " ++ text) (no_feed word plain) (no_feed text behind);
  no_hash = joined (λ c. not (c == 35)) word (codes " " ++ text) (no_hash word plain) (no_hash text behind);
}

spaced_line : (word text : List ℕ) (says : Statement) → Plain word → is_name word ≡ true → length word ≤ 8 → Plain text → is_name text ≡ true → length text ≤ 50
    → SaysOf word text says → IsLine (word ++ (codes " " ++ text)) (record { label = None; statement = Some says })
spaced_line word text says plain is_word few behind is short of_word =
    let open_line = spaced word text plain behind in
    let long = long_name text is in
    let some = long_name word is_word in
    record {
      said = record {
        text = word ++ (codes " " ++ text);
        has = unlabelled (word ++ (codes " " ++ text)) open_line (joined (λ c. not (c == 58)) word (codes " " ++ text) (no_colon word plain) (no_colon text behind))
            (begins_as word (codes " " ++ text) some (begins_bare word plain))
            (ends_as word (codes " " ++ text) (omega arith) (ends_as (codes " ") text long (ends_bare text behind)));
        is = (λ none. filled word (codes " " ++ text) some none, stated word text says (plain_bare word plain) is_word (begins_bare text behind) of_word);
      };
      no_feed = open_line.no_feed;
      short = omega (arith, length-append word (codes " " ++ text), few, short);
    }
  where
    filled : (a b : List ℕ) → 0 < length a → a ++ b ≢ []
    filled [] b some none = absurd (omega (arith, some))
    filled (c ∷ a) b some none = absurd cc

named_line : (word : List ℕ) (which : NameWord) (text : List ℕ) → directive_word word ≡ Some (words.Name which) → Plain word → is_name word ≡ true → length word ≤ 8
    → Plain text → is_name text ≡ true → length text ≤ 50 → IsLine (word ++ (codes " " ++ text)) (says (named which text))
named_line word which text known plain is_word few behind is short =
    spaced_line word text (statements.Directive (named which text)) plain is_word few behind is short (words.Name which, known, by_name which text is)

pub soname_line : (i : ℕ) → i < 2 ^ 64 → length (library_name i) ≤ 50 → IsLine (codes ".soname " ++ library_name i) (says (directives.Soname (library_name i)))
unfolding is_plain is_name_byte is_printed is_blank is_name may_begin directive_word named
soname_line i low short =
    named_line (codes ".soname") names.Soname (library_name i) refl refl refl (omega arith) (library_plain i low) (is_library_name i low) short

pub needed_line : (i : ℕ) → i < 2 ^ 64 → length (library_name i) ≤ 50 → IsLine (codes ".needed " ++ library_name i) (says (directives.Needed (library_name i)))
unfolding is_plain is_name_byte is_printed is_blank is_name may_begin directive_word named
needed_line i low short =
    named_line (codes ".needed") names.Needed (library_name i) refl refl refl (omega arith) (library_plain i low) (is_library_name i low) short

pub export_line : (i j : ℕ) → i < 2 ^ 64 → j < 2 ^ 64 → length (function_name i j) ≤ 50
    → IsLine (codes ".global " ++ function_name i j) (says (directives.Export exports.Global (function_name i j)))
unfolding is_plain is_name_byte is_printed is_blank is_name may_begin directive_word named
export_line i j low less short =
    named_line (codes ".global") (names.Export exports.Global) (function_name i j) refl refl refl (omega arith) (function_plain i j low less)
    (is_function_name i j low less) short

-- a call

target_read : (text : List ℕ) → is_name text ≡ true → instruction (forms.Target targets.Call) (text ∷ []) ≡ Some (instructions.Call text)
unfolding instruction
target_read text is = rw is refl

pub call_line : (i j : ℕ) → i < 2 ^ 64 → j < 2 ^ 64 → length (function_name i j) ≤ 50
    → IsLine (codes "call " ++ function_name i j) (does (instructions.Call (function_name i j)))
unfolding is_plain is_name_byte is_printed is_blank is_name may_begin directive_word mnemonic word_form
call_line i j low less short =
    let target = function_name i j in
    let plain = function_plain i j low less in
    let is = is_function_name i j low less in
    spaced_line (codes "call") target (statements.Instruction (instructions.Call target)) refl refl (omega arith) plain is short
    (forms.Target targets.Call, target ∷ [], refl, refl, alone target (some_name target is) plain, target_read target is)

-- a label, and what stands behind it

labelled_line : (label text : List ℕ) (says : Statement) → IsOpen (label ++ (codes ": " ++ text)) → is_name label ≡ true → Plain label → BeginsBare text
    → BeginsBare (reverse text) → 0 < length text → length label + length text ≤ 61 → SaysStatement text says
    → IsLine (label ++ (codes ": " ++ text)) (record { label = Some label; statement = Some says })
labelled_line label text says is name plain begins ends some short of_text =
    let long = long_name label name in
    record {
      said = record {
        text = text;
        has = labelled label text is name (begins_as label (codes ": " ++ text) long (begins_bare label plain)) begins
            (ends_as label (codes ": " ++ text) (omega arith) (ends_as (codes ": ") text some ends));
        is = (λ none. absurd (omega (arith, some, ap length none)), of_text);
      };
      no_feed = is.no_feed;
      short = omega (arith, length-append label (codes ": " ++ text), short);
    }

-- a function goes on at g
tail_says : SaysStatement (codes "tail g") (statements.Instruction (instructions.Tail (codes "g")))
unfolding is_plain is_name_byte is_printed is_blank is_name may_begin directive_word mnemonic word_form instruction
tail_says =
    stated (codes "tail") (codes "g") (statements.Instruction (instructions.Tail (codes "g"))) refl refl refl
    (forms.Target targets.Tail, codes "g" ∷ [], refl, refl, alone (codes "g") (λ none. cc) refl, refl)

pub tail_line : (i j : ℕ) → i < 2 ^ 64 → j < 2 ^ 64 → length (function_name i j) ≤ 50
    → IsLine (function_name i j ++ codes ": tail g") (at_label (function_name i j) (instructions.Tail (codes "g")))
unfolding is_printed is_blank
tail_line i j low less short =
    let label = function_name i j in
    let plain = function_plain i j low less in
    labelled_line label (codes "tail g") (statements.Instruction (instructions.Tail (codes "g")))
    (record {
      printed = joined is_printed label (codes ": tail g") (plain_printed label plain) refl;
      no_feed = joined (λ c. not (c == 10)) label (codes ": tail g") (no_feed label plain) refl;
      no_hash = joined (λ c. not (c == 35)) label (codes ": tail g") (no_hash label plain) refl;
    })
    (is_function_name i j low less) plain refl refl (omega arith) (omega (arith, short)) tail_says

-- a number: each of those that are written

is_number : Bool → Option ℕ → ℕ → Bool
is_number false (Some magnitude) n = magnitude == n
is_number _ _ n = false

is_it : Option Number → ℕ → Bool
is_it None n = false
is_it (Some value) n = is_number value.is_negative value.magnitude n

numbers_read : (n : ℕ) → n < 65 → is_it (number (decimal n)) n ≡ true
unfolding is_it is_number number digit_below digits
numbers_read n low = agree_below_at (λ k. is_it (number (decimal k)) k) (λ _. true) 65 n refl low

written : Bool → Option ℕ → Option Number
written is_negative magnitude = Some (record { is_negative = is_negative; magnitude = magnitude })

number_is : (is_negative : Bool) (magnitude : Option ℕ) (n : ℕ) → is_number is_negative magnitude n ≡ true → written is_negative magnitude ≡ Some (plain_number n)
unfolding is_number written
number_is false (Some magnitude) n is = ap (λ k. Some (plain_number k)) (eqb-true magnitude n is)
number_is false None n is = absurd cc
number_is true (Some magnitude) n is = absurd cc
number_is true None n is = absurd cc

value_is : (value : Option Number) (n : ℕ) → is_it value n ≡ true → value ≡ Some (plain_number n)
unfolding is_it written
value_is None n is = absurd cc
value_is (Some value) n is = number_is value.is_negative value.magnitude n is

number_read : (n : ℕ) → n < 65 → number (decimal n) ≡ Some (plain_number n)
number_read n low = value_is (number (decimal n)) n (numbers_read n low)

-- what a library answers

answer_operands : (n : ℕ) → n < 65 → AreOperands (codes "a0, " ++ decimal n) (codes "a0" ∷ decimal n ∷ [])
unfolding is_plain is_name_byte is_printed is_blank
answer_operands n low =
    let plain = decimal_plain n (omega (arith, low)) in (
      λ none. cc,
      codes "a0" ∷ (codes " " ++ decimal n) ∷ [],
      record { joined = refl; some = omega arith; without = (refl, (no_comma (decimal n) plain, tt)) },
      (
        bare (codes "a0") refl refl,
        (
          record {
            front = codes " ";
            behind = [];
            whole = ap (λ (text : List ℕ). codes " " ++ text) (sym (append-nil (decimal n)));
            front_blank = refl;
            behind_blank = refl;
            begins = begins_bare (decimal n) plain;
            ends = ends_bare (decimal n) plain;
          },
          tt,
        ),
      ),
    )

answer_read : (n : ℕ) → n < 65
    → instruction (forms.Register registers.Li) (codes "a0" ∷ decimal n ∷ []) ≡ Some (instructions.Li 10 (plain_number n))
unfolding instruction of_registers register
answer_read n low = rw (number_read n low) refl

answer_says : (n : ℕ) → n < 65 → SaysStatement (codes "li a0, " ++ decimal n) (statements.Instruction (instructions.Li 10 (plain_number n)))
unfolding is_plain is_name_byte is_printed is_blank is_name may_begin directive_word mnemonic word_form
answer_says n low =
    stated (codes "li") (codes "a0, " ++ decimal n) (statements.Instruction (instructions.Li 10 (plain_number n))) refl refl refl
    (forms.Register registers.Li, codes "a0" ∷ decimal n ∷ [], refl, refl, answer_operands n low, answer_read n low)

pub answer_line : (n : ℕ) → n < 65 → length (decimal n) ≤ 20 → IsLine (codes "g: li a0, " ++ decimal n) (at_label (codes "g") (instructions.Li 10 (plain_number n)))
unfolding is_plain is_name_byte is_printed is_blank is_name may_begin
answer_line n low short =
    let plain = decimal_plain n (omega (arith, low)) in
    let long = decimal_nonempty n (omega (arith, low)) in
    labelled_line (codes "g") (codes "li a0, " ++ decimal n) (statements.Instruction (instructions.Li 10 (plain_number n)))
    (record { printed = plain_printed (decimal n) plain; no_feed = no_feed (decimal n) plain; no_hash = no_hash (decimal n) plain })
    refl refl refl (ends_as (codes "li a0, ") (decimal n) long (ends_bare (decimal n) plain)) (omega arith) (omega (arith, short)) (answer_says n low)
