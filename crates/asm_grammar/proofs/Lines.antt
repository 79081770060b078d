-- What is read of a line is what it says: before its comment, behind its label, between its commas.
use Rattle.std.proofs.Common.{◌≡◌, ◌≢◌, ◌⊎◌, ℕ, ◌==◌, ◌||◌, ◌∙◌, Bool, true, false, not, List, [], ◌∷◌, ◌++◌, length, map, take, Option, Some, None, refl, sym, ap, add-one, arith, inl, inr}
use Rattle.std.specs.List.{list_all}
use Rattle.std.specs.Str.{byte}
use Rattle.std.proofs.lemmas.Bool.{and_parts, or_cases, or_parts, or_left, or_right, cases_Bool, cases_eq, eqb-true, eq-eqb, ne_eqb, not-true, not-false}
use Rattle.std.proofs.lemmas.Option.{same_Some}
use Rattle.asm_statement.specs.AsmWords.Text.{is_mark, after_blanks, trimmed, until, cut_at, parts_of}
use Rattle.asm_statement.specs.AsmWords.Names.{is_name, is_name_byte, may_begin}
use Rattle.asm_grammar.specs.Lines.{is_printed, is_quoted_after}
use Rattle.asm_grammar.specs.Texts.{ArePadded, AreParts}
use Rattle.asm_grammar.specs.Grammar.{is_quoted, IsBeforeComment, BeginsWithLabel, IsLabelled, HasText, AreOperands}
use Rattle.asm_grammar.specs.Operands.{operands_of}
use Rattle.asm_grammar.specs.Reading.{before_comment, uncommented, labelled, label_of}
use Rattle.asm_grammar.proofs.Texts.{HasCut, HasFront, has_front, blank_front, bare_front, has_cut, cut_found, is_padded, trimmed_is, are_parts, parts_are}

-- comments

abbrev pub HashesAreQuoted : Bool → List ℕ → Type 0
HashesAreQuoted quoted said = (front behind : List ℕ) → said ≡ front ++ (byte "#" ∷ behind) → is_quoted quoted front ≡ true

none_in_nothing : (quoted : Bool) → HashesAreQuoted quoted []
none_in_nothing quoted [] behind e = absurd cc
none_in_nothing quoted (c ∷ front) behind e = absurd cc

abbrev pub goes_on : Bool → ℕ → Bool
goes_on quoted c = quoted || not (c == byte "#")

hashes_more : (quoted : Bool) (c : ℕ) (said : List ℕ) → goes_on quoted c ≡ true → HashesAreQuoted (is_quoted_after quoted c) said → HashesAreQuoted quoted (c ∷ said)
hashes_more quoted c said on rest [] behind e =
    elim (or_cases quoted (not (c == byte "#")) on) [
      | inl is ↦ is
      | inr other ↦
          let same : c ≡ byte "#" = cc in
          let is : (c == byte "#") ≡ true = eq-eqb c (byte "#") same in
          let isnt : (c == byte "#") ≡ false = not-true (c == byte "#") other in
          absurd cc
    ]
hashes_more quoted c said on rest (d ∷ front) behind e =
    let head : d ≡ c = cc in
    let tail : said ≡ front ++ (byte "#" ∷ behind) = cc in
    rw head (rest front behind tail)

before_more : (quoted : Bool) (c : ℕ) (rest said : List ℕ) → goes_on quoted c ≡ true → IsBeforeComment (is_quoted_after quoted c) rest said
    → IsBeforeComment quoted (c ∷ rest) (c ∷ said)
before_more quoted c rest said on is = record {
  comment = is.comment;
  whole = ap (λ (t : List ℕ). c ∷ t) is.whole;
  none = hashes_more quoted c said on is.none;
  begins = is.begins;
}

begun : (quoted : Bool) (c : ℕ) (rest : List ℕ) → goes_on quoted c ≡ false → IsBeforeComment quoted (c ∷ rest) []
begun quoted c rest off =
    let both = or_parts quoted (not (c == byte "#")) off in
    record {
      comment = c ∷ rest;
      whole = refl;
      none = none_in_nothing quoted;
      begins = inr (rest, ap (λ (d : ℕ). d ∷ rest) (eqb-true c (byte "#") (not-false (c == byte "#") both.1)), both.0);
    }

pub is_before : (quoted : Bool) (line : List ℕ) → IsBeforeComment quoted line (take (before_comment quoted line) line)
is_before quoted [] = record { comment = []; whole = refl; none = none_in_nothing quoted; begins = inl refl }
is_before quoted (c ∷ rest) =
    elim (cases_Bool (goes_on quoted c)) [
      | inl on ↦ rw (on, add-one) (before_more quoted c rest (take (before_comment (is_quoted_after quoted c) rest) rest) on (is_before (is_quoted_after quoted c) rest))
      | inr off ↦ rw off (begun quoted c rest off)
    ]

abbrev pub BeginsComment : Bool → List ℕ → List ℕ → Type 0
BeginsComment quoted said comment = (comment ≡ []) ⊎ ((rest : List ℕ) × (comment ≡ byte "#" ∷ rest) × (is_quoted quoted said ≡ false))

ends_here : (quoted : Bool) (comment : List ℕ) → BeginsComment quoted [] comment → take (before_comment quoted comment) comment ≡ []
ends_here quoted comment begins =
    elim begins [
      | inl none ↦ rw none refl
      | inr (rest, e, off) ↦ rw (e, off) refl
    ]

goes : (quoted : Bool) (c : ℕ) (said : List ℕ) → HashesAreQuoted quoted (c ∷ said) → goes_on quoted c ≡ true
goes quoted c said none =
    elim (cases_eq c (byte "#")) [
      | inl same ↦ or_left quoted (not (c == byte "#")) (none [] said (ap (λ (d : ℕ). d ∷ said) same))
      | inr other ↦ or_right quoted (not (c == byte "#")) (rw (ne_eqb c (byte "#") other) refl)
    ]

said_of : (quoted : Bool) (said comment : List ℕ) → HashesAreQuoted quoted said → BeginsComment quoted said comment
    → take (before_comment quoted (said ++ comment)) (said ++ comment) ≡ said
said_of quoted [] comment none begins = ends_here quoted comment begins
said_of quoted (c ∷ said) comment none begins =
    rw (goes quoted c said none, add-one)
    (ap (λ (t : List ℕ). c ∷ t) (said_of (is_quoted_after quoted c) said comment (λ front behind e. none (c ∷ front) behind (ap (λ (t : List ℕ). c ∷ t) e)) begins))

pub said_is : (line said : List ℕ) → IsBeforeComment false line said → uncommented line ≡ said
said_is line said is = ap uncommented is.whole ∙ said_of false said is.comment is.none is.begins

-- names have neither colons nor blanks

all_of : (p q : ℕ → Bool) → ((c : ℕ) → p c ≡ true → q c ≡ true) → (text : List ℕ) → list_all p text ≡ true → list_all q text ≡ true
all_of p q gives [] all = refl
all_of p q gives (c ∷ text) all =
    let both = and_parts (p c) (list_all p text) all in rw (gives c both.0) (all_of p q gives text both.1)

no_colon : (c : ℕ) → is_name_byte c ≡ true → not (is_mark (byte ":") c) ≡ true
unfolding is_name_byte is_mark
no_colon c is =
    elim (cases_eq c (byte ":")) [
      | inl same ↦ absurd (let e : false ≡ true = rw same at is in cc)
      | inr other ↦ rw (ne_eqb c (byte ":") other) refl
    ]

name_bytes : (text : List ℕ) → is_name text ≡ true → list_all is_name_byte text ≡ true
unfolding is_name
name_bytes [] is = absurd cc
name_bytes (c ∷ text) is = (and_parts (may_begin c) (list_all is_name_byte (c ∷ text)) is).1

pub name_lacks_colon : (text : List ℕ) → is_name text ≡ true → list_all (λ c. not (is_mark (byte ":") c)) text ≡ true
name_lacks_colon text is = all_of is_name_byte (λ c. not (is_mark (byte ":") c)) no_colon text (name_bytes text is)

-- labels

marked : (mark c : ℕ) → is_mark mark c ≡ true → c ≡ mark
unfolding is_mark
marked mark c is = eqb-true c mark is

is_its_mark : (mark : ℕ) → is_mark mark mark ≡ true
unfolding is_mark
is_its_mark mark = eq-eqb mark mark refl

no_mark_within : (mark : ℕ) (front behind : List ℕ) → list_all (λ c. not (is_mark mark c)) (front ++ (mark ∷ behind)) ≡ true → ⊥
no_mark_within mark [] behind lacks =
    let both = and_parts (not (is_mark mark mark)) (list_all (λ c. not (is_mark mark c)) behind) lacks in
    let isnt : is_mark mark mark ≡ false = not-true (is_mark mark mark) both.0 in
    let is : is_mark mark mark ≡ true = is_its_mark mark in
    absurd cc
no_mark_within mark (c ∷ front) behind lacks =
    no_mark_within mark front behind (and_parts (not (is_mark mark c)) (list_all (λ d. not (is_mark mark d)) (front ++ (mark ∷ behind))) lacks).1

abbrev pub colon_cut : List ℕ → Option (List ℕ × List ℕ)
colon_cut text = cut_at (until (is_mark (byte ":")) text) text

behind_label : (text label behind : List ℕ) (mark : ℕ) → text ≡ label ++ (mark ∷ behind) → is_mark (byte ":") mark ≡ true → is_name label ≡ true → HasFront behind
    → BeginsWithLabel text label (after_blanks behind)
behind_label text label behind mark whole is name (gap, part, blank, bare) = record {
  gap = gap;
  whole = whole ∙ ap (λ (c : ℕ). label ++ (c ∷ behind)) (marked (byte ":") mark is) ∙ ap (λ (t : List ℕ). label ++ (byte ":" ∷ t)) part;
  name = name;
  blank = blank;
  begins = bare;
}

no_other : (text front behind label rest : List ℕ) → colon_cut text ≡ Some (front, behind) → is_name front ≡ false → text ≡ label ++ (byte ":" ∷ rest) → is_name label ≡ false
no_other text front behind label rest cut isnt whole =
    elim (cases_Bool (is_name label)) [
      | inl is ↦
          let found : colon_cut text ≡ Some (label, rest) =
          ap colon_cut whole ∙ cut_found (is_mark (byte ":")) label (byte ":") rest (name_lacks_colon label is) (is_its_mark (byte ":")) in
          let same : label ≡ front = ap (λ (p : List ℕ × List ℕ). p.0) (same_Some (label, rest) (front, behind) (sym found ∙ cut)) in
          absurd (let e : is_name front ≡ true = rw (← same) is in cc)
      | inr not_one ↦ not_one
    ]

label_from : (text : List ℕ) (result : Option (List ℕ × List ℕ)) → colon_cut text ≡ result → HasCut (is_mark (byte ":")) text result
    → IsLabelled text (label_of text result).0 (label_of text result).1
label_from text None cut lacks = (refl, λ label behind whole. absurd (no_mark_within (byte ":") label behind (rw whole at lacks)))
label_from text (Some parts) cut (mark, whole, is, lacks) =
    elim (cases_Bool (is_name parts.0)) [
      | inl name ↦ rw name (behind_label text parts.0 parts.1 mark whole is name (has_front parts.1))
      | inr isnt ↦ rw isnt (refl, λ label behind other. no_other text parts.0 parts.1 label behind cut isnt other)
    ]

pub is_labelled : (text : List ℕ) → IsLabelled text (labelled text).0 (labelled text).1
is_labelled text = label_from text (colon_cut text) refl (has_cut (is_mark (byte ":")) text)

label_is : (text label rest : List ℕ) → BeginsWithLabel text label rest → labelled text ≡ (Some label, rest)
label_is text label rest is =
    ap labelled is.whole
    ∙ ap (label_of (label ++ (byte ":" ∷ (is.gap ++ rest)))) (cut_found (is_mark (byte ":")) label (byte ":") (is.gap ++ rest) (name_lacks_colon label is.name) (is_its_mark (byte ":")))
    ∙ rw (is.name) (ap (λ (t : List ℕ). (Some label, t)) (blank_front is.gap rest is.blank ∙ bare_front rest is.begins))

no_label_is : (text : List ℕ) (result : Option (List ℕ × List ℕ)) → HasCut (is_mark (byte ":")) text result
    → ((label behind : List ℕ) → text ≡ label ++ (byte ":" ∷ behind) → is_name label ≡ false) → label_of text result ≡ (None, text)
no_label_is text None lacks never = refl
no_label_is text (Some parts) (mark, whole, is, lacks) never =
    let isnt : is_name parts.0 ≡ false = never parts.0 parts.1 (whole ∙ ap (λ (c : ℕ). parts.0 ++ (c ∷ parts.1)) (marked (byte ":") mark is)) in
    rw isnt refl

pub labelled_is : (text : List ℕ) (label : Option (List ℕ)) (rest : List ℕ) → IsLabelled text label rest → labelled text ≡ (label, rest)
labelled_is text (Some label) rest is = label_is text label rest is
labelled_is text None rest (same, never) =
    no_label_is text (colon_cut text) (has_cut (is_mark (byte ":")) text) never ∙ ap (λ (t : List ℕ). (None, t)) (sym same)

-- the text of a line

abbrev pub read_parts : List ℕ → Option (List ℕ) × List ℕ
read_parts line = labelled (trimmed (uncommented line))

pub has_text : (line : List ℕ) → list_all is_printed line ≡ true → HasText line (read_parts line).0 (read_parts line).1
has_text line printed = record {
  said = uncommented line;
  inner = trimmed (uncommented line);
  printed = printed;
  before = is_before false line;
  padded = is_padded (uncommented line);
  labelled = is_labelled (trimmed (uncommented line));
}

pub text_is : (line : List ℕ) (label : Option (List ℕ)) (text : List ℕ) → HasText line label text → read_parts line ≡ (label, text)
text_is line label text has =
    ap (λ (t : List ℕ). labelled (trimmed t)) (said_is line has.said has.before)
    ∙ ap labelled (trimmed_is has.said has.inner has.padded)
    ∙ labelled_is has.inner label text has.labelled

-- operands

each_padded : (texts : List (List ℕ)) → ArePadded texts (map trimmed texts)
each_padded [] = tt
each_padded (text ∷ texts) = (is_padded text, each_padded texts)

padded_are : (texts inners : List (List ℕ)) → ArePadded texts inners → map trimmed texts ≡ inners
padded_are [] [] are = refl
padded_are (text ∷ texts) (inner ∷ inners) (first, rest) =
    ap (λ (t : List ℕ). t ∷ map trimmed texts) (trimmed_is text inner first) ∙ ap (λ (ts : List (List ℕ)). inner ∷ ts) (padded_are texts inners rest)
padded_are [] (inner ∷ inners) are = absurd are
padded_are (text ∷ texts) [] are = absurd are

pub some_text : (c : ℕ) (text : List ℕ) → (length (c ∷ text) == 0) ≡ false
some_text c text = ne_eqb (length (c ∷ text)) 0 (λ e. omega arith)

of_parts : (text : List ℕ) (parts : List (List ℕ)) → text ≢ [] → AreParts (byte ",") text parts → AreOperands text (map trimmed parts)
of_parts text [] some are = absurd (omega (arith, are.some))
of_parts text (part ∷ parts) some are = (some, part ∷ parts, are, each_padded (part ∷ parts))

pub are_operands : (text : List ℕ) → AreOperands text (operands_of text)
are_operands [] = refl
are_operands (c ∷ text) = rw (some_text c text) (of_parts (c ∷ text) (parts_of (c ∷ text)) (λ e. cc) (are_parts (byte ",") (c ∷ text)))

split_operands : (text : List ℕ) (operands : List (List ℕ)) → text ≢ [] → map trimmed (parts_of text) ≡ operands → operands_of text ≡ operands
split_operands [] operands some e = absurd (some refl)
split_operands (c ∷ text) operands some e = rw (some_text c text) e

pub operands_are : (text : List ℕ) (operands : List (List ℕ)) → AreOperands text operands → operands_of text ≡ operands
operands_are text [] none = ap operands_of none
operands_are text (operand ∷ operands) (some, parts, are, padded) =
    split_operands text (operand ∷ operands) some (ap (map trimmed) (parts_are (byte ",") text parts are) ∙ padded_are parts (operand ∷ operands) padded)
