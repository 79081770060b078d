-- A source that is read says what is read, and one that is refused breaks the grammar so; and the other way round.
use Rattle.std.proofs.Common.{◌≡◌, ℕ, ◌+◌, ◌^◌, ◌<◌, ◌≤◌, ◌∙◌, List, [], ◌∷◌, ◌++◌, length, Result, Ok, Err, refl, sym, ap, subst, arith, inl, inr}
use Rattle.std.specs.Str.{byte}
use Rattle.std.proofs.lemmas.Bool.{cases_lt, lt-ltb, le-ltb}
use Rattle.asm_grammar.specs.Texts.{AreParts}
use Rattle.asm_grammar.specs.Grammar.{SaysLine, BreaksLine, SayLines, SaysSource, BreaksAt, BreaksSource}
use Rattle.asm_grammar.specs.Reading.{before, read_line, read_lines, lines_of, statements_of}
use Rattle.asm_grammar.proofs.Texts.{are_parts, parts_are}
use Rattle.asm_grammar.proofs.Verdicts.{same_ok, same_err, line_says, says_line, line_breaks, breaks_line}
use Rattle.asm_statement.specs.declared.line.Line.{Line}
use Rattle.ld_base.specs.declared.fault.AsmCause.{AsmCause}
use Rattle.ld_base.specs.declared.fault.AsmCause.TheVariants as causes

-- lines that are read

both_say : (line : List ℕ) (lines : List (List ℕ)) (number : ℕ) (first : Result Line AsmCause) (others : Result (List Line) (ℕ × AsmCause)) (says : List Line)
    → read_line line ≡ first → ((rest : List Line) → others ≡ Ok rest → SayLines lines rest) → before number first others ≡ Ok says → SayLines (line ∷ lines) says
both_say line lines number (Err cause) others says reads rest e = absurd cc
both_say line lines number (Ok read) (Err fault) says reads rest e = absurd cc
both_say line lines number (Ok read) (Ok more) says reads rest e =
    subst (SayLines (line ∷ lines)) (same_ok {E = ℕ × AsmCause} (read ∷ more) says e) (line_says line read reads, rest more refl)

lines_say : (number : ℕ) (lines : List (List ℕ)) (says : List Line) → read_lines number lines ≡ Ok says → SayLines lines says
lines_say number [] says e = subst (SayLines []) (same_ok {E = ℕ × AsmCause} [] says e) tt
lines_say number (line ∷ lines) says e =
    both_say line lines number (read_line line) (read_lines (number + 1) lines) says refl (λ rest. lines_say (number + 1) lines rest) e

say_lines : (number : ℕ) (lines : List (List ℕ)) (says : List Line) → SayLines lines says → read_lines number lines ≡ Ok says
say_lines number [] [] say = refl
say_lines number (line ∷ lines) (says ∷ rest) (first, others) =
    rw (says_line line says first, say_lines (number + 1) lines rest others) refl
say_lines number [] (says ∷ rest) say = absurd say
say_lines number (line ∷ lines) [] say = absurd say

-- the first that is none

pub record IsFirstBroken (lines : List (List ℕ)) (number place : ℕ) (cause : AsmCause) : Type 0 where
  pub front : List (List ℕ)
  pub says : List Line
  pub line : List ℕ
  pub behind : List (List ℕ)
  pub whole : lines ≡ front ++ (line ∷ behind)
  pub before : SayLines front says
  pub place_is : place ≡ length front + number
  pub broken : BreaksLine line cause

one_further : (line : List ℕ) (read : Line) (lines : List (List ℕ)) (number place : ℕ) (cause : AsmCause) → SaysLine line read → IsFirstBroken lines (number + 1) place cause
    → IsFirstBroken (line ∷ lines) number place cause
one_further line read lines number place cause says is = record {
  front = line ∷ is.front;
  says = read ∷ is.says;
  line = is.line;
  behind = is.behind;
  whole = ap (λ (t : List (List ℕ)). line ∷ t) is.whole;
  before = (says, is.before);
  place_is = omega (arith, is.place_is);
  broken = is.broken;
}

first_refused : (line : List ℕ) (lines : List (List ℕ)) (number place : ℕ) (cause : AsmCause) (first : Result Line AsmCause) (others : Result (List Line) (ℕ × AsmCause))
    → read_line line ≡ first → (others ≡ Err (place, cause) → IsFirstBroken lines (number + 1) place cause) → before number first others ≡ Err (place, cause)
    → IsFirstBroken (line ∷ lines) number place cause
first_refused line lines number place cause (Err why) others reads rest e =
    let same : (number, why) ≡ (place, cause) = same_err {A = List Line} (number, why) (place, cause) e in
    record {
      front = [];
      says = [];
      line = line;
      behind = lines;
      whole = refl;
      before = tt;
      place_is = let is : number ≡ place = ap (λ (p : ℕ × AsmCause). p.0) same in omega arith;
      broken = subst (BreaksLine line) (ap (λ (p : ℕ × AsmCause). p.1) same) (line_breaks line why reads);
    }
first_refused line lines number place cause (Ok read) (Ok more) reads rest e = absurd cc
first_refused line lines number place cause (Ok read) (Err fault) reads rest e =
    one_further line read lines number place cause (line_says line read reads) (rest e)

refused_first : (number place : ℕ) (cause : AsmCause) (lines : List (List ℕ)) → read_lines number lines ≡ Err (place, cause) → IsFirstBroken lines number place cause
refused_first number place cause [] e = absurd cc
refused_first number place cause (line ∷ lines) e =
    first_refused line lines number place cause (read_line line) (read_lines (number + 1) lines) refl (refused_first (number + 1) place cause lines) e

broken_there : (number : ℕ) (front : List (List ℕ)) (says : List Line) (line : List ℕ) (behind : List (List ℕ)) (cause : AsmCause) → SayLines front says → BreaksLine line cause
    → read_lines number (front ++ (line ∷ behind)) ≡ Err (length front + number, cause)
broken_there number [] [] line behind cause say breaks = rw (breaks_line line cause breaks) (ap (λ (n : ℕ). Err (n, cause)) (omega arith))
broken_there number (first ∷ front) (read ∷ says) line behind cause (one, rest) breaks =
    rw (says_line first read one, broken_there (number + 1) front says line behind cause rest breaks) (ap (λ (n : ℕ). Err (n, cause)) (omega arith))
broken_there number [] (read ∷ says) line behind cause say breaks = absurd say
broken_there number (first ∷ front) [] line behind cause say breaks = absurd say

-- sources

within : (source : List ℕ) → length source ≤ 2 ^ 20 → statements_of source ≡ read_lines 1 (lines_of source)
unfolding statements_of
within source bound = rw (le-ltb (2 ^ 20) (length source) bound) refl

beyond : (source : List ℕ) → 2 ^ 20 < length source → statements_of source ≡ Err (0, causes.TooBig)
unfolding statements_of
beyond source long = rw (lt-ltb (2 ^ 20) (length source) long) refl

pub source_says : (source : List ℕ) (says : List Line) → statements_of source ≡ Ok says → SaysSource source says
source_says source says e =
    elim (cases_lt (2 ^ 20) (length source)) [
      | inl long ↦ absurd (let bad : Err (0, causes.TooBig) ≡ Ok says = sym (beyond source long) ∙ e in cc)
      | inr bound ↦ record {
        lines = lines_of source;
        bound = bound;
        parts = are_parts (byte "\n") source;
        each = lines_say 1 (lines_of source) says (sym (within source bound) ∙ e);
      }
    ]

pub says_source : (source : List ℕ) (says : List Line) → SaysSource source says → statements_of source ≡ Ok says
says_source source says is =
    within source is.bound ∙ ap (read_lines 1) (parts_are (byte "\n") source is.lines is.parts) ∙ say_lines 1 is.lines says is.each

broken_at : (source : List ℕ) (place : ℕ) (cause : AsmCause) → length source ≤ 2 ^ 20 → IsFirstBroken (lines_of source) 1 place cause → BreaksAt source place cause
broken_at source place cause bound is = record {
  front = is.front;
  says = is.says;
  line = is.line;
  behind = is.behind;
  bound = bound;
  parts = subst (AreParts (byte "\n") source) is.whole (are_parts (byte "\n") source);
  before = is.before;
  place = is.place_is;
  broken = is.broken;
}

pub source_breaks : (source : List ℕ) (place : ℕ) (cause : AsmCause) → statements_of source ≡ Err (place, cause) → BreaksSource source place cause
source_breaks source place cause e =
    elim (cases_lt (2 ^ 20) (length source)) [
      | inl long ↦
          let same : (0, causes.TooBig) ≡ (place, cause) = same_err {A = List Line} (0, causes.TooBig) (place, cause) (sym (beyond source long) ∙ e) in
          inl (sym (ap (λ (p : ℕ × AsmCause). p.0) same), sym (ap (λ (p : ℕ × AsmCause). p.1) same), long)
      | inr bound ↦ inr (broken_at source place cause bound (refused_first 1 place cause (lines_of source) (sym (within source bound) ∙ e)))
    ]

at_refuses : (source : List ℕ) (place : ℕ) (cause : AsmCause) → BreaksAt source place cause → statements_of source ≡ Err (place, cause)
at_refuses source place cause is =
    within source is.bound
    ∙ ap (read_lines 1) (parts_are (byte "\n") source (is.front ++ (is.line ∷ is.behind)) is.parts)
    ∙ broken_there 1 is.front is.says is.line is.behind cause is.before is.broken
    ∙ ap (λ (n : ℕ). Err (n, cause)) (sym is.place)

pub breaks_source : (source : List ℕ) (place : ℕ) (cause : AsmCause) → BreaksSource source place cause → statements_of source ≡ Err (place, cause)
breaks_source source place cause breaks =
    elim breaks [
      | inl (first, why, long) ↦ rw (first, why) (beyond source long)
      | inr is ↦ at_refuses source place cause is
    ]
