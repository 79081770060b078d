-- Texts of whole lines, and what they say; a text in a row with another says what both say.
use Rattle.std.proofs.Common.{◌≡◌, ◌∙◌, ap, sym, refl, ℕ, zero, suc, ◌+◌, ◌*◌, ◌^◌, ◌<◌, ◌≤◌, Bool, true, false, if◌then◌else◌, List, [], ◌∷◌, ◌++◌, length, flat_map, arith, append-nil, append_assoc, length-append}
use Rattle.std.specs.List.{join_with_byte, range_with_len}
use Rattle.std.specs.Str.{byte}
use Rattle.std.proofs.lemmas.List.Concat.{flat_map-append}
use Rattle.asm_statement.specs.declared.line.Line.{Line}
use Rattle.asm_grammar.specs.Grammar.{SayLines, SaysLine, SaysSource}
use Rattle.asm_grammar.specs.Texts.{AllLack, Lacks}
use Rattle.lib_gen.specs.GeneratedLines.Lines.{nothing}

abbrev ended : List ℕ → List ℕ
ended part = part ++ byte "\n" ∷ []

-- a text is lines, each of 63 bytes at most and a line feed, and they say these
pub record Tells (text : List ℕ) (lines : List Line) : Type 0 where
  pub parts : List (List ℕ)
  pub whole : text ≡ flat_map ended parts
  pub lack : AllLack (byte "\n") parts
  pub each : SayLines parts lines
  pub long : length text ≤ 64 * length lines

pub none : Tells [] []
none = record { parts = []; whole = refl; lack = tt; each = tt; long = omega arith }

pub one : (line : List ℕ) (says : Line) → SaysLine line says → Lacks (byte "\n") line → length line ≤ 63 → Tells (line ++ byte "\n" ∷ []) (says ∷ [])
one line says is lacks short = record {
  parts = line ∷ [];
  whole = sym (append-nil (ended line));
  lack = (lacks, tt);
  each = (is, tt);
  long = omega (arith, length-append line (byte "\n" ∷ []), short);
}

lack_both : (mark : ℕ) (a b : List (List ℕ)) → AllLack mark a → AllLack mark b → AllLack mark (a ++ b)
lack_both mark [] b one other = other
lack_both mark (part ∷ a) b (first, one) other = (first, lack_both mark a b one other)

say_both : (a b : List (List ℕ)) (p q : List Line) → SayLines a p → SayLines b q → SayLines (a ++ b) (p ++ q)
say_both [] b [] q one other = other
say_both (line ∷ a) b (says ∷ p) q (first, one) other = (first, say_both a b p q one other)
say_both [] b (says ∷ p) q one other = absurd one
say_both (line ∷ a) b [] q one other = absurd one

pub both : (a b : List ℕ) (p q : List Line) → Tells a p → Tells b q → Tells (a ++ b) (p ++ q)
both a b p q one other = record {
  parts = one.parts ++ other.parts;
  whole = ap (λ (text : List ℕ). text ++ b) one.whole ∙ ap (λ (text : List ℕ). flat_map ended one.parts ++ text) other.whole
      ∙ sym (flat_map-append ended one.parts other.parts);
  lack = lack_both (byte "\n") one.parts other.parts one.lack other.lack;
  each = say_both one.parts other.parts p q one.each other.each;
  long = omega (arith, length-append a b, length-append p q, one.long, other.long);
}

pub where_there : (b : Bool) (text : List ℕ) (lines : List Line) → Tells text lines → Tells (if b then text else []) (if b then lines else [])
where_there true text lines is = is
where_there false text lines is = none

pub all : (text : ℕ → List ℕ) (lines : ℕ → List Line) (n a : ℕ) → ((k : ℕ) → k < a + n → Tells (text k) (lines k))
    → Tells (flat_map text (range_with_len a n)) (flat_map lines (range_with_len a n))
all text lines zero a is = none
all text lines (suc n) a is =
    both (text a) (flat_map text (range_with_len (a + 1) n)) (lines a) (flat_map lines (range_with_len (a + 1) n)) (is a (omega arith))
    (all text lines n (a + 1) (λ k less. is k (omega (arith, less))))

-- a whole source

joined_more : (mark : ℕ) (part next : List ℕ) (parts : List (List ℕ)) → join_with_byte mark (part ∷ (parts ++ next ∷ [])) ≡ part ++ (mark ∷ join_with_byte mark (parts ++ next ∷ []))
joined_more mark part next [] = refl
joined_more mark part next (other ∷ parts) = refl

ended_all : (parts : List (List ℕ)) → flat_map ended parts ≡ join_with_byte (byte "\n") (parts ++ [] ∷ [])
ended_all [] = refl
ended_all (part ∷ parts) =
    append_assoc part (byte "\n" ∷ []) (flat_map ended parts) ∙ ap (λ (text : List ℕ). part ++ (byte "\n" ∷ text)) (ended_all parts)
    ∙ sym (joined_more (byte "\n") part [] parts)

pub whole : (text : List ℕ) (lines : List Line) → Tells text lines → SaysLine [] nothing → length lines ≤ 2 ^ 14 → SaysSource text (lines ++ nothing ∷ [])
whole text lines is empty few = record {
  lines = is.parts ++ [] ∷ [];
  bound = let long = is.long in omega (arith, long, few);
  parts = record {
    joined = is.whole ∙ ended_all is.parts;
    some = omega (arith, length-append is.parts ([] ∷ []));
    without = lack_both (byte "\n") is.parts ([] ∷ []) is.lack (refl, tt);
  };
  each = say_both is.parts ([] ∷ []) lines (nothing ∷ []) is.each (empty, tt);
}
