-- The bytes of names and of numbers: no mark, no blank, nothing unprinted.
use Rattle.std.proofs.Common.{◌≡◌, ◌∙◌, ap, refl, ℕ, zero, suc, ◌+◌, ◌%◌, ◌^◌, ◌<◌, ◌==◌, Bool, true, not, ◌&&◌, List, [], ◌∷◌, ◌++◌, length, reverse, arith, codes, decimal}
use Rattle.std.specs.List.{list_all}
use Rattle.std.proofs.lemmas.Bool.{and_parts, and_from, not-true}
use Rattle.std.proofs.lemmas.Fmt.{decimal_by_steps}
use Rattle.std.proofs.lemmas.List.{reverse-append, length-reverse}
use Rattle.std.proofs.lemmas.List.Folds.{list_all-append}
use Rattle.asm_statement.specs.AsmWords.Names.{is_name, is_name_byte, may_begin}
use Rattle.asm_statement.specs.AsmWords.Text.{is_blank}
use Rattle.asm_grammar.specs.Lines.{is_printed}
use Rattle.asm_grammar.specs.Texts.{BeginsBare, LacksBlanks}
use Rattle.lib_gen.specs.GeneratedLines.Lines.{function_name, library_name}

-- a byte of a name, as a byte of a line: 10 ends a line, # begins a comment, : ends a label, a comma an operand
unfoldable pub is_plain : ℕ → Bool
is_plain c = is_name_byte c && (is_printed c && (not (is_blank c) && (not (c == 10) && (not (c == 35) && (not (c == 58) && not (c == 44))))))

abbrev pub Plain : List ℕ → Type 0
Plain text = list_all is_plain text ≡ true

-- what it tells

pub all_of : (p q : ℕ → Bool) → ((c : ℕ) → p c ≡ true → q c ≡ true) → (text : List ℕ) → list_all p text ≡ true → list_all q text ≡ true
all_of p q gives [] all = refl
all_of p q gives (c ∷ text) all =
    let both = and_parts (p c) (list_all p text) all in rw (gives c both.0) (all_of p q gives text both.1)

record Tells (c : ℕ) : Type 0 where
  named : is_name_byte c ≡ true
  printed : is_printed c ≡ true
  bare : not (is_blank c) ≡ true
  no_feed : not (c == 10) ≡ true
  no_hash : not (c == 35) ≡ true
  no_colon : not (c == 58) ≡ true
  no_comma : not (c == 44) ≡ true

tells : (c : ℕ) → is_plain c ≡ true → Tells c
unfolding is_plain
tells c plain =
    let (named, after) = and_parts (is_name_byte c) _ plain in
    let (printed, behind) = and_parts (is_printed c) _ after in
    let (bare, rest) = and_parts (not (is_blank c)) _ behind in
    let (feed, more) = and_parts (not (c == 10)) _ rest in
    let (hash, last) = and_parts (not (c == 35)) _ more in
    let (colon, comma) = and_parts (not (c == 58)) (not (c == 44)) last in
    record { named = named; printed = printed; bare = bare; no_feed = feed; no_hash = hash; no_colon = colon; no_comma = comma }

pub plain_named : (text : List ℕ) → Plain text → list_all is_name_byte text ≡ true
plain_named = all_of is_plain is_name_byte (λ c plain. (tells c plain).named)

pub plain_printed : (text : List ℕ) → Plain text → list_all is_printed text ≡ true
plain_printed = all_of is_plain is_printed (λ c plain. (tells c plain).printed)

pub plain_bare : (text : List ℕ) → Plain text → LacksBlanks text
plain_bare = all_of is_plain (λ c. not (is_blank c)) (λ c plain. (tells c plain).bare)

pub no_feed : (text : List ℕ) → Plain text → list_all (λ c. not (c == 10)) text ≡ true
no_feed = all_of is_plain (λ c. not (c == 10)) (λ c plain. (tells c plain).no_feed)

pub no_hash : (text : List ℕ) → Plain text → list_all (λ c. not (c == 35)) text ≡ true
no_hash = all_of is_plain (λ c. not (c == 35)) (λ c plain. (tells c plain).no_hash)

pub no_colon : (text : List ℕ) → Plain text → list_all (λ c. not (c == 58)) text ≡ true
no_colon = all_of is_plain (λ c. not (c == 58)) (λ c plain. (tells c plain).no_colon)

pub no_comma : (text : List ℕ) → Plain text → list_all (λ c. not (c == 44)) text ≡ true
no_comma = all_of is_plain (λ c. not (c == 44)) (λ c plain. (tells c plain).no_comma)

-- texts in a row

pub joined : (p : ℕ → Bool) (a b : List ℕ) → list_all p a ≡ true → list_all p b ≡ true → list_all p (a ++ b) ≡ true
joined p a b one other = list_all-append p a b ∙ and_from (list_all p a) (list_all p b) one other

reversed : (text : List ℕ) → Plain text → Plain (reverse text)
reversed [] plain = refl
reversed (c ∷ rest) plain =
    let both = and_parts (is_plain c) (list_all is_plain rest) plain in
    ap (list_all is_plain) (reverse-append (c ∷ []) rest)
    ∙ joined is_plain (reverse rest) (c ∷ []) (reversed rest both.1) (and_from (is_plain c) true both.0 refl)

pub begins_bare : (text : List ℕ) → Plain text → BeginsBare text
begins_bare [] plain = tt
begins_bare (c ∷ rest) plain =
    let both = and_parts (is_plain c) (list_all is_plain rest) plain in
    not-true (is_blank c) (tells c both.0).bare

pub ends_bare : (text : List ℕ) → Plain text → BeginsBare (reverse text)
ends_bare text plain = begins_bare (reverse text) (reversed text plain)

-- a text begins as its first part does, and ends as its last
pub begins_as : (first rest : List ℕ) → 0 < length first → BeginsBare first → BeginsBare (first ++ rest)
begins_as [] rest some bare = absurd (omega (arith, some))
begins_as (c ∷ first) rest some bare = bare

pub ends_as : (front last : List ℕ) → 0 < length last → BeginsBare (reverse last) → BeginsBare (reverse (front ++ last))
ends_as front last some bare =
    rw (reverse-append front last) (begins_as (reverse last) (reverse front) (omega (arith, length-reverse last, some)) bare)

-- numbers

digit : (d : ℕ) → d < 10 → is_plain (48 + d) ≡ true
unfolding is_plain is_name_byte is_printed is_blank
digit zero low = refl
digit (suc zero) low = refl
digit (suc (suc zero)) low = refl
digit (suc (suc (suc zero))) low = refl
digit (suc (suc (suc (suc zero)))) low = refl
digit (suc (suc (suc (suc (suc zero))))) low = refl
digit (suc (suc (suc (suc (suc (suc zero)))))) low = refl
digit (suc (suc (suc (suc (suc (suc (suc zero))))))) low = refl
digit (suc (suc (suc (suc (suc (suc (suc (suc zero)))))))) low = refl
digit (suc (suc (suc (suc (suc (suc (suc (suc (suc zero))))))))) low = refl
digit (suc (suc (suc (suc (suc (suc (suc (suc (suc (suc n)))))))))) low = absurd (omega (arith, low))

alone : (n : ℕ) → n < 10 → Plain ((48 + n) ∷ [])
alone n low = and_from (is_plain (48 + n)) true (digit n low) refl

pub decimal_plain : (n : ℕ) → n < 2 ^ 64 → Plain (decimal n)
decimal_plain = decimal_by_steps (λ _ ds. Plain ds) alone (λ n ds _ plain. joined is_plain ds ((48 + n % 10) ∷ []) plain (alone (n % 10) (omega arith)))

-- names

pub library_plain : (i : ℕ) → i < 2 ^ 64 → Plain (library_name i)
unfolding library_name is_plain is_name_byte is_printed is_blank
library_plain i low = joined is_plain (decimal i) (codes ".so") (decimal_plain i low) refl

pub function_plain : (i j : ℕ) → i < 2 ^ 64 → j < 2 ^ 64 → Plain (function_name i j)
unfolding function_name is_plain is_name_byte is_printed is_blank
function_plain i j low less = joined is_plain (decimal i) (codes "_" ++ decimal j) (decimal_plain i low) (decimal_plain j less)

pub is_library_name : (i : ℕ) → i < 2 ^ 64 → is_name (library_name i) ≡ true
unfolding library_name is_name may_begin
is_library_name i low = plain_named (library_name i) (library_plain i low)

pub is_function_name : (i j : ℕ) → i < 2 ^ 64 → j < 2 ^ 64 → is_name (function_name i j) ≡ true
unfolding function_name is_name may_begin
is_function_name i j low less = plain_named (function_name i j) (function_plain i j low less)
