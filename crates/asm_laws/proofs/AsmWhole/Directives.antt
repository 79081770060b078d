-- What a directive says is as short as its text: its names, which are names of the grammar, and what stands between quotes; an alignment is one of the grammar.
use Rattle.std.proofs.Common.{◌≡◌, ap, refl, ℕ, ◌<◌, ◌≤◌, ◌==◌, ◌&&◌, not, Bool, true, false, if◌then◌else◌, List, [], ◌∷◌, length, map, take, drop, reverse, arith, length-append, length-drop, length-take}
use Rattle.std.specs.Prelude.{Some, None, Option, option_map, codes, ⊤}
use Rattle.std.specs.Option.{option_or}
use Rattle.std.specs.List.{join_with_byte, list_all}
use Rattle.std.specs.Str.{byte, bytes_eq}
use Rattle.std.proofs.lemmas.List.{length-reverse}
use Rattle.std.proofs.lemmas.List.Splits.{join_with_byte-slice_split}
use Rattle.asm_statement.specs.AsmWords.Text.{◌>>=◌, after_blanks, around, cut, cut_at, cut_blank, is_blank, parts_of, trimmed, until_blank, until_mark}
use Rattle.asm_statement.specs.AsmWords.Names.{is_name, name}
use Rattle.asm_statement.specs.AsmWords.Number.{number}
use Rattle.asm_statement.specs.AsmWords.Kinds.{kind, hash}
use Rattle.asm_statement.specs.declared.asm_words.directive_words.DirectiveWord.{DirectiveWord}
use Rattle.asm_statement.specs.declared.asm_words.directive_words.DirectiveWord.TheVariants as words
use Rattle.asm_statement.specs.declared.asm_words.directive_words.LoneWord.{LoneWord}
use Rattle.asm_statement.specs.declared.asm_words.directive_words.LoneWord.TheVariants as lones
use Rattle.asm_statement.specs.declared.asm_words.directive_words.NameWord.{NameWord}
use Rattle.asm_statement.specs.declared.asm_words.directive_words.NameWord.TheVariants as names
use Rattle.asm_statement.specs.declared.asm_words.directive_words.NumberWord.{NumberWord}
use Rattle.asm_statement.specs.declared.asm_words.directive_words.NumberWord.TheVariants as numbers
use Rattle.asm_statement.specs.Alignments.{is_alignment}
use Rattle.asm_statement.specs.declared.directive.Directive.{Directive}
use Rattle.asm_statement.specs.declared.directive.Directive.TheVariants as the
use Rattle.asm_statement.specs.declared.directive.Doubleword.TheVariants as doublewords
use Rattle.asm_statement.specs.declared.number.Number.{Number}
use Rattle.asm_grammar.specs.Directives.{after_at, alignment, copy, directive, doubleword, flags, is_flag, lone, named, need, need_file, need_of, quoted, sized, sum, symver, two_names, versioned, words_of}
use Rattle.asm_grammar.specs.Operands.{operands_of, zero as no_bytes}
use Rattle.asm_laws.specs.Lemmas.Each.{Each}
use Rattle.asm_laws.specs.Said.{directive_names}

-- a name of the grammar that is no longer than so many bytes
pub record IsNameWithin (long : ℕ) (name : List ℕ) : Type 0 where
  pub spelled : is_name name ≡ true
  pub short : length name ≤ long

-- what is made has such names, if it is made
abbrev pub Ends : {A : Type 0} → (A → Type 0) → Option A → Type 0
Ends P None = ⊤
Ends P (Some x) = P x

pub bound : {A B : Type 0} (Q : A → Type 0) (P : B → Type 0) (o : Option A) (f : A → Option B) → Ends Q o → ((x : A) → Q x → Ends P (f x)) → Ends P (o >>= f)
bound Q P None f ends gives = tt
bound Q P (Some x) f ends gives = gives x ends

pub mapped : {A B : Type 0} (Q : A → Type 0) (P : B → Type 0) (o : Option A) (f : A → B) → Ends Q o → ((x : A) → Q x → P (f x)) → Ends P (option_map f o)
mapped Q P None f ends gives = tt
mapped Q P (Some x) f ends gives = gives x ends

pub any : {A : Type 0} (o : Option A) → Ends (λ _. ⊤) o
any None = tt
any (Some x) = tt

pub if_some : {A : Type 0} (P : A → Type 0) (b : Bool) (x : A) → P x → Ends P (if b then Some x else None)
if_some P true x holds = holds
if_some P false x holds = tt

either : {A : Type 0} (P : A → Type 0) (one other : Option A) → Ends P one → Ends P other → Ends P (option_or one other)
either P None other first second = second
either P (Some x) other first second = first

-- Texts

abbrev pub Short : ℕ → List ℕ → Type 0
Short long text = length text ≤ long

abbrev Pair : ℕ → List ℕ × List ℕ → Type 0
Pair long parts = (length parts.0 ≤ long) × (length parts.1 ≤ long)

pub a_name : (long : ℕ) (text : List ℕ) → length text ≤ long → Ends (IsNameWithin long) (name text)
a_name long text short =
    let P : Bool → Type 0 = λ b. is_name text ≡ b → Ends (IsNameWithin long) (if b then Some text else None) in
    let cases : (b : Bool) → P b = λ b. elim b as P [ true ↦ λ is. record { spelled = is; short = short } | false ↦ λ _. tt ] in
    cases (is_name text) refl

some_after : (text : List ℕ) → length (after_blanks text) ≤ length text
some_after [] = omega arith
some_after (first ∷ rest) =
    let more = some_after rest in
    elim (is_blank first) as (λ b. length (if b then after_blanks rest else first ∷ rest) ≤ length (first ∷ rest)) [ true ↦ omega (arith, more) | false ↦ omega arith ]

some_trimmed : (text : List ℕ) → length (trimmed text) ≤ length text
some_trimmed text =
    let one = some_after text in
    let other = some_after (reverse (after_blanks text)) in
    let back = length-reverse (after_blanks text) in
    let again = length-reverse (after_blanks (reverse (after_blanks text))) in
    omega (arith, one, other, back, again)

around_short : (long : ℕ) (front rest : List ℕ) → length front ≤ long → length rest ≤ long → Ends (Pair long) (around front rest)
around_short long front [] first second = tt
around_short long front (mark ∷ behind) first second = (first, omega (arith, second))

cut_short : (long count : ℕ) (text : List ℕ) → length text ≤ long → Ends (Pair long) (cut_at count text)
cut_short long count text short =
    let first = length-take count text in
    let second = length-drop count text in
    around_short long (take count text) (drop count text) (omega (arith, first, short)) (omega (arith, second, short))

some_version : (text : List ℕ) → length (after_at text).1 ≤ length text
some_version [] = omega arith
some_version (first ∷ rest) =
    elim (first == byte "@") as (λ b. length (if◌then◌else◌ {A = Bool × List ℕ} b (true, rest) (false, first ∷ rest)).1 ≤ length (first ∷ rest)) [ true ↦ omega arith | false ↦ omega arith ]

abbrev Pairs : ℕ → List ℕ × List ℕ → Type 0
Pairs long both = IsNameWithin long both.0 × IsNameWithin long both.1

pair_named : (long : ℕ) (one other : List ℕ) → length one ≤ long → length other ≤ long → Ends (Pairs long) (two_names one other)
pair_named long one other first second =
    bound (IsNameWithin long) (Pairs long) (name one) _ (a_name long one first)
    (λ x is. bound (IsNameWithin long) (Pairs long) (name other) _ (a_name long other second) (λ y there. (is, there)))

version_named : (long : ℕ) (text : List ℕ) → length text ≤ long → Ends (Pairs long) (versioned text)
unfolding versioned
version_named long text short =
    bound (Pair long) (Pairs long) (cut (byte "@") text) _ (cut_short long (until_mark (byte "@") text) text short) (λ parts short. pair_named long parts.0 parts.1 short.0 short.1)

-- Operands

pub all_parts : (mark long : ℕ) (parts : List (List ℕ)) → length (join_with_byte mark parts) ≤ long → Each (Short long) parts
all_parts mark long [] short = tt
all_parts mark long (part ∷ []) short = (short, tt)
all_parts mark long (part ∷ next ∷ parts) short =
    let whole = length-append part (mark ∷ join_with_byte mark (next ∷ parts)) in
    (omega (arith, whole, short), all_parts mark long (next ∷ parts) (omega (arith, whole, short)))

all_trimmed : (long : ℕ) (parts : List (List ℕ)) → Each (Short long) parts → Each (Short long) (map trimmed parts)
all_trimmed long [] short = tt
all_trimmed long (part ∷ parts) (first, short) = let less = some_trimmed part in (omega (arith, less, first), all_trimmed long parts short)

operands_short : (long : ℕ) (text : List ℕ) → length text ≤ long → Each (Short long) (operands_of text)
operands_short long text short =
    let same = ap length (join_with_byte-slice_split (byte ",") text) in
    let parts = all_trimmed long (parts_of text) (all_parts (byte ",") long (parts_of text) (omega (arith, same, short))) in
    elim (length text == 0) as (λ b. Each (Short long) (if b then [] else map trimmed (parts_of text))) [ true ↦ tt | false ↦ parts ]

-- Quotes and alignments

quoted_short : (text : List ℕ) → Ends (λ inner. length inner < length text) (quoted text)
unfolding quoted
quoted_short [] = tt
quoted_short (first ∷ rest) =
    let count = until_mark (byte "\"") rest in
    let long = length (first ∷ rest) in
    let short : length (take count rest) < long = let less = length-take count rest in omega (arith, less) in
    let ends : (front behind : List ℕ) → length front < long → Ends (λ inner. length inner < long) (around front behind >>= λ parts. if length parts.1 == 0 then Some parts.0 else None)
    = λ front behind less. elim behind as (λ behind. Ends (λ inner. length inner < long) (around front behind >>= λ parts. if length parts.1 == 0 then Some parts.0 else None)) [
      | [] ↦ tt
      | mark ∷ after ↦ if_some (λ inner. length inner < long) (length after == 0) front less
    ] in
    elim (first == byte "\"") as (λ b. Ends (λ inner. length inner < long) (if b then (cut (byte "\"") rest >>= λ parts. if length parts.1 == 0 then Some parts.0 else None) else None)) [
      | true ↦ ends (take count rest) (drop count rest) short
      | false ↦ tt
    ]

alignment_is : (text : List ℕ) → Ends (λ bytes. is_alignment bytes ≡ true) (alignment text)
unfolding alignment
alignment_is text =
    bound (λ _. ⊤) (λ bytes. is_alignment bytes ≡ true) (number text) _ (any (number text))
    (λ value _. bound (λ _. ⊤) (λ bytes. is_alignment bytes ≡ true) value.magnitude _ (any value.magnitude)
    (λ magnitude _. tested (not value.is_negative) magnitude))
  where
    tested : (sign : Bool) (magnitude : ℕ) → Ends (λ bytes. is_alignment bytes ≡ true) (if sign && is_alignment magnitude then Some magnitude else None)
    tested false magnitude = tt
    tested true magnitude =
        let P : Bool → Type 0 = λ b. is_alignment magnitude ≡ b → Ends (λ bytes. is_alignment bytes ≡ true) (if b then Some magnitude else None) in
        let cases : (b : Bool) → P b = λ b. elim b as P [ true ↦ λ is. is | false ↦ λ _. tt ] in
        cases (is_alignment magnitude) refl

-- Directives

module _ (long : ℕ) where
  abbrev pub Told : Directive → Type 0
  Told (the.Asciz text) = length text < long
  Told (the.Align alignment) = is_alignment alignment ≡ true
  Told _ = ⊤

  abbrev pub Good : Directive → Type 0
  Good says = Told says × Each (IsNameWithin long) (directive_names says)

  by_name : (word : NameWord) (text : List ℕ) → IsNameWithin long text → Good (named word text)
  unfolding named
  by_name word text is = elim word as (λ word. Good (named word text)) [
    | names.Soname ↦ (tt, (is, tt))
    | names.Needed ↦ (tt, (is, tt))
    | names.Entry ↦ (tt, (is, tt))
    | names.Export export ↦ (tt, (is, tt))
    | names.Weak ↦ (tt, (is, tt))
    | names.Version ↦ (tt, (is, tt))
    | names.Entries array ↦ (tt, (is, tt))
  ]

  by_number : (word : NumberWord) (value : Number) → Good (sized word value)
  by_number (numbers.Data size) value = (tt, tt)
  by_number numbers.Zero value = (tt, tt)

  by_itself : (word : LoneWord) → Good (lone word)
  by_itself (lones.Section section) = (tt, tt)
  by_itself lones.Relr = (tt, tt)

  flags_good : (words : List (List ℕ)) → Ends Good (flags words)
  unfolding flags
  flags_good [] = tt
  flags_good (first ∷ rest) = if_some Good (list_all is_flag (first ∷ rest)) _ (tt, tt)

  symver_good : (operands : List (List ℕ)) → Each (Short long) operands → Ends Good (symver operands)
  unfolding symver
  symver_good (label ∷ text ∷ []) (one, (other, short)) =
      bound (IsNameWithin long) Good (name label) _ (a_name long label one)
      (λ exported is. bound (Pair long) Good (cut (byte "@") text) _ (cut_short long (until_mark (byte "@") text) text other)
      (λ parts within. let less = some_version parts.1 in bound (Pairs long) Good (two_names parts.0 (after_at parts.1).1) _ (pair_named long parts.0 (after_at parts.1).1 within.0 (omega (arith, less, within.1)))
      (λ both are. (tt, (is, (are.0, (are.1, tt)))))))
  symver_good _ short = tt

  need_of_good : (is_weak : Bool) (text file : List ℕ) → length text ≤ long → length file ≤ long → Ends Good (need_of is_weak text file)
  unfolding need_of
  need_of_good is_weak text file one other =
      bound (Pairs long) Good (versioned text) _ (version_named long text one)
      (λ both are. bound (IsNameWithin long) Good (name file) _ (a_name long file other) (λ library is. (tt, (are.0, (are.1, (is, tt))))))

  need_file_good : (text rest : List ℕ) → length text ≤ long → length rest ≤ long → Ends Good (need_file text rest)
  need_file_good text rest one other =
      let weak : (b : Bool) (file : List ℕ) → length file ≤ long → Ends Good (if b then need_of true text file else None)
      = λ b file short. elim b as (λ b. Ends Good (if b then need_of true text file else None)) [ true ↦ need_of_good true text file one short | false ↦ tt ] in
      let P : Option (List ℕ × List ℕ) → Type 0 = λ o. Ends (Pair long) o
      → Ends Good (elim o as (λ _. Option Directive) [ None ↦ need_of false text rest | Some parts ↦ if bytes_eq (after_blanks parts.1) (codes "weak") then need_of true text parts.0 else None ]) in
      let cases : (o : Option (List ℕ × List ℕ)) → P o
      = λ o. elim o as P [ None ↦ λ _. need_of_good false text rest one other | Some parts ↦ λ within. weak (bytes_eq (after_blanks parts.1) (codes "weak")) parts.0 within.0 ] in
      cases (cut_blank rest) (cut_short long (until_blank rest) rest other)

  need_good : (text : List ℕ) → length text ≤ long → Ends Good (need text)
  unfolding need
  need_good text short =
      bound (Pair long) Good (cut_blank text) _ (cut_short long (until_blank text) text short)
      (λ parts within. let less = some_after parts.1 in need_file_good parts.0 (after_blanks parts.1) within.0 (omega (arith, less, within.1)))

  sum_good : (text : List ℕ) → length text ≤ long → Ends Good (sum text)
  unfolding sum
  sum_good text short =
      bound (Pair long) Good (cut (byte "+") text) _ (cut_short long (until_mark (byte "+") text) text short)
      (λ parts within. let less = some_trimmed parts.0 in bound (λ _. ⊤) Good (number (trimmed parts.1)) _ (any (number (trimmed parts.1)))
      (λ addend _. bound (IsNameWithin long) Good (name (trimmed parts.0)) _ (a_name long (trimmed parts.0) (omega (arith, less, within.0))) (λ base is. (tt, (is, tt)))))

  doubleword_good : (text : List ℕ) → length text ≤ long → Ends Good (doubleword text)
  unfolding doubleword
  doubleword_good text short =
      either Good (option_map (λ value. the.Dword (doublewords.Number value)) (number text)) _ (mapped (λ _. ⊤) Good (number text) _ (any (number text)) (λ value _. (tt, tt)))
      (either Good (option_map (λ base. the.Dword (doublewords.Address base no_bytes)) (name text)) (sum text)
      (mapped (IsNameWithin long) Good (name text) _ (a_name long text short) (λ base is. (tt, (is, tt)))) (sum_good text short))

  copy_good : (operands : List (List ℕ)) → Each (Short long) operands → Ends Good (copy operands)
  unfolding copy
  copy_good (label ∷ size ∷ []) (one, short) =
      bound (λ _. ⊤) Good (number size) _ (any (number size))
      (λ bytes _. bound (IsNameWithin long) Good (name label) _ (a_name long label one) (λ target is. (tt, (is, tt))))
  copy_good _ short = tt

  pub directive_good : (word : DirectiveWord) (text : List ℕ) → length text ≤ long → Ends Good (directive word text)
  unfolding directive
  directive_good (words.Name word) text short = mapped (IsNameWithin long) Good (name text) (named word) (a_name long text short) (by_name word)
  directive_good (words.Number word) text short = mapped (λ _. ⊤) Good (number text) (sized word) (any (number text)) (λ value _. by_number word value)
  directive_good (words.Lone word) text short = if_some Good (length text == 0) (lone word) (by_itself word)
  directive_good words.Kind text short = mapped (λ _. ⊤) Good (kind text) the.Kind (any (kind text)) (λ _ _. (tt, tt))
  directive_good words.Hash text short = mapped (λ _. ⊤) Good (hash text) the.Hash (any (hash text)) (λ _ _. (tt, tt))
  directive_good words.Flags text short = flags_good (words_of text)
  directive_good words.Symver text short = symver_good (operands_of text) (operands_short long text short)
  directive_good words.Need text short = need_good text short
  directive_good words.Dword text short = doubleword_good text short
  directive_good words.Asciz text short = mapped (λ inner. length inner < length text) Good (quoted text) the.Asciz (quoted_short text) (λ inner less. (omega (arith, less, short), tt))
  directive_good words.Align text short = mapped (λ bytes. is_alignment bytes ≡ true) Good (alignment text) the.Align (alignment_is text) (λ bytes is. (is, tt))
  directive_good words.Copy text short = copy_good (operands_of text) (operands_short long text short)
