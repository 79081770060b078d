-- The operands of directives, a line a form of them.
use Rattle.std.specs.Prelude.{ℕ, Bool, true, false, not, ◌&&◌, ◌||◌, ◌==◌, if◌then◌else◌, List, [], ◌∷◌, length, filter, Option, Some, None, codes}
use Rattle.std.specs.Option.{option_map, option_or}
use Rattle.std.specs.List.{list_all, list_any, slice_split}
use Rattle.std.specs.Str.{bytes_eq, byte}
use Rattle.asm_statement.specs.AsmWords.Text.{◌>>=◌, is_blank, cut, cut_blank, after_blanks, trimmed}
use Rattle.asm_statement.specs.AsmWords.Names.{name}
use Rattle.asm_statement.specs.AsmWords.Number.{number}
use Rattle.asm_statement.specs.AsmWords.Kinds.{kind, hash}
use Rattle.asm_statement.specs.declared.asm_words.directive_words.NameWord.{NameWord}
use Rattle.asm_statement.specs.declared.asm_words.directive_words.NameWord.TheVariants as names
use Rattle.asm_statement.specs.declared.asm_words.directive_words.NumberWord.{NumberWord}
use Rattle.asm_statement.specs.declared.asm_words.directive_words.NumberWord.TheVariants as numbers
use Rattle.asm_statement.specs.declared.asm_words.directive_words.LoneWord.{LoneWord}
use Rattle.asm_statement.specs.declared.asm_words.directive_words.LoneWord.TheVariants as lones
use Rattle.asm_statement.specs.declared.asm_words.directive_words.DirectiveWord.{DirectiveWord}
use Rattle.asm_statement.specs.declared.asm_words.directive_words.DirectiveWord.TheVariants as words
use Rattle.asm_statement.specs.Alignments.{is_alignment}
use Rattle.asm_statement.specs.declared.directive.Doubleword.TheVariants as doublewords
use Rattle.asm_statement.specs.declared.directive.Directive.{Directive}
use Rattle.asm_statement.specs.declared.directive.Directive.TheVariants as the
use Rattle.asm_statement.specs.declared.number.Number.{Number}
use Rattle.asm_grammar.specs.Operands.{zero, operands_of}

-- the words between blanks
abbrev pub words_of : List ℕ → List (List ℕ)
words_of text = filter (λ word. not (length word == 0)) (slice_split is_blank text)

-- the words of .flags
unfoldable pub is_flag : List ℕ → Bool
is_flag word = bytes_eq word (codes "symbolic") || (bytes_eq word (codes "now") || bytes_eq word (codes "nodelete"))

abbrev pub stands_in : List (List ℕ) → List ℕ → Bool
stands_in words word = list_any (λ other. bytes_eq other word) words

-- one flag or more
unfoldable pub flags : List (List ℕ) → Option Directive
flags [] = None
flags (first ∷ rest) =
    if list_all is_flag (first ∷ rest)
    then Some (the.Flags (record {
      symbolic = stands_in (first ∷ rest) (codes "symbolic");
      bind_now = stands_in (first ∷ rest) (codes "now");
      nodelete = stands_in (first ∷ rest) (codes "nodelete");
    }))
    else None

abbrev pub two_names : List ℕ → List ℕ → Option (List ℕ × List ℕ)
two_names first second = do
  one ← name first
  two ← name second
  Some (one, two)

-- NAME@VERSION
unfoldable pub versioned : List ℕ → Option (List ℕ × List ℕ)
versioned text = do
  parts ← cut (byte "@") text
  two_names parts.0 parts.1

-- after the first @ a second one says that the version is that of references without one
abbrev pub after_at : List ℕ → Bool × List ℕ
after_at [] = (false, [])
after_at (first ∷ rest) = if first == byte "@" then (true, rest) else (false, first ∷ rest)

-- LABEL, NAME@VERSION or LABEL, NAME@@VERSION
unfoldable pub symver : List (List ℕ) → Option Directive
symver (label ∷ text ∷ []) = do
  exported ← name label
  parts ← cut (byte "@") text
  both ← two_names parts.0 (after_at parts.1).1
  Some (the.Symver (record { label = exported; name = both.0; version = both.1; is_default = (after_at parts.1).0 }))
symver _ = None

-- NAME@VERSION FILE
unfoldable pub need_of : Bool → List ℕ → List ℕ → Option Directive
need_of is_weak text file = do
  both ← versioned text
  library ← name file
  Some (the.Need (record { name = both.0; version = both.1; file = library; is_weak = is_weak }))

-- FILE, or FILE weak
abbrev pub need_file : List ℕ → List ℕ → Option Directive
need_file text rest = parted (cut_blank rest)
  where
    parted : Option (List ℕ × List ℕ) → Option Directive
    parted None = need_of false text rest
    parted (Some parts) = if bytes_eq (after_blanks parts.1) (codes "weak") then need_of true text parts.0 else None

-- NAME@VERSION, and then a file
unfoldable pub need : List ℕ → Option Directive
need text = do
  parts ← cut_blank text
  need_file parts.0 (after_blanks parts.1)

-- NAME+N
unfoldable pub sum : List ℕ → Option Directive
sum text = do
  parts ← cut (byte "+") text
  addend ← number (trimmed parts.1)
  base ← name (trimmed parts.0)
  Some (the.Dword (doublewords.Address base addend))

-- a number, NAME or NAME+N
unfoldable pub doubleword : List ℕ → Option Directive
doubleword text =
    option_or (option_map (λ value. the.Dword (doublewords.Number value)) (number text))
    (option_or (option_map (λ base. the.Dword (doublewords.Address base zero)) (name text)) (sum text))

-- TEXT between quotes, with no quote in it
unfoldable pub quoted : List ℕ → Option (List ℕ)
quoted [] = None
quoted (first ∷ rest) =
    if first == byte "\"" then (do
      parts ← cut (byte "\"") rest
      if length parts.1 == 0 then Some parts.0 else None)
    else None

abbrev pub asciz : List ℕ → Option Directive
asciz text = option_map the.Asciz (quoted text)

-- a power of two from 1 to 4,096; a minus sign makes it none
unfoldable pub alignment : List ℕ → Option ℕ
alignment text = do
  value ← number text
  magnitude ← value.magnitude
  if not value.is_negative && is_alignment magnitude then Some magnitude else None

-- NAME, SIZE
unfoldable pub copy : List (List ℕ) → Option Directive
copy (label ∷ size ∷ []) = do
  bytes ← number size
  target ← name label
  Some (the.Copy target bytes)
copy _ = None

-- directives of a name
unfoldable pub named : NameWord → List ℕ → Directive
named names.Soname name = the.Soname name
named names.Needed name = the.Needed name
named names.Entry name = the.Entry name
named (names.Export export) name = the.Export export name
named names.Weak name = the.Weak name
named names.Version name = the.Version name
named (names.Entries array) name = the.Entries array name

-- directives of a number
abbrev pub sized : NumberWord → Number → Directive
sized (numbers.Data size) value = the.Data size value
sized numbers.Zero value = the.Zero value

-- directives of nothing
abbrev pub lone : LoneWord → Directive
lone (lones.Section section) = the.Section section
lone lones.Relr = the.Relr

-- a directive with its operands
unfoldable pub directive : DirectiveWord → List ℕ → Option Directive
directive (words.Name word) text = option_map (named word) (name text)
directive (words.Number word) text = option_map (sized word) (number text)
directive (words.Lone word) text = if length text == 0 then Some (lone word) else None
directive words.Kind text = option_map the.Kind (kind text)
directive words.Hash text = option_map the.Hash (hash text)
directive words.Flags text = flags (words_of text)
directive words.Symver text = symver (operands_of text)
directive words.Need text = need text
directive words.Dword text = doubleword text
directive words.Asciz text = asciz text
directive words.Align text = option_map the.Align (alignment text)
directive words.Copy text = copy (operands_of text)
