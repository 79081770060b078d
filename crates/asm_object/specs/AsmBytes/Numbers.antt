-- The number that the data of a line holds in the file.
use Rattle.std.specs.Prelude.{◌≡◌, ℕ, ◌<◌, List, length, Option, Some, None, slice_get, slice_index_or}
use Rattle.asm_write.specs.declared.starts.Starts.{Starts}
use Rattle.asm_write.specs.Records.{file_word}
use Rattle.asm_statement.specs.declared.directive.Directive.{Directive}
use Rattle.asm_statement.specs.declared.directive.Directive.TheVariants as directives
use Rattle.asm_statement.specs.declared.directive.Doubleword.{Doubleword}
use Rattle.asm_statement.specs.declared.directive.Doubleword.TheVariants as doublewords
use Rattle.asm_statement.specs.declared.line.Statement.{Statement}
use Rattle.asm_statement.specs.declared.line.Statement.TheVariants as statements
use Rattle.asm_statement.specs.declared.line.Line.{Line}
use Rattle.asm_layout.specs.declared.place.Place.{Place}
use Rattle.asm_layout.specs.Fixes.{address_fix, addend_of}
use Rattle.asm_layout.specs.Places.{place_at}
use Rattle.asm_layout.specs.Spots.{spot_of}

-- a number, or as much of an address as the file has
abbrev pub dword_number : List Line → Starts → Place → Doubleword → ℕ
dword_number lines starts place (doublewords.Number number) = addend_of number
dword_number lines starts place (doublewords.Address name addend) = file_word starts (address_fix lines (spot_of place) name (addend_of addend))

-- 0 where a directive has none
unfoldable pub directive_number : List Line → Starts → Place → Directive → ℕ
directive_number lines starts place (directives.Data size number) = addend_of number
directive_number lines starts place (directives.Dword value) = dword_number lines starts place value
directive_number lines starts place _ = 0

abbrev pub statement_number : List Line → Starts → Place → Option Statement → ℕ
statement_number lines starts place (Some (statements.Directive directive)) = directive_number lines starts place directive
statement_number lines starts place (Some (statements.Instruction instruction)) = 0
statement_number lines starts place None = 0

abbrev pub line_number : List Line → Starts → Place → Option Line → ℕ
line_number lines starts place (Some line) = statement_number lines starts place line.statement
line_number lines starts place None = 0

-- that of a line, by its number from 0
unfoldable pub number_at : List Line → Starts → ℕ → ℕ
number_at lines starts k = line_number lines starts (place_at lines k) (slice_get lines k)

-- a list has the number of each of the first lines
pub record AreNumbersTo (lines : List Line) (starts : Starts) (count : ℕ) (numbers : List ℕ) : Type 0 where
  pub all : length numbers ≡ count
  pub each : (k : ℕ) (d : ℕ) → k < count → slice_index_or numbers k d ≡ number_at lines starts k

abbrev pub AreNumbersOf : List Line → Starts → List ℕ → Type 0
AreNumbersOf lines starts numbers = AreNumbersTo lines starts (length lines) numbers
