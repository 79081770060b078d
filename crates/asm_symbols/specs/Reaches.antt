-- How far labels reach, told from the last line to the first.
use Rattle.std.specs.Prelude.{◌≡◌, ℕ, ◌<◌, ◌≤◌, ◌==◌, Bool, not, List, drop, length, slice_index}
use Rattle.asm_statement.specs.declared.directive.Section.{Section}
use Rattle.asm_statement.specs.declared.line.Line.{Line}
use Rattle.asm_layout.specs.Labels.{defined_by}
use Rattle.asm_layout.specs.Places.{section_number}
use Rattle.asm_layout.specs.Symbols.{next_offset, size_behind}
use Rattle.asm_symbols.specs.declared.label_sizes.Ends.{Ends}

abbrev pub defines_some : Line → Bool
defines_some line = not (length (defined_by line) == 0)

-- where the next label of a section stands, or where the section ends
abbrev pub end_of : Ends → Section → ℕ
end_of ends section = slice_index ends.offsets (section_number section)

abbrev pub AreEndsFrom : List Line → ℕ → Ends → Type 0
AreEndsFrom lines k ends = (section : Section) → end_of ends section ≡ next_offset lines section k (drop k lines)

-- how far the lines from one on reach
pub record AreSizesFrom (lines : List Line) (start : ℕ) (sizes : List ℕ) : Type 0 where
  pub all : length sizes ≡ length lines
  pub each : (k : ℕ) → start ≤ k → k < length lines → slice_index sizes k ≡ size_behind lines k
