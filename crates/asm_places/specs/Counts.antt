-- How far lines fill the sections, as it is counted line by line.
use Rattle.std.specs.Prelude.{◌≡◌, ℕ, ◌+◌, ◌<◌, if◌then◌else◌, List, length, slice_index, slice_index_or}
use Rattle.asm_statement.specs.declared.directive.Section.{Section}
use Rattle.asm_statement.specs.declared.line.Line.{Line}
use Rattle.asm_layout.specs.declared.place.Place.{Place}
use Rattle.asm_layout.specs.Places.{section_number, is_section, next_section, section_after, filled, size_at, place_at}
use Rattle.asm_places.specs.declared.counter.Counter.{Counter}
use Rattle.asm_places.specs.declared.places.Places.{Places}

-- how many bytes a section has so far
abbrev pub filled_of : Counter → Section → ℕ
filled_of counter section = slice_index counter.filled (section_number section)

-- what lines leave
pub record Counts (lines : List Line) (counter : Counter) : Type 0 where
  pub section : counter.section ≡ section_after lines
  pub filled : (s : Section) → filled_of counter s ≡ filled s lines

-- what one line makes of it
pub record Advances (line : Line) (old new : Counter) : Type 0 where
  pub section : new.section ≡ next_section old.section line
  pub filled : (s : Section) → filled_of new s
      ≡ (if is_section s old.section then filled_of old s + size_at (filled_of old s) line.statement else filled_of old s)

-- a list has the place of each of the first lines
pub record ArePlacesTo (lines : List Line) (count : ℕ) (places : List Place) : Type 0 where
  pub all : length places ≡ count
  pub each : (k : ℕ) (d : Place) → k < count → slice_index_or places k d ≡ place_at lines k

-- the places of lines, and what they leave
pub record ArePlacesOf (lines : List Line) (places : Places) : Type 0 where
  pub each : ArePlacesTo lines (length lines) places.lines
  pub end : Counts lines places.end
