-- What is needed of files, need by need: for the functions of this crate alone.
use Rattle.std.specs.Prelude.{◌≡◌, ℕ, ◌+◌, ◌<◌, if◌then◌else◌, List, [], ◌∷◌, map, filter, length, Option, Some, None, position, slice_index_or, slice_set}
use Rattle.std.specs.Str.{bytes_eq}
use Rattle.asm_statement.specs.declared.directive.Need.{Need}
use Rattle.asm_layout.specs.Once.{added}
use Rattle.asm_layout.specs.Uses.{distinct_names}
use Rattle.asm_layout.specs.Versions.{is_of_file, is_strong_need}
use Rattle.asm_places.specs.declared.asm_needs.needed_file.NeededFile.{NeededFile}

abbrev pub nothing : NeededFile
nothing = record { versions = []; strong = [] }

-- so many files of which nothing is needed
pub record AreEmpty (count : ℕ) (files : List NeededFile) : Type 0 where
  pub all : length files ≡ count
  pub each : (k : ℕ) (d : NeededFile) → k < count → slice_index_or files k d ≡ nothing

-- a file of which one more version is needed
abbrev pub with_need : Need → NeededFile → NeededFile
with_need need file = record {
  versions = added bytes_eq file.versions need.version;
  strong = if need.is_weak then file.strong else added bytes_eq file.strong need.version;
}

-- the first file of the need's name has it
abbrev pub with_need_at : Need → Option ℕ → List NeededFile → List NeededFile
with_need_at need None files = files
with_need_at need (Some at) files = slice_set files at (with_need need (slice_index_or files at nothing))

abbrev pub Adds : List (List ℕ) → Need → List NeededFile → List NeededFile → Type 0
Adds names need old new = new ≡ with_need_at need (position (bytes_eq need.file) names) old

-- what needs ask of a file
abbrev pub part_of : List Need → List ℕ → NeededFile
part_of needs file = record {
  versions = distinct_names (map (λ need. need.version) (filter (is_of_file file) needs));
  strong = distinct_names (map (λ need. need.version) (filter (is_strong_need file) needs));
}

pub record ArePartOf (names : List (List ℕ)) (needs : List Need) (files : List NeededFile) : Type 0 where
  pub all : length files ≡ length names
  pub each : (k : ℕ) (d : NeededFile) → k < length names → slice_index_or files k d ≡ part_of needs (slice_index_or names k [])

-- from a count on, what stands before each of several counts
abbrev pub running_counts : ℕ → List ℕ → List ℕ
running_counts before [] = []
running_counts before (count ∷ counts) = before ∷ running_counts (before + count) counts
