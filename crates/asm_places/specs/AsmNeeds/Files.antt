-- What versions are needed of which files, as they are kept to be looked up.
use Rattle.std.specs.Prelude.{◌≡◌, ℕ, ◌+◌, ◌<◌, List, [], take, length, Option, option_map, position, slice_index, slice_index_or}
use Rattle.asm_statement.specs.declared.line.Line.{Line}
use Rattle.asm_layout.specs.Versions.{needed_files, file_versions, strong_versions, version_count}
use Rattle.std.specs.Str.{bytes_eq}
use Rattle.asm_places.specs.declared.asm_needs.needed_file.NeededFile.{NeededFile}
use Rattle.asm_places.specs.declared.asm_needs.needed_files.NeededFiles.{NeededFiles}

-- what is kept of a file
abbrev pub file_of : List Line → List ℕ → NeededFile
file_of lines file = record { versions = file_versions lines file; strong = strong_versions lines file }

-- the files, what is needed of each, and how many versions are needed of those before it
pub record AreFilesOf (lines : List Line) (needed : NeededFiles) : Type 0 where
  pub names : needed.names ≡ needed_files lines
  pub each : (k : ℕ) (d : NeededFile) → k < length (needed_files lines)
      → slice_index_or needed.files.items k d ≡ file_of lines (slice_index_or (needed_files lines) k [])
  pub firsts : (k : ℕ) → k < length (needed_files lines) → slice_index needed.firsts.items k ≡ version_count lines (take k (needed_files lines))

-- the number of a version of the file at a place among them
abbrev pub number_within : List Line → ℕ → List ℕ → List ℕ → Option ℕ
number_within lines at file version =
    option_map (λ place. version_count lines (take at (needed_files lines)) + place) (position (bytes_eq version) (file_versions lines file))
