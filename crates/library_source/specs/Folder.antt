-- A library over a folder, and what the system's errors mean to it.
use Rattle.std.specs.Prelude.{ℕ, ◌+◌, ◌*◌, ◌<◌, ◌≤◌, List, Option, length}
use Rattle.std.specs.Io.KnownBytes.{Consumes, IsAtEnd}
use Rattle.std.specs.declared.io.ErrorKind.{ErrorKind}
use Rattle.std.specs.declared.io.ErrorKind.TheVariants.{NotFound, OutOfMemory}
use Rattle.library_source.specs.declared.library.ReadError.{ReadError}
use Rattle.library_source.specs.declared.library.ReadError.TheVariants.{Missing, Failed, Memory}

-- what is known of a library over a folder: how often it failed, and how often it missed a path
pub record FolderState : Type 0 where
  pub faults : ℕ
  pub misses : ℕ

-- a file that isn't found is a miss, and anything else but want of memory a failure
abbrev pub read_error : ErrorKind → ReadError
read_error NotFound = Missing
read_error OutOfMemory = Memory
read_error _ = Failed

-- how many bytes of a file are read at most: one more than 8 MiB, which is the longest file that is accepted
abbrev pub read_limit : ℕ
read_limit = 8 * 1024 * 1024 + 1

-- what was read of a file, where it is known what the file had left before and after: no more than these bytes, and all of
-- them where they are short of the limit
pub record IsFront (before after : Option (List ℕ)) (bytes : List ℕ) : Type 0 where
  pub bound : length bytes ≤ read_limit
  pub taken : Consumes before after bytes
  pub whole : length bytes < read_limit → IsAtEnd after
