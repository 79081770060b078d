-- The string of a line that needs a library: for the loop of this crate alone.
use Rattle.std.specs.Prelude.{ℕ, List, [], Option, Some, None}
use Rattle.asm_layout.specs.Contents.{string_bytes}

abbrev pub library_bytes : Option (List ℕ) → List ℕ
library_bytes None = []
library_bytes (Some name) = string_bytes name
