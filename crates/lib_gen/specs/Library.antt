-- A generated set as a library.
use Rattle.std.specs.Prelude.{ℕ, List}
use Rattle.ld_base.specs.declared.linking.File.{File}

-- its files, and how often it had no file at a path
pub record SetState : Type 0 where
  pub files : List File
  pub misses : ℕ
