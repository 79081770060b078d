-- What the records of a version table are read from.
use Rattle.std.specs.Prelude.{ℕ, List}
use Rattle.ld_base.specs.declared.parts.Header.{Header}

pub record Source : Type 0 where
  -- the bytes of the file, and its program headers
  pub bytes : List ℕ
  pub headers : List Header
  -- the string table
  pub strings : List ℕ
  -- the tag that names the table
  pub tag : ℕ
