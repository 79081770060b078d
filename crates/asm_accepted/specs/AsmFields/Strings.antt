-- Names in the strings of an object (gABI, "String Table").
use Rattle.std.specs.Prelude.{ℕ, ◌+◌, ◌^◌, ◌<◌, ◌==◌, ⊤, List, [], ◌∷◌, length, drop, option_to_list}
use Rattle.elf_head.specs.AcceptancePart.Before.{StandsBefore}
use Rattle.asm_statement.specs.declared.line.Line.{Line}
use Rattle.asm_layout.specs.Contents.{export_names, exports_at, files_at, imports_at, needed_at, needed_names, needed_versions_at, strings_of, versions_at}
use Rattle.asm_layout.specs.Tables.{needed, soname, versions}
use Rattle.asm_layout.specs.Uses.{imports}
use Rattle.asm_layout.specs.Versions.{needed_files}

-- a name stands at an offset of 32 bits: its bytes, of which none is zero, and a zero byte behind them
pub record StandsAt (strings : List ℕ) (offset : ℕ) (name : List ℕ) : Type 0 where
  pub low : offset < 2 ^ 32
  pub ended : StandsBefore (λ b. b == 0) name (drop offset strings)

-- names stand one behind the other, the first at this offset
abbrev pub StandFrom : List ℕ → ℕ → List (List ℕ) → Type 0
StandFrom strings offset [] = ⊤
StandFrom strings offset (name ∷ names) = StandsAt strings offset name × StandFrom strings (offset + length name + 1) names

-- the names of each kind stand where they are said to begin; the empty name stands at the begin
pub record NamesStand (lines : List Line) : Type 0 where
  pub nameless : StandsAt (strings_of lines) 0 []
  pub own : StandFrom (strings_of lines) 1 (option_to_list (soname lines))
  pub needed : StandFrom (strings_of lines) (needed_at lines) (needed lines)
  pub imports : StandFrom (strings_of lines) (imports_at lines) (imports lines)
  pub exports : StandFrom (strings_of lines) (exports_at lines) (export_names lines)
  pub versions : StandFrom (strings_of lines) (versions_at lines) (versions lines)
  pub files : StandFrom (strings_of lines) (files_at lines) (needed_files lines)
  pub needed_versions : StandFrom (strings_of lines) (needed_versions_at lines) (needed_names lines)
