-- The strings of lines are those of the libraries that they need.
use Rattle.std.proofs.Common.{◌≡◌, ap, ℕ, List, [], ◌∷◌, ◌++◌, flat_map, filter_map, refl}
use Rattle.std.specs.Prelude.{Option, Some, None}
use Rattle.std.specs.List.{cons_option}
use Rattle.asm_statement.specs.declared.line.Line.{Line}
use Rattle.asm_layout.specs.Contents.{string_bytes}
use Rattle.asm_layout.specs.Tables.{library_needed}
use Rattle.asm_symbols.specs.AsmTables.Needed.{library_bytes}

one : (found : Option (List ℕ)) (bytes : List ℕ) (names : List (List ℕ)) → bytes ≡ flat_map string_bytes names
    → library_bytes found ++ bytes ≡ flat_map string_bytes (cons_option found names)
one None bytes names e = e
one (Some name) bytes names e = ap (λ rest. string_bytes name ++ rest) e

pub all : (lines : List Line) → flat_map (λ line. library_bytes (library_needed line.statement)) lines
    ≡ flat_map string_bytes (filter_map (λ line. library_needed line.statement) lines)
all [] = refl
all (line ∷ lines) =
    one (library_needed line.statement) (flat_map (λ line. library_bytes (library_needed line.statement)) lines)
    (filter_map (λ line. library_needed line.statement) lines) (all lines)
