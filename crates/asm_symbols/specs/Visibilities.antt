-- How much of symbols other objects see, as it is looked up.
use Rattle.std.specs.Prelude.{ℕ, List, Option, Some, None, if◌then◌else◌, unwrap_or}
use Rattle.std.specs.Map.{lookup}
use Rattle.std.specs.Str.{bytes_eq}
use Rattle.asm_symbols.specs.declared.visibilities.Visibility.{Visibility}
use Rattle.asm_symbols.specs.declared.visibilities.Visibility.TheVariants as kinds

-- STV_DEFAULT, STV_HIDDEN, STV_PROTECTED
abbrev pub code_of : Visibility → ℕ
code_of kinds.Default = 0
code_of kinds.Hidden = 2
code_of kinds.Protected = 3

-- the visibility of a name
abbrev pub visibility_of : List (List ℕ × Visibility) → List ℕ → Visibility
visibility_of given name = unwrap_or (lookup (bytes_eq name) given) kinds.Default

-- what a name has behind a line that gives one name a visibility, or gives none
abbrev pub given_or : List ℕ → ℕ → Option (List ℕ × Visibility) → ℕ
given_or name before None = before
given_or name before (Some given) = if bytes_eq name given.0 then code_of given.1 else before
