-- Labels: which names lines define, and where.
use Rattle.std.specs.Prelude.{ℕ, Bool, false, ◌||◌, List, [], ◌∷◌, ◌++◌, Option, Some, None, option_to_list, option_map, position}
use Rattle.std.specs.Str.{bytes_eq}
use Rattle.std.specs.List.{list_any}
use Rattle.asm_statement.specs.declared.directive.Directive.TheVariants as directives
use Rattle.asm_statement.specs.declared.line.Statement.{Statement}
use Rattle.asm_statement.specs.declared.line.Statement.TheVariants as statements
use Rattle.asm_statement.specs.declared.line.Line.{Line}
use Rattle.asm_layout.specs.declared.place.Place.{Place}
use Rattle.asm_layout.specs.Places.{place_at}

-- the name of a .copy is a label, too
abbrev pub copy_name : Option Statement → Option (List ℕ)
copy_name (Some (statements.Directive (directives.Copy name size))) = Some name
copy_name _ = None

-- the names that a line defines
abbrev pub defined_by : Line → List (List ℕ)
defined_by line = option_to_list line.label ++ option_to_list (copy_name line.statement)

abbrev pub defines : List ℕ → Line → Bool
defines name line = list_any (bytes_eq name) (defined_by line)

-- whether a line of these defines a name
abbrev pub is_label : List Line → List ℕ → Bool
is_label lines name = list_any (defines name) lines

-- the place of the first line that defines a name
unfoldable pub label : List Line → List ℕ → Option Place
label lines name = option_map (place_at lines) (position (defines name) lines)

-- whether one of these names is a label of these lines, or stands twice among them
abbrev pub is_taken : List Line → List (List ℕ) → Bool
is_taken before [] = false
is_taken before (name ∷ names) = is_label before name || list_any (bytes_eq name) names || is_taken before names
