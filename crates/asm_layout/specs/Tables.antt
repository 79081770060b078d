-- What the lines say of the object as a whole.
use Rattle.std.specs.Prelude.{ℕ, Bool, true, false, ◌||◌, if◌then◌else◌, List}
use Rattle.std.specs.Prelude.{filter_map, fold, Option, Some, None}
use Rattle.std.specs.List.{list_any}
use Rattle.ld_base.specs.declared.object.ObjFlags.{ObjFlags}
use Rattle.asm_statement.specs.declared.directive.Array.{Array}
use Rattle.asm_statement.specs.declared.directive.Array.TheVariants as arrays
use Rattle.asm_statement.specs.declared.directive.HashKind.{HashKind}
use Rattle.asm_statement.specs.declared.directive.HashKind.TheVariants as hashes
use Rattle.asm_statement.specs.declared.directive.Directive.TheVariants as directives
use Rattle.asm_statement.specs.declared.line.Statement.{Statement}
use Rattle.asm_statement.specs.declared.line.Statement.TheVariants as statements
use Rattle.asm_statement.specs.declared.line.Line.{Line}
use Rattle.asm_layout.specs.declared.uses.GotKind.{GotKind}
use Rattle.asm_layout.specs.declared.uses.GotKind.TheVariants as gots
use Rattle.asm_layout.specs.Uses.{distinct_names}

-- what the lines say of the dynamic table; of a thing that is named twice the last counts
abbrev pub soname_given : Option (List ℕ) → Option Statement → Option (List ℕ)
soname_given soname (Some (statements.Directive (directives.Soname name))) = Some name
soname_given soname _ = soname

unfoldable pub soname : List Line → Option (List ℕ)
soname lines = fold (λ soname line. soname_given soname line.statement) None lines

abbrev pub library_needed : Option Statement → Option (List ℕ)
library_needed (Some (statements.Directive (directives.Needed name))) = Some name
library_needed _ = None

unfoldable pub needed : List Line → List (List ℕ)
needed lines = filter_map (λ line. library_needed line.statement) lines

abbrev pub hash_given : HashKind → Option Statement → HashKind
hash_given hash (Some (statements.Directive (directives.Hash given))) = given
hash_given hash _ = hash

unfoldable pub hash_of : List Line → HashKind
hash_of lines = fold (λ hash line. hash_given hash line.statement) hashes.Gnu lines

abbrev pub has_gnu : HashKind → Bool
has_gnu hashes.Gnu = true
has_gnu hashes.Sysv = false
has_gnu hashes.Both = true

abbrev pub has_sysv : HashKind → Bool
has_sysv hashes.Gnu = false
has_sysv hashes.Sysv = true
has_sysv hashes.Both = true

abbrev pub flags_joined : ObjFlags → ObjFlags → ObjFlags
flags_joined one other = record {
  symbolic = one.symbolic || other.symbolic;
  bind_now = one.bind_now || other.bind_now;
  nodelete = one.nodelete || other.nodelete;
}

abbrev pub flags_given : ObjFlags → Option Statement → ObjFlags
flags_given flags (Some (statements.Directive (directives.Flags given))) = flags_joined flags given
flags_given flags _ = flags

unfoldable pub flags_of : List Line → ObjFlags
flags_of lines = fold (λ flags line. flags_given flags line.statement) (record { symbolic = false; bind_now = false; nodelete = false }) lines

-- the versions that the object defines, in order
abbrev pub version_defined : Option Statement → Option (List ℕ)
version_defined (Some (statements.Directive (directives.Version name))) = Some name
version_defined _ = None

unfoldable pub versions : List Line → List (List ℕ)
versions lines = distinct_names (filter_map (λ line. version_defined line.statement) lines)

-- the labels of an array, in order
abbrev pub same_array : Array → Array → Bool
same_array arrays.Preinit arrays.Preinit = true
same_array arrays.Init arrays.Init = true
same_array arrays.Fini arrays.Fini = true
same_array _ _ = false

abbrev pub entry_in : Array → Option Statement → Option (List ℕ)
entry_in array (Some (statements.Directive (directives.Entries which name))) = if same_array array which then Some name else None
entry_in array _ = None

unfoldable pub entries : Array → List Line → List (List ℕ)
entries array lines = filter_map (λ line. entry_in array line.statement) lines

-- whether relative relocations stand in the packed table
abbrev pub asks_relr : Option Statement → Bool
asks_relr (Some (statements.Directive directives.Relr)) = true
asks_relr _ = false

unfoldable pub is_relr : List Line → Bool
is_relr lines = list_any (λ line. asks_relr line.statement) lines

-- the words of the global offset table
abbrev pub got_words : GotKind → ℕ
got_words gots.Address = 1
got_words gots.Pair = 2
got_words gots.Offset = 1
