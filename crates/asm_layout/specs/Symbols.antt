-- The symbols of the object (ELF-64 Object File Format 1.5, "Symbol Table").
use Rattle.std.specs.Prelude.{ℕ, ◌+◌, ◌-◌, ◌*◌, ◌==◌, Bool, true, false, not, ◌&&◌, if◌then◌else◌, List, [], ◌∷◌, fold, find, drop, length}
use Rattle.std.specs.Prelude.{Option, Some, None, unwrap_or, position}
use Rattle.std.specs.Option.{option_map_or}
use Rattle.std.specs.Str.{bytes_eq}
use Rattle.std.specs.List.{list_any}
use Rattle.asm_write.specs.declared.contents.SymbolEntry.{SymbolEntry}
use Rattle.sym_hash.specs.Hash.{gnu_hash}
use Rattle.asm_statement.specs.declared.directive.Section.{Section}
use Rattle.asm_statement.specs.declared.directive.Section.TheVariants as sections
use Rattle.asm_statement.specs.declared.directive.Export.TheVariants as visibilities
use Rattle.asm_statement.specs.declared.directive.Directive.TheVariants as directives
use Rattle.asm_statement.specs.declared.line.Statement.{Statement}
use Rattle.asm_statement.specs.declared.line.Statement.TheVariants as statements
use Rattle.asm_statement.specs.declared.line.Line.{Line}
use Rattle.asm_layout.specs.declared.place.Place.{Place}
use Rattle.asm_layout.specs.declared.uses.Exported.{Exported}
use Rattle.asm_write.specs.HashBuild.Hashed.{bucket_count, by_bucket}
use Rattle.asm_layout.specs.Labels.{label, defines, defined_by}
use Rattle.asm_layout.specs.Names.{is_exported}
use Rattle.asm_layout.specs.Numbers.{count_of}
use Rattle.asm_layout.specs.Places.{place_at, is_section, filled}
use Rattle.asm_layout.specs.Spots.{label_spot}
use Rattle.asm_layout.specs.Uses.{imports, exports, needs, same_export, own_symbol}
use Rattle.asm_layout.specs.Versions.{defined_index, needed_index, has_versions, half, word}

-- the exported symbols as they stand in the table: by the buckets of their hashes, and in a bucket by their lines
unfoldable pub sorted_exports : List Line → List Exported
sorted_exports lines = by_bucket (λ exported. gnu_hash exported.name) (bucket_count (length (exports lines))) (exports lines)

-- the index of a symbol: the null symbol is 0, the undefined ones come next
abbrev pub first_export : List Line → ℕ
first_export lines = 1 + length (imports lines)

abbrev pub export_index : List Line → Exported → ℕ
export_index lines exported = first_export lines + unwrap_or (position (same_export exported) (sorted_exports lines)) 0

-- the symbol of a name: an undefined one, or the label's by its own name
unfoldable pub symbol_index : List Line → List ℕ → ℕ
symbol_index lines name = word (option_map_or (λ at. 1 + at) (position (bytes_eq name) (imports lines)) (export_index lines (own_symbol lines name)))

-- binding: STB_WEAK (2) where some .weak names the label or the reference, else STB_GLOBAL (1)
abbrev pub weakens : List ℕ → Option Statement → Bool
weakens name (Some (statements.Directive (directives.Weak weak))) = bytes_eq name weak
weakens name _ = false

abbrev pub binding : List Line → List ℕ → ℕ
binding lines name = if list_any (λ line. weakens name line.statement) lines then 2 else 1

-- visibility: STV_HIDDEN (2) or STV_PROTECTED (3), by the last line that names a label that .global or .weak exports, else STV_DEFAULT (0)
abbrev pub visibility_given : List ℕ → ℕ → Option Statement → ℕ
visibility_given name visibility (Some (statements.Directive (directives.Export visibilities.Hidden kept))) = if bytes_eq name kept then 2 else visibility
visibility_given name visibility (Some (statements.Directive (directives.Export visibilities.Protected kept))) = if bytes_eq name kept then 3 else visibility
visibility_given name visibility _ = visibility

abbrev pub visibility : List Line → List ℕ → ℕ
visibility lines name = if is_exported lines name then fold (λ given line. visibility_given name given line.statement) 0 lines else 0

-- type: STT_FUNC (2) in .text, STT_TLS (6) in the thread's block, else STT_OBJECT (1)
abbrev pub type_in : Section → ℕ
type_in sections.Text = 2
type_in sections.Rodata = 1
type_in sections.Relro = 1
type_in sections.Data = 1
type_in sections.Bss = 1
type_in sections.Tdata = 6
type_in sections.Tbss = 6

abbrev pub type_at : Option Place → ℕ
type_at None = 0
type_at (Some place) = type_in place.section

-- how far a label's symbol reaches: to the next line of its section that defines a name, or to the section's end; a copy has its own size, and a
-- label beside it none
abbrev pub defines_in : List Line → Section → ℕ → Line → Bool
defines_in lines section k line = is_section section (place_at lines k).section && not (length (defined_by line) == 0)

abbrev pub next_offset : List Line → Section → ℕ → List Line → ℕ
next_offset lines section k [] = filled section lines
next_offset lines section k (line ∷ rest) =
    if defines_in lines section k line then (place_at lines k).offset else next_offset lines section (k + 1) rest

abbrev pub size_behind : List Line → ℕ → ℕ
size_behind lines k = next_offset lines (place_at lines k).section (k + 1) (drop (k + 1) lines) - (place_at lines k).offset

abbrev pub copy_size : List ℕ → Option Statement → Option ℕ
copy_size name (Some (statements.Directive (directives.Copy copy size))) = Some (if bytes_eq name copy then count_of size else 0)
copy_size name _ = None

abbrev pub size_of_line : List Line → List ℕ → ℕ → Option Line → ℕ
size_of_line lines name k None = 0
size_of_line lines name k (Some line) = unwrap_or (copy_size name line.statement) (size_behind lines k)

abbrev pub size_at_line : List Line → List ℕ → Option ℕ → ℕ
size_at_line lines name None = 0
size_at_line lines name (Some k) = size_of_line lines name k (find (defines name) lines)

unfoldable pub label_size : List Line → List ℕ → ℕ
label_size lines name = size_at_line lines name (position (defines name) lines)

-- versions: 0 where the object has none; a symbol without one has that of the object, 1; VERSYM_HIDDEN (0x8000) where references without a version
-- don't find it
abbrev pub need_index : List Line → List ℕ → ℕ
need_index lines name = option_map_or (λ need. needed_index lines need.file need.version) (find (λ need. bytes_eq name need.name) (needs lines)) 1

abbrev pub own_index : List Line → Exported → Option (List ℕ) → ℕ
own_index lines exported None = 1
own_index lines exported (Some version) =
    if exported.is_needed then need_index lines exported.label else defined_index lines version

abbrev pub hidden_bit : Bool → ℕ
hidden_bit true = 0
hidden_bit false = 0x8000

abbrev pub if_versioned : List Line → ℕ → ℕ
if_versioned lines index = if has_versions lines then half index else 0

-- an undefined symbol whose name stands at an offset of the strings, and an exported one
abbrev pub import_entry : List Line → ℕ → List ℕ → SymbolEntry
import_entry lines at name = record {
  name = word at;
  info = 16 * binding lines name;
  other = 0;
  spot = None;
  size = 0;
  version = if_versioned lines (need_index lines name);
}

abbrev pub export_entry : List Line → ℕ → Exported → SymbolEntry
export_entry lines at exported = record {
  name = word at;
  info = 16 * binding lines exported.label + type_at (label lines exported.label);
  other = visibility lines exported.label;
  spot = label_spot lines exported.label;
  size = label_size lines exported.label;
  version = if_versioned lines (own_index lines exported exported.version + hidden_bit exported.is_default);
}

abbrev pub import_entries : List Line → ℕ → List (List ℕ) → List SymbolEntry
import_entries lines at [] = []
import_entries lines at (name ∷ names) = import_entry lines at name ∷ import_entries lines (at + length name + 1) names

abbrev pub export_entries : List Line → ℕ → List Exported → List SymbolEntry
export_entries lines at [] = []
export_entries lines at (exported ∷ rest) = export_entry lines at exported ∷ export_entries lines (at + length exported.name + 1) rest
