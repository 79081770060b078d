-- The record that the statements of a source say: what a reader is to find in the object that the source denotes.
use Rattle.std.specs.Prelude.{ℕ, ◌+◌, ◌*◌, nat_lt, if◌then◌else◌, List, [], ◌∷◌, ◌++◌, map, filter, length, Option, Some, None, unwrap_or}
use Rattle.ld_base.specs.declared.object.Object.{Object}
use Rattle.ld_base.specs.declared.object.Span.{Span}
use Rattle.ld_base.specs.declared.object.Symbol.{Symbol}
use Rattle.ld_base.specs.declared.object.Verdef.{Verdef}
use Rattle.ld_base.specs.declared.object.Verneed.{Verneed}
use Rattle.ld_base.specs.declared.parts.Head.{Head}
use Rattle.elf_object.specs.Segments.{relro_of, segments_of, tls_of}
use Rattle.asm_write.specs.declared.part.Part.{Part}
use Rattle.asm_write.specs.declared.part.Part.TheVariants as parts
use Rattle.asm_write.specs.declared.starts.Starts.{Starts}
use Rattle.asm_write.specs.Records.{header_of, section_index, symbol_value}
use Rattle.asm_write.specs.Sizes.{has_listed}
use Rattle.asm_write.specs.Sizes.{segments_of as segment_kinds}
use Rattle.asm_write.specs.Starts.{starts_of}
use Rattle.asm_write.specs.Values.{packed_places}
use Rattle.asm_accepted.specs.ElfTabled.Tables.{said_reloc, slots_at}
use Rattle.asm_statement.specs.declared.directive.Array.{Array}
use Rattle.asm_statement.specs.declared.directive.Array.TheVariants as arrays
use Rattle.asm_statement.specs.declared.line.Line.{Line}
use Rattle.asm_layout.specs.declared.uses.Exported.{Exported}
use Rattle.asm_layout.specs.Contents.{contents_of, elf_kind, entry_name}
use Rattle.asm_layout.specs.Fixes.{fixes_of}
use Rattle.asm_layout.specs.Labels.{label}
use Rattle.asm_layout.specs.Object.{object_of}
use Rattle.asm_layout.specs.Parts.{start_of}
use Rattle.asm_layout.specs.Spots.{label_spot, sections_of}
use Rattle.asm_layout.specs.Symbols.{binding, first_export, hidden_bit, if_versioned, label_size, need_index, own_index, sorted_exports, symbol_index}
use Rattle.asm_layout.specs.Symbols.{type_at, visibility}
use Rattle.asm_layout.specs.Tables.{entries, flags_of, has_gnu, hash_of, needed, soname, versions}
use Rattle.asm_layout.specs.Uses.{imports, slots}
use Rattle.asm_layout.specs.Versions.{file_versions, first_needed, has_versions, needed_files, version_flags}
use Rattle.asm_layout.specs.Words.{label_address}

-- where the parts of the object start
abbrev pub starts_for : List Line → Starts
starts_for lines = starts_of (contents_of lines)

-- its kind, the address of the label at which a program begins, 0 where there is none, and a header for each segment
abbrev pub head_of : List Line → Head
head_of lines = record {
  kind = elf_kind lines;
  entry = unwrap_or (label_address lines (entry_name lines)) 0;
  headers = map (header_of (starts_for lines) (sections_of lines)) (segment_kinds (contents_of lines));
}

-- the symbols: the null symbol, those that another object has to define, by first mention, and those that others may find
abbrev pub null_symbol : Symbol
null_symbol = record { name = []; info = 0; other = 0; shndx = 0; value = 0; size = 0; version = 0 }

abbrev pub undefined_symbol : List Line → List ℕ → Symbol
undefined_symbol lines name = record {
  name = name;
  info = 16 * binding lines name;
  other = 0;
  shndx = 0;
  value = 0;
  size = 0;
  version = if_versioned lines (need_index lines name);
}

abbrev pub exported_symbol : List Line → Exported → Symbol
exported_symbol lines exported = record {
  name = exported.name;
  info = 16 * binding lines exported.label + type_at (label lines exported.label);
  other = visibility lines exported.label;
  shndx = section_index (label_spot lines exported.label);
  value = symbol_value (starts_for lines) (label_spot lines exported.label);
  size = label_size lines exported.label;
  version = if_versioned lines (own_index lines exported exported.version + hidden_bit exported.is_default);
}

abbrev pub symbols_of : List Line → List Symbol
symbols_of lines = null_symbol ∷ (map (undefined_symbol lines) (imports lines) ++ map (exported_symbol lines) (sorted_exports lines))

-- the versions that it defines: the base, which has its own name (VER_FLG_BASE is 1), then each from index 2 on
abbrev pub defined_from : ℕ → List (List ℕ) → List Verdef
defined_from index [] = []
defined_from index (name ∷ names) = record { index = index; flags = 0; name = name } ∷ defined_from (index + 1) names

abbrev pub verdefs_of : Option (List ℕ) → List (List ℕ) → List Verdef
verdefs_of own [] = []
verdefs_of own (name ∷ names) = record { index = 1; flags = 1; name = unwrap_or own [] } ∷ defined_from 2 (name ∷ names)

-- the versions that it needs, file by file
abbrev pub needed_from : List Line → List ℕ → ℕ → List (List ℕ) → List Verneed
needed_from lines file index [] = []
needed_from lines file index (version ∷ rest) =
    record { index = index; flags = version_flags lines file version; file = file; name = version } ∷ needed_from lines file (index + 1) rest

abbrev pub verneeds_from : List Line → ℕ → List (List ℕ) → List Verneed
verneeds_from lines index [] = []
verneeds_from lines index (file ∷ files) =
    needed_from lines file index (file_versions lines file) ++ verneeds_from lines (index + length (file_versions lines file)) files

-- where the slots' words stand, and an array of functions
abbrev pub slot_words : List Line → Option ℕ
slot_words lines = if nat_lt 0 (length (slots lines)) then Some (start_of lines parts.GotPlt) else None

abbrev pub array_of : List Line → Array → Part → Option Span
array_of lines array part =
    if nat_lt 0 (length (entries array lines)) then Some (record { start = start_of lines part; size = 8 * length (entries array lines) }) else None

-- the record; a segment's bytes are those of the file that its header names
unfoldable pub record_of : List Line → Object
record_of lines = record {
  kind = elf_kind lines;
  entry = (head_of lines).entry;
  soname = soname lines;
  needed = needed lines;
  segments = segments_of (object_of lines) (head_of lines).headers;
  symbols = symbols_of lines;
  first_exported = if has_gnu (hash_of lines) then first_export lines else 1;
  has_versym = has_versions lines;
  verdefs = verdefs_of (soname lines) (versions lines);
  verneeds = verneeds_from lines (first_needed lines) (needed_files lines);
  relocs = map (said_reloc (starts_for lines)) (filter has_listed (fixes_of lines));
  plt_relocs = slots_at (start_of lines parts.GotPlt + 16) (map (symbol_index lines) (slots lines));
  pltgot = slot_words lines;
  preinit = array_of lines arrays.Preinit parts.PreinitArray;
  init = None;
  init_array = array_of lines arrays.Init parts.InitArray;
  fini = None;
  fini_array = array_of lines arrays.Fini parts.FiniArray;
  tls = tls_of (head_of lines).headers;
  relro = relro_of (head_of lines).headers;
  flags = flags_of lines;
  relr = packed_places (starts_for lines) (fixes_of lines);
  dynamic = start_of lines parts.Dynamic;
}
