-- The places that the linker fills (psABI, "Relocations"), in ascending order of address.
use Rattle.std.specs.Prelude.{ℕ, ◌+◌, ◌*◌, ◌%◌, ◌==◌, Bool, ◌&&◌, if◌then◌else◌, List, [], ◌∷◌, ◌++◌, Option, Some}
use Rattle.std.specs.Int.{w64, cast_unsigned}
use Rattle.std.specs.Option.{option_map_or}
use Rattle.asm_write.specs.declared.contents.Fix.{Fix}
use Rattle.asm_write.specs.declared.contents.FixKind.{FixKind}
use Rattle.asm_write.specs.declared.contents.FixKind.TheVariants as kinds
use Rattle.asm_write.specs.declared.contents.Spot.{Spot}
use Rattle.asm_write.specs.declared.contents.Target.{Target}
use Rattle.asm_write.specs.declared.contents.Target.TheVariants as targets
use Rattle.asm_write.specs.declared.contents.Way.{Way}
use Rattle.asm_write.specs.declared.contents.Way.TheVariants as ways
use Rattle.asm_write.specs.declared.part.Part.{Part}
use Rattle.asm_write.specs.declared.part.Part.TheVariants as parts
use Rattle.asm_write.specs.Starts.{wrapped}
use Rattle.asm_statement.specs.declared.directive.Array.TheVariants as arrays
use Rattle.asm_statement.specs.declared.directive.Section.{Section}
use Rattle.asm_statement.specs.declared.directive.Section.TheVariants as sections
use Rattle.asm_statement.specs.declared.directive.Directive.TheVariants as directives
use Rattle.asm_statement.specs.declared.directive.Doubleword.TheVariants as doublewords
use Rattle.asm_statement.specs.declared.number.Number.{Number}
use Rattle.asm_statement.specs.declared.line.Statement.{Statement}
use Rattle.asm_statement.specs.declared.line.Statement.TheVariants as statements
use Rattle.asm_statement.specs.declared.line.Line.{Line}
use Rattle.asm_layout.specs.declared.place.Place.{Place}
use Rattle.asm_layout.specs.declared.uses.GotKind.{GotKind}
use Rattle.asm_layout.specs.declared.uses.GotKind.TheVariants as gots
use Rattle.asm_layout.specs.declared.uses.GotUse.{GotUse}
use Rattle.asm_layout.specs.Names.{kind_of, is_executable, is_preemptible}
use Rattle.asm_layout.specs.Numbers.{value_of}
use Rattle.asm_layout.specs.Places.{place_at, padding, filled, is_section}
use Rattle.asm_layout.specs.Spots.{spot_of, own_spot, section_align}
use Rattle.asm_layout.specs.Symbols.{symbol_index}
use Rattle.asm_layout.specs.Tables.{got_words, entries, is_relr}
use Rattle.asm_layout.specs.Uses.{got_uses}

-- whether a place stands at a multiple of 8: .relro and .data begin at one, and .tdata stands where .relro ends and its alignment allows
abbrev pub phase : List Line → Part → ℕ
phase lines parts.Tdata = filled sections.Relro lines + padding (filled sections.Relro lines) (section_align lines sections.Tdata)
phase lines part = 0

abbrev pub is_at_doubleword : List Line → Spot → Bool
is_at_doubleword lines spot = (phase lines spot.part + spot.offset) % 8 == 0

-- how the linker is told of an address of the object's own: an executable's is final; a place that the packed table can name stands there, if the
-- source asks for that
abbrev pub own_way : List Line → Spot → Way
own_way lines spot =
    if is_executable (kind_of lines) then ways.Plain else if is_relr lines && is_at_doubleword lines spot then ways.Packed else ways.Listed

-- the entries of arrays are relocated in an executable, too
abbrev pub array_way : List Line → Way
array_way lines = if is_relr lines then ways.Packed else ways.Listed

abbrev pub target_of : List Line → List ℕ → Target
target_of lines name = if is_preemptible lines name then targets.Symbol (symbol_index lines name) else targets.Own (own_spot lines name)

abbrev pub address_way : List Line → Spot → List ℕ → Way
address_way lines spot name = if is_preemptible lines name then ways.Listed else own_way lines spot

-- the address of a name, and so many bytes more
abbrev pub address_fix : List Line → Spot → List ℕ → ℕ → Fix
address_fix lines spot name addend = record {
  spot = spot;
  way = address_way lines spot name;
  kind = kinds.Address;
  target = target_of lines name;
  addend = addend;
}

-- so far behind the start of a table; offsets are numbers of 64 bits
abbrev pub table_spot : Part → ℕ → Spot
table_spot part offset = record { part = part; offset = wrapped offset }

-- what of a thread-local name
abbrev pub tls_fix : List Line → FixKind → ℕ → List ℕ → Fix
tls_fix lines kind offset name = record {
  spot = table_spot parts.Got offset;
  way = ways.Listed;
  kind = kind;
  target = target_of lines name;
  addend = 0;
}

-- the words of the global offset table
abbrev pub got_fix : List Line → ℕ → List ℕ → GotKind → List Fix
got_fix lines offset name gots.Address = address_fix lines (table_spot parts.Got offset) name 0 ∷ []
got_fix lines offset name gots.Pair = tls_fix lines kinds.Module offset name ∷ tls_fix lines kinds.Offset (offset + 8) name ∷ []
got_fix lines offset name gots.Offset = tls_fix lines kinds.ThreadOffset offset name ∷ []

abbrev pub got_fixes : List Line → ℕ → List GotUse → List Fix
got_fixes lines offset [] = []
got_fixes lines offset (got ∷ uses) = got_fix lines offset got.name got.kind ++ got_fixes lines (offset + 8 * got_words got.kind) uses

-- the entries of an array
abbrev pub array_fix : List Line → Part → ℕ → List ℕ → Fix
array_fix lines part offset name = record {
  spot = table_spot part offset;
  way = array_way lines;
  kind = kinds.Address;
  target = targets.Own (own_spot lines name);
  addend = 0;
}

abbrev pub array_fixes : List Line → Part → ℕ → List (List ℕ) → List Fix
array_fixes lines part offset [] = []
array_fixes lines part offset (name ∷ names) = array_fix lines part offset name ∷ array_fixes lines part (offset + 8) names

-- a doubleword of a name, and a copy; a number that fits is one of 64 bits
abbrev pub addend_of : Number → ℕ
addend_of number = option_map_or (cast_unsigned w64) (value_of number) 0

abbrev pub copy_fix : List Line → Spot → List ℕ → Fix
copy_fix lines spot name = record {
  spot = spot;
  way = ways.Listed;
  kind = kinds.Copy;
  target = targets.Symbol (symbol_index lines name);
  addend = 0;
}

abbrev pub statement_fixes : List Line → Spot → Option Statement → List Fix
statement_fixes lines spot (Some (statements.Directive (directives.Dword (doublewords.Address name addend)))) =
    address_fix lines spot name (addend_of addend) ∷ []
statement_fixes lines spot (Some (statements.Directive (directives.Copy name size))) = copy_fix lines spot name ∷ []
statement_fixes lines spot _ = []

abbrev pub line_fixes : List Line → Section → Place → Line → List Fix
line_fixes lines section place line = if is_section section place.section then statement_fixes lines (spot_of place) line.statement else []

-- those of the lines of a section, from a line on
abbrev pub section_fixes : List Line → Section → ℕ → List Line → List Fix
section_fixes lines section k [] = []
section_fixes lines section k (line ∷ rest) = line_fixes lines section (place_at lines k) line ++ section_fixes lines section (k + 1) rest

unfoldable pub fixes_of : List Line → List Fix
fixes_of lines =
    got_fixes lines 0 (got_uses lines) ++ array_fixes lines parts.PreinitArray 0 (entries arrays.Preinit lines)
    ++ array_fixes lines parts.InitArray 0 (entries arrays.Init lines) ++ array_fixes lines parts.FiniArray 0 (entries arrays.Fini lines)
    ++ section_fixes lines sections.Relro 0 lines ++ section_fixes lines sections.Tdata 0 lines ++ section_fixes lines sections.Data 0 lines
    ++ section_fixes lines sections.Bss 0 lines
