-- What dump writes: an object's record, a line for each part of it.
use Rattle.std.specs.Prelude.{ℕ, List, [], ◌∷◌, ◌++◌, drop, flat_map, codes, if◌then◌else◌}
use Rattle.std.specs.Fmt.{decimal, signed_decimal}
use Rattle.std.specs.List.{enumerate_from}
use Rattle.ld_base.specs.FaultText.{hex_text}
use Rattle.ld_base.specs.Symbol.{is_defined, version_index}
use Rattle.ld_base.specs.Text.{name_text, name_or_none}
use Rattle.ld_base.specs.Version.{version_name}
use Rattle.ld_base.specs.declared.object.Kind.{Kind}
use Rattle.ld_base.specs.declared.object.Kind.TheVariants.{Exec, Dyn}
use Rattle.ld_base.specs.declared.object.Object.{Object}
use Rattle.ld_base.specs.declared.object.Reloc.{Reloc}
use Rattle.ld_base.specs.declared.object.Symbol.{Symbol}

abbrev pub kind_text : Kind → List ℕ
kind_text Exec = codes "exec"
kind_text Dyn = codes "dyn"

unfoldable pub head_line : Object → List ℕ
head_line o = codes "object " ++ kind_text o.kind ++ codes " soname=" ++ name_or_none o.soname ++ 10 ∷ []

unfoldable pub needed_line : List ℕ → List ℕ
needed_line name = codes "needed " ++ name_text name ++ 10 ∷ []

abbrev pub defined_text : Symbol → List ℕ
defined_text s = if is_defined s then codes "def" else codes "undef"

-- a symbol: its index, its name, the name of its version, its value, and whether it is a definition
unfoldable pub symbol_line : Object → ℕ × Symbol → List ℕ
symbol_line o (index, s) =
    codes "symbol " ++ decimal index ++ 32 ∷ name_text s.name ++ 32 ∷ name_or_none (version_name o (version_index s)) ++ 32 ∷ hex_text s.value ++ 32 ∷
    defined_text s ++ 10 ∷ []

-- a relocation: its number, its type, the place that it is for, the index of its symbol, and its addend
unfoldable pub reloc_line : ℕ × Reloc → List ℕ
reloc_line (number, r) =
    codes "reloc " ++ decimal number ++ 32 ∷ decimal r.kind ++ 32 ∷ hex_text r.place ++ 32 ∷ decimal r.symbol ++ 32 ∷ signed_decimal r.addend ++ 10 ∷ []

-- the place of a packed relative relocation
unfoldable pub relr_line : ℕ × ℕ → List ℕ
relr_line (number, place) = codes "relr " ++ decimal number ++ 32 ∷ hex_text place ++ 10 ∷ []

-- a slot: its number, its place, and the index of its symbol
unfoldable pub plt_line : ℕ × Reloc → List ℕ
plt_line (number, r) = codes "slot " ++ decimal number ++ 32 ∷ hex_text r.place ++ 32 ∷ decimal r.symbol ++ 10 ∷ []

-- the symbols behind the null symbol, by index
abbrev pub symbol_lines : Object → List ℕ
symbol_lines o = flat_map (symbol_line o) (enumerate_from 1 (drop 1 o.symbols))

-- the text of an object
unfoldable pub dump_text : Object → List ℕ
dump_text o =
    head_line o ++ flat_map needed_line o.needed ++ symbol_lines o ++ flat_map reloc_line (enumerate_from 0 o.relocs)
    ++ flat_map relr_line (enumerate_from 0 o.relr) ++ flat_map plt_line (enumerate_from 0 o.plt_relocs) ++ codes "end 0 dumped" ++ 10 ∷ []
