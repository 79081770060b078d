-- The object that the parts of a file say.
use Rattle.std.specs.Prelude.{ℕ, Bool, nat_lt, List, ◌++◌, length, map, slice_index}
use Rattle.std.specs.List.{enumerate_from, list_all}
use Rattle.ld_base.specs.declared.object.Object.{Object}
use Rattle.ld_base.specs.declared.object.Symbol.{Symbol}
use Rattle.ld_base.specs.declared.parts.DynParts.{DynParts}
use Rattle.ld_base.specs.declared.parts.Head.{Head}
use Rattle.ld_base.specs.declared.parts.Versions.{Versions}
use Rattle.elf_object.specs.Segments.{dynamic_of, relro_of, segments_of, tls_of}

-- the symbol of an index, with the entry of the versym table at that index; 0 where there is none
abbrev pub with_version : List ℕ → ℕ × Symbol → Symbol
with_version versym at = record at.1 { version = slice_index versym at.0 }

-- the symbols, each with its version
unfoldable pub with_versions : List Symbol → List ℕ → List Symbol
with_versions symbols versym = map (with_version versym) (enumerate_from 0 symbols)

-- each field from the part that says it
unfoldable pub object_of : List ℕ → Head → DynParts → Versions → Object
object_of bytes head parts versions = record {
  kind = head.kind;
  entry = head.entry;
  soname = parts.soname;
  needed = parts.needed;
  segments = segments_of bytes head.headers;
  symbols = with_versions parts.symbols versions.versym;
  first_exported = parts.first_exported;
  has_versym = versions.has_versym;
  verdefs = versions.verdefs;
  verneeds = versions.verneeds;
  relocs = parts.relocs;
  plt_relocs = parts.plt_relocs;
  pltgot = parts.pltgot;
  preinit = parts.preinit;
  init = parts.init;
  init_array = parts.init_array;
  fini = parts.fini;
  fini_array = parts.fini_array;
  tls = tls_of head.headers;
  relro = relro_of head.headers;
  flags = parts.flags;
  relr = parts.relr;
  dynamic = dynamic_of head.headers;
}

-- each relocation of an object names one of its symbols
abbrev pub names_own_symbols : Object → Bool
names_own_symbols o = list_all (λ r. nat_lt r.symbol (length o.symbols)) (o.relocs ++ o.plt_relocs)
