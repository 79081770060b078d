-- Field by field.
use Rattle.std.proofs.Common.{◌≡◌, ◌∙◌, ap, refl, ℕ, ◌+◌, ◌^◌, ◌<◌, ◌≤◌, Bool, true, false, nat_lt, if◌then◌else◌, List, length, map, arith}
use Rattle.std.specs.Prelude.{Some, None}
use Rattle.std.specs.Option.{option_map_or}
use Rattle.ld_base.specs.declared.object.Object.{Object}
use Rattle.ld_base.specs.declared.parts.GnuPart.{GnuPart}
use Rattle.asm_write.specs.declared.part.Part.TheVariants as parts
use Rattle.asm_write.specs.Starts.{wrapped}
use Rattle.asm_laws.specs.ElfSpelled.Said.{told_if}
use Rattle.asm_laws.specs.ElfSpelled.Lemmas.Rows.{length-map}
use Rattle.asm_accepted.specs.ElfTabled.Tables.{said_slots, slots_at}
use Rattle.asm_statement.specs.declared.line.Line.{Line}
use Rattle.asm_write.specs.HashBuild.Hashed.{gnu_of}
use Rattle.sym_hash.specs.Hash.{gnu_hash}
use Rattle.asm_layout.specs.Contents.{contents_of}
use Rattle.asm_layout.specs.Parts.{start_of}
use Rattle.asm_layout.specs.Symbols.{first_export, sorted_exports, symbol_index}
use Rattle.asm_layout.specs.Tables.{has_gnu, hash_of}
use Rattle.asm_layout.specs.Uses.{slots}
use Rattle.asm_layout.specs.Versions.{word}
use Rattle.asm_laws.specs.AsmBounds.Lemmas.Counts.{imports_few}
use Rattle.asm_accepted.specs.AsmRecord.Record.{slot_words}

-- two objects have the same fields

pub record AreSame (one other : Object) : Type 0 where
  pub kind : one.kind ≡ other.kind
  pub entry : one.entry ≡ other.entry
  pub soname : one.soname ≡ other.soname
  pub needed : one.needed ≡ other.needed
  pub segments : one.segments ≡ other.segments
  pub symbols : one.symbols ≡ other.symbols
  pub first_exported : one.first_exported ≡ other.first_exported
  pub has_versym : one.has_versym ≡ other.has_versym
  pub verdefs : one.verdefs ≡ other.verdefs
  pub verneeds : one.verneeds ≡ other.verneeds
  pub relocs : one.relocs ≡ other.relocs
  pub plt_relocs : one.plt_relocs ≡ other.plt_relocs
  pub pltgot : one.pltgot ≡ other.pltgot
  pub preinit : one.preinit ≡ other.preinit
  pub init : one.init ≡ other.init
  pub init_array : one.init_array ≡ other.init_array
  pub fini : one.fini ≡ other.fini
  pub fini_array : one.fini_array ≡ other.fini_array
  pub tls : one.tls ≡ other.tls
  pub relro : one.relro ≡ other.relro
  pub flags : one.flags ≡ other.flags
  pub relr : one.relr ≡ other.relr
  pub dynamic : one.dynamic ≡ other.dynamic

abbrev rebuilt : Object → Object
rebuilt o = record {
  kind = o.kind;
  entry = o.entry;
  soname = o.soname;
  needed = o.needed;
  segments = o.segments;
  symbols = o.symbols;
  first_exported = o.first_exported;
  has_versym = o.has_versym;
  verdefs = o.verdefs;
  verneeds = o.verneeds;
  relocs = o.relocs;
  plt_relocs = o.plt_relocs;
  pltgot = o.pltgot;
  preinit = o.preinit;
  init = o.init;
  init_array = o.init_array;
  fini = o.fini;
  fini_array = o.fini_array;
  tls = o.tls;
  relro = o.relro;
  flags = o.flags;
  relr = o.relr;
  dynamic = o.dynamic;
}

pub one_object : (one other : Object) → AreSame one other → one ≡ other
one_object one other s = fields
  where
    fields : rebuilt one ≡ other
    fields = rw (s.kind, s.entry, s.soname, s.needed, s.segments, s.symbols, s.first_exported, s.has_versym, s.verdefs, s.verneeds, s.relocs, s.plt_relocs, s.pltgot, s.preinit, s.init, s.init_array, s.fini, s.fini_array, s.tls, s.relro, s.flags, s.relr, s.dynamic) refl

-- fields that the contents have in other words

module _ (lines : List Line) where
  first_of : (b : Bool) (first : ℕ) (hashes : List ℕ) → option_map_or (λ (g : GnuPart). g.symoffset) (if b then Some (gnu_of first hashes) else None) 1 ≡ (if b then first else 1)
  unfolding gnu_of
  first_of true first hashes = refl
  first_of false first hashes = refl

  pub first_is : length lines ≤ 2 ^ 20 + 1 → option_map_or (λ (g : GnuPart). g.symoffset) (contents_of lines).gnu 1 ≡ (if has_gnu (hash_of lines) then first_export lines else 1)
  unfolding contents_of
  first_is few =
      let imported = imports_few lines in
      let low : word (first_export lines) ≡ first_export lines = omega (arith, imported, few) in
      first_of (has_gnu (hash_of lines)) (word (first_export lines)) (map (λ exported. gnu_hash exported.name) (sorted_exports lines))
      ∙ ap (λ n. if has_gnu (hash_of lines) then n else 1) low

  pub slots_are : start_of lines parts.GotPlt < 2 ^ 62 → said_slots (contents_of lines) ≡ slots_at (start_of lines parts.GotPlt + 16) (map (symbol_index lines) (slots lines))
  unfolding contents_of
  slots_are low =
      let same : wrapped (start_of lines parts.GotPlt + 16) ≡ start_of lines parts.GotPlt + 16 = omega (arith, low) in
      ap (λ place. slots_at place (map (symbol_index lines) (slots lines))) same

  told_is : (b : Bool) (n : ℕ) → told_if b n ≡ (if b then Some n else None)
  told_is true n = refl
  told_is false n = refl

  pub words_are : told_if (nat_lt 0 (length (contents_of lines).slots)) (start_of lines parts.GotPlt) ≡ slot_words lines
  unfolding contents_of
  words_are =
      ap (λ n. told_if (nat_lt 0 n) (start_of lines parts.GotPlt)) (length-map (symbol_index lines) (slots lines))
      ∙ told_is (nat_lt 0 (length (slots lines))) (start_of lines parts.GotPlt)
