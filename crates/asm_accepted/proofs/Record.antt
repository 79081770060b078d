-- The record, field by field: those of the head, those that are names, and those that the contents say.
use Rattle.std.proofs.Common.{◌≡◌, ◌∙◌, ap, sym, subst, ℕ, ◌+◌, ◌^◌, ◌<◌, ◌≤◌, List, ◌∷◌, length}
use Rattle.std.specs.Prelude.{Option}
use Rattle.ld_base.specs.declared.object.Object.{Object}
use Rattle.ld_base.specs.declared.object.Symbol.{Symbol}
use Rattle.ld_base.specs.declared.object.Verdef.{Verdef}
use Rattle.ld_base.specs.declared.object.Verneed.{Verneed}
use Rattle.ld_base.specs.declared.parts.DynParts.{DynParts}
use Rattle.ld_base.specs.declared.parts.Head.{Head}
use Rattle.ld_base.specs.declared.parts.Versions.{Versions}
use Rattle.elf_head.specs.DynTable.Name.{IsStringAt}
use Rattle.asm_accepted.specs.ElfAccepted.Said.{SaysObject, SaysVersioned}
use Rattle.elf_object.specs.Segments.{relro_of, segments_of, tls_of}
use Rattle.elf_object.specs.Spells.{Say}
use Rattle.asm_laws.specs.ElfSpelled.Said.{AreSaidBy}
use Rattle.asm_accepted.specs.ElfTabled.Tables.{null_entry}
use Rattle.asm_accepted.specs.ElfVersioned.Said.{SaysDefined, SaysNeeded, with_files}
use Rattle.asm_write.specs.declared.contents.SectionBytes.{SectionBytes}
use Rattle.asm_write.specs.declared.part.Part.TheVariants as parts
use Rattle.asm_statement.specs.declared.line.Line.{Line}
use Rattle.asm_layout.specs.Contents.{contents_of, files_at, needed_at, needed_versions_at, strings_of, versions_at}
use Rattle.asm_layout.specs.Faults.{HasNoFault}
use Rattle.asm_layout.specs.Object.{object_of}
use Rattle.asm_layout.specs.Parts.{start_of}
use Rattle.asm_layout.specs.Tables.{needed, soname, versions}
use Rattle.asm_layout.specs.Versions.{first_needed, needed_files}
use Rattle.asm_accepted.specs.AsmFields.Strings.{NamesStand}
use Rattle.asm_accepted.specs.AsmRecord.Record.{head_of, record_of, symbols_of, verdefs_of, verneeds_from}
use Rattle.asm_accepted.specs.Strings.{IsNamed, IsStringOf, NamesAreStrings}
use Rattle.asm_accepted.proofs.Arrays.{fini_is, init_is, preinit_is}
use Rattle.asm_accepted.proofs.Bounds.{indexes_fit}
use Rattle.asm_accepted.proofs.Fields.{AreSame, first_is, slots_are, words_are}
use Rattle.asm_accepted.proofs.Named.{names_from, own_name}
use Rattle.asm_accepted.proofs.Pairs.{Paired, paired}
use Rattle.asm_accepted.proofs.Symbols.{still_named, symbols_are}
use Rattle.asm_accepted.proofs.Versions.{verdefs_are, verneeds_are}

module _ (lines : List Line) (stand : NamesStand lines) where
  own : (read : Option (List ℕ)) → IsStringOf (contents_of lines).strings (contents_of lines).soname read → read ≡ soname lines
  unfolding contents_of
  own read is = own_name (strings_of lines) (soname lines) read is stand.own

  libraries : (read : List (List ℕ)) → AreSaidBy (IsStringAt (contents_of lines).strings) (contents_of lines).needed read → read ≡ needed lines
  unfolding contents_of
  libraries read are = names_from (strings_of lines) (needed_at lines) (needed lines) read (paired (IsStringAt (strings_of lines)) (contents_of lines).needed read are) stand.needed

  defined : (read : List Verdef) → length read ≤ 2 ^ 15 → AreSaidBy (SaysDefined (contents_of lines).strings) (contents_of lines).versions read
      → read ≡ verdefs_of (soname lines) (versions lines)
  unfolding contents_of
  defined read few are =
      verdefs_are (strings_of lines) (soname lines) (versions_at lines) (versions lines) read few
      (paired (SaysDefined (strings_of lines)) (contents_of lines).versions read are) stand.nameless stand.own stand.versions

  needs : HasNoFault lines → (read : List Verneed)
      → AreSaidBy (SaysNeeded (contents_of lines).strings) (with_files (contents_of lines).files (contents_of lines).needed_versions) read
      → read ≡ verneeds_from lines (first_needed lines) (needed_files lines)
  unfolding contents_of
  needs faultless read are =
      verneeds_are lines (strings_of lines) 0 (first_needed lines) (files_at lines) (needed_versions_at lines) (needed_files lines) read (indexes_fit lines faultless)
      (paired (SaysNeeded (strings_of lines)) (with_files (contents_of lines).files (contents_of lines).needed_versions) read are) stand.files stand.needed_versions

  module _ (code : SectionBytes) (head : Head) (said : DynParts) (read : Versions) (o : Object)
      (head_is : head ≡ head_of lines) (by_parts : Say (object_of lines) head said read o)
      (by_contents : SaysObject (contents_of lines) code o) (named : NamesAreStrings (contents_of lines) said) where
    all_symbols : o.symbols ≡ symbols_of lines
    all_symbols =
        let entries = null_entry ∷ (contents_of lines).symbols in
        let strings = (contents_of lines).strings in
        let names = still_named strings read.versym entries said.symbols (paired (IsNamed strings) entries said.symbols named.symbols) in
        symbols_are lines o.symbols (paired (SaysVersioned (contents_of lines)) entries o.symbols by_contents.symbols)
        (subst (λ (ss : List Symbol). Paired (IsNamed strings) entries ss) (sym by_parts.symbols) names) stand

    pub fields : HasNoFault lines → length lines ≤ 2 ^ 20 + 1 → start_of lines parts.GotPlt < 2 ^ 62 → length read.verdefs ≤ 2 ^ 15 → AreSame o (record_of lines)
    unfolding record_of contents_of
    fields faultless short low few = record {
      kind = by_contents.kind;
      entry = by_parts.entry ∙ ap (λ (h : Head). h.entry) head_is;
      soname = by_parts.soname ∙ own said.soname named.soname;
      needed = by_parts.needed ∙ libraries said.needed named.needed;
      segments = by_parts.segments ∙ ap (λ (h : Head). segments_of (object_of lines) h.headers) head_is;
      symbols = all_symbols;
      first_exported = by_contents.first_exported ∙ first_is lines short;
      has_versym = by_contents.has_versym;
      verdefs = defined o.verdefs (subst (λ (ds : List Verdef). length ds ≤ 2 ^ 15) (sym by_parts.verdefs) few) by_contents.verdefs;
      verneeds = needs faultless o.verneeds by_contents.verneeds;
      relocs = by_contents.relocs;
      plt_relocs = by_contents.plt_relocs ∙ slots_are lines low;
      pltgot = by_contents.pltgot ∙ words_are lines;
      preinit = by_contents.preinit ∙ preinit_is lines;
      init = by_contents.init;
      init_array = by_contents.init_array ∙ init_is lines;
      fini = by_contents.fini;
      fini_array = by_contents.fini_array ∙ fini_is lines;
      tls = by_parts.tls ∙ ap (λ (h : Head). tls_of h.headers) head_is;
      relro = by_parts.relro ∙ ap (λ (h : Head). relro_of h.headers) head_is;
      flags = by_contents.flags;
      relr = by_contents.relr;
      dynamic = by_contents.dynamic;
    }
