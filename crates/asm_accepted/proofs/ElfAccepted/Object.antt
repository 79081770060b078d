-- The fields of the object, one by one.
use Rattle.std.proofs.Common.{◌≡◌, ◌∙◌, sym, subst, ℕ, List, ◌∷◌}
use Rattle.std.specs.Prelude.{Option}
use Rattle.ld_base.specs.declared.object.Object.{Object}
use Rattle.ld_base.specs.declared.object.Symbol.{Symbol}
use Rattle.ld_base.specs.declared.object.Verdef.{Verdef}
use Rattle.ld_base.specs.declared.object.Verneed.{Verneed}
use Rattle.ld_base.specs.declared.parts.DynParts.{DynParts}
use Rattle.ld_base.specs.declared.parts.Versions.{Versions}
use Rattle.elf_dynamic.specs.Parts.{AreNamesAt, IsNameOf}
use Rattle.elf_object.specs.Spells.{Say}
use Rattle.asm_write.specs.declared.contents.Contents.{Contents}
use Rattle.asm_write.specs.declared.contents.SectionBytes.{SectionBytes}
use Rattle.asm_write.specs.Starts.{starts_of}
use Rattle.asm_write.specs.Values.{object_bytes, packed_places}
use Rattle.asm_laws.specs.ElfSpelled.Said.{AreSaidBy, SaysByItself, said_head}
use Rattle.asm_accepted.specs.ElfTabled.Tables.{SaysNames, null_entry, said_relocs, said_slots}
use Rattle.asm_accepted.specs.ElfHashed.Said.{SaysSymbols}
use Rattle.asm_accepted.specs.ElfVersioned.Said.{SaysDefined, SaysNeeded, SaysVersions, with_files}
use Rattle.asm_accepted.specs.ElfAccepted.Said.{SaysObject, SaysVersioned}
use Rattle.asm_accepted.proofs.ElfAccepted.Headers.{dynamic_is, relro_is, tls_is}
use Rattle.asm_accepted.proofs.ElfAccepted.Symbols.{versioned}

pub object_is : (contents : Contents) (code : SectionBytes) (said : DynParts) (versions : Versions) (o : Object) → SaysByItself contents said → SaysNames contents said
    → said.relocs ≡ said_relocs contents → said.plt_relocs ≡ said_slots contents → said.relr ≡ packed_places (starts_of contents) contents.fixes → SaysSymbols contents said
    → SaysVersions contents versions → Say (object_bytes (starts_of contents) contents code) (said_head contents) said versions o → SaysObject contents code o
object_is contents code said versions o itself names relocs slots packed symbols of_versions say = record {
  kind = say.kind;
  entry = say.entry;
  soname = subst (λ (n : Option (List ℕ)). IsNameOf contents.strings contents.soname n) (sym say.soname) names.soname;
  needed = subst (λ (ns : List (List ℕ)). AreNamesAt contents.strings contents.needed ns) (sym say.needed) names.needed;
  segments = say.segments;
  symbols = subst (λ (all : List Symbol). AreSaidBy (SaysVersioned contents) (null_entry ∷ contents.symbols) all) (sym say.symbols)
      (versioned contents said.symbols versions.versym of_versions.versym symbols.symbols);
  first_exported = say.first_exported ∙ symbols.first_exported;
  has_versym = say.has_versym ∙ of_versions.has_versym;
  verdefs = subst (λ (all : List Verdef). AreSaidBy (SaysDefined contents.strings) contents.versions all) (sym say.verdefs) of_versions.verdefs;
  verneeds = subst (λ (all : List Verneed). AreSaidBy (SaysNeeded contents.strings) (with_files contents.files contents.needed_versions) all) (sym say.verneeds) of_versions.verneeds;
  relocs = say.relocs ∙ relocs;
  plt_relocs = say.plt_relocs ∙ slots;
  pltgot = say.pltgot ∙ itself.pltgot;
  preinit = say.preinit ∙ itself.preinit;
  init = say.init ∙ itself.init;
  init_array = say.init_array ∙ itself.init_array;
  fini = say.fini ∙ itself.fini;
  fini_array = say.fini_array ∙ itself.fini_array;
  tls = say.tls ∙ tls_is contents;
  relro = say.relro ∙ relro_is contents;
  flags = say.flags ∙ itself.flags;
  relr = say.relr ∙ packed;
  dynamic = say.dynamic ∙ dynamic_is contents;
}
