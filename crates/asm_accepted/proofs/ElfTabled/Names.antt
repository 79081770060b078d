-- The names that the dynamic table gives.
use Rattle.std.proofs.Common.{◌≡◌, ◌∙◌, ap, subst, ℕ, ◌-◌, Bool, List, length}
use Rattle.std.specs.Prelude.{Option}
use Rattle.ld_base.specs.declared.parts.DynParts.{DynParts}
use Rattle.ld_base.specs.declared.parts.Tag.{Tag}
use Rattle.elf_head.specs.DynTable.Tag.{last_of, values_of}
use Rattle.elf_head.specs.DynTable.TagNumbers.{dt_needed, dt_soname}
use Rattle.elf_dynamic.specs.Parts.{AreNamesAt, IsNameOf}
use Rattle.elf_dynamic.specs.Verdict.{SpellsDynamic}
use Rattle.asm_write.specs.declared.contents.Contents.{Contents}
use Rattle.asm_write.specs.declared.part.Part.TheVariants as parts
use Rattle.asm_write.specs.Starts.{size_in, start_in, starts_of}
use Rattle.asm_laws.specs.ElfRecords.Standing.{StandAt}
use Rattle.asm_laws.specs.ElfSpelled.Said.{IsTold, said_head, said_tags}
use Rattle.asm_laws.specs.ElfSpelled.Lemmas.Starting.{Apart}
use Rattle.asm_laws.specs.ElfSpelled.Lemmas.Strings.{strings_are}
use Rattle.asm_accepted.specs.ElfTabled.Tables.{SaysNames}

pub names_are : Apart → (contents : Contents) (bytes : List ℕ) (program : Bool) (said : DynParts) → said.tags ≡ said_tags contents
    → IsTold contents (said_tags contents) → SpellsDynamic bytes (said_head contents) program said
    → StandAt bytes (start_in (starts_of contents) parts.Strings - start_in (starts_of contents) parts.Head) contents.strings
    → length contents.strings ≡ size_in (starts_of contents) parts.Strings → SaysNames contents said
names_are apart contents bytes program said same table spells stand long =
    let are = spells.say in
    let at : (tag : ℕ) → last_of said.tags tag ≡ last_of (said_tags contents) tag = λ tag. ap (λ (tags : List Tag). last_of tags tag) same in
    let strings = strings_are apart contents bytes program said same table spells stand long in
    let soname : last_of said.tags dt_soname ≡ contents.soname = at dt_soname ∙ table.soname in
    let needed : values_of said.tags dt_needed ≡ contents.needed = ap (λ (tags : List Tag). values_of tags dt_needed) same ∙ table.needed in
    record {
      soname = subst (λ (o : Option ℕ). IsNameOf contents.strings o said.soname) soname
          (subst (λ (s : List ℕ). IsNameOf s (last_of said.tags dt_soname) said.soname) strings are.soname);
      needed = subst (λ (offsets : List ℕ). AreNamesAt contents.strings offsets said.needed) needed
          (subst (λ (s : List ℕ). AreNamesAt s (values_of said.tags dt_needed) said.needed) strings are.needed);
    }
