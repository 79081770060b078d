-- What the records of versions are read from.
use Rattle.std.proofs.Common.{◌≡◌, ◌∙◌, ap, ℕ, ◌+◌, ◌-◌, ◌<◌, ◌≤◌, Bool, List, [], length}
use Rattle.std.specs.Prelude.{unwrap_or}
use Rattle.std.specs.Option.{option_map_or}
use Rattle.ld_base.specs.Field.{field}
use Rattle.ld_base.specs.declared.parts.DynParts.{DynParts}
use Rattle.ld_base.specs.declared.parts.Tag.{Tag}
use Rattle.elf_head.specs.Readable.{file_bytes}
use Rattle.elf_head.specs.DynTable.Tag.{last_of, value_of}
use Rattle.elf_head.specs.DynTable.TagNumbers.{dt_strsz, dt_strtab}
use Rattle.elf_dynamic.specs.Verdict.{SpellsDynamic}
use Rattle.elf_versions.specs.Record.{distance}
use Rattle.elf_versions.specs.Source.{Source}
use Rattle.elf_versions.specs.Spells.{StandsAt}
use Rattle.elf_versions.specs.Verdict.{strings_of}
use Rattle.asm_write.specs.declared.contents.Contents.{Contents}
use Rattle.asm_write.specs.declared.part.Part.TheVariants as parts
use Rattle.asm_write.specs.Starts.{size_in, start_in, starts_of}
use Rattle.asm_laws.specs.ElfRecords.Standing.{StandAt}
use Rattle.asm_laws.specs.ElfSpelled.Said.{IsTold, said_head, said_tags}
use Rattle.asm_laws.specs.ElfSpelled.Lemmas.Reading.{ArePlaced, fields_at}
use Rattle.asm_laws.specs.ElfSpelled.Lemmas.Starting.{Apart}
use Rattle.asm_laws.specs.ElfSpelled.Lemmas.Strings.{strings_stand}

-- the distance of a record that stands
pub distance_read : (src : Source) (size offset at : ℕ) (r : List ℕ) → StandsAt src size at r → distance src size offset at ≡ field 4 r offset
unfolding distance
distance_read src size offset at r stands = ap (λ o. option_map_or (λ (r : List ℕ). field 4 r offset) o 0) stands

-- a field of a record that stands
pub field_of : (src : Source) (head size at : ℕ) (r : List ℕ) → ArePlaced head src.headers → 0 < size → StandsAt src size at r → (n k : ℕ) → k + n ≤ size
    → field n r k ≡ field n src.bytes (at - head + k)
field_of src head size at r placed some stands n k inside = fields_at src.bytes src.headers head at size r placed some stands n k inside

-- the strings are those of the object
pub strings_read : Apart → (contents : Contents) (bytes : List ℕ) (program : Bool) (said : DynParts) → said.tags ≡ said_tags contents
    → IsTold contents (said_tags contents) → SpellsDynamic bytes (said_head contents) program said
    → StandAt bytes (start_in (starts_of contents) parts.Strings - start_in (starts_of contents) parts.Head) contents.strings
    → length contents.strings ≡ size_in (starts_of contents) parts.Strings → strings_of bytes (said_head contents).headers said.tags ≡ contents.strings
unfolding strings_of
strings_read apart contents bytes program said same table spells stand long =
    let headers = (said_head contents).headers in
    let start = start_in (starts_of contents) parts.Strings in
    let at : (tag : ℕ) → last_of said.tags tag ≡ last_of (said_tags contents) tag = λ tag. ap (λ (tags : List Tag). last_of tags tag) same in
    let start_is : value_of said.tags dt_strtab ≡ start = ap (λ o. unwrap_or o 0) (at dt_strtab ∙ table.strings) in
    let size_is : value_of said.tags dt_strsz ≡ size_in (starts_of contents) parts.Strings = ap (λ o. unwrap_or o 0) (at dt_strsz ∙ table.strings_size) in
    ap (λ n. unwrap_or (file_bytes bytes headers n (value_of said.tags dt_strsz)) []) start_is ∙ ap (λ n. unwrap_or (file_bytes bytes headers start n) []) size_is
    ∙ ap (λ o. unwrap_or o []) (strings_stand apart contents bytes program said same table spells stand long)
