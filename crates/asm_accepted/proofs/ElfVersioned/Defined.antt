-- The versions that are defined.
use Rattle.std.proofs.Common.{◌≡◌, ◌∙◌, ap, subst, refl, ℕ, ◌+◌, ◌-◌, ◌*◌, ◌<◌, ◌≤◌, ◌==◌, Bool, List, length, flat_map, arith}
use Rattle.std.specs.Prelude.{Some}
use Rattle.std.specs.List.{slice_get}
use Rattle.std.proofs.lemmas.Option.{slice_get_within}
use Rattle.ld_base.specs.Field.{field}
use Rattle.ld_base.specs.declared.object.Verdef.{Verdef}
use Rattle.elf_head.specs.DynTable.Name.{IsStringAt}
use Rattle.elf_versions.specs.Record.{distance}
use Rattle.elf_versions.specs.Source.{Source}
use Rattle.elf_versions.specs.Spells.{AreLinked, IsVerdefAt}
use Rattle.asm_write.specs.declared.contents.VersionRecord.{VersionRecord}
use Rattle.asm_write.specs.Fields.{record_bytes}
use Rattle.asm_write.specs.Records.{version_fields}
use Rattle.asm_laws.specs.ElfRecords.Reads.{ReadsVersion}
use Rattle.asm_laws.specs.ElfRecords.Standing.{StandAt}
use Rattle.asm_laws.specs.ElfRecords.Lemmas.Records.{version}
use Rattle.asm_laws.specs.ElfRecords.Lemmas.Standing.{within}
use Rattle.asm_laws.specs.ElfSpelled.Said.{AreSaidBy}
use Rattle.asm_laws.specs.ElfSpelled.Lemmas.Reading.{ArePlaced}
use Rattle.asm_laws.specs.ElfSpelled.Lemmas.Rows.{at_index, rows}
use Rattle.asm_accepted.specs.ElfVersioned.Linked.{EachFits, LeadOn}
use Rattle.asm_accepted.specs.ElfVersioned.Said.{SaysDefined}
use Rattle.asm_accepted.proofs.ElfVersioned.Chains.{fits_at, read_at}
use Rattle.asm_accepted.proofs.ElfVersioned.Sources.{distance_read, field_of}

abbrev pub row : VersionRecord → List ℕ
row v = record_bytes (version_fields v)

long_row : (v : VersionRecord) → length (row v) ≡ 28
unfolding record_bytes version_fields
long_row v = refl

module _ (src : Source) (head start : ℕ) (placed : ArePlaced head src.headers) (behind : head ≤ start) (versions : List VersionRecord)
    (fit : EachFits version_fields versions) (lead : LeadOn (λ version. version.next) 28 versions) (stand : StandAt src.bytes (start - head) (flat_map row versions)) where
  reads : (i : ℕ) (v : VersionRecord) → slice_get versions i ≡ Some v → ReadsVersion src.bytes (start - head + 28 * i) v
  reads i v is =
      version src.bytes (start - head + 28 * i) v (fits_at version_fields versions fit i v is)
      (within src.bytes (flat_map row versions) (row v) (start - head) (28 * i) stand (rows row 28 long_row versions i v is))

  leads : (i : ℕ) (d : Verdef) → i + 1 < length versions → IsVerdefAt src (i + 1 == length versions) (start + 28 * i) d → distance src 20 16 (start + 28 * i) ≡ 28
  leads i d before at =
      let (v, is) = at_index versions i (omega (arith, before)) in
      let place : start + 28 * i - head + 16 ≡ start - head + 28 * i + 16 = omega (arith, behind) in
      distance_read src 20 16 (start + 28 * i) at.verdef at.stands ∙ field_of src head 20 (start + 28 * i) at.verdef placed (omega arith) at.stands 4 16 (omega arith)
      ∙ ap (field 4 src.bytes) place ∙ (reads i v is).next ∙ lead i v before is

  says : (i : ℕ) (v : VersionRecord) (d : Verdef) (is_last : Bool) → slice_get versions i ≡ Some v → IsVerdefAt src is_last (start + 28 * i) d → SaysDefined src.strings v d
  says i v d is_last is at =
      let from = start + 28 * i in
      let there = reads i v is in
      let of_verdef = field_of src head 20 from at.verdef placed (omega arith) at.stands in
      let place : (k : ℕ) → from - head + k ≡ start - head + 28 * i + k = λ k. omega (arith, behind) in
      let aux : field 4 at.verdef 12 ≡ 20 = of_verdef 4 12 (omega arith) ∙ ap (field 4 src.bytes) (place 12) ∙ there.aux in
      let name_place : from + field 4 at.verdef 12 - head + 0 ≡ start - head + 28 * i + 20 = omega (arith, behind, aux) in
      let name_is : field 4 at.verdaux 0 ≡ v.name
      = field_of src head 8 (from + field 4 at.verdef 12) at.verdaux placed (omega arith) at.names 4 0 (omega arith) ∙ ap (field 4 src.bytes) name_place ∙ there.name in
      record {
        index = at.index ∙ of_verdef 2 4 (omega arith) ∙ ap (field 2 src.bytes) (place 4) ∙ there.index;
        flags = at.flags ∙ of_verdef 2 2 (omega arith) ∙ ap (field 2 src.bytes) (place 2) ∙ there.flags;
        name = subst (λ offset. IsStringAt src.strings offset d.name) name_is at.name;
      }

  pub defined_read : (ds : List Verdef) → AreLinked (IsVerdefAt src) (distance src 20 16) start (length versions) ds → AreSaidBy (SaysDefined src.strings) versions ds
  defined_read ds linked = record {
    count = linked.count;
    each = λ i d is.
        (let inside : i < length versions = let below = slice_get_within ds i d is in let long = linked.count in omega (arith, below, long) in
        let (v, there) = at_index versions i inside in (
          v,
          there,
          says i v d (i + 1 == length versions) there
              (read_at (IsVerdefAt src) (distance src 20 16) start 28 (length versions) ds linked leads i d is inside),
        ));
  }
