-- Records of versions that lead from one to the next (Drepper, "ELF Symbol Versioning").
use Rattle.std.specs.Prelude.{◌≡◌, ℕ, ◌+◌, ◌*◌, ◌^◌, ◌<◌, ◌≤◌, ⊤, List, [], ◌∷◌, length, map, take, drop, Some}
use Rattle.std.specs.List.{slice_get}
use Rattle.asm_write.specs.declared.contents.Contents.{Contents}
use Rattle.asm_write.specs.declared.contents.NeedRecord.{NeedRecord}
use Rattle.asm_write.specs.declared.contents.NeededVersion.{NeededVersion}
use Rattle.asm_write.specs.declared.field.Field.{Field}
use Rattle.asm_write.specs.Records.{need_fields, needed_fields, version_fields}
use Rattle.asm_laws.specs.ElfRecords.Numbers.{AllFit}
use Rattle.asm_laws.specs.ElfSpelled.Said.{AllBelow}

-- each record but the last leads so many bytes on
abbrev pub LeadOn : {X : Type 0} → (X → ℕ) → ℕ → List X → Type 0
LeadOn {X} next bytes records = (i : ℕ) (record_at : X) → i + 1 < length records → slice_get records i ≡ Some record_at → next record_at ≡ bytes

-- the numbers of each record are ones that its fields hold
abbrev pub EachFits : {X : Type 0} → (X → List Field) → List X → Type 0
EachFits fields [] = ⊤
EachFits fields (one ∷ rest) = AllFit (fields one) × EachFits fields rest

-- needed versions stand file by file, behind the records of all files: so many of them are of the files before
abbrev pub AreByFile : ℕ → List NeedRecord → List NeededVersion → Type 0
AreByFile before [] versions = versions ≡ []
AreByFile before (file ∷ files) versions =
    (file.first ≡ 16 * length (file ∷ files) + 16 * before) × ((file.count ≤ length versions)
    × (LeadOn (λ version. version.next) 16 (take file.count versions) × AreByFile (before + file.count) files (drop file.count versions)))

-- the records of an object's versions: a defined version takes 28 bytes with its name's record, a file and a needed version 16 each
pub record LinksVersions (contents : Contents) : Type 0 where
  pub indexes : AllBelow (2 ^ 16) (map (λ symbol. symbol.version) contents.symbols)
  pub defined : EachFits version_fields contents.versions
  pub defined_lead : LeadOn (λ version. version.next) 28 contents.versions
  pub files : EachFits need_fields contents.files
  pub files_lead : LeadOn (λ file. file.next) 16 contents.files
  pub needed : EachFits needed_fields contents.needed_versions
  pub by_file : AreByFile 0 contents.files contents.needed_versions
