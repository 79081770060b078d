-- What it is for version tables to say something, and to break a rule: as relations.
use Rattle.std.specs.Prelude.{◌≡◌, ◌⊎◌, ℕ, ◌+◌, ◌*◌, ◌%◌, ◌==◌, ◌<◌, ◌≤◌, Bool, false, is_some, List, [], ◌∷◌, ◌++◌, length, sum_by, Some, None}
use Rattle.std.specs.List.{slice_get}
use Rattle.ld_base.specs.Field.{field}
use Rattle.ld_base.specs.declared.fault.NotAccepted.{NotAccepted}
use Rattle.ld_base.specs.declared.object.Verdef.{Verdef}
use Rattle.ld_base.specs.declared.object.Verneed.{Verneed}
use Rattle.ld_base.specs.declared.parts.DynParts.{DynParts}
use Rattle.ld_base.specs.declared.parts.Head.{Head}
use Rattle.ld_base.specs.declared.parts.Tag.{Tag}
use Rattle.ld_base.specs.declared.parts.Versions.{Versions}
use Rattle.elf_head.specs.Readable.{file_bytes}
use Rattle.elf_head.specs.AcceptancePart.First.{IsFirst}
use Rattle.elf_head.specs.AcceptancePart.Table.{table}
use Rattle.elf_head.specs.AcceptancePart.Entries.{AreEntries}
use Rattle.elf_head.specs.DynTable.Name.{IsStringAt}
use Rattle.elf_head.specs.DynTable.Tag.{last_of}
use Rattle.elf_head.specs.DynTable.TagNumbers.{dt_versym, dt_verdef, dt_verdefnum, dt_verneed, dt_verneednum}
use Rattle.elf_versions.specs.Need.{Need}
use Rattle.elf_versions.specs.Linked.{place}
use Rattle.elf_versions.specs.Record.{bad_table, distance, value_of}
use Rattle.elf_versions.specs.Source.{Source}
use Rattle.elf_versions.specs.Verdict.{bad_index, source_of}

-- these bytes of the file stand at the address
abbrev pub StandsAt : Source → ℕ → ℕ → List ℕ → Type 0
StandsAt src size at r = file_bytes src.bytes src.headers at size ≡ Some r

-- these are so many linked records from a start on: R holds of each at its place, told whether it is the last one
abbrev pub AreLinked : {X : Type 0} → (Bool → ℕ → X → Type 0) → (ℕ → ℕ) → ℕ → ℕ → List X → Type 0
AreLinked R distance start count xs = AreEntries (λ i x. R (i + 1 == count) (place distance start i) x) count xs

-- the Verdef at an address, with the Verdaux to which it leads
pub record IsVerdefAt (src : Source) (is_last : Bool) (at : ℕ) (d : Verdef) : Type 0 where
  pub verdef : List ℕ
  pub stands : StandsAt src 20 at verdef
  pub version : field 2 verdef 0 ≡ 1
  pub counts : 0 < field 2 verdef 6
  pub leads : is_last ≡ false → 0 < field 4 verdef 16
  pub verdaux : List ℕ
  pub names : StandsAt src 8 (at + field 4 verdef 12) verdaux
  pub index : d.index ≡ field 2 verdef 4
  pub flags : d.flags ≡ field 2 verdef 2
  pub name : IsStringAt src.strings (field 4 verdaux 0) d.name

-- the versions that are defined: none, or those of the table
abbrev pub AreVerdefs : Source → List Tag → List Verdef → Type 0
AreVerdefs src tags ds =
    ((last_of tags dt_verdef ≡ None) × (ds ≡ []))
    ⊎ ((start : ℕ) × (last_of tags dt_verdef ≡ Some start) × (value_of tags dt_verdefnum ≤ 32768)
    × AreLinked (IsVerdefAt src) (distance src 20 16) start (value_of tags dt_verdefnum) ds)

-- the Verneed at an address
pub record IsNeedAt (src : Source) (is_last : Bool) (at : ℕ) (need : Need) : Type 0 where
  pub verneed : List ℕ
  pub stands : StandsAt src 16 at verneed
  pub version : field 2 verneed 0 ≡ 1
  pub counts : 0 < field 2 verneed 2
  pub leads : is_last ≡ false → 0 < field 4 verneed 12
  pub file : IsStringAt src.strings (field 4 verneed 4) need.file
  pub versions : need.versions ≡ at + field 4 verneed 8
  pub count : need.count ≡ field 2 verneed 2

-- the Vernaux at an address, of a file
pub record IsVernauxAt (src : Source) (file : List ℕ) (is_last : Bool) (at : ℕ) (n : Verneed) : Type 0 where
  pub vernaux : List ℕ
  pub stands : StandsAt src 16 at vernaux
  pub leads : is_last ≡ false → 0 < field 4 vernaux 12
  pub index : n.index ≡ field 2 vernaux 6 % 0x8000
  pub flags : n.flags ≡ field 2 vernaux 4
  pub file_is : n.file ≡ file
  pub name : IsStringAt src.strings (field 4 vernaux 8) n.name

-- the versions that are needed of these files, file by file
pub data AreVersions (src : Source) : List Need → List Verneed → Type 0 where
  no_more : AreVersions src [] []
  and_then : (need : Need) (needs : List Need) (first rest : List Verneed)
      → AreLinked (IsVernauxAt src need.file) (distance src 16 12) need.versions need.count first
      → AreVersions src needs rest → AreVersions src (need ∷ needs) (first ++ rest)

-- the versions that so many records from a start on need
pub record AreNeeded (src : Source) (start count : ℕ) (ns : List Verneed) : Type 0 where
  pub needs : List Need
  pub linked : AreLinked (IsNeedAt src) (distance src 16 12) start count needs
  pub few : sum_by (λ n. n.count) needs ≤ 32768
  pub versions : AreVersions src needs ns

-- the versions that are needed: none, or those of the table
abbrev pub AreVerneeds : Source → List Tag → List Verneed → Type 0
AreVerneeds src tags ns =
    ((last_of tags dt_verneed ≡ None) × (ns ≡ []))
    ⊎ ((start : ℕ) × (last_of tags dt_verneed ≡ Some start) × (value_of tags dt_verneednum ≤ 32768)
    × AreNeeded src start (value_of tags dt_verneednum) ns)

-- the version indexes of so many symbols: none, or those of the table
abbrev pub IsVersym : Source → List Tag → ℕ → List ℕ → Type 0
IsVersym src tags count entries =
    ((last_of tags dt_versym ≡ None) × (entries ≡ []))
    ⊎ ((start : ℕ) × (part : List ℕ) × (last_of tags dt_versym ≡ Some start) × StandsAt src (2 * count) start part
    × (entries ≡ table (field 2 part) 0 2 count))

-- what the tables of an object say
pub record Say (bytes : List ℕ) (head : Head) (parts : DynParts) (v : Versions) : Type 0 where
  pub has_versym : v.has_versym ≡ is_some (last_of parts.tags dt_versym)
  pub versym : IsVersym (source_of bytes head.headers parts.tags dt_versym) parts.tags (length parts.symbols) v.versym
  pub verdefs : AreVerdefs (source_of bytes head.headers parts.tags dt_verdef) parts.tags v.verdefs
  pub verneeds : AreVerneeds (source_of bytes head.headers parts.tags dt_verneed) parts.tags v.verneeds

-- a version that is defined or needed has this index
abbrev pub HasIndex : Versions → ℕ → Type 0
HasIndex v index = ((i : ℕ) × (d : Verdef) × (slice_get v.verdefs i ≡ Some d) × (d.index ≡ index))
    ⊎ ((i : ℕ) × (n : Verneed) × (slice_get v.verneeds i ≡ Some n) × (n.index ≡ index))

-- an entry, less its bit 0x8000, is an index of 2 or more that no version has
abbrev pub IsUnknown : Versions → ℕ → Type 0
IsUnknown v entry = (2 ≤ entry % 0x8000) × (HasIndex v (entry % 0x8000) → ⊥)

-- the entry of this symbol is unknown
abbrev pub IsUnknownAt : Versions → ℕ → Type 0
IsUnknownAt v symbol = (entry : ℕ) × (slice_get v.versym symbol ≡ Some entry) × IsUnknown v entry

-- no rule is broken, and the tables say this
pub record SpellsVersions (bytes : List ℕ) (head : Head) (parts : DynParts) (v : Versions) : Type 0 where
  pub say : Say bytes head parts v
  pub known : (symbol : ℕ) → IsUnknownAt v symbol → ⊥

-- this rule is broken, and none before it
pub data BreaksFirst (bytes : List ℕ) (head : Head) (parts : DynParts) : NotAccepted → Type 0 where
  bad_versym : ((entries : List ℕ) → IsVersym (source_of bytes head.headers parts.tags dt_versym) parts.tags (length parts.symbols) entries → ⊥)
      → BreaksFirst bytes head parts (bad_table dt_versym)
  bad_verdefs : (entries : List ℕ) → IsVersym (source_of bytes head.headers parts.tags dt_versym) parts.tags (length parts.symbols) entries
      → ((ds : List Verdef) → AreVerdefs (source_of bytes head.headers parts.tags dt_verdef) parts.tags ds → ⊥)
      → BreaksFirst bytes head parts (bad_table dt_verdef)
  bad_verneeds : (entries : List ℕ) → IsVersym (source_of bytes head.headers parts.tags dt_versym) parts.tags (length parts.symbols) entries
      → (ds : List Verdef) → AreVerdefs (source_of bytes head.headers parts.tags dt_verdef) parts.tags ds
      → ((ns : List Verneed) → AreVerneeds (source_of bytes head.headers parts.tags dt_verneed) parts.tags ns → ⊥)
      → BreaksFirst bytes head parts (bad_table dt_verneed)
  unknown : (v : Versions) → Say bytes head parts v → (symbol : ℕ) → IsFirst (IsUnknownAt v) symbol → BreaksFirst bytes head parts (bad_index symbol)
