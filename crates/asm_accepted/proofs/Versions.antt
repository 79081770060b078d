-- The versions are those that the statements say, where their indexes fit the records' fields.
use Rattle.std.proofs.Common.{◌≡◌, ◌∙◌, ap, sym, subst, refl, ℕ, suc, ◌+◌, ◌*◌, ◌%◌, ◌^◌, ◌<◌, ◌≤◌, List, [], ◌∷◌, ◌++◌, length, map, flat_map, drop, take, arith, inl, inr}
use Rattle.std.specs.Prelude.{⊤, Option, unwrap_or, option_to_list}
use Rattle.std.proofs.Math.Seq.{drop-append_seam, take-append_seam}
use Rattle.std.proofs.lemmas.Bool.{cases_lt}
use Rattle.ld_base.specs.declared.object.Verdef.{Verdef}
use Rattle.ld_base.specs.declared.object.Verneed.{Verneed}
use Rattle.elf_head.specs.DynTable.Name.{IsStringAt}
use Rattle.asm_write.specs.declared.contents.NeedRecord.{NeedRecord}
use Rattle.asm_write.specs.declared.contents.NeededVersion.{NeededVersion}
use Rattle.asm_accepted.specs.ElfVersioned.Said.{SaysDefined, SaysNeeded, with_files}
use Rattle.asm_statement.specs.declared.line.Line.{Line}
use Rattle.asm_layout.specs.Contents.{soname_offset}
use Rattle.asm_layout.specs.Versions.{file_versions, half, need_records, needed_of, needed_records, next_need, records_for, strings_length, version_flags, version_records, word}
use Rattle.asm_laws.specs.AsmBounds.Lemmas.Records.{of_file_long, versions_long}
use Rattle.asm_accepted.specs.AsmFields.Strings.{StandFrom, StandsAt}
use Rattle.asm_accepted.specs.AsmRecord.Record.{defined_from, needed_from, verdefs_of, verneeds_from}
use Rattle.asm_accepted.proofs.Named.{base_name, name_of_word, split_from}
use Rattle.asm_accepted.proofs.Pairs.{Paired, behind, joined, lengths, split}

-- Versions that are defined

abbrev verdef : ℕ → ℕ → List ℕ → Verdef
verdef index flags name = record { index = index; flags = flags; name = name }

one_defined : (d : Verdef) (index flags : ℕ) (name : List ℕ) → d.index ≡ index → d.flags ≡ flags → d.name ≡ name → d ≡ verdef index flags name
one_defined d index flags name at flagged named =
    ap (λ i. verdef i d.flags d.name) at ∙ ap (λ f. verdef index f d.name) flagged ∙ ap (verdef index flags) named

defined : (strings : List ℕ) (index at : ℕ) (names : List (List ℕ)) (read : List Verdef) → index + length names ≤ 2 ^ 16
    → Paired (SaysDefined strings) (version_records index at names) read → StandFrom strings at names → read ≡ defined_from index names
defined strings index at [] [] low are stand = refl
defined strings index at [] (d ∷ read) low are stand = absurd are
defined strings index at (name ∷ names) [] low are stand = absurd are
defined strings index at (name ∷ names) (d ∷ read) low (says, are) (stands, stand) =
    let fits : half index ≡ index = omega (arith, low) in
    let one = one_defined d index 0 name (says.index ∙ fits) says.flags (name_of_word strings at name d.name stands says.name) in
    let others = defined strings (index + 1) (at + length name + 1) names read (omega (arith, low)) are stand in
    behind d (verdef index 0 name) read (defined_from (index + 1) names) one others

-- the base stands before them
pub verdefs_are : (strings : List ℕ) (own : Option (List ℕ)) (at : ℕ) (names : List (List ℕ)) (read : List Verdef) → length read ≤ 2 ^ 15
    → Paired (SaysDefined strings) (records_for (unwrap_or own []) (unwrap_or (soname_offset own) 0) at names) read
    → StandsAt strings 0 [] → StandFrom strings 1 (option_to_list own) → StandFrom strings at names → read ≡ verdefs_of own names
verdefs_are strings own at [] [] few are nameless first stand = refl
verdefs_are strings own at [] (d ∷ read) few are nameless first stand = absurd are
verdefs_are strings own at (name ∷ names) [] few are nameless first stand = absurd are
verdefs_are strings own at (name ∷ names) (d ∷ read) few (says, are) nameless first stand =
    let long = lengths (SaysDefined strings) (version_records 2 at (name ∷ names)) read are in
    let counted = versions_long 2 at (name ∷ names) in
    let base = one_defined d 1 1 (unwrap_or own []) says.index says.flags (base_name strings own d.name nameless first says.name) in
    let others = defined strings 2 at (name ∷ names) read (omega (arith, few, long, counted)) are stand in
    behind d (verdef 1 1 (unwrap_or own [])) read (defined_from 2 (name ∷ names)) base others

-- Versions that are needed

abbrev verneed : ℕ → ℕ → List ℕ → List ℕ → Verneed
verneed index flags file name = record { index = index; flags = flags; file = file; name = name }

one_needed : (n : Verneed) (index flags : ℕ) (file name : List ℕ) → n.index ≡ index → n.flags ≡ flags → n.file ≡ file → n.name ≡ name → n ≡ verneed index flags file name
one_needed n index flags file name at flagged filed named =
    ap (λ i. verneed i n.flags n.file n.name) at ∙ ap (λ f. verneed index f n.file n.name) flagged ∙ ap (λ (f : List ℕ). verneed index flags f n.name) filed ∙ ap (verneed index flags file) named

-- the versions of these files, from an index on, have indexes of 15 bits
abbrev pub IndexesFit : List Line → ℕ → List (List ℕ) → Type 0
IndexesFit lines index [] = ⊤
IndexesFit lines index (file ∷ files) =
    ((k : ℕ) → k < length (file_versions lines file) → index + k < 0x8000) × IndexesFit lines (index + length (file_versions lines file)) files

half_few : (n : ℕ) → n ≤ 0x8000 → half n ≡ n
half_few n few = omega (arith, few)

few_indexes : (index n : ℕ) → ((k : ℕ) → k < n → index + k < 0x8000) → n ≤ 0x8000
few_indexes index n low = elim (cases_lt 0x8000 n) as (λ _. n ≤ 0x8000) [
  | inl above ↦ let past = low 0x8000 above in absurd (omega (arith, past))
  | inr few ↦ few
]

module _ (lines : List Line) (strings : List ℕ) where
  of_file : (file : List ℕ) (need : NeedRecord) (at : ℕ) → need.name ≡ word at → StandsAt strings at file → (index offset : ℕ) (names : List (List ℕ)) (read : List Verneed)
      → ((k : ℕ) → k < length names → index + k < 0x8000) → Paired (SaysNeeded strings) (map (λ version. (need, version)) (needed_of lines file index offset names)) read
      → StandFrom strings offset names → read ≡ needed_from lines file index names
  of_file file need at is there index offset [] [] low are stand = refl
  of_file file need at is there index offset [] (n ∷ read) low are stand = absurd are
  of_file file need at is there index offset (version ∷ names) [] low are stand = absurd are
  of_file file need at is there index offset (version ∷ names) (n ∷ read) low (says, are) (stands, stand) =
      let below = low 0 (omega arith) in
      let fits : half index % 0x8000 ≡ index = omega (arith, below) in
      let filed = name_of_word strings at file n.file there (subst (λ k. IsStringAt strings k n.file) is says.file) in
      let named = name_of_word strings offset version n.name stands says.name in
      let flags = version_flags lines file version in
      let one = one_needed n index flags file version (says.index ∙ fits) says.flags filed named in
      let later : (k : ℕ) → k < length names → index + 1 + k < 0x8000 = λ k inside. (let next = low (suc k) (omega (arith, inside)) in omega (arith, next)) in
      let others = of_file file need at is there (index + 1) (offset + length version + 1) names read later are stand in
      behind n (verneed index flags file version) read (needed_from lines file (index + 1) names) one others

  pub verneeds_are : (before index at offset : ℕ) (files : List (List ℕ)) (read : List Verneed) → IndexesFit lines index files
      → Paired (SaysNeeded strings) (with_files (need_records lines before at files) (needed_records lines index offset files)) read
      → StandFrom strings at files → StandFrom strings offset (flat_map (file_versions lines) files) → read ≡ verneeds_from lines index files
  verneeds_are before index at offset [] [] fit are stand named = refl
  verneeds_are before index at offset [] (n ∷ read) fit are stand named = absurd are
  verneeds_are before index at offset (file ∷ files) read (low, fit) are (there, stand) named =
      let names = file_versions lines file in
      let count = length names in
      let first = needed_of lines file index offset names in
      let rest = needed_records lines (index + count) (offset + strings_length names) files in
      let needs = need_records lines (before + count) (at + length file + 1) files in
      let need : NeedRecord = record { count = half count; name = word at; first = word (16 * length (file ∷ files) + 16 * before); next = next_need files } in
      let of_need : List NeededVersion → List (NeedRecord × NeededVersion) = λ versions. map (λ version. (need, version)) versions in
      let counted : half count ≡ length first = half_few count (few_indexes index count low) ∙ sym (of_file_long lines file index offset names) in
      let taken : take (half count) (first ++ rest) ≡ first = ap (λ n. take n (first ++ rest)) counted ∙ take-append_seam first rest in
      let dropped : drop (half count) (first ++ rest) ≡ rest = ap (λ n. drop n (first ++ rest)) counted ∙ drop-append_seam first rest in
      let with_first = subst (λ (vs : List NeededVersion). Paired (SaysNeeded strings) (of_need vs ++ with_files needs (drop (half count) (first ++ rest))) read) taken are in
      let whole = subst (λ (vs : List NeededVersion). Paired (SaysNeeded strings) (of_need first ++ with_files needs vs) read) dropped with_first in
      let (one, other, is, own, more) = split (SaysNeeded strings) (of_need first) (with_files needs rest) read whole in
      let (own_names, other_names) = split_from strings offset names (flat_map (file_versions lines) files) named in
      let front = of_file file need at refl there index offset names one low own own_names in
      let back = verneeds_are (before + count) (index + count) (at + length file + 1) (offset + strings_length names) files other fit more stand other_names in
      joined read one other (needed_from lines file index names) (verneeds_from lines (index + count) files) is front back
