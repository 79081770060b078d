-- Each part by itself.
use Rattle.std.proofs.Common.{◌≡◌, ℕ, ◌+◌, ◌*◌, ◌%◌, ◌^◌, ◌==◌, List, [], ◌∷◌, ◌++◌, length, flat_map, count_by, refl, arith, length-append, Bool, true, false, nat_lt, ◌<◌, if◌then◌else◌}
use Rattle.std.proofs.lemmas.Bool.Decides.{nat_tests}
use Rattle.std.specs.Int.{w16, w64, to_le_bytes}
use Rattle.ld_base.specs.declared.parts.GnuPart.{GnuPart}
use Rattle.ld_base.specs.declared.parts.SysvPart.{SysvPart}
use Rattle.asm_write.specs.declared.contents.Contents.{Contents}
use Rattle.asm_write.specs.declared.contents.Fix.{Fix}
use Rattle.asm_write.specs.declared.contents.NeedRecord.{NeedRecord}
use Rattle.asm_write.specs.declared.contents.NeededVersion.{NeededVersion}
use Rattle.asm_write.specs.declared.contents.SymbolEntry.{SymbolEntry}
use Rattle.asm_write.specs.declared.contents.VersionRecord.{VersionRecord}
use Rattle.asm_write.specs.declared.part.Part.{Part}
use Rattle.asm_write.specs.declared.starts.Starts.{Starts}
use Rattle.asm_write.specs.Fields.{record_bytes}
use Rattle.asm_write.specs.Records.{head_fields, header_of, header_fields, symbol_fields, rela_fields, slot_fields, file_word, version_fields}
use Rattle.asm_write.specs.Records.{need_fields, needed_fields, dynamic_fields}
use Rattle.asm_write.specs.Sizes.{gnu_size, sysv_size, segments_of, dynamic_entries, has_listed, stands_in, got_plt_size}
use Rattle.asm_write.specs.Values.{head_bytes, gnu_bytes, sysv_bytes, count_word, words, doublewords, symbol_bytes, versym_bytes, verneed_bytes}
use Rattle.asm_write.specs.Values.{rela_bytes, slots_from, dynamic_bytes, fixed_bytes, lazy_words, slot_words}
use Rattle.asm_laws.specs.ElfWritten.Lemmas.Lengths.{each, some, words_length, doublewords_length}

pub head : (starts : Starts) (contents : Contents) → length (head_bytes starts contents) ≡ 64 + 56 * length (segments_of contents)
unfolding head_bytes record_bytes head_fields header_fields
head starts contents =
    let headers = each (λ segment. record_bytes (header_fields (header_of starts contents.sections segment))) 56 (λ segment. refl) (segments_of contents) in
    omega (arith, headers)

pub gnu : (part : GnuPart) → length (gnu_bytes part) ≡ gnu_size part
unfolding gnu_bytes
gnu part =
    let bloom = doublewords_length part.bloom in
    let buckets = words_length part.buckets in
    let chain = words_length part.chain in
    let begin = words (count_word part.buckets ∷ part.symoffset ∷ count_word part.bloom ∷ part.shift ∷ []) in
    let whole = length-append (begin ++ doublewords part.bloom ++ words part.buckets) (words part.chain) in
    let three = length-append (begin ++ doublewords part.bloom) (words part.buckets) in
    let two = length-append begin (doublewords part.bloom) in
    omega (arith, whole, three, two, bloom, buckets, chain)

pub sysv : (part : SysvPart) → length (sysv_bytes part) ≡ sysv_size part
unfolding sysv_bytes
sysv part =
    let buckets = words_length part.buckets in
    let chain = words_length part.chain in
    let begin = words (count_word part.buckets ∷ count_word part.chain ∷ []) in
    let whole = length-append (begin ++ words part.buckets) (words part.chain) in
    let two = length-append begin (words part.buckets) in
    omega (arith, whole, two, buckets, chain)

pub symbols : (starts : Starts) (entries : List SymbolEntry) → length (symbol_bytes starts entries) ≡ 24 * (1 + length entries)
unfolding symbol_bytes record_bytes symbol_fields
symbols starts entries =
    let table = each (λ entry. record_bytes (symbol_fields starts entry)) 24 (λ entry. refl) entries in
    omega (arith, table)

pub versym : (has_versions : Bool) (entries : List SymbolEntry) → length (versym_bytes has_versions entries) ≡ (if has_versions then 2 * (1 + length entries) else 0)
unfolding versym_bytes
versym true entries = let table = each (λ (entry : SymbolEntry). to_le_bytes w16 entry.version) 2 (λ entry. refl) entries in omega (arith, table)
versym false entries = refl

pub verdef : (versions : List VersionRecord) → length (flat_map (λ version. record_bytes (version_fields version)) versions) ≡ 28 * length versions
unfolding record_bytes version_fields
verdef versions = each (λ version. record_bytes (version_fields version)) 28 (λ version. refl) versions

pub verneed : (files : List NeedRecord) (versions : List NeededVersion) → length (verneed_bytes files versions) ≡ 16 * length files + 16 * length versions
unfolding verneed_bytes record_bytes need_fields needed_fields
verneed files versions =
    let first : NeedRecord → List ℕ = λ file. record_bytes (need_fields file) in
    let second : NeededVersion → List ℕ = λ version. record_bytes (needed_fields version) in
    let one = each first 16 (λ file. refl) files in
    let other = each second 16 (λ version. refl) versions in
    omega (arith, one, other, length-append (flat_map first files) (flat_map second versions))

pub rela : (starts : Starts) (fixes : List Fix) → length (rela_bytes starts fixes) ≡ 24 * count_by has_listed fixes
unfolding rela_bytes record_bytes rela_fields
rela starts fixes = some has_listed (λ fix. record_bytes (rela_fields starts fix)) 24 (λ fix. refl) fixes

pub slots : (place : ℕ) (symbols : List ℕ) → length (slots_from place symbols) ≡ 24 * length symbols
unfolding record_bytes slot_fields
slots place [] = refl
slots place (symbol ∷ symbols) = let rest = slots ((place + 8) % 2 ^ 64) symbols in omega (arith, rest)

pub dynamic : (starts : Starts) (contents : Contents) → length (dynamic_bytes starts contents) ≡ 16 * length (dynamic_entries contents)
unfolding dynamic_bytes record_bytes dynamic_fields
dynamic starts contents = each (λ entry. record_bytes (dynamic_fields starts entry)) 16 (λ entry. refl) (dynamic_entries contents)

pub fixed : (starts : Starts) (fixes : List Fix) (part : Part) → length (fixed_bytes starts fixes part) ≡ 8 * count_by (stands_in part) fixes
unfolding fixed_bytes
fixed starts fixes part = some (stands_in part) (λ fix. to_le_bytes w64 (file_word starts fix)) 8 (λ fix. refl) fixes

lazy : (plt : ℕ) (entries : List ℕ) → length (lazy_words plt entries) ≡ 8 * length entries
lazy plt [] = refl
lazy plt (entry ∷ entries) = let rest = lazy plt entries in omega (arith, rest)

some_slots : (n : ℕ) (words lazy : List ℕ) → length words ≡ 16 → length lazy ≡ 8 * n → 0 < n
    → length (if n == 0 then [] else words ++ lazy) ≡ (if nat_lt 0 n then 16 + 8 * n else 0)
some_slots n words lazy two all above =
    let none : (n == 0) ≡ false = grind (arith, nat_tests) in
    let there : nat_lt 0 n ≡ true = grind (arith, nat_tests) in
    rw (none, there) (omega (arith, length-append words lazy))

pub got_plt : (plt : ℕ) (entries : List ℕ) → length (slot_words plt entries) ≡ got_plt_size (length entries)
got_plt plt [] = refl
got_plt plt (entry ∷ entries) =
    some_slots (length (entry ∷ entries)) (doublewords (0 ∷ 0 ∷ [])) (lazy_words plt (entry ∷ entries)) refl (lazy plt (entry ∷ entries)) (omega arith)
