-- The hash tables of a source's object.
use Rattle.std.proofs.Common.{◌≡◌, ◌∙◌, ap, sym, subst, refl, ℕ, ◌+◌, ◌^◌, ◌<◌, ◌≤◌, inl, inr, Bool, true, false, if◌then◌else◌, List, length, map, arith}
use Rattle.std.specs.Prelude.{Some, None}
use Rattle.ld_base.specs.declared.parts.GnuPart.{GnuPart}
use Rattle.ld_base.specs.declared.parts.SysvPart.{SysvPart}
use Rattle.sym_hash.specs.Hash.{gnu_hash, sysv_hash}
use Rattle.asm_write.specs.HashBuild.Hashed.{bucket_count, gnu_of, sysv_of}
use Rattle.asm_statement.specs.declared.line.Line.{Line}
use Rattle.asm_layout.specs.declared.uses.Exported.{Exported}
use Rattle.asm_layout.specs.Contents.{contents_of}
use Rattle.asm_layout.specs.Symbols.{first_export, sorted_exports}
use Rattle.asm_layout.specs.Tables.{has_gnu, has_sysv, hash_of}
use Rattle.asm_layout.specs.Uses.{exports, imports}
use Rattle.asm_layout.specs.Versions.{word}
use Rattle.asm_laws.specs.Lemmas.Fewer.{once_of}
use Rattle.asm_accepted.specs.ElfHashed.Hashes.{EndsWithGreatest, GnuFits, HashesFit, SysvFits}
use Rattle.asm_laws.specs.ElfSpelled.Lemmas.Rows.{length-map}
use Rattle.asm_laws.specs.ElfSpelled.Lemmas.Reading.{some_is}
use Rattle.asm_accepted.proofs.AsmHashed.Buckets.{EndsInBucket, ends_with, nothing_ends}
use Rattle.asm_accepted.proofs.AsmHashed.Numbers.{gnu_fits, low_gnu, low_hashes, sysv_fits}
use Rattle.asm_accepted.proofs.AsmHashed.Sorted.{as_many, sorted}

-- as many imports and exports as there are lines, at most
pub imports_few : (lines : List Line) → length (imports lines) ≤ length lines
unfolding imports
imports_few lines = once_of _ _ lines

pub exports_few : (lines : List Line) → length (exports lines) ≤ length lines
unfolding exports
exports_few lines = once_of _ _ lines

pub exports_sorted : (lines : List Line) → length (sorted_exports lines) ≡ length (exports lines)
unfolding sorted_exports
exports_sorted lines = as_many (λ exported. gnu_hash exported.name) (bucket_count (length (exports lines))) (exports lines) (omega arith)

-- the table behind a choice
pub chosen : {A : Type 0} (b : Bool) (made x : A) → (if b then Some made else None) ≡ Some x → (b ≡ true) × (made ≡ x)
chosen true made x is = (refl, some_is made x is)
chosen false made x is = absurd cc

module _ (lines : List Line) (few : length lines ≤ 2 ^ 20 + 1) where
  abbrev gnu_hashes : List ℕ
  gnu_hashes = map (λ exported. gnu_hash exported.name) (sorted_exports lines)

  abbrev sysv_hashes : List ℕ
  sysv_hashes = map (λ exported. sysv_hash exported.name) (sorted_exports lines)

  pub first_is : word (first_export lines) ≡ first_export lines
  first_is = let imports = imports_few lines in omega (arith, imports, few)

  room : (hashes : List ℕ) → length hashes ≡ length (sorted_exports lines) → word (first_export lines) + length hashes < 2 ^ 32
  room hashes long =
      let imports = imports_few lines in
      let exports = exports_few lines in
      let all = exports_sorted lines in
      let first = first_is in
      omega (arith, imports, exports, all, first, few, long)

  gnu_ends : EndsWithGreatest (gnu_of (word (first_export lines)) gnu_hashes)
  unfolding sorted_exports
  gnu_ends =
      let hash : Exported → ℕ = λ exported. gnu_hash exported.name in
      let long = length-map hash (sorted_exports lines) in
      let count : bucket_count (length (exports lines)) ≡ bucket_count (length gnu_hashes) = ap bucket_count (sym (long ∙ exports_sorted lines)) in
      elim (sorted hash (bucket_count (length (exports lines))) (exports lines)) as (λ _. EndsWithGreatest (gnu_of (word (first_export lines)) gnu_hashes)) [
        | inl none ↦ subst (λ (hs : List ℕ). EndsWithGreatest (gnu_of (word (first_export lines)) hs)) (sym none) (nothing_ends (word (first_export lines)))
        | inr some ↦ ends_with (word (first_export lines)) gnu_hashes (let first = first_is in omega (arith, first)) (room gnu_hashes long)
            (subst (λ n. EndsInBucket n gnu_hashes) count some)
      ]

  pub hashes_fit : HashesFit (contents_of lines)
  unfolding contents_of
  hashes_fit = record {
    gnu = λ g is.
        (let made = chosen (has_gnu (hash_of lines)) (gnu_of (word (first_export lines)) gnu_hashes) g is in
        let long = length-map (λ (exported : Exported). gnu_hash exported.name) (sorted_exports lines) in
        let most = room gnu_hashes long in
        subst (λ (t : GnuPart). GnuFits t) made.1
        (gnu_fits (word (first_export lines)) gnu_hashes (omega (arith, most)) (omega (arith, most)) (low_hashes gnu_hash (λ (exported : Exported). exported.name) low_gnu (sorted_exports lines)) gnu_ends));
    sysv = λ s is.
        (let made = chosen (has_sysv (hash_of lines)) (sysv_of (word (first_export lines)) sysv_hashes) s is in
        let long = length-map (λ (exported : Exported). sysv_hash exported.name) (sorted_exports lines) in
        subst (λ (t : SysvPart). SysvFits t) made.1 (sysv_fits (word (first_export lines)) sysv_hashes (room sysv_hashes long)));
  }
