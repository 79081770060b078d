-- The hash tables of an object.
use Rattle.std.proofs.Common.{◌≡◌, ◌∙◌, ap, sym, subst, refl, ℕ, ◌-◌, is_some, List, [], length, arith}
use Rattle.std.specs.Prelude.{Some, None, Option}
use Rattle.std.specs.Option.{option_and_then, option_map_or}
use Rattle.ld_base.specs.declared.parts.GnuPart.{GnuPart}
use Rattle.ld_base.specs.declared.parts.HashTable.{HashTable}
use Rattle.ld_base.specs.declared.parts.SysvPart.{SysvPart}
use Rattle.elf_head.specs.DynTable.HashWords.{gnu_words, hash_words, sysv_words}
use Rattle.elf_head.specs.DynTable.Tag.{last_of}
use Rattle.elf_head.specs.DynTable.TagNumbers.{dt_gnu_hash, dt_hash}
use Rattle.elf_head.specs.Readable.{bytes_from}
use Rattle.asm_write.specs.declared.contents.Contents.{Contents}
use Rattle.asm_write.specs.declared.part.Part.TheVariants as parts
use Rattle.asm_write.specs.Sizes.{gnu_size, plain_size, sysv_size}
use Rattle.asm_write.specs.Starts.{size_in, size_of, start_in, starts_of}
use Rattle.asm_write.specs.Values.{gnu_bytes, sysv_bytes}
use Rattle.asm_laws.specs.ElfWritten.Standing.{EndsInside}
use Rattle.asm_laws.specs.ElfRecords.Standing.{StandAt}
use Rattle.asm_laws.specs.ElfSpelled.Said.{IsTold, said_head, said_tags, told_if}
use Rattle.asm_laws.specs.ElfSpelled.Lemmas.Starting.{Apart, from_head, told}
use Rattle.asm_accepted.specs.ElfHashed.Hashes.{HashesFit}
use Rattle.asm_accepted.specs.ElfHashed.Said.{said_tables}
use Rattle.asm_accepted.proofs.ElfHashed.Ends.{bytes_stand, gnu_inside, sysv_inside}
use Rattle.asm_accepted.proofs.ElfHashed.Words.{gnu_read, sysv_read}

-- what is read where it is told
told_read : {A : Type 0} (read : ℕ → Option A) (start : ℕ) (o : Option A) → ((x : A) → o ≡ Some x → read start ≡ Some x) → option_and_then read (told_if (is_some o) start) ≡ o
told_read read start None each = refl
told_read read start (Some x) each = each x refl

module _ (apart : Apart) (contents : Contents) (ends : EndsInside (starts_of contents)) (bytes : List ℕ) (table : IsTold contents (said_tags contents)) (fits : HashesFit contents)
    (gnu_stand : StandAt bytes (start_in (starts_of contents) parts.GnuHash - start_in (starts_of contents) parts.Head) (option_map_or gnu_bytes contents.gnu []))
    (gnu_long : length (option_map_or gnu_bytes contents.gnu []) ≡ size_in (starts_of contents) parts.GnuHash)
    (sysv_stand : StandAt bytes (start_in (starts_of contents) parts.SysvHash - start_in (starts_of contents) parts.Head) (option_map_or sysv_bytes contents.sysv []))
    (sysv_long : length (option_map_or sysv_bytes contents.sysv []) ≡ size_in (starts_of contents) parts.SysvHash) where
  gnu_at : (g : GnuPart) → contents.gnu ≡ Some g → gnu_words (bytes_from bytes (said_head contents).headers (start_in (starts_of contents) parts.GnuHash)) ≡ Some g
  unfolding size_of plain_size
  gnu_at g is =
      let starts = starts_of contents in
      let part : option_map_or gnu_bytes contents.gnu [] ≡ gnu_bytes g = ap (λ o. option_map_or gnu_bytes o []) is in
      let size : size_in starts parts.GnuHash ≡ gnu_size g = told contents parts.GnuHash ∙ ap (λ o. option_map_or gnu_size o 0) is in
      let long : length (gnu_bytes g) ≡ size_in starts parts.GnuHash = sym (ap (λ (all : List ℕ). length all) part) ∙ gnu_long in
      let end = gnu_inside apart contents ends (omega (arith, size)) in
      let there = bytes_stand apart contents ends bytes (start_in starts parts.GnuHash) (gnu_bytes g) (from_head apart contents parts.GnuHash) (omega (arith, long, size)) (omega (arith, long, end))
      (subst (λ (all : List ℕ). StandAt bytes (start_in starts parts.GnuHash - start_in starts parts.Head) all) part gnu_stand) in
      gnu_read (bytes_from bytes (said_head contents).headers (start_in starts parts.GnuHash)) g (fits.gnu g is) there

  sysv_at : (s : SysvPart) → contents.sysv ≡ Some s → sysv_words (bytes_from bytes (said_head contents).headers (start_in (starts_of contents) parts.SysvHash)) ≡ Some s
  unfolding size_of plain_size
  sysv_at s is =
      let starts = starts_of contents in
      let part : option_map_or sysv_bytes contents.sysv [] ≡ sysv_bytes s = ap (λ o. option_map_or sysv_bytes o []) is in
      let size : size_in starts parts.SysvHash ≡ sysv_size s = told contents parts.SysvHash ∙ ap (λ o. option_map_or sysv_size o 0) is in
      let long : length (sysv_bytes s) ≡ size_in starts parts.SysvHash = sym (ap (λ (all : List ℕ). length all) part) ∙ sysv_long in
      let end = sysv_inside apart contents ends (omega (arith, size)) in
      let there = bytes_stand apart contents ends bytes (start_in starts parts.SysvHash) (sysv_bytes s) (from_head apart contents parts.SysvHash) (omega (arith, long, size)) (omega (arith, long, end))
      (subst (λ (all : List ℕ). StandAt bytes (start_in starts parts.SysvHash - start_in starts parts.Head) all) part sysv_stand) in
      sysv_read (bytes_from bytes (said_head contents).headers (start_in starts parts.SysvHash)) s (fits.sysv s is) there

  pub tables_are : hash_words bytes (said_head contents).headers (said_tags contents) ≡ said_tables contents
  unfolding hash_words
  tables_are =
      let headers = (said_head contents).headers in
      let gnu : ℕ → Option GnuPart = λ at. gnu_words (bytes_from bytes headers at) in
      let sysv : ℕ → Option SysvPart = λ at. sysv_words (bytes_from bytes headers at) in
      let make : Option GnuPart → Option SysvPart → HashTable = λ g s. record { gnu = g; sysv = s } in
      let gnu_is : option_and_then gnu (last_of (said_tags contents) dt_gnu_hash) ≡ contents.gnu
      = ap (option_and_then gnu) table.gnu_hash ∙ told_read gnu (start_in (starts_of contents) parts.GnuHash) contents.gnu gnu_at in
      let sysv_is : option_and_then sysv (last_of (said_tags contents) dt_hash) ≡ contents.sysv
      = ap (option_and_then sysv) table.hash ∙ told_read sysv (start_in (starts_of contents) parts.SysvHash) contents.sysv sysv_at in
      ap (λ o. make o (option_and_then sysv (last_of (said_tags contents) dt_hash))) gnu_is ∙ ap (make contents.gnu) sysv_is
