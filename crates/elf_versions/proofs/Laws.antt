-- What the readings of version tables say.
use Rattle.std.proofs.Common.{◌≡◌, ◌↔◌, sym, ℕ, ◌+◌, ◌*◌, ◌<◌, Bool, true, false, List, [], ◌∷◌, ◌++◌, Some, Result, refl, inl, inr}
use Rattle.std.specs.Prelude.{◌==◌, Decides, sum_by}
use Rattle.std.proofs.lemmas.Bool.Decides.{Decides-eqb, Decides-ltb}
use Rattle.ld_base.specs.Field.{field}
use Rattle.ld_base.specs.declared.fault.NotAccepted.{NotAccepted}
use Rattle.ld_base.specs.declared.object.Verneed.{Verneed}
use Rattle.ld_base.specs.declared.parts.Tag.{Tag}
use Rattle.elf_head.specs.Readable.{file_bytes}
use Rattle.elf_head.specs.AcceptancePart.Lemmas.Judged.{entries_reads, like, next, pass_reads, table_reads, value, wanted_reads, Reads}
use Rattle.elf_head.specs.AcceptancePart.Lemmas.Tests.{both, le_decides, means}
use Rattle.elf_head.specs.DynTable.Name.{string_at, IsStringAt}
use Rattle.elf_head.specs.DynTable.Tag.{last_of}
use Rattle.elf_head.specs.DynTable.TagNumbers.{dt_versym, dt_verdef, dt_verdefnum, dt_verneed, dt_verneednum}
use Rattle.elf_versions.specs.Need.{Need}
use Rattle.elf_versions.specs.Linked.{linked, is_linked, place}
use Rattle.elf_versions.specs.Record.{bad_table, distance, named, record_at, value_of}
use Rattle.elf_versions.specs.Source.{Source}
use Rattle.elf_versions.specs.Spells.{AreLinked, AreNeeded, AreVerdefs, AreVerneeds, AreVersions, IsNeedAt, IsVerdefAt, IsVernauxAt, IsVersym, StandsAt}
use Rattle.elf_versions.specs.Spells.AreVersions.{no_more, and_then}
use Rattle.elf_versions.specs.Verdef.{verdef_at, verdefs_from, verdefs_of}
use Rattle.elf_versions.specs.Verneed.{need_at, needs_from, vernaux_at, versions_of, versions_of_all, verneeds_from, verneeds_of}
use Rattle.elf_versions.specs.Versym.{versym_of}

-- what a reading of strings promises
abbrev pub Strings : Type 0
Strings = (strings name : List ℕ) (offset : ℕ) → (string_at strings offset ≡ Some name) ↔ IsStringAt strings offset name

-- ---- records and names

record_reads : (src : Source) (size at : ℕ) → Reads (bad_table src.tag) (record_at src size at) (StandsAt src size at)
unfolding record_at
record_reads src size at = wanted_reads (file_bytes src.bytes src.headers at size)

links : (is_last : Bool) (next : ℕ) → Decides (is_linked is_last next) (is_last ≡ false → 0 < next)
links true next = (λ e last. absurd cc, λ on. refl)
links false next = means (Decides-ltb 0 next) (λ some last. some) (λ on. on refl)

linked_reads : {X : Type 0} {bad : NotAccepted} {entry : Bool → ℕ → Result X NotAccepted} {R : Bool → ℕ → X → Type 0} → ((is_last : Bool) (at : ℕ) → Reads bad (entry is_last at) (R is_last at))
    → (distance : ℕ → ℕ) (start count : ℕ) → Reads bad (linked entry distance start count) (AreLinked R distance start count)
linked_reads each distance start count = entries_reads (λ i. each (i + 1 == count) (place distance start i)) count

module _ (strings : Strings) (src : Source) where
  name_reads : (offset : ℕ) → Reads (bad_table src.tag) (named src offset) (IsStringAt src.strings offset)
  unfolding named
  name_reads offset = like (wanted_reads (string_at src.strings offset)) (λ name. (strings src.strings name offset).0) (λ name. (strings src.strings name offset).1)

  -- ---- what is defined

  verdef_reads : (is_last : Bool) (at : ℕ) → Reads (bad_table src.tag) (verdef_at src is_last at) (IsVerdefAt src is_last at)
  unfolding verdef_at
  verdef_reads is_last at =
      like
      (next (record_reads src 20 at) (λ r.
      next (pass_reads r (both (both (Decides-eqb (field 2 r 0) 1) (Decides-ltb 0 (field 2 r 6))) (links is_last (field 4 r 16)))) (λ kept.
      next (record_reads src 8 (at + field 4 r 12)) (λ aux. next (name_reads (field 4 aux 0)) (λ name. value _)))))
      (λ d (r, stands, (kept, (same, ((version, counts), leads)), (aux, names, (name, spelt, is)))). rw (← is) search)
      (λ d is. (is.verdef, is.stands, (is.verdef, (refl, ((is.version, is.counts), is.leads)), (is.verdaux, is.names, (d.name, is.name, rw (← is.index, ← is.flags) refl)))))

  pub verdefs_reads : (tags : List Tag) → Reads (bad_table src.tag) (verdefs_of src tags) (AreVerdefs src tags)
  unfolding verdefs_of verdefs_from
  verdefs_reads tags =
      like
      (table_reads (last_of tags dt_verdef)
      (λ start. next (pass_reads (value_of tags dt_verdefnum) (le_decides (value_of tags dt_verdefnum) 32768)) (λ count. linked_reads verdef_reads (distance src 20 16) start count)))
      (λ ds there. elim there [ inl none ↦ inl none | inr (start, at, (count, (same, few), are)) ↦ inr (start, at, few, rw same are) ])
      (λ ds there. elim there [ inl none ↦ inl none | inr (start, at, few, are) ↦ inr (start, at, (value_of tags dt_verdefnum, (refl, few), are)) ])

  -- ---- what is needed

  need_reads : (is_last : Bool) (at : ℕ) → Reads (bad_table src.tag) (need_at src is_last at) (IsNeedAt src is_last at)
  unfolding need_at
  need_reads is_last at =
      like
      (next (record_reads src 16 at) (λ r.
      next (pass_reads r (both (both (Decides-eqb (field 2 r 0) 1) (Decides-ltb 0 (field 2 r 2))) (links is_last (field 4 r 12)))) (λ kept.
      next (name_reads (field 4 r 4)) (λ file. value _))))
      (λ need (r, stands, (kept, (same, ((version, counts), leads)), (file, spelt, is))). rw (← is) search)
      (λ need is. (is.verneed, is.stands, (is.verneed, (refl, ((is.version, is.counts), is.leads)), (need.file, is.file, rw (← is.versions, ← is.count) refl))))

  vernaux_reads : (file : List ℕ) (is_last : Bool) (at : ℕ) → Reads (bad_table src.tag) (vernaux_at src file is_last at) (IsVernauxAt src file is_last at)
  unfolding vernaux_at
  vernaux_reads file is_last at =
      like (next (record_reads src 16 at) (λ r. next (pass_reads r (links is_last (field 4 r 12))) (λ kept. next (name_reads (field 4 r 8)) (λ name. value _))))
      (λ n (r, stands, (kept, (same, leads), (name, spelt, is))). rw (← is) search)
      (λ n is. (is.vernaux, is.stands, (is.vernaux, (refl, is.leads), (n.name, is.name, rw (← is.index, ← is.flags, ← is.file_is) refl))))

  abbrev OfFile : Need → List Verneed → Type 0
  OfFile need first = AreLinked (IsVernauxAt src need.file) (distance src 16 12) need.versions need.count first

  nothing : {ns : List Verneed} → AreVersions src [] ns → [] ≡ ns
  nothing no_more = refl

  apart : {need : Need} {needs : List Need} {ns : List Verneed} → AreVersions src (need ∷ needs) ns → (first : List Verneed) × OfFile need first × ((rest : List Verneed) × AreVersions src needs rest × (first ++ rest ≡ ns))
  apart (and_then need needs first rest are more) = (first, are, (rest, more, refl))

  versions_reads : (needs : List Need) → Reads (bad_table src.tag) (versions_of_all src needs) (AreVersions src needs)
  unfolding versions_of
  versions_reads [] = like (value []) (λ ns is. rw (← is) no_more) (λ ns are. nothing are)
  versions_reads (need ∷ needs) =
      like (next (linked_reads (vernaux_reads need.file) (distance src 16 12) need.versions need.count) (λ first. next (versions_reads needs) (λ rest. value _)))
      (λ ns (first, are, (rest, more, is)). rw (← is) (and_then need needs first rest are more)) (λ ns are. apart are)

  needed_reads : (start count : ℕ) → Reads (bad_table src.tag) (verneeds_from src start count) (AreNeeded src start count)
  unfolding verneeds_from needs_from
  needed_reads start count =
      like
      (next (linked_reads need_reads (distance src 16 12) start count) (λ needs. next (pass_reads needs (le_decides (sum_by (λ (n : Need). n.count) needs) 32768)) versions_reads))
      (λ ns (needs, linked, (kept, (same, few), versions)). record { needs = needs; linked = linked; few = few; versions = rw same versions })
      (λ ns are. (are.needs, are.linked, (are.needs, (refl, are.few), are.versions)))

  pub verneeds_reads : (tags : List Tag) → Reads (bad_table src.tag) (verneeds_of src tags) (AreVerneeds src tags)
  unfolding verneeds_of
  verneeds_reads tags =
      like
      (table_reads (last_of tags dt_verneed) (λ start. next (pass_reads (value_of tags dt_verneednum) (le_decides (value_of tags dt_verneednum) 32768)) (λ count. needed_reads start count)))
      (λ ns there. elim there [ inl none ↦ inl none | inr (start, at, (count, (same, few), are)) ↦ inr (start, at, few, rw same are) ])
      (λ ns there. elim there [ inl none ↦ inl none | inr (start, at, few, are) ↦ inr (start, at, (value_of tags dt_verneednum, (refl, few), are)) ])

-- ---- the entries of symbols

pub versym_reads : (src : Source) (tags : List Tag) (count : ℕ) → Reads (bad_table src.tag) (versym_of src tags count) (IsVersym src tags count)
unfolding versym_of
versym_reads src tags count =
    like (table_reads (last_of tags dt_versym) (λ start. next (record_reads src (2 * count) start) (λ part. value _)))
    (λ entries there. elim there [ inl none ↦ inl none | inr (start, at, (part, stands, is)) ↦ inr (start, part, at, stands, sym is) ])
    (λ entries there. elim there [ inl none ↦ inl none | inr (start, part, at, stands, is) ↦ inr (start, at, (part, stands, sym is)) ])
