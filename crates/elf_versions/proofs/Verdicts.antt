-- The verdict on all version tables, and the relations that say what it means.
use Rattle.std.proofs.Common.{◌≡◌, ◌⊎◌, ap, ℕ, ◌%◌, ◌==◌, ◌||◌, Bool, List, [], ◌∷◌, map, length, Option, Some, None, Ok, Err, refl, inl, inr}
use Rattle.std.specs.Bool.{Decides}
use Rattle.std.specs.Option.{option_map_or}
use Rattle.std.specs.List.{list_any}
use Rattle.std.proofs.lemmas.Bool.Decides.{Decides-eqb}
use Rattle.std.proofs.lemmas.List.Folds.{list_any-append}
use Rattle.ld_base.specs.declared.object.Verdef.{Verdef}
use Rattle.ld_base.specs.declared.object.Verneed.{Verneed}
use Rattle.ld_base.specs.declared.fault.NotAccepted.{NotAccepted}
use Rattle.ld_base.specs.declared.parts.DynParts.{DynParts}
use Rattle.ld_base.specs.declared.parts.Head.{Head}
use Rattle.ld_base.specs.declared.parts.Versions.{Versions}
use Rattle.elf_head.specs.AcceptancePart.Lemmas.Reading.{ok_is}
use Rattle.elf_head.specs.AcceptancePart.Lemmas.Finds.{finds_position, one_first, Finds}
use Rattle.elf_head.specs.AcceptancePart.Lemmas.Judged.{judged, judged_like, judged_next, made, Judges}
use Rattle.elf_head.specs.AcceptancePart.Lemmas.Tests.{among, both, contrary, either, le_decides, Among}
use Rattle.elf_head.specs.AcceptancePart.First.{IsFirst}
use Rattle.elf_head.specs.DynTable.TagNumbers.{dt_versym, dt_verdef, dt_verneed}
use Rattle.elf_versions.proofs.Laws.{verdefs_reads, verneeds_reads, versym_reads, Strings}
use Rattle.elf_versions.specs.Index.{indexes_of, is_unknown, unknown_index}
use Rattle.elf_versions.specs.Record.{bad_table}
use Rattle.elf_versions.specs.Spells.{AreVerdefs, AreVerneeds, BreaksFirst, HasIndex, IsUnknown, IsUnknownAt, IsVersym, Say, SpellsVersions}
use Rattle.elf_versions.specs.Spells.BreaksFirst.{bad_versym, bad_verdefs, bad_verneeds, unknown}
use Rattle.elf_versions.specs.Verdict.{bad_index, source_of, tables_of, versions_in, versions_verdict, with_indexes}

-- ---- the first symbol whose index isn't there

any_map : {X : Type 0} (f : X → ℕ) (p : ℕ → Bool) (xs : List X) → list_any p (map f xs) ≡ list_any (λ x. p (f x)) xs
any_map f p [] = refl
any_map f p (x ∷ xs) = ap (λ b. p (f x) || b) (any_map f p xs)

-- an element of the list has the number k
numbered : {X : Type 0} (f : X → ℕ) (k : ℕ) (xs : List X) → Decides (list_any (λ i. i == k) (map f xs)) (Among xs (λ x. f x ≡ k))
numbered f k xs = rw (any_map f (λ i. i == k) xs) (among (λ x. Decides-eqb (f x) k) xs)

decides : (v : Versions) (entry : ℕ) → Decides (is_unknown (indexes_of v.verdefs v.verneeds) entry) (IsUnknown v entry)
decides v entry = both (le_decides 2 (entry % 0x8000)) (contrary (has_index (entry % 0x8000)))
  where
    has_index : (k : ℕ) → Decides (list_any (λ i. i == k) (indexes_of v.verdefs v.verneeds)) (HasIndex v k)
    has_index k =
        rw (list_any-append (λ i. i == k) (map (λ (d : Verdef). d.index) v.verdefs) (map (λ (n : Verneed). n.index) v.verneeds))
        (either (numbered (λ (d : Verdef). d.index) k v.verdefs) (numbered (λ (n : Verneed). n.index) k v.verneeds))

found : (v : Versions) → Finds (IsUnknownAt v) (unknown_index v)
unfolding unknown_index
found v = finds_position (is_unknown (indexes_of v.verdefs v.verneeds)) (IsUnknown v) (decides v) v.versym

indexes_judged : (v : Versions) → Judges (with_indexes v) (λ w. (v ≡ w) × ((symbol : ℕ) → IsUnknownAt v symbol → ⊥)) (λ e. (symbol : ℕ) × IsFirst (IsUnknownAt v) symbol × (bad_index symbol ≡ e))
unfolding with_indexes
indexes_judged v = by (unknown_index v) (found v)
  where
    by : (o : Option ℕ) → Finds (IsUnknownAt v) o
        → Judges (option_map_or (λ symbol. Err (bad_index symbol)) o (Ok v)) (λ w. (v ≡ w) × ((symbol : ℕ) → IsUnknownAt v symbol → ⊥)) (λ e. (symbol : ℕ) × IsFirst (IsUnknownAt v) symbol × (bad_index symbol ≡ e))
    by None none = record {
      accepted = λ w. (λ e. (ok_is NotAccepted v w e, none), λ (is, known). ap Ok is);
      refused = λ e. (λ err. absurd cc, λ (symbol, first, is). absurd (none symbol first.bad));
    }
    by (Some k) first = record {
      accepted = λ w. (λ e. absurd cc, λ (is, known). absurd (known k first.bad));
      refused = λ e. (λ err. (k, first, cc), λ (symbol, other, is). rw (one_first (IsUnknownAt v) k symbol first other) (ap Err is));
    }

-- ---- all tables

module _ (strings : Strings) (bytes : List ℕ) (head : Head) (parts : DynParts) where
  abbrev Versym : List ℕ → Type 0
  Versym = IsVersym (source_of bytes head.headers parts.tags dt_versym) parts.tags (length parts.symbols)

  abbrev Verdefs : List Verdef → Type 0
  Verdefs = AreVerdefs (source_of bytes head.headers parts.tags dt_verdef) parts.tags

  abbrev Verneeds : List Verneed → Type 0
  Verneeds = AreVerneeds (source_of bytes head.headers parts.tags dt_verneed) parts.tags

  -- the fault of the first table that says nothing
  abbrev BadTable : NotAccepted → Type 0
  BadTable e =
      ((bad_table dt_versym ≡ e) × ((x : List ℕ) → Versym x → ⊥))
      ⊎ ((x : List ℕ) × Versym x × (((bad_table dt_verdef ≡ e) × ((y : List Verdef) → Verdefs y → ⊥))
      ⊎ ((y : List Verdef) × Verdefs y × (((bad_table dt_verneed ≡ e) × ((z : List Verneed) → Verneeds z → ⊥)) ⊎ ((z : List Verneed) × Verneeds z × ⊥)))))

  tables_judged : Judges (tables_of bytes head.headers parts.tags (length parts.symbols)) (Say bytes head parts) BadTable
  unfolding tables_of
  tables_judged =
      judged_like
      (judged_next (judged (versym_reads (source_of bytes head.headers parts.tags dt_versym) parts.tags (length parts.symbols))) (λ entries.
      judged_next (judged (verdefs_reads strings (source_of bytes head.headers parts.tags dt_verdef) parts.tags)) (λ ds.
      judged_next (judged (verneeds_reads strings (source_of bytes head.headers parts.tags dt_verneed) parts.tags)) (λ ns. made _))))
      (λ v (entries, versym, (ds, verdefs, (ns, verneeds, is))). rw (← is) (record { has_versym = refl; versym = versym; verdefs = verdefs; verneeds = verneeds }))
      (λ v s. (v.versym, s.versym, (v.verdefs, s.verdefs, (v.verneeds, s.verneeds, rw (← s.has_versym) refl)))) (λ e bad. bad) (λ e bad. bad)

  pub verdict_judged : Judges (versions_verdict bytes head parts) (SpellsVersions bytes head parts) (BreaksFirst bytes head parts)
  unfolding versions_in
  verdict_judged =
      judged_like (judged_next tables_judged indexes_judged) (λ v (w, say, (is, known)). rw (← is) (record { say = say; known = known })) (λ v s. (v, s.say, (refl, s.known))) breaks (λ e. broken)
    where
      breaks : (e : NotAccepted) → BadTable e ⊎ ((v : Versions) × Say bytes head parts v × ((symbol : ℕ) × IsFirst (IsUnknownAt v) symbol × (bad_index symbol ≡ e))) → BreaksFirst bytes head parts e
      breaks e (inl (inl (is, never))) = rw (← is) (bad_versym never)
      breaks e (inl (inr (entries, versym, inl (is, never)))) = rw (← is) (bad_verdefs entries versym never)
      breaks e (inl (inr (entries, versym, inr (ds, verdefs, inl (is, never))))) = rw (← is) (bad_verneeds entries versym ds verdefs never)
      breaks e (inl (inr (entries, versym, inr (ds, verdefs, inr (ns, verneeds, none))))) = absurd none
      breaks e (inr (v, say, (symbol, first, is))) = rw (← is) (unknown v say symbol first)

      broken : {e : NotAccepted} → BreaksFirst bytes head parts e → BadTable e ⊎ ((v : Versions) × Say bytes head parts v × ((symbol : ℕ) × IsFirst (IsUnknownAt v) symbol × (bad_index symbol ≡ e)))
      broken (bad_versym never) = inl (inl (refl, never))
      broken (bad_verdefs entries versym never) = inl (inr (entries, versym, inl (refl, never)))
      broken (bad_verneeds entries versym ds verdefs never) = inl (inr (entries, versym, inr (ds, verdefs, inl (refl, never))))
      broken (unknown v say symbol first) = inr (v, say, (symbol, first, refl))
