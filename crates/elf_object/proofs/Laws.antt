-- The verdict on a file, and the relations that say what it means.
use Rattle.std.proofs.Common.{◌≡◌, ◌⊎◌, ℕ, Bool, true, List, length, Some, Result, Ok, Err, refl, sym, ◌∙◌, ap, inl, inr}
use Rattle.std.specs.Prelude.{IfOk, IsErrAnd}
use Rattle.std.specs.List.{slice_get}
use Rattle.ld_base.specs.declared.fault.NotAccepted.{NotAccepted}
use Rattle.ld_base.specs.declared.fault.ReadFault.{ReadFault}
use Rattle.ld_base.specs.declared.fault.ReadFault.TheVariants as faults
use Rattle.ld_base.specs.declared.object.Object.{Object}
use Rattle.ld_base.specs.declared.object.Symbol.{Symbol}
use Rattle.ld_base.specs.declared.parts.DynParts.{DynParts}
use Rattle.ld_base.specs.declared.parts.HashTable.{HashTable}
use Rattle.ld_base.specs.declared.parts.Head.{Head}
use Rattle.ld_base.specs.declared.parts.Versions.{Versions}
use Rattle.elf_head.specs.AcceptancePart.Gives.{Faults, Gives}
use Rattle.elf_head.specs.Rules.{head_verdict}
use Rattle.elf_head.specs.Verdict.{SpellsHead, BreaksFirst as HeadBreaks}
use Rattle.elf_head.specs.AcceptancePart.Lemmas.Reading.{ok_is}
use Rattle.elf_head.specs.AcceptancePart.Lemmas.Judged.{judged_like, judged_next, made, Judges}
use Rattle.elf_dynamic.specs.Rules.{dynamic_verdict}
use Rattle.elf_dynamic.specs.Verdict.{SpellsDynamic, BreaksFirst as DynamicBreaks}
use Rattle.elf_dynamic.specs.Keeps.{Keeps}
use Rattle.elf_versions.specs.Spells.{SpellsVersions, BreaksFirst as VersionsBreak}
use Rattle.elf_versions.specs.Verdict.{versions_verdict}
use Rattle.sym_hash.specs.Breaks.{BreaksHash, IsHashTable}
use Rattle.sym_hash.specs.Reached.{IsTableFor, IsTableOf}
use Rattle.sym_hash.specs.Verdict.{hash_verdict}
use Rattle.elf_object.proofs.Named.{parts_name}
use Rattle.elf_object.proofs.Versioned.{but_versions, length-versions, parts_unversioned}
use Rattle.elf_object.specs.Object.{names_own_symbols, object_of}
use Rattle.elf_object.specs.Spells.{Broken, Say, Spells}
use Rattle.elf_object.specs.Spells.Broken.{by_head, by_dynamic, by_versions, by_hash}
use Rattle.elf_object.specs.Verdict.{object_verdict}

-- what a reader gave has its own table, where what its bytes mean has
pub given_table : (meant : Result (Object × HashTable) NotAccepted) (result : Result (Object × HashTable) ReadFault)
    → ((object : Object) (table : HashTable) → meant ≡ Ok (object, table) → IsTableOf table object) → Gives result meant → IfOk result (λ read. IsTableOf read.1 read.0)
given_table meant (Ok (object, table)) own given = own object table given
given_table meant (Err fault) own given = tt

-- the rule of the hash tables, where the parts before them break none
pub faulty_table : (bytes : List ℕ) (program : Bool) (head : Head) (parts : DynParts) (versions : Versions) (fault : ReadFault) → head_verdict bytes ≡ Ok head
    → dynamic_verdict bytes head program ≡ Ok parts → versions_verdict bytes head parts ≡ Ok versions → Faults fault (hash_verdict bytes head parts)
    → Faults fault (object_verdict bytes program)
unfolding object_verdict
faulty_table bytes program head parts versions (faults.NotAccepted broken) one two three four = rw (one, two, three, four) refl
faulty_table bytes program head parts versions faults.Memory one two three four = tt

-- a fault that is handed on
pub handed_on : {X : Type 0} (result : Result X ReadFault) (fault : ReadFault) (meant : Result X NotAccepted) → IsErrAnd result (λ e. e ≡ fault) → Faults fault meant
    → Gives result meant
handed_on (Ok x) fault meant same given = absurd same
handed_on (Err e) fault meant same given = rw same given

-- what the readers below promise
pub record Readings : Type 0 where
  pub head : (bytes : List ℕ) → Judges (head_verdict bytes) (SpellsHead bytes) (HeadBreaks bytes)
  pub parts : (bytes : List ℕ) (head : Head) (program : Bool) → Judges (dynamic_verdict bytes head program) (SpellsDynamic bytes head program) (DynamicBreaks bytes head program)
  pub kept_parts : (bytes : List ℕ) (head : Head) (program : Bool) (parts : DynParts) → SpellsDynamic bytes head program parts → Keeps bytes head.headers parts
  pub versions : (bytes : List ℕ) (head : Head) (parts : DynParts) → Judges (versions_verdict bytes head parts) (SpellsVersions bytes head parts) (VersionsBreak bytes head parts)
  pub table : (bytes : List ℕ) (head : Head) (parts : DynParts) → Judges (hash_verdict bytes head parts) (IsHashTable bytes head parts) (BreaksHash bytes head parts)
  -- the versions of symbols make no difference to a hash table
  pub same_table : (t : HashTable) (symbols others : List Symbol) (first : ℕ) → length others ≡ length symbols
      → ((i : ℕ) (s : Symbol) → slice_get others i ≡ Some s → slice_get symbols i ≡ Some (record s { version = 0 })) → IsTableFor t symbols first
      → IsTableFor t others first

-- ---- its fields

says : (bytes : List ℕ) (head : Head) (parts : DynParts) (versions : Versions) → Say bytes head parts versions (object_of bytes head parts versions)
unfolding object_of
says bytes head parts versions = assumption

-- an object has the fields that are said of it, and no other
said : (bytes : List ℕ) (head : Head) (parts : DynParts) (versions : Versions) (o : Object) → Say bytes head parts versions o → object_of bytes head parts versions ≡ o
unfolding object_of
said bytes head parts versions o s = rw (← s.kind, ← s.entry, ← s.soname, ← s.needed, ← s.segments, ← s.symbols, ← s.first_exported, ← s.has_versym, ← s.verdefs, ← s.verneeds, ← s.relocs, ← s.plt_relocs, ← s.pltgot, ← s.preinit, ← s.init, ← s.init_array, ← s.fini, ← s.fini_array, ← s.tls, ← s.relro, ← s.flags, ← s.relr, ← s.dynamic) refl

-- ---- what the verdict means

same_pair : {o p : Object} {t u : HashTable} → o ≡ p → t ≡ u → ◌≡◌ {A = Object × HashTable} (o, t) (p, u)
same_pair e f = λ i. (e i, f i)

module _ (r : Readings) (bytes : List ℕ) (program : Bool) where
  -- the first fault of the readers
  abbrev Fault : NotAccepted → Type 0
  Fault e =
      HeadBreaks bytes e
      ⊎ ((h : Head) × SpellsHead bytes h × (DynamicBreaks bytes h program e
      ⊎ ((p : DynParts) × SpellsDynamic bytes h program p × (VersionsBreak bytes h p e
      ⊎ ((v : Versions) × SpellsVersions bytes h p v × (BreaksHash bytes h p e ⊎ ((t : HashTable) × IsHashTable bytes h p t × ⊥)))))))

  breaks : (e : NotAccepted) → Fault e → Broken bytes program e
  breaks e (inl bad) = by_head e bad
  breaks e (inr (h, is_head, inl bad)) = by_dynamic h is_head e bad
  breaks e (inr (h, is_head, inr (p, are_parts, inl bad))) = by_versions h is_head p are_parts e bad
  breaks e (inr (h, is_head, inr (p, are_parts, inr (v, are_versions, inl bad)))) = by_hash h is_head p are_parts v are_versions e bad
  breaks e (inr (h, is_head, inr (p, are_parts, inr (v, are_versions, inr (t, is_table, none))))) = absurd none

  broken : (e : NotAccepted) → Broken bytes program e → Fault e
  broken e (by_head _ bad) = inl bad
  broken e (by_dynamic h is_head _ bad) = inr (h, is_head, inl bad)
  broken e (by_versions h is_head p are_parts _ bad) = inr (h, is_head, inr (p, are_parts, inl bad))
  broken e (by_hash h is_head p are_parts v are_versions _ bad) = inr (h, is_head, inr (p, are_parts, inr (v, are_versions, inl bad)))

  pub verdict : Judges (object_verdict bytes program) (λ x. (s : Spells bytes program x.0) × (s.table ≡ x.1)) (Broken bytes program)
  unfolding object_verdict
  verdict =
      judged_like
      (judged_next (r.head bytes) (λ h. judged_next (r.parts bytes h program) (λ p. judged_next (r.versions bytes h p) (λ v. judged_next (r.table bytes h p) (λ t. made (object_of bytes h p v, t))))))
      (λ x (h, is_head, (p, are_parts, (v, are_versions, (t, is_table, is)))). rw (← is) (
      let say = says bytes h p v in let s : Spells bytes program (object_of bytes h p v) = search in (s, refl)))
      (λ x (s, is). (s.head, s.is_head, (s.parts, s.are_parts, (s.versions, s.are_versions, (s.table, s.is_table, same_pair (said bytes s.head s.parts s.versions x.0 s.say) is))))) breaks broken

  pub read_of : (o : Object) (s : Spells bytes program o) → object_verdict bytes program ≡ Ok (o, s.table)
  read_of o s = (verdict.accepted (o, s.table)).1 (s, refl)

  pub one_spelled : (first second : Object) → Spells bytes program first → Spells bytes program second → first ≡ second
  one_spelled first second s t = ap (λ (x : Object × HashTable). x.0) (ok_is NotAccepted _ _ (sym (read_of first s) ∙ read_of second t))

  -- ---- an accepted object

  own_table : {o : Object} (s : Spells bytes program o) → IsTableFor s.table o.symbols o.first_exported
  own_table s =
      let symbols : List Symbol = s.parts.symbols in
      let versym : List ℕ = s.versions.versym in
      let unversioned = but_versions symbols versym (parts_unversioned bytes s.head.headers s.parts s.are_parts.say) in
      rw (s.say.symbols, s.say.first_exported) (r.same_table s.table symbols _ _ (length-versions symbols versym) unversioned s.is_table.1)

  pub table_of_read : (o : Object) (t : HashTable) → object_verdict bytes program ≡ Ok (o, t) → IsTableFor t o.symbols o.first_exported
  table_of_read o t e = let (s, is) = (verdict.accepted (o, t)).0 e in rw (← is) (own_table s)

  own_names : {o : Object} → Spells bytes program o → names_own_symbols o ≡ true
  own_names s =
      rw (s.say.symbols, s.say.relocs, s.say.plt_relocs, length-versions s.parts.symbols s.versions.versym) (parts_name bytes s.head.headers s.parts (r.kept_parts bytes s.head program s.parts s.are_parts))

  pub names_of_read : (o : Object) (t : HashTable) → object_verdict bytes program ≡ Ok (o, t) → names_own_symbols o ≡ true
  names_of_read o t e = own_names ((verdict.accepted (o, t)).0 e).0

  -- ---- one of the two

  pub spelled_or_broken : ((o : Object) × Spells bytes program o) ⊎ ((fault : NotAccepted) × Broken bytes program fault)
  spelled_or_broken = by (object_verdict bytes program) refl
    where
      by : (said : Result (Object × HashTable) NotAccepted) → object_verdict bytes program ≡ said → ((o : Object) × Spells bytes program o) ⊎ ((fault : NotAccepted) × Broken bytes program fault)
      by (Ok x) e = inl (x.0, ((verdict.accepted x).0 e).0)
      by (Err fault) e = inr (fault, (verdict.refused fault).0 e)

  pub never_both : (o : Object) (fault : NotAccepted) → Spells bytes program o → Broken bytes program fault → ⊥
  never_both o fault spells broken = let e = sym (read_of o spells) ∙ (verdict.refused fault).1 broken in cc

  pub one_broken : (first second : NotAccepted) → Broken bytes program first → Broken bytes program second → first ≡ second
  one_broken first second b c = let e = sym ((verdict.refused first).1 b) ∙ (verdict.refused second).1 c in cc
