-- Reading a table whose entries may fail, an entry at a time.
use Rattle.std.proofs.Common.{◌≡◌, ℕ, zero, suc, ◌+◌, ◌<◌, List, [], ◌∷◌, ◌++◌, Result, Ok, Err, refl, add-one, arith, inl, inr}
use Rattle.std.proofs.lemmas.Bool.{cases_lt}
use Rattle.ld_base.specs.declared.fault.NotAccepted.{NotAccepted}
use Rattle.ld_base.specs.declared.fault.ReadFault.{ReadFault}
use Rattle.ld_base.specs.declared.fault.ReadFault.TheVariants as faults
use Rattle.elf_head.specs.AcceptancePart.Gives.{Faults}
use Rattle.elf_head.specs.AcceptancePart.Entries.{entries_of}

-- one entry more
pub entries_more : {X E : Type 0} (entry : ℕ → Result X E) (i : ℕ) (xs : List X) (x : X) → entries_of entry i ≡ Ok xs → entry i ≡ Ok x → entries_of entry (i + 1) ≡ Ok (xs ++ x ∷ [])
entries_more entry i xs x read one = rw (add-one, read, one) refl

-- an entry that fails
pub entries_fail : {X E : Type 0} (entry : ℕ → Result X E) (i : ℕ) (xs : List X) (e : E) (n : ℕ) → entries_of entry i ≡ Ok xs → entry i ≡ Err e → i < n → entries_of entry n ≡ Err e
entries_fail entry i xs e zero read one lt = absurd (omega arith)
entries_fail entry i xs e (suc n) read one lt =
    elim (cases_lt i n) [
      | inl below ↦ rw (entries_fail entry i xs e n read one below) refl
      | inr above ↦ let same : n ≡ i = omega arith in rw (same, read, one) refl
    ]

-- the same, as a reader tells it
pub entries_fault : {X : Type 0} (entry : ℕ → Result X NotAccepted) (i : ℕ) (xs : List X) (fault : ReadFault) (n : ℕ) → entries_of entry i ≡ Ok xs → Faults fault (entry i) → i < n → Faults fault (entries_of entry n)
entries_fault entry i xs (faults.NotAccepted broken) n read one lt = entries_fail entry i xs broken n read one lt
entries_fault entry i xs faults.Memory n read one lt = tt
