-- Reading linked records, one at a time.
use Rattle.std.proofs.Common.{◌≡◌, ◌==◌, ℕ, ◌+◌, ◌<◌, Bool, List, ◌++◌, refl}
use Rattle.std.specs.Prelude.{Result, Ok, Err, IsErrAnd}
use Rattle.std.specs.Result.{result_map_both}
use Rattle.ld_base.specs.Field.{field}
use Rattle.ld_base.specs.declared.fault.NotAccepted.{NotAccepted}
use Rattle.ld_base.specs.declared.fault.ReadFault.{ReadFault}
use Rattle.elf_head.specs.AcceptancePart.Entries.{entries_of}
use Rattle.elf_head.specs.AcceptancePart.Gives.{Faults, Gives}
use Rattle.elf_head.specs.AcceptancePart.Lemmas.Read.{entries_fault}
use Rattle.elf_versions.specs.Linked.{linked, place}
use Rattle.elf_head.specs.Readable.{file_bytes}
use Rattle.elf_head.specs.AcceptancePart.Lemmas.Reading.{some_from-ok_or}
use Rattle.elf_versions.specs.Record.{bad_table, distance, record_at}
use Rattle.elf_versions.specs.Source.{Source}

-- a record that was read tells how far after it the next one stands
pub distance_read : (src : Source) (size offset at : ℕ) (part : List ℕ) → record_at src size at ≡ Ok part → distance src size offset at ≡ field 4 part offset
unfolding record_at distance
distance_read src size offset at part read = rw (some_from-ok_or (file_bytes src.bytes src.headers at size) (bad_table src.tag) part read) refl

-- a list before what is read after it
abbrev pub after : {X E : Type 0} → List X → Result (List X) E → Result (List X) E
after front (Ok rest) = Ok (front ++ rest)
after front (Err e) = Err e

-- so many linked records are read, and the next one stands here
pub record ReadUpTo {X : Type 0} (entry : Bool → ℕ → Result X NotAccepted) (distance : ℕ → ℕ) (start count i at : ℕ) (xs : List X) : Type 0 where
  pub read : entries_of (λ i. entry (i + 1 == count) (place distance start i)) i ≡ Ok xs
  pub stands : at ≡ place distance start i

-- a record that fails
pub linked_err : {X Y : Type 0} {entry : Bool → ℕ → Result X NotAccepted} {distance : ℕ → ℕ} {start count i at : ℕ} {xs : List X}
    (fault : ReadFault) (f : Y → List X) (result : Result Y ReadFault) → IsErrAnd result (λ e. e ≡ fault) → i < count
    → ReadUpTo entry distance start count i at xs → Faults fault (entry (i + 1 == count) at)
    → Gives (result_map_both f (λ e. e) result) (linked entry distance start count)
linked_err fault f (Ok y) err below so_far fails = absurd err
linked_err {xs} fault f (Err e) err below so_far fails = rw err (entries_fault _ _ xs fault _ so_far.read (rw so_far.stands at fails) below)
