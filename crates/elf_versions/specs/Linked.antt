-- Records that are linked: each tells how far after it the next one stands (Drepper, "ELF Symbol Versioning").
use Rattle.std.specs.Prelude.{ℕ, zero, suc, ◌+◌, ◌==◌, ◌||◌, Bool, nat_lt, List, Result}
use Rattle.ld_base.specs.declared.fault.NotAccepted.{NotAccepted}
use Rattle.elf_head.specs.AcceptancePart.Entries.{entries_of}

-- the place of a record: the first stands at the start, each other so far after the one before it as that one tells
abbrev pub place : (ℕ → ℕ) → ℕ → ℕ → ℕ
place distance start zero = start
place distance start (suc i) = place distance start i + distance (place distance start i)

-- a record after which another one stands has to tell how far
abbrev pub is_linked : Bool → ℕ → Bool
is_linked is_last distance = is_last || nat_lt 0 distance

-- so many records from a start on, each read at its place and told whether it is the last one; or the fault of the first that has one
abbrev pub linked : {X : Type 0} → (Bool → ℕ → Result X NotAccepted) → (ℕ → ℕ) → ℕ → ℕ → Result (List X) NotAccepted
linked entry distance start count = entries_of (λ i. entry (i + 1 == count) (place distance start i)) count
