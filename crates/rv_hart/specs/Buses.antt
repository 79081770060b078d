-- What every bus keeps to: sizes, alignment and the roles of doublewords.
use Rattle.std.specs.Prelude.{◌≡◌, ◌≢◌, ◌⊎◌, ℕ, ◌*◌, ◌%◌, ◌^◌, ◌<◌, Bool, true, false, Result, Ok, Err, IfOk}
use Rattle.ld_base.specs.declared.linking.Role.{Role}
use Rattle.ld_base.specs.declared.linking.Role.TheVariants.{Ro, Rx, Rw, Slot}
use Rattle.rv_hart.specs.declared.bus.BusFault.{BusFault}
use Rattle.rv_hart.specs.declared.bus.BusFault.TheVariants.{Role as RoleFault, Misaligned, Again}

-- the size of an access, in bytes
abbrev pub IsSize : ℕ → Type 0
IsSize size = (size ≡ 1) ⊎ ((size ≡ 2) ⊎ ((size ≡ 4) ⊎ (size ≡ 8)))

-- the roles of the doublewords that may be fetched from, read, and written
abbrev pub may_fetch : Role → Bool
may_fetch Rx = true
may_fetch _ = false

abbrev pub may_read : Role → Bool
may_read Ro = true
may_read Rx = true
may_read Rw = true
may_read Slot = true
may_read _ = false

abbrev pub may_write : Role → Bool
may_write Rw = true
may_write _ = false

-- an answer is Misaligned exactly where the address is no multiple of the size, and a role that it
-- refuses is one that it may not do this to
abbrev pub Permits : {T : Type 0} → (Role → Bool) → ℕ → ℕ → Result T BusFault → Type 0
Permits may address size (Ok value) = address % size ≡ 0
Permits may address size (Err Misaligned) = address % size ≢ 0
Permits may address size (Err (RoleFault role)) = (address % size ≡ 0) × (may role ≡ false)
Permits may address size (Err (Again shown)) = address % size ≡ 0

-- a value found is a number of so many bytes
abbrev pub HasValue : ℕ → Result ℕ BusFault → Type 0
HasValue size result = IfOk result (λ value. value < 2 ^ (8 * size))
