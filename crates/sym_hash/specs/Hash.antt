-- The hashes of names (gABI, "Hash Table"; the GNU hash table has no section of the gABI).
use Rattle.std.specs.Prelude.{ℕ, ◌+◌, ◌-◌, ◌*◌, ◌/◌, ◌%◌, ◌^◌, List, fold, bit_and, bit_xor}

-- one byte more: h is 16 h + c; then its four highest bits g go into the bits 4 to 7, and out of h
abbrev pub sysv_fold : ℕ → ℕ
sysv_fold h = bit_and (bit_xor h (bit_and h 0xf000_0000 / 2 ^ 24)) (0xffff_ffff - bit_and h 0xf000_0000)

abbrev pub sysv_step : ℕ → ℕ → ℕ
sysv_step h c = sysv_fold ((16 * h + c) % 2 ^ 32)

-- the hash of the System V hash table
unfoldable pub sysv_hash : List ℕ → ℕ
sysv_hash name = fold sysv_step 0 name

-- one byte more: h is 33 h + c
abbrev pub gnu_step : ℕ → ℕ → ℕ
gnu_step h c = (33 * h + c) % 2 ^ 32

-- the hash of the GNU hash table
unfoldable pub gnu_hash : List ℕ → ℕ
gnu_hash name = fold gnu_step 5381 name
