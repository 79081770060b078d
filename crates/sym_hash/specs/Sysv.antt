-- System V hash tables, buckets and chains (gABI, "Hash Table"), as tests for the code of this crate alone.
use Rattle.std.specs.Prelude.{ℕ, ◌-◌, ◌%◌, ◌==◌, ◌&&◌, Bool, not, List, length, unwrap_or}
use Rattle.std.specs.List.{list_all, slice_get}
use Rattle.ld_base.specs.declared.parts.SysvPart.{SysvPart}
use Rattle.sym_hash.specs.Follow.{follow, followed}

-- every walk comes to 0 within as many steps as there are chain words
unfoldable pub sysv_walks_end : SysvPart → Bool
sysv_walks_end s = list_all (λ bucket. follow s.chain (length s.chain) bucket == 0) s.buckets

-- the bucket of a hash, 0 where there is none
abbrev pub sysv_bucket : SysvPart → ℕ → ℕ
sysv_bucket s hash = unwrap_or (slice_get s.buckets (hash % length s.buckets)) 0

-- a walk of so many steps, which ends, comes to the symbol: after as many links as the symbol's own way to the end is shorter
abbrev pub comes_to : List ℕ → ℕ → ℕ → ℕ → Bool
comes_to chain n from i = not (i == 0) && follow chain (followed chain n from - followed chain n i) from == i

-- the symbol is found by a hash, where all walks end
unfoldable pub sysv_leads : SysvPart → ℕ → ℕ → Bool
sysv_leads s hash i = comes_to s.chain (length s.chain) (sysv_bucket s hash) i
