-- Bytes over bytes.
use Rattle.std.specs.Prelude.{ℕ, ◌+◌, ◌-◌, ◌&&◌, nat_le, nat_lt, List, length, slice_index, if◌then◌else◌}

-- bytes from a place on, over others
unfoldable pub pasted : ℕ → List ℕ → (ℕ → ℕ) → ℕ → ℕ
pasted place bytes old v = if nat_le place v && nat_lt v (place + length bytes) then slice_index bytes (v - place) else old v
