-- Sets of indexes of versions, a bit for each.
use Rattle.std.specs.Prelude.{ℕ, ◌/◌, ◌%◌, ◌==◌, Bool, List}
use Rattle.std.specs.List.{slice_index_or}
use Rattle.std.specs.Int.{bit_at}

-- the index is in the set: its bit is set in the word that tells of it and of 63 more
unfoldable pub is_marked : List ℕ → ℕ → Bool
is_marked words index = bit_at (slice_index_or words (index / 64) 0) (index % 64) == 1
