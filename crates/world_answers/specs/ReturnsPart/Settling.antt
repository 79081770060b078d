-- The harts of a run as whoever keeps them has them.
use Rattle.std.specs.Prelude.{List, map}
use Rattle.hart_moves.specs.Harts.{HartState}
use Rattle.hart_moves.specs.Moves.{freed}
use Rattle.hart_seat.specs.Table.{HartTable}

abbrev pub harts_in : List HartTable → List HartState
harts_in harts = map (λ h. h.hart) harts

-- its grant is settled, and the room for functions stays
abbrev pub freed_in : HartTable → HartTable
freed_in h = record { hart = freed h.hart; spare = h.spare }
