-- How far harts are with what they write.
use Rattle.std.specs.Prelude.{◌≡◌, ◌≢◌, ℕ, ◌≤◌, List, length, Some}
use Rattle.std.specs.List.{slice_get}
use Rattle.rv_hart.specs.Registers.{Registers}
use Rattle.hart_moves.specs.Harts.{HartState, Phase}
use Rattle.hart_moves.specs.Registers.{a2}
use Rattle.world_turns.specs.World.{World}

-- bytes that are copied of a write (write(2): its third argument is how many there are). It isn't empty, and 256 bytes are taken at most
pub record IsWriting (r : Registers) (bytes : List ℕ) : Type 0 where
  pub some : a2 r ≢ 0
  pub few : length bytes ≤ 256

-- of a hart that copies them
abbrev pub HartWrites : HartState → Type 0
HartWrites b = (bytes : List ℕ) → b.phase ≡ Phase.writing bytes → IsWriting b.registers bytes

-- of each hart
abbrev pub WorldWrites : World → Type 0
WorldWrites world = (h : ℕ) (b : HartState) → slice_get world.harts h ≡ Some b → HartWrites b
