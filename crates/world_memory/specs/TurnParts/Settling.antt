-- What is settled may be settled, hart by hart.
use Rattle.std.specs.Prelude.{◌≡◌, ℕ, ◌++◌, take, Some}
use Rattle.std.specs.List.{slice_get}
use Rattle.history_state.specs.Accepted.{AcceptsOnly}
use Rattle.history_state.specs.Setting.{Setting}
use Rattle.hart_moves.specs.Harts.{HartState}
use Rattle.hart_moves.specs.Moves.{AreAllowed}
use Rattle.world_turns.specs.Sound.{Sound}
use Rattle.world_turns.specs.World.{World, settled_by, settling}

-- in a sound world the harts may be settled, in their order
abbrev pub SettlingMayCome : Type 0
SettlingMayCome = (w : Setting) (world : World) → AcceptsOnly w.machine → Sound w world
    → AreAllowed w world.journal (settling world.harts)

-- so each may be where those before it are
abbrev pub NextMaySettle : Type 0
NextMaySettle = (w : Setting) (world : World) (h : ℕ) (b : HartState) → AcceptsOnly w.machine → Sound w world
    → slice_get world.harts h ≡ Some b → AreAllowed w (world.journal ++ settling (take h world.harts)) (settled_by b.resolving)
