-- What the next turn of a hart is, as its loop tells turns apart.
use Rattle.std.specs.Prelude.{◌≡◌, ◌⊎◌, ℕ, ◌<◌, true, false}
use Rattle.history_calls.specs.Call.{locates}
use Rattle.hart_moves.specs.Due.{Due, back, is_finalising}
use Rattle.hart_moves.specs.Harts.{HartState, Offered, Resolving}
use Rattle.hart_trails.specs.Trails.{is_located}
use Rattle.hart_turns.specs.Turns.{is_own}
use Rattle.hart_linker.specs.Serving.{is_asking}
use Rattle.hart_threads.specs.declared.next.Next.{Next}
use Rattle.hart_threads.specs.declared.next.Next.TheVariants as next

-- a slot was granted, and its row isn't given back
abbrev pub HoldsSlot : HartState → Type 0
HoldsSlot b = ((o : Offered) × (b.resolving ≡ Resolving.to_exchange o)) ⊎ ((o : Offered) × (found : ℕ) × (b.resolving ≡ Resolving.to_finish o found))

abbrev pub IsNext : HartState → Due → Next → Type 0
IsNext b d next.Bind = HoldsSlot b
IsNext b d next.Quiet = is_own d ≡ true
IsNext b d (next.Locate number offset) = (d ≡ Due.serve (locates number offset) (back b)) × (b.turns < b.fuel)
IsNext b d next.Serve = (is_asking d ≡ true) × (is_located d ≡ false)
IsNext b d next.Finalise = is_finalising d ≡ true
IsNext b d next.FuelOut = d ≡ Due.fuel_out
IsNext b d next.Nothing = d ≡ Due.nothing
