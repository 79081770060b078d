-- A hart whose next turn takes from its fuel runs, and has a turn left.
use Rattle.std.proofs.Common.{◌≡◌, ◌<◌, Bool, true, false, cond, Option, Some, None, refl, ap, ◌∙◌}
use Rattle.std.specs.Prelude.{nat_lt}
use Rattle.std.proofs.lemmas.Bool.{false≢true, ltb-true}
use Rattle.history_event.specs.declared.hart_end.HartEnd.{HartEnd}
use Rattle.history_state.specs.State.{State}
use Rattle.hart_moves.specs.Due.{Due, by_phase, by_resolving, due}
use Rattle.hart_moves.specs.Harts.{HartState, Resolving}
use Rattle.hart_moves.specs.Moves.{settled_resolving}

-- neither a turn of a hart that has ended, nor a step on a slot, nor the end of the fuel
abbrev pub takes_fuel : Due → Bool
takes_fuel d = elim d [ Due.nothing ↦ false | Due.exchange o ↦ false | Due.finish o found ↦ false | Due.fuel_out ↦ false | _ ↦ true ]

-- the hart is at no slot, too, but that a grant of its may be left to settle
pub record HasTurn (b : HartState) : Type 0 where
  pub runs : b.«end» ≡ None
  pub rests : settled_resolving b.resolving ≡ Resolving.idle
  pub fuel : b.turns < b.fuel

in_fuel : (b : HartState) (d : Due) (t : Bool) → nat_lt b.turns b.fuel ≡ t → takes_fuel (cond t d Due.fuel_out) ≡ true → b.turns < b.fuel
in_fuel b d true less is = ltb-true b.turns b.fuel less
in_fuel b d false less is = absurd (false≢true is)

module _ (s : State) (b : HartState) where
  has_fuel : takes_fuel (cond (nat_lt b.turns b.fuel) (by_phase s b b.phase) Due.fuel_out) ≡ true → b.turns < b.fuel
  has_fuel is = in_fuel b (by_phase s b b.phase) (nat_lt b.turns b.fuel) refl is

  by_place : (r : Resolving) → b.resolving ≡ r → b.«end» ≡ None → takes_fuel (by_resolving s b r) ≡ true → HasTurn b
  by_place Resolving.idle at runs is = record { runs = runs; rests = ap settled_resolving at; fuel = has_fuel is }
  by_place (Resolving.to_exchange o) at runs is = absurd (false≢true is)
  by_place (Resolving.to_finish o found) at runs is = absurd (false≢true is)
  by_place (Resolving.to_settle o found) at runs is = record { runs = runs; rests = ap settled_resolving at; fuel = has_fuel is }

  by_end : (over : Option HartEnd) → b.«end» ≡ over → takes_fuel (elim over [ Some reason ↦ Due.nothing | None ↦ by_resolving s b b.resolving ]) ≡ true
      → HasTurn b
  by_end (Some reason) so is = absurd (false≢true is)
  by_end None so is = by_place b.resolving refl so is

  pub has_turn : (d : Due) → due s b ≡ d → takes_fuel d ≡ true → HasTurn b
  unfolding due
  has_turn d next is = by_end b.«end» refl (ap takes_fuel next ∙ is)
