-- A hart's fuel bounds its turns.
use Rattle.std.proofs.Common.{◌≡◌, ⊎_elim, inl, inr, ℕ, zero, suc, ◌+◌, ◌<◌, ◌≤◌, Bool, true, false, cond, nat_lt, List, [], ◌∷◌, length, take, length-append, map, Option, Some, None, refl, sym, ap, subst, ◌∙◌, arith}
use Rattle.std.specs.Prelude.{◌⊎◌}
use Rattle.std.proofs.lemmas.Bool.{ltb-true}
use Rattle.std.proofs.lemmas.Option.{none-some}
use Rattle.std.specs.List.{slice_get}
use Rattle.history_event.specs.declared.event.Event.{Event}
use Rattle.history_event.specs.declared.handed.Function.{Function}
use Rattle.history_event.specs.declared.handed.HartEntry.{HartEntry}
use Rattle.history_event.specs.declared.hart_end.HartEnd.{HartEnd}
use Rattle.history_event.specs.declared.hart_end.HartEnd.TheVariants.{Exit, FuelOut}
use Rattle.rv_hart.specs.Registers.{Registers}
use Rattle.word_rule.specs.declared.view.TrailItem.{TrailItem}
use Rattle.history_state.specs.After.{after}
use Rattle.history_state.specs.Setting.{Setting}
use Rattle.hart_moves.specs.Due.{Due, by_phase, by_resolving, due}
use Rattle.hart_moves.specs.Follows.{Turned}
use Rattle.hart_moves.specs.Harts.{HartState, Purpose, Resolving}
use Rattle.hart_moves.specs.Laws.{EndedStays, RunsOut, TurnsCount}
use Rattle.hart_moves.specs.Moves.{Did, Moves, MovesAs, ended, events_of, runs, settled_resolving, with_first}
use Rattle.hart_moves.specs.Starting.{finalising_hart, starting_hart, starting_harts, starting_registers}
use Rattle.hart_trails.specs.Fuel.{FuelBounds, turns_behind}
use Rattle.hart_trails.specs.Trails.{FollowsBy, LeavesBehind}

-- ---- a turn

-- how many turns beyond its fuel a hart may have taken: the exchange of a slot and the end of its offer
beyond : Resolving → ℕ
beyond Resolving.idle = 2
beyond (Resolving.to_exchange o) = 0
beyond (Resolving.to_finish o found) = 1
beyond (Resolving.to_settle o found) = 2

beyond_few : (r : Resolving) → beyond r ≤ 2
unfolding beyond
beyond_few Resolving.idle = omega arith
beyond_few (Resolving.to_exchange o) = omega arith
beyond_few (Resolving.to_finish o found) = omega arith
beyond_few (Resolving.to_settle o found) = omega arith

record IsWithin (b : HartState) : Type 0 where
  few : b.turns ≤ b.fuel + beyond b.resolving

-- a turn was taken, or the hart has ended for its fuel
record Spends (b c : HartState) : Type 0 where
  fuel : c.fuel ≡ b.fuel
  within : IsWithin c
  turns : (c.turns ≡ b.turns + 1) ⊎ RunsOut b c

module _ (count : TurnsCount) (w : Setting) (past : List Event) (h : ℕ) (b c : HartState) (did : Did) (moves : Moves w past h b did c) (within : IsWithin b) where
  -- while fuel is left
  in_fuel : b.turns < b.fuel → Spends b c
  in_fuel left =
      let counts = count w past h b c did moves in
      let same : c.fuel ≡ b.fuel = counts.0 in
      record {
        fuel = same;
        within = record {
          few = ⊎_elim
              (λ (one : c.turns ≡ b.turns + 1). omega (arith, left, one, same))
              (λ (out : RunsOut b c). let stays : c.turns ≡ b.turns = out.turns in omega (arith, left, stays, same))
              counts.1;
        };
        turns = counts.1;
      }

  -- none is left: so the hart holds no slot
  runs_out : (r : Resolving) → b.resolving ≡ r → beyond r ≡ 2 → beyond (settled_resolving r) ≡ 2 → c ≡ ended FuelOut b → Spends b c
  runs_out r at two still is =
      let same : c.fuel ≡ b.fuel = ap (λ (e : HartState). e.fuel) is in
      let turns : c.turns ≡ b.turns = ap (λ (e : HartState). e.turns) is in
      let before : beyond b.resolving ≡ 2 = ap beyond at ∙ two in
      let behind : beyond c.resolving ≡ 2 = ap (λ (e : HartState). beyond e.resolving) is ∙ ap (λ (x : Resolving). beyond (settled_resolving x)) at ∙ still in
      let few : b.turns ≤ b.fuel + beyond b.resolving = within.few in
      record {
        fuel = same;
        within = record { few = omega (arith, same, turns, before, behind, few) };
        turns = inr (record { turns = turns; ends = ap (λ (e : HartState). e.«end») is });
      }

  -- a turn of the slot that it holds
  on_slot : (r : Resolving) → b.turns + 1 ≤ b.fuel + beyond r → c.fuel ≡ b.fuel → c.turns ≡ b.turns + 1 → c.resolving ≡ r → Spends b c
  on_slot r low same more at =
      let place : beyond c.resolving ≡ beyond r = ap beyond at in
      record { fuel = same; within = record { few = omega (arith, low, same, more, place) }; turns = inl more }

  at_fuel : (r : Resolving) → b.resolving ≡ r → beyond r ≡ 2 → beyond (settled_resolving r) ≡ 2 → (d : Due) (t : Bool) → nat_lt b.turns b.fuel ≡ t
      → MovesAs w past h b (cond t d Due.fuel_out) did c → Spends b c
  at_fuel r at two still d true less moved = in_fuel (ltb-true b.turns b.fuel less)
  at_fuel r at two still d false less moved = runs_out r at two still moved.leaves

  at_place : (r : Resolving) → b.resolving ≡ r → MovesAs w past h b (by_resolving (after past) b r) did c → Spends b c
  unfolding beyond
  at_place Resolving.idle at moved = at_fuel Resolving.idle at refl refl (by_phase (after past) b b.phase) (nat_lt b.turns b.fuel) refl moved
  at_place (Resolving.to_exchange o) at moved =
      let few : b.turns ≤ b.fuel + beyond b.resolving = within.few in
      let none : beyond b.resolving ≡ 0 = ap beyond at in
      on_slot (Resolving.to_finish o moved.found) (omega (arith, few, none)) (ap (λ (e : HartState). e.fuel) moved.leaves) (ap (λ (e : HartState). e.turns) moved.leaves)
      (ap (λ (e : HartState). e.resolving) moved.leaves)
  at_place (Resolving.to_finish o found) at moved =
      let few : b.turns ≤ b.fuel + beyond b.resolving = within.few in
      let one : beyond b.resolving ≡ 1 = ap beyond at in
      on_slot (Resolving.to_settle o found) (omega (arith, few, one)) (ap (λ (e : HartState). e.fuel) moved.leaves) (ap (λ (e : HartState). e.turns) moved.leaves)
      (ap (λ (e : HartState). e.resolving) moved.leaves)
  at_place (Resolving.to_settle o found) at moved = at_fuel (Resolving.to_settle o found) at refl refl (by_phase (after past) b b.phase) (nat_lt b.turns b.fuel) refl moved

  at_end : (e : Option HartEnd) → MovesAs w past h b (elim e [ Some reason ↦ Due.nothing | None ↦ by_resolving (after past) b b.resolving ]) did c → Spends b c
  at_end (Some reason) moved = absurd moved
  at_end None moved = at_place b.resolving refl moved

  spends : Spends b c
  unfolding due
  spends = at_end b.«end» moves

-- ---- turns

-- so many turns were taken, all of which count but the one in which the hart ended for its fuel
record Follow (b c : HartState) (turns : ℕ) : Type 0 where
  fuel : c.fuel ≡ b.fuel
  within : IsWithin c
  all : (b.turns + turns ≡ c.turns) ⊎ ((b.turns + turns ≡ c.turns + 1) × (c.«end» ≡ Some FuelOut))

module _ (count : TurnsCount) (stays : EndedStays) (w : Setting) (journal : List Event) (h : ℕ) where
  -- a hart that has ended takes none
  ended_last : (from to : ℕ) (b c : HartState) (turns : List Turned) (trail : List TrailItem) (reason : HartEnd) → FollowsBy w journal h from b turns trail to c
      → b.«end» ≡ Some reason → (length turns ≡ 0) × (c ≡ b)
  ended_last from to b c turns trail reason (FollowsBy.no_more _ _) over = (refl, refl)
  ended_last from to b c turns trail reason (FollowsBy.one_more _ _ _ d _ turn rest items more late none x leaves follows) over =
      absurd (stays w (take turn.at journal) h b d turn.did reason over x.moves)

  follow : (from to : ℕ) (b c : HartState) (turns : List Turned) (trail : List TrailItem) → FollowsBy w journal h from b turns trail to c → IsWithin b → Follow b c (length turns)
  follow from to b c turns trail (FollowsBy.no_more _ _) within = record { fuel = refl; within = within; all = inl (omega arith) }
  follow from to b c turns trail (FollowsBy.one_more _ _ _ d _ turn rest items more late none x leaves follows) within =
      let one : Spends b d = spends count w (take turn.at journal) h b d turn.did x.moves within in
      ⊎_elim
      (λ (counts : d.turns ≡ b.turns + 1).
      let on : Follow d c (length rest) = follow (turn.at + length (events_of turn.did)) to d c rest more follows one.within in
      record {
        fuel = on.fuel ∙ one.fuel;
        within = on.within;
        all = ⊎_elim
            (λ (y : d.turns + length rest ≡ c.turns). inl (omega (arith, y, counts)))
            (λ (y : (d.turns + length rest ≡ c.turns + 1) × (c.«end» ≡ Some FuelOut)). inr (let z : d.turns + length rest ≡ c.turns + 1 = y.0 in (omega (arith, z, counts), y.1)))
            on.all;
      })
      (λ (out : RunsOut b d).
      let over = ended_last (turn.at + length (events_of turn.did)) to d c rest more FuelOut follows out.ends in
      let none_more : length rest ≡ 0 = over.0 in
      let turns_same : c.turns ≡ b.turns = ap (λ (e : HartState). e.turns) over.1 ∙ out.turns in
      record {
        fuel = ap (λ (e : HartState). e.fuel) over.1 ∙ one.fuel;
        within = subst IsWithin (sym over.1) one.within;
        all = inr (omega (arith, none_more, turns_same), ap (λ (e : HartState). e.«end») over.1 ∙ out.ends);
      })
      one.turns

bounded : (b c : HartState) (turns : ℕ) → Follow b c turns → b.turns + turns ≤ b.fuel + 3
bounded b c turns x =
    let same : c.fuel ≡ b.fuel = x.fuel in
    let few : c.turns ≤ c.fuel + beyond c.resolving = x.within.few in
    let two : beyond c.resolving ≤ 2 = beyond_few c.resolving in
    ⊎_elim
    (λ (y : b.turns + turns ≡ c.turns). omega (arith, same, few, two, y))
    (λ (y : (b.turns + turns ≡ c.turns + 1) × (c.«end» ≡ Some FuelOut)). let z : b.turns + turns ≡ c.turns + 1 = y.0 in omega (arith, same, few, two, z))
    x.all

-- ---- the final destructors

record SameCounts (b c : HartState) : Type 0 where
  turns : c.turns ≡ b.turns
  fuel : c.fuel ≡ b.fuel
  resolving : c.resolving ≡ b.resolving

final_counts : (registers : Registers) (code object : ℕ) (addresses : List ℕ) (b : HartState)
    → SameCounts b (finalising_hart registers code (record { object = object; addresses = addresses }) b)
final_counts registers code object [] b = record { turns = refl; fuel = refl; resolving = refl }
final_counts registers code object (a ∷ more) b = record { turns = refl; fuel = refl; resolving = refl }

same_within : (b c : HartState) → SameCounts b c → IsWithin b → IsWithin c
same_within b c same x =
    let turns : c.turns ≡ b.turns = same.turns in
    let fuel : c.fuel ≡ b.fuel = same.fuel in
    let place : beyond c.resolving ≡ beyond b.resolving = ap beyond same.resolving in
    let few : b.turns ≤ b.fuel + beyond b.resolving = x.few in
    record { few = omega (arith, turns, fuel, place, few) }

module _ (count : TurnsCount) (stays : EndedStays) (w : Setting) (journal : List Event) (h : ℕ) (registers : Registers) (start ended : HartState) (zeroth : start.turns ≡ 0) (n : ℕ)
    (x : Follow start ended n) where
  alone : n + 0 ≤ start.fuel + 3
  alone = let y = bounded start ended n x in omega (arith, y, zeroth)

  with_finals : (from : ℕ) (first reason : HartEnd) (trail : List TrailItem) (y : LeavesBehind w journal h registers from ended first reason trail)
      → n + length (turns_behind y) ≤ start.fuel + 3
  with_finals from first reason trail (LeavesBehind.is_another other none) = alone
  with_finals from first reason trail (LeavesBehind.none_runs is none runs) = alone
  with_finals from first reason trail (LeavesBehind.none_is_left is none left) = alone
  with_finals from first reason trail (LeavesBehind.no_memory is at lacks none) = alone
  with_finals from first reason trail (LeavesBehind.all_run is at to begun last turns _ _ begins follows ends none) =
      let same : SameCounts ended begun = subst (SameCounts ended) (sym begins.is) (final_counts registers begins.code begins.object begins.addresses ended) in
      let y = bounded begun last (length turns) (follow count stays w journal h at to begun last turns trail follows (same_within ended begun same x.within)) in
      let fuel : begun.fuel ≡ ended.fuel = same.fuel in
      let whole : ended.fuel ≡ start.fuel = x.fuel in
      let spent : begun.turns ≡ ended.turns = same.turns in
      ⊎_elim
      (λ (z : start.turns + n ≡ ended.turns). omega (arith, y, z, fuel, whole, spent, zeroth))
      (λ (z : (start.turns + n ≡ ended.turns + 1) × (ended.«end» ≡ Some FuelOut)). absurd (let no : Some FuelOut ≡ Some (Exit begins.code) = sym z.1 ∙ begins.exited in cc))
      x.all

-- ---- where it starts

record IsUnspent (fuel : ℕ) (b : HartState) : Type 0 where
  fuel_is : b.fuel ≡ fuel
  turns : b.turns ≡ 0
  idle : b.resolving ≡ Resolving.idle

first_unspent : (fuel : ℕ) (entry : HartEntry) (functions : List Function) → IsUnspent fuel (runs (Purpose.of_startup (starting_registers entry)) functions [] (starting_hart fuel entry))
first_unspent fuel entry [] = record { fuel_is = refl; turns = refl; idle = refl }
first_unspent fuel entry (f ∷ rest) = by f.addresses refl
  where
    by : (addresses : List ℕ) → f.addresses ≡ addresses → IsUnspent fuel (runs (Purpose.of_startup (starting_registers entry)) (f ∷ rest) [] (starting_hart fuel entry))
    by [] are = subst (λ (all : List ℕ). IsUnspent fuel (with_first (Purpose.of_startup (starting_registers entry)) f.object all rest [] (starting_hart fuel entry))) (sym are)
        (record { fuel_is = refl; turns = refl; idle = refl })
    by (a ∷ more) are = subst (λ (all : List ℕ). IsUnspent fuel (with_first (Purpose.of_startup (starting_registers entry)) f.object all rest [] (starting_hart fuel entry))) (sym are)
        (record { fuel_is = refl; turns = refl; idle = refl })

others_unspent : (fuel h : ℕ) (entries : List HartEntry) (b : HartState) → slice_get (map (starting_hart fuel) entries) h ≡ Some b → IsUnspent fuel b
others_unspent fuel h [] b at = absurd (none-some b at)
others_unspent fuel zero (entry ∷ rest) b at = subst (IsUnspent fuel) (let same : starting_hart fuel entry ≡ b = cc in same) (record { fuel_is = refl; turns = refl; idle = refl })
others_unspent fuel (suc h) (entry ∷ rest) b at = others_unspent fuel h rest b at

all_unspent : (fuel h : ℕ) (functions : List Function) (entries : List HartEntry) (b : HartState) → slice_get (starting_harts fuel functions entries) h ≡ Some b → IsUnspent fuel b
all_unspent fuel h functions [] b at = absurd (none-some b at)
all_unspent fuel zero functions (entry ∷ rest) b at =
    subst (IsUnspent fuel) (let same : runs (Purpose.of_startup (starting_registers entry)) functions [] (starting_hart fuel entry) ≡ b = cc in same) (first_unspent fuel entry functions)
all_unspent fuel (suc h) functions (entry ∷ rest) b at = others_unspent fuel h rest b at

unspent_within : (fuel : ℕ) (b : HartState) → IsUnspent fuel b → IsWithin b
unspent_within fuel b x = record { few = let none : b.turns ≡ 0 = x.turns in omega (arith, none) }

pub fuel_bounds : TurnsCount → EndedStays → FuelBounds
fuel_bounds count stays w journal fuel past started start h reason trail is way =
    let unspent : IsUnspent fuel start.hart = all_unspent fuel h started.functions started.entries start.hart is.hart in
    let x : Follow start.hart way.ended (length way.turns) =
    follow count stays w journal h start.from way.to start.hart way.ended way.turns way.own way.follows (unspent_within fuel start.hart unspent) in
    let y = with_finals count stays w journal h start.registers start.hart way.ended unspent.turns (length way.turns) x way.to way.first reason way.rest way.behind in
    let all = length-append way.turns (turns_behind way.behind) in
    let same : start.hart.fuel ≡ fuel = unspent.fuel_is in
    omega (arith, y, all, same)
