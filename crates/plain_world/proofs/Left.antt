-- How many turns are left at most: each turn lowers it.
use Rattle.std.proofs.Common.{◌≡◌, ◌⊎◌, inl, inr, ⊎_elim, ℕ, zero, suc, ◌+◌, ◌-◌, ◌*◌, ◌<◌, ◌≤◌, Bool, true, false, cond, List, [], ◌∷◌, map, length, Option, Some, None, refl, sym, ap, subst, ◌∙◌, IsTrue, true≢false, arith}
use Rattle.std.specs.Prelude.{nat_lt, if◌then◌else◌, slice_set}
use Rattle.std.specs.List.{range_with_len, slice_get}
use Rattle.std.specs.Option.{is_some}
use Rattle.std.proofs.lemmas.Bool.{ltb-true}
use Rattle.std.proofs.lemmas.Option.{none-some, slice_get_within}
use Rattle.history_event.specs.declared.event.Event.{Event}
use Rattle.history_event.specs.declared.hart_end.HartEnd.{HartEnd}
use Rattle.history_event.specs.declared.hart_end.HartEnd.TheVariants as ends
use Rattle.history_state.specs.After.{after}
use Rattle.history_state.specs.Setting.{Setting}
use Rattle.hart_moves.specs.Due.{Due, by_phase, by_resolving, due, within_fuel}
use Rattle.hart_moves.specs.Harts.{HartState, Offered, Resolving}
use Rattle.hart_moves.specs.Moves.{Did, TurnEnds, Exchanges, TurnFinishes, Moves, MovesAs, freed, settled_resolving, settles}
use Rattle.hart_moves.specs.Laws.{RunsOut}
use Rattle.hart_moves.specs.Lemmas.Legality.{ended_stays, turns_count}
use Rattle.world_turns.specs.Run.{Rounds, all_harts, has_ended, have_ended}
use Rattle.world_turns.specs.Turn.{TakesTurn, Turn}
use Rattle.world_turns.specs.World.{World}
use Rattle.world_turns.specs.WorldEnds.Lemmas.Places.{all_pass, ended_by, freed_here}

-- ---- of a hart

-- the turns of a granted slot that may go beyond its fuel
abbrev pub pending : Resolving → ℕ
pending Resolving.idle = 0
pending (Resolving.to_exchange o) = 2
pending (Resolving.to_finish o found) = 1
pending (Resolving.to_settle o found) = 0

-- a turn within the fuel may begin a slot, so it counts for three; and the turn at which the fuel is out is one more
abbrev pub running_left : HartState → ℕ
running_left b = 3 * (b.fuel - b.turns) + pending b.resolving + 1

abbrev pub hart_left : HartState → ℕ
hart_left b = cond (has_ended b) 0 (running_left b)

pending_most : (r : Resolving) → pending r ≤ 2
pending_most Resolving.idle = omega arith
pending_most (Resolving.to_exchange o) = omega arith
pending_most (Resolving.to_finish o found) = omega arith
pending_most (Resolving.to_settle o found) = omega arith

at_most : (t : Bool) (n : ℕ) → cond t 0 n ≤ n
at_most true n = omega arith
at_most false n = omega arith

ended_none : (c : HartState) (reason : HartEnd) → c.«end» ≡ Some reason → hart_left c ≡ 0
ended_none c reason is = ap (λ (e : Option HartEnd). cond (is_some e) 0 (running_left c)) is

runs_some : (b : HartState) → b.«end» ≡ None → hart_left b ≡ running_left b
runs_some b is = ap (λ (e : Option HartEnd). cond (is_some e) 0 (running_left b)) is

module _ (w : Setting) (past : List Event) (h : ℕ) (b c : HartState) (did : Did) (runs : b.«end» ≡ None) (moves : Moves w past h b did c) where
  as_due : (found : Due) → by_resolving (after past) b b.resolving ≡ found → MovesAs w past h b found did c
  unfolding due
  as_due found is = subst (λ (t : Due). MovesAs w past h b t did c)
      (ap (λ (e : Option HartEnd). elim e [ Some r ↦ Due.nothing | None ↦ by_resolving (after past) b b.resolving ]) runs ∙ is) moves

  exchange_less : (o : Offered) → b.resolving ≡ Resolving.to_exchange o → hart_left c < hart_left b
  exchange_less o is =
      let x : Exchanges b o did c = as_due (Due.exchange o) (ap (by_resolving (after past) b) is) in
      let here : hart_left b ≡ 3 * (b.fuel - b.turns) + 2 + 1 = runs_some b runs ∙ ap (λ (r : Resolving). 3 * (b.fuel - b.turns) + pending r + 1) is in
      let left_then : running_left c ≡ 3 * (b.fuel - (b.turns + 1)) + 1 + 1 = ap running_left x.leaves in
      let most : hart_left c ≤ running_left c = at_most (has_ended c) (running_left c) in
      omega (arith, here, left_then, most)

  finish_less : (o : Offered) (found : ℕ) → b.resolving ≡ Resolving.to_finish o found → hart_left c < hart_left b
  finish_less o found is =
      let x : TurnFinishes b o found did c = as_due (Due.finish o found) (ap (by_resolving (after past) b) is) in
      let here : hart_left b ≡ 3 * (b.fuel - b.turns) + 1 + 1 = runs_some b runs ∙ ap (λ (r : Resolving). 3 * (b.fuel - b.turns) + pending r + 1) is in
      let left_then : running_left c ≡ 3 * (b.fuel - (b.turns + 1)) + 0 + 1 = ap running_left x.leaves in
      let most : hart_left c ≤ running_left c = at_most (has_ended c) (running_left c) in
      omega (arith, here, left_then, most)

  ends_less : (reason : HartEnd) → c.«end» ≡ Some reason → hart_left c < hart_left b
  ends_less reason is =
      let none : hart_left c ≡ 0 = ended_none c reason is in
      let here : hart_left b ≡ running_left b = runs_some b runs in
      omega (arith, none, here)

  counts_less : b.turns < b.fuel → c.fuel ≡ b.fuel → c.turns ≡ b.turns + 1 → hart_left c < hart_left b
  counts_less within fuel turns =
      let here : hart_left b ≡ running_left b = runs_some b runs in
      let most : hart_left c ≤ running_left c = at_most (has_ended c) (running_left c) in
      let few : pending c.resolving ≤ 2 = pending_most c.resolving in
      let left_then : running_left c ≡ 3 * (b.fuel - (b.turns + 1)) + pending c.resolving + 1 =
      ap (λ (n : ℕ). 3 * (n - c.turns) + pending c.resolving + 1) fuel ∙ ap (λ (n : ℕ). 3 * (b.fuel - n) + pending c.resolving + 1) turns in
      omega (arith, here, most, few, left_then, within)

  -- within its fuel the turn counts; without, it is the last
  fuelled : by_resolving (after past) b b.resolving ≡ within_fuel b (by_phase (after past) b b.phase) → hart_left c < hart_left b
  fuelled is = at (nat_lt b.turns b.fuel) refl
    where
      at : (t : Bool) → nat_lt b.turns b.fuel ≡ t → hart_left c < hart_left b
      at true lt = ⊎_elim
          (λ (more : c.turns ≡ b.turns + 1). counts_less (ltb-true b.turns b.fuel lt) (turns_count w past h b c did moves).0 more)
          (λ (out : RunsOut b c). ends_less ends.FuelOut out.ends)
          (turns_count w past h b c did moves).1
      at false out =
          let x : TurnEnds w past h b [] ends.FuelOut did c =
          as_due Due.fuel_out (is ∙ ap (λ (t : Bool). if t then by_phase (after past) b b.phase else Due.fuel_out) out) in
          ends_less ends.FuelOut (ap (λ (y : HartState). y.«end») x.leaves)

  by_slot : (r : Resolving) → b.resolving ≡ r → hart_left c < hart_left b
  by_slot Resolving.idle is = fuelled (ap (by_resolving (after past) b) is)
  by_slot (Resolving.to_exchange o) is = exchange_less o is
  by_slot (Resolving.to_finish o found) is = finish_less o found is
  by_slot (Resolving.to_settle o found) is = fuelled (ap (by_resolving (after past) b) is)

pub moves_less : (w : Setting) (past : List Event) (h : ℕ) (b c : HartState) (did : Did) → Moves w past h b did c → hart_left c < hart_left b
moves_less w past h b c did moves = at b.«end» refl
  where
    at : (e : Option HartEnd) → b.«end» ≡ e → hart_left c < hart_left b
    at (Some reason) is = absurd (ended_stays w past h b c did reason is moves)
    at None is = by_slot w past h b c did is moves b.resolving refl

pending_freed : (r : Resolving) → pending (settled_resolving r) ≡ pending r
pending_freed Resolving.idle = refl
pending_freed (Resolving.to_exchange o) = refl
pending_freed (Resolving.to_finish o found) = refl
pending_freed (Resolving.to_settle o found) = refl

freed_left : (b : HartState) → hart_left (freed b) ≡ hart_left b
freed_left b = ap (λ (n : ℕ). cond (has_ended b) 0 (3 * (b.fuel - b.turns) + n + 1)) (pending_freed b.resolving)

-- ---- of all harts

abbrev pub harts_left : List HartState → ℕ
harts_left [] = 0
harts_left (b ∷ rest) = hart_left b + harts_left rest

abbrev pub left : World → ℕ
left world = harts_left world.harts

all_freed : (harts : List HartState) → harts_left (map freed harts) ≡ harts_left harts
all_freed [] = refl
all_freed (b ∷ rest) = ap (λ (n : ℕ). n + harts_left (map freed rest)) (freed_left b) ∙ ap (λ (n : ℕ). hart_left b + n) (all_freed rest)

set_less : (harts : List HartState) (h : ℕ) (b c : HartState) → slice_get harts h ≡ Some b → hart_left c < hart_left b → harts_left (slice_set harts h c) < harts_left harts
set_less [] h b c at less = absurd (none-some b at)
set_less (x ∷ rest) zero b c at less =
    let same : x ≡ b = cc in
    let here : hart_left x ≡ hart_left b = ap hart_left same in
    omega (arith, less, here)
set_less (x ∷ rest) (suc h) b c at less =
    let again : harts_left (slice_set rest h c) < harts_left rest = set_less rest h b c at less in
    omega (arith, again)

found_less : (t : Bool) (harts : List HartState) (h : ℕ) (b c : HartState) → slice_get harts h ≡ Some b → hart_left c < hart_left b
    → harts_left (slice_set (if t then map freed harts else harts) h c) < harts_left harts
found_less true harts h b c at less =
    let as_before : hart_left (freed b) ≡ hart_left b = freed_left b in
    let again : harts_left (slice_set (map freed harts) h c) < harts_left (map freed harts) =
    set_less (map freed harts) h (freed b) c (freed_here harts h b at) (omega (arith, less, as_before)) in
    let all : harts_left (map freed harts) ≡ harts_left harts = all_freed harts in
    omega (arith, again, all)
found_less false harts h b c at less = set_less harts h b c at less

pub turn_less : (w : Setting) (h : ℕ) (old new : World) → Turn w h old new → left new < left old
turn_less w h old new t =
    let less : harts_left (slice_set (if settles t.did then map freed old.harts else old.harts) h t.left) < harts_left old.harts =
    found_less (settles t.did) old.harts h t.before t.left t.there (moves_less w _ h t.before t.left t.did t.moves) in
    let same : left new ≡ harts_left (slice_set (if settles t.did then map freed old.harts else old.harts) h t.left) = ap harts_left t.harts in
    omega (arith, less, same)

-- ---- of a round

-- the hart has ended
abbrev pub IsOverAt : World → ℕ → Type 0
IsOverAt world h = (b : HartState) × (slice_get world.harts h ≡ Some b) × IsTrue (has_ended b)

abbrev pub AreOverAt : World → List ℕ → Type 0
AreOverAt world [] = Unit {0}
AreOverAt world (h ∷ rest) = IsOverAt world h × AreOverAt world rest

-- all of these harts were passed over
pub record ArePassedOver (harts : List ℕ) (old new : World) : Type 0 where
  pub same : new ≡ old
  pub over : AreOverAt old harts

rounds_less : (w : Setting) (harts : List ℕ) (old new : World) → Rounds w harts old new → (left new < left old) ⊎ ArePassedOver harts old new
rounds_less w harts old new (Rounds.no_more _) = inr (record { same = refl; over = tt })
rounds_less w harts old new (Rounds.one_more h rest _ between _ (TakesTurn.turn t) more) = ⊎_elim
    (λ (less : left new < left between). inl (omega (arith, less, turn_less w h old between t)))
    (λ (x : ArePassedOver rest between new).
    let same : left new ≡ left between = ap left x.same in inl (omega (arith, same, turn_less w h old between t)))
    (rounds_less w rest between new more)
rounds_less w harts old new (Rounds.one_more h rest _ between _ (TakesTurn.passed_over b reason at over passed) more) = ⊎_elim
    (λ (less : left new < left between). let same : left between ≡ left old = ap left passed in inl (omega (arith, less, same)))
    (λ (x : ArePassedOver rest between new). inr (record {
      same = x.same ∙ passed;
      over = ((b, at, ended_by b reason over), subst (λ (y : World). AreOverAt y rest) passed x.over);
    }))
    (rounds_less w rest between new more)

over_in : (world : World) (from count i : ℕ) → AreOverAt world (range_with_len from count) → i < count → IsOverAt world (from + i)
over_in world from zero i over lt = absurd (omega (arith, lt))
over_in world from (suc count) zero over lt = let same : from ≡ from + zero = omega arith in subst (IsOverAt world) same over.0
over_in world from (suc count) (suc i) over lt =
    let next : (from + 1) + i ≡ from + suc i = omega arith in
    subst (IsOverAt world) next (over_in world (from + 1) count i over.1 (omega (arith, lt)))

over_at : (world : World) (count h : ℕ) → AreOverAt world (range_with_len 0 count) → h < count → IsOverAt world h
over_at world count h over lt = let same : 0 + h ≡ h = omega arith in subst (IsOverAt world) same (over_in world 0 count h over lt)

same_hart : (harts : List HartState) (h : ℕ) (b c : HartState) → slice_get harts h ≡ Some b → slice_get harts h ≡ Some c → b ≡ c
same_hart harts h b c at there = let same : Some b ≡ Some c = sym at ∙ there in cc

pub round_less : (w : Setting) (old new : World) → have_ended old ≡ false → Rounds w (all_harts old) old new → left new < left old
round_less w old new runs rounds = ⊎_elim
    (λ (less : left new < left old). less)
    (λ (x : ArePassedOver (all_harts old) old new). absurd (true≢false
    (sym (all_pass has_ended old.harts (λ h b at.
    let here = over_at old (length old.harts) h x.over (slice_get_within old.harts h b at) in
    ap has_ended (same_hart old.harts h b here.0 at here.1) ∙ here.2)) ∙ runs)))
    (rounds_less w (all_harts old) old new rounds)
