-- The worked trail.
use Rattle.std.proofs.Common.{◌≡◌, ℕ, take, [], ◌∷◌, None, refl, sym, subst, arith, ◌≤◌, ◌<◌}
use Rattle.history_state.specs.After.{after, after_from}
use Rattle.history_state.specs.State.{State}
use Rattle.hart_moves.specs.Due.{Due, by_resolving, due}
use Rattle.hart_moves.specs.Harts.{HartState, Resolving}
use Rattle.hart_moves.specs.Moves.{Did, MovesAs, spent}
use Rattle.hart_moves.specs.Registers.{at}
use Rattle.hart_trails.specs.Trails.{FollowsBy, Leaves}
use Rattle.hart_trails.specs.Worked.{FollowsExchange, exchange, exchanged, journal, offer, turn}
use Rattle.word_rule.specs.declared.view.TrailItem.TheVariants.{Done, Exchanged}

-- a hart at a slot
due_there : (s : State) (b : HartState) (r : Resolving) → b.«end» ≡ None → b.resolving ≡ r → due s b ≡ by_resolving s b r
unfolding due
due_there s b r runs is = cc

first_generation : (after (take 1 journal)).generation ≡ 0
unfolding after_from
first_generation = refl

pub follows_exchange : FollowsExchange
follows_exchange w b is runs =
    FollowsBy.one_more 1 1 b (exchanged b) _ (turn b (Did.exchanges offer 0x35000)) (turn (exchanged b) Did.finishes ∷ []) (Exchanged exchange ∷ []) (Done ∷ []) (omega arith)
    (λ k e low high there. absurd (none k low high))
    (record {
      within = omega arith;
      moves = subst (λ (d : Due). MovesAs w journal 0 b d (Did.exchanges offer 0x35000) (exchanged b))
          (sym (due_there (after journal) b (Resolving.to_exchange offer) runs is)) (record { found = 0x35000; is = refl; leaves = refl });
      own = refl;
      beside = refl;
    })
    (Leaves.exchanges offer 0x35000 exchange (record { mark = refl; number = refl; slot = refl; value = refl; generation = sym first_generation; lazy = refl; saw = refl }))
    (FollowsBy.one_more 1 1 (exchanged b) _ _ (turn (exchanged b) Did.finishes) [] (Done ∷ []) [] (omega arith)
    (λ k e low high there. absurd (none k low high))
    (record {
      within = omega arith;
      moves = subst (λ (d : Due). MovesAs w journal 0 (exchanged b) d Did.finishes
          (spent (record (exchanged b) { registers = at 0x39000 b.registers; resolving = Resolving.to_settle offer 0x35000 })))
          (sym (due_there (after journal) (exchanged b) (Resolving.to_finish offer 0x35000) runs refl)) (record { is = refl; leaves = refl });
      own = refl;
      beside = refl;
    })
    Leaves.finishes
    (FollowsBy.no_more 1 _))
  where
    none : (k : ℕ) → 1 ≤ k → k < 1 → ⊥
    none k low high = omega (arith, low, high)
