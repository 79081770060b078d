-- Want of memory behind final destructors ends the hart.
use Rattle.std.proofs.Common.{◌≡◌, ℕ, inr, List, [], ◌∷◌, Option, Some, None, refl, sym, ap, subst}
use Rattle.history_event.specs.declared.event.Event.TheVariants.{Ended}
use Rattle.history_event.specs.declared.hart_end.HartEnd.{HartEnd}
use Rattle.history_event.specs.declared.hart_end.HartEnd.TheVariants.{Memory}
use Rattle.history_state.specs.State.{State}
use Rattle.rv_hart.specs.declared.doubleword.Doubleword.{Doubleword}
use Rattle.hart_moves.specs.Due.{Due, by_resolving, due}
use Rattle.hart_moves.specs.Harts.{HartState}
use Rattle.hart_moves.specs.Moves.{Did, MovesAs, ended, spent}
use Rattle.world_answers.specs.Answers.{is_service}
use Rattle.world_answers.specs.GuestsPart.Alone.{IsToEnd}

-- ---- such a hart has not ended

runs_by : (s : State) (b : HartState) (code object : ℕ) (over : Option HartEnd) → b.«end» ≡ over
    → elim over [ Some reason ↦ Due.nothing | None ↦ by_resolving s b b.resolving ] ≡ Due.finalise code object → b.«end» ≡ None
runs_by s b code object (Some reason) at is = absurd (let no : Due.nothing ≡ Due.finalise code object = is in cc)
runs_by s b code object None at is = at

pub runs_last : (s : State) (b : HartState) (code object : ℕ) → due s b ≡ Due.finalise code object → b.«end» ≡ None
unfolding due
runs_last s b code object is = runs_by s b code object b.«end» refl is

-- ---- and it may end there

pub is_to_end : (words : List Doubleword) (s : State) (b : HartState) (code object : ℕ) → due s b ≡ Due.finalise code object
    → IsToEnd words words (due s b) b (spent b) Memory
is_to_end words s b code object is = record {
  items = [];
  chain = refl;
  moves = λ w past h may. subst (λ (d : Due). MovesAs w past h b d (Did.serves [] (Ended h Memory ∷ [])) (ended Memory (spent b))) (sym is)
      (inr (record { may = may; is = refl; leaves = refl }));
  place = refl;
  no_call = ap is_service is;
}
