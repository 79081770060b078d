-- Harts that have ended are told of events.
use Rattle.std.proofs.Common.{◌≡◌, ℕ, ◌+◌, ◌≤◌, false, List, [], ◌++◌, length, Option, Some, None, IsSome, refl, sym, ap, subst, ◌∙◌, append_assoc, append-nil, length-append, arith}
use Rattle.std.proofs.lemmas.Bool.{false≢true}
use Rattle.history_event.specs.declared.event.Event.{Event}
use Rattle.history_event.specs.declared.hart_end.HartEnd.{HartEnd}
use Rattle.word_rule.specs.declared.view.HartView.{HartView}
use Rattle.word_rule.specs.Views.{BeginsWith, IsLane}
use Rattle.history_state.specs.Setting.{Setting}
use Rattle.tls_blocks.specs.Blocks.{BlockTable}
use Rattle.hart_moves.specs.Follows.{HasNone}
use Rattle.hart_moves.specs.Harts.{HartState}
use Rattle.hart_moves.specs.Lemmas.Following.{none_longer}
use Rattle.hart_trails.specs.Laws.{TrailsStay}
use Rattle.hart_trails.specs.Trails.{FollowsBy}
use Rattle.hart_linker.specs.Between.{HasHeard, Hears, IsBetweenTurns}
use Rattle.hart_linker.specs.Lemmas.Hearing.{hears_between}
use Rattle.hart_threads.specs.Ends.{IsThrough}
use Rattle.hart_threads.specs.Run.{HearsUpTo, RunsOn, RunsToEnd}
use Rattle.hart_threads.specs.Turns.{Proceeds}
use Rattle.hart_threads.proofs.Running.{runs_further}
use Rattle.hart_threads.proofs.Stepping.{none_joined}

number_is : (w : Setting) (begun : List Event) (before now : HartView) → Hears w begun before now → now.number ≡ before.number
number_is w begun before now x = ap (λ (h : HartView). h.number) x.told

pub hears_more : (w : Setting) (begun : List Event) (before mid now : HartView) → Hears w begun before mid → Hears w begun mid now → Hears w begun before now
hears_more w begun before mid now x y = record {
  told = y.told ∙ ap (λ (h : HartView). record h { heard = now.heard }) x.told;
  longer = (x.longer.0 ++ y.longer.0, y.longer.1 ∙ ap (λ (es : List Event). es ++ y.longer.0) x.longer.1 ∙ append_assoc before.heard x.longer.0 y.longer.0);
  none = none_joined now.heard before.number (length before.heard) (length mid.heard) (length now.heard)
      (subst (λ (es : List Event). HasNone es before.number (length before.heard) (length mid.heard)) (sym y.longer.1)
      (none_longer w mid.heard y.longer.0 before.number (length before.heard) (length mid.heard) (omega arith) x.none))
      (subst (λ (n : ℕ). HasNone now.heard n (length mid.heard) (length now.heard)) (number_is w begun before mid x) y.none);
  heard = y.heard;
}

module _ (stay : TrailsStay) (w : Setting) (begun : List Event) (before now : HartView) (b : HartState) (x : Hears w begun before now) where
  same : now.number ≡ before.number
  same = number_is w begun before now x

  trail : now.trail ≡ before.trail
  trail = ap (λ (h : HartView). h.trail) x.told

  -- its way is as it was
  pub hears_on : Proceeds w before now b b
  hears_on = record {
    same = same;
    longer = x.longer;
    on = λ from first trail_before r.
        let late : r.to ≤ length before.heard = r.late in
        let count : length now.heard ≡ length before.heard + length x.longer.0 = ap length x.longer.1 ∙ length-append before.heard x.longer.0 in
        record {
          turns = r.turns;
          own = r.own;
          to = r.to;
          follows = subst (λ (n : ℕ). FollowsBy w now.heard n from first r.turns r.own r.to b) (sym same)
              (subst (λ (es : List Event). FollowsBy w es before.number from first r.turns r.own r.to b) (sym x.longer.1)
              (stay w before.heard x.longer.0 before.number from r.to first b r.turns r.own r.follows));
          late = omega (arith, late, count);
          none = subst (λ (n : ℕ). HasNone now.heard n r.to (length now.heard)) (sym same)
              (none_joined now.heard before.number r.to (length before.heard) (length now.heard)
              (subst (λ (es : List Event). HasNone es before.number r.to (length before.heard)) (sym x.longer.1)
              (none_longer w before.heard x.longer.0 before.number r.to (length before.heard) (omega arith) r.none))
              x.none);
          trail = trail ∙ r.trail;
        };
  }

-- a hart that has ended is told
pub record IsEnded (w : Setting) (begun : List Event) (seat : HartView) (b : HartState) (d : BlockTable) : Type 0 where
  pub between : IsBetweenTurns w begun seat b d
  pub reason : HartEnd
  pub over : b.«end» ≡ Some reason
  pub calm : seat.lane.calling ≡ false

some_end : (o : Option HartEnd) → IsSome o → (reason : HartEnd) × (o ≡ Some reason)
some_end None x = absurd (false≢true x)
some_end (Some reason) x = (reason, refl)

pub is_ended : (w : Setting) (begun : List Event) (before seat : HartView) (a b : HartState) (d : BlockTable) → RunsToEnd w begun before seat a b d → IsEnded w begun seat b d
is_ended w begun before seat a b d x =
    let y = some_end b.«end» x.ended in
    record { between = x.runs.between; reason = y.0; over = y.1; calm = x.runs.calm y.0 y.1 }

pub hears_to_end : TrailsStay → (w : Setting) (begun : List Event) (before mid now : HartView) (a b : HartState) (d : BlockTable) → RunsToEnd w begun before mid a b d → IsLane mid.lane
    → Hears w begun mid now → RunsToEnd w begun before now a b d
hears_to_end stay w begun before mid now a b d x lane y =
    let z : IsEnded w begun mid b d = is_ended w begun before mid a b d x in
    let told : RunsOn w begun mid now b b d = record {
      proceeds = hears_on stay w begun mid now b y;
      between = hears_between w begun mid now b d z.reason y z.over z.calm lane z.between;
      calm = λ reason over. ap (λ (h : HartView). h.lane.calling) y.told ∙ z.calm;
    } in
    record { runs = runs_further w begun before mid now a b b d d x.runs told; ended = x.ended }

-- it still is where the first hart hears of more
pub told_still : (w : Setting) (begun : List Event) (first later before now : HartView) → Hears w begun first later → HearsUpTo w begun first before now → HearsUpTo w begun later before now
told_still w begun first later before now more x = record {
  hears = x.hears;
  front = (x.front.0 ++ more.longer.0, more.longer.1 ∙ ap (λ (es : List Event). es ++ more.longer.0) x.front.1 ∙ append_assoc now.heard x.front.0 more.longer.0);
  lane = x.lane;
}

pub told_same : (w : Setting) (begun : List Event) (first before now : HartView) → Hears w begun before now → now.heard ≡ first.heard → IsLane before.lane → HearsUpTo w begun first before now
told_same w begun first before now x same lane = record { hears = x; front = ([], sym same ∙ sym (append-nil now.heard)); lane = lane }

pub told_to_end : TrailsStay → (w : Setting) (begun : List Event) (first before mid now : HartView) (a b : HartState) (d : BlockTable) → RunsToEnd w begun before mid a b d → HearsUpTo w begun first mid now
    → RunsToEnd w begun before now a b d
told_to_end stay w begun first before mid now a b d x told = hears_to_end stay w begun before mid now a b d x told.lane told.hears

-- a front of a front
pub front_of : (last first now : HartView) → BeginsWith last.heard first.heard → BeginsWith first.heard now.heard → BeginsWith last.heard now.heard
front_of last first now x y = (y.0 ++ x.0, x.1 ∙ ap (λ (es : List Event). es ++ x.0) y.1 ∙ append_assoc now.heard y.0 x.0)

-- ---- a hart that has ended goes on or not

pub through_here : (w : Setting) (begun : List Event) (seat : HartView) → HasHeard w begun seat → seat.lane.calling ≡ false → IsThrough w begun seat seat
through_here w begun seat heard calm = record { same = refl; longer = ([], sym (append-nil seat.heard)); heard = heard; calm = calm }

pub through_then : (w : Setting) (begun : List Event) (before mid now : HartView) → mid.number ≡ before.number → BeginsWith mid.heard before.heard → IsThrough w begun mid now → IsThrough w begun before now
through_then w begun before mid now same longer x = record { same = x.same ∙ same; longer = front_of now mid before x.longer longer; heard = x.heard; calm = x.calm }
