-- A hart that follows goes on with one turn more, over the journal that it knows of then.
use Rattle.std.proofs.Common.{◌≡◌, ℕ, zero, suc, ◌+◌, ◌≤◌, List, [], ◌∷◌, ◌++◌, length, take, drop, refl, sym, ap, subst, ◌∙◌, append_assoc, append-nil, length-append, lt_of_not-le, arith}
use native.Mathlib.Decide.{dec_le}
use mathlib.Core.Logic.{dite}
use Rattle.std.proofs.lemmas.List.{take-append-le, take_all}
use Rattle.history_event.specs.declared.event.Event.{Event}
use Rattle.word_rule.specs.declared.view.HartView.{HartView}
use Rattle.word_rule.specs.declared.view.TrailItem.{TrailItem}
use Rattle.word_rule.specs.Views.{BeginsWith}
use Rattle.history_state.specs.Setting.{Setting}
use Rattle.hart_moves.specs.Follows.{HasNone, Turned, TurnsAt}
use Rattle.hart_moves.specs.Harts.{HartState}
use Rattle.hart_moves.specs.Lemmas.Following.{none_longer}
use Rattle.hart_moves.specs.Moves.{Did, Moves, events_of}
use Rattle.hart_moves.specs.Trails.{beside_of}
use Rattle.hart_trails.specs.Laws.{TrailsStay, TurnsBehind}
use Rattle.hart_trails.specs.Trails.{FollowsBy, Leaves}
use Rattle.hart_threads.specs.Turns.{Proceeds, RunsBy, TakesTurn}

-- ---- lists

pub front : {X : Type 0} (xs ys : List X) → take (length xs) (xs ++ ys) ≡ xs
front xs ys = take-append-le (length xs) xs ys (omega arith) ∙ take_all (length xs) xs (omega arith)

drop_front : {X : Type 0} (xs ys : List X) → drop (length xs) (xs ++ ys) ≡ ys
drop_front [] ys = refl
drop_front (x ∷ xs) ys = drop_front xs ys

-- a beginning that is longer than another goes on from it
pub front_longer : {X : Type 0} (xs all rest : List X) (n : ℕ) → all ≡ xs ++ rest → length xs ≤ n → (more : List X) × (take n all ≡ xs ++ more)
front_longer [] all rest n are low = (take n all, refl)
front_longer (x ∷ xs) all rest zero are low = absurd (let no : suc (length xs) ≤ zero = low in omega (arith, no))
front_longer (x ∷ xs) all rest (suc n) are low =
    let y = front_longer xs (xs ++ rest) rest n refl (let l : suc (length xs) ≤ suc n = low in omega (arith, l)) in
    (y.0, ap (take (suc n)) are ∙ ap (λ ys. x ∷ ys) y.1)

pub none_joined : (journal : List Event) (h from mid to : ℕ) → HasNone journal h from mid → HasNone journal h mid to → HasNone journal h from to
none_joined journal h from mid to first second k e low high at = dite (dec_le mid k)
    (λ (late : mid ≤ k). second k e late high at)
    (λ (early : ¬ (mid ≤ k)). first k e low (lt_of_not-le early) at)

pub none_there : (journal : List Event) (h at : ℕ) → HasNone journal h at at
none_there journal h at k e low high there = absurd (let no : ⊥ = omega (arith, low, high) in no)

-- ---- a turn

-- behind all that came before it
pub turn_behind : (w : Setting) (before now : HartView) (b c : HartState) (items : List TrailItem) (did : Did) (past : List Event) → now.number ≡ before.number
    → BeginsWith past before.heard → HasNone past before.number (length before.heard) (length past) → now.heard ≡ past ++ events_of did
    → Moves w past before.number b did c → Leaves past b (beside_of past before.number b did) did items → TakesTurn w before now b c items
turn_behind w before now b c items did past same began none heard moves leaves =
    let all : List Event = events_of did in
    let count : length (past ++ all) ≡ length past + length all = length-append past all in
    let here : take (length past) (past ++ all) ≡ past = front past all in
    let long : length past ≡ length before.heard + length began.0 = ap length began.1 ∙ length-append before.heard began.0 in
    let turn : Turned = record { at = length past; did = did; beside = beside_of past before.number b did } in
    let turns : TurnsAt w (past ++ all) before.number turn b c = record {
      within = omega (arith, count);
      moves = subst (λ (es : List Event). Moves w es before.number b did c) (sym here) moves;
      own = ap (take (length all)) (drop_front past all) ∙ take_all (length all) all (omega arith);
      beside = ap (λ (es : List Event). beside_of es before.number b did) (sym here);
    } in
    record {
      same = same;
      longer = (began.0 ++ all, heard ∙ ap (λ (es : List Event). es ++ all) began.1 ∙ append_assoc before.heard began.0 all);
      turn = turn;
      since = omega (arith, long);
      none = subst (λ (es : List Event). HasNone es before.number (length before.heard) (length past)) (sym heard) (none_longer w past all before.number (length before.heard) (length past) (omega arith) none);
      turns = subst (λ (es : List Event). TurnsAt w es before.number turn b c) (sym heard) turns;
      last = ap length heard ∙ count;
      leaves = subst (λ (es : List Event). Leaves (take (length past) es) b turn.beside did items) (sym heard)
          (subst (λ (es : List Event). Leaves es b turn.beside did items) (sym here) leaves);
    }

-- without an event it is over what the hart has heard
pub turn_here : (w : Setting) (before now : HartView) (b c : HartState) (items : List TrailItem) (did : Did) → now.number ≡ before.number → now.heard ≡ before.heard
    → events_of did ≡ [] → Moves w before.heard before.number b did c → Leaves before.heard b (beside_of before.heard before.number b did) did items
    → TakesTurn w before now b c items
turn_here w before now b c items did same heard none moves leaves =
    turn_behind w before now b c items did before.heard same ([], sym (append-nil before.heard)) (none_there before.heard before.number (length before.heard))
    (heard ∙ sym (append-nil before.heard) ∙ ap (λ (es : List Event). before.heard ++ es) (sym none)) moves leaves

-- ---- the way goes on

module _ (stay : TrailsStay) (behind : TurnsBehind) (w : Setting) where
  pub proceeds : (before now : HartView) (b c : HartState) (items : List TrailItem) → now.trail ≡ before.trail ++ items → TakesTurn w before now b c items
      → Proceeds w before now b c
  proceeds before now b c items trail x = record { same = x.same; longer = x.longer; on = on }
    where
      h : ℕ
      h = before.number

      on : (from : ℕ) (first : HartState) (begun : List TrailItem) → RunsBy w from first begun before b → RunsBy w from first begun now c
      on from first begun r =
          let rest : List Event = x.longer.0 in
          let end : ℕ = x.turn.at + length (events_of x.turn.did) in
          let over : FollowsBy w now.heard h from first r.turns r.own r.to b =
          subst (λ (es : List Event). FollowsBy w es h from first r.turns r.own r.to b) (sym x.longer.1) (stay w before.heard rest h from r.to first b r.turns r.own r.follows) in
          let early : HasNone now.heard h r.to (length before.heard) =
          subst (λ (es : List Event). HasNone es h r.to (length before.heard)) (sym x.longer.1) (none_longer w before.heard rest h r.to (length before.heard) (omega arith) r.none) in
          let late : r.to ≤ length before.heard = r.late in
          let since : length before.heard ≤ x.turn.at = x.since in
          let whole : FollowsBy w now.heard h from first (r.turns ++ x.turn ∷ []) (r.own ++ items) end c =
          behind w now.heard h from r.to first b c r.turns x.turn r.own items over (omega (arith, late, since)) (none_joined now.heard h r.to (length before.heard) x.turn.at early x.none) x.turns x.leaves in
          record {
            turns = r.turns ++ x.turn ∷ [];
            own = r.own ++ items;
            to = end;
            follows = subst (λ (n : ℕ). FollowsBy w now.heard n from first (r.turns ++ x.turn ∷ []) (r.own ++ items) end c) (sym x.same) whole;
            late = let last : length now.heard ≡ end = x.last in omega (arith, last);
            none = subst (λ (n : ℕ). HasNone now.heard now.number end n) (sym x.last) (none_there now.heard now.number end);
            trail = trail ∙ ap (λ (t : List TrailItem). t ++ items) r.trail ∙ append_assoc begun r.own items;
          }

pub stays_here : (w : Setting) (seat : HartView) (b : HartState) → Proceeds w seat seat b b
stays_here w seat b = record { same = refl; longer = ([], sym (append-nil seat.heard)); on = λ from first begun r. r }

pub goes_further : (w : Setting) (x y z : HartView) (a b c : HartState) → Proceeds w x y a b → Proceeds w y z b c → Proceeds w x z a c
goes_further w x y z a b c p q = record {
  same = q.same ∙ p.same;
  longer = (p.longer.0 ++ q.longer.0, q.longer.1 ∙ ap (λ (es : List Event). es ++ q.longer.0) p.longer.1 ∙ append_assoc x.heard p.longer.0 q.longer.0);
  on = λ from first begun r. q.on from first begun (p.on from first begun r);
}
