-- The final destructors don't begin: a hart runs, no object is left, or there is no memory to list what is.
use Rattle.std.proofs.Common.{◌≡◌, ℕ, ◌+◌, ◌<◌, ◌≤◌, ◌==◌, zero, suc, false, List, [], ◌∷◌, ◌++◌, length, length-append, take, None, Some, IsTrue, refl, sym, ap, subst, ◌∙◌, append-nil, append_assoc, arith, lt_of_not-le}
use mathlib.Core.Logic.{dite}
use native.Mathlib.Decide.{dec_le}
use Rattle.std.specs.List.{slice_get}
use Rattle.std.proofs.Math.Seq.{take-append_seam}
use Rattle.std.proofs.lemmas.Bool.{and_parts}
use Rattle.history_event.specs.declared.event.Event.{Event}
use Rattle.history_event.specs.declared.event.Event.TheVariants.{Ended}
use Rattle.history_event.specs.declared.hart_end.HartEnd.TheVariants.{Exit, Memory}
use Rattle.word_rule.specs.declared.view.HartView.{HartView}
use Rattle.word_rule.specs.declared.view.TrailItem.{TrailItem}
use Rattle.word_rule.specs.declared.view.TrailItem.TheVariants.{Took}
use Rattle.word_rule.specs.Views.{BeginsWith, IsLane}
use Rattle.slot_bind.specs.Rows.{full_offer}
use Rattle.rv_hart.specs.Registers.{Registers}
use Rattle.history_state.specs.After.{after}
use Rattle.history_state.specs.Lemmas.Lists.{none_in}
use Rattle.history_state.specs.Setting.{Setting, have_exited}
use Rattle.tls_blocks.specs.Blocks.{BlockTable}
use Rattle.hart_moves.specs.Follows.{HasNone, LacksList}
use Rattle.hart_moves.specs.Harts.{HartState, Resolving}
use Rattle.hart_moves.specs.Moves.{all_finis}
use Rattle.hart_trails.specs.Entries.{entry_behind}
use Rattle.hart_linker.specs.Between.{Hears, IsAtRow, IsBetweenTurns}
use Rattle.hart_linker.specs.Finals.{BeginsLast}
use Rattle.hart_linker.specs.declared.finals.Beginning.TheVariants as beginnings
use Rattle.hart_linker.specs.Lemmas.Hearing.{blocks_told, early_on, hears_between}
use Rattle.link_keeper.specs.Beginning.{EndsAgain}
use Rattle.link_keeper.specs.Keeping.{OpensNothing}

-- ---- lists

front_same : {X : Type 0} (xs ys : List X) (n : ℕ) → n < length xs → slice_get (xs ++ ys) n ≡ slice_get xs n
front_same {X} [] ys n low = absurd (omega (arith, low))
front_same {X} (z ∷ xs) ys zero low = refl
front_same {X} (z ∷ xs) ys (suc n) low = front_same xs ys n (omega (arith, low))

at_seam : (past : List Event) (e : Event) (rest : List Event) → slice_get (past ++ e ∷ rest) (length past) ≡ Some e
at_seam [] e rest = refl
at_seam (x ∷ past) e rest = at_seam past e rest

pub none_both : (h from : ℕ) (one past journal more rest : List Event) → past ≡ one ++ more → journal ≡ past ++ rest → HasNone one h from (length one) → HasNone past h (length one) (length past)
    → HasNone journal h from (length past)
none_both h from one past journal more rest are all early late k e above below at =
    let here : slice_get past k ≡ Some e = sym (front_same past rest k below) ∙ ap (λ (es : List Event). slice_get es k) (sym all) ∙ at in
    dite (dec_le (length one) k)
    (λ (behind : length one ≤ k). late k e behind below here)
    (λ (front : length one ≤ k → ⊥).
    let low : k < length one = lt_of_not-le front in
    early k e above low (sym (front_same one more k low) ∙ ap (λ (es : List Event). slice_get es k) (sym are) ∙ here))

pub opens_none : (events : List Event) → OpensNothing events events
opens_none events = record { more = []; are = sym (append-nil events); none = λ e there. absurd (none_in e there) }

-- ---- nothing changes

module _ (w : Setting) (begun : List Event) (before now : HartView) (hears : Hears w begun before now) (b c : HartState) (same : c ≡ b) where
  pub runs_so : (registers : Registers) → have_exited w (after now.heard) ≡ false → BeginsLast w registers before now b c beginnings.HartsRun
  runs_so registers run = BeginsLast.others_run run hears.none hears.told same

  pub none_so : (registers : Registers) → all_finis (after now.heard) ≡ [] → BeginsLast w registers before now b c beginnings.NoneLeft
  none_so registers none = BeginsLast.none_is_left none hears.none hears.told same

  pub still_between : (d : BlockTable) (code : ℕ) → b.«end» ≡ Some (Exit code) → before.lane.calling ≡ false → IsLane before.lane → IsBetweenTurns w begun before b d → IsBetweenTurns w begun now c d
  still_between d code exited calm lane at = subst (λ (x : HartState). IsBetweenTurns w begun now x d) (sym same) (hears_between w begun before now b d (Exit code) hears exited calm lane at)

-- ---- the first hart ends once more

module _ (w : Setting) (begun : List Event) (before told now : HartView) (hears : Hears w begun before told) (again : EndsAgain w begun told now) (first : before.number ≡ 0) (b c : HartState) (same : c ≡ b)
    (code : ℕ) (exited : b.«end» ≡ Some (Exit code)) where
  zeroth : told.number ≡ 0
  zeroth = ap (λ (h : HartView). h.number) hears.told ∙ first

  heard_is : now.heard ≡ again.past ++ Ended 0 Memory ∷ []
  heard_is = again.is ∙ ap (λ (n : ℕ). again.past ++ Ended n Memory ∷ []) zeroth

  pub lacks_longer : BeginsWith now.heard before.heard
  lacks_longer = (
    (hears.longer.0 ++ again.since.0) ++ Ended 0 Memory ∷ [],
    heard_is
        ∙ ap (λ (es : List Event). es ++ Ended 0 Memory ∷ [])
        (again.since.1 ∙ ap (λ (es : List Event). es ++ again.since.0) hears.longer.1 ∙ append_assoc before.heard hears.longer.0 again.since.0)
        ∙ append_assoc before.heard (hears.longer.0 ++ again.since.0) (Ended 0 Memory ∷ []),
  )

  lacks : LacksList w now.heard (length before.heard) b (length again.past)
  lacks = record {
    code = code;
    exited = exited;
    since =
        let early : length told.heard ≡ length before.heard + length hears.longer.0 = ap length hears.longer.1 ∙ length-append before.heard hears.longer.0 in
        let late : length again.past ≡ length told.heard + length again.since.0 = ap length again.since.1 ∙ length-append told.heard again.since.0 in
        omega (arith, early, late);
    none = none_both 0 (length before.heard) told.heard again.past now.heard again.since.0 (Ended 0 Memory ∷ []) again.since.1 heard_is
        (subst (λ (n : ℕ). HasNone told.heard n (length before.heard) (length told.heard)) first hears.none)
        (subst (λ (n : ℕ). HasNone again.past n (length told.heard) (length again.past)) zeroth again.none);
    over = subst (λ (es : List Event). IsTrue (have_exited w (after es))) (sym (ap (take (length again.past)) heard_is ∙ take-append_seam again.past (Ended 0 Memory ∷ [])))
        (and_parts (length (after again.past).endings == w.machine.harts) (have_exited w (after again.past)) again.over).1;
    ends = ap (λ (es : List Event). slice_get es (length again.past)) heard_is ∙ at_seam again.past (Ended 0 Memory) [];
  }

  trail_is : now.trail ≡ before.trail ++ Took (entry_behind again.past (Ended 0 Memory)) ∷ []
  trail_is = again.trail
      ∙ ap (λ (items : List TrailItem). items ++ Took (entry_behind again.past (Ended told.number Memory)) ∷ []) (ap (λ (h : HartView). h.trail) hears.told)
      ∙ ap (λ (n : ℕ). before.trail ++ Took (entry_behind again.past (Ended n Memory)) ∷ []) zeroth

  pub lacks_so : (registers : Registers) → BeginsLast w registers before now b c beginnings.Memory
  lacks_so registers = BeginsLast.lacks_memory again.past heard_is lacks trail_is same

  row_over : before.lane.calling ≡ false → IsLane before.lane → (r : Resolving) → IsAtRow before r → IsAtRow now r
  row_over calm lane Resolving.idle y = again.calling
  row_over calm lane (Resolving.to_exchange o) y = absurd (let no : None ≡ Some (full_offer y.grant) = sym (lane.idle calm) ∙ y.read in cc)
  row_over calm lane (Resolving.to_finish o found) y = absurd y
  row_over calm lane (Resolving.to_settle o found) y = again.calling

  no_turn : {X : Type 0} → c.«end» ≡ None → X
  no_turn {X} on = absurd (let no : None ≡ Some (Exit code) = sym on ∙ ap (λ (x : HartState). x.«end») same ∙ exited in cc)

  pub lacks_between : (d : BlockTable) → before.lane.calling ≡ false → IsLane before.lane → IsBetweenTurns w begun before b d → IsBetweenTurns w begun now c d
  lacks_between d calm lane at = record {
    heard = again.heard;
    fits = λ on. no_turn on;
    row = subst (λ (x : HartState). IsAtRow now x.resolving) (sym same) (row_over calm lane b.resolving at.row);
    blocks = again.blocks d (blocks_told w begun before told d hears at.blocks);
    early = early_on d before.heard lacks_longer.0 now.heard lacks_longer.1 at.early;
    current = λ on. no_turn on;
    reached = λ on. no_turn on;
  }
