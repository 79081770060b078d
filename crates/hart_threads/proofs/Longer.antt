-- A whole way is one over a longer journal.
use Rattle.std.proofs.Common.{◌≡◌, ℕ, zero, suc, ◌+◌, ◌≤◌, ◌<◌, IsTrue, List, [], ◌∷◌, ◌++◌, length, take, Some, sym, ap, subst, ◌∙◌, length-append, arith}
use Rattle.std.specs.List.{slice_get}
use Rattle.std.proofs.lemmas.List.{take-append-le}
use Rattle.std.proofs.lemmas.Option.{none-some}
use Rattle.history_event.specs.declared.event.Event.{Event}
use Rattle.history_event.specs.declared.event.Event.TheVariants.{Ended}
use Rattle.history_event.specs.declared.hart_end.HartEnd.{HartEnd}
use Rattle.history_event.specs.declared.hart_end.HartEnd.TheVariants.{Memory}
use Rattle.rv_hart.specs.Registers.{Registers}
use Rattle.word_rule.specs.declared.view.TrailItem.{TrailItem}
use Rattle.word_rule.specs.declared.view.TrailItem.TheVariants.{Took}
use Rattle.history_state.specs.After.{after}
use Rattle.history_state.specs.Memory.{image_of}
use Rattle.history_state.specs.Setting.{Setting, have_exited}
use Rattle.history_calls.specs.Functions.{AreAddresses, destructors}
use Rattle.hart_moves.specs.Follows.{AreOthers, BeginsFinals, LacksList}
use Rattle.hart_moves.specs.Harts.{HartState}
use Rattle.hart_moves.specs.Lemmas.Following.{none_longer, none_with}
use Rattle.hart_moves.specs.Moves.{all_finis}
use Rattle.hart_trails.specs.Entries.{entry_behind}
use Rattle.hart_trails.specs.Laws.{TrailsStay}
use Rattle.hart_trails.specs.Trails.{LeavesBehind}
use Rattle.hart_threads.specs.Laws.{WaysStay}

get_front : (xs ys : List Event) (k : ℕ) (e : Event) → slice_get xs k ≡ Some e → slice_get (xs ++ ys) k ≡ Some e
get_front [] ys k e at = absurd (none-some e at)
get_front (x ∷ xs) ys zero e at = at
get_front (x ∷ xs) ys (suc k) e at = get_front xs ys k e at

get_low : (xs : List Event) (k : ℕ) (e : Event) → slice_get xs k ≡ Some e → k < length xs
get_low [] k e at = absurd (none-some e at)
get_low (x ∷ xs) zero e at = omega arith
get_low (x ∷ xs) (suc k) e at = let low = get_low xs k e at in omega (arith, low)

module _ (stay : TrailsStay) (w : Setting) (journal more : List Event) (h : ℕ) (others : AreOthers h more) (exits : h ≡ 0 → have_exited w (after (journal ++ more)) ≡ have_exited w (after journal))
    (left : h ≡ 0 → all_finis (after (journal ++ more)) ≡ all_finis (after journal)) (registers : Registers) (from : ℕ) (ended : HartState) where
  front_same : (at : ℕ) → at ≤ length journal → take at (journal ++ more) ≡ take at journal
  front_same at low = take-append-le at journal more low

  begins : (at : ℕ) (begun : HartState) → BeginsFinals w journal registers from ended at begun → BeginsFinals w (journal ++ more) registers from ended at begun
  begins at begun x =
      let same = front_same at x.within in
      let count : length (journal ++ more) ≡ length journal + length more = length-append journal more in
      let low : at ≤ length journal = x.within in
      record {
        code = x.code;
        exited = x.exited;
        since = x.since;
        within = omega (arith, low, count);
        none = none_longer w journal more 0 from at x.within x.none;
        over = subst (λ (es : List Event). IsTrue (have_exited w (after es))) (sym same) x.over;
        object = x.object;
        rest = x.rest;
        next = ap (λ (es : List Event). all_finis (after es)) same ∙ x.next;
        addresses = x.addresses;
        are = subst (λ (es : List Event). AreAddresses destructors x.addresses (image_of (after es) x.object)) (sym same) x.are;
        is = x.is;
      }

  lacks : (at : ℕ) → LacksList w journal from ended at → LacksList w (journal ++ more) from ended at
  lacks at x =
      let low : at < length journal = get_low journal at (Ended 0 Memory) x.ends in
      record {
        code = x.code;
        exited = x.exited;
        since = x.since;
        none = none_longer w journal more 0 from at (omega (arith, low)) x.none;
        over = subst (λ (es : List Event). IsTrue (have_exited w (after es))) (sym (front_same at (omega (arith, low)))) x.over;
        ends = get_front journal more at (Ended 0 Memory) x.ends;
      }

  pub behind_stays : (first reason : HartEnd) (rest : List TrailItem) → LeavesBehind w journal h registers from ended first reason rest
      → LeavesBehind w (journal ++ more) h registers from ended first reason rest
  behind_stays first reason rest (LeavesBehind.is_another other none) = LeavesBehind.is_another other (none_with w journal more h from (length (journal ++ more)) none others)
  behind_stays first reason rest (LeavesBehind.none_runs is none runs) = LeavesBehind.none_runs is (none_with w journal more h from (length (journal ++ more)) none others) (exits is ∙ runs)
  behind_stays first reason rest (LeavesBehind.none_is_left is none empty) = LeavesBehind.none_is_left is (none_with w journal more h from (length (journal ++ more)) none others) (left is ∙ empty)
  behind_stays first reason rest (LeavesBehind.no_memory is at x none) =
      let low : at < length journal = get_low journal at (Ended 0 Memory) x.ends in
      subst (λ (es : List Event). LeavesBehind w (journal ++ more) h registers from ended first Memory (Took (entry_behind es (Ended 0 Memory)) ∷ [])) (front_same at (omega (arith, low)))
      (LeavesBehind.no_memory is at (lacks at x) (none_with w journal more h (at + 1) (length (journal ++ more)) none others))
  behind_stays first reason rest (LeavesBehind.all_run is at to begun last turns trail reason' start follows over none) =
      LeavesBehind.all_run is at to begun last turns trail reason (begins at begun start) (stay w journal more h at to begun last turns trail follows) over
      (none_with w journal more h to (length (journal ++ more)) none others)

pub ways_stay : TrailsStay → WaysStay
ways_stay stay w journal more start h reason trail x others exits left = record {
  turns = x.turns;
  own = x.own;
  to = x.to;
  ended = x.ended;
  follows = stay w journal more h start.from x.to start.hart x.ended x.turns x.own x.follows;
  first = x.first;
  ends = x.ends;
  rest = x.rest;
  behind = behind_stays stay w journal more h others exits left start.registers x.to x.ended x.first reason x.rest x.behind;
  whole = x.whole;
}
