-- A run is over: what its harts' ways and the keeper's last word come to.
use Rattle.std.proofs.Common.{◌≡◌, ◌⊎◌, ⊎_elim, inl, inr, ℕ, zero, suc, ◌+◌, ◌≤◌, ◌<◌, ◌&&◌, drop, take, List, [], ◌∷◌, ◌++◌, length, length-append, lt_of_not-le, map, Option, Some, None, refl, sym, ap, subst, ◌∙◌, append_assoc, arith}
use mathlib.Core.Logic.{dite}
use native.Mathlib.Decide.{dec_le}
use Rattle.std.proofs.Math.Seq.{drop-append_seam, take-append_seam}
use Rattle.std.proofs.lemmas.List.{length-map}
use Rattle.std.specs.Prelude.{nat_le}
use Rattle.std.specs.List.{Contains, list_all, slice_get}
use Rattle.std.proofs.lemmas.List.Elements.{Contains-append_right}
use Rattle.std.proofs.lemmas.Option.{none-some, slice_get_within}
use Rattle.history_event.specs.declared.event.Event.{Event}
use Rattle.history_event.specs.declared.event.Event.TheVariants.{Ended}
use Rattle.history_event.specs.declared.hart_end.HartEnd.{HartEnd}
use Rattle.history_event.specs.declared.state.Ending.{Ending}
use Rattle.history_calls.specs.declared.link_served.startup.Setup.{Setup}
use Rattle.history_calls.specs.declared.link_served.startup.Started.{Started}
use Rattle.history_calls.specs.Laws.{hart_of}
use Rattle.history_calls.specs.RunJournal.{AreByHarts, CountsEachHart, IsRunJournal, RunJournalsGrow, RunJournalsStart}
use Rattle.history_calls.specs.Startup.{Starts}
use Rattle.history_state.specs.After.{after}
use Rattle.history_state.specs.Allowed.{MayEnd}
use Rattle.history_state.specs.Lemmas.Lists.{at_in, first_or_later, here, later, none_in}
use Rattle.history_state.specs.Legal.{Legal, Whole}
use Rattle.history_state.specs.Setting.{Setting, exited}
use Rattle.hart_fits.specs.Over.{RunningIsNotOver, RunsYet}
use Rattle.hart_moves.specs.Follows.{AreOthers, HasNone}
use Rattle.hart_moves.specs.Laws.{EndedStays}
use Rattle.hart_moves.specs.Starting.{HartStart}
use Rattle.hart_moves.specs.TurnEvents.Laws.{TurnsAppend}
use Rattle.hart_threads.specs.Constructed.{GoesOn}
use Rattle.hart_threads.specs.Laws.{WaysStay}
use Rattle.hart_trails.specs.Ends.{EndIsLast, StartIsFresh}
use Rattle.hart_trails.specs.Fuel.{FuelBounds}
use Rattle.hart_trails.specs.Laws.{EndsFollow, MarksFollow}
use Rattle.hart_trails.specs.Owners.{AreNobodys}
use Rattle.hart_trails.specs.Trails.{LeavesToItsEnd}
use Rattle.kept_words.specs.Kept.{AreKept}
use Rattle.kept_words.specs.Over.{IsFinished, IsOver}
use Rattle.link_keeper.specs.Finishing.{IsExchangeOf, RunIsOver, TrailIsClosed, knows}
use Rattle.link_keeper.specs.Keeping.{FirstGoesOn}
use Rattle.link_keeper.specs.Rounds.{AreAllRounds}
use Rattle.trace_text.specs.RunTexts.Ends.{last_end}
use Rattle.trace_text.specs.declared.run_texts.record.RunRecord.{RunRecord}
use Rattle.word_rule.specs.declared.view.HartView.{HartView}
use Rattle.word_rule.specs.declared.view.TrailItem.{TrailItem}
use Rattle.word_rule.specs.declared.view.KeeperView.{KeeperView}
use Rattle.word_rule.specs.Views.{BeginsWith}
use Rattle.world_threads.specs.Running.{HaveRun, WayOf}
use Rattle.world_threads.specs.Threaded.{HartRan, IsThreaded, set_off_behind}
use Rattle.world_threads.proofs.Finished.{finishes, nobodys_end, nobodys_leave}
use Rattle.world_threads.proofs.Journal.{are_by_harts, may as may_end, yet_across}
use Rattle.world_threads.proofs.LastEnds.{last_end_is}
use Rattle.world_threads.proofs.Started.{none_ended}

-- ---- lists

-- an element behind so many
got_behind : (past more : List Event) (k : ℕ) (e : Event) → slice_get more k ≡ Some e → slice_get (past ++ more) (length past + k) ≡ Some e
got_behind [] more k e got = subst (λ (n : ℕ). slice_get more n ≡ Some e) (let same : k ≡ 0 + k = omega arith in same) got
got_behind (x ∷ past) more k e got = subst (λ (n : ℕ). slice_get (x ∷ past ++ more) n ≡ Some e) (let same : suc (length past + k) ≡ suc (length past) + k = omega arith in same) (got_behind past more k e got)

in_at : (es : List Event) (e : Event) → Contains es e → (k : ℕ) × (slice_get es k ≡ Some e)
in_at [] e there = absurd (none_in e there)
in_at (x ∷ es) e there = ⊎_elim
    (λ (same : x ≡ e). (zero, ap (λ (y : Event). Some y) same))
    (λ (behind : Contains es e). let at = in_at es e behind in (suc at.0, at.1))
    (first_or_later x es e there)

-- an element of two lists one behind the other is in the front of the first, or in the second
split_at : (xs ys zs : List Event) (e : Event) (ws : List Event) → xs ++ ys ≡ zs ++ e ∷ ws → ((rest : List Event) × (xs ≡ zs ++ e ∷ rest)) ⊎ Contains ys e
split_at [] ys [] e ws are = inr (subst (λ (es : List Event). Contains es e) (sym are) (here e ws))
split_at [] ys (z ∷ zs) e ws are = inr (subst (λ (es : List Event). Contains es e) (sym are) (later z (zs ++ e ∷ ws) e (in_back zs e ws)))
  where
    in_back : (zs : List Event) (e : Event) (ws : List Event) → Contains (zs ++ e ∷ ws) e
    in_back [] e ws = here e ws
    in_back (z ∷ zs) e ws = later z (zs ++ e ∷ ws) e (in_back zs e ws)
split_at (x ∷ xs) ys [] e ws are = inl (xs, (let same : x ≡ e = cc in ap (λ (y : Event). y ∷ xs) same))
split_at (x ∷ xs) ys (z ∷ zs) e ws are =
    let same : x ≡ z = cc in
    let tails : xs ++ ys ≡ zs ++ e ∷ ws = cc in
    ⊎_elim
    (λ (front : (rest : List Event) × (xs ≡ zs ++ e ∷ rest)). inl (front.0, (λ i. same i ∷ front.1 i)))
    (λ (behind : Contains ys e). inr behind)
    (split_at xs ys zs e ws tails)

-- those that a longer list has more
behind_in : (front more : List Event) (k : ℕ) (e : Event) → length front ≤ k → slice_get (front ++ more) k ≡ Some e → Contains more e
behind_in [] more k e low got = at_in more k e got
behind_in (x ∷ front) more zero e low got = absurd (let no : suc (length front) ≤ 0 = low in omega (arith, no))
behind_in (x ∷ front) more (suc k) e low got = behind_in front more k e (let less : suc (length front) ≤ suc k = low in omega (arith, less)) got

front_part : (xs ys : List Event) (k : ℕ) → k < length xs → slice_get (xs ++ ys) k ≡ slice_get xs k
front_part [] ys k low = absurd (let no : k < 0 = low in omega (arith, no))
front_part (x ∷ xs) ys zero low = refl
front_part (x ∷ xs) ys (suc k) low = front_part xs ys k (let less : suc k < suc (length xs) = low in omega (arith, less))

-- ---- harts' views in their order

seat_at : (seats : List HartView) (k : ℕ) → k < length seats → (j : HartView) × (slice_get seats k ≡ Some j)
seat_at [] k low = absurd (let no : k < 0 = low in omega (arith, no))
seat_at (j ∷ seats) zero low = (j, refl)
seat_at (j ∷ seats) (suc k) low = seat_at seats k (let less : suc k < suc (length seats) = low in omega (arith, less))

end_at : (ends : List HartEnd) (k : ℕ) → k < length ends → (reason : HartEnd) × (slice_get ends k ≡ Some reason)
end_at [] k low = absurd (let no : k < 0 = low in omega (arith, no))
end_at (r ∷ ends) zero low = (r, refl)
end_at (r ∷ ends) (suc k) low = end_at ends k (let less : suc k < suc (length ends) = low in omega (arith, less))

in_map : (f : HartView → HartView) (seats : List HartView) (k : ℕ) (j : HartView) → slice_get seats k ≡ Some j → slice_get (map f seats) k ≡ Some (f j)
in_map f [] k j got = absurd (none-some j got)
in_map f (i ∷ seats) zero j got = (let same : i ≡ j = cc in ap (λ (h : HartView). Some (f h)) same)
in_map f (i ∷ seats) (suc k) j got = in_map f seats k j got

from_map : (f : HartView → HartView) (seats : List HartView) (k : ℕ) (h : HartView) → slice_get (map f seats) k ≡ Some h → (j : HartView) × (slice_get seats k ≡ Some j) × (f j ≡ h)
from_map f [] k h got = absurd (none-some h got)
from_map f (i ∷ seats) zero h got = (i, refl, (let same : f i ≡ h = cc in same))
from_map f (i ∷ seats) (suc k) h got = from_map f seats k h got

-- ---- the run

pub record Laws : Type 0 where
  pub stay : WaysStay
  pub follow : EndsFollow
  pub append : TurnsAppend
  pub ended : EndedStays
  pub marks : MarksFollow
  pub last : EndIsLast
  pub fresh : StartIsFresh
  pub running : RunningIsNotOver
  pub start : RunJournalsStart
  pub grow : RunJournalsGrow
  pub fuel : FuelBounds

-- what is known where the run is over
pub record IsOverAt (w : Setting) (setup : Setup) (past : List Event) (started : Started) (before journal : List Event) (ends : List HartEnd) (seats : List HartView) : Type 0 where
  pub over : RunIsOver w past before journal seats
  pub last : FirstGoesOn w before
  pub some : 0 < w.machine.harts
  pub run : HaveRun w setup past started ends seats

module _ (laws : Laws) (w : Setting) (setup : Setup) (past : List Event) (started : Started) (before journal : List Event) (ends : List HartEnd) (seats : List HartView)
    (x : IsOverAt w setup past started before journal ends seats) where
  -- behind what a hart has heard nothing is its own
  others : (h : ℕ) (j : HartView) → slice_get seats h ≡ Some j → (rest : List Event) → journal ≡ j.heard ++ rest → AreOthers h rest
  others h j at rest are e there own =
      let place = in_at rest e there in
      let got : slice_get journal (length j.heard + place.0) ≡ Some e = subst (λ (es : List Event). slice_get es (length j.heard + place.0) ≡ Some e) (sym are) (got_behind j.heard rest place.0 e place.1) in
      let within : length j.heard + place.0 < length journal = slice_get_within journal (length j.heard + place.0) e got in
      (x.over.trails h j at).none (length j.heard + place.0) e (omega arith) within got own

  -- behind what the first one has heard all is nobody's
  nobodys : (first : HartView) → slice_get seats 0 ≡ Some first → (rest : List Event) → journal ≡ first.heard ++ rest → AreNobodys rest
  nobodys first at rest are e there = by (hart_of e) refl
    where
      of_none : (m : ℕ) → hart_of e ≡ Some m → ⊥
      of_none zero own = others 0 first at rest are e there own
      of_none (suc m) own =
          let low : suc m < length seats = (let there_is = x.over.own e (suc m) (subst (λ (es : List Event). Contains es e) (sym are) (Contains-append_right first.heard rest e there)) own in let all = x.run.all in omega (arith, there_is, all)) in
          let j = seat_at seats (suc m) low in
          let front = x.run.fronts first (suc m) j.0 at (omega arith) j.1 in
          others (suc m) j.0 j.1 (front.0 ++ rest) (are ∙ ap (λ (es : List Event). es ++ rest) front.1 ∙ append_assoc j.0.heard front.0 rest) e (Contains-append_right front.0 rest e there) own

      by : (o : Option ℕ) → hart_of e ≡ o → hart_of e ≡ None
      by None is = is
      by (Some m) is = absurd (of_none m is)

  -- only the first hart's events come, once every hart has ended by exit, and nobody's
  goes_on : FirstGoesOn w journal
  goes_on front e rest are over = ⊎_elim
      (λ (there : (tail : List Event) × (before ≡ front ++ e ∷ tail)). x.last front e there.0 there.1 over)
      (λ (there : Contains x.over.more e). inr (x.over.nobodys e there))
      (split_at before x.over.more front e rest (sym x.over.are ∙ are))

  -- ---- each way, over the whole journal

  module _ (h : ℕ) (reason : HartEnd) (j : HartView) (at_end : slice_get ends h ≡ Some reason) (at : slice_get seats h ≡ Some j) where
    pub closed : TrailIsClosed w past journal h j
    closed = x.over.trails h j at

    pub of : WayOf w setup past x.run.alone started x.run.constructed h reason j
    of = x.run.ways h reason j at_end at

    still : h ≡ 0 → AreNobodys closed.longer.0
    still zeroth = nobodys j (subst (λ (n : ℕ). slice_get seats n ≡ Some j) zeroth at) closed.longer.0 closed.longer.1

    stays : (start : HartStart) (trail : List TrailItem) → LeavesToItsEnd w j.heard start h reason trail → LeavesToItsEnd w journal start h reason trail
    stays start trail way = subst (λ (es : List Event). LeavesToItsEnd w es start h reason trail) (sym closed.longer.1)
        (laws.stay w j.heard closed.longer.0 start h reason trail way (others h j at closed.longer.0 closed.longer.1)
        (λ zeroth. ap (λ (es : List Ending). nat_le w.machine.harts (length es) && list_all exited (take w.machine.harts es)) (nobodys_end j.heard closed.longer.0 (still zeroth)))
        (λ zeroth. nobodys_leave j.heard closed.longer.0 (still zeroth)))

    pub way_on : LeavesToItsEnd w journal of.start h reason j.trail
    way_on = stays of.start j.trail of.way

    first_on : h ≡ 0 → GoesOn w setup past x.run.alone started x.run.constructed journal reason j.trail
    first_on zeroth =
        let goes = of.first zeroth in
        let start : HartStart = record x.run.constructed.start { from = length (past ++ x.run.alone); hart = x.run.constructed.hart } in
        record {
          rest = goes.rest;
          whole = goes.whole;
          way = subst (λ (n : ℕ). LeavesToItsEnd w journal start n reason goes.rest) zeroth
              (stays start goes.rest (subst (λ (n : ℕ). LeavesToItsEnd w j.heard start n reason goes.rest) (sym zeroth) goes.way));
        }

    -- so it is of the view that the keeper keeps
    joined_none : HasNone journal h (length before) (length journal)
    joined_none k e from to got own =
        let there : Contains x.over.more e = behind_in before x.over.more k e from (subst (λ (es : List Event). slice_get es k ≡ Some e) x.over.are got) in
        let no : None ≡ Some h = sym (x.over.nobodys e there) ∙ own in
        cc no

    pub hart_ran : HartRan w setup past x.run.alone started x.run.constructed journal h reason (knows before j)
    hart_ran = record {
      start = of.start;
      sets_off = of.sets_off;
      way = way_on;
      first = first_on;
      says = record {
        number = closed.number;
        longer = (x.over.more, x.over.are);
        none = joined_none;
        is_true = record {
          issued = closed.is_true.issued;
          events = closed.is_true.events;
          granted = closed.is_true.granted;
          won = closed.is_true.won;
          lost = closed.is_true.lost;
          fetched = closed.is_true.fetched;
        };
        rising = closed.rising;
        kept = closed.kept;
      };
      once = laws.marks w journal of.start h reason j.trail way_on closed.kept;
      few = laws.fuel w journal setup.fuel (set_off_behind past x.run.alone h) started of.start h reason j.trail of.sets_off way_on;
    }

  -- the end that it leads to is the last one
  last_is : (h : ℕ) (reason : HartEnd) → slice_get ends h ≡ Some reason → last_end h (after journal).endings ≡ Some reason
  last_is h reason at_end =
      let low : h < length seats = (let within = slice_get_within ends h reason at_end in let seats_are = x.run.all in let ends_are = x.run.all_end in omega (arith, within, seats_are, ends_are)) in
      let j = seat_at seats h low in
      let way = of h reason j.0 at_end j.1 in
      last_end_is journal h way.start.from reason
      (laws.last w journal way.start h reason j.0.trail (laws.fresh setup.fuel (set_off_behind past x.run.alone h) started h way.start way.sets_off) (way_on h reason j.0 at_end j.1))

  -- ---- the whole of it

  finished : IsFinished w journal
  finished finals =
      let low : 0 < length seats = (let some = x.some in let all = x.run.all in omega (arith, some, all)) in
      let low_end : 0 < length ends = (let some = x.some in let all = x.run.all_end in omega (arith, some, all)) in
      let j = seat_at seats 0 low in
      let reason = end_at ends 0 low_end in
      let start = (of 0 reason.0 j.0 reason.1 j.1).start in
      finishes laws.append laws.ended w journal start reason.0 goes_on (laws.follow w journal start 0 reason.0 j.0.trail (way_on 0 reason.0 j.0 reason.1 j.1)) finals

  -- ---- startup's constructors come first

  first_seat : (j : HartView) × (slice_get seats 0 ≡ Some j)
  first_seat = seat_at seats 0 (let some = x.some in let all = x.run.all in omega (arith, some, all))

  first_end : (reason : HartEnd) × (slice_get ends 0 ≡ Some reason)
  first_end = end_at ends 0 (let some = x.some in let all = x.run.all_end in omega (arith, some, all))

  begins_alone : BeginsWith journal (past ++ x.run.alone)
  begins_alone =
      let longer = (closed 0 first_end.0 first_seat.0 first_end.1 first_seat.1).longer in
      let begun = x.run.begun first_seat.0 first_seat.1 in
      (begun.0 ++ longer.0, longer.1 ∙ ap (λ (es : List Event). es ++ longer.0) begun.1 ∙ append_assoc (past ++ x.run.alone) begun.0 longer.0)

  behind_alone : (rest : List Event) × (x.over.begins.0 ≡ x.run.alone ++ rest)
  behind_alone = (
    begins_alone.0,
    sym (drop-append_seam past x.over.begins.0) ∙ ap (drop (length past)) (sym x.over.begins.1 ∙ begins_alone.1 ∙ append_assoc past x.run.alone begins_alone.0)
        ∙ drop-append_seam past (x.run.alone ++ begins_alone.0),
  )

  -- an event of another hart stands behind them
  late : (h k : ℕ) (e : Event) → length past ≤ k → slice_get journal k ≡ Some e → hart_of e ≡ Some h → length (set_off_behind past x.run.alone h) ≤ k
  late zero k e low there is = low
  late (suc h) k e low there is = dite (dec_le (length (past ++ x.run.alone)) k)
      (λ (behind : length (past ++ x.run.alone) ≤ k). behind)
      (λ (early : ¬ (length (past ++ x.run.alone) ≤ k)).
      let inside : Contains x.run.alone e = behind_in past x.run.alone k e low
      (sym (front_part (past ++ x.run.alone) begins_alone.0 k (lt_of_not-le early)) ∙ ap (λ (es : List Event). slice_get es k) (sym begins_alone.1) ∙ there) in
      absurd (let no : suc h ≡ 0 = x.run.constructed.own e (suc h) inside is in omega (arith, no)))

  -- so no end of its hart stands before it
  front_low : (h : ℕ) → length past ≤ length (set_off_behind past x.run.alone h)
  front_low zero = omega arith
  front_low (suc h) = let long : length (past ++ x.run.alone) ≡ length past + length x.run.alone = length-append past x.run.alone in omega (arith, long)

  at_start : Starts w setup past started → (h : ℕ) → RunsYet h (take (length past) journal)
  at_start starts h = subst (RunsYet h) (sym (ap (take (length past)) x.over.begins.1 ∙ take-append_seam past x.over.begins.0))
      (λ there. none_in h (subst (λ (es : List Ending). Contains (map (λ e. e.hart) es) h) (none_ended w setup past started starts) there))

  none_yet : Starts w setup past started → (h : ℕ) → RunsYet h (take (length (set_off_behind past x.run.alone h)) journal)
  none_yet starts h = yet_across w journal h (length past) (length (set_off_behind past x.run.alone h)) (front_low h)
      (λ k reason since before there. let behind = late h k (Ended h reason) since there refl in omega (arith, before, behind)) (at_start starts h)

  -- before each of its events its hart may end
  may : Starts w setup past started → (h k : ℕ) (e : Event) → h < w.machine.harts → length past ≤ k → slice_get journal k ≡ Some e → hart_of e ≡ Some h → MayEnd w (after (take k journal)) h
  may starts h k e less low there is =
      let seats_are = x.run.all in
      let ends_are = x.run.all_end in
      let j = seat_at seats h (omega (arith, less, seats_are)) in
      let reason = end_at ends h (omega (arith, less, ends_are)) in
      let way = of h reason.0 j.0 reason.1 j.1 in
      may_end laws.running w journal x.over.legal x.over.own goes_on h less way.start reason.0 (laws.fresh setup.fuel (set_off_behind past x.run.alone h) started h way.start way.sets_off).runs
      (subst (λ (n : ℕ). RunsYet h (take n journal)) (sym way.sets_off.from) (none_yet starts h))
      (laws.follow w journal way.start h reason.0 j.0.trail (way_on h reason.0 j.0 reason.1 j.1))
      k e (let from : way.start.from ≡ length (set_off_behind past x.run.alone h) = way.sets_off.from in let behind = late h k e low there is in omega (arith, from, behind)) there is

  -- so startup's events and those are the journal of a run
  by_harts : Starts w setup past started → IsRunJournal w setup (past ++ x.over.begins.0)
  by_harts starts = laws.grow w setup past x.over.begins.0 (laws.start w setup past started starts) (are_by_harts w past x.over.begins.0 journal x.over.begins.1 x.over.own (may starts))

  abbrev by_of : Starts w setup past started → (all : List Event) → all ≡ journal → IsRunJournal w setup all
  by_of starts all same = record {
    startup = past;
    started = started;
    starts = starts;
    others = x.over.begins.0;
    are = same ∙ x.over.begins.1;
    by = subst (AreByHarts w []) (sym (same ∙ x.over.begins.1)) (by_harts starts).by;
    counts = λ k. subst (λ (es : List Event). CountsEachHart w (after (take k es))) (sym (same ∙ x.over.begins.1)) ((by_harts starts).counts k);
  }

  pub threaded : (left : RunRecord) (trails : KeeperView) → left.journal.events ≡ journal → left.ends ≡ ends → trails.events ≡ journal
      → trails.joined ≡ map (knows before) seats → AreKept w past trails → IsOver trails → AreAllRounds w past trails.events trails.opens → Starts w setup past started
      → IsThreaded w setup left trails
  threaded left trails events_are ends_are counted joined kept known rounds starts = record {
    by = by_of starts left.journal.events events_are;
    alone = x.run.alone;
    more = behind_alone.0;
    others_are = behind_alone.1;
    constructed = x.run.constructed;
    legal = subst (Legal w) (sym events_are) x.over.legal;
    whole = subst (Whole w) (sym events_are) (x.over.whole finished);
    counted = counted ∙ sym events_are;
    kept = kept;
    over = known;
    rounds = subst (λ (es : List Event). AreAllRounds w past es trails.opens) (counted ∙ sym events_are) rounds;
    last = record {
      all = ap length ends_are ∙ x.run.all_end;
      each = λ h reason at.
          ap (λ (es : List Event). last_end h (after es).endings) events_are ∙ last_is h reason (subst (λ (rs : List HartEnd). slice_get rs h ≡ Some reason) ends_are at);
    };
    all_told = ap length joined ∙ length-map seats (knows before) ∙ x.run.all;
    each = λ h reason hart at_end at.
        let got = from_map (knows before) seats h hart (subst (λ (js : List HartView). slice_get js h ≡ Some hart) joined at) in
        subst (λ (es : List Event). HartRan w setup past x.run.alone started x.run.constructed es h reason hart) (sym events_are)
        (subst (HartRan w setup past x.run.alone started x.run.constructed journal h reason) got.2 (hart_ran h reason got.0 (subst (λ (rs : List HartEnd). slice_get rs h ≡ Some reason) ends_are at_end) got.1));
    fates = λ number f e there is.
        let of_seat = x.over.fates number f e (subst (λ (es : List Event). Contains es e) events_are there) is in
        subst (λ (es : List Event). IsExchangeOf es trails.joined number f e) (sym events_are) (record {
          hart = of_seat.hart;
          view = knows before of_seat.view;
          there = ap (λ (js : List HartView). slice_get js of_seat.hart) joined ∙ in_map (knows before) seats of_seat.hart of_seat.view of_seat.there;
          grant = of_seat.grant;
          event = of_seat.event;
          number_is = of_seat.number_is;
          come = of_seat.come;
          shown = of_seat.shown;
        });
  }
