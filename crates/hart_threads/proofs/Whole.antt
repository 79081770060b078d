-- A hart's whole way, to its end.
use Rattle.std.proofs.Common.{◌≡◌, ◌≢◌, IsTrue, ℕ, ◌+◌, ◌≤◌, ◌<◌, false, List, [], ◌∷◌, ◌++◌, length, take, Some, refl, sym, ap, subst, ◌∙◌, append_assoc, append-nil, length-append, arith}
use Rattle.std.proofs.lemmas.List.{take-append-le}
use Rattle.history_event.specs.declared.event.Event.{Event}
use Rattle.history_event.specs.declared.event.Event.TheVariants.{Ended}
use Rattle.history_event.specs.declared.hart_end.HartEnd.{HartEnd}
use Rattle.history_event.specs.declared.hart_end.HartEnd.TheVariants as ends
use Rattle.word_rule.specs.declared.view.HartView.{HartView}
use Rattle.word_rule.specs.declared.view.TrailItem.{TrailItem}
use Rattle.word_rule.specs.declared.view.TrailItem.TheVariants.{Took}
use Rattle.word_rule.specs.Views.{BeginsWith}
use Rattle.history_state.specs.After.{after}
use Rattle.history_state.specs.Setting.{Setting, have_exited, is_exit}
use Rattle.history_state.specs.Lemmas.History.{legal_is_lawful}
use Rattle.history_state.specs.Memory.{image_of}
use Rattle.history_calls.specs.Functions.{AreAddresses, destructors}
use Rattle.hart_moves.specs.Follows.{BeginsFinals, HasNone, LacksList}
use Rattle.hart_moves.specs.Harts.{HartState}
use Rattle.hart_moves.specs.Lemmas.Following.{none_longer}
use Rattle.hart_moves.specs.Moves.{all_finis}
use Rattle.hart_moves.specs.Starting.{HartStart}
use Rattle.hart_moves.specs.TurnEvents.Laws.{FinalsStayAway, TurnsAppend}
use Rattle.hart_fits.specs.Lemmas.Owners.{owners_end}
use Rattle.hart_fits.specs.Over.{UnexitedIsNotOver}
use Rattle.hart_trails.specs.Entries.{entry_behind}
use Rattle.hart_trails.specs.Laws.{TrailsStay}
use Rattle.hart_trails.specs.Trails.{FollowsBy, LeavesBehind}
use Rattle.hart_linker.specs.Between.{HasHeard}
use Rattle.hart_linker.specs.Finals.{BeginsLast, OnlyHears}
use Rattle.hart_linker.specs.declared.finals.Beginning.{Beginning}
use Rattle.hart_linker.specs.declared.finals.Beginning.TheVariants as beginnings
use Rattle.hart_threads.specs.Ends.{EndsTold, IsNewAt, RanWhole}
use Rattle.hart_threads.specs.Turns.{Proceeds, RunsBy}
use Rattle.hart_threads.proofs.Stepping.{front, none_joined, none_there}
use Rattle.hart_threads.proofs.Told.{ends_told, told_to}

-- ---- the first end, and nothing behind it

module _ (w : Setting) (start : HartStart) (begun : List TrailItem) (seat : HartView) (b : HartState) (reason : HartEnd) (r : RunsBy w start.from start.hart begun seat b) (over : b.«end» ≡ Some reason) where
  with_behind : LeavesBehind w seat.heard seat.number start.registers r.to b reason reason [] → RanWhole w start begun seat reason
  with_behind behind = record {
    own = r.own;
    way = record { turns = r.turns; own = r.own; to = r.to; ended = b; follows = r.follows; first = reason; ends = over; rest = []; behind = behind; whole = sym (append-nil r.own) };
    trail = r.trail;
  }

  pub whole_other : seat.number ≢ 0 → RanWhole w start begun seat reason
  whole_other other = with_behind (LeavesBehind.is_another other r.none)

  -- a first hart that ended otherwise than by exit
  pub whole_unexited : TurnsAppend → FinalsStayAway → UnexitedIsNotOver → seat.number ≡ 0 → 0 < w.machine.harts → (begins : List Event) → HasHeard w begins seat → start.from ≤ length seat.heard
      → IsNewAt start seat → is_exit reason ≡ false → RanWhole w start begun seat reason
  whole_unexited append away not_over first some begins heard low new unless = with_behind (LeavesBehind.none_runs first r.none none)
    where
      told : EndsTold seat.number seat.heard b
      told = told_to seat.number seat.heard r.to b r.late r.none
          (ends_told append away w seat.heard seat.number start.from r.to start.hart b r.turns r.own r.follows new.no_finals new.told)

      none : have_exited w (after seat.heard) ≡ false
      none = not_over w seat.heard seat.number (legal_is_lawful w seat.heard heard.legal) (subst (λ (n : ℕ). n < w.machine.harts) (sym first) some) (owners_end w seat.heard heard.own)
          (λ e there own. let same : Some e.«end» ≡ Some reason = sym (told e there own) ∙ over in ap is_exit (some_same e.«end» reason same) ∙ unless)
        where
          some_same : (x y : HartEnd) → Some x ≡ Some y → x ≡ y
          some_same x y e = cc

-- ---- the first hart, once the final destructors were asked for

module _ (stay : TrailsStay) (w : Setting) (start : HartStart) (begun : List TrailItem) (before now : HartView) (b : HartState) (first_end : HartEnd)
    (r : RunsBy w start.from start.hart begun before b) (over : b.«end» ≡ Some first_end) (longer : BeginsWith now.heard before.heard) (number : before.number ≡ 0) (same : now.number ≡ before.number) where
  zeroth : now.number ≡ 0
  zeroth = same ∙ number

  -- its way up to there, over all that it knows then
  follows : FollowsBy w now.heard now.number start.from start.hart r.turns r.own r.to b
  follows = subst (λ (n : ℕ). FollowsBy w now.heard n start.from start.hart r.turns r.own r.to b) (sym same)
      (subst (λ (es : List Event). FollowsBy w es before.number start.from start.hart r.turns r.own r.to b) (sym longer.1)
      (stay w before.heard longer.0 before.number start.from r.to start.hart b r.turns r.own r.follows))

  since : (at : ℕ) → HasNone now.heard before.number (length before.heard) at → HasNone now.heard now.number r.to at
  since at none =
      subst (λ (n : ℕ). HasNone now.heard n r.to at) (sym same)
      (none_joined now.heard before.number r.to (length before.heard) at
      (subst (λ (es : List Event). HasNone es before.number r.to (length before.heard)) (sym longer.1) (none_longer w before.heard longer.0 before.number r.to (length before.heard) (omega arith) r.none))
      none)

  with_rest : (reason : HartEnd) (rest : List TrailItem) → now.trail ≡ before.trail ++ rest → LeavesBehind w now.heard now.number start.registers r.to b first_end reason rest
      → RanWhole w start begun now reason
  with_rest reason rest trail behind = record {
    own = r.own ++ rest;
    way = record { turns = r.turns; own = r.own; to = r.to; ended = b; follows = follows; first = first_end; ends = over; rest = rest; behind = behind; whole = refl };
    trail = trail ∙ ap (λ (t : List TrailItem). t ++ rest) r.trail ∙ append_assoc begun r.own rest;
  }

  unchanged : now.trail ≡ before.trail → now.trail ≡ before.trail ++ []
  unchanged trail = trail ∙ sym (append-nil before.trail)

  pub whole_running : now.trail ≡ before.trail → have_exited w (after now.heard) ≡ false → HasNone now.heard before.number (length before.heard) (length now.heard)
      → RanWhole w start begun now first_end
  whole_running trail none_over none = with_rest first_end [] (unchanged trail) (LeavesBehind.none_runs zeroth (since (length now.heard) none) none_over)

  pub whole_finished : now.trail ≡ before.trail → all_finis (after now.heard) ≡ [] → HasNone now.heard before.number (length before.heard) (length now.heard)
      → RanWhole w start begun now first_end
  whole_finished trail none_left none = with_rest first_end [] (unchanged trail) (LeavesBehind.none_is_left zeroth (since (length now.heard) none) none_left)

  pub whole_lacking : (past : List Event) → now.heard ≡ past ++ Ended 0 ends.Memory ∷ [] → LacksList w now.heard (length before.heard) b (length past)
      → now.trail ≡ before.trail ++ Took (entry_behind past (Ended 0 ends.Memory)) ∷ [] → RanWhole w start begun now ends.Memory
  whole_lacking past heard lacks trail =
      let count : length now.heard ≡ length past + 1 = ap length heard ∙ length-append past (Ended 0 ends.Memory ∷ []) in
      let here : take (length past) now.heard ≡ past = ap (take (length past)) heard ∙ front past (Ended 0 ends.Memory ∷ []) in
      let low : r.to ≤ length before.heard = r.late in
      let later : length before.heard ≤ length past = lacks.since in
      with_rest ends.Memory (Took (entry_behind past (Ended 0 ends.Memory)) ∷ []) trail
      (subst (λ (es : List Event). LeavesBehind w now.heard now.number start.registers r.to b first_end ends.Memory (Took (entry_behind es (Ended 0 ends.Memory)) ∷ [])) here
      (LeavesBehind.no_memory zeroth (length past) (record {
        code = lacks.code;
        exited = lacks.exited;
        since = omega (arith, low, later);
        none = subst (λ (n : ℕ). HasNone now.heard n r.to (length past)) zeroth (since (length past) (subst (λ (n : ℕ). HasNone now.heard n (length before.heard) (length past)) (sym number) lacks.none));
        over = lacks.over;
        ends = lacks.ends;
      }) (subst (λ (n : ℕ). HasNone now.heard now.number (length past + 1) n) (sym count) (none_there now.heard now.number (length past + 1)))))

  -- they began, and the hart ran them to its end
  module _ (last : HartView) (c d : HartState) (reason : HartEnd) (begins : BeginsFinals w now.heard start.registers (length before.heard) b (length now.heard) c) (trail : now.trail ≡ before.trail)
      (on : RunsBy w (length now.heard) c now.trail last d) (further : BeginsWith last.heard now.heard) (number_on : last.number ≡ now.number) (ended : d.«end» ≡ Some reason) where
    last_zeroth : last.number ≡ 0
    last_zeroth = number_on ∙ zeroth

    at_begin : take (length now.heard) last.heard ≡ take (length now.heard) now.heard
    at_begin = ap (take (length now.heard)) further.1 ∙ take-append-le (length now.heard) now.heard further.0 (omega arith)

    begins_on : BeginsFinals w last.heard start.registers r.to b (length now.heard) c
    begins_on =
        let low : r.to ≤ length before.heard = r.late in
        let later : length before.heard ≤ length now.heard = begins.since in
        let count : length last.heard ≡ length now.heard + length further.0 = ap length further.1 ∙ length-append now.heard further.0 in
        record {
          code = begins.code;
          exited = begins.exited;
          since = omega (arith, low, later);
          within = omega (arith, count);
          none = subst (λ (es : List Event). HasNone es 0 r.to (length now.heard)) (sym further.1)
              (none_longer w now.heard further.0 0 r.to (length now.heard) (omega arith)
              (subst (λ (n : ℕ). HasNone now.heard n r.to (length now.heard)) zeroth
              (since (length now.heard) (subst (λ (n : ℕ). HasNone now.heard n (length before.heard) (length now.heard)) (sym number) begins.none))));
          over = subst (λ (es : List Event). IsTrue (have_exited w (after es))) (sym at_begin) begins.over;
          object = begins.object;
          rest = begins.rest;
          next = ap (λ (es : List Event). all_finis (after es)) at_begin ∙ begins.next;
          addresses = begins.addresses;
          are = subst (λ (es : List Event). AreAddresses destructors begins.addresses (image_of (after es) begins.object)) (sym at_begin) begins.are;
          is = begins.is;
        }

    pub whole_finals : RanWhole w start begun last reason
    whole_finals = record {
      own = r.own ++ on.own;
      way = record {
        turns = r.turns;
        own = r.own;
        to = r.to;
        ended = b;
        follows = subst (λ (n : ℕ). FollowsBy w last.heard n start.from start.hart r.turns r.own r.to b) (sym number_on)
            (subst (λ (es : List Event). FollowsBy w es now.number start.from start.hart r.turns r.own r.to b) (sym further.1)
            (stay w now.heard further.0 now.number start.from r.to start.hart b r.turns r.own follows));
        first = first_end;
        ends = over;
        rest = on.own;
        behind = LeavesBehind.all_run last_zeroth (length now.heard) on.to c d on.turns on.own reason begins_on on.follows ended on.none;
        whole = refl;
      };
      trail = on.trail ∙ ap (λ (t : List TrailItem). t ++ on.own) (trail ∙ r.trail) ∙ append_assoc begun r.own on.own;
    }

-- ---- by what the keeper says of them

module _ (stay : TrailsStay) (w : Setting) (start : HartStart) (begun : List TrailItem) (before now : HartView) (b c : HartState) (first_end : HartEnd)
    (r : RunsBy w start.from start.hart begun before b) (over : b.«end» ≡ Some first_end) (longer : BeginsWith now.heard before.heard) (number : before.number ≡ 0) where
  told_same : OnlyHears before now → now.number ≡ before.number
  told_same told = ap (λ (h : HartView). h.number) told

  told_trail : OnlyHears before now → now.trail ≡ before.trail
  told_trail told = ap (λ (h : HartView). h.trail) told

  pub by_running : (result : Beginning) → BeginsLast w start.registers before now b c result → result ≡ beginnings.HartsRun → RanWhole w start begun now first_end
  by_running _ (BeginsLast.others_run none_over none told same) is = whole_running stay w start begun before now b first_end r over longer number (told_same told) (told_trail told) none_over none
  by_running _ (BeginsLast.none_is_left none_left none told same) is = absurd (let no : beginnings.NoneLeft ≡ beginnings.HartsRun = is in cc)
  by_running _ (BeginsLast.begins begins told fits) is = absurd (let no : beginnings.Begun ≡ beginnings.HartsRun = is in cc)
  by_running _ (BeginsLast.lacks_memory past heard lacks trail same_hart) is = absurd (let no : beginnings.Memory ≡ beginnings.HartsRun = is in cc)

  pub by_none_left : (result : Beginning) → BeginsLast w start.registers before now b c result → result ≡ beginnings.NoneLeft → RanWhole w start begun now first_end
  by_none_left _ (BeginsLast.others_run none_over none told same) is = absurd (let no : beginnings.HartsRun ≡ beginnings.NoneLeft = is in cc)
  by_none_left _ (BeginsLast.none_is_left none_left none told same) is = whole_finished stay w start begun before now b first_end r over longer number (told_same told) (told_trail told) none_left none
  by_none_left _ (BeginsLast.begins begins told fits) is = absurd (let no : beginnings.Begun ≡ beginnings.NoneLeft = is in cc)
  by_none_left _ (BeginsLast.lacks_memory past heard lacks trail same_hart) is = absurd (let no : beginnings.Memory ≡ beginnings.NoneLeft = is in cc)

  pub by_lacking : (result : Beginning) → now.number ≡ before.number → BeginsLast w start.registers before now b c result → result ≡ beginnings.Memory → RanWhole w start begun now ends.Memory
  by_lacking _ same (BeginsLast.others_run none_over none told same_hart) is = absurd (let no : beginnings.HartsRun ≡ beginnings.Memory = is in cc)
  by_lacking _ same (BeginsLast.none_is_left none_left none told same_hart) is = absurd (let no : beginnings.NoneLeft ≡ beginnings.Memory = is in cc)
  by_lacking _ same (BeginsLast.begins begins told fits) is = absurd (let no : beginnings.Begun ≡ beginnings.Memory = is in cc)
  by_lacking _ same (BeginsLast.lacks_memory past heard lacks trail same_hart) is = whole_lacking stay w start begun before now b first_end r over longer number same past heard lacks trail

  -- they began: from there on the hart's way is a new one
  fresh : (trail : List TrailItem) → now.trail ≡ trail → RunsBy w (length now.heard) c trail now c
  fresh trail is = record {
    turns = [];
    own = [];
    to = length now.heard;
    follows = FollowsBy.no_more (length now.heard) c;
    late = omega arith;
    none = none_there now.heard now.number (length now.heard);
    trail = is ∙ sym (append-nil trail);
  }

  pub by_finals : (result : Beginning) → BeginsLast w start.registers before now b c result → result ≡ beginnings.Begun → (last : HartView) (d : HartState) (reason : HartEnd)
      → Proceeds w now last c d → d.«end» ≡ Some reason → RanWhole w start begun last reason
  by_finals _ (BeginsLast.others_run none_over none told same) is last d reason on ended = absurd (let no : beginnings.HartsRun ≡ beginnings.Begun = is in cc)
  by_finals _ (BeginsLast.none_is_left none_left none told same) is last d reason on ended = absurd (let no : beginnings.NoneLeft ≡ beginnings.Begun = is in cc)
  by_finals _ (BeginsLast.begins begins told fits) is last d reason on ended =
      whole_finals stay w start begun before now b first_end r over longer number (told_same told) last c d reason begins (told_trail told)
      (on.on (length now.heard) c now.trail (fresh now.trail refl)) on.longer on.same ended
  by_finals _ (BeginsLast.lacks_memory past heard lacks trail same_hart) is last d reason on ended = absurd (let no : beginnings.Memory ≡ beginnings.Begun = is in cc)

-- ---- while it goes on

-- where it starts stays new
pub new_stays : (start : HartStart) (before now : HartView) → now.number ≡ before.number → BeginsWith now.heard before.heard → start.from ≤ length before.heard → IsNewAt start before → IsNewAt start now
new_stays start before now same longer low new = record {
  no_finals = new.no_finals;
  told = subst (λ (n : ℕ). EndsTold n (take start.from now.heard) start.hart) (sym same)
      (subst (λ (es : List Event). EndsTold before.number es start.hart)
      (sym (ap (take start.from) longer.1 ∙ take-append-le start.from before.heard longer.0 low)) new.told);
}

pub still_low : (n : ℕ) (before now : HartView) → BeginsWith now.heard before.heard → n ≤ length before.heard → n ≤ length now.heard
still_low n before now longer low =
    let count : length now.heard ≡ length before.heard + length longer.0 = ap length longer.1 ∙ length-append before.heard longer.0 in
    omega (arith, count, low)

pub not_exit : (e : HartEnd) → ((code : ℕ) → e ≡ ends.Exit code → ⊥) → is_exit e ≡ false
not_exit (ends.Exit code) none = absurd (none code refl)
not_exit _ none = refl

-- as the first hart is started, and then run to its end
pub record StandsAt (w : Setting) (start : HartStart) (begun : List TrailItem) (seat : HartView) (b : HartState) : Type 0 where
  pub low : start.from ≤ length seat.heard
  pub new : IsNewAt start seat
  pub runs : RunsBy w start.from start.hart begun seat b

pub stands_at : (w : Setting) (start : HartStart) (begun : List TrailItem) (before now : HartView) (b c : HartState) → Proceeds w before now b c → StandsAt w start begun before b
    → StandsAt w start begun now c
stands_at w start begun before now b c on x = record {
  low = still_low start.from before now on.longer x.low;
  new = new_stays start before now on.same on.longer x.low x.new;
  runs = on.on start.from start.hart begun x.runs;
}
