-- Each event of a run behind startup's is that of a hart that runs: each hart's way says so of its own.
use Rattle.std.proofs.Common.{◌≡◌, ⊎_elim, inl, inr, ℕ, zero, suc, ◌+◌, ◌-◌, ◌≤◌, ◌<◌, Bool, true, false, ◌==◌, ◌&&◌, List, [], ◌∷◌, ◌++◌, length, map, take, drop, Option, Some, None, refl, sym, ap, subst, ◌∙◌, append_assoc, append-nil, length-append, lt_of_not-le, arith}
use mathlib.Core.Logic.{dite}
use native.Mathlib.Decide.{dec_le}
use Rattle.std.specs.Prelude.{IsTrue, nat_le}
use Rattle.std.specs.List.{Contains, list_all, slice_get}
use Rattle.std.proofs.lemmas.Bool.{and_parts, eq-eqb, false≢true, le-leb}
use Rattle.std.proofs.lemmas.List.{map-append, take-append-drop, take-append-le, take-take}
use Rattle.std.proofs.lemmas.List.Elements.{Contains-append_cases, Contains-append_left}
use Rattle.std.proofs.lemmas.Option.{none-some, slice_get_within}
use Rattle.history_event.specs.declared.event.Event.{Event}
use Rattle.history_event.specs.declared.event.Event.TheVariants as events
use Rattle.history_event.specs.declared.hart_end.HartEnd.{HartEnd}
use Rattle.history_event.specs.declared.state.Ending.{Ending}
use Rattle.history_state.specs.After.{after, after_from}
use Rattle.history_state.specs.Allowed.{MayEnd}
use Rattle.history_state.specs.Legal.{Legal}
use Rattle.history_state.specs.Lemmas.History.{after_push, after_take, lawful_take, legal_is_lawful, one_behind, take_next}
use Rattle.history_state.specs.Lemmas.Lists.{at_in, has_in, later, none_in, only_in}
use Rattle.history_state.specs.Objects.{has}
use Rattle.history_state.specs.Setting.{Setting, are_finals, exited, have_exited}
use Rattle.history_state.specs.State.{State}
use Rattle.history_calls.specs.Laws.{hart_of}
use Rattle.history_calls.specs.Lemmas.Ends.{step_ends, told_by}
use Rattle.history_calls.specs.RunJournal.{AreByHarts, IsByHart}
use Rattle.hart_moves.specs.Follows.{EndsBehind, Follows, FollowsToItsEnd, HasNone, Turned, TurnsAt}
use Rattle.hart_moves.specs.Harts.{HartState}
use Rattle.hart_moves.specs.Lemmas.Legality.{ended_stays}
use Rattle.hart_moves.specs.Moves.{events_of}
use Rattle.hart_moves.specs.Starting.{HartStart, finalising_hart}
use Rattle.hart_moves.specs.TurnEvents.Appends.{Appends, NoneEndsOrUnmaps, neither_ends_nor_unmaps}
use Rattle.hart_moves.specs.TurnEvents.Lemmas.Turning.{turns_append}
use Rattle.hart_fits.specs.Lemmas.Owners.{owners_end}
use Rattle.hart_fits.specs.Over.{RunningIsNotOver, RunsYet}
use Rattle.hart_trails.specs.Owners.{AreOfHarts}
use Rattle.link_keeper.specs.Keeping.{FirstGoesOn}

-- ---- parts of a journal

take_at : {X : Type 0} (n : ℕ) (xs : List X) (k : ℕ) → k < n → slice_get (take n xs) k ≡ slice_get xs k
take_at {X} zero xs k low = absurd (omega (arith, low))
take_at {X} (suc n) [] k low = refl
take_at {X} (suc n) (x ∷ xs) zero low = refl
take_at {X} (suc n) (x ∷ xs) (suc k) low = take_at n xs k (omega (arith, low))

drop_at : {X : Type 0} (n : ℕ) (xs : List X) (k : ℕ) → slice_get (drop n xs) k ≡ slice_get xs (n + k)
drop_at {X} zero xs k = ap (slice_get xs) (let same : k ≡ 0 + k = omega arith in same)
drop_at {X} (suc n) [] k = refl
drop_at {X} (suc n) (x ∷ xs) k = let same : suc n + k ≡ suc (n + k) = omega arith in drop_at n xs k ∙ sym (ap (slice_get (x ∷ xs)) same)

-- what stands at a number, between what stands before it and behind
cut_at : (es : List Event) (k : ℕ) (e : Event) → slice_get es k ≡ Some e → es ≡ take k es ++ e ∷ drop (suc k) es
cut_at [] k e at = absurd (none-some e at)
cut_at (x ∷ es) zero e at = let same : x ≡ e = cc in ap (λ (y : Event). y ∷ es) same
cut_at (x ∷ es) (suc k) e at = ap (λ (ys : List Event). x ∷ ys) (cut_at es k e at)

-- a shorter beginning
front_of : (n m : ℕ) (es : List Event) → n ≤ m → take m es ≡ take n es ++ drop n (take m es)
front_of n m es low = sym (take-append-drop n (take m es)) ∙ ap (λ (ys : List Event). ys ++ drop n (take m es)) (take-take n m es low)

front_at : (front : List Event) (e : Event) (k : ℕ) → k < length front → slice_get (front ++ e ∷ []) k ≡ slice_get front k
front_at [] e k low = absurd (omega (arith, low))
front_at (x ∷ front) e zero low = refl
front_at (x ∷ front) e (suc k) low = front_at front e k (omega (arith, low))

-- ---- ends

abbrev ends_at : List Event → ℕ → List Ending
ends_at journal k = (after (take k journal)).endings

-- no end of the hart stands between two numbers
abbrev NoneEnds : List Event → ℕ → (from to : ℕ) → Type 0
NoneEnds journal h from to = (k : ℕ) (reason : HartEnd) → from ≤ k → k < to → slice_get journal k ≡ Some (events.Ended h reason) → ⊥

none_ends : (journal : List Event) (h from to : ℕ) → HasNone journal h from to → NoneEnds journal h from to
none_ends journal h from to none k reason low high at = none k (events.Ended h reason) low high at refl

push_ends : (past : List Event) (e : Event) → (after (past ++ e ∷ [])).endings ≡ (after past).endings ++ told_by e
push_ends past e = ap (λ (s : State). s.endings) (after_push past e) ∙ step_ends (after past) e

-- ends only come
grown : (past more : List Event) → (later : List Ending) × ((after (past ++ more)).endings ≡ (after past).endings ++ later)
grown past [] = ([], ap (λ (es : List Event). (after es).endings) (append-nil past) ∙ sym (append-nil (after past).endings))
grown past (e ∷ rest) =
    let behind = grown (past ++ e ∷ []) rest in (
      told_by e ++ behind.0,
      ap (λ (es : List Event). (after es).endings) (sym (one_behind past e rest)) ∙ behind.1
          ∙ ap (λ (es : List Ending). es ++ behind.0) (push_ends past e) ∙ append_assoc (after past).endings (told_by e) behind.0,
    )

grown_at : (journal : List Event) (n m : ℕ) → n ≤ m → (later : List Ending) × (ends_at journal m ≡ ends_at journal n ++ later)
grown_at journal n m low =
    let more = grown (take n journal) (drop n (take m journal)) in
    (more.0, ap (λ (es : List Event). (after es).endings) (front_of n m journal low) ∙ more.1)

-- the event tells of none, or of one
data Tells (e : Event) : Type 0 where
  tells_none : told_by e ≡ [] → Tells e
  tells_one : (h : ℕ) (reason : HartEnd) → e ≡ events.Ended h reason → Tells e

tells : (e : Event) → Tells e
tells (events.Ended hart reason) = Tells.tells_one hart reason refl
tells (events.Open hart ask answer) = Tells.tells_none refl
tells (events.Close hart handle answer) = Tells.tells_none refl
tells (events.Unmapped hart set) = Tells.tells_none refl
tells (events.Grant number hart owner slot choice value) = Tells.tells_none refl
tells (events.Bound number) = Tells.tells_none refl
tells (events.Lost number saw) = Tells.tells_none refl
tells (events.Unresolved hart owner slot choice) = Tells.tells_none refl
tells (events.Sym hart ask answer) = Tells.tells_none refl
tells (events.Tls hart owner address) = Tells.tells_none refl
tells (events.Init hart object) = Tells.tells_none refl
tells (events.Fini hart object) = Tells.tells_none refl
tells (events.Wrote hart bytes) = Tells.tells_none refl
tells (events.Told hart fault) = Tells.tells_none refl

-- ---- while its end doesn't stand there a hart may end

abbrev hart_in : Ending → ℕ
hart_in e = e.hart

may_yet : (w : Setting) (events : List Event) (h : ℕ) → RunsYet h events → MayEnd w (after events) h
may_yet w events h yet = inl (absent (has (map hart_in (after events).endings) h) refl)
  where
    absent : (t : Bool) → has (map hart_in (after events).endings) h ≡ t → has (map hart_in (after events).endings) h ≡ false
    absent false is = is
    absent true is = absurd (yet (has_in (map hart_in (after events).endings) h is))

yet_before : (journal : List Event) (h n m : ℕ) → n ≤ m → RunsYet h (take m journal) → RunsYet h (take n journal)
yet_before journal h n m low yet there =
    let more = grown_at journal n m low in
    yet (subst (λ (es : List Ending). Contains (map hart_in es) h) (sym more.1)
    (subst (λ (hs : List ℕ). Contains hs h) (sym (map-append hart_in (ends_at journal n) more.0))
    (Contains-append_left (map hart_in (ends_at journal n)) (map hart_in more.0) h there)))

yet_on : (journal : List Event) (h k : ℕ) → ((reason : HartEnd) → slice_get journal k ≡ Some (events.Ended h reason) → ⊥) → RunsYet h (take k journal) → RunsYet h (take (suc k) journal)
yet_on journal h k none yet = ⊎_elim
    (λ (next : (e : Event) × (slice_get journal k ≡ Some e)). λ there.
    let now : ends_at journal (suc k) ≡ ends_at journal k ++ told_by next.0 = ap (λ (s : State). s.endings) (after_take journal k next.0 next.1) ∙ step_ends (after (take k journal)) next.0 in
    ⊎_elim yet (told next.0 next.1 (tells next.0))
    (Contains-append_cases (map hart_in (ends_at journal k)) (map hart_in (told_by next.0)) h
    (subst (λ (hs : List ℕ). Contains hs h) (map-append hart_in (ends_at journal k) (told_by next.0))
    (subst (λ (es : List Ending). Contains (map hart_in es) h) now there))))
    (λ (same : take (suc k) journal ≡ take k journal). subst (RunsYet h) (sym same) yet)
    (take_next journal k)
  where
    told : (e : Event) → slice_get journal k ≡ Some e → Tells e → Contains (map hart_in (told_by e)) h → ⊥
    told e at (Tells.tells_none is) there = none_in h (subst (λ (es : List Ending). Contains (map hart_in es) h) is there)
    told e at (Tells.tells_one hart reason is) there =
        let own : hart ≡ h = only_in hart h (subst (λ (x : Event). Contains (map hart_in (told_by x)) h) is there) in
        none reason (at ∙ ap (λ (x : Event). Some x) is ∙ ap (λ (n : ℕ). Some (events.Ended n reason)) own)

-- ---- turns, while something holds that only the hart's end ends

module _ (w : Setting) (journal : List Event) (h : ℕ) (P : ℕ → Type 0) (first : ℕ)
    (keeps : (k : ℕ) → first ≤ k → ((reason : HartEnd) → slice_get journal k ≡ Some (events.Ended h reason) → ⊥) → P k → P (suc k)) where
  across : (n k : ℕ) → first ≤ k → NoneEnds journal h k (k + n) → P k → P (k + n)
  across zero k low none p = subst P (let same : k ≡ k + 0 = omega arith in same) p
  across (suc n) k low none p =
      let next : P (suc k) = keeps k low (λ reason at. none k reason (omega arith) (omega arith) at) p in
      subst P (let same : suc k + n ≡ k + suc n = omega arith in same)
      (across n (suc k) (omega (arith, low)) (λ i reason from to at. none i reason (omega (arith, from)) (omega (arith, to)) at) next)

  to_there : (k m : ℕ) → first ≤ k → k ≤ m → NoneEnds journal h k m → P k → P m
  to_there k m low on none p =
      let same : k + (m - k) ≡ m = omega (arith, on) in
      subst P same (across (m - k) k low (λ i reason from to at. none i reason from (omega (arith, to, same)) at) p)

  -- before each of its own events it holds, and behind them while the hart runs on
  record Goes (from to : ℕ) (d : HartState) : Type 0 where
    pub own : (k : ℕ) (e : Event) → from ≤ k → k < to → slice_get journal k ≡ Some e → hart_of e ≡ Some h → P k
    pub on : d.«end» ≡ None → P to

  own_at : (at : ℕ) (own : List Event) → take (length own) (drop at journal) ≡ own → (k : ℕ) → k < length own → slice_get journal (at + k) ≡ slice_get own k
  own_at at own is k low = sym (drop_at at journal k) ∙ sym (take_at (length own) (drop at journal) k low) ∙ ap (λ (es : List Event). slice_get es k) is

  spares_at : (es : List Event) (k : ℕ) (reason : HartEnd) → NoneEndsOrUnmaps es → slice_get es k ≡ Some (events.Ended h reason) → ⊥
  spares_at [] k reason spares at = none-some (events.Ended h reason) at
  spares_at (e ∷ es) zero reason spares at = let same : e ≡ events.Ended h reason = cc in false≢true (sym (ap neither_ends_nor_unmaps same) ∙ spares.0)
  spares_at (e ∷ es) (suc k) reason spares at = spares_at es k reason spares.1 at

  -- a part of the turn's events
  spared : (at : ℕ) (own : List Event) (n : ℕ) → take (length own) (drop at journal) ≡ own → n ≤ length own
      → ((k : ℕ) (reason : HartEnd) → k < n → slice_get own k ≡ Some (events.Ended h reason) → ⊥) → NoneEnds journal h at (at + n)
  spared at own n is within none k reason low high there =
      let place : at + (k - at) ≡ k = omega (arith, low) in
      let front : k - at < n = omega (arith, low, high) in
      none (k - at) reason front (sym (own_at at own is (k - at) (omega (arith, front, within))) ∙ ap (slice_get journal) place ∙ there)

  turn_goes : (turn : Turned) (b c : HartState) → first ≤ turn.at → b.«end» ≡ None → P turn.at → TurnsAt w journal h turn b c → Goes turn.at (turn.at + length (events_of turn.did)) c
  turn_goes turn b c low runs p x = by (turns_append w (take turn.at journal) h b c turn.did x.moves)
    where
      all : List Event
      all = events_of turn.did

      -- all of them spare the hart
      by_all : ((k : ℕ) (reason : HartEnd) → k < length all → slice_get all k ≡ Some (events.Ended h reason) → ⊥) → Goes turn.at (turn.at + length all) c
      by_all none =
          let spares : NoneEnds journal h turn.at (turn.at + length all) = spared turn.at all (length all) x.own (omega arith) none in
          record {
            own = λ k e from to at own. to_there turn.at k low from (λ i reason since before there. spares i reason since (omega (arith, before, to)) there) p;
            on = λ on. to_there turn.at (turn.at + length all) low (omega arith) spares p;
          }

      by : Appends (take turn.at journal) h b turn.did c → Goes turn.at (turn.at + length all) c
      by (Appends.no_end spares same) = by_all (λ k reason within at. spares_at all k reason spares at)
      by (Appends.unmapping set are same) = by_all (λ k reason within at. spares_one k reason (subst (λ (es : List Event). slice_get es k ≡ Some (events.Ended h reason)) are at))
        where
          spares_one : (k : ℕ) (reason : HartEnd) → slice_get (events.Unmapped h set ∷ []) k ≡ Some (events.Ended h reason) → ⊥
          spares_one zero reason at = absurd (cc)
          spares_one (suc k) reason at = none-some (events.Ended h reason) at
      by (Appends.after_finals code spares finals over none) = by_all (λ k reason within at. spares_at all k reason spares at)
      by (Appends.an_end front reason spares are over) =
          let count : length all ≡ length front + 1 = ap length are ∙ length-append front (events.Ended h reason ∷ []) in
          let until : NoneEnds journal h turn.at (turn.at + length front) =
          spared turn.at all (length front) x.own (omega (arith, count)) (λ k other within at. spares_at front k other spares
          (sym (front_at front (events.Ended h reason) k within) ∙ ap (λ (es : List Event). slice_get es k) (sym are) ∙ at)) in
          record {
            own = λ k e from to at own. to_there turn.at k low from (λ i other since before there. until i other since (omega (arith, before, to, count)) there) p;
            on = λ on. absurd (let no : None ≡ Some reason = sym on ∙ over in cc);
          }

  -- a hart that has ended takes no turn more
  over_goes : (from to : ℕ) (c d : HartState) (reason : HartEnd) (turns : List Turned) → c.«end» ≡ Some reason → Follows w journal h from c turns to d → Goes from to d
  over_goes from to c d reason turns over (Follows.no_more _ _) = record {
    own = λ k e low high at own. absurd (let no : ⊥ = omega (arith, low, high) in no);
    on = λ on. absurd (let no : None ≡ Some reason = sym on ∙ over in cc);
  }
  over_goes from to c d reason turns over (Follows.one_more _ _ _ e _ turn rest late none x follows) = absurd (ended_stays w (take turn.at journal) h c e turn.did reason over x.moves)

  goes : (from to : ℕ) (b d : HartState) (turns : List Turned) → first ≤ from → b.«end» ≡ None → P from → Follows w journal h from b turns to d → Goes from to d
  goes from to b d turns low runs p (Follows.no_more _ _) = record {
    own = λ k e since before at own. absurd (let no : ⊥ = omega (arith, since, before) in no);
    on = λ on. p;
  }
  goes from to b d turns low runs p (Follows.one_more _ _ _ c _ turn rest late none x follows) =
      by c.«end» refl (λ still on. goes (turn.at + length (events_of turn.did)) to c d rest (omega (arith, low, late)) still on follows)
    where
      here_goes : Goes turn.at (turn.at + length (events_of turn.did)) c
      here_goes = turn_goes turn b c (omega (arith, low, late)) runs (to_there from turn.at low late (none_ends journal h from turn.at none) p) x

      joined : Goes (turn.at + length (events_of turn.did)) to d → Goes from to d
      joined y = record {
        own = λ k e since before at own. dite (dec_le (turn.at + length (events_of turn.did)) k)
            (λ (behind : turn.at + length (events_of turn.did) ≤ k). y.own k e behind before at own)
            (λ (early : ¬ (turn.at + length (events_of turn.did) ≤ k)). dite (dec_le turn.at k)
            (λ (within : turn.at ≤ k). here_goes.own k e within (lt_of_not-le early) at own)
            (λ (front : ¬ (turn.at ≤ k)). absurd (none k e since (lt_of_not-le front) at own)));
        on = y.on;
      }

      by : (o : Option HartEnd) → c.«end» ≡ o → (c.«end» ≡ None → P (turn.at + length (events_of turn.did)) → Goes (turn.at + length (events_of turn.did)) to d) → Goes from to d
      by None is further = joined (further is (here_goes.on is))
      by (Some reason) is further = joined (over_goes (turn.at + length (events_of turn.did)) to c d reason rest is follows)

-- no end of a hart comes between two moments
pub yet_across : (w : Setting) (journal : List Event) (h from to : ℕ) → from ≤ to → ((k : ℕ) (reason : HartEnd) → from ≤ k → k < to → slice_get journal k ≡ Some (events.Ended h reason) → ⊥)
    → RunsYet h (take from journal) → RunsYet h (take to journal)
yet_across w journal h from to low none yet =
    to_there w journal h (λ k. RunsYet h (take k journal)) from (λ k since spared y. yet_on journal h k spared y) from to (omega arith) low none yet

-- ---- the final destructors

first_exits : (w : Setting) (s t : State) (later : List Ending) → s.endings ≡ t.endings ++ later → w.machine.harts ≤ length t.endings → IsTrue (have_exited w s) → IsTrue (have_exited w t)
first_exits w s t later are many over =
    let exits : list_all exited (take w.machine.harts s.endings) ≡ true = (and_parts _ _ over).1 in
    let same : take w.machine.harts s.endings ≡ take w.machine.harts t.endings =
    ap (take w.machine.harts) are ∙ take-append-le w.machine.harts t.endings later many in
    ap (λ (x : Bool). x && list_all exited (take w.machine.harts t.endings)) (le-leb w.machine.harts (length t.endings) many)
    ∙ ap (list_all exited) (sym same) ∙ exits

module _ (running : RunningIsNotOver) (w : Setting) (journal : List Event) (legal : Legal w journal) (own : AreOfHarts w journal) (last : FirstGoesOn w journal) (some : 0 < w.machine.harts)
    (at : ℕ) (over : IsTrue (have_exited w (after (take at journal))))
    (once : (k : ℕ) (reason : HartEnd) → k < at → slice_get journal k ≡ Some (events.Ended 0 reason) → RunsYet 0 (take k journal)) where
  owned : (n : ℕ) → AreOfHarts w (take n journal)
  owned n e m there is = own e m (subst (λ (es : List Event). Contains es e) (take-append-drop n journal) (Contains-append_left (take n journal) (drop n journal) e there)) is

  -- while the first hart runs not every hart has exited
  not_yet : (n : ℕ) → RunsYet 0 (take n journal) → IsTrue (have_exited w (after (take n journal))) → ⊥
  not_yet n yet all = running w (take n journal) 0 (lawful_take w.machine journal n (legal_is_lawful w journal legal)) some (owners_end w (take n journal) (owned n)) yet
      (take n journal) [] (sym (append-nil (take n journal))) all

  -- an end that comes once every hart has exited is the first one's
  first_ends : (k h : ℕ) (reason : HartEnd) (before : List Event) (since : List Event) → take k journal ≡ before ++ since → IsTrue (have_exited w (after before))
      → slice_get journal k ≡ Some (events.Ended h reason) → h ≡ 0
  first_ends k h reason before since are all there = ⊎_elim
      (λ (zeroth : Some h ≡ Some 0). let same : h ≡ 0 = cc in same)
      (λ (nobodys : Some h ≡ None). absurd (cc))
      (last (take k journal) (events.Ended h reason) (drop (suc k) journal) (cut_at journal k (events.Ended h reason) there) (before, since, are, all))

  -- so none has ended twice
  few : (n : ℕ) → n ≤ at → length (ends_at journal n) ≤ w.machine.harts
  unfolding after_from
  few zero low = omega arith
  few (suc n) low =
      let before : length (ends_at journal n) ≤ w.machine.harts = few n (omega (arith, low)) in
      ⊎_elim
      (λ (next : (e : Event) × (slice_get journal n ≡ Some e)). by before next.0 next.1 (tells next.0)
      (ap (λ (s : State). s.endings) (after_take journal n next.0 next.1) ∙ step_ends (after (take n journal)) next.0))
      (λ (same : take (suc n) journal ≡ take n journal). subst (λ (es : List Event). length (after es).endings ≤ w.machine.harts) (sym same) before)
      (take_next journal n)
    where
      by : length (ends_at journal n) ≤ w.machine.harts → (e : Event) → slice_get journal n ≡ Some e → Tells e → ends_at journal (suc n) ≡ ends_at journal n ++ told_by e
          → length (ends_at journal (suc n)) ≤ w.machine.harts
      by before e there (Tells.tells_none is) now =
          subst (λ (es : List Ending). length es ≤ w.machine.harts) (sym (now ∙ ap (λ (es : List Ending). ends_at journal n ++ es) is ∙ append-nil (ends_at journal n))) before
      by before e there (Tells.tells_one h reason is) now =
          let count : length (ends_at journal (suc n)) ≡ length (ends_at journal n) + 1 =
          ap length now ∙ length-append (ends_at journal n) (told_by e) ∙ ap (λ (x : Event). length (ends_at journal n) + length (told_by x)) is in
          dite (dec_le (length (ends_at journal n) + 1) w.machine.harts)
          (λ (room : length (ends_at journal n) + 1 ≤ w.machine.harts). omega (arith, count, room))
          (λ (full : ¬ (length (ends_at journal n) + 1 ≤ w.machine.harts)).
          let many : w.machine.harts < length (ends_at journal n) + 1 = lt_of_not-le full in
          let more = grown_at journal n at (omega (arith, low)) in
          let all : IsTrue (have_exited w (after (take n journal))) = first_exits w (after (take at journal)) (after (take n journal)) more.0 more.1 (omega (arith, many)) over in
          let ended : slice_get journal n ≡ Some (events.Ended h reason) = there ∙ ap (λ (x : Event). Some x) is in
          let zeroth : h ≡ 0 = first_ends n h reason (take n journal) [] (sym (append-nil (take n journal))) all ended in
          absurd (not_yet n (once n reason (omega (arith, low)) (ended ∙ ap (λ (m : ℕ). Some (events.Ended m reason)) zeroth)) all))

  -- the ends are those that stood there
  abbrev Still : ℕ → Type 0
  Still k = (at ≤ k) × (ends_at journal k ≡ ends_at journal at)

  still_on : (k : ℕ) → at ≤ k → ((reason : HartEnd) → slice_get journal k ≡ Some (events.Ended 0 reason) → ⊥) → Still k → Still (suc k)
  still_on k low none still = (
    omega (arith, low),
    ⊎_elim
        (λ (next : (e : Event) × (slice_get journal k ≡ Some e)). by next.0 next.1 (tells next.0)
        (ap (λ (s : State). s.endings) (after_take journal k next.0 next.1) ∙ step_ends (after (take k journal)) next.0))
        (λ (same : take (suc k) journal ≡ take k journal). ap (λ (es : List Event). (after es).endings) same ∙ still.1)
        (take_next journal k),
  )
    where
      by : (e : Event) → slice_get journal k ≡ Some e → Tells e → ends_at journal (suc k) ≡ ends_at journal k ++ told_by e → ends_at journal (suc k) ≡ ends_at journal at
      by e there (Tells.tells_none is) now = now ∙ ap (λ (es : List Ending). ends_at journal k ++ es) is ∙ append-nil (ends_at journal k) ∙ still.1
      by e there (Tells.tells_one h reason is) now =
          let ended : slice_get journal k ≡ Some (events.Ended h reason) = there ∙ ap (λ (x : Event). Some x) is in
          let zeroth : h ≡ 0 = first_ends k h reason (take at journal) (drop at (take k journal)) (front_of at k journal low) over ended in
          absurd (none reason (ended ∙ ap (λ (m : ℕ). Some (events.Ended m reason)) zeroth))

  may_still : (k : ℕ) → Still k → MayEnd w (after (take k journal)) 0
  may_still k still =
      let most : length (ends_at journal at) ≤ w.machine.harts = few at (omega arith) in
      let least : w.machine.harts ≤ length (ends_at journal at) = grind (arith, and_parts, over) in
      let count : length (ends_at journal at) ≡ w.machine.harts = omega (arith, most, least) in
      let finals : IsTrue (are_finals w (after (take at journal))) =
      ap (λ (x : Bool). x && have_exited w (after (take at journal))) (eq-eqb (length (ends_at journal at)) w.machine.harts count) ∙ over in
      inr (refl, subst (λ (es : List Ending). IsTrue (length es == w.machine.harts && (nat_le w.machine.harts (length es) && list_all exited (take w.machine.harts es)))) (sym still.1) finals)

-- ---- a hart's whole way

module _ (running : RunningIsNotOver) (w : Setting) (journal : List Event) (legal : Legal w journal) (own : AreOfHarts w journal) (last : FirstGoesOn w journal)
    (h : ℕ) (less : h < w.machine.harts) (start : HartStart) (reason : HartEnd) (runs : start.hart.«end» ≡ None) (yet : RunsYet h (take start.from journal))
    (x : FollowsToItsEnd w journal start h reason) where
  -- its turns before its first end
  before : Goes w journal h (λ k. RunsYet h (take k journal)) start.from (λ k low none y. yet_on journal h k none y) start.from x.to x.ended
  before = goes w journal h (λ k. RunsYet h (take k journal)) start.from (λ k low none y. yet_on journal h k none y) start.from x.to start.hart x.ended x.turns (omega arith) runs yet x.follows

  -- before it, and where none of its events comes since, its end doesn't stand at an end of its own
  ends_once : (m : ℕ) → HasNone journal h x.to m → (k : ℕ) (other : HartEnd) → k < m → slice_get journal k ≡ Some (events.Ended h other) → RunsYet h (take k journal)
  ends_once m none k other low there = dite (dec_le x.to k)
      (λ (late : x.to ≤ k). absurd (none k (events.Ended h other) late low there refl))
      (λ (early : ¬ (x.to ≤ k)). dite (dec_le start.from k)
      (λ (since : start.from ≤ k). before.own k (events.Ended h other) since (lt_of_not-le early) there refl)
      (λ (front : ¬ (start.from ≤ k)). let low_there : k < start.from = lt_of_not-le front in yet_before journal h k start.from (omega (arith, low_there)) yet))

  pub may : (k : ℕ) (e : Event) → start.from ≤ k → slice_get journal k ≡ Some e → hart_of e ≡ Some h → MayEnd w (after (take k journal)) h
  may k e since there is = dite (dec_le x.to k)
      (λ (late : x.to ≤ k). by x.first reason x.behind late)
      (λ (early : ¬ (x.to ≤ k)). may_yet w (take k journal) h (before.own k e since (lt_of_not-le early) there is))
    where
      within : k < length journal
      within = slice_get_within journal k e there

      by : (one counts : HartEnd) → EndsBehind w journal h start.registers x.to x.ended one counts → x.to ≤ k → MayEnd w (after (take k journal)) h
      by one _ (EndsBehind.is_another other none) late = absurd (none k e late within there is)
      by one _ (EndsBehind.none_runs zeroth none running_yet) late = absurd (none k e late within there is)
      by one _ (EndsBehind.none_is_left zeroth none left) late = absurd (none k e late within there is)
      by one _ (EndsBehind.no_memory zeroth at lacks none) late = dite (dec_le (at + 1) k)
          (λ (behind : at + 1 ≤ k). absurd (none k e behind within there is))
          (λ (early : ¬ (at + 1 ≤ k)). dite (dec_le at k)
          (λ (same : at ≤ k).
          let low : k < at + 1 = lt_of_not-le early in
          let place : k ≡ at = omega (arith, low, same) in
          subst (λ (m : ℕ). MayEnd w (after (take k journal)) m) (sym zeroth)
          (subst (λ (n : ℕ). MayEnd w (after (take n journal)) 0) (sym place)
          (may_still running w journal legal own last (subst (λ (m : ℕ). m < w.machine.harts) zeroth less) at lacks.over
          (λ i other front found. subst (λ (m : ℕ). RunsYet m (take i journal)) zeroth
          (ends_once at (subst (λ (m : ℕ). HasNone journal m x.to at) (sym zeroth) lacks.none) i other front (found ∙ ap (λ (m : ℕ). Some (events.Ended m other)) (sym zeroth)))) at (omega arith, refl))))
          (λ (front : ¬ (at ≤ k)). absurd (lacks.none k e late (lt_of_not-le front) there (is ∙ ap (λ (m : ℕ). Some m) zeroth))))
      by one _ (EndsBehind.all_run zeroth at to begun final turns _ begins follows ends none) late = dite (dec_le to k)
          (λ (behind : to ≤ k). absurd (none k e behind within there is))
          (λ (early : ¬ (to ≤ k)). dite (dec_le at k)
          (λ (inside : at ≤ k). subst (λ (m : ℕ). MayEnd w (after (take k journal)) m) (sym zeroth) (still (lt_of_not-le early) inside))
          (λ (front : ¬ (at ≤ k)). absurd (begins.none k e late (lt_of_not-le front) there (is ∙ ap (λ (m : ℕ). Some m) zeroth))))
        where
          some : 0 < w.machine.harts
          some = subst (λ (m : ℕ). m < w.machine.harts) zeroth less

          single : (i : ℕ) (other : HartEnd) → i < at → slice_get journal i ≡ Some (events.Ended 0 other) → RunsYet 0 (take i journal)
          single i other front found = subst (λ (m : ℕ). RunsYet m (take i journal)) zeroth
              (ends_once at (subst (λ (m : ℕ). HasNone journal m x.to at) (sym zeroth) begins.none) i other front (found ∙ ap (λ (m : ℕ). Some (events.Ended m other)) (sym zeroth)))

          begun_runs : (addresses : List ℕ) → (finalising_hart start.registers begins.code (record { object = begins.object; addresses = addresses }) x.ended).«end» ≡ None
          begun_runs [] = refl
          begun_runs (a ∷ more) = refl

          still : k < to → at ≤ k → MayEnd w (after (take k journal)) 0
          still before_to inside =
              may_still running w journal legal own last some at begins.over single k
              ((goes w journal 0 (Still running w journal legal own last some at begins.over single) at (still_on running w journal legal own last some at begins.over single) at to begun final turns
              (omega arith) (ap (λ (z : HartState). z.«end») begins.is ∙ begun_runs begins.addresses) (omega arith, refl)
              (subst (λ (m : ℕ). Follows w journal m at begun turns to final) zeroth follows)).own k e inside before_to there (is ∙ ap (λ (m : ℕ). Some m) zeroth))

-- ---- all of them

-- each event at its place
all_by : (w : Setting) (past more : List Event) → ((front : List Event) (e : Event) (rest : List Event) → more ≡ front ++ e ∷ rest → IsByHart w (past ++ front) e) → AreByHarts w past more
all_by w past [] each = tt
all_by w past (e ∷ rest) each = (
  subst (λ (es : List Event). IsByHart w es e) (append-nil past) (each [] e rest refl),
  all_by w (past ++ e ∷ []) rest (λ front x tail are.
      subst (λ (es : List Event). IsByHart w es x) (sym (one_behind past e front)) (each (e ∷ front) x tail (ap (λ (es : List Event). e ∷ es) are))),
)

take_front : (front : List Event) (e : Event) (rest : List Event) → take (length front) (front ++ e ∷ rest) ≡ front
take_front [] e rest = refl
take_front (x ∷ front) e rest = ap (λ (es : List Event). x ∷ es) (take_front front e rest)

got_front : (front : List Event) (e : Event) (rest : List Event) → slice_get (front ++ e ∷ rest) (length front) ≡ Some e
got_front [] e rest = refl
got_front (x ∷ front) e rest = got_front front e rest

pub are_by_harts : (w : Setting) (past more journal : List Event) → journal ≡ past ++ more → AreOfHarts w journal
    → ((h k : ℕ) (e : Event) → h < w.machine.harts → length past ≤ k → slice_get journal k ≡ Some e → hart_of e ≡ Some h → MayEnd w (after (take k journal)) h)
    → AreByHarts w past more
are_by_harts w past more journal are own each = all_by w past more (λ front e rest more_are h is.
    let whole : journal ≡ (past ++ front) ++ e ∷ rest = are ∙ ap (λ (es : List Event). past ++ es) more_are ∙ sym (append_assoc past front (e ∷ rest)) in
    let there : slice_get journal (length (past ++ front)) ≡ Some e = ap (λ (es : List Event). slice_get es (length (past ++ front))) whole ∙ got_front (past ++ front) e rest in
    let less : h < w.machine.harts = own e h (at_in journal (length (past ++ front)) e there) is in (
      less,
      subst (λ (es : List Event). MayEnd w (after es) h) (ap (take (length (past ++ front))) whole ∙ take_front (past ++ front) e rest)
          (each h (length (past ++ front)) e less (let long = length-append past front in omega (arith, long)) there is),
    ))
