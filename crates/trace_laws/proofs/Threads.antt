-- The first hart of a run on threads is alone until its start is over.
use Rattle.std.proofs.Common.{◌≡◌, ◌⊎◌, inl, inr, ⊎_elim, ℕ, zero, suc, ◌+◌, ◌≤◌, ◌<◌, true, false, List, [], ◌∷◌, ◌++◌, length, take, drop, Option, Some, None, IsTrue, true≢false, refl, sym, ap, subst, ◌∙◌, arith}
use Rattle.std.specs.List.{Contains, list_any, slice_get}
use Rattle.std.specs.Option.{IsSome}
use Rattle.std.proofs.lemmas.Option.{none-some, slice_get_within}
use Rattle.history_event.specs.declared.event.Event.{Event}
use Rattle.history_event.specs.declared.event.Event.TheVariants as events
use Rattle.history_event.specs.declared.hart_end.HartEnd.{HartEnd}
use Rattle.history_calls.specs.Laws.{hart_of}
use Rattle.history_calls.specs.RunJournal.{IsRunJournal}
use Rattle.history_calls.specs.declared.link_served.startup.Setup.{Setup}
use Rattle.history_state.specs.Lemmas.Lists.{any_in, here, in_any, later}
use Rattle.history_state.specs.Lemmas.Tidy.{in_at}
use Rattle.history_state.specs.Setting.{Setting}
use Rattle.hart_moves.specs.Follows.{Turned, TurnsAt}
use Rattle.hart_moves.specs.Harts.{HartState, is_startup_frame}
use Rattle.hart_moves.specs.Moves.{events_of}
use Rattle.hart_threads.specs.Constructed.{IsConstructed}
use Rattle.hart_threads.specs.Run.{HasStarted}
use Rattle.hart_trails.specs.Trails.{FollowsBy}
use Rattle.word_rule.specs.declared.view.TrailItem.{TrailItem}
use Rattle.trace_laws.specs.Beginning.{StartsAlone}
use Rattle.trace_laws.specs.Laws.{ThreadsBeginAlone}
use Rattle.trace_laws.proofs.Alone.{Constructing, Laws, NamesNone, SetOff, begins_alone, ends, names, own_names, sets_off, turn_constructs}

-- ---- parts of a journal

take_at : {X : Type 0} (n : ℕ) (xs : List X) (k : ℕ) → k < n → slice_get (take n xs) k ≡ slice_get xs k
take_at {X} zero xs k low = absurd (omega (arith, low))
take_at {X} (suc n) [] k low = refl
take_at {X} (suc n) (x ∷ xs) zero low = refl
take_at {X} (suc n) (x ∷ xs) (suc k) low = take_at n xs k (omega (arith, low))

drop_at : {X : Type 0} (n : ℕ) (xs : List X) (k : ℕ) → slice_get (drop n xs) k ≡ slice_get xs (n + k)
drop_at {X} zero xs k = ap (slice_get xs) (let same : k ≡ 0 + k = omega arith in same)
drop_at {X} (suc n) [] k = refl
drop_at {X} (suc n) (x ∷ xs) k = let same : suc n + k ≡ suc (n + k) = omega arith in drop_at n xs k ∙ sym (ap (slice_get (x ∷ xs)) same)

behind_in : (front more : List Event) (k : ℕ) (e : Event) → length front ≤ k → slice_get (front ++ more) k ≡ Some e → Contains more e
behind_in [] [] k e low got = absurd (none-some e got)
behind_in [] (x ∷ more) zero e low got = let same : x ≡ e = cc in subst (Contains (x ∷ more)) same (here x more)
behind_in [] (x ∷ more) (suc k) e low got = later x more e (behind_in [] more k e (omega arith) got)
behind_in (x ∷ front) more zero e low got = absurd (let no : suc (length front) ≤ 0 = low in omega (arith, no))
behind_in (x ∷ front) more (suc k) e low got = behind_in front more k e (let less : suc (length front) ≤ suc k = low in omega (arith, less)) got

-- ---- events of the first hart, and of nobody

none_names : (e : Event) → hart_of e ≡ None → names e ≡ false
none_names (events.Bound number) none = refl
none_names (events.Lost number saw) none = refl
none_names (events.Open hart ask answer) none = absurd (let no : Some hart ≡ None = none in cc)
none_names (events.Close hart handle answer) none = absurd (let no : Some hart ≡ None = none in cc)
none_names (events.Unmapped hart set) none = absurd (let no : Some hart ≡ None = none in cc)
none_names (events.Grant number hart owner slot choice value) none = absurd (let no : Some hart ≡ None = none in cc)
none_names (events.Unresolved hart owner slot choice) none = absurd (let no : Some hart ≡ None = none in cc)
none_names (events.Sym hart ask answer) none = absurd (let no : Some hart ≡ None = none in cc)
none_names (events.Tls hart owner address) none = absurd (let no : Some hart ≡ None = none in cc)
none_names (events.Init hart object) none = absurd (let no : Some hart ≡ None = none in cc)
none_names (events.Fini hart object) none = absurd (let no : Some hart ≡ None = none in cc)
none_names (events.Wrote hart bytes) none = absurd (let no : Some hart ≡ None = none in cc)
none_names (events.Told hart fault) none = absurd (let no : Some hart ≡ None = none in cc)
none_names (events.Ended hart reason) none = absurd (let no : Some hart ≡ None = none in cc)

all_name_none : (alone : List Event) → ((e : Event) (h : ℕ) → Contains alone e → hart_of e ≡ Some h → h ≡ 0) → NamesNone alone
all_name_none [] own = tt
all_name_none (e ∷ rest) own = (by (hart_of e) refl, all_name_none rest (λ x h there. own x h (later e rest x there)))
  where
    by : (o : Option ℕ) → hart_of e ≡ o → names e ≡ false
    by None is = none_names e is
    by (Some h) is = own_names e (is ∙ ap (λ (n : ℕ). Some n) (own e h (here e rest) is))

-- ---- its turns

-- the start is over with an event between two numbers
record IsOver (journal : List Event) (from : ℕ) : Type 0 where
  at : ℕ
  over : Event
  since : from ≤ at
  there : slice_get journal at ≡ Some over
  ends_it : ends over ≡ true

later_over : (journal : List Event) (from at : ℕ) → from ≤ at → IsOver journal at → IsOver journal from
later_over journal from at low x = record { at = x.at; over = x.over; since = (let since = x.since in omega (arith, low, since)); there = x.there; ends_it = x.ends_it }

module _ (laws : Laws) (w : Setting) (journal : List Event) where
  own_over : (turn : Turned) (b c : HartState) → TurnsAt w journal 0 turn b c → IsTrue (list_any ends (events_of turn.did)) → IsOver journal turn.at
  own_over turn b c x any =
      let e = any_in ends (events_of turn.did) any in
      let k = in_at (events_of turn.did) e.0 e.1 in
      let low : k.0 < length (events_of turn.did) = slice_get_within (events_of turn.did) k.0 e.0 k.1 in
      record {
        at = turn.at + k.0;
        over = e.0;
        since = omega arith;
        there = sym (drop_at turn.at journal k.0) ∙ sym (take_at (length (events_of turn.did)) (drop turn.at journal) k.0 low) ∙ ap (λ (es : List Event). slice_get es k.0) x.own ∙ k.1;
        ends_it = e.2;
      }

  constructs_on : (from to : ℕ) (b c : HartState) (turns : List Turned) (items : List TrailItem) → FollowsBy w journal 0 from b turns items to c → Constructing b
      → IsOver journal from ⊎ Constructing c
  constructs_on from to b c turns items (FollowsBy.no_more _ _) on = inr on
  constructs_on from to b d turns items (FollowsBy.one_more _ _ _ c _ turn rest left more late none x leaves follows) on = ⊎_elim
      (λ (any : IsTrue (list_any ends (events_of turn.did))). inl (later_over journal from turn.at late (own_over turn b c x any)))
      (λ (still : Constructing c). ⊎_elim
      (λ (over : IsOver journal (turn.at + length (events_of turn.did))). inl (later_over journal from (turn.at + length (events_of turn.did)) (omega (arith, late)) over))
      (λ (yet : Constructing d). inr yet)
      (constructs_on (turn.at + length (events_of turn.did)) to c d rest more follows still))
      (turn_constructs w (take turn.at journal) b c turn.did (laws.away w (take turn.at journal) 0 b c turn.did x.moves on.no_finals) on
      (laws.leave w (take turn.at journal) 0 b c turn.did x.moves) (laws.append w (take turn.at journal) 0 b c turn.did x.moves))

none_ended : (o : Option HartEnd) → IsSome o → o ≡ None → ⊥
none_ended (Some reason) some is = (let no : Some reason ≡ None = is in absurd cc)
none_ended None some is = true≢false (sym some)

not_started : (b : HartState) → Constructing b → HasStarted b → ⊥
not_started b on over = ⊎_elim
    (λ (none : list_any is_startup_frame b.frames ≡ false). true≢false (sym on.frames ∙ none))
    (λ (ended : IsSome b.«end»). none_ended b.«end» ended on.runs)
    over

-- ---- its start

module _ (laws : Laws) (w : Setting) (setup : Setup) (journal alone more : List Event) (by : IsRunJournal w setup journal) (x : IsConstructed w setup by.startup alone by.started) where
  on : Constructing x.start.hart
  on =
      let y : SetOff setup by.started = sets_off w setup by.startup by.started laws by.starts in
      let same : y.hart ≡ x.start.hart = (let both : Some y.hart ≡ Some x.start.hart = sym y.there ∙ x.sets_off.hart in cc) in
      subst Constructing same y.constructs

  over : IsTrue (list_any ends alone)
  over = ⊎_elim
      (λ (y : IsOver (by.startup ++ alone) x.start.from).
      let from : x.start.from ≡ length by.startup = x.sets_off.from in
      let since = y.since in
      in_any ends alone y.over (behind_in by.startup alone y.at y.over (omega (arith, from, since)) y.there) y.ends_it)
      (λ (still : Constructing x.hart). absurd (not_started x.hart still x.over))
      (constructs_on laws w (by.startup ++ alone) x.start.from x.to x.start.hart x.hart x.turns x.items x.follows on)

  starts_alone : by.others ≡ alone ++ more → StartsAlone w setup journal
  starts_alone are = record {
    startup = by.startup;
    started = by.started;
    starts = by.starts;
    others = alone ++ more;
    are = by.are ∙ ap (λ (es : List Event). by.startup ++ es) are;
    begins = begins_alone alone more (all_name_none alone x.own) over;
  }

pub threads_begin_alone : Laws → ThreadsBeginAlone
threads_begin_alone laws w setup journal alone more by x are = starts_alone laws w setup journal alone more by x are
