-- A run is over.
use Rattle.std.proofs.Common.{◌≡◌, ◌≢◌, inl, ℕ, zero, suc, ◌+◌, ◌-◌, ◌<◌, ◌≤◌, false, nat_le, Bool, List, [], ◌∷◌, ◌++◌, length, map, Option, None, Some, get_or, refl, sym, ap, subst, ◌∙◌, append-nil, append_assoc, arith}
use mathlib.Core.Logic.{dite}
use native.Mathlib.Decide.{ℕ_discrete}
use Rattle.std.specs.List.{All, Contains, slice_get}
use Rattle.std.proofs.lemmas.Bool.{leb-true}
use Rattle.std.proofs.lemmas.List.{map-append}
use Rattle.std.proofs.lemmas.Option.{slice_get_within}
use Rattle.history_event.specs.declared.event.Event.{Event}
use Rattle.history_event.specs.declared.event.Event.TheVariants as events
use Rattle.word_rule.specs.declared.entry.Grant.{Grant}
use Rattle.word_rule.specs.declared.view.Fate.{Fate}
use Rattle.word_rule.specs.declared.view.Fate.TheVariants.{Lost as FateLost, Won as FateWon}
use Rattle.word_rule.specs.declared.view.HartView.{HartView}
use Rattle.word_rule.specs.declared.view.KeeperView.{KeeperView}
use Rattle.word_rule.specs.declared.view.OpenRow.{OpenRow}
use Rattle.word_rule.specs.declared.view.Row.{Row}
use Rattle.word_rule.specs.KeeperSteps.{AreDecided, AreJoinedOnce, HasEnded, HasTakenAll, TellsAsk, awaited_if, settled_as}
use Rattle.word_rule.specs.Layout.{harts_at_most}
use Rattle.word_rule.specs.Lemmas.Heeding.{row_here}
use Rattle.word_rule.specs.Views.{BeginsWith, IsLong, exchanges_of, row_of}
use Rattle.word_steps.specs.Knowing.{with_joined}
use Rattle.slot_bind.specs.declared.slot.Asked.{Asked}
use Rattle.slot_bind.specs.declared.slot.Asked.TheVariants as asked
use Rattle.slot_bind.specs.Grants.{Says, asked_view}
use Rattle.history_state.specs.Accepted.{AcceptsOnly}
use Rattle.history_state.specs.After.{after}
use Rattle.history_state.specs.Lemmas.Lists.{at_in}
use Rattle.history_state.specs.Setting.{Setting}
use Rattle.history_state.specs.Slots.{HasNoGrant}
use Rattle.hart_moves.specs.Follows.{HasNone}
use Rattle.link_state.specs.Table.{LinkTable}
use Rattle.hart_trails.specs.Owners.{AreOfHarts}
use Rattle.hart_linker.specs.Between.{Hears}
use Rattle.kept_words.specs.Kept.{IsFateEvent}
use Rattle.kept_words.specs.Keeping.{AlikeKept, IsAlike, settled_view}
use Rattle.kept_words.specs.Over.{FatesAreExchanges, IsOver, OverIsWhole, TrailIsTrue, TrailsAreTrue}
use Rattle.kept_words.specs.Staying.{IsGrantEvent, fated_in}
use Rattle.link_keeper.specs.Finishing.{HasCome, IsExchangeOf, RunIsOver, TrailIsClosed, knows}
use Rattle.link_keeper.specs.Joining.{HasEndedThere, HaveTakenAll, IsFront, SettlesEnded, joins}
use Rattle.link_keeper.specs.Keeping.{KeepsState, KeepsView}
use Rattle.link_keeper.specs.Settling.{SettlesOne}
use Rattle.link_keeper.proofs.Fitting.{none_more}
use Rattle.link_keeper.proofs.Kept.{inside}
use Rattle.link_keeper.proofs.Settled.{none_pending, settles_more, settles_nothing}

-- ---- a hart is joined

-- it is told of all events before
pub front_of : (w : Setting) (begun : List Event) (events : List Event) (before now : HartView) → Hears w begun before now → now.heard ≡ events → IsFront events before
front_of w begun events before now x all = record {
  longer = subst (λ (es : List Event). BeginsWith es before.heard) all x.longer;
  none = subst (λ (es : List Event). HasNone es before.number (length before.heard) (length es)) all x.none;
}

pub knows_all : (w : Setting) (begun : List Event) (events : List Event) (before now : HartView) → Hears w begun before now → now.heard ≡ events → now ≡ knows events before
knows_all w begun events before now x all = x.told ∙ ap (λ (es : List Event). knows es before) all

pub joined_as : (k k1 k2 : KeeperView) (h h1 : HartView) → h1 ≡ knows k.events h → k1 ≡ k → k2 ≡ with_joined h1 k1 → k2 ≡ with_joined (knows k.events h) k
joined_as k k1 k2 h h1 told same is = is ∙ ap (λ (x : HartView). with_joined x k1) told ∙ ap (λ (x : KeeperView). with_joined (knows k.events h) x) same

-- the keeper's record stays
pub joined_view : AlikeKept → (w : Setting) (begun : List Event) (k : KeeperView) (seats : List HartView) → KeepsView w begun k → KeepsView w begun (joins seats k)
joined_view alike w begun k seats view = record {
  kept = alike w begun k (joins seats k) is_alike view.kept;
  pending = view.pending;
  last = view.last;
}
  where
    is_alike : IsAlike k (joins seats k)
    is_alike = record {
      events = refl;
      generation = refl;
      harts = refl;
      long = view.kept.long;
      words = λ d. refl;
      issued = λ m. refl;
      pending = λ m. refl;
      settled = λ m. refl;
      losses = refl;
      retired = refl;
    }

pub joins_none : (k : KeeperView) → k ≡ joins [] k
joins_none k = ap (λ (js : List HartView). record k { joined = js }) (sym (append-nil k.joined))

pub joins_more : (k l m : KeeperView) (seats : List HartView) (seat : HartView) → l ≡ joins seats k → m ≡ with_joined (knows l.events seat) l → m ≡ joins (seats ++ seat ∷ []) k
joins_more k l m seats seat one is =
    is ∙ ap (λ (x : KeeperView). with_joined (knows x.events seat) x) one
    ∙ ap (λ (js : List HartView). record k { joined = js })
    (append_assoc k.joined (map (knows k.events) seats) (knows k.events seat ∷ []) ∙ ap (λ (js : List HartView). k.joined ++ js) (sym (map-append (knows k.events) seats (seat ∷ []))))

pub joined_state : AlikeKept → (w : Setting) (begun : List Event) (state : LinkTable) (k l : KeeperView) (seats : List HartView) → KeepsState w begun state k → l ≡ joins seats k → KeepsState w begun state l
joined_state alike w begun state k l seats keeps is = record {
  view = subst (KeepsView w begun) (sym is) (joined_view alike w begun k seats keeps.view);
  machine = keeps.machine;
  same = ap (λ (x : KeeperView). x.events) is ∙ keeps.same;
}

-- ---- the last grants are settled

module _ (k l : KeeperView) (long : IsLong k) (id : ℕ) (low : id < harts_at_most) (g : Grant) (waits : (row_of k id).pending ≡ Some g) (number found : ℕ) (tells : TellsAsk k id found)
    (ended : HasEndedThere k id) where
  fated : (f : Fate) → l.rows ≡ (fated_in f id k).rows → (row_of l id).pending ≡ None
  fated f rows =
      ap (λ (rs : List Row). (row_of (record k { rows = rs }) id).pending) rows
      ∙ ap (λ (r : Row). r.pending) (row_here k id (settled_as f (row_of k id).pending (row_of k id)) (inside k id long low))
      ∙ ap (λ (p : Option Grant). (settled_as f p (row_of k id)).pending) waits

  pub none_left : (answer : Asked) → Says found answer → l ≡ settled_view number answer (asked_view id answer k) → (row_of l id).pending ≡ None
  none_left asked.Open says is = let j = ended g waits in absurd (tells.ended j.0 j.1 says)
  none_left asked.Won says is = fated FateWon (ap (λ (x : KeeperView). x.rows) is)
  none_left (asked.Lost saw) says is = fated FateLost (ap (λ (x : KeeperView). x.rows) is)

pub none_there : (w : Setting) (begun : List Event) (state : LinkTable) (k : KeeperView) → KeepsState w begun state k → (id : ℕ) → id < harts_at_most → HasNoGrant (after state.events) id
    → (row_of k id).pending ≡ None
none_there w begun state k keeps id low none = by (row_of k id).pending refl
  where
    by : (p : Option Grant) → (row_of k id).pending ≡ p → p ≡ None
    by None is = refl
    by (Some g) is = absurd (none_pending w begun state k keeps id low (subst (λ (es : List Event). HasNoGrant (after es) id) (sym keeps.same) none) g is)

pub ends_nothing : (k : KeeperView) → SettlesEnded 0 k k
ends_nothing k = record { settled = settles_nothing k; none = λ m low. absurd (omega (arith, low)); rest = λ m high. refl; unasked = refl }

pub ends_more : (n : ℕ) (k l m : KeeperView) → SettlesEnded n k l → SettlesOne n l m → (row_of m n).pending ≡ None → SettlesEnded (n + 1) k m
ends_more n k l m all one none = record {
  settled = settles_more n k l m all.settled one;
  none = λ j low. dite (ℕ_discrete j n)
      (λ (same : j ≡ n). ap (λ (i : ℕ). (row_of m i).pending) same ∙ none)
      (λ (apart : j ≢ n). ap (λ (r : Row). r.pending) (one.others j apart) ∙ all.none j (let few : j < n + 1 = low in omega (arith, few, apart)));
  rest = λ j high. dite (ℕ_discrete j n)
      (λ (same : j ≡ n). absurd (let more : n + 1 ≤ j = high in omega (arith, more, same)))
      (λ (apart : j ≢ n). one.others j apart ∙ all.rest j (let more : n + 1 ≤ j = high in omega (arith, more)));
  unasked = one.opened ∙ ap (λ (xs : List OpenRow). l.opens ++ xs) (one.unasked none) ∙ append-nil l.opens ∙ all.unasked;
}

pub ended_still : (n : ℕ) (k l : KeeperView) → SettlesEnded n k l → HasEndedThere k n → HasEndedThere l n
ended_still n k l all ended g waits =
    let j = ended g (sym (ap (λ (r : Row). r.pending) (all.rest n (omega arith))) ∙ waits) in
    (j.0, ((j.1.0.0, ap (λ (js : List HartView). slice_get js j.1.0.0) all.settled.joined ∙ j.1.0.1), j.1.1, j.1.2))

-- ---- what was taken

pub looked : (k l : KeeperView) (id : ℕ) (answer : Bool) (state : ℕ) → l ≡ awaited_if id answer k → answer ≡ nat_le 8 state → state < 8 → l ≡ k
looked k l id answer state is says low = by answer refl is
  where
    by : (b : Bool) → answer ≡ b → l ≡ awaited_if id answer k → l ≡ k
    by Bool.false same found = found ∙ ap (λ (b : Bool). awaited_if id b k) same
    by Bool.true same found = absurd (let high : 8 ≤ state = leb-true 8 state (sym says ∙ same) in omega (arith, high, low))

-- ---- all of it

module _ (over_is : OverIsWhole) (are_true : TrailsAreTrue) (are_exchanges : FatesAreExchanges) (w : Setting) (begun : List Event) (accepts : AcceptsOnly w.machine) (k k1 k2 : KeeperView) (seats : List HartView)
    (joined : k1 ≡ joins seats k) (fronts : All (IsFront k.events) seats) (numbers : (i : ℕ) (seat : HartView) → slice_get seats i ≡ Some seat → seat.number ≡ i)
    (calm : All (λ seat. seat.lane.calling ≡ false) seats) (all : length seats ≡ w.machine.harts) where
  at_seat : (P : HartView → Type 0) → All P seats → (i : ℕ) (seat : HartView) → slice_get seats i ≡ Some seat → P seat
  at_seat P holds i seat there = subst P (slice_get_or seats i seat there) (holds i seat (slice_get_within seats i seat there))
    where
      slice_get_or : (xs : List HartView) (n : ℕ) (x : HartView) → slice_get xs n ≡ Some x → get_or xs n x ≡ x
      slice_get_or [] n x at = refl
      slice_get_or (y ∷ ys) zero x at = let same : Some y ≡ Some x = at in cc
      slice_get_or (y ∷ ys) (suc n) x at = slice_get_or ys n x at

  -- the hart of a seat is there
  seat_joined : (i : ℕ) (seat : HartView) → slice_get seats i ≡ Some seat → slice_get (k.joined ++ map (knows k.events) seats) (length k.joined + i) ≡ Some (knows k.events seat)
  seat_joined i seat there = behind k.joined i ∙ mapped seats i there
    where
      behind : (front : List HartView) (n : ℕ) → slice_get (front ++ map (knows k.events) seats) (length front + n) ≡ slice_get (map (knows k.events) seats) n
      behind [] n = let same : 0 + n ≡ n = omega arith in ap (slice_get (map (knows k.events) seats)) same
      behind (x ∷ front) n =
          let same : length (x ∷ front) + n ≡ suc (length front + n) = omega arith in
          ap (slice_get (x ∷ (front ++ map (knows k.events) seats))) same ∙ behind front n

      mapped : (xs : List HartView) (n : ℕ) → slice_get xs n ≡ Some seat → slice_get (map (knows k.events) xs) n ≡ Some (knows k.events seat)
      mapped [] n at = absurd (let no : None ≡ Some seat = at in cc)
      mapped (x ∷ xs) zero at = let same : x ≡ seat = (let both : Some x ≡ Some seat = at in cc) in ap (λ (h : HartView). Some (knows k.events h)) same
      mapped (x ∷ xs) (suc n) at = mapped xs n at

  ended_at : (l : KeeperView) → l.joined ≡ k1.joined → (i : ℕ) (seat : HartView) → slice_get seats i ≡ Some seat → HasEnded l i (knows k.events seat)
  ended_at l same i seat there = (
    (length k.joined + i, ap (λ (js : List HartView). slice_get js (length k.joined + i)) (same ∙ ap (λ (x : KeeperView). x.joined) joined) ∙ seat_joined i seat there),
    numbers i seat there,
    at_seat (λ s. s.lane.calling ≡ false) calm i seat there,
  )

  some_seat : (m : ℕ) → m < w.machine.harts → (seat : HartView) × (slice_get seats m ≡ Some seat)
  some_seat m low = at seats m (subst (λ (n : ℕ). m < n) (sym all) low)
    where
      at : (xs : List HartView) (n : ℕ) → n < length xs → (x : HartView) × (slice_get xs n ≡ Some x)
      at [] n few = absurd (omega (arith, few))
      at (x ∷ xs) zero few = (x, refl)
      at (x ∷ xs) (suc n) few = at xs n (omega (arith, few))

  -- a hart with a grant is one of the machine
  granted_low : (journal : List Event) → AreOfHarts w journal → (m : ℕ) (g : Grant) → IsGrantEvent journal m g → m < w.machine.harts
  granted_low journal own m g x = own (events.Grant x.number m x.owner x.slot x.choice g.entry.value) m (at_in journal (g.entry.number - 1) _ x.at) refl

  pub have_ended : KeepsView w begun k1 → AreOfHarts w k1.events → (m : ℕ) → m < harts_at_most → HasEndedThere k1 m
  have_ended view own m low g waits =
      let seat = some_seat m (granted_low k1.events own m g (view.kept.granted m g low (inl waits))) in
      (knows k.events seat.0, ended_at k1 refl m seat.0 seat.1)

  pub are_there : (l : KeeperView) → SettlesEnded 16 k1 l → (m : ℕ) → m < w.machine.harts → (j : HartView) × HasEnded l m j
  are_there l settled m low = let seat = some_seat m low in (knows k.events seat.0, ended_at l settled.settled.joined m seat.0 seat.1)

  -- no seat was joined before
  pub alone : (l : KeeperView) → l.joined ≡ k1.joined → AreJoinedOnce l → l.harts ≡ w.machine.harts → k.joined ≡ []
  alone l same once harts = by k.joined refl
    where
      joined_are : l.joined ≡ k.joined ++ map (knows k.events) seats
      joined_are = same ∙ ap (λ (x : KeeperView). x.joined) joined

      by : (front : List HartView) → k.joined ≡ front → front ≡ []
      by [] is = refl
      by (x ∷ rest) is =
          let first : slice_get l.joined 0 ≡ Some x = ap (λ (js : List HartView). slice_get js 0) (joined_are ∙ ap (λ (js : List HartView). js ++ map (knows k.events) seats) is) in
          let seat = some_seat x.number (subst (λ (n : ℕ). x.number < n) harts (once.numbered 0 x first)) in
          let again : slice_get l.joined (length k.joined + x.number) ≡ Some (knows k.events seat.0) =
          ap (λ (js : List HartView). slice_get js (length k.joined + x.number)) joined_are ∙ seat_joined x.number seat.0 seat.1 in
          let at : 0 ≡ length k.joined + x.number = once.once 0 (length k.joined + x.number) x (knows k.events seat.0) first again (sym (numbers x.number seat.0 seat.1)) in
          let some : length k.joined ≡ length (x ∷ rest) = ap length is in
          absurd (omega (arith, at, some))

  module _ (settled : SettlesEnded 16 k1 k2) (view : KeepsView w begun k2) (own : AreOfHarts w k2.events) (taken : HaveTakenAll w.machine.harts k2) (decided : AreDecided k2) where
    events_are : k2.events ≡ k.events ++ settled.settled.more
    events_are = settled.settled.events ∙ ap (λ (x : KeeperView). x.events ++ settled.settled.more) joined

    is_over : IsOver k2
    is_over = record { settled = settled.none; decided = decided }

    low_seat : (h : ℕ) (j : HartView) → slice_get seats h ≡ Some j → h < w.machine.harts
    low_seat h j there = subst (λ (n : ℕ). h < n) all (slice_get_within seats h j there)

    took : (h : ℕ) (j : HartView) → slice_get seats h ≡ Some j → (state : ℕ) × HasTakenAll k2 h state (knows k.events j)
    took h j there = taken h (knows k.events j) (low_seat h j there) (ended_at k2 settled.settled.joined h j there)

    closed : (h : ℕ) (j : HartView) → slice_get seats h ≡ Some j → TrailIsClosed w begun k2.events h j
    closed h j there =
        let front : IsFront k.events j = at_seat (IsFront k.events) fronts h j there in
        let all_taken = took h j there in
        let few : h < harts_at_most = (let most : w.machine.harts ≤ harts_at_most = view.kept.few in let low : h < w.machine.harts = low_seat h j there in omega (arith, most, low)) in
        let x : TrailIsTrue w begun k2.events h (knows k.events j) = are_true w begun k2 h all_taken.0 (knows k.events j) view.kept few (settled.none h few) all_taken.1 in
        let same : j.number ≡ h = numbers h j there in
        record {
          number = same;
          longer = (front.longer.0 ++ settled.settled.more, events_are ∙ ap (λ (es : List Event). es ++ settled.settled.more) front.longer.1 ∙ append_assoc j.heard front.longer.0 settled.settled.more);
          none = subst (λ (es : List Event). HasNone es h (length j.heard) (length es)) (sym events_are)
              (none_more h (length j.heard) k.events settled.settled.more (subst (λ (n : ℕ). HasNone k.events n (length j.heard) (length k.events)) same front.none) settled.settled.nobodys);
          is_true = record { issued = x.issued; events = x.events; granted = x.granted; won = x.won; lost = x.lost; fetched = x.fetched };
          rising = all_taken.1.rising;
          kept = all_taken.1.kept;
        }

    come : (f : Fate) (m : ℕ) (j : HartView) (g : Grant) → slice_get seats m ≡ Some j → Contains (row_of k2 m).settled (record { grant = g; fate = f }) → HasCome f (exchanges_of j.trail) g
    come FateWon m j g there fate = (took m j there).1.won g fate
    come FateLost m j g there fate = (took m j there).1.lost g fate

    exchanged : (n : ℕ) (f : Fate) (e : Event) → Contains k2.events e → IsFateEvent n f e → IsExchangeOf k2.events seats n f e
    exchanged n f e there is =
        let x = are_exchanges w begun k2 n f e view.kept there is in
        let seat = some_seat x.hart (granted_low k2.events own x.hart x.grant x.event) in
        record {
          hart = x.hart;
          view = seat.0;
          there = seat.1;
          grant = x.grant;
          event = x.event;
          number_is = x.number_is;
          come = come f x.hart seat.0 x.grant seat.1 x.fate;
          shown = λ i saw is. (took x.hart seat.0 seat.1).1.found (record { hart = x.hart; exchange = record { grant = x.grant; found = saw } }) (x.shown i saw is) refl;
        }

    pub over : RunIsOver w begun k.events k2.events seats
    over = record {
      more = settled.settled.more;
      are = events_are;
      nobodys = settled.settled.nobodys;
      in_order = settled.settled.in_order;
      legal = view.kept.legal;
      begins = view.kept.begins;
      own = own;
      whole = over_is w begun k2 accepts view.kept is_over;
      trails = closed;
      fates = exchanged;
    }
