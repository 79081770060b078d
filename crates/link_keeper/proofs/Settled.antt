-- Grants are settled.
use Rattle.std.proofs.Common.{◌≡◌, ◌≢◌, ◌⊎◌, ⊎_elim, inl, inr, ℕ, ◌+◌, ◌%◌, ◌≤◌, ◌<◌, ◌&&◌, Bool, true, ne_eqb, if◌then◌else◌, List, [], ◌∷◌, ◌++◌, length, length-append, map, Option, None, Some, refl, sym, ap, subst, ◌∙◌, append-nil, append_assoc, arith}
use mathlib.Core.Logic.{dite}
use native.Mathlib.Decide.{ℕ_discrete}
use Rattle.std.specs.List.{Contains}
use Rattle.std.proofs.lemmas.List.Elements.{Contains-append_cases, Contains-append_left, Contains-append_right}
use Rattle.history_event.specs.declared.event.Event.{Event}
use Rattle.history_event.specs.declared.event.Event.TheVariants as events
use Rattle.history_event.specs.declared.state.Granting.{Granting}
use Rattle.history_event.specs.declared.state.Standing.{Standing}
use Rattle.history_event.specs.declared.state.Standing.TheVariants.{Bound, Lost, Open}
use Rattle.word_rule.specs.declared.entry.Grant.{Grant}
use Rattle.word_rule.specs.declared.view.Fate.{Fate}
use Rattle.word_rule.specs.declared.view.Fate.TheVariants.{Won as FateWon, Lost as FateLost}
use Rattle.word_rule.specs.declared.view.KeeperView.{KeeperView}
use Rattle.word_rule.specs.declared.view.OpenRow.{OpenRow}
use Rattle.word_rule.specs.declared.view.Row.{Row}
use Rattle.word_rule.specs.Allowed.{IsWon}
use Rattle.word_rule.specs.KeeperSteps.{TellsAsk, settled_as}
use Rattle.word_rule.specs.Layout.{harts_at_most}
use Rattle.word_rule.specs.Lemmas.Heeding.{row_else, row_here}
use Rattle.word_rule.specs.Views.{IsLong, row_of}
use Rattle.word_steps.specs.Knowing.{counted}
use Rattle.slot_bind.specs.declared.slot.Asked.{Asked}
use Rattle.slot_bind.specs.declared.slot.Asked.TheVariants as asked
use Rattle.slot_bind.specs.Grants.{Saw, Says, asked_view, fated_view}
use Rattle.history_state.specs.Accepted.{AcceptsOnly}
use Rattle.history_state.specs.After.{after}
use Rattle.history_state.specs.Allowed.{Allowed}
use Rattle.history_state.specs.Grants.{is_open}
use Rattle.history_state.specs.Legal.{Lawful}
use Rattle.history_state.specs.Lemmas.History.{after_push, legal_is_lawful}
use Rattle.history_state.specs.Lemmas.Lists.{here, in_map, none_in, only_in}
use Rattle.history_state.specs.Lemmas.Tidy.{one_number, tidy_after}
use Rattle.history_state.specs.Setting.{Machine, Setting}
use Rattle.history_state.specs.Slots.{HasNoGrant, MayBind, MayLose}
use Rattle.history_state.specs.State.{State}
use Rattle.history_state.specs.Step.{settle, step}
use Rattle.history_state.specs.Step as steps
use Rattle.history_calls.specs.Laws.{hart_of}
use Rattle.history_journal.specs.Following.{MayFollow, machine_of}
use Rattle.history_memory.specs.Remade.{HasSlot}
use Rattle.link_state.specs.Granting.{HasOpenGrant}
use Rattle.link_state.specs.Table.{LinkTable}
use Rattle.kept_words.specs.Kept.{AreKept, IsFateEvent}
use Rattle.kept_words.specs.Keeping.{AskedKept, settled_view}
use Rattle.kept_words.specs.Settling.{LostMayLose, WonMayBind}
use Rattle.kept_words.specs.Staying.{fated_in, number_in}
use Rattle.link_keeper.proofs.Kept.{inside, later_event, later_number, row_field}
use Rattle.link_keeper.specs.Finishing.{IsSettlingOf, SettledUpTo}
use Rattle.link_keeper.specs.Keeping.{AreOpen, FirstGoesOn, KeepsState, WasOver}
use Rattle.link_keeper.specs.Rounds.{CameAmong, WasFoundOpen}
use Rattle.link_keeper.specs.Settling.{HasSettled, IsFoundOpen, SettlesOne}

-- where a list with one more element is split, the split is before that, or at it
pub split_last : {X : Type 0} (xs past rest : List X) (x y : X) → xs ++ x ∷ [] ≡ past ++ y ∷ rest
    → ((front : List X) × (rest ≡ front ++ x ∷ []) × (xs ≡ past ++ y ∷ front)) ⊎ ((xs ≡ past) × (x ≡ y))
split_last {X} [] [] rest x y is = let both : x ∷ [] ≡ y ∷ rest = is in let same : x ≡ y = cc in inr (refl, same)
split_last {X} [] (p ∷ []) rest x y is = absurd (let both : x ∷ [] ≡ p ∷ y ∷ rest = is in cc)
split_last {X} [] (p ∷ q ∷ past) rest x y is = absurd (let both : x ∷ [] ≡ p ∷ q ∷ (past ++ y ∷ rest) = is in cc)
split_last {X} (z ∷ xs) [] rest x y is =
    let both : z ∷ (xs ++ x ∷ []) ≡ y ∷ rest = is in
    let front : xs ++ x ∷ [] ≡ rest = cc in
    let same : z ≡ y = cc in
    inl (xs, sym front, ap (λ (w : X). w ∷ xs) same)
split_last {X} (z ∷ xs) (p ∷ past) rest x y is =
    let both : z ∷ (xs ++ x ∷ []) ≡ p ∷ (past ++ y ∷ rest) = is in
    let behind : xs ++ x ∷ [] ≡ past ++ y ∷ rest = cc in
    let same : z ≡ p = cc in
    ⊎_elim
    (λ (old : (front : List X) × (rest ≡ front ++ x ∷ []) × (xs ≡ past ++ y ∷ front)). inl (old.0, old.1, (λ i. same i ∷ old.2 i)))
    (λ (at : (xs ≡ past) × (x ≡ y)). inr ((λ i. same i ∷ at.0 i), at.1))
    (split_last xs past rest x y behind)

-- ---- in the order of the harts

-- over a longer journal
settling_later : (journal more : List Event) (h : ℕ) (e : Event) → IsSettlingOf journal h e → IsSettlingOf (journal ++ more) h e
settling_later journal more h e (g, f, at, is) =
    (g, f, later_event journal more h g at, subst (λ (n : ℕ). IsFateEvent n f e) (sym (later_number journal more h g at)) is)

settled_later : (journal more : List Event) (below : ℕ) (es : List Event) → SettledUpTo journal below es → SettledUpTo (journal ++ more) below es
settled_later journal more below es (SettledUpTo.nothing n) = SettledUpTo.nothing below
settled_later journal more below es (SettledUpTo.one_more front h n e before low is) =
    SettledUpTo.one_more front h below e (settled_later journal more h front before) low (settling_later journal more h e is)

-- of one hart more
settled_above : (journal : List Event) (n : ℕ) (es : List Event) → SettledUpTo journal n es → SettledUpTo journal (n + 1) es
settled_above journal n es (SettledUpTo.nothing m) = SettledUpTo.nothing (n + 1)
settled_above journal n es (SettledUpTo.one_more front h m e before low is) = SettledUpTo.one_more front h (n + 1) e before (omega (arith, low)) is

in_order_more : (n : ℕ) (journal longer : List Event) (all one : List Event) → longer ≡ journal ++ one → SettledUpTo journal n all
    → (one ≡ []) ⊎ ((e : Event) × (one ≡ e ∷ []) × IsSettlingOf longer n e) → SettledUpTo longer (n + 1) (all ++ one)
in_order_more n journal longer all one are before (inl none) =
    subst (SettledUpTo longer (n + 1)) (sym (ap (λ (es : List Event). all ++ es) none ∙ append-nil all)) (settled_above longer n all
    (subst (λ (es : List Event). SettledUpTo es n all) (sym are) (settled_later journal one n all before)))
in_order_more n journal longer all one are before (inr (e, is, settles)) =
    subst (SettledUpTo longer (n + 1)) (ap (λ (es : List Event). all ++ es) (sym is)) (SettledUpTo.one_more all n (n + 1) e
    (subst (λ (es : List Event). SettledUpTo es n all) (sym are) (settled_later journal one n all before)) (omega arith) settles)

abbrev pub SlotsStand : Type 0
SlotsStand = (m : Machine) (journal : List Event) (g : Granting) → AcceptsOnly m → Lawful m journal → Contains (after journal).grants g → g.standing ≡ Open → HasSlot (after journal) g

-- ---- an event more

pub first_goes_on : (w : Setting) (journal : List Event) (e : Event) → FirstGoesOn w journal → (WasOver w journal → (hart_of e ≡ Some 0) ⊎ (hart_of e ≡ None))
    → FirstGoesOn w (journal ++ e ∷ [])
first_goes_on w journal e last new past d rest is over = by rest is
  where
    by : (rest : List Event) → journal ++ e ∷ [] ≡ past ++ d ∷ rest → (hart_of d ≡ Some 0) ⊎ (hart_of d ≡ None)
    by rest is = ⊎_elim
        (λ (old : (front : List Event) × (rest ≡ front ++ e ∷ []) × (journal ≡ past ++ d ∷ front)). last past d old.0 old.2 over)
        (λ (at : (journal ≡ past) × (e ≡ d)). subst (λ (x : Event). (hart_of x ≡ Some 0) ⊎ (hart_of x ≡ None)) at.1 (new (subst (WasOver w) (sym at.0) over)))
        (split_last journal past rest e d is)

-- ---- the state's open grants, and those that the keeper hasn't asked for

module _ (w : Setting) (begun : List Event) (state : LinkTable) (k : KeeperView) (keeps : KeepsState w begun state k) where
  lawful : Lawful w.machine k.events
  lawful = legal_is_lawful w k.events keeps.view.kept.legal

  -- one of the state's is known by its number
  one_grant : (g h : Granting) → Contains (after k.events).grants g → Contains (after k.events).grants h → g.number ≡ h.number → g ≡ h
  one_grant = one_number (after k.events).grants (tidy_after w.machine k.events lawful)

  pub pending_of : AcceptsOnly w.machine → SlotsStand → (id number : ℕ) → HasOpenGrant (after k.events) id number
      → (g : Grant) × ((row_of k id).pending ≡ Some g) × (number ≡ number_in k.events id g)
  pending_of only stand id number x =
      let slot = stand w.machine k.events x.grant only lawful x.there x.pending in
      let at = keeps.view.kept.words.stands slot.0 x.grant slot.1.place x.there (inr x.pending) slot.1.of in
      ⊎_elim
      (λ (waits : (row_of k at.0).pending ≡ Some at.1).
      let its : HasOpenGrant (after k.events) at.0 (number_in k.events at.0 at.1) = keeps.view.pending at.0 at.1 at.2 waits in
      let same : its.grant ≡ x.grant = one_grant its.grant x.grant its.there x.there (its.numbered ∙ at.5) in
      let hart : at.0 ≡ id = sym its.of ∙ ap (λ (g : Granting). g.hart) same ∙ x.of in (
        at.1,
        subst (λ (m : ℕ). (row_of k m).pending ≡ Some at.1) hart waits,
        sym x.numbered ∙ sym at.5 ∙ ap (λ (m : ℕ). number_in k.events m at.1) hart,
      ))
      (λ (won : IsWon (row_of k at.0) at.1). absurd (let no : Open ≡ Bound = sym x.pending ∙ at.6.bound won in cc))
      at.3

  pub none_pending : (id : ℕ) → id < harts_at_most → HasNoGrant (after k.events) id → (g : Grant) → (row_of k id).pending ≡ Some g → ⊥
  none_pending id low none g waits =
      let x : HasOpenGrant (after k.events) id (number_in k.events id g) = keeps.view.pending id g low waits in
      none x.grant x.there x.pending x.of

  -- ---- a grant is settled, and the others are open as they were

  module _ (h : ℕ) (low : h < harts_at_most) (g : Grant) (pending : (row_of k h).pending ≡ Some g) (fate : Fate) (standing : Standing) (e : Event)
      (is : step (after k.events) e ≡ settle (number_in k.events h g) standing (after k.events)) (l : KeeperView) (events_are : l.events ≡ k.events ++ e ∷ [])
      (rows : l.rows ≡ (fated_in fate h k).rows) where
    long : IsLong k
    long = keeps.view.kept.long

    row_is : row_of (fated_in fate h k) h ≡ settled_as fate (Some g) (row_of k h)
    row_is = row_here k h (settled_as fate (row_of k h).pending (row_of k h)) (inside k h long low) ∙ ap (λ (p : Option Grant). settled_as fate p (row_of k h)) pending

    row_other : (j : ℕ) → j ≢ h → row_of (fated_in fate h k) j ≡ row_of k j
    row_other j apart = row_else k h (settled_as fate (row_of k h).pending (row_of k h)) (inside k h long low) j apart

    row_l : (j : ℕ) → row_of l j ≡ row_of (fated_in fate h k) j
    row_l j = ap (λ (rs : List Row). row_of (record k { rows = rs }) j) rows

    was_waiting : (m : ℕ) (p : Grant) → (row_of l m).pending ≡ Some p → (m ≢ h) × ((row_of k m).pending ≡ Some p)
    was_waiting m p waits = dite (ℕ_discrete m h)
        (λ (same : m ≡ h). absurd (let no : None ≡ Some p = sym (ap (λ (r : Row). r.pending) (row_l m ∙ ap (λ (i : ℕ). row_of (fated_in fate h k) i) same ∙ row_is)) ∙ waits in cc))
        (λ (apart : m ≢ h). (apart, sym (ap (λ (r : Row). r.pending) (row_l m ∙ row_other m apart)) ∙ waits))

    kept_grant : (x : Granting) → x.number ≢ number_in k.events h g → steps.settled_as (number_in k.events h g) standing x ≡ x
    kept_grant x apart = ap (λ (b : Bool). if b && is_open x then record x { standing = standing } else x) (ne_eqb x.number (number_in k.events h g) apart)

    its_open : (m : ℕ) (p : Grant) → m < harts_at_most → (row_of l m).pending ≡ Some p → HasOpenGrant (after l.events) m (number_in l.events m p)
    its_open m p few waits =
        let was = was_waiting m p waits in
        let x : HasOpenGrant (after k.events) m (number_in k.events m p) = keeps.view.pending m p few was.1 in
        let apart : x.grant.number ≢ number_in k.events h g = λ same.
        was.0 (keeps.view.kept.words.one m h p g few low (inl was.1) (inl pending) (sym x.numbered ∙ same)).0 in
        let there : Contains (settle (number_in k.events h g) standing (after k.events)).grants x.grant =
        subst (λ (y : Granting). Contains (map (steps.settled_as (number_in k.events h g) standing) (after k.events).grants) y) (kept_grant x.grant apart)
        (in_map (steps.settled_as (number_in k.events h g) standing) (after k.events).grants x.grant x.there) in
        subst (λ (es : List Event). HasOpenGrant (after es) m (number_in es m p)) (sym events_are)
        (record {
          grant = x.grant;
          there = subst (λ (s : State). Contains s.grants x.grant) (sym (after_push k.events e ∙ is)) there;
          pending = x.pending;
          of = x.of;
          numbered = x.numbered ∙ sym (later_number k.events (e ∷ []) m p (keeps.view.kept.granted m p few (inl was.1)));
        })

    pub settled_open : AreOpen l
    settled_open = its_open

    pub settled_row : IsFateEvent (number_in k.events h g) fate e → hart_of e ≡ None → l.harts ≡ k.harts → l.joined ≡ k.joined → l.opens ≡ k.opens → SettlesOne h k l
    settled_row fated nobodys harts joined opens = record {
      more = e ∷ [];
      events = events_are;
      nobodys = λ x there. ap hart_of (sym (only_in e x there)) ∙ nobodys;
      settles = inr (
        e,
        refl,
        subst (λ (es : List Event). IsSettlingOf es h e) (sym events_are)
            (settling_later k.events (e ∷ []) h e (g, fate, keeps.view.kept.granted h g low (inl pending), fated)),
      );
      harts = harts;
      joined = joined;
      others = λ m apart. row_l m ∙ row_other m apart;
      issued = ap (λ (r : Row). r.issued) (row_l h ∙ row_is);
      since = ap (λ (r : Row). r.since) (row_l h ∙ row_is);
      found = λ p waits. absurd ((was_waiting h p waits).0 refl);
      opens = [];
      opened = opens ∙ sym (append-nil k.opens);
      meanwhile = λ x there. absurd (none_in x there);
      left_open = λ p waits. absurd ((was_waiting h p waits).0 refl);
      unasked = λ none. refl;
    }

  -- ---- what an ask answered

  module _ (law : AskedKept) (only : AcceptsOnly w.machine) (h : ℕ) (low : h < harts_at_most) (g : Grant) (pending : (row_of k h).pending ≡ Some g) (found number : ℕ)
      (numbered : number ≡ number_in k.events h g) (tells : TellsAsk k h found) (t : LinkTable) (l : KeeperView) (harts : t.harts ≡ state.harts) where
    kept_by : (answer : Asked) → Says found answer → Saw (fated_view h answer k) g answer → l ≡ settled_view number answer (asked_view h answer k) → AreKept w begun l
    kept_by answer says saw is = subst (AreKept w begun) (sym is) (subst (λ (n : ℕ). AreKept w begun (settled_view n answer (asked_view h answer k))) (sym numbered)
        (law w begun k h found g answer only keeps.view.kept low pending tells says saw))

    pub keeps_open : t.events ≡ state.events → l ≡ asked_view h asked.Open k → found % 8 ≡ 3 → KeepsState w begun t l
    keeps_open events_are is says = record {
      view = record {
        kept = kept_by asked.Open says tt is;
        pending = λ m p few waits. subst (λ (x : KeeperView). HasOpenGrant (after x.events) m (number_in x.events m p)) (sym is)
            (keeps.view.pending m p few (sym (open_field (λ (r : Row). r.pending) refl m) ∙ ap (λ (x : KeeperView). (row_of x m).pending) (sym is) ∙ waits));
        last = subst (FirstGoesOn w) (ap (λ (x : KeeperView). x.events) (sym is)) keeps.view.last;
      };
      machine = keeps.machine ∙ ap machine_of (sym harts);
      same = ap (λ (x : KeeperView). x.events) is ∙ keeps.same ∙ sym events_are;
    }
      where
        open_field : {A : Type 0} (f : Row → A) → f (record (row_of k h) { found_open = true }) ≡ f (row_of k h) → (m : ℕ) → f (row_of (asked_view h asked.Open k) m) ≡ f (row_of k m)
        open_field {A} f same m = row_field f k h (record (row_of k h) { found_open = true }) (inside k h keeps.view.kept.long low) same m

    pub keeps_won : t.events ≡ state.events ++ events.Bound number ∷ [] → l ≡ counted (events.Bound number) (asked_view h asked.Won k) → found % 8 ≡ 4 → KeepsState w begun t l
    keeps_won events_are is says = record {
      view = record {
        kept = kept_by asked.Won says tt is;
        pending = settled_open h low g pending FateWon Bound (events.Bound number) (ap (λ (n : ℕ). settle n Bound (after k.events)) numbered) l
            (ap (λ (x : KeeperView). x.events) is) (ap (λ (x : KeeperView). x.rows) is);
        last = subst (FirstGoesOn w) (ap (λ (x : KeeperView). x.events) (sym is)) (first_goes_on w k.events (events.Bound number) keeps.view.last (λ _. inr refl));
      };
      machine = keeps.machine ∙ ap machine_of (sym harts);
      same = ap (λ (x : KeeperView). x.events) is ∙ ap (λ (es : List Event). es ++ events.Bound number ∷ []) keeps.same ∙ sym events_are;
    }

    pub keeps_lost : (saw : ℕ) → t.events ≡ state.events ++ events.Lost number saw ∷ [] → l ≡ counted (events.Lost number saw) (asked_view h (asked.Lost saw) k) → found % 8 ≡ 5
        → Saw (fated_view h (asked.Lost saw) k) g (asked.Lost saw) → KeepsState w begun t l
    keeps_lost saw events_are is says sees = record {
      view = record {
        kept = kept_by (asked.Lost saw) says sees is;
        pending = settled_open h low g pending FateLost (Lost saw) (events.Lost number saw) (ap (λ (n : ℕ). settle n (Lost saw) (after k.events)) numbered) l
            (ap (λ (x : KeeperView). x.events) is) (ap (λ (x : KeeperView). x.rows) is);
        last = subst (FirstGoesOn w) (ap (λ (x : KeeperView). x.events) (sym is)) (first_goes_on w k.events (events.Lost number saw) keeps.view.last (λ _. inr refl));
      };
      machine = keeps.machine ∙ ap machine_of (sym harts);
      same = ap (λ (x : KeeperView). x.events) is ∙ ap (λ (es : List Event). es ++ events.Lost number saw ∷ []) keeps.same ∙ sym events_are;
    }

  -- a hart has no open grant
  pub settles_none : (id : ℕ) → id < harts_at_most → HasNoGrant (after k.events) id → SettlesOne id k k
  settles_none id low none = record {
    more = [];
    events = sym (append-nil k.events);
    nobodys = λ x there. absurd (none_in x there);
    settles = inl refl;
    harts = refl;
    joined = refl;
    others = λ m apart. refl;
    issued = refl;
    since = refl;
    found = λ p waits. absurd (none_pending id low none p waits);
    opens = [];
    opened = sym (append-nil k.opens);
    meanwhile = λ x there. absurd (none_in x there);
    left_open = λ p waits. absurd (none_pending id low none p waits);
    unasked = λ empty. refl;
  }

-- ---- one row after another

-- times at which a hart was asked, in two stretches of a settling
among_more : (past mid first second : List Event) (a b : List OpenRow) → mid ≡ past ++ first → CameAmong past first a → CameAmong mid second b
    → CameAmong past (first ++ second) (a ++ b)
among_more past mid first second a b are one two x there =
    let all : length (past ++ (first ++ second)) ≡ length past + length (first ++ second) = length-append past (first ++ second) in
    let both : length (first ++ second) ≡ length first + length second = length-append first second in
    let least : length mid ≡ length past + length first = ap length are ∙ length-append past first in
    let most : length (mid ++ second) ≡ length mid + length second = length-append mid second in
    let middle : length (past ++ first) ≡ length past + length first = length-append past first in
    ⊎_elim
    (λ (old : Contains a x). let low : length past ≤ x.number = (one x old).0 in let high : x.number ≤ length (past ++ first) = (one x old).1 in (low, omega (arith, high, all, both, middle)))
    (λ (new : Contains b x). let low : length mid ≤ x.number = (two x new).0 in let high : x.number ≤ length (mid ++ second) = (two x new).1 in
    (omega (arith, low, least), omega (arith, high, all, both, least, most)))
    (Contains-append_cases a b x there)

-- a time at which nothing was new
asked_once : (h : ℕ) (past : List Event) → CameAmong past [] (record { hart = h; number = length past } ∷ [])
asked_once h past x there =
    let low : length past ≤ length past = omega arith in
    subst (λ (y : OpenRow). (length past ≤ y.number) × (y.number ≤ length (past ++ []))) (only_in (record { hart = h; number = length past }) x there)
    (low, subst (λ (es : List Event). length past ≤ length es) (sym (append-nil past)) low)

found_left : (a b : List OpenRow) (m : ℕ) → WasFoundOpen m a → WasFoundOpen m (a ++ b)
found_left a b m (x, there, of) = (x, Contains-append_left a b x there, of)

found_right : (a b : List OpenRow) (m : ℕ) → WasFoundOpen m b → WasFoundOpen m (a ++ b)
found_right a b m (x, there, of) = (x, Contains-append_right a b x there, of)

pub settles_nothing : (k : KeeperView) → HasSettled 0 k k
settles_nothing k = record {
  more = [];
  events = sym (append-nil k.events);
  nobodys = λ x there. absurd (none_in x there);
  in_order = SettledUpTo.nothing 0;
  harts = refl;
  joined = refl;
  issued = λ m. refl;
  since = λ m. refl;
  found = λ m low. absurd (omega (arith, low));
  opens = [];
  opened = sym (append-nil k.opens);
  meanwhile = λ x there. absurd (none_in x there);
  left_open = λ m g low. absurd (omega (arith, low));
}

pub settles_more : (n : ℕ) (k l m : KeeperView) → HasSettled n k l → SettlesOne n l m → HasSettled (n + 1) k m
settles_more n k l m all one = record {
  more = all.more ++ one.more;
  events = one.events ∙ ap (λ (es : List Event). es ++ one.more) all.events ∙ append_assoc k.events all.more one.more;
  nobodys = λ x there. ⊎_elim (λ (old : Contains all.more x). all.nobodys x old) (λ (new : Contains one.more x). one.nobodys x new) (Contains-append_cases all.more one.more x there);
  in_order = in_order_more n l.events m.events all.more one.more one.events all.in_order one.settles;
  harts = one.harts ∙ all.harts;
  joined = one.joined ∙ all.joined;
  issued = λ j. dite (ℕ_discrete j n)
      (λ (same : j ≡ n). subst (λ (i : ℕ). (row_of m i).issued ≡ (row_of k i).issued) (sym same) (one.issued ∙ all.issued n))
      (λ (apart : j ≢ n). ap (λ (r : Row). r.issued) (one.others j apart) ∙ all.issued j);
  since = λ j. dite (ℕ_discrete j n)
      (λ (same : j ≡ n). subst (λ (i : ℕ). (row_of m i).since ≡ (row_of k i).since) (sym same) (one.since ∙ all.since n))
      (λ (apart : j ≢ n). ap (λ (r : Row). r.since) (one.others j apart) ∙ all.since j);
  found = λ j low. dite (ℕ_discrete j n)
      (λ (same : j ≡ n). subst (λ (i : ℕ). IsFoundOpen (row_of m i)) (sym same) one.found)
      (λ (apart : j ≢ n). subst IsFoundOpen (sym (one.others j apart)) (all.found j (let more : j < n + 1 = low in omega (arith, more, apart))));
  opens = all.opens ++ one.opens;
  opened = one.opened ∙ ap (λ (xs : List OpenRow). xs ++ one.opens) all.opened ∙ append_assoc k.opens all.opens one.opens;
  meanwhile = among_more k.events l.events all.more one.more all.opens one.opens all.events all.meanwhile one.meanwhile;
  left_open = λ j g low waits. dite (ℕ_discrete j n)
      (λ (same : j ≡ n). found_right all.opens one.opens j
      (subst (λ (i : ℕ). WasFoundOpen i one.opens) (sym same) (one.left_open g (sym (ap (λ (i : ℕ). (row_of m i).pending) same) ∙ waits))))
      (λ (apart : j ≢ n). found_left all.opens one.opens j
      (all.left_open j g (let more : j < n + 1 = low in omega (arith, more, apart)) (sym (ap (λ (r : Row). r.pending) (one.others j apart)) ∙ waits)));
}

-- ---- what may be settled

pub may_follow : (w : Setting) (begun : List Event) (state : LinkTable) (k : KeeperView) → KeepsState w begun state k → (e : Event) → Allowed w k.events e → MayFollow state.harts state.events e
may_follow w begun state k keeps e may = record { setting = w; machine = keeps.machine; may = subst (λ (es : List Event). Allowed w es e) keeps.same may }

pub may_bind : WonMayBind → (w : Setting) (begun : List Event) (state : LinkTable) (k : KeeperView) → KeepsState w begun state k → AcceptsOnly w.machine → (h : ℕ) → h < harts_at_most → (g : Grant)
    → (row_of k h).pending ≡ Some g → (found number : ℕ) → number ≡ number_in k.events h g → TellsAsk k h found → found % 8 ≡ 4 → MayFollow state.harts state.events (events.Bound number)
may_bind won w begun state k keeps only h low g pending found number numbered tells says =
    may_follow w begun state k keeps (events.Bound number)
    (subst (λ (n : ℕ). MayBind (after k.events) n) (sym numbered)
    (won w.machine k.events k (number_in k.events) h found g only (legal_is_lawful w k.events keeps.view.kept.legal) keeps.view.kept.words low pending tells says))

pub may_lose : LostMayLose → (w : Setting) (begun : List Event) (state : LinkTable) (k : KeeperView) → KeepsState w begun state k → AcceptsOnly w.machine → (h : ℕ) → h < harts_at_most → (g : Grant)
    → (row_of k h).pending ≡ Some g → (found number saw : ℕ) → number ≡ number_in k.events h g → TellsAsk k h found → Saw (fated_view h (asked.Lost saw) k) g (asked.Lost saw)
    → MayFollow state.harts state.events (events.Lost number saw)
may_lose lost w begun state k keeps only h low g pending found number saw numbered tells sees =
    may_follow w begun state k keeps (events.Lost number saw)
    (subst (λ (n : ℕ). MayLose (after k.events) n saw) (sym numbered)
    (lost w.machine k.events k (number_in k.events) h found saw g only (legal_is_lawful w k.events keeps.view.kept.legal) keeps.view.kept.words keeps.view.kept.long low pending tells sees))

-- the state's open grant, and its journal's
pub pending_in : (w : Setting) (begun : List Event) (state : LinkTable) (k : KeeperView) → KeepsState w begun state k → AcceptsOnly w.machine → SlotsStand → (id number : ℕ)
    → HasOpenGrant (after state.events) id number → (g : Grant) × ((row_of k id).pending ≡ Some g) × (number ≡ number_in k.events id g)
pending_in w begun state k keeps only stand id number x =
    pending_of w begun state k keeps only stand id number (subst (λ (es : List Event). HasOpenGrant (after es) id number) (sym keeps.same) x)

-- a hart whose row waits for nothing has no open grant
pub none_open : (w : Setting) (begun : List Event) (state : LinkTable) (k : KeeperView) → KeepsState w begun state k → AcceptsOnly w.machine → SlotsStand → (id : ℕ) → (row_of k id).pending ≡ None
    → HasNoGrant (after k.events) id
none_open w begun state k keeps only stand id none x there pending own =
    let open_one : HasOpenGrant (after k.events) id x.number = record { grant = x; there = there; pending = pending; of = own; numbered = refl } in
    let waits = pending_of w begun state k keeps only stand id x.number open_one in
    let bad : None ≡ Some waits.0 = sym none ∙ waits.1 in
    absurd cc

pub settles_none_in : (w : Setting) (begun : List Event) (state : LinkTable) (k : KeeperView) → KeepsState w begun state k → (id : ℕ) → id < harts_at_most → HasNoGrant (after state.events) id
    → SettlesOne id k k
settles_none_in w begun state k keeps id low none = settles_none w begun state k keeps id low (subst (λ (es : List Event). HasNoGrant (after es) id) (sym keeps.same) none)

-- ---- a row, by what was answered

module _ (w : Setting) (begun : List Event) (state : LinkTable) (k : KeeperView) (keeps : KeepsState w begun state k) (h : ℕ) (low : h < harts_at_most) (g : Grant)
    (pending : (row_of k h).pending ≡ Some g) (found number : ℕ) (numbered : number ≡ number_in k.events h g) (tells : TellsAsk k h found) (l : KeeperView) where
  not_since : (s : Option ℕ) → (row_of k h).since ≡ s → found % 8 ≡ 3 → s ≡ None
  not_since None is says = refl
  not_since (Some c) is says = absurd (tells.waits c is says)

  row_settles : (answer : Asked) → Says found answer → l ≡ settled_view number answer (asked_view h answer k) → SettlesOne h k l
  row_settles asked.Open says is = record {
    more = [];
    events = ap (λ (x : KeeperView). x.events) is ∙ sym (append-nil k.events);
    nobodys = λ x there. absurd (none_in x there);
    settles = inl refl;
    harts = ap (λ (x : KeeperView). x.harts) is;
    joined = ap (λ (x : KeeperView). x.joined) is;
    others = λ m apart. ap (λ (x : KeeperView). row_of x m) is ∙ row_else k h (record (row_of k h) { found_open = true }) (inside k h keeps.view.kept.long low) m apart;
    issued = ap (λ (r : Row). r.issued) row_is;
    since = ap (λ (r : Row). r.since) row_is;
    found = λ p waits. (ap (λ (r : Row). r.found_open) row_is, ap (λ (r : Row). r.since) row_is ∙ not_since (row_of k h).since refl says);
    opens = record { hart = h; number = length k.events } ∷ [];
    opened = ap (λ (x : KeeperView). x.opens) is;
    meanwhile = asked_once h k.events;
    left_open = λ p waits. (record { hart = h; number = length k.events }, here (record { hart = h; number = length k.events }) [], refl);
    unasked = λ none. absurd (let no : None ≡ Some g = sym none ∙ ap (λ (r : Row). r.pending) row_is ∙ pending in cc no);
  }
    where
      row_is : row_of l h ≡ record (row_of k h) { found_open = true }
      row_is = ap (λ (x : KeeperView). row_of x h) is ∙ row_here k h (record (row_of k h) { found_open = true }) (inside k h keeps.view.kept.long low)
  row_settles asked.Won says is = settled_row w begun state k keeps h low g pending FateWon Bound (events.Bound number) (ap (λ (n : ℕ). settle n Bound (after k.events)) numbered) l
      (ap (λ (x : KeeperView). x.events) is) (ap (λ (x : KeeperView). x.rows) is) (subst (λ (n : ℕ). IsFateEvent n FateWon (events.Bound number)) numbered IsFateEvent.as_won) refl
      (ap (λ (x : KeeperView). x.harts) is) (ap (λ (x : KeeperView). x.joined) is) (ap (λ (x : KeeperView). x.opens) is)
  row_settles (asked.Lost saw) says is = settled_row w begun state k keeps h low g pending FateLost (Lost saw) (events.Lost number saw) (ap (λ (n : ℕ). settle n (Lost saw) (after k.events)) numbered) l
      (ap (λ (x : KeeperView). x.events) is) (ap (λ (x : KeeperView). x.rows) is) (subst (λ (n : ℕ). IsFateEvent n FateLost (events.Lost number saw)) numbered (IsFateEvent.as_lost saw)) refl
      (ap (λ (x : KeeperView). x.harts) is) (ap (λ (x : KeeperView). x.joined) is) (ap (λ (x : KeeperView). x.opens) is)

pub settles_told : (w : Setting) (begun : List Event) (state : LinkTable) (k : KeeperView) (keeps : KeepsState w begun state k) (h : ℕ) (low : h < harts_at_most) (g : Grant)
    (pending : (row_of k h).pending ≡ Some g) (number : ℕ) (numbered : number ≡ number_in k.events h g) (l : KeeperView) (answer : Asked) (found : ℕ) → Says found answer → TellsAsk k h found
    → l ≡ settled_view number answer (asked_view h answer k) → SettlesOne h k l
settles_told w begun state k keeps h low g pending number numbered l answer found says tells is = row_settles w begun state k keeps h low g pending found number numbered tells l answer says is
