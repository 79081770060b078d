-- The events of a turn are passed: memory is remade by the first, it is counted, and the others follow.
use Rattle.std.proofs.Common.{◌≡◌, ◌≢◌, ◌⊎◌, ⊎_elim, inl, inr, ℕ, ◌+◌, ◌<◌, ◌≤◌, true, false, List, [], ◌∷◌, ◌++◌, length, length-append, None, Some, refl, sym, ap, subst, ◌∙◌, append-nil, append_assoc, arith}
use Rattle.std.specs.List.{Contains}
use Rattle.std.proofs.lemmas.Bool.{false≢true}
use Rattle.history_event.specs.declared.event.Event.{Event}
use Rattle.history_event.specs.declared.event.Event.TheVariants as events
use Rattle.history_event.specs.declared.event.OpenAnswer.TheVariants as opens
use Rattle.history_event.specs.declared.state.Granting.{Granting}
use Rattle.word_rule.specs.declared.entry.Entry.{Entry}
use Rattle.word_rule.specs.declared.view.HartView.{HartView}
use Rattle.word_rule.specs.declared.view.KeeperView.{KeeperView}
use Rattle.word_rule.specs.declared.view.Row.{Row}
use Rattle.word_rule.specs.declared.view.TrailItem.{TrailItem}
use Rattle.word_rule.specs.KeeperSteps.{handed}
use Rattle.word_rule.specs.Layout.{harts_at_most}
use Rattle.word_rule.specs.Lemmas.Heeding.{row_else}
use Rattle.word_rule.specs.Views.{IsLong, first_hart, known_of, row_of}
use Rattle.word_steps.specs.Knowing.{counted}
use Rattle.slot_bind.specs.Rows.{handed_over, row_with}
use Rattle.history_state.specs.Accepted.{AcceptsOnly}
use Rattle.history_state.specs.After.{after}
use Rattle.history_state.specs.Allowed.{Allowed}
use Rattle.history_state.specs.Lemmas.History.{after_push, one_behind}
use Rattle.history_state.specs.Lemmas.Lists.{here, later}
use Rattle.history_journal.specs.Following.{machine_of}
use Rattle.history_state.specs.Setting.{Machine, Setting}
use Rattle.history_state.specs.State.{State}
use Rattle.history_state.specs.Step.{loaded, step, unmap}
use Rattle.history_calls.specs.Laws.{hart_of}
use Rattle.hart_moves.specs.Moves.{AreAllowed}
use Rattle.hart_trails.specs.Entries.{entry_behind}
use Rattle.hart_trails.specs.Trails.{is_granting, took_behind}
use Rattle.link_state.specs.Granting.{HasOpenGrant}
use Rattle.link_state.specs.Table.{LinkTable}
use Rattle.kept_words.specs.Kept.{AreKept}
use Rattle.kept_words.specs.Keeping.{IsRemadeView, QuietKept, RemadeKept, remakes_memory}
use Rattle.kept_words.specs.Staying.{EventsStay, leaves_memory, number_in}
use Rattle.world_memory.specs.declared.turn_answers.answered.MemoryChange.{MemoryChange}
use Rattle.link_keeper.specs.Entering.{AreQuiet}
use Rattle.link_keeper.specs.Handing.{HasEvents, IsPassed, MayHandOver}
use Rattle.link_keeper.specs.Keeping.{FirstGoesOn, KeepsView, WasOver}
use Rattle.link_keeper.specs.Passing.{HasPassed, IsNext, IsPassing, MayPass, PassesNext, left_of, took}
use Rattle.link_keeper.specs.Remaking.{ComesTo, Remakes}
use Rattle.link_keeper.proofs.Kept.{inside, later_number, row_field}
use Rattle.link_keeper.proofs.Rest.{first_entry, left_is, quiet_view, took_both, took_one}
use Rattle.link_keeper.proofs.Settled.{first_goes_on}

-- ---- a hart's event that isn't a grant

pub kind_of : (e : Event) (h : ℕ) → hart_of e ≡ Some h → is_granting e ≡ false → (remakes_memory e ≡ true) ⊎ ((leaves_memory e ≡ true) × (remakes_memory e ≡ false))
kind_of (events.Open hart ask (opens.Done id root added ranges)) h own plain = inl refl
kind_of (events.Open hart ask opens.Absent) h own plain = inr (refl, refl)
kind_of (events.Open hart ask (opens.Refused fault)) h own plain = inr (refl, refl)
kind_of (events.Close hart handle answer) h own plain = inr (refl, refl)
kind_of (events.Unmapped hart set) h own plain = inl refl
kind_of (events.Grant number hart owner slot choice value) h own plain = absurd (false≢true (sym plain))
kind_of (events.Bound number) h own plain = absurd (let bad : None ≡ Some h = own in cc)
kind_of (events.Lost number saw) h own plain = absurd (let bad : None ≡ Some h = own in cc)
kind_of (events.Unresolved hart owner slot choice) h own plain = inr (refl, refl)
kind_of (events.Sym hart ask answer) h own plain = inr (refl, refl)
kind_of (events.Tls hart owner address) h own plain = inl refl
kind_of (events.Init hart object) h own plain = inr (refl, refl)
kind_of (events.Fini hart object) h own plain = inr (refl, refl)
kind_of (events.Wrote hart bytes) h own plain = inr (refl, refl)
kind_of (events.Told hart fault) h own plain = inr (refl, refl)
kind_of (events.Ended hart reason) h own plain = inr (refl, refl)

-- one that remakes memory leaves the grants
same_grants : (s : State) (e : Event) → remakes_memory e ≡ true → (step s e).grants ≡ s.grants
unfolding loaded unmap
same_grants s (events.Open hart ask (opens.Done id root added ranges)) is = refl
same_grants s (events.Open hart ask opens.Absent) is = absurd (false≢true is)
same_grants s (events.Open hart ask (opens.Refused fault)) is = absurd (false≢true is)
same_grants s (events.Close hart handle answer) is = absurd (false≢true is)
same_grants s (events.Unmapped hart set) is = refl
same_grants s (events.Grant number hart owner slot choice value) is = absurd (false≢true is)
same_grants s (events.Bound number) is = absurd (false≢true is)
same_grants s (events.Lost number saw) is = absurd (false≢true is)
same_grants s (events.Unresolved hart owner slot choice) is = absurd (false≢true is)
same_grants s (events.Sym hart ask answer) is = absurd (false≢true is)
same_grants s (events.Tls hart owner address) is = refl
same_grants s (events.Init hart object) is = absurd (false≢true is)
same_grants s (events.Fini hart object) is = absurd (false≢true is)
same_grants s (events.Wrote hart bytes) is = absurd (false≢true is)
same_grants s (events.Told hart fault) is = absurd (false≢true is)
same_grants s (events.Ended hart reason) is = absurd (false≢true is)

-- ---- it is counted

-- the view in which it is
pub record IsReady (w : Setting) (begun : List Event) (k : KeeperView) (id : ℕ) (e : Event) : Type 0 where
  pub generation : (entry_behind k.events e).generation ≤ k.generation
  pub view : (l : KeeperView) → l ≡ handed_over id (entry_behind k.events e) (counted e k) → KeepsView w begun l

module _ (stay : EventsStay) (quiet_kept : QuietKept) (remade_kept : RemadeKept) (w : Setting) (begun : List Event) (only : AcceptsOnly w.machine) (k k1 : KeeperView) (id : ℕ) (e : Event) (view : KeepsView w begun k)
    (low : id < w.machine.harts) (own : hart_of e ≡ Some id) (plain : is_granting e ≡ false) (may : Allowed w k.events e) (alone : WasOver w k.events → id ≡ 0) (x : Remakes w begun e k k1) where
  few : id < harts_at_most
  few = let all : w.machine.harts ≤ harts_at_most = view.kept.few in omega (arith, all, low)

  pub same_events : k1.events ≡ k.events
  same_events = ap (λ (y : KeeperView). y.events) x.only

  same_entry : entry_behind k1.events e ≡ entry_behind k.events e
  same_entry = ap (λ (es : List Event). entry_behind es e) same_events

  its : WasOver w k.events → (hart_of e ≡ Some 0) ⊎ (hart_of e ≡ None)
  its over = inl (own ∙ ap (λ (n : ℕ). Some n) (alone over))

  by_quiet : leaves_memory e ≡ true → KeepsView w begun k1 → IsReady w begun k1 id e
  by_quiet leaves view1 =
      let may1 : Allowed w k1.events e = subst (λ (es : List Event). Allowed w es e) (sym same_events) may in
      record {
        generation = (first_entry stay quiet_kept w begun k1 k1 (first_hart 0) (first_hart 0) id e view1 low own leaves may1 (λ over. alone (subst (WasOver w) same_events over))).generation;
        view = λ l is.
            quiet_view stay w begun k1 l e view1 (subst (AreKept w begun) (sym is) (quiet_kept w begun k1 id e (entry_behind k1.events e) view1.kept low own leaves may1 refl)) leaves (ap (λ (y : KeeperView). y.events) is)
            (λ m. ap (λ (y : KeeperView). (row_of y m).pending) is
            ∙ row_field (λ (y : Row). y.pending) (counted e k1) id (handed 1 (row_with (entry_behind k1.events e) (row_of k1 id))) (inside k1 id view1.kept.long few) refl m)
            (λ over. its (subst (WasOver w) same_events over));
      }

  by_remade : remakes_memory e ≡ true → IsRemadeView (after k.events) e k k1 → IsReady w begun k1 id e
  by_remade remakes r = record {
    generation =
        let at : (after (k1.events ++ e ∷ [])).generation ≡ (step (after k.events) e).generation = ap (λ (es : List Event). (after (es ++ e ∷ [])).generation) same_events ∙ ap (λ (s : State). s.generation) (after_push k.events e) in
        let set : k1.generation ≡ (step (after k.events) e).generation = ap (λ (y : KeeperView). y.generation) r.only in
        omega (arith, at, set);
    view = λ l is.
        let whole : l ≡ handed_over id (entry_behind k.events e) (counted e k1) = is ∙ ap (λ (y : Entry). handed_over id y (counted e k1)) same_entry in
        let events_are : l.events ≡ k.events ++ e ∷ [] = ap (λ (y : KeeperView). y.events) whole ∙ ap (λ (es : List Event). es ++ e ∷ []) same_events in
        record {
          kept = subst (AreKept w begun) (sym whole) (remade_kept w begun k k1 id e (entry_behind k.events e) only view.kept low own remakes may r refl);
          pending = λ m g few_m waits.
              let was : (row_of k m).pending ≡ Some g = sym (r.remade.pending m)
              ∙ sym (row_field (λ (y : Row). y.pending) (counted e k1) id (handed 1 (row_with (entry_behind k.events e) (row_of k1 id))) (inside k1 id r.long few) refl m)
              ∙ sym (ap (λ (y : KeeperView). (row_of y m).pending) whole) ∙ waits in
              let o : HasOpenGrant (after k.events) m (number_in k.events m g) = view.pending m g few_m was in
              subst (λ (es : List Event). HasOpenGrant (after es) m (number_in es m g)) (sym events_are) (record {
                grant = o.grant;
                there = subst (λ (gs : List Granting). Contains gs o.grant) (sym (same_grants (after k.events) e remakes) ∙ ap (λ (s : State). s.grants) (sym (after_push k.events e))) o.there;
                pending = o.pending;
                of = o.of;
                numbered = o.numbered ∙ sym (later_number k.events (e ∷ []) m g (view.kept.granted m g few_m (inl was)));
              });
          last = subst (FirstGoesOn w) (sym events_are) (first_goes_on w k.events e view.last its);
        };
  }

  pub is_ready : IsReady w begun k1 id e
  is_ready = ⊎_elim
      (λ (remakes : remakes_memory e ≡ true). by_remade remakes (x.remade remakes))
      (λ (leaves : (leaves_memory e ≡ true) × (remakes_memory e ≡ false)). by_quiet leaves.0 (x.keeps leaves.1))
      (kind_of e id own plain)

-- ---- the events of a turn

module _ (stay : EventsStay) (quiet_kept : QuietKept) (remade_kept : RemadeKept) (w : Setting) (begun : List Event) (only : AcceptsOnly w.machine) (t : LinkTable) (k k1 : KeeperView) (h : HartView) (id : ℕ)
    (e : Event) (rest : List Event) (does : MemoryChange) (hand : MayHandOver w begun k h id) (ev : HasEvents w t k id e rest does) (x : Remakes w begun e k k1) where
  own_first : hart_of e ≡ Some id
  own_first = ev.of e (here e rest)

  alone_first : WasOver w k.events → id ≡ 0
  alone_first over = ev.alone [] rest e refl (subst (WasOver w) (sym (append-nil k.events)) over)

  ready : IsReady w begun k1 id e
  ready = is_ready stay quiet_kept remade_kept w begun only k k1 id e hand.view hand.low own_first ev.plain ev.may.0 alone_first x

  events1 : k1.events ≡ k.events
  events1 = ap (λ (y : KeeperView). y.events) x.only

  rows1 : (m : ℕ) → row_of k1 m ≡ row_of k m
  rows1 m = ap (λ (y : KeeperView). row_of y m) x.only

  pub next_here : IsNext t k1 e rest
  next_here = record {
    ahead = ev.ahead ∙ ap (λ (es : List Event). es ++ e ∷ rest) (sym events1);
    quiet = ev.quiet;
    entry = record { mark = refl; number = refl; generation = ready.generation };
  }

  pub may_here : MayPass k1 id
  may_here = record {
    waits = (hand.may.waits.0, (hand.may.waits.1.0, ap (λ (r : Row). r.since) (rows1 id) ∙ hand.may.waits.1.1, ap (λ (r : Row). r.pending) (rows1 id) ∙ hand.may.waits.1.2));
    counted = let old : hand.may.waits.0 ≤ length k.events = hand.may.counted in let same : length k1.events ≡ length k.events = ap length events1 in omega (arith, old, same);
  }

  module _ (k2 : KeeperView) (h2 : HartView) (next : PassesNext id e k1 k2 h h2) where
    pub events2 : k2.events ≡ k.events ++ e ∷ []
    events2 = ap (λ (y : KeeperView). y.events) next.keeper ∙ ap (λ (es : List Event). es ++ e ∷ []) events1

    entry1 : entry_behind k1.events e ≡ entry_behind k.events e
    entry1 = ap (λ (es : List Event). entry_behind es e) events1

    seat2 : h2 ≡ took (entry_behind k.events e) k2.events h
    seat2 = next.seat ∙ ap (λ (y : Entry). took y k2.events h) entry1

    few2 : id < harts_at_most
    few2 = let all : w.machine.harts ≤ harts_at_most = hand.view.kept.few in let low : id < w.machine.harts = hand.low in omega (arith, all, low)

    long1 : IsLong k1
    long1 = ⊎_elim
        (λ (remakes : remakes_memory e ≡ true). (x.remade remakes).long)
        (λ (leaves : (leaves_memory e ≡ true) × (remakes_memory e ≡ false)). (x.keeps leaves.1).kept.long)
        (kind_of e id own_first ev.plain)

    pending2 : (row_of k2 id).pending ≡ None
    pending2 = ap (λ (y : KeeperView). (row_of y id).pending) next.keeper
        ∙ row_field (λ (y : Row). y.pending) (counted e k1) id (handed 1 (row_with (entry_behind k1.events e) (row_of k1 id))) (inside k1 id long1 few2) refl id ∙ may_here.waits.1.2

    ahead2 : t.events ≡ k2.events ++ rest
    ahead2 = ev.ahead ∙ sym (one_behind k.events e rest) ∙ ap (λ (es : List Event). es ++ rest) (sym events2)

    rest2 : left_of t k2 ≡ rest
    rest2 = left_is t.events k2.events rest ahead2

    pub passing_on : IsPassing w begun t k2 h2 id
    passing_on = record {
      view = ready.view k2 next.keeper;
      left = record {
        ahead = (rest, ahead2);
        quiet = subst AreQuiet (sym rest2) ev.quiet;
        of = λ d there. ev.of d (later e rest d (subst (λ (es : List Event). Contains es d) rest2 there));
        may = subst (λ (es : List Event). AreAllowed w k2.events es) (sym rest2) (subst (λ (es : List Event). AreAllowed w es rest) (sym events2) ev.may.1);
        alone = λ front behind d split over. ev.alone (e ∷ front) behind d (ap (λ (es : List Event). e ∷ es) (sym rest2 ∙ split))
            (subst (WasOver w) (ap (λ (es : List Event). es ++ front) events2 ∙ one_behind k.events e front) over);
      };
      low = hand.low;
      number = hand.number ∙ sym (ap (λ (y : HartView). y.number) seat2);
      step = next.step;
      heard = ap (λ (y : HartView). y.heard) seat2;
      idle = ap (λ (y : HartView). y.lane.calling) seat2;
      settled = pending2;
    }

    module _ (k3 : KeeperView) (h3 : HartView) (passing : IsPassing w begun t k3 h3 id) (passed : HasPassed (left_of t k2) k2 k3 h2 h3) where
      events3 : k3.events ≡ k.events ++ e ∷ rest
      events3 = passed.events ∙ ap (λ (es : List Event). k2.events ++ es) rest2 ∙ ap (λ (es : List Event). es ++ rest) events2 ∙ one_behind k.events e rest

      pub all_are_passed : IsPassed w begun k k3 h h3 (e ∷ rest) (took_behind k.events (e ∷ rest)) (entry_behind k.events e)
      all_are_passed = record {
        view = passing.view;
        events = events3;
        number = passed.number ∙ ap (λ (y : HartView). y.number) seat2;
        heard = passing.heard;
        step = passing.step;
        trail = passed.trail
            ∙ ap (λ (items : List TrailItem). items ++ took_behind k2.events (left_of t k2))
            (ap (λ (y : HartView). y.trail) seat2 ∙ ap (λ (items : List TrailItem). h.trail ++ items) (sym (took_one k.events e ev.plain)))
            ∙ append_assoc h.trail (took_behind k.events (e ∷ [])) (took_behind k2.events (left_of t k2))
            ∙ ap (λ (items : List TrailItem). h.trail ++ items)
            (ap (λ (es : List Event). took_behind k.events (e ∷ []) ++ took_behind k2.events es) rest2
            ∙ ap (λ (es : List Event). took_behind k.events (e ∷ []) ++ took_behind es rest) events2
            ∙ sym (took_both k.events (e ∷ []) rest));
        more = passed.entries;
        known = passed.known ∙ ap (λ (es : List Entry). es ++ passed.entries) (ap (λ (y : HartView). known_of y.lane) seat2 ∙ append-nil (h.lane.taken ++ entry_behind k.events e ∷ []))
            ∙ append_assoc h.lane.taken (entry_behind k.events e ∷ []) passed.entries;
        low = λ event. (let count : length k3.events ≡ length k.events + length (e ∷ rest) = ap length events3 ∙ length-append k.events (e ∷ rest) in omega (arith, count));
        plain = passed.plain;
        opens = passed.opens ∙ ap (λ (y : KeeperView). y.opens) next.keeper ∙ ap (λ (y : KeeperView). y.opens) x.only;
        pending = λ m apart. passed.pending m ∙ ap (λ (r : Row). r.pending) (first_else m (λ same. apart (same ∙ hand.number)));
      }
        where
          first_else : (m : ℕ) → m ≢ id → row_of k2 m ≡ row_of k m
          first_else m apart = ap (λ (y : KeeperView). row_of y m) next.keeper
              ∙ row_else (counted e k1) id (handed 1 (row_with (entry_behind k1.events e) (row_of k1 id))) (inside k1 id long1 few2) m apart
              ∙ ap (λ (y : KeeperView). row_of y m) x.only

-- ---- the calls of the code, by one record

pub record PassesAll (w : Setting) (begun : List Event) (t : LinkTable) (k k1 : KeeperView) (h : HartView) (id : ℕ) (e : Event) (rest : List Event) : Type 0 where
  pub next : IsNext t k1 e rest
  pub may : MayPass k1 id
  pub more : (k2 : KeeperView) (h2 : HartView) → PassesNext id e k1 k2 h h2 → IsPassing w begun t k2 h2 id × (length k2.events ≡ length k.events + 1)
  pub all : (k2 k3 : KeeperView) (h2 h3 : HartView) → PassesNext id e k1 k2 h h2 → IsPassing w begun t k3 h3 id → HasPassed (left_of t k2) k2 k3 h2 h3
      → IsPassed w begun k k3 h h3 (e ∷ rest) (took_behind k.events (e ∷ rest)) (entry_behind k.events e)

pub passes_all_of : EventsStay → QuietKept → RemadeKept → (w : Setting) (begun : List Event) (t : LinkTable) (k k1 : KeeperView) (h : HartView) (id : ℕ) (e : Event) (rest : List Event) (does : MemoryChange)
    → (Verdict : (m : Machine) → m.verdict ≡ (machine_of t.harts).verdict → AcceptsOnly m) → MayHandOver w begun k h id → HasEvents w t k id e rest does
    → ((e : Event) (rest : List Event) → ComesTo w t k e rest does → Remakes w begun e k k1) → PassesAll w begun t k k1 h id e rest
passes_all_of stay quiet_kept remade_kept w begun t k k1 h id e rest does verdict hand ev remakes =
    let only : AcceptsOnly w.machine = verdict w.machine (ap (λ (m : Machine). m.verdict) ev.machine) in
    let x : Remakes w begun e k k1 = remakes e rest (record { ahead = ev.ahead; may = ev.may.0; quiet = ev.quiet; changes = ev.changes }) in
    record {
      next = next_here stay quiet_kept remade_kept w begun only t k k1 h id e rest does hand ev x;
      may = may_here stay quiet_kept remade_kept w begun only t k k1 h id e rest does hand ev x;
      more = λ k2 h2 next. (
        passing_on stay quiet_kept remade_kept w begun only t k k1 h id e rest does hand ev x k2 h2 next,
        ap length (events2 stay quiet_kept remade_kept w begun only t k k1 h id e rest does hand ev x k2 h2 next) ∙ length-append k.events (e ∷ []),
      );
      all = λ k2 k3 h2 h3 next passing passed. all_are_passed stay quiet_kept remade_kept w begun only t k k1 h id e rest does hand ev x k2 h2 next k3 h3 passing passed;
    }
