-- A grant is posted to its hart, which reads it.
use Rattle.std.proofs.Common.{◌≡◌, ◌≢◌, inl, ℕ, ◌+◌, ◌-◌, ◌<◌, ◌≤◌, ◌==◌, true, false, if◌then◌else◌, Bool, List, [], ◌∷◌, ◌++◌, length, length-append, take, Some, refl, sym, ap, subst, ◌∙◌, append-nil, arith}
use mathlib.Core.Logic.{dite}
use native.Mathlib.Decide.{ℕ_discrete}
use Rattle.std.specs.List.{Contains}
use Rattle.std.proofs.lemmas.Bool.{eqb-true, eq-eqb}
use Rattle.std.proofs.lemmas.List.Elements.{Contains-append_left, Contains-append_right}
use Rattle.history_event.specs.declared.event.Event.{Event}
use Rattle.history_event.specs.declared.event.Event.TheVariants as events
use Rattle.history_event.specs.declared.handed.Offer.{Offer}
use Rattle.history_event.specs.declared.state.Granting.{Granting}
use Rattle.word_rule.specs.declared.entry.Entry.{Entry}
use Rattle.word_rule.specs.declared.entry.Grant.{Grant}
use Rattle.word_rule.specs.declared.view.HartView.{HartView}
use Rattle.word_rule.specs.declared.view.KeeperView.{KeeperView}
use Rattle.word_rule.specs.declared.view.Row.{Row}
use Rattle.word_rule.specs.KeeperSteps.{Waits}
use Rattle.word_rule.specs.Layout.{harts_at_most}
use Rattle.word_rule.specs.Lemmas.Heeding.{row_else, row_here}
use Rattle.word_rule.specs.Views.{known_of, row_of}
use Rattle.word_steps.specs.Knowing.{counted}
use Rattle.slot_bind.specs.Grants.{MayPost, grant_of, posted, row_posted}
use Rattle.history_state.specs.Accepted.{AcceptsOnly}
use Rattle.history_state.specs.After.{after}
use Rattle.history_state.specs.Legal.{Lawful}
use Rattle.history_state.specs.Lemmas.History.{after_push, legal_is_lawful}
use Rattle.history_state.specs.Lemmas.Lists.{here, later, none_in}
use Rattle.history_state.specs.Lemmas.Tidy.{in_at}
use Rattle.history_state.specs.Setting.{Machine, Setting}
use Rattle.history_state.specs.State.{State}
use Rattle.hart_moves.specs.Harts.{Offered}
use Rattle.hart_moves.specs.Trails.{event_from, is_grant}
use Rattle.link_state.specs.Granting.{HasOpenGrant}
use Rattle.link_state.specs.Table.{LinkTable}
use Rattle.kept_words.specs.Kept.{AreKept}
use Rattle.kept_words.specs.Posting.{IsNew, NewGrant, NewMayPost, PostedKept, event_of, granting_of, offer_behind}
use Rattle.kept_words.specs.Staying.{number_by, number_in}
use Rattle.hart_linker.specs.Between.{HasGrant}
use Rattle.link_keeper.specs.Handing.{HasGrantEvent, IsPassed, MayHandOver}
use Rattle.link_keeper.specs.Keeping.{KeepsView}
use Rattle.link_keeper.specs.Passing.{InStep, has_read}
use Rattle.kept_words.proofs.Posting.{at_end, number_low, number_of}
use Rattle.link_keeper.proofs.Kept.{inside, later_number}
use Rattle.link_keeper.proofs.Settled.{first_goes_on}

-- ---- the number of a grant is new

other_number : (number n : ℕ) → n < number → (n == number) ≡ false
other_number number n low = by (n == number) refl
  where
    by : (t : Bool) → (n == number) ≡ t → t ≡ false
    by false is = refl
    by true is = absurd (let same : n ≡ number = eqb-true n number is in omega (arith, low, same))

-- no event of a history makes a grant of the next number
not_granted : (m : Machine) (journal : List Event) → Lawful m journal → (number : ℕ) → number ≡ length (after journal).grants + 1 → (e : Event) → Contains journal e → is_grant number e ≡ false
not_granted m journal lawful number is (events.Grant n hart owner slot choice value) there =
    let at = in_at journal (events.Grant n hart owner slot choice value) there in
    let low : n ≤ length (after journal).grants = number_low m journal lawful at.0 n hart owner slot choice value at.1 in
    other_number number n (omega (arith, low, is))
not_granted m journal lawful number is (events.Open hart ask answer) there = refl
not_granted m journal lawful number is (events.Close hart handle answer) there = refl
not_granted m journal lawful number is (events.Unmapped hart set) there = refl
not_granted m journal lawful number is (events.Bound n) there = refl
not_granted m journal lawful number is (events.Lost n saw) there = refl
not_granted m journal lawful number is (events.Unresolved hart owner slot choice) there = refl
not_granted m journal lawful number is (events.Sym hart ask answer) there = refl
not_granted m journal lawful number is (events.Tls hart owner address) there = refl
not_granted m journal lawful number is (events.Init hart object) there = refl
not_granted m journal lawful number is (events.Fini hart object) there = refl
not_granted m journal lawful number is (events.Wrote hart bytes) there = refl
not_granted m journal lawful number is (events.Told hart fault) there = refl
not_granted m journal lawful number is (events.Ended hart reason) there = refl

-- so its event is the first that does
last_from : (first : ℕ) (past : List Event) (e : Event) (number : ℕ) → ((x : Event) → Contains past x → is_grant number x ≡ false) → is_grant number e ≡ true
    → event_from first (past ++ e ∷ []) number ≡ Some (first + length past)
last_from first [] e number others is =
    ap (λ (t : Bool). if t then Some first else event_from (first + 1) [] number) is ∙ ap (λ (n : ℕ). Some n) (let same : first ≡ first + 0 = omega arith in same)
last_from first (x ∷ past) e number others is =
    ap (λ (t : Bool). if t then Some first else event_from (first + 1) (past ++ e ∷ []) number) (others x (here x past))
    ∙ last_from (first + 1) past e number (λ y there. others y (later x past y there)) is
    ∙ ap (λ (n : ℕ). Some n) (let same : first + 1 + length past ≡ first + length (x ∷ past) = omega arith in same)

take_whole : {X : Type 0} (xs : List X) (n : ℕ) → n ≡ length xs → take n xs ≡ xs
take_whole {X} xs n is = ap (λ (m : ℕ). take m xs) is ∙ by xs
  where
    by : (ys : List X) → take (length ys) ys ≡ ys
    by [] = refl
    by (y ∷ ys) = ap (λ (zs : List X). y ∷ zs) (by ys)

-- ---- it is posted

module _ (may_post : NewMayPost) (posted_kept : PostedKept) (w : Setting) (begun : List Event) (only : AcceptsOnly w.machine) (t : LinkTable) (k : KeeperView) (h : HartView) (id : ℕ) (g : NewGrant) (o : Offered)
    (hand : MayHandOver w begun k h id) (ev : HasGrantEvent w t k id g o) where
  abbrev e : Event
  e = event_of g

  low : id < w.machine.harts
  low = hand.low

  few : id < harts_at_most
  few = let all : w.machine.harts ≤ harts_at_most = hand.view.kept.few in let below : id < w.machine.harts = low in omega (arith, all, below)

  is_new : IsNew w begun k g o
  is_new = record {
    accepts = only;
    kept = hand.view.kept;
    hart = subst (λ (n : ℕ). n < w.machine.harts) (sym ev.hart) low;
    settled = ap (λ (n : ℕ). (row_of k n).pending) ev.hart ∙ hand.may.waits.1.2;
    may = ev.may;
    offer = ev.offer;
  }

  abbrev pub grant : Grant
  grant = grant_of (offer_behind k.events o) k.generation

  pub may_be_posted : MayPost (counted (event_of g) k) id (offer_behind k.events o)
  may_be_posted = subst (λ (n : ℕ). MayPost (counted (event_of g) k) n (offer_behind k.events o)) ev.hart
      (may_post w begun k g o hand.may.waits.0 is_new (subst (λ (n : ℕ). Waits k n hand.may.waits.0) (sym ev.hart) hand.may.waits.1) hand.may.counted)

  module _ (l : KeeperView) (i : HartView) (posts : l ≡ posted id (grant_of (offer_behind k.events o) k.generation) (counted (event_of g) k))
      (reads : i ≡ has_read (grant_of (offer_behind k.events o) k.generation) l.events h) (step : InStep l i) where
    events_are : l.events ≡ k.events ++ event_of g ∷ []
    events_are = ap (λ (y : KeeperView). y.events) posts

    row_is : row_of (posted id grant (counted e k)) id ≡ row_posted grant (row_of k id)
    row_is = row_here (counted e k) id (row_posted grant (row_of k id)) (inside k id hand.view.kept.long few)

    row_other : (m : ℕ) → m ≢ id → row_of (posted id grant (counted e k)) m ≡ row_of k m
    row_other m apart = row_else (counted e k) id (row_posted grant (row_of k id)) (inside k id hand.view.kept.long few) m apart

    generation_is : (after l.events).generation ≡ k.generation
    generation_is = ap (λ (es : List Event). (after es).generation) events_are ∙ ap (λ (s : State). s.generation) (after_push k.events (event_of g)) ∙ sym hand.view.kept.generation

    numbered : (number_in (k.events ++ event_of g ∷ []) id grant) ≡ g.number
    numbered = ap number_by (at_end k.events (event_of g) (length k.events + 1 - 1) (omega arith)) ∙ number_of g.number g.hart g.owner g.slot g.choice g.value

    grants_are : (after (k.events ++ event_of g ∷ [])).grants ≡ (after k.events).grants ++ granting_of g ∷ []
    grants_are = ap (λ (s : State). s.grants) (after_push k.events (event_of g))

    its_open : (m : ℕ) (p : Grant) → m < harts_at_most → (row_of (posted id grant (counted e k)) m).pending ≡ Some p
        → HasOpenGrant (after (k.events ++ event_of g ∷ [])) m (number_in (k.events ++ event_of g ∷ []) m p)
    its_open m p few_m waits = dite (ℕ_discrete m id)
        (λ (same : m ≡ id).
        let at : (row_of (posted id grant (counted e k)) id).pending ≡ Some p = ap (λ (n : ℕ). (row_of (posted id grant (counted e k)) n).pending) (sym same) ∙ waits in
        let both : Some grant ≡ Some p = sym (ap (λ (r : Row). r.pending) row_is) ∙ at in
        let is : grant ≡ p = cc in
        record {
          grant = granting_of g;
          there = subst (λ (gs : List Granting). Contains gs (granting_of g)) (sym grants_are) (Contains-append_right (after k.events).grants (granting_of g ∷ []) (granting_of g) (here (granting_of g) []));
          pending = refl;
          of = ev.hart ∙ sym same;
          numbered = sym numbered ∙ ap (λ (n : ℕ). number_in (k.events ++ event_of g ∷ []) n grant) (sym same) ∙ ap (number_in (k.events ++ event_of g ∷ []) m) is;
        })
        (λ (apart : m ≢ id).
        let was : (row_of k m).pending ≡ Some p = sym (ap (λ (r : Row). r.pending) (row_other m apart)) ∙ waits in
        let x : HasOpenGrant (after k.events) m (number_in k.events m p) = hand.view.pending m p few_m was in
        record {
          grant = x.grant;
          there = subst (λ (gs : List Granting). Contains gs x.grant) (sym grants_are) (Contains-append_left (after k.events).grants (granting_of g ∷ []) x.grant x.there);
          pending = x.pending;
          of = x.of;
          numbered = x.numbered ∙ sym (later_number k.events (event_of g ∷ []) m p (hand.view.kept.granted m p few_m (inl was)));
        })

    view : KeepsView w begun l
    view = subst (KeepsView w begun) (sym posts) (record {
      kept = subst (λ (n : ℕ). AreKept w begun (posted n grant (counted e k))) ev.hart (posted_kept w begun k g o is_new);
      pending = its_open;
      last = first_goes_on w k.events (event_of g) hand.view.last (λ over. inl (ap (λ (n : ℕ). Some n) (ev.hart ∙ ev.alone over)));
    })

    pub grant_is_passed : IsPassed w begun k l h i (event_of g ∷ []) [] grant.entry
    grant_is_passed = record {
      view = view;
      events = events_are;
      number = ap (λ (y : HartView). y.number) reads;
      heard = ap (λ (y : HartView). y.heard) reads;
      step = step;
      trail = ap (λ (y : HartView). y.trail) reads ∙ sym (append-nil h.trail);
      more = [];
      known = ap (λ (y : HartView). known_of y.lane) reads;
      low = λ event. (let count : length l.events ≡ length k.events + length (event_of g ∷ []) = ap length events_are ∙ length-append k.events (event_of g ∷ []) in omega (arith, count));
      plain = λ x there. absurd (none_in x there);
      opens = ap (λ (y : KeeperView). y.opens) posts;
      pending = λ m apart. ap (λ (y : KeeperView). (row_of y m).pending) posts ∙ ap (λ (r : Row). r.pending) (row_other m (λ same. apart (same ∙ hand.number)));
    }

    pub has_grant : HasGrant i o
    has_grant = subst (λ (y : HartView). HasGrant y o) (sym reads) (record {
      grant = grant;
      read = refl;
      untried = hand.calling.untried;
      is = λ found. record {
        mark = refl;
        number = ap (λ (es : List Event). event_from 1 es o.number) events_are
            ∙ ap (event_from 1 (k.events ++ event_of g ∷ [])) (ap (λ (y : Offered). y.number) ev.offer.is)
            ∙ last_from 1 k.events (event_of g) g.number
            (not_granted w.machine k.events (legal_is_lawful w k.events hand.view.kept.legal) g.number ev.may.numbered) (eq-eqb g.number g.number refl)
            ∙ ap (λ (n : ℕ). Some n) (let same : 1 + length k.events ≡ length k.events + 1 = omega arith in same);
        slot = refl;
        value = refl;
        generation = sym generation_is ∙ ap (λ (es : List Event). (after es).generation)
            (sym (take_whole l.events (length k.events + 1) (let count : length l.events ≡ length k.events + length (event_of g ∷ []) = ap length events_are ∙ length-append k.events (event_of g ∷ []) in omega (arith, count))));
        lazy = refl;
        saw = refl;
      };
    })

-- the grant leaves the generation
pub same_generation : (w : Setting) (begun : List Event) (t : LinkTable) (k : KeeperView) (h : HartView) (id : ℕ) (g : NewGrant) (o : Offered) → MayHandOver w begun k h id → HasGrantEvent w t k id g o
    → (after t.events).generation ≡ k.generation
same_generation w begun t k h id g o hand ev =
    ap (λ (es : List Event). (after es).generation) ev.ahead ∙ ap (λ (s : State). s.generation) (after_push k.events (event_of g)) ∙ sym hand.view.kept.generation

-- ---- as the code posts it

module _ (may_post : NewMayPost) (posted_kept : PostedKept) (w : Setting) (begun : List Event) (only : AcceptsOnly w.machine) (t : LinkTable) (k : KeeperView) (h : HartView) (id : ℕ) (g : NewGrant) (o : Offered)
    (hand : MayHandOver w begun k h id) (ev : HasGrantEvent w t k id g o) (index : ℕ) (event : Event) (place : index ≡ length k.events) (is : event ≡ event_of g) where
  as_posted : record { event = index + 1; slot = o.slot; lazy = o.lazy; value = o.value } ≡ offer_behind k.events o
  as_posted = λ i. record { event = place i + 1; slot = o.slot; lazy = o.lazy; value = o.value }

  pub code_may_post : MayPost (counted event k) id (record { event = index + 1; slot = o.slot; lazy = o.lazy; value = o.value })
  code_may_post = subst (λ (x : Offer). MayPost (counted event k) id x) (sym as_posted)
      (subst (λ (e : Event). MayPost (counted e k) id (offer_behind k.events o)) (sym is) (may_be_posted may_post posted_kept w begun only t k h id g o hand ev))

  module _ (l : KeeperView) (i : HartView) (entry : Entry) (posts : l ≡ posted id (grant_of (record { event = index + 1; slot = o.slot; lazy = o.lazy; value = o.value }) k.generation) (counted event k))
      (reads : i ≡ has_read (grant_of (record { event = index + 1; slot = o.slot; lazy = o.lazy; value = o.value }) k.generation) l.events h) (step : InStep l i)
      (entry_is : entry ≡ (grant_of (record { event = index + 1; slot = o.slot; lazy = o.lazy; value = o.value }) k.generation).entry) where
    posts_is : l ≡ posted id (grant_of (offer_behind k.events o) k.generation) (counted (event_of g) k)
    posts_is = posts ∙ ap (λ (x : Offer). posted id (grant_of x k.generation) (counted event k)) as_posted
        ∙ ap (λ (e : Event). posted id (grant_of (offer_behind k.events o) k.generation) (counted e k)) is

    reads_is : i ≡ has_read (grant_of (offer_behind k.events o) k.generation) l.events h
    reads_is = reads ∙ ap (λ (x : Offer). has_read (grant_of x k.generation) l.events h) as_posted

    pub code_passed : IsPassed w begun k l h i (event_of g ∷ []) [] entry
    code_passed = subst (IsPassed w begun k l h i (event_of g ∷ []) []) (sym (entry_is ∙ ap (λ (x : Offer). (grant_of x k.generation).entry) as_posted))
        (grant_is_passed may_post posted_kept w begun only t k h id g o hand ev l i posts_is reads_is step)

    pub code_has_grant : HasGrant i o
    code_has_grant = has_grant may_post posted_kept w begun only t k h id g o hand ev l i posts_is reads_is step
