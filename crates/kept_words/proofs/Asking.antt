-- A grant is asked for, and settled: the keeper's record stays as it has to be.
use Rattle.std.proofs.Common.{◌≡◌, ◌≢◌, ◌⊎◌, ⊎_elim, inl, inr, ℕ, ◌<◌, ◌≤◌, ◌+◌, true, List, [], ◌∷◌, ◌++◌, length, length-append, length-set, Option, None, Some, refl, sym, ap, subst, ◌∙◌, append_assoc, arith}
use mathlib.Core.Logic.{dite}
use native.Mathlib.Decide.{ℕ_discrete}
use Rattle.std.specs.Prelude.{slice_index_or}
use Rattle.std.specs.List.{Contains}
use Rattle.std.proofs.lemmas.List.Elements.{Contains-append_cases, Contains-append_left, Contains-append_right}
use Rattle.history_event.specs.declared.event.Event.{Event}
use Rattle.history_event.specs.declared.event.Event.TheVariants as events
use Rattle.history_event.specs.declared.state.Granting.{Granting}
use Rattle.history_event.specs.declared.state.Standing.{Standing}
use Rattle.history_event.specs.declared.state.Standing.TheVariants.{Bound, Lost}
use Rattle.word_rule.specs.declared.entry.Entry.{Entry}
use Rattle.word_rule.specs.declared.entry.Grant.{Grant}
use Rattle.word_rule.specs.declared.view.Fate.{Fate}
use Rattle.word_rule.specs.declared.view.Fate.TheVariants.{Won as FateWon, Lost as FateLost}
use Rattle.word_rule.specs.declared.view.KeeperView.{KeeperView}
use Rattle.word_rule.specs.declared.view.Kept.{Kept}
use Rattle.word_rule.specs.declared.view.Loss.{Loss}
use Rattle.word_rule.specs.declared.view.Row.{Row}
use Rattle.word_rule.specs.declared.view.Settled.{Settled}
use Rattle.word_rule.specs.Allowed.{IsLost, IsOf, IsSlot, IsWon, Stands}
use Rattle.word_rule.specs.KeeperSteps.{losing, settled_as, with_kept}
use Rattle.word_rule.specs.Layout.{doublewords, harts_at_most, place_of}
use Rattle.word_rule.specs.Slots.{IsGrant}
use Rattle.word_rule.specs.Views.{IsLong, kept_at, row_of, unmapped}
use Rattle.word_rule.specs.Lemmas.Heeding.{kept_else, kept_here, row_else, row_here}
use Rattle.word_steps.specs.Knowing.{counted}
use Rattle.slot_bind.specs.declared.slot.Asked.TheVariants as asked
use Rattle.slot_bind.specs.Grants.{asked_view}
use Rattle.history_state.specs.After.{after}
use Rattle.history_state.specs.Allowed.{Allowed}
use Rattle.history_state.specs.Changes.{taken}
use Rattle.history_state.specs.Grants.{is_open}
use Rattle.history_state.specs.Setting.{Setting}
use Rattle.history_state.specs.State.{State}
use Rattle.history_state.specs.Step.{settle, step}
use Rattle.history_state.specs.Lemmas.Calling.{startup_is_past}
use Rattle.history_state.specs.Lemmas.History.{after_push, legal_is_lawful, legal_push}
use Rattle.history_state.specs.Lemmas.Lists.{here, only_in}
use Rattle.history_state.specs.Lemmas.Tidy.{Settled as SettledIn, one_number, tidy_after, was_settled}
use Rattle.history_memory.specs.Holds.{IsSlotAt}
use Rattle.history_calls.specs.Laws.{hart_of}
use Rattle.word_holds.specs.Shared.{IsOfState}
use Rattle.kept_words.specs.Handed.{event_numbers}
use Rattle.kept_words.specs.Keeping.{AskedKept}
use Rattle.kept_words.specs.Kept.{AreKept, HasSeen, HaveFates, IsFateEvent, LostHaveSeen, ShowsLoss}
use Rattle.kept_words.specs.Settling.{LostMayLose, WonMayBind}
use Rattle.kept_words.specs.Staying.{IsGrantEvent, SameGrants, Settles, fated_in, number_in}
use Rattle.kept_words.proofs.Gone.{gone_beside}
use Rattle.kept_words.proofs.Handed.{counted_stays, issued_stays}
use Rattle.kept_words.proofs.Keeping.{alike_kept, begun_short, counted_number, inside, later_event, later_number, own_push_none, row_field, some_in}
use Rattle.kept_words.proofs.Settled.{settled_stays}
use Rattle.kept_words.proofs.Settling.{slot_word}
use Rattle.kept_words.proofs.Staying.{slot_on, states_stay}
use Rattle.kept_words.proofs.Values.{settled_push}

-- ---- the row of a grant whose fate is known

module _ (k : KeeperView) (h : ℕ) (g : Grant) (fate : Fate) (long : IsLong k) (low : h < harts_at_most) (pending : (row_of k h).pending ≡ Some g) where
  row_is : row_of (fated_in fate h k) h ≡ settled_as fate (Some g) (row_of k h)
  row_is = row_here k h (settled_as fate (row_of k h).pending (row_of k h)) (inside k h long low) ∙ ap (λ (p : Option Grant). settled_as fate p (row_of k h)) pending

  fated_issued : (m : ℕ) → (row_of (fated_in fate h k) m).issued ≡ (row_of k m).issued
  fated_issued = row_field (λ (y : Row). y.issued) k h (settled_as fate (row_of k h).pending (row_of k h)) (inside k h long low)
      (ap (λ (p : Option Grant). (settled_as fate p (row_of k h)).issued) pending)

  -- a grant whose fate is known was known before, or is this one
  was_known : (m : ℕ) (p : Grant) (f : Fate) → Contains (row_of (fated_in fate h k) m).settled (record { grant = p; fate = f })
      → Contains (row_of k m).settled (record { grant = p; fate = f }) ⊎ ((m ≡ h) × (p ≡ g) × (f ≡ fate))
  was_known m p f there = dite (ℕ_discrete m h)
      (λ (same : m ≡ h). ⊎_elim
      (λ (old : Contains (row_of k h).settled (record { grant = p; fate = f })). inl (subst (λ (i : ℕ). Contains (row_of k i).settled (record { grant = p; fate = f })) (sym same) old))
      (λ (new : Contains (record { grant = g; fate = fate } ∷ []) (record { grant = p; fate = f })).
      let is : record { grant = g; fate = fate } ≡ record { grant = p; fate = f } = only_in (record { grant = g; fate = fate }) (record { grant = p; fate = f }) new in
      inr (same, ap (λ (q : Settled). q.grant) (sym is), ap (λ (q : Settled). q.fate) (sym is)))
      (Contains-append_cases (row_of k h).settled (record { grant = g; fate = fate } ∷ []) (record { grant = p; fate = f })
      (subst (λ (r : Row). Contains r.settled (record { grant = p; fate = f })) row_is (subst (λ (i : ℕ). Contains (row_of (fated_in fate h k) i).settled (record { grant = p; fate = f })) same there))))
      (λ (apart : m ≢ h). inl (subst (λ (r : Row). Contains r.settled (record { grant = p; fate = f })) (row_else k h (settled_as fate (row_of k h).pending (row_of k h)) (inside k h long low) m apart) there))

  was_pending : (m : ℕ) (p : Grant) → (row_of (fated_in fate h k) m).pending ≡ Some p → (row_of k m).pending ≡ Some p
  was_pending m p waits = dite (ℕ_discrete m h)
      (λ (same : m ≡ h). absurd (let no : None ≡ Some p = sym (ap (λ (r : Row). r.pending) (ap (λ (i : ℕ). row_of (fated_in fate h k) i) same ∙ row_is)) ∙ waits in cc))
      (λ (apart : m ≢ h). ap (λ (r : Row). r.pending) (sym (row_else k h (settled_as fate (row_of k h).pending (row_of k h)) (inside k h long low) m apart)) ∙ waits)

  its_pending : (m : ℕ) (p : Grant) → m ≡ h → p ≡ g → (row_of k m).pending ≡ Some p
  its_pending m p same is = ap (λ (i : ℕ). (row_of k i).pending) same ∙ pending ∙ ap (λ (q : Grant). Some q) (sym is)

  stood : (m : ℕ) (p : Grant) → Stands (row_of (fated_in fate h k) m) p → Stands (row_of k m) p
  stood m p (inl waits) = inl (was_pending m p waits)
  stood m p (inr done) = ⊎_elim (λ (old : IsWon (row_of k m) p). inr old) (λ x. inl (its_pending m p x.0 x.1)) (was_known m p FateWon done)

  was_granted : (m : ℕ) (p : Grant) → IsGrant (row_of (fated_in fate h k) m) p → IsGrant (row_of k m) p
  was_granted m p (inl waits) = inl (was_pending m p waits)
  was_granted m p (inr done) = ⊎_elim (λ (old : Contains (row_of k m).settled (record { grant = p; fate = done.0 })). inr (done.0, old)) (λ x. inl (its_pending m p x.0 x.1)) (was_known m p done.0 done.1)

-- an event settles one grant, with one fate
fate_one : (n i : ℕ) (f z : Fate) (e : Event) → IsFateEvent n f e → IsFateEvent i z e → (n ≡ i) × (f ≡ z)
fate_one n i f z e IsFateEvent.as_won is = of_won i z is refl
  where
    of_won : (i : ℕ) (z : Fate) {y : Event} → IsFateEvent i z y → events.Bound n ≡ y → (n ≡ i) × (FateWon ≡ z)
    of_won i z IsFateEvent.as_won same = (cc, refl)
    of_won i z (IsFateEvent.as_lost saw) same = absurd (cc)
fate_one n i f z e (IsFateEvent.as_lost word) is = of_lost i z is refl
  where
    of_lost : (i : ℕ) (z : Fate) {y : Event} → IsFateEvent i z y → events.Lost n word ≡ y → (n ≡ i) × (FateLost ≡ z)
    of_lost i z IsFateEvent.as_won same = absurd (cc)
    of_lost i z (IsFateEvent.as_lost saw) same = (cc, refl)

-- ---- the record

-- the words of a view after an ask: they are what they were, but for what was seen of slots
pub record SeesOnly (k : KeeperView) (words : List Kept) : Type 0 where
  pub whole : length words ≡ doublewords
  pub same : (d : ℕ) → slice_index_or words d unmapped ≡ record (kept_at k d) { fixed = (slice_index_or words d unmapped).fixed }
  pub fixed_on : (d x : ℕ) → (kept_at k d).fixed ≡ Some x → (slice_index_or words d unmapped).fixed ≡ Some x

-- what the word of the slot is, where its grant is lost
pub record SeesLost (k : KeeperView) (words : List Kept) (d : ℕ) (standing : Standing) : Type 0 where
  pub fixed : (saw : ℕ) → standing ≡ Lost saw → (slice_index_or words d unmapped).fixed ≡ Some saw
  pub bound : (saw : ℕ) → standing ≡ Lost saw → (kept_at k d).value ≢ (kept_at k d).lazy → saw ≡ (kept_at k d).value

-- the event of a settled grant leaves all of the state but the grant
pub record Settling (s : State) (e : Event) (number : ℕ) (standing : Standing) : Type 0 where
  pub state : step s e ≡ settle number standing s
  pub takes : taken s e ≡ []
  pub stays : (hart : ℕ) (set : List ℕ) → e ≢ events.Unmapped hart set
  pub nobodys : hart_of e ≡ None

module _ (w : Setting) (begun : List Event) (k : KeeperView) (kept : AreKept w begun k) (h : ℕ) (g : Grant) (fate : Fate) (standing : Standing) (e : Event) (low : h < harts_at_most)
    (pending : (row_of k h).pending ≡ Some g) (of : IsOf (kept_at k) (place_of g.entry.slot) g) (settles : Settles fate standing) (may : Allowed w k.events e)
    (event : Settling (after k.events) e (number_in k.events h g) standing) (words : List Kept) (sees : SeesOnly k words)
    (new_lost : fate ≡ FateLost → (saw : ℕ) × ((slice_index_or words (place_of g.entry.slot) unmapped).fixed ≡ Some saw) × (e ≡ events.Lost (number_in k.events h g) saw))
    (sees_lost : SeesLost k words (place_of g.entry.slot) standing) (fate_event : IsFateEvent (number_in k.events h g) fate e)
    (losses : List Loss) (grows : (x : Loss) → Contains k.losses x → Contains losses x) (shows : ShowsLoss losses h g e) where
  back : (m : ℕ) (p : Grant) → Stands (row_of (fated_in fate h k) m) p → Stands (row_of k m) p
  back = stood k h g fate kept.long low pending

  same : SameGrants (fated_in fate h k) (record (fated_in fate h k) { words = words; losses = losses; events = k.events ++ e ∷ [] })
  same = record { words = sees.same; pending = λ m. refl; settled = λ m. refl }

  state_is : after (k.events ++ e ∷ []) ≡ settle (number_in k.events h g) standing (after k.events)
  state_is = after_push k.events e ∙ event.state

  is_event : (m : ℕ) (p : Grant) → m < harts_at_most → Stands (row_of (fated_in fate h k) m) p → IsGrantEvent k.events m p
  is_event m p few stands = kept.granted m p few (back m p stands)

  lost_there : (m : ℕ) (p : Grant) → m < harts_at_most → IsLost (row_of (fated_in fate h k) m) p → IsOf (λ d. slice_index_or words d unmapped) (place_of p.entry.slot) p
      → (saw : ℕ) × ((slice_index_or words (place_of p.entry.slot) unmapped).fixed ≡ Some saw) × Contains (k.events ++ e ∷ []) (events.Lost (number_in (k.events ++ e ∷ []) m p) saw)
  lost_there m p few is at = ⊎_elim
      (λ (old : IsLost (row_of k m) p).
      let x = kept.rows.lost m p few old (subst (λ (y : Kept). IsOf (λ _. y) (place_of p.entry.slot) p) (sees.same (place_of p.entry.slot)) at) in (
        x.0,
        sees.fixed_on (place_of p.entry.slot) x.0 x.1,
        subst (λ (n : ℕ). Contains (k.events ++ e ∷ []) (events.Lost n x.0)) (sym (number_on (inr (FateLost, old)) (some_in k.events (events.Lost (number_in k.events m p) x.0) x.2)))
            (Contains-append_left k.events (e ∷ []) (events.Lost (number_in k.events m p) x.0) x.2),
      ))
      (λ (new : (m ≡ h) × (p ≡ g) × (FateLost ≡ fate)).
      let x = new_lost (sym new.2) in
      let its : IsGrantEvent k.events m p = kept.granted m p few (inl (its_pending k h g fate kept.long low pending m p new.0 new.1)) in (
        x.0,
        ap (λ (q : Grant). (slice_index_or words (place_of q.entry.slot) unmapped).fixed) new.1 ∙ x.1,
        subst (λ (n : ℕ). Contains (k.events ++ e ∷ []) (events.Lost n x.0))
            (ap (λ (j : ℕ). number_in k.events j g) (sym new.0) ∙ ap (number_in k.events m) (sym new.1) ∙ sym (later_number k.events (e ∷ []) m p its))
            (subst (Contains (k.events ++ e ∷ [])) x.2 (Contains-append_right k.events (e ∷ []) e (here e []))),
      ))
      (was_known k h g fate kept.long low pending m p FateLost is)
    where
      number_on : IsGrant (row_of k m) p → 0 < length k.events → number_in (k.events ++ e ∷ []) m p ≡ number_in k.events m p
      number_on granted some = counted_number k.events (e ∷ []) m p some (kept.rows.counted m p few granted)

  -- each grant keeps its fate
  still_settled : (m : ℕ) (p : Grant) (f : Fate) → Contains (row_of k m).settled (record { grant = p; fate = f }) → Contains (row_of (fated_in fate h k) m).settled (record { grant = p; fate = f })
  still_settled m p f there = dite (ℕ_discrete m h)
      (λ (same : m ≡ h). subst (λ (i : ℕ). Contains (row_of (fated_in fate h k) i).settled (record { grant = p; fate = f })) (sym same)
      (subst (λ (r : Row). Contains r.settled (record { grant = p; fate = f })) (sym (row_is k h g fate kept.long low pending))
      (Contains-append_left (row_of k h).settled (record { grant = g; fate = fate } ∷ []) (record { grant = p; fate = f })
      (subst (λ (i : ℕ). Contains (row_of k i).settled (record { grant = p; fate = f })) same there))))
      (λ (apart : m ≢ h). subst (λ (r : Row). Contains r.settled (record { grant = p; fate = f })) (sym (row_else k h (settled_as fate (row_of k h).pending (row_of k h)) (inside k h kept.long low) m apart)) there)

  its_settled : Contains (row_of (fated_in fate h k) h).settled (record { grant = g; fate = fate })
  its_settled = subst (λ (r : Row). Contains r.settled (record { grant = g; fate = fate })) (sym (row_is k h g fate kept.long low pending))
      (Contains-append_right (row_of k h).settled (record { grant = g; fate = fate } ∷ []) (record { grant = g; fate = fate }) (here (record { grant = g; fate = fate }) []))

  same_number : (m : ℕ) (p : Grant) → m < harts_at_most → IsGrant (row_of k m) p → number_in (k.events ++ e ∷ []) m p ≡ number_in k.events m p
  same_number m p few granted = later_number k.events (e ∷ []) m p (kept.rows.fates.entered m p few granted)

  its_number : number_in (k.events ++ e ∷ []) h g ≡ number_in k.events h g
  its_number = same_number h g low (inl pending)

  fates : HaveFates (record (fated_in fate h k) { words = words; losses = losses; events = k.events ++ e ∷ [] })
  fates = record {
    entered = λ m p few is. later_event k.events (e ∷ []) m p (kept.rows.fates.entered m p few (was_granted k h g fate kept.long low pending m p is));
    fated = λ m p f few there. ⊎_elim
        (λ (old : Contains (row_of k m).settled (record { grant = p; fate = f })).
        let x = kept.rows.fates.fated m p f few old in
        (x.0, Contains-append_left k.events (e ∷ []) x.0 x.1, subst (λ (n : ℕ). IsFateEvent n f x.0) (sym (same_number m p few (inr (f, old)))) x.2, λ n word is. grows _ (x.3 n word is)))
        (λ (new : (m ≡ h) × (p ≡ g) × (f ≡ fate)). (
          e,
          Contains-append_right k.events (e ∷ []) e (here e []),
          subst (λ (i : ℕ). IsFateEvent (number_in (k.events ++ e ∷ []) i p) f e) (sym new.0)
              (subst (λ (q : Grant). IsFateEvent (number_in (k.events ++ e ∷ []) h q) f e) (sym new.1)
              (subst (λ (z : Fate). IsFateEvent (number_in (k.events ++ e ∷ []) h g) z e) (sym new.2)
              (subst (λ (n : ℕ). IsFateEvent n fate e) (sym its_number) fate_event))),
          subst (λ (i : ℕ). ShowsLoss losses i p e) (sym new.0) (subst (λ (q : Grant). ShowsLoss losses h q e) (sym new.1) shows),
        ))
        (was_known k h g fate kept.long low pending m p f there);
    known = λ n f y there is. ⊎_elim
        (λ (old : Contains k.events y).
        let x = kept.rows.fates.known n f y old is in
        (x.0, x.1, x.2, still_settled x.0 x.1 f x.3, same_number x.0 x.1 x.2 (inr (f, x.3)) ∙ x.4, λ n word same. grows _ (x.5 n word same)))
        (λ (new : Contains (e ∷ []) y).
        let one = fate_one (number_in k.events h g) n fate f e fate_event (subst (IsFateEvent n f) (sym (only_in e y new)) is) in
        (h, g, low, subst (λ (z : Fate). Contains (row_of (fated_in fate h k) h).settled (record { grant = g; fate = z })) one.1 its_settled, its_number ∙ one.0, subst (ShowsLoss losses h g) (only_in e y new) shows))
        (Contains-append_cases k.events (e ∷ []) y there);
  }

  abbrev l : KeeperView
  l = record (fated_in fate h k) { words = words; losses = losses; events = k.events ++ e ∷ [] }

  -- what is known as lost stays so, and its slot is as it was
  still_lost : (m : ℕ) (p : Grant) → IsLost (row_of k m) p → IsLost (row_of (fated_in fate h k) m) p
  still_lost m p lost = dite (ℕ_discrete m h)
      (λ (same : m ≡ h). subst (λ (i : ℕ). IsLost (row_of (fated_in fate h k) i) p) (sym same)
      (subst (λ (r : Row). IsLost r p) (sym (row_is k h g fate kept.long low pending))
      (Contains-append_left (row_of k h).settled (record { grant = g; fate = fate } ∷ []) (record { grant = p; fate = FateLost }) (subst (λ (i : ℕ). IsLost (row_of k i) p) same lost))))
      (λ (apart : m ≢ h). subst (λ (r : Row). IsLost r p) (sym (row_else k h (settled_as fate (row_of k h).pending (row_of k h)) (inside k h kept.long low) m apart)) lost)

  lost_fate : (saw : ℕ) → standing ≡ Lost saw → fate ≡ FateLost
  lost_fate saw is = by fate standing settles is
    where
      by : (f : Fate) (z : Standing) → Settles f z → z ≡ Lost saw → f ≡ FateLost
      by f z Settles.as_bound no_more = absurd (let both : Bound ≡ Lost saw = no_more in cc)
      by f z (Settles.as_lost word) _ = refl

  lost_seen : LostHaveSeen (settle (number_in k.events h g) standing (after k.events)) l
  lost_seen y saw i there lost inside_images serial =
      let was = was_settled (number_in k.events h g) standing (after k.events).grants y there in
      ⊎_elim (λ (same : y.standing ≡ was.0.standing). old was.0 was.1 was.2 (sym same ∙ lost))
      (λ (new : (was.0.number ≡ number_in k.events h g) × (is_open was.0 ≡ true) × (y.standing ≡ standing)). now was.0 was.1 was.2 new.0 (sym new.2 ∙ lost))
      was.2.how
    where
      old : (x : Granting) → Contains (after k.events).grants x → SettledIn (number_in k.events h g) standing x y → x.standing ≡ Lost saw → HasSeen (settle (number_in k.events h g) standing (after k.events)) l y.owner y.slot saw
      old x before of is =
          let seen = kept.seen x saw i before is inside_images (serial ∙ sym of.owner) in
          let d : ℕ = place_of seen.address in
          record {
            address = seen.address;
            word = seen.word;
            at = subst (λ (n : ℕ). IsSlotAt (settle (number_in k.events h g) standing (after k.events)) seen.address n y.slot) of.owner
                (subst (λ (n : ℕ). IsSlotAt (settle (number_in k.events h g) standing (after k.events)) seen.address x.owner n) of.slot
                (slot_on (after k.events) (settle (number_in k.events h g) standing (after k.events)) refl seen.address x.owner x.slot seen.at));
            seen = record {
              hart = seen.seen.hart;
              grant = seen.seen.grant;
              low = seen.seen.low;
              lost = still_lost seen.seen.hart seen.seen.grant seen.seen.lost;
              of = subst (λ (z : Kept). IsOf (λ _. z) (place_of seen.address) seen.seen.grant) (sym (sees.same (place_of seen.address))) seen.seen.of;
              fixed = sees.fixed_on (place_of seen.address) saw seen.seen.fixed;
              bound = λ differs. seen.seen.bound
                  (λ lazy. differs (ap (λ (z : Kept). z.value) (sees.same (place_of seen.address)) ∙ lazy ∙ ap (λ (z : Kept). z.lazy) (sym (sees.same (place_of seen.address)))))
                  ∙ ap (λ (z : Kept). z.value) (sym (sees.same (place_of seen.address)));
            };
          }

      now : (x : Granting) → Contains (after k.events).grants x → SettledIn (number_in k.events h g) standing x y → x.number ≡ number_in k.events h g → standing ≡ Lost saw
          → HasSeen (settle (number_in k.events h g) standing (after k.events)) l y.owner y.slot saw
      now x before so number is =
          let its = kept.words.granted h g low (inl pending) of in
          let same : its.0 ≡ x = one_number (after k.events).grants (tidy_after w.machine k.events (legal_is_lawful w k.events kept.legal)) its.0 x its.2.there before (its.1 ∙ sym number) in
          let d : ℕ = place_of g.entry.slot in
          record {
            address = g.entry.slot;
            word = slot_word (place_of g.entry.slot) g.entry.slot of.1 of.0.0;
            at = slot_on (after k.events) (settle (number_in k.events h g) standing (after k.events)) refl g.entry.slot y.owner y.slot
                (subst (λ (n : ℕ). IsSlotAt (after k.events) g.entry.slot n y.slot) (ap (λ (z : Granting). z.owner) same ∙ so.owner)
                (subst (λ (n : ℕ). IsSlotAt (after k.events) g.entry.slot its.0.owner n) (ap (λ (z : Granting). z.slot) same ∙ so.slot) its.2.slot));
            seen = record {
              hart = h;
              grant = g;
              low = low;
              lost = subst (λ (f : Fate). Contains (row_of (fated_in fate h k) h).settled (record { grant = g; fate = f })) (lost_fate saw is)
                  (subst (λ (r : Row). Contains r.settled (record { grant = g; fate = fate })) (sym (row_is k h g fate kept.long low pending))
                  (Contains-append_right (row_of k h).settled (record { grant = g; fate = fate } ∷ []) (record { grant = g; fate = fate }) (here (record { grant = g; fate = fate }) [])));
              of = subst (λ (z : Kept). IsOf (λ _. z) (place_of g.entry.slot) g) (sym (sees.same (place_of g.entry.slot))) of;
              fixed = sees_lost.fixed saw is;
              bound = λ differs. sees_lost.bound saw is
                  (λ lazy. differs (ap (λ (z : Kept). z.value) (sees.same (place_of g.entry.slot)) ∙ lazy ∙ ap (λ (z : Kept). z.lazy) (sym (sees.same (place_of g.entry.slot)))))
                  ∙ ap (λ (z : Kept). z.value) (sym (sees.same (place_of g.entry.slot)));
            };
          }

  pub settled_kept : AreKept w begun (record (fated_in fate h k) { words = words; losses = losses; events = k.events ++ e ∷ [] })
  settled_kept = record {
    few = kept.few;
    harts = kept.harts;
    long = (sees.whole, length-set k.rows h (settled_as fate (row_of k h).pending (row_of k h)) ∙ kept.long.1);
    legal = legal_push w k.events e kept.legal may;
    started = startup_is_past k.events (e ∷ []) kept.started;
    begins = (kept.begins.0 ++ e ∷ [], ap (λ (es : List Event). es ++ e ∷ []) kept.begins.1 ∙ append_assoc begun kept.begins.0 (e ∷ []));
    own = own_push_none w k.events e kept.own event.nobodys;
    words = subst (λ (s : State). IsOfState s (record (fated_in fate h k) { words = words; losses = losses; events = k.events ++ e ∷ [] }) (number_in (k.events ++ e ∷ []))) (sym state_is)
        (states_stay (settle (number_in k.events h g) standing (after k.events)) (settle (number_in k.events h g) standing (after k.events)) (fated_in fate h k)
        (record (fated_in fate h k) { words = words; losses = losses; events = k.events ++ e ∷ [] }) (number_in k.events) (number_in (k.events ++ e ∷ []))
        (record { role = λ a word. refl; word = λ a word roles. refl; images = refl; grants = refl }) same
        (λ m p few stands. later_number k.events (e ∷ []) m p (is_event m p few stands))
        (settled_stays (after k.events) (tidy_after w.machine k.events (legal_is_lawful w k.events kept.legal)) k (number_in k.events) kept.words kept.long h low g pending of fate standing settles));
    generation = kept.generation ∙ ap (λ (s : State). s.generation) (sym state_is);
    granted = λ m p few stands. later_event k.events (e ∷ []) m p (is_event m p few stands);
    rows = record {
      fates = fates;
      since = λ d slot.
          let was : (kept_at k d).since ≤ length k.events = kept.rows.since d (subst (λ (y : Kept). IsSlot (λ _. y) d) (sees.same d) slot) in
          let same : (slice_index_or words d unmapped).since ≡ (kept_at k d).since = ap (λ (y : Kept). y.since) (sees.same d) in
          let long : length (k.events ++ e ∷ []) ≡ length k.events + 1 = length-append k.events (e ∷ []) in
          omega (arith, was, same, long);
      pending = λ m p few waits. subst (λ (y : Kept). IsOf (λ _. y) (place_of p.entry.slot) p) (sym (sees.same (place_of p.entry.slot)))
          (kept.rows.pending m p few (was_pending k h g fate kept.long low pending m p waits));
      counted = λ m p few is.
          let low_number : p.entry.number ≤ length k.events = kept.rows.counted m p few (was_granted k h g fate kept.long low pending m p is) in
          let long : length (k.events ++ e ∷ []) ≡ length k.events + 1 = length-append k.events (e ∷ []) in
          omega (arith, low_number, long);
      lost = lost_there;
    };
    seen = subst (λ (s : State). LostHaveSeen s l) (sym state_is) lost_seen;
    settled = settled_push k.events e (λ hart set is. absurd (event.stays hart set is)) kept.settled;
    issued = λ m x few there. issued_stays w k.events (e ∷ []) m x (kept.issued m x few (subst (λ (es : List Entry). Contains es x) (fated_issued k h g fate kept.long low pending m) there));
    handed = counted_stays begun (fated_in fate h k) e (begun_short w begun k kept) event.nobodys
        (λ m few. ap event_numbers (fated_issued k h g fate kept.long low pending m) ∙ kept.handed m few);
    gone = gone_beside k.events e k.retired event.takes kept.gone;
  }

-- ---- what an ask answered

pub asked_kept : WonMayBind → LostMayLose → AskedKept
asked_kept won lost w begun k h state g asked.Open accepts kept low pending tells says saw =
    alike_kept w begun k (asked_view h asked.Open k) (record {
      events = refl;
      generation = refl;
      harts = refl;
      long = (kept.long.0, length-set k.rows h (record (row_of k h) { found_open = true }) ∙ kept.long.1);
      words = λ d. refl;
      issued = row_field (λ (y : Row). y.issued) k h (record (row_of k h) { found_open = true }) (inside k h kept.long low) refl;
      pending = row_field (λ (y : Row). y.pending) k h (record (row_of k h) { found_open = true }) (inside k h kept.long low) refl;
      settled = row_field (λ (y : Row). y.settled) k h (record (row_of k h) { found_open = true }) (inside k h kept.long low) refl;
      losses = refl;
      retired = refl;
    }) kept
asked_kept won lost w begun k h state g asked.Won accepts kept low pending tells says saw =
    settled_kept w begun k kept h g FateWon Bound (events.Bound (number_in k.events h g)) low pending (tells.of_slot g pending) Settles.as_bound
    (won w.machine k.events k (number_in k.events) h state g accepts (legal_is_lawful w k.events kept.legal) kept.words low pending tells says)
    (record { state = refl; takes = refl; stays = λ hart set is. absurd (cc); nobodys = refl }) k.words
    (record { whole = kept.long.0; same = λ d. refl; fixed_on = λ d x is. is })
    (λ is. absurd (let q : FateWon ≡ FateLost = is in cc))
    (record {
      fixed = λ word is. absurd (let q : Bound ≡ Lost word = is in cc);
      bound = λ word is. absurd (let q : Bound ≡ Lost word = is in cc);
    })
    IsFateEvent.as_won k.losses (λ x there. there) (λ n word is. let q : events.Bound (number_in k.events h g) ≡ events.Lost n word = is in absurd (cc))
asked_kept won lost w begun k h state g (asked.Lost found) accepts kept low pending tells says saw =
    subst (λ (q : Grant). let d = place_of q.entry.slot in AreKept w begun (counted (events.Lost (number_in k.events h g) found) (losing h q found (with_kept d (record (kept_at k d) { fixed = Some found }) (fated_in FateLost h k)))))
    (tells.in_row g pending)
    (settled_kept w begun k kept h g FateLost (Lost found) (events.Lost (number_in k.events h g) found) low pending (tells.of_slot g pending) (Settles.as_lost found)
    (lost w.machine k.events k (number_in k.events) h state found g accepts (legal_is_lawful w k.events kept.legal) kept.words kept.long low pending tells saw)
    (record { state = refl; takes = refl; stays = λ hart set is. absurd (cc); nobodys = refl }) (with_kept (place_of g.entry.slot) seen k).words
    (record { whole = length-set k.words (place_of g.entry.slot) seen ∙ kept.long.0; same = sees_same; fixed_on = stays_fixed })
    (λ is. (found, ap (λ (y : Kept). y.fixed) here_is, refl))
    (record {
      fixed = λ word is. ap (λ (y : Kept). y.fixed) here_is ∙ (let q : found ≡ word = cc in ap (λ (n : ℕ). Some n) q);
      bound = λ word is differs. (let q : found ≡ word = cc in sym q) ∙ saw.bound differs;
    })
    (IsFateEvent.as_lost found) (k.losses ++ loss ∷ []) (λ x there. Contains-append_left k.losses (loss ∷ []) x there)
    (λ n word is. let q : events.Lost (number_in k.events h g) found ≡ events.Lost n word = is in let same : found ≡ word = cc in
    subst (λ (y : ℕ). Contains (k.losses ++ loss ∷ []) (record { hart = h; exchange = record { grant = g; found = y } })) same (Contains-append_right k.losses (loss ∷ []) loss (here loss []))))
  where
    loss : Loss
    loss = record { hart = h; exchange = record { grant = g; found = found } }

    seen : Kept
    seen = record (kept_at k (place_of g.entry.slot)) { fixed = Some found }

    inside_words : place_of g.entry.slot < length k.words
    inside_words = subst (λ (n : ℕ). place_of g.entry.slot < n) (sym kept.long.0) (tells.of_slot g pending).0.0

    here_is : kept_at (with_kept (place_of g.entry.slot) seen k) (place_of g.entry.slot) ≡ seen
    here_is = kept_here k (place_of g.entry.slot) seen inside_words

    sees_same : (d : ℕ) → kept_at (with_kept (place_of g.entry.slot) seen k) d ≡ record (kept_at k d) { fixed = (kept_at (with_kept (place_of g.entry.slot) seen k) d).fixed }
    sees_same d = dite (ℕ_discrete d (place_of g.entry.slot))
        (λ (same : d ≡ place_of g.entry.slot).
        subst (λ (i : ℕ). kept_at (with_kept (place_of g.entry.slot) seen k) i ≡ record (kept_at k i) { fixed = (kept_at (with_kept (place_of g.entry.slot) seen k) i).fixed }) (sym same)
        (subst (λ (x : Kept). x ≡ record (kept_at k (place_of g.entry.slot)) { fixed = x.fixed }) (sym here_is) refl))
        (λ (apart : d ≢ place_of g.entry.slot). subst (λ (x : Kept). x ≡ record (kept_at k d) { fixed = x.fixed }) (sym (kept_else k (place_of g.entry.slot) seen inside_words d apart)) refl)

    stays_fixed : (d x : ℕ) → (kept_at k d).fixed ≡ Some x → (kept_at (with_kept (place_of g.entry.slot) seen k) d).fixed ≡ Some x
    stays_fixed d x is = dite (ℕ_discrete d (place_of g.entry.slot))
        (λ (same : d ≡ place_of g.entry.slot).
        subst (λ (i : ℕ). (kept_at (with_kept (place_of g.entry.slot) seen k) i).fixed ≡ Some x) (sym same)
        (ap (λ (y : Kept). y.fixed) here_is ∙ ap (λ (n : ℕ). Some n) (saw.fixed x (subst (λ (i : ℕ). (kept_at k i).fixed ≡ Some x) same is))))
        (λ (apart : d ≢ place_of g.entry.slot). ap (λ (y : Kept). y.fixed) (kept_else k (place_of g.entry.slot) seen inside_words d apart) ∙ is)
