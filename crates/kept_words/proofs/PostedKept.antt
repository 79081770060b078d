-- A grant is posted: the keeper's record stays as it has to be.
use Rattle.std.proofs.Common.{◌≡◌, ◌≢◌, ◌⊎◌, ⊎_elim, inl, inr, ℕ, ◌+◌, ◌-◌, ◌<◌, ◌≤◌, List, [], ◌∷◌, ◌++◌, length, length-append, length-set, Some, refl, sym, ap, subst, ◌∙◌, append_assoc, arith}
use mathlib.Core.Logic.{dite}
use native.Mathlib.Decide.{ℕ_discrete}
use Rattle.std.specs.List.{Contains}
use Rattle.std.proofs.lemmas.List.Elements.{Contains-append_cases}
use Rattle.history_event.specs.declared.event.Event.{Event}
use Rattle.history_event.specs.declared.event.Event.TheVariants as events
use Rattle.word_rule.specs.declared.entry.Entry.{Entry}
use Rattle.word_rule.specs.declared.entry.Grant.{Grant}
use Rattle.word_rule.specs.declared.view.Fate.TheVariants.{Won}
use Rattle.word_rule.specs.declared.view.KeeperView.{KeeperView}
use Rattle.word_rule.specs.declared.view.Row.{Row}
use Rattle.word_rule.specs.declared.view.Settled.{Settled}
use Rattle.word_rule.specs.Allowed.{IsOf, Stands}
use Rattle.word_rule.specs.Layout.{harts_at_most, place_of}
use Rattle.word_rule.specs.Slots.{IsGrant}
use Rattle.word_rule.specs.Views.{IsLong, kept_at, row_of}
use Rattle.word_rule.specs.Lemmas.Heeding.{row_else, row_here}
use Rattle.word_steps.specs.Knowing.{counted}
use Rattle.slot_bind.specs.Grants.{posted, row_posted}
use Rattle.history_state.specs.After.{after}
use Rattle.history_state.specs.Allowed.{Allowed}
use Rattle.history_state.specs.Setting.{Setting}
use Rattle.history_state.specs.State.{State}
use Rattle.history_state.specs.Lemmas.Calling.{startup_is_past}
use Rattle.history_state.specs.Lemmas.History.{after_push, legal_push}
use Rattle.history_state.specs.Lemmas.Lists.{only_in}
use Rattle.word_holds.specs.Shared.{IsOfState}
use Rattle.kept_words.specs.Handed.{IsGrantEntry, IsIssued}
use Rattle.kept_words.specs.Kept.{AreKept, AreRows, LostHaveSeen}
use Rattle.kept_words.specs.Posted.{Posts}
use Rattle.kept_words.specs.Posting.{NewGrant, event_of, granting_of}
use Rattle.kept_words.specs.Staying.{IsGrantEvent, number_in}
use Rattle.kept_words.proofs.Gone.{gone_beside}
use Rattle.kept_words.proofs.Handed.{issued_stays, posted_handed_stays}
use Rattle.kept_words.proofs.Keeping.{begun_short, inside, later_event, own_push, row_field, rows_on, settles_none, was_lost}
use Rattle.kept_words.proofs.Posted.{posted_stays}
use Rattle.kept_words.proofs.Posting.{at_end}
use Rattle.kept_words.proofs.Seen.{seen_more, seen_on}
use Rattle.kept_words.proofs.Staying.{states_stay}
use Rattle.kept_words.proofs.Values.{settled_push}

-- ---- the row of the grant

module _ (k : KeeperView) (h : ℕ) (g : Grant) (long : IsLong k) (low : h < harts_at_most) where
  settled_same : (m : ℕ) → (row_of (posted h g k) m).settled ≡ (row_of k m).settled
  settled_same = row_field (λ (y : Row). y.settled) k h (row_posted g (row_of k h)) (inside k h long low) refl

  -- what is pending was before, or is this grant
  was_waiting : (m : ℕ) (p : Grant) → (row_of (posted h g k) m).pending ≡ Some p → ((row_of k m).pending ≡ Some p) ⊎ ((m ≡ h) × (p ≡ g))
  was_waiting m p waits = dite (ℕ_discrete m h)
      (λ (same : m ≡ h).
      let now : Some g ≡ Some p = sym (ap (λ (i : ℕ). (row_of (posted h g k) i).pending) same ∙ ap (λ (r : Row). r.pending) (row_here k h (row_posted g (row_of k h)) (inside k h long low))) ∙ waits in
      inr (same, (let is : g ≡ p = cc in sym is)))
      (λ (apart : m ≢ h). inl (ap (λ (r : Row). r.pending) (sym (row_else k h (row_posted g (row_of k h)) (inside k h long low) m apart)) ∙ waits))

  stood : (m : ℕ) (p : Grant) → Stands (row_of (posted h g k) m) p → Stands (row_of k m) p ⊎ ((m ≡ h) × (p ≡ g))
  stood m p (inl waits) = ⊎_elim (λ (old : (row_of k m).pending ≡ Some p). inl (inl old)) (λ new. inr new) (was_waiting m p waits)
  stood m p (inr done) = inl (inr (subst (λ (all : List Settled). Contains all (record { grant = p; fate = Won })) (settled_same m) done))

  was_granted : (m : ℕ) (p : Grant) → IsGrant (row_of (posted h g k) m) p → IsGrant (row_of k m) p ⊎ ((m ≡ h) × (p ≡ g))
  was_granted m p (inl waits) = ⊎_elim (λ (old : (row_of k m).pending ≡ Some p). inl (inl old)) (λ new. inr new) (was_waiting m p waits)
  was_granted m p (inr done) = inl (inr (done.0, subst (λ (all : List Settled). Contains all (record { grant = p; fate = done.0 })) (settled_same m) done.1))

  was_issued : (m : ℕ) (x : Entry) → Contains (row_of (posted h g k) m).issued x → Contains (row_of k m).issued x ⊎ ((m ≡ h) × (g.entry ≡ x))
  was_issued m x there = dite (ℕ_discrete m h)
      (λ (same : m ≡ h). ⊎_elim
      (λ (old : Contains (row_of k h).issued x). inl (subst (λ (i : ℕ). Contains (row_of k i).issued x) (sym same) old))
      (λ (new : Contains (g.entry ∷ []) x). inr (same, only_in g.entry x new))
      (Contains-append_cases (row_of k h).issued (g.entry ∷ []) x
      (subst (λ (r : Row). Contains r.issued x) (row_here k h (row_posted g (row_of k h)) (inside k h long low)) (subst (λ (i : ℕ). Contains (row_of (posted h g k) i).issued x) same there))))
      (λ (apart : m ≢ h). inl (subst (λ (r : Row). Contains r.issued x) (row_else k h (row_posted g (row_of k h)) (inside k h long low) m apart) there))

-- ---- the record

module _ (w : Setting) (begun : List Event) (k : KeeperView) (g : NewGrant) (x : Grant) (kept : AreKept w begun k) (own_low : g.hart < w.machine.harts) (may : Allowed w k.events (event_of g))
    (posts : Posts (after k.events) k (number_in k.events) (number_in (k.events ++ event_of g ∷ [])) g.hart x (granting_of g)) (of : IsOf (kept_at k) (place_of x.entry.slot) x)
    (entry : IsGrantEntry k.events g.hart g.number g.owner g.slot g.choice g.value x.entry) where
  abbrev e : Event
  e = event_of g

  low : g.hart < harts_at_most
  low = let few : w.machine.harts ≤ harts_at_most = kept.few in omega (arith, few, own_low)

  longer : length (k.events ++ event_of g ∷ []) ≡ length k.events + 1
  longer = length-append k.events (event_of g ∷ [])

  abbrev new_state : State
  new_state = record (after k.events) { grants = (after k.events).grants ++ granting_of g ∷ [] }

  stays : IsOfState new_state (posted g.hart x (counted (event_of g) k)) (number_in (k.events ++ event_of g ∷ []))
  stays = states_stay new_state new_state (posted g.hart x k) (posted g.hart x (counted (event_of g) k))
      (number_in (k.events ++ event_of g ∷ [])) (number_in (k.events ++ event_of g ∷ []))
      (record { role = λ a word. refl; word = λ a word roles. refl; images = refl; grants = refl }) (record { words = λ d. refl; pending = λ m. refl; settled = λ m. refl })
      (λ m p few stands. refl)
      (posted_stays (after k.events) k (number_in k.events) (number_in (k.events ++ event_of g ∷ [])) g.hart x (granting_of g) kept.long kept.words posts of)

  its_event : IsGrantEvent (k.events ++ event_of g ∷ []) g.hart x
  its_event = record {
    number = g.number;
    owner = g.owner;
    slot = g.slot;
    choice = g.choice;
    at = at_end k.events (event_of g) (x.entry.number - 1) (let is : x.entry.number ≡ length k.events + 1 = entry.number_is in omega (arith, is))
        ∙ ap (λ (v : ℕ). Some (events.Grant g.number g.hart g.owner g.slot g.choice v)) (sym entry.value_is);
    some = let is : x.entry.number ≡ length k.events + 1 = entry.number_is in omega (arith, is);
  }

  now_rows : AreRows (counted (event_of g) k)
  now_rows = rows_on k (counted (event_of g) k) (event_of g ∷ []) refl (settles_none (event_of g) refl) (λ d. refl) (λ i. refl) (λ i. refl) refl kept.rows

  pub posted_kept : AreKept w begun (posted g.hart x (counted (event_of g) k))
  posted_kept = record {
    few = kept.few;
    harts = kept.harts;
    long = (kept.long.0, length-set k.rows g.hart (row_posted x (row_of k g.hart)) ∙ kept.long.1);
    legal = legal_push w k.events e kept.legal may;
    started = startup_is_past k.events (e ∷ []) kept.started;
    begins = (kept.begins.0 ++ e ∷ [], ap (λ (es : List Event). es ++ event_of g ∷ []) kept.begins.1 ∙ append_assoc begun kept.begins.0 (e ∷ []));
    own = own_push w k.events e g.hart kept.own refl own_low;
    words = subst (λ (s : State). IsOfState s (posted g.hart x (counted (event_of g) k)) (number_in (k.events ++ event_of g ∷ []))) (sym (after_push k.events e)) stays;
    generation = kept.generation ∙ ap (λ (s : State). s.generation) (sym (after_push k.events e));
    granted = λ m p few stands. ⊎_elim
        (λ (old : Stands (row_of k m) p). later_event k.events (e ∷ []) m p (kept.granted m p few old))
        (λ (new : (m ≡ g.hart) × (p ≡ x)). subst (λ (i : ℕ). IsGrantEvent (k.events ++ event_of g ∷ []) i p) (sym new.0) (subst (IsGrantEvent (k.events ++ event_of g ∷ []) g.hart) (sym new.1) its_event))
        (stood (counted e k) g.hart x kept.long low m p stands);
    rows = record {
      since = now_rows.since;
      fates = record {
        entered = λ m p few is. ⊎_elim
            (λ (old : IsGrant (row_of k m) p). now_rows.fates.entered m p few old)
            (λ (new : (m ≡ g.hart) × (p ≡ x)). subst (λ (i : ℕ). IsGrantEvent (k.events ++ event_of g ∷ []) i p) (sym new.0) (subst (IsGrantEvent (k.events ++ event_of g ∷ []) g.hart) (sym new.1) its_event))
            (was_granted (counted e k) g.hart x kept.long low m p is);
        fated = λ m p f few there. now_rows.fates.fated m p f few
            (subst (λ (all : List Settled). Contains all (record { grant = p; fate = f })) (settled_same (counted e k) g.hart x kept.long low m) there);
        known = λ n f y there is.
            let known = now_rows.fates.known n f y there is in
            (known.0, known.1, known.2, subst (λ (all : List Settled). Contains all (record { grant = known.1; fate = f })) (sym (settled_same (counted e k) g.hart x kept.long low known.0)) known.3, known.4, known.5);
      };
      pending = λ m p few waits. ⊎_elim
          (λ (old : (row_of k m).pending ≡ Some p). kept.rows.pending m p few old)
          (λ (new : (m ≡ g.hart) × (p ≡ x)). subst (λ (q : Grant). IsOf (kept_at k) (place_of q.entry.slot) q) (sym new.1) of)
          (was_waiting (counted e k) g.hart x kept.long low m p waits);
      counted = λ m p few is. ⊎_elim
          (λ (old : IsGrant (row_of k m) p). now_rows.counted m p few old)
          (λ (new : (m ≡ g.hart) × (p ≡ x)).
          let one : p.entry.number ≡ length k.events + 1 = ap (λ (q : Grant). q.entry.number) new.1 ∙ entry.number_is in
          let all : length (k.events ++ event_of g ∷ []) ≡ length k.events + 1 = longer in
          omega (arith, one, all))
          (was_granted (counted e k) g.hart x kept.long low m p is);
      lost = λ m p few is at. now_rows.lost m p few
          (was_lost (row_of k m) (row_of (posted g.hart x (counted e k)) m) (settled_same (counted e k) g.hart x kept.long low m) p is) at;
    };
    seen = subst (λ (s : State). LostHaveSeen s (posted g.hart x (counted e k))) (sym (after_push k.events e))
        (seen_on new_state new_state k (posted g.hart x (counted e k)) refl refl (λ d. refl) (settled_same (counted e k) g.hart x kept.long low)
        (seen_more (after k.events) k (granting_of g) refl kept.seen));
    settled = settled_push k.events (event_of g) (λ hart set is. absurd (cc)) kept.settled;
    issued = λ m y few there. ⊎_elim
        (λ (old : Contains (row_of k m).issued y). issued_stays w k.events (e ∷ []) m y (kept.issued m y few old))
        (λ (new : (m ≡ g.hart) × (x.entry ≡ y)).
        subst (λ (i : ℕ). IsIssued w (k.events ++ event_of g ∷ []) i y) (sym new.0)
        (subst (IsIssued w (k.events ++ event_of g ∷ []) g.hart) new.1 (IsIssued.of_grant k.events [] g.number g.owner g.slot g.value g.choice refl entry)))
        (was_issued (counted e k) g.hart x kept.long low m y there);
    handed = posted_handed_stays begun k g.hart e x kept.long low (begun_short w begun k kept) refl entry.mark entry.number_is kept.handed;
    gone = gone_beside k.events (event_of g) k.retired refl kept.gone;
  }
