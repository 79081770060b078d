-- The end of a run.
use Rattle.std.proofs.Common.{◌≡◌, ◌≢◌, inl, inr, ℕ, ◌<◌, eqb, List, ◌∷◌, [], None, Some, refl, sym, ap, subst, ◌∙◌, arith, ⊎_elim}
use mathlib.Core.Logic.{dite}
use native.Mathlib.Decide.{ℕ_discrete}
use Rattle.std.specs.List.{Contains}
use Rattle.std.proofs.lemmas.Bool.{and_from, and_parts, eq-eqb, eqb-true}
use Rattle.ld_base.specs.declared.linking.Role.TheVariants.{Slot}
use Rattle.history_event.specs.declared.event.Event.{Event}
use Rattle.history_event.specs.declared.event.Event.TheVariants as events
use Rattle.history_event.specs.declared.state.Granting.{Granting}
use Rattle.history_event.specs.declared.state.Standing.TheVariants.{Bound, Lost, Open}
use Rattle.word_rule.specs.declared.entry.Entry.{Entry}
use Rattle.word_rule.specs.declared.entry.Exchange.{Exchange}
use Rattle.word_rule.specs.declared.entry.Grant.{Grant}
use Rattle.word_rule.specs.declared.view.Fate.{Fate}
use Rattle.word_rule.specs.declared.view.Fate.TheVariants.{Lost as FateLost, Won}
use Rattle.word_rule.specs.declared.view.KeeperView.{KeeperView}
use Rattle.word_rule.specs.Allowed.{IsOf, IsWon}
use Rattle.word_rule.specs.KeeperSteps.{AreDecided}
use Rattle.word_rule.specs.Layout.{harts_at_most, place_of}
use Rattle.word_rule.specs.Slots.{Rising}
use Rattle.word_rule.specs.Views.{kept_at, row_of, exchanges_of}
use Rattle.history_state.specs.Laws.{IsImageOf}
use Rattle.history_state.specs.Legal.{IsOnlyBound, Settled}
use Rattle.history_state.specs.Memory.{first_word_at, role_at}
use Rattle.history_state.specs.Objects.{IsMapped}
use Rattle.history_state.specs.Slots.{value_at_load}
use Rattle.history_state.specs.State.{State}
use Rattle.history_state.specs.Lemmas.Lists.{first_or_later, none_in}
use Rattle.history_memory.specs.Holds.{IsSlotAt}
use Rattle.history_memory.specs.Remade.{HasSlot}
use Rattle.word_holds.specs.Shared.{IsOfState}
use Rattle.kept_words.specs.Handed.{event_numbers}
use Rattle.kept_words.specs.Kept.{HasSeen, LostHaveSeen, IsFateEvent}
use Rattle.kept_words.specs.Over.{FatesAreExchanges, TrailsAreTrue}
use Rattle.kept_words.specs.Staying.{number_in}
use Rattle.kept_words.proofs.Fetching.{are_code}
use Rattle.kept_words.proofs.Remade.{place_slot}
use Rattle.kept_words.proofs.Settling.{StateLaws, loaded, place_back, same_slot}

-- ---- trails

won_event : (n : ℕ) (e : Event) → IsFateEvent n Won e → (journal : List Event) → Contains journal e → Contains journal (events.Bound n)
won_event n e IsFateEvent.as_won journal there = there

lost_event : (n : ℕ) (e : Event) → IsFateEvent n FateLost e → (saw : ℕ) × (e ≡ events.Lost n saw)
lost_event n e (IsFateEvent.as_lost saw) = (saw, refl)

-- numbers rise, and so an exchange of a grant is the only one
rising_one : (xs : List Exchange) → Rising xs → (x y : Exchange) → Contains xs x → Contains xs y → x.grant ≡ y.grant → x ≡ y
rising_one [] rising x y in_x in_y same = absurd (none_in x in_x)
rising_one (z ∷ xs) rising x y in_x in_y same = ⊎_elim
    (λ (first_x : z ≡ x). ⊎_elim
    (λ (first_y : z ≡ y). sym first_x ∙ first_y)
    (λ (later_y : Contains xs y). absurd (apart y later_y (ap (λ (e : Exchange). e.grant.entry.number) first_x ∙ ap (λ (g : Grant). g.entry.number) same)))
    (first_or_later z xs y in_y))
    (λ (later_x : Contains xs x). ⊎_elim
    (λ (first_y : z ≡ y). absurd (apart x later_x (ap (λ (e : Exchange). e.grant.entry.number) first_y ∙ ap (λ (g : Grant). g.entry.number) (sym same))))
    (λ (later_y : Contains xs y). rising_one xs rising.1 x y later_x later_y same)
    (first_or_later z xs y in_y))
    (first_or_later z xs x in_x)
  where
    apart : (e : Exchange) → Contains xs e → z.grant.entry.number ≡ e.grant.entry.number → ⊥
    apart e there is = let rises : z.grant.entry.number < e.grant.entry.number = rising.0 e there in omega (arith, rises, is)

pub trails_are_true : TrailsAreTrue
trails_are_true w begun k h state j kept low settled all = record {
  issued = λ e there. kept.issued h e low (subst (λ (es : List Entry). Contains es e) (all.entries ∙ all.taken) there);
  events = ap event_numbers (all.entries ∙ all.taken) ∙ kept.handed h low;
  granted = λ x there. kept.rows.fates.entered h x.grant low (all.granted x there);
  won = λ x there found. ⊎_elim
      (λ (waits : (row_of k h).pending ≡ Some x.grant). absurd (none_waits x.grant waits))
      (λ (done : (f : Fate) × Contains (row_of k h).settled (record { grant = x.grant; fate = f })). by_won x there found done.0 done.1)
      (all.granted x there);
  lost = λ x there found. ⊎_elim
      (λ (waits : (row_of k h).pending ≡ Some x.grant). absurd (none_waits x.grant waits))
      (λ (done : (f : Fate) × Contains (row_of k h).settled (record { grant = x.grant; fate = f })). by_lost x there found done.0 done.1)
      (all.granted x there);
  fetched = are_code k.events k (number_in k.events) kept.words kept.gone j.trail all.fetched;
}
  where
    none_waits : (g : Grant) → (row_of k h).pending ≡ Some g → ⊥
    none_waits g waits = let both : None ≡ Some g = sym settled ∙ waits in cc

    by_won : (x : Exchange) → Contains (exchanges_of j.trail) x → x.found ≡ x.grant.lazy → (f : Fate) → Contains (row_of k h).settled (record { grant = x.grant; fate = f })
        → Contains k.events (events.Bound (number_in k.events h x.grant))
    by_won x there found Won known = let event = kept.rows.fates.fated h x.grant Won low known in won_event (number_in k.events h x.grant) event.0 event.2 k.events event.1
    by_won x there found FateLost known =
        let its = all.lost x.grant known in
        let same : x ≡ record { grant = x.grant; found = its.0 } = rising_one (exchanges_of j.trail) all.rising x (record { grant = x.grant; found = its.0 }) there its.2 refl in
        absurd (its.1 (sym (ap (λ (y : Exchange). y.found) same) ∙ found))

    by_lost : (x : Exchange) → Contains (exchanges_of j.trail) x → x.found ≢ x.grant.lazy → (f : Fate) → Contains (row_of k h).settled (record { grant = x.grant; fate = f })
        → Contains k.events (events.Lost (number_in k.events h x.grant) x.found)
    by_lost x there found Won known =
        let same : x ≡ record { grant = x.grant; found = x.grant.lazy } = rising_one (exchanges_of j.trail) all.rising x (record { grant = x.grant; found = x.grant.lazy }) there (all.won x.grant known) refl in
        absurd (found (ap (λ (y : Exchange). y.found) same))
    by_lost x there found FateLost known =
        let event = kept.rows.fates.fated h x.grant FateLost low known in
        let saw = lost_event (number_in k.events h x.grant) event.0 event.2 in
        let its : Exchange = record { grant = x.grant; found = saw.0 } in
        let made : Contains (exchanges_of j.trail) its = all.found (record { hart = h; exchange = its }) (event.3 (number_in k.events h x.grant) saw.0 saw.1) refl in
        let same : x ≡ its = rising_one (exchanges_of j.trail) all.rising x its there made refl in
        subst (λ (n : ℕ). Contains k.events (events.Lost (number_in k.events h x.grant) n)) (sym (ap (λ (y : Exchange). y.found) same)) (subst (Contains k.events) saw.1 event.1)

pub fates_are_exchanges : FatesAreExchanges
fates_are_exchanges w begun k n f e kept there is =
    let x = kept.rows.fates.known n f e there is in
    record { hart = x.0; grant = x.1; low = x.2; event = kept.rows.fates.entered x.0 x.1 x.2 (inr (f, x.3)); number_is = x.4; fate = x.3; shown = x.5 }

-- ---- grants

module _ (s : State) (laws : StateLaws s) (k : KeeperView) (number : ℕ → Grant → ℕ) (is : IsOfState s k number) where
  -- a grant of a slot that is there isn't open, where all fates are known
  pub none_open : ((m : ℕ) → m < harts_at_most → (row_of k m).pending ≡ None) → (x : Granting) → HasSlot s x → x.standing ≢ Open
  none_open settled x slot open_yet =
      let y = is.stands slot.0 x slot.1.place slot.1.there (inr open_yet) slot.1.of in
      let known : IsWon (row_of k y.0) y.1 = ⊎_elim
      (λ (waits : (row_of k y.0).pending ≡ Some y.1). absurd (let none : None ≡ Some y.1 = sym (settled y.0 y.2) ∙ waits in cc))
      (λ (done : IsWon (row_of k y.0) y.1). done)
      y.3 in
      let both : Bound ≡ Open = sym (y.6.bound known) ∙ open_yet in
      cc

  -- what a lost grant of a mapped object saw is its slot's value, where no grant of the object is open
  pub lost_settled : AreDecided k → LostHaveSeen s k → (x : Granting) (saw : ℕ) → ((y : Granting) → Contains s.grants y → y.standing ≡ Open → y.owner ≢ x.owner)
      → Contains s.grants x → x.standing ≡ Lost saw → IsMapped s x.owner → Settled s x saw
  lost_settled decided seen x saw closed there lost mapped = dite (ℕ_discrete (kept_at k (place_of was.address)).value (kept_at k (place_of was.address)).lazy)
      (λ (lazy : (kept_at k (place_of was.address)).value ≡ (kept_at k (place_of was.address)).lazy). inr (by_grant lazy))
      (λ (other : (kept_at k (place_of was.address)).value ≢ (kept_at k (place_of was.address)).lazy). inl (at_load other))
    where
      home : IsImageOf s.images mapped.object
      home = laws.images.mapped mapped.namespace mapped.object (record { there = mapped.there; inside = mapped.inside })

      was : HasSeen s k x.owner x.slot saw
      was = seen x saw home.image there lost home.there (home.serial ∙ mapped.is)

      role : role_at s was.address ≡ Slot
      role = sym (is.role was.address was.word) ∙ was.seen.of.0.1

      first_is : (kept_at k (place_of was.address)).value ≡ first_word_at s was.address
      first_is = is.word was.address was.word (inr (inr role))

      at_load : (kept_at k (place_of was.address)).value ≢ (kept_at k (place_of was.address)).lazy → value_at_load s x.owner x.slot ≡ Some saw
      at_load other =
          loaded s laws was.address x.owner x.slot was.word was.at (λ same. other (first_is ∙ same ∙ sym (is.lazy was.address was.word role))) (value_at_load s x.owner x.slot) refl
          ∙ ap (λ (v : ℕ). Some v) (sym (was.seen.bound other ∙ first_is))

      by_grant : (kept_at k (place_of was.address)).value ≡ (kept_at k (place_of was.address)).lazy → IsOnlyBound s x.owner x.slot saw
      by_grant lazy =
          let its = decided (place_of was.address) was.seen.of.0 in
          let y = its.lost was.seen.hart was.seen.grant was.seen.low was.seen.lost was.seen.of lazy in
          let place : place_of y.1.entry.slot ≡ place_of was.address = place_back (place_of was.address) y.1.entry.slot y.4.1 in
          let z = is.granted y.0 y.1 y.2 y.3 (subst (λ (d : ℕ). IsOf (kept_at k) d y.1) (sym place) y.4) in
          let address : y.1.entry.slot ≡ was.address = place_slot y.1.entry.slot was.address y.4.1 was.word in
          let same = same_slot s laws was.address x.owner x.slot was.word was.at z.0.owner z.0.slot (subst (λ (a : ℕ). IsSlotAt s a z.0.owner z.0.slot) address z.2.slot) in
          let known : IsWon (row_of k y.0) y.1 = ⊎_elim
          (λ (waits : (row_of k y.0).pending ≡ Some y.1). absurd (closed z.0 z.2.there (z.2.open_yet waits) same.0))
          (λ (done : IsWon (row_of k y.0) y.1). done)
          y.3 in
          let value : y.1.entry.value ≡ saw = its.won y.0 y.1 saw y.2 known y.4 was.seen.fixed in
          record {
            grant = z.0;
            there = z.2.there;
            of = and_from (eqb z.0.owner x.owner) (eqb z.0.slot x.slot) (eq-eqb z.0.owner x.owner same.0) (eq-eqb z.0.slot x.slot same.1);
            bound = z.2.bound known;
            holds = z.2.value ∙ value;
            only = λ other inside of bound.
                let parts = and_parts (eqb other.owner x.owner) (eqb other.slot x.slot) of in
                laws.tidy.one_bound other z.0 inside z.2.there bound (z.2.bound known) (eqb-true other.owner x.owner parts.0 ∙ sym same.0) (eqb-true other.slot x.slot parts.1 ∙ sym same.1);
          }
