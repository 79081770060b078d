-- What an event takes away may be unmapped, and remakes the keeper's view by the event.
use Rattle.std.proofs.Common.{◌≡◌, ◌≢◌, ◌⊎◌, ⊎_elim, inl, inr, ℕ, ◌^◌, ◌<◌, ◌≤◌, true, false, List, [], Some, None, refl, sym, ap, subst, ◌∙◌, lt_of_not-le, length}
use native.Mathlib.Decide.{dec_le}
use Rattle.std.specs.List.{Contains}
use Rattle.std.proofs.lemmas.Bool.{cases_Bool, true≢false}
use Rattle.std.proofs.lemmas.List.{get_or_past}
use Rattle.ld_base.specs.declared.linking.Role.TheVariants.{None as NoRole, Rw, Rx, Slot}
use Rattle.history_event.specs.declared.event.Event.{Event}
use Rattle.history_event.specs.declared.event.Event.TheVariants as events
use Rattle.history_event.specs.declared.event.Range.{Range}
use Rattle.history_event.specs.declared.state.Granting.{Granting}
use Rattle.history_event.specs.declared.state.Standing.TheVariants.{Bound, Lost, Open}
use Rattle.word_rule.specs.declared.entry.Grant.{Grant}
use Rattle.word_rule.specs.declared.view.Fate.TheVariants.{Won}
use Rattle.word_rule.specs.declared.view.KeeperView.{KeeperView}
use Rattle.word_rule.specs.declared.view.Row.{Row}
use Rattle.word_rule.specs.Allowed.{IsAllowed, IsOf, IsSlot, IsWon, Stands}
use Rattle.word_rule.specs.Layout.{address_of, harts_at_most, place_of}
use Rattle.word_rule.specs.Views.{IsLong, kept_at, no_row, row_of}
use Rattle.history_state.specs.Changes.{ChangesMemory, StandsApart, reserved, taken}
use Rattle.history_state.specs.Laws.{RangesAreApart}
use Rattle.history_state.specs.Memory.{covers, is_in, role_at}
use Rattle.history_state.specs.State.{State}
use Rattle.history_state.specs.Step.{step, unmap}
use Rattle.history_state.specs.Lemmas.Lazy.{PageLaws}
use Rattle.history_state.specs.Lemmas.Lists.{found_in, none_in}
use Rattle.history_state.specs.Lemmas.Map.{Mapped, image_there}
use Rattle.history_memory.specs.Holds.{IsSlotAt}
use Rattle.history_memory.specs.Memory.{IsDoubleword, doubleword_of}
use Rattle.history_memory.specs.Lemmas.Exchanged.{fits}
use Rattle.history_memory.specs.Lemmas.Images.{images_forth, no_data}
use Rattle.history_memory.specs.Lemmas.Slots.{slot_there}
use Rattle.word_holds.specs.Shared.{IsGrantOf, IsOfState}
use Rattle.kept_words.specs.Keeping.{IsRemadeView}
use Rattle.kept_words.specs.Remade.{IsRemade}
use Rattle.kept_words.proofs.Settling.{place_back, slot_word}
use Rattle.word_installs.specs.Remaking.{PendingAreThere}
use Rattle.kept_words.specs.Gone.{Goes, IsCovered, IsOutside}
use Rattle.word_installs.specs.Unmapped.{IsUnmapped, MayUnmap}
use Rattle.word_installs.proofs.Coming.{KnowsNew}
use Rattle.word_installs.proofs.Leading.{Leads, first_leads, granted_leads}
use Rattle.word_installs.proofs.Places.{place_one, place_whole}
use Rattle.word_installs.proofs.Reserved.{taken_there}

-- ---- an event that takes ranges away brings none, and leaves the grants

record TakesAlone (s : State) (e : Event) : Type 0 where
  none : reserved s e ≡ []
  grants : (step s e).grants ≡ s.grants

takes_alone : (s : State) (e : Event) (r : Range) → Contains (taken s e) r → TakesAlone s e
unfolding unmap
takes_alone s (events.Unmapped hart set) r there = record { none = refl; grants = refl }
takes_alone s (events.Open hart ask answer) r there = absurd (none_in r there)
takes_alone s (events.Close hart handle answer) r there = absurd (none_in r there)
takes_alone s (events.Grant number hart owner slot choice value) r there = absurd (none_in r there)
takes_alone s (events.Bound number) r there = absurd (none_in r there)
takes_alone s (events.Lost number saw) r there = absurd (none_in r there)
takes_alone s (events.Unresolved hart owner slot choice) r there = absurd (none_in r there)
takes_alone s (events.Sym hart ask answer) r there = absurd (none_in r there)
takes_alone s (events.Tls hart owner address) r there = absurd (none_in r there)
takes_alone s (events.Init hart object) r there = absurd (none_in r there)
takes_alone s (events.Fini hart object) r there = absurd (none_in r there)
takes_alone s (events.Wrote hart bytes) r there = absurd (none_in r there)
takes_alone s (events.Told hart fault) r there = absurd (none_in r there)
takes_alone s (events.Ended hart reason) r there = absurd (none_in r there)

-- ---- rows

-- beyond the last row there is no grant
pending_low : (k : KeeperView) → IsLong k → (m : ℕ) (g : Grant) → (row_of k m).pending ≡ Some g → m < harts_at_most
pending_low k long m g waits = go (dec_le harts_at_most m)
  where
    go : Dec (harts_at_most ≤ m) → m < harts_at_most
    go (yes past) = absurd (let row : row_of k m ≡ no_row = get_or_past k.rows m no_row (subst (λ (n : ℕ). n ≤ m) (sym long.1) past) in
        let both : None ≡ Some g = sym (ap (λ (r : Row). r.pending) row) ∙ waits in cc)
    go (no inside) = lt_of_not-le inside

stands_low : (k : KeeperView) → IsLong k → (m : ℕ) (g : Grant) → Stands (row_of k m) g → m < harts_at_most
stands_low k long m g (inl waits) = pending_low k long m g waits
stands_low k long m g (inr done) = go (dec_le harts_at_most m)
  where
    go : Dec (harts_at_most ≤ m) → m < harts_at_most
    go (yes past) = absurd (none_in (record { grant = g; fate = Won })
        (subst (λ (r : Row). IsWon r g) (get_or_past k.rows m no_row (subst (λ (n : ℕ). n ≤ m) (sym long.1) past)) done))
    go (no inside) = lt_of_not-le inside

-- ---- what may go

module _ (pages : PageLaws) (s : State) (e : Event) (now : Mapped s) (new : KnowsNew (step s e)) (changes : ChangesMemory s e) (apart : RangesAreApart s)
    (small : (x : Granting) → Contains s.grants x → x.value < 2 ^ 64) (k : KeeperView) (number : ℕ → Grant → ℕ) (is : IsOfState s k number) (long : IsLong k) (there : PendingAreThere k)
    (stays : (m : ℕ) (g : Grant) → m < harts_at_most → (row_of k m).pending ≡ Some g → StandsApart s e g.entry.slot) where
  unposted : (a : ℕ) → IsCovered (taken s e) a → (m : ℕ) (g : Grant) → (row_of k m).pending ≡ Some g → place_of g.entry.slot ≢ place_of a
  unposted a covered m g pending same =
      let low = pending_low k long m g pending in
      let of : IsOf (kept_at k) (place_of g.entry.slot) g = there m g low pending in
      let word : IsDoubleword g.entry.slot = slot_word (place_of g.entry.slot) g.entry.slot of.1 of.0.0 in
      let address : g.entry.slot ≡ a = place_one g.entry.slot a word covered.word same in
      true≢false (sym covered.covers_it ∙ ap (λ (b : ℕ). covers b covered.range) (sym address) ∙ stays m g low pending covered.range (inr covered.there))

  -- a slot outside what goes
  module _ (alone : TakesAlone s e) (b : ℕ) (word : IsDoubleword b) (outside : IsOutside (taken s e) (place_of b)) (slot : IsSlot (kept_at k) (place_of b)) where
    role_before : role_at s b ≡ Slot
    role_before = sym (is.role b word) ∙ slot.1

    stands_apart : StandsApart s e b
    stands_apart r (inl came) = absurd (none_in r (subst (λ (rs : List Range). Contains rs r) alone.none came))
    stands_apart r (inr went) = ⊎_elim
        (λ (on : covers b r ≡ true). absurd (outside (b, record { word = word; range = r; there = went; covers_it = on }, refl)))
        (λ (off : covers b r ≡ false). off)
        (cases_Bool (covers b r))

    role_then : role_at (step s e) b ≡ Slot
    role_then = changes.role b (fits b word) stands_apart ∙ role_before

    not_data : role_at s b ≢ Rw
    not_data writes = let both : Slot ≡ Rw = sym role_before ∙ writes in cc

    slot_forth : (owner index : ℕ) → IsSlotAt s b owner index → IsSlotAt (step s e) b owner index
    slot_forth owner index at =
        let found = found_in (λ q. is_in q b) s.images at.image at.found in
        record {
          image = at.image;
          found = image_there pages (step s e) new.laws.mapped at.image (images_forth pages s now e at.image b found.0 (fits b word) found.1 stands_apart) b (fits b word) found.1;
          serial = at.serial;
          reloc = at.reloc;
          at = at.at;
          place = at.place;
        }

    standing : (m : ℕ) (g : Grant) (x : Granting) → IsGrantOf s k m g x → Stands (row_of k m) g → (saw : ℕ) → x.standing ≢ Lost saw
    standing m g x of (inl waits) saw lost = let both : Open ≡ Lost saw = sym (of.open_yet waits) ∙ lost in cc
    standing m g x of (inr done) saw lost = let both : Bound ≡ Lost saw = sym (of.bound done) ∙ lost in cc

    value_leads : (value : ℕ) → IsAllowed (kept_at k) (row_of k) (place_of b) value → Leads (step s e) value
    value_leads value (inl first) =
        let at = slot_there (step s e) b role_then in
        subst (Leads (step s e)) (sym (first ∙ is.word b word (inr (inr role_before)) ∙ sym (changes.word b (fits b word) stands_apart (no_data pages s now b (fits b word) not_data))))
        (first_leads (step s e) new.laws new.leads b (fits b word) at.0 at.1 at.2)
    value_leads value (inr (m, g, stands, of, value_is)) =
        let low = stands_low k long m g stands in
        let place : place_of g.entry.slot ≡ place_of b = place_back (place_of b) g.entry.slot of.1 in
        let x = is.granted m g low stands (subst (λ (d : ℕ). IsOf (kept_at k) d g) (sym place) of) in
        let address : g.entry.slot ≡ b = place_one g.entry.slot b (slot_word (place_of b) g.entry.slot of.1 of.0.0) word place in
        let at : IsSlotAt s b x.0.owner x.0.slot = subst (λ (a : ℕ). IsSlotAt s a x.0.owner x.0.slot) address x.2.slot in
        subst (Leads (step s e)) (x.2.value ∙ sym value_is)
        (granted_leads (step s e) new.laws new.leads b (fits b word) x.0 (subst (λ (all : List Granting). Contains all x.0) (sym alone.grants) x.2.there) (standing m g x.0 x.2 stands) (small x.0 x.2.there)
        (slot_forth x.0.owner x.0.slot at))

  unentered : (a d value : ℕ) → IsCovered (taken s e) a → IsOutside (taken s e) d → IsSlot (kept_at k) d → IsAllowed (kept_at k) (row_of k) d value → (value ≡ 0) ⊎ (place_of value ≢ place_of a)
  unentered a d value covered outside slot allowed =
      let b : ℕ = address_of d in
      let word : IsDoubleword (address_of d) = slot_word d (address_of d) refl slot.0 in
      let place : place_of (address_of d) ≡ d = place_back d (address_of d) refl in
      ⊎_elim (λ (none : value ≡ 0). inl none)
      (λ (rx : (value < 2 ^ 64) × (role_at (step s e) value ≡ Rx)). inr (λ same.
      let code = new.code value rx.0 rx.1 in
      let address : doubleword_of value ≡ a = place_one (doubleword_of value) a code.0 covered.word (place_whole value code.0 ∙ same) in
      let both : NoRole ≡ Rx = sym (changes.taken_after covered.range a covered.there covered.covers_it) ∙ ap (role_at (step s e)) (sym address) ∙ code.1 in cc))
      (value_leads (takes_alone s e covered.range covered.there) (address_of d) word
      (subst (IsOutside (taken s e)) (sym place) outside) (subst (IsSlot (kept_at k)) (sym place) slot) value
      (subst (λ (c : ℕ). IsAllowed (kept_at k) (row_of k) c value) (sym place) allowed))

  pub may_unmap : MayUnmap k (taken s e)
  may_unmap = record { guest = λ r went. apart.guest r (taken_there s e r went); unposted = unposted; unentered = unentered }

-- ---- the view then

pub unmapped_remade : (s : State) (e : Event) (k l : KeeperView) (count : ℕ) → reserved s e ≡ [] → IsUnmapped (taken s e) k l → IsRemade s e count k l
unmapped_remade s e k l count none unmapped = record {
  kept = λ a word stands. unmapped.kept (place_of a) (λ inside.
      let address : inside.0 ≡ a = place_one inside.0 a inside.1.word word inside.2 in
      true≢false (sym inside.1.covers_it ∙ ap (λ (b : ℕ). covers b inside.1.range) address ∙ stands inside.1.range (inr inside.1.there)));
  given = λ r a word came. absurd (none_in r (subst (λ (rs : List Range). Contains rs r) none came));
  gone = λ r a word went on. unmapped.gone a (record { word = word; range = r; there = went; covers_it = on });
  pending = λ m. ap (λ (v : KeeperView). (row_of v m).pending) unmapped.only;
  settled = λ m. ap (λ (v : KeeperView). (row_of v m).settled) unmapped.only;
}

pub unmapped_view : (s : State) (e : Event) (k l : KeeperView) → reserved s e ≡ [] → IsUnmapped (taken s e) k l → IsLong l → l.generation ≡ (step s e).generation → IsRemadeView s e k l
unmapped_view s e k l none unmapped long generation = record {
  remade = unmapped_remade s e k l (length k.events) none unmapped;
  long = long;
  goes = subst (λ (g : ℕ). Goes (taken s e) g k l) generation unmapped.goes;
  decided = unmapped.decided;
  only = unmapped.only ∙ ap (λ (g : ℕ). record k { words = l.words; shown = l.shown; retired = l.retired; generation = g }) generation;
}
