-- Memory is remade by an event: the keeper's record stays as it has to be.
use Rattle.std.proofs.Common.{◌≡◌, ◌≢◌, ◌⊎◌, ⊎_elim, inl, inr, ℕ, ◌+◌, ◌^◌, ◌<◌, ◌≤◌, true, false, not, List, [], ◌∷◌, ◌++◌, length, length-append, Some, refl, sym, ap, subst, ◌∙◌, append_assoc, arith}
use Rattle.std.specs.List.{Contains}
use Rattle.std.proofs.lemmas.Bool.{cases_Bool, false≢true, not-true}
use Rattle.std.proofs.lemmas.List.Elements.{Contains-append_left}
use Rattle.ld_base.specs.declared.linking.Role.TheVariants.{None as NoRole, Rx, Slot}
use Rattle.history_event.specs.declared.event.Event.{Event}
use Rattle.history_event.specs.declared.event.Event.TheVariants as events
use Rattle.history_event.specs.declared.event.OpenAnswer.TheVariants as opens
use Rattle.history_event.specs.declared.event.Purpose.{Purpose}
use Rattle.history_event.specs.declared.event.Purpose.TheVariants as purposes
use Rattle.history_event.specs.declared.event.Range.{Range}
use Rattle.history_event.specs.declared.state.Granting.{Granting}
use Rattle.word_rule.specs.declared.entry.Entry.{Entry}
use Rattle.word_rule.specs.declared.entry.Grant.{Grant}
use Rattle.word_rule.specs.declared.view.Fate.TheVariants.{Lost as FateLost, Won}
use Rattle.word_rule.specs.declared.view.KeeperView.{KeeperView}
use Rattle.word_rule.specs.declared.view.Kept.{Kept}
use Rattle.word_rule.specs.declared.view.Row.{Row}
use Rattle.word_rule.specs.declared.view.Settled.{Settled}
use Rattle.word_rule.specs.Allowed.{IsLost, IsOf, IsSlot, Stands}
use Rattle.word_rule.specs.Fetches.{RoleWent}
use Rattle.word_rule.specs.KeeperSteps.{AreDecided}
use Rattle.word_rule.specs.Layout.{address_of, harts_at_most, place_of}
use Rattle.word_rule.specs.Slots.{IsGrant}
use Rattle.word_rule.specs.Views.{IsLong, kept_at, row_of}
use Rattle.word_steps.specs.Knowing.{counted}
use Rattle.slot_bind.specs.Rows.{handed_over}
use Rattle.history_state.specs.After.{after}
use Rattle.history_state.specs.Allowed.{Allowed, AllowedIn}
use Rattle.history_state.specs.Changes.{ChangesMemory, StandsApart, reserved, taken}
use Rattle.history_state.specs.Memory.{covers, first_word_at, is_in, role_at}
use Rattle.history_state.specs.Objects.{has}
use Rattle.history_state.specs.Setting.{Setting}
use Rattle.history_state.specs.State.{Linked, State}
use Rattle.history_state.specs.Step.{goes_with, loaded, purpose_goes, step, unmap}
use Rattle.history_state.specs.Lemmas.Calling.{startup_is_past}
use Rattle.history_state.specs.Lemmas.History.{after_push, legal_push}
use Rattle.history_state.specs.Lemmas.Good.{Good, core}
use Rattle.history_state.specs.Lemmas.Lazy.{PageLaws}
use Rattle.history_state.specs.Lemmas.Lists.{found_in, from_filter, has_in, in_filter, in_has, none_in}
use Rattle.history_state.specs.Lemmas.Map.{Mapped, image_there, one_cover, range_in}
use Rattle.history_calls.specs.Laws.{hart_of}
use Rattle.history_memory.specs.Holds.{IsSlotAt}
use Rattle.history_memory.specs.Memory.{IsDoubleword}
use Rattle.history_memory.specs.Lemmas.Exchanged.{fits}
use Rattle.history_memory.specs.Lemmas.Images.{ImagesBack}
use Rattle.hart_trails.specs.Entries.{entry_behind}
use Rattle.hart_trails.specs.Trails.{is_granting}
use Rattle.word_holds.specs.Shared.{IsOfState}
use Rattle.kept_words.specs.Gone.{AllGo, HadWords, HaveGone, OnlyGo}
use Rattle.kept_words.specs.Handed.{IsIssued}
use Rattle.kept_words.specs.Keeping.{IsRemadeView, remakes_memory}
use Rattle.kept_words.specs.Kept.{AreKept, AreRows, AreSettled, LostHaveSeen}
use Rattle.kept_words.specs.Remade.{IsRemade}
use Rattle.kept_words.specs.Staying.{SameGrants, number_in}
use Rattle.kept_words.proofs.Handed.{handed_stays, issued_stays}
use Rattle.kept_words.proofs.Keeping.{begun_short, counted_number, fates_on, handed_issued, handed_long, handed_pending, handed_settled, later_event, is_settling, later_number, own_push, settles_none, some_in}
use Rattle.kept_words.proofs.Over.{lost_settled}
use Rattle.kept_words.proofs.Remade.{InOne, in_one}
use Rattle.kept_words.proofs.Seen.{seen_on, seen_word}
use Rattle.kept_words.proofs.Settling.{StateLaws, place_back, slot_word}
use Rattle.kept_words.proofs.Staying.{stands_back, states_stay}
use Rattle.kept_words.proofs.Values.{settled_push}

-- ---- slots with a grant whose fate isn't known

-- an object's pages go with it
object_goes : (set : List ℕ) (r : Range) (serial : ℕ) → r.purpose ≡ purposes.Object serial → goes_with set r ≡ true → Contains set serial
object_goes set r serial purpose goes = has_in set serial (ap (λ (p : Purpose). purpose_goes set p) (sym purpose) ∙ goes)

module _ (pages : PageLaws) (w : Setting) (past : List Event) (s : State) (now : Mapped s) (e : Event) (may : AllowedIn w past s e) (changes : ChangesMemory s e)
    (k : KeeperView) (number : ℕ → Grant → ℕ) (is : IsOfState s k number) (m : ℕ) (low : m < harts_at_most) (g : Grant) (pending : (row_of k m).pending ≡ Some g)
    (of : IsOf (kept_at k) (place_of g.entry.slot) g) where
  word : IsDoubleword g.entry.slot
  word = slot_word (place_of g.entry.slot) g.entry.slot of.1 of.0.0

  role : role_at s g.entry.slot ≡ Slot
  role = sym (is.role g.entry.slot word) ∙ of.0.1

  -- a range that an object went with
  not_taken : (events' : Event) → AllowedIn w past s events' → (r : Range) → Contains (taken s events') r → covers g.entry.slot r ≡ true → ⊥
  not_taken (events.Open hart ask answer) may r there on = none_in r there
  not_taken (events.Close hart handle answer) may r there on = none_in r there
  not_taken (events.Unmapped hart set) may r there on =
      let x = is.granted m g low (inl pending) of in
      let at : IsSlotAt s g.entry.slot x.0.owner x.0.slot = x.2.slot in
      let found = found_in (λ i. is_in i g.entry.slot) s.images at.image at.found in
      let range = now.range at.image found.0 in
      let inside = from_filter (goes_with set) s.ranges r there in
      let same : range.range ≡ r = one_cover s.ranges now.apart g.entry.slot range.range r range.there inside.0
      (range_in pages s now at.image found.0 g.entry.slot (fits g.entry.slot word) found.1) on in
      let set_has : Contains set at.image.serial = object_goes set r at.image.serial (ap (λ (q : Range). q.purpose) (sym same) ∙ range.purpose) inside.1 in
      (may.free x.0 at.image.serial x.2.there (x.2.open_yet pending) set_has).0 (sym at.serial)
  not_taken (events.Grant number hart owner slot choice value) may r there on = none_in r there
  not_taken (events.Bound number) may r there on = none_in r there
  not_taken (events.Lost number saw) may r there on = none_in r there
  not_taken (events.Unresolved hart owner slot choice) may r there on = none_in r there
  not_taken (events.Sym hart ask answer) may r there on = none_in r there
  not_taken (events.Tls hart owner address) may r there on = none_in r there
  not_taken (events.Init hart object) may r there on = none_in r there
  not_taken (events.Fini hart object) may r there on = none_in r there
  not_taken (events.Wrote hart bytes) may r there on = none_in r there
  not_taken (events.Told hart fault) may r there on = none_in r there
  not_taken (events.Ended hart reason) may r there on = none_in r there

  pub pending_stays : StandsApart s e g.entry.slot
  pending_stays r either = ⊎_elim
      (λ (came : Contains (reserved s e) r). ⊎_elim
      (λ (on : covers g.entry.slot r ≡ true). absurd (let both : NoRole ≡ Slot = sym (changes.reserved_before r g.entry.slot came on) ∙ role in cc))
      (λ (off : covers g.entry.slot r ≡ false). off)
      (cases_Bool (covers g.entry.slot r)))
      (λ (went : Contains (taken s e) r). ⊎_elim
      (λ (on : covers g.entry.slot r ≡ true). absurd (not_taken e may r went on))
      (λ (off : covers g.entry.slot r ≡ false). off)
      (cases_Bool (covers g.entry.slot r)))
      either

-- ---- slots whose image stays

-- no range that goes has the image of an address that stays
image_stays : (pages : PageLaws) (w : Setting) (past : List Event) (s : State) (now : Mapped s) (e : Event) → AllowedIn w past s e → (a : ℕ) → a < 2 ^ 64 → (i : Linked) → Contains s.images i
    → is_in i a ≡ true → Contains (step s e).images i → (r : Range) → Contains (taken s e) r → covers a r ≡ true → ⊥
unfolding unmap
image_stays pages w past s now (events.Unmapped hart set) may a low i there inside stays r went on =
    let range = now.range i there in
    let from = from_filter (goes_with set) s.ranges r went in
    let same : range.range ≡ r = one_cover s.ranges now.apart a range.range r range.there from.0 (range_in pages s now i there a low inside) on in
    let set_has : Contains set i.serial = object_goes set r i.serial (ap (λ (q : Range). q.purpose) (sym same) ∙ range.purpose) from.1 in
    let not_has : not (has set i.serial) ≡ true = (from_filter (λ (q : Linked). not (has set q.serial)) s.images i stays).1 in
    false≢true (sym (not-true (has set i.serial) not_has) ∙ in_has set i.serial set_has)
image_stays pages w past s now (events.Open hart ask answer) may a low i there inside stays r went on = none_in r went
image_stays pages w past s now (events.Close hart handle answer) may a low i there inside stays r went on = none_in r went
image_stays pages w past s now (events.Grant number hart owner slot choice value) may a low i there inside stays r went on = none_in r went
image_stays pages w past s now (events.Bound number) may a low i there inside stays r went on = none_in r went
image_stays pages w past s now (events.Lost number saw) may a low i there inside stays r went on = none_in r went
image_stays pages w past s now (events.Unresolved hart owner slot choice) may a low i there inside stays r went on = none_in r went
image_stays pages w past s now (events.Sym hart ask answer) may a low i there inside stays r went on = none_in r went
image_stays pages w past s now (events.Tls hart owner address) may a low i there inside stays r went on = none_in r went
image_stays pages w past s now (events.Init hart object) may a low i there inside stays r went on = none_in r went
image_stays pages w past s now (events.Fini hart object) may a low i there inside stays r went on = none_in r went
image_stays pages w past s now (events.Wrote hart bytes) may a low i there inside stays r went on = none_in r went
image_stays pages w past s now (events.Told hart fault) may a low i there inside stays r went on = none_in r went
image_stays pages w past s now (events.Ended hart reason) may a low i there inside stays r went on = none_in r went

-- what lost grants have seen stays
module _ (pages : PageLaws) (w : Setting) (past : List Event) (s : State) (now : Mapped s) (e : Event) (new : Mapped (step s e)) (may : AllowedIn w past s e) (changes : ChangesMemory s e)
    (good : Good (core s)) (images : ImagesBack s e) (k l : KeeperView) (number : ℕ → Grant → ℕ) (is : IsOfState s k number) (count : ℕ) (remade : IsRemade s e count k l)
    (grants : (step s e).grants ≡ s.grants) (seen : LostHaveSeen s k) where
  pub seen_then : LostHaveSeen (step s e) l
  seen_then x saw i there lost inside serial =
      let before : Contains s.grants x = subst (λ (all : List Granting). Contains all x) grants there in
      let was_inside : Contains s.images i = images i inside (subst (λ (n : ℕ). n < s.next) (sym serial) (good.grants_low x before)) in
      let was = seen x saw i before lost was_inside serial in
      let found = found_in (λ q. is_in q was.address) s.images was.at.image was.at.found in
      let same : i ≡ was.at.image = now.one i was.at.image was_inside found.0 (serial ∙ sym was.at.serial) in
      let stays : Contains (step s e).images was.at.image = subst (Contains (step s e).images) same inside in
      let role : role_at s was.address ≡ Slot = sym (is.role was.address was.word) ∙ was.seen.of.0.1 in
      let untouched : StandsApart s e was.address = (λ r either. ⊎_elim
      (λ (came : Contains (reserved s e) r). off was.address r (λ on. (let both : NoRole ≡ Slot = sym (changes.reserved_before r was.address came on) ∙ role in cc)))
      (λ (went : Contains (taken s e) r). off was.address r (λ on. image_stays pages w past s now e may was.address (fits was.address was.word) was.at.image found.0 found.1 stays r went on))
      either) in
      record {
        address = was.address;
        word = was.word;
        at = record {
          image = was.at.image;
          found = image_there pages (step s e) new was.at.image stays was.address (fits was.address was.word) found.1;
          serial = was.at.serial;
          reloc = was.at.reloc;
          at = was.at.at;
          place = was.at.place;
        };
        seen = seen_word k l was.address saw (remade.kept was.address was.word untouched) remade.settled was.seen;
      }
    where
      off : (a : ℕ) (r : Range) → (covers a r ≡ true → ⊥) → covers a r ≡ false
      off a r none = ⊎_elim (λ (on : covers a r ≡ true). absurd (none on)) (λ (out : covers a r ≡ false). out) (cases_Bool (covers a r))

-- ---- an unmapping

-- what lost grants of the objects that go saw was their slots' value
pub unmapping_settles : (w : Setting) (past : List Event) (s : State) (laws : StateLaws s) (k : KeeperView) (number : ℕ → Grant → ℕ) (hart : ℕ) (set : List ℕ) → IsOfState s k number → LostHaveSeen s k
    → AllowedIn w past s (events.Unmapped hart set) → ((r : Range) → Contains (taken s (events.Unmapped hart set)) r → AreDecided k) → AreSettled s set
unmapping_settles w past s laws k number hart set is seen may decided g saw there lost mapped goes =
    let home = laws.images.mapped mapped.namespace mapped.object (record { there = mapped.there; inside = mapped.inside }) in
    let range = laws.mapped.range home.image home.there in
    let inside : has set home.image.serial ≡ true = in_has set home.image.serial (subst (Contains set) (sym (home.serial ∙ mapped.is)) goes) in
    lost_settled s laws k number is
    (decided range.range (in_filter (goes_with set) s.ranges range.range range.there (ap (λ (p : Purpose). purpose_goes set p) range.purpose ∙ inside)))
    seen g saw (λ y granted open_yet. (may.free y g.owner granted open_yet goes).0) there lost mapped

-- ---- what an event that remakes memory leaves

record Remaking (s : State) (e : Event) : Type 0 where
  grants : (step s e).grants ≡ s.grants
  granting : is_granting e ≡ false
  settling : is_settling e ≡ false

remaking : (s : State) (e : Event) → remakes_memory e ≡ true → Remaking s e
unfolding loaded unmap
remaking s (events.Open hart ask (opens.Done id root added ranges)) is = record { grants = refl; granting = refl; settling = refl }
remaking s (events.Open hart ask opens.Absent) is = absurd (false≢true is)
remaking s (events.Open hart ask (opens.Refused fault)) is = absurd (false≢true is)
remaking s (events.Close hart handle answer) is = absurd (false≢true is)
remaking s (events.Unmapped hart set) is = record { grants = refl; granting = refl; settling = refl }
remaking s (events.Grant number hart owner slot choice value) is = absurd (false≢true is)
remaking s (events.Bound number) is = absurd (false≢true is)
remaking s (events.Lost number saw) is = absurd (false≢true is)
remaking s (events.Unresolved hart owner slot choice) is = absurd (false≢true is)
remaking s (events.Sym hart ask answer) is = absurd (false≢true is)
remaking s (events.Tls hart owner address) is = record { grants = refl; granting = refl; settling = refl }
remaking s (events.Init hart object) is = absurd (false≢true is)
remaking s (events.Fini hart object) is = absurd (false≢true is)
remaking s (events.Wrote hart bytes) is = absurd (false≢true is)
remaking s (events.Told hart fault) is = absurd (false≢true is)
remaking s (events.Ended hart reason) is = absurd (false≢true is)

-- the state stays, and the view alone gets an entry and an event
module _ (w : Setting) (begun : List Event) (k l : KeeperView) (kept : AreKept w begun k) (h : ℕ) (own_low : h < w.machine.harts) (e : Event) (own : hart_of e ≡ Some h)
    (remakes : remakes_memory e ≡ true) (may : Allowed w k.events e) (view : IsRemadeView (after k.events) e k l) (changes : ChangesMemory (after k.events) e)
    (stays : (m : ℕ) (g : Grant) → m < harts_at_most → (row_of k m).pending ≡ Some g → StandsApart (after k.events) e g.entry.slot)
    (of_state : IsOfState (step (after k.events) e) l (number_in k.events)) (seen : LostHaveSeen (step (after k.events) e) l)
    (goes : (hart : ℕ) (set : List ℕ) → e ≡ events.Unmapped hart set → AreSettled (after k.events) set) (entry : Entry) (entry_is : entry ≡ entry_behind k.events e) where
  low : h < harts_at_most
  low = let few : w.machine.harts ≤ harts_at_most = kept.few in omega (arith, few, own_low)

  is : Remaking (after k.events) e
  is = remaking (after k.events) e remakes

  events_is : l.events ≡ k.events
  events_is = ap (λ (v : KeeperView). v.events) view.only

  row_is : (m : ℕ) → row_of l m ≡ row_of k m
  row_is m = ap (λ (v : KeeperView). row_of v m) view.only

  -- as if the journal were the old one
  abbrev mid : KeeperView
  mid = record k { words = l.words; shown = l.shown; retired = l.retired; generation = (step (after k.events) e).generation }

  same : SameGrants mid (handed_over h entry (counted e mid))
  same = record { words = λ d. refl; pending = handed_pending (counted e mid) h entry long low; settled = handed_settled (counted e mid) h entry long low }
    where
      long : IsLong mid
      long = (view.long.0, kept.long.1)

  -- ---- a slot that is there then came with the event, or was there

  was_there : (d : ℕ) → IsSlot (kept_at l) d → ((kept_at l d).since ≡ length k.events) ⊎ (kept_at l d ≡ kept_at k d)
  was_there d slot =
      let a : ℕ = address_of d in
      let word : IsDoubleword (address_of d) = slot_word d (address_of d) refl slot.0 in
      let place : place_of (address_of d) ≡ d = place_back d (address_of d) refl in
      by (address_of d) word place (in_one (reserved (after k.events) e) (address_of d)) (in_one (taken (after k.events) e) (address_of d))
    where
      by : (a : ℕ) → IsDoubleword a → place_of a ≡ d
          → InOne (reserved (after k.events) e) a ⊎ ((r : Range) → Contains (reserved (after k.events) e) r → covers a r ≡ false)
          → InOne (taken (after k.events) e) a ⊎ ((r : Range) → Contains (taken (after k.events) e) r → covers a r ≡ false)
          → ((kept_at l d).since ≡ length k.events) ⊎ (kept_at l d ≡ kept_at k d)
      by a word place (inl came) other =
          let given = view.remade.given came.0 a word came.1 came.2 in
          let some : role_at (step (after k.events) e) a ≢ NoRole = λ none. (let both : NoRole ≡ Slot = sym none ∙ sym given.role ∙ ap (λ (c : ℕ). (kept_at l c).role) place ∙ slot.1 in cc) in
          inl (ap (λ (c : ℕ). (kept_at l c).since) (sym place) ∙ given.since some)
      by a word place (inr none) (inl went) =
          absurd (let both : NoRole ≡ Slot = sym (view.remade.gone went.0 a word went.1 went.2) ∙ ap (λ (c : ℕ). (kept_at l c).role) place ∙ slot.1 in cc)
      by a word place (inr none) (inr still) =
          inr (ap (kept_at l) (sym place) ∙ view.remade.kept a word (λ r either. ⊎_elim (λ (x : Contains (reserved (after k.events) e) r). none r x) (λ (x : Contains (taken (after k.events) e) r). still r x) either)
          ∙ ap (kept_at k) place)

  longer : length (k.events ++ e ∷ []) ≡ length k.events + 1
  longer = length-append k.events (e ∷ [])

  -- a grant isn't of a slot that came with the event
  was_of : (m : ℕ) (g : Grant) → m < harts_at_most → IsGrant (row_of k m) g → IsOf (kept_at l) (place_of g.entry.slot) g → kept_at l (place_of g.entry.slot) ≡ kept_at k (place_of g.entry.slot)
  was_of m g few granted of = ⊎_elim
      (λ (new : (kept_at l (place_of g.entry.slot)).since ≡ length k.events).
      let before : g.entry.number ≤ length k.events = kept.rows.counted m g few granted in
      let newer : (kept_at l (place_of g.entry.slot)).since < g.entry.number = of.2 in
      absurd (omega (arith, new, before, newer)))
      (λ (old : kept_at l (place_of g.entry.slot) ≡ kept_at k (place_of g.entry.slot)). old)
      (was_there (place_of g.entry.slot) of.0)

  rows : AreRows (handed_over h entry (counted e mid))
  rows = record {
    fates = fates_on k (handed_over h entry (counted e mid)) (e ∷ []) refl (settles_none e is.settling) same.pending same.settled refl kept.rows.fates;
    since = λ d slot. ⊎_elim
        (λ (new : (kept_at l d).since ≡ length k.events). let all : length (k.events ++ e ∷ []) ≡ length k.events + 1 = longer in omega (arith, new, all))
        (λ (old : kept_at l d ≡ kept_at k d).
        let before : (kept_at k d).since ≤ length k.events = kept.rows.since d (subst (λ (y : Kept). IsSlot (λ _. y) d) old slot) in
        let since : (kept_at l d).since ≡ (kept_at k d).since = ap (λ (y : Kept). y.since) old in
        let all : length (k.events ++ e ∷ []) ≡ length k.events + 1 = longer in
        omega (arith, before, since, all))
        (was_there d slot);
    pending = λ m g few waits.
        let before : (row_of k m).pending ≡ Some g = sym (same.pending m) ∙ waits in
        let of : IsOf (kept_at k) (place_of g.entry.slot) g = kept.rows.pending m g few before in
        let word : IsDoubleword g.entry.slot = slot_word (place_of g.entry.slot) g.entry.slot of.1 of.0.0 in
        subst (λ (y : Kept). IsOf (λ _. y) (place_of g.entry.slot) g) (sym (view.remade.kept g.entry.slot word (stays m g few before))) of;
    counted = λ m g few granted.
        let before : g.entry.number ≤ length k.events = kept.rows.counted m g few (was_granted m g granted) in
        let all : length (k.events ++ e ∷ []) ≡ length k.events + 1 = longer in
        omega (arith, before, all);
    lost = λ m g few is_lost of.
        let was : IsLost (row_of k m) g = subst (λ (all : List Settled). Contains all (record { grant = g; fate = FateLost })) (same.settled m) is_lost in
        let word : kept_at l (place_of g.entry.slot) ≡ kept_at k (place_of g.entry.slot) = was_of m g few (inr (FateLost, was)) of in
        let x = kept.rows.lost m g few was (subst (λ (y : Kept). IsOf (λ _. y) (place_of g.entry.slot) g) word of) in
        let number : number_in (k.events ++ e ∷ []) m g ≡ number_in k.events m g =
        counted_number k.events (e ∷ []) m g (some_in k.events (events.Lost (number_in k.events m g) x.0) x.2) (kept.rows.counted m g few (inr (FateLost, was))) in (
          x.0,
          ap (λ (y : Kept). y.fixed) word ∙ x.1,
          subst (λ (n : ℕ). Contains (k.events ++ e ∷ []) (events.Lost n x.0)) (sym number)
              (Contains-append_left k.events (e ∷ []) (events.Lost (number_in k.events m g) x.0) x.2),
        );
  }
    where
      was_granted : (m : ℕ) (g : Grant) → IsGrant (row_of (handed_over h entry (counted e mid)) m) g → IsGrant (row_of k m) g
      was_granted m g (inl waits) = inl (sym (same.pending m) ∙ waits)
      was_granted m g (inr done) = inr (done.0, subst (λ (all : List Settled). Contains all (record { grant = g; fate = done.0 })) (same.settled m) done.1)

  of_mid : IsOfState (step (after k.events) e) mid (number_in k.events)
  of_mid = subst (λ (v : KeeperView). IsOfState (step (after k.events) e) v (number_in k.events)) view.only of_state

  -- each role that the event takes away went
  all_went : AllGo (role_at (after k.events)) (taken (after k.events) e) view.goes.more
  all_went a covered some =
      let role : (kept_at k (place_of a)).role ≡ role_at (after k.events) a = kept.words.role a covered.word in
      subst (RoleWent view.goes.more (place_of a)) role (view.goes.all a covered (λ none. some (sym role ∙ none)))

  only_went : OnlyGo (role_at (after k.events)) view.goes.more
  only_went = record {
    some = view.goes.only.some;
    had = λ x a there word place. view.goes.only.had x a there word place ∙ kept.words.role a word;
    once = view.goes.only.once;
  }

  -- and what could be run was the image's word
  words_went : HadWords (first_word_at (after k.events)) view.goes.more
  words_went x a there rx word place =
      let role : role_at (after k.events) a ≡ Rx = sym (only_went.had x a there word place) ∙ rx in
      view.goes.words x a there rx word place ∙ kept.words.word a word (inr (inl role))

  kept_mid : AreKept w begun (handed_over h entry (counted e mid))
  kept_mid = record {
    few = kept.few;
    harts = kept.harts;
    long = handed_long (counted e mid) h entry (view.long.0, kept.long.1) low;
    legal = legal_push w k.events e kept.legal may;
    started = startup_is_past k.events (e ∷ []) kept.started;
    begins = (kept.begins.0 ++ e ∷ [], ap (λ (es : List Event). es ++ e ∷ []) kept.begins.1 ∙ append_assoc begun kept.begins.0 (e ∷ []));
    own = own_push w k.events e h kept.own own own_low;
    words = subst (λ (t : State). IsOfState t (handed_over h entry (counted e mid)) (number_in (k.events ++ e ∷ []))) (sym (after_push k.events e))
        (states_stay (step (after k.events) e) (step (after k.events) e) mid (handed_over h entry (counted e mid)) (number_in k.events) (number_in (k.events ++ e ∷ []))
        (record { role = λ a word. refl; word = λ a word roles. refl; images = refl; grants = refl }) same
        (λ m g few stands. later_number k.events (e ∷ []) m g (kept.granted m g few stands)) of_mid);
    generation = ap (λ (t : State). t.generation) (sym (after_push k.events e));
    granted = λ m g few stands. later_event k.events (e ∷ []) m g (kept.granted m g few (stands_back mid (handed_over h entry (counted e mid)) same m g stands));
    rows = rows;
    seen = subst (λ (t : State). LostHaveSeen t (handed_over h entry (counted e mid))) (sym (after_push k.events e))
        (seen_on (step (after k.events) e) (step (after k.events) e) mid (handed_over h entry (counted e mid)) refl refl (λ d. refl) same.settled
        (subst (LostHaveSeen (step (after k.events) e)) view.only seen));
    settled = settled_push k.events e goes kept.settled;
    issued = λ m x few there. ⊎_elim
        (λ (old : Contains (row_of k m).issued x). issued_stays w k.events (e ∷ []) m x (kept.issued m x few old))
        (λ (new : (m ≡ h) × (entry ≡ x)).
        subst (λ (i : ℕ). IsIssued w (k.events ++ e ∷ []) i x) (sym new.0)
        (IsIssued.of_event k.events [] e refl own is.granting (sym new.1 ∙ entry_is)))
        (handed_issued (counted e mid) h entry (view.long.0, kept.long.1) low m x there);
    handed = handed_stays begun mid h e entry (view.long.0, kept.long.1) low (begun_short w begun k kept) own (ap (λ (x : Entry). x.mark) entry_is) (ap (λ (x : Entry). x.number) entry_is) kept.handed;
    gone = subst (HaveGone (k.events ++ e ∷ [])) (sym view.goes.are) (HaveGone.by_event k.events e k.retired view.goes.more kept.gone (record { in_order = view.goes.in_order; all = all_went; only = only_went; words = words_went }));
  }

  pub remade_kept : AreKept w begun (handed_over h entry (counted e l))
  remade_kept = subst (λ (v : KeeperView). AreKept w begun (handed_over h entry (counted e v))) (sym view.only) kept_mid

pub grants_same : (s : State) (e : Event) → remakes_memory e ≡ true → (step s e).grants ≡ s.grants
grants_same s e remakes = (remaking s e remakes).grants

pub stands_granted : (r : Row) (g : Grant) → Stands r g → IsGrant r g
stands_granted r g (inl waits) = inl waits
stands_granted r g (inr done) = inr (Won, done)
