-- An event that remakes memory: the view is that of the state after it.
use Rattle.std.proofs.Common.{◌≡◌, ◌≢◌, ◌⊎◌, inl, inr, ⊎_elim, ℕ, ◌^◌, ◌<◌, ◌≤◌, Bool, true, false, List, [], ◌∷◌, Option, Some, refl, sym, ap, subst, ◌∙◌, arith}
use Rattle.std.specs.List.{Contains}
use Rattle.std.specs.Option.{option_map_or}
use Rattle.ld_base.specs.declared.linking.Role.{Role}
use Rattle.ld_base.specs.declared.linking.Role.TheVariants.{None as NoRole, Ro, Rx, Rw, Slot}
use Rattle.history_event.specs.declared.event.Event.{Event}
use Rattle.history_event.specs.declared.event.Range.{Range}
use Rattle.history_event.specs.declared.state.Granting.{Granting}
use Rattle.history_event.specs.declared.state.Standing.TheVariants.{Bound, Open}
use Rattle.relocator.specs.Relocated.{moved_word}
use Rattle.seg_image.specs.Pages.{own_address}
use Rattle.word_rule.specs.declared.entry.Grant.{Grant}
use Rattle.word_rule.specs.declared.view.Fate.TheVariants.{Won}
use Rattle.word_rule.specs.declared.view.KeeperView.{KeeperView}
use Rattle.word_rule.specs.declared.view.Kept.{Kept}
use Rattle.word_rule.specs.declared.view.Settled.{Settled}
use Rattle.word_rule.specs.Allowed.{IsOf, Stands}
use Rattle.word_rule.specs.Layout.{address_of, harts_at_most, place_of}
use Rattle.word_rule.specs.Views.{kept_at, row_of}
use Rattle.history_state.specs.State.{Linked, State}
use Rattle.history_state.specs.Changes.{ChangesMemory, StandsApart, reserved, taken}
use Rattle.history_state.specs.Laws.{SlotsBegin}
use Rattle.history_state.specs.Memory.{covers, image_at, is_in, role_at, first_word_at}
use Rattle.history_state.specs.Step.{step}
use Rattle.history_state.specs.Lemmas.Good.{Good, core}
use Rattle.history_state.specs.Lemmas.Lazy.{PageLaws}
use Rattle.history_state.specs.Lemmas.Lists.{first_or_later, found_in, here, later, none_in}
use Rattle.history_state.specs.Lemmas.Map.{Mapped, image_there}
use Rattle.history_memory.specs.Holds.{IsSlotAt, lazy_at}
use Rattle.history_memory.specs.Memory.{IsDoubleword}
use Rattle.history_memory.specs.Lemmas.Exchanged.{fits}
use Rattle.history_memory.specs.Lemmas.Images.{ImagesBack, images_forth, no_data}
use Rattle.history_memory.specs.Lemmas.Slots.{role_is, slot_there}
use Rattle.word_holds.specs.Shared.{IsGrantOf, IsOfState}
use Rattle.kept_words.specs.Remade.{IsRemade}
use Rattle.kept_words.proofs.Settling.{slot_word}

-- one of these ranges has the address, or none has
abbrev pub InOne : List Range → ℕ → Type 0
InOne rs a = (r : Range) × Contains rs r × (covers a r ≡ true)

pub in_one : (rs : List Range) (a : ℕ) → InOne rs a ⊎ ((r : Range) → Contains rs r → covers a r ≡ false)
in_one [] a = inr (λ r there. absurd (none_in r there))
in_one (x ∷ rest) a = by (covers a x) refl (in_one rest a)
  where
    by : (t : Bool) → covers a x ≡ t → InOne rest a ⊎ ((r : Range) → Contains rest r → covers a r ≡ false)
        → InOne (x ∷ rest) a ⊎ ((r : Range) → Contains (x ∷ rest) r → covers a r ≡ false)
    by true e others = inl (x, here x rest, e)
    by false e (inl some) = inl (some.0, later x rest some.0 some.1, some.2)
    by false e (inr none) = inr (λ r there. ⊎_elim
        (λ (is : x ≡ r). subst (λ (q : Range). covers a q ≡ false) is e)
        (λ (h : Contains rest r). none r h)
        (first_or_later x rest r there))

-- a doubleword is that of its place
pub place_slot : (n a : ℕ) → n ≡ address_of (place_of a) → IsDoubleword a → n ≡ a
unfolding place_of
place_slot n a at is = let low = is.low in let whole = is.whole in omega (arith, at, low, whole)

module _ (pages : PageLaws) (s : State) (e : Event) (now : Mapped s) (new : Mapped (step s e)) (changes : ChangesMemory s e) (good : Good (core s)) (begins : SlotsBegin s) (begins_new : SlotsBegin (step s e)) (images : ImagesBack s e)
    (grants : (step s e).grants ≡ s.grants) (k l : KeeperView) (number : ℕ → Grant → ℕ) (count : ℕ) (is : IsOfState s k number) (remade : IsRemade s e count k l)
    (early : (m : ℕ) (g : Grant) → m < harts_at_most → Stands (row_of k m) g → g.entry.number ≤ count) where
  abbrev t : State
  t = step s e

  at_forth : (a : ℕ) → a < 2 ^ 64 → StandsApart s e a → (i : Linked) → image_at s a ≡ Some i → image_at (step s e) a ≡ Some i
  at_forth a word untouched i is =
      let found = found_in (λ q. is_in q a) s.images i is in
      image_there pages (step s e) new i (images_forth pages s now e i a found.0 word found.1 untouched) a word found.1

  slot_forth : (a : ℕ) → a < 2 ^ 64 → StandsApart s e a → (owner slot : ℕ) → IsSlotAt s a owner slot → IsSlotAt (step s e) a owner slot
  slot_forth a word untouched owner slot is =
      record { image = is.image; found = at_forth a word untouched is.image is.found; serial = is.serial; reloc = is.reloc; at = is.at; place = is.place }

  slot_back : (a : ℕ) → a < 2 ^ 64 → (owner slot : ℕ) → owner < s.next → IsSlotAt (step s e) a owner slot → IsSlotAt s a owner slot
  slot_back a word owner slot low is =
      let found = found_in (λ q. is_in q a) (step s e).images is.image is.found in
      let was : Contains s.images is.image = images is.image found.0 (subst (λ (n : ℕ). n < s.next) (sym is.serial) low) in
      record { image = is.image; found = image_there pages s now is.image was a word found.1; serial = is.serial; reloc = is.reloc; at = is.at; place = is.place }

  lazy_same : (a : ℕ) → a < 2 ^ 64 → StandsApart s e a → role_at s a ≡ Slot → lazy_at (step s e) a ≡ lazy_at s a
  lazy_same a word untouched role =
      let slot = slot_there s a role in
      ap (λ (found : Option Linked). option_map_or (λ i. moved_word i.object i.base (own_address i.base a)) found 0) (at_forth a word untouched slot.2.image slot.2.found ∙ sym slot.2.found)

  -- each address came, went or stayed
  pub data Was (a : ℕ) : Type 0 where
    came : (r : Range) → Contains (reserved s e) r → covers a r ≡ true → Was a
    went : (r : Range) → Contains (taken s e) r → covers a r ≡ true → Was a
    stayed : StandsApart s e a → Was a

  was : (a : ℕ) → Was a
  was a = by (in_one (reserved s e) a) (in_one (taken s e) a)
    where
      by : InOne (reserved s e) a ⊎ ((r : Range) → Contains (reserved s e) r → covers a r ≡ false) → InOne (taken s e) a ⊎ ((r : Range) → Contains (taken s e) r → covers a r ≡ false) → Was a
      by (inl x) other = Was.came x.0 x.1 x.2
      by (inr none) (inl x) = Was.went x.0 x.1 x.2
      by (inr none) (inr stays) = Was.stayed (λ r either. ⊎_elim (λ (h : Contains (reserved s e) r). none r h) (λ (h : Contains (taken s e) r). stays r h) either)

  role_by : (a : ℕ) → IsDoubleword a → Was a → (kept_at l (place_of a)).role ≡ role_at (step s e) a
  role_by a is_word (Was.came r there on) = (remade.given r a is_word there on).role
  role_by a is_word (Was.went r there on) = remade.gone r a is_word there on ∙ sym (changes.taken_after r a there on)
  role_by a is_word (Was.stayed untouched) = ap (λ (x : Kept). x.role) (remade.kept a is_word untouched) ∙ is.role a is_word ∙ sym (changes.role a (fits a is_word) untouched)

  word_by : (a : ℕ) → IsDoubleword a → Was a → (role_at (step s e) a ≡ Ro) ⊎ (role_at (step s e) a ≡ Rx) ⊎ (role_at (step s e) a ≡ Slot) → (kept_at l (place_of a)).value ≡ first_word_at (step s e) a
  word_by a is_word (Was.came r there on) roles = (remade.given r a is_word there on).word (some_role roles)
    where
      some_role : (role_at (step s e) a ≡ Ro) ⊎ (role_at (step s e) a ≡ Rx) ⊎ (role_at (step s e) a ≡ Slot) → role_at (step s e) a ≢ NoRole
      some_role (inl x) none = let no : NoRole ≡ Ro = sym none ∙ x in cc
      some_role (inr (inl x)) none = let no : NoRole ≡ Rx = sym none ∙ x in cc
      some_role (inr (inr x)) none = let no : NoRole ≡ Slot = sym none ∙ x in cc
  word_by a is_word (Was.went r there on) roles = absurd (no_role (changes.taken_after r a there on) roles)
    where
      no_role : role_at (step s e) a ≡ NoRole → (role_at (step s e) a ≡ Ro) ⊎ (role_at (step s e) a ≡ Rx) ⊎ (role_at (step s e) a ≡ Slot) → ⊥
      no_role none (inl x) = let no : NoRole ≡ Ro = sym none ∙ x in cc
      no_role none (inr (inl x)) = let no : NoRole ≡ Rx = sym none ∙ x in cc
      no_role none (inr (inr x)) = let no : NoRole ≡ Slot = sym none ∙ x in cc
  word_by a is_word (Was.stayed untouched) roles =
      let role : role_at (step s e) a ≡ role_at s a = changes.role a (fits a is_word) untouched in
      let before : (role_at s a ≡ Ro) ⊎ (role_at s a ≡ Rx) ⊎ (role_at s a ≡ Slot) = subst (λ (r : Role). (r ≡ Ro) ⊎ (r ≡ Rx) ⊎ (r ≡ Slot)) role roles in
      ap (λ (x : Kept). x.value) (remade.kept a is_word untouched) ∙ is.word a is_word before ∙ sym (changes.word a (fits a is_word) untouched (no_data pages s now a (fits a is_word) (not_data before)))
    where
      not_data : (role_at s a ≡ Ro) ⊎ (role_at s a ≡ Rx) ⊎ (role_at s a ≡ Slot) → role_at s a ≢ Rw
      not_data (inl x) rw = let no : Ro ≡ Rw = sym x ∙ rw in cc
      not_data (inr (inl x)) rw = let no : Rx ≡ Rw = sym x ∙ rw in cc
      not_data (inr (inr x)) rw = let no : Slot ≡ Rw = sym x ∙ rw in cc

  lazy_by : (a : ℕ) → IsDoubleword a → Was a → role_at (step s e) a ≡ Slot → (kept_at l (place_of a)).lazy ≡ lazy_at (step s e) a
  lazy_by a is_word (Was.came r there on) slot = (remade.given r a is_word there on).lazy slot
  lazy_by a is_word (Was.went r there on) slot = absurd (let no : NoRole ≡ Slot = sym (changes.taken_after r a there on) ∙ slot in cc)
  lazy_by a is_word (Was.stayed untouched) slot =
      let role : role_at s a ≡ Slot = sym (changes.role a (fits a is_word) untouched) ∙ slot in
      ap (λ (x : Kept). x.lazy) (remade.kept a is_word untouched) ∙ is.lazy a is_word role ∙ sym (lazy_same a (fits a is_word) untouched role)

  stood : (m : ℕ) (g : Grant) → Stands (row_of l m) g → Stands (row_of k m) g
  stood m g st = ⊎_elim (λ (x : (row_of l m).pending ≡ Some g). inl (sym (remade.pending m) ∙ x))
      (λ (x : Contains (row_of l m).settled (record { grant = g; fate = Won })). inr (subst (λ (all : List Settled). Contains all (record { grant = g; fate = Won })) (remade.settled m) x)) st

  stands_on : (m : ℕ) (g : Grant) → Stands (row_of k m) g → Stands (row_of l m) g
  stands_on m g st = ⊎_elim (λ (x : (row_of k m).pending ≡ Some g). inl (remade.pending m ∙ x))
      (λ (x : Contains (row_of k m).settled (record { grant = g; fate = Won })). inr (subst (λ (all : List Settled). Contains all (record { grant = g; fate = Won })) (sym (remade.settled m)) x)) st

  grant_on : (m : ℕ) (g : Grant) (x : Granting) → IsDoubleword g.entry.slot → StandsApart s e g.entry.slot → IsGrantOf s k m g x → IsGrantOf (step s e) l m g x
  grant_on m g x is_word untouched y = record {
    there = subst (λ (all : List Granting). Contains all x) (sym grants) y.there;
    value = y.value;
    slot = slot_forth g.entry.slot (fits g.entry.slot is_word) untouched x.owner x.slot y.slot;
    open_yet = λ p. y.open_yet (sym (remade.pending m) ∙ p);
    bound = λ p. y.bound (subst (λ (all : List Settled). Contains all (record { grant = g; fate = Won })) (remade.settled m) p);
  }

  granted_by : (m : ℕ) (g : Grant) → m < harts_at_most → Stands (row_of l m) g → (at : IsOf (kept_at l) (place_of g.entry.slot) g) → Was g.entry.slot → (x : Granting) × (x.number ≡ number m g) × IsGrantOf (step s e) l m g x
  granted_by m g low st at (Was.came r there on) =
      let is_word : IsDoubleword g.entry.slot = slot_word (place_of g.entry.slot) g.entry.slot at.1 at.0.0 in
      let given = remade.given r g.entry.slot is_word there on in
      let some : role_at (step s e) g.entry.slot ≢ NoRole = λ none. (let no : NoRole ≡ Slot = sym none ∙ sym given.role ∙ at.0.1 in cc) in
      let since : (kept_at l (place_of g.entry.slot)).since ≡ count = given.since some in
      let before : g.entry.number ≤ count = early m g low (stood m g st) in
      let newer : (kept_at l (place_of g.entry.slot)).since < g.entry.number = at.2 in
      absurd (omega (arith, since, before, newer))
  granted_by m g low st at (Was.went r there on) =
      absurd (let no : NoRole ≡ Slot = sym (remade.gone r g.entry.slot (slot_word (place_of g.entry.slot) g.entry.slot at.1 at.0.0) there on) ∙ at.0.1 in cc)
  granted_by m g low st at (Was.stayed untouched) =
      let is_word : IsDoubleword g.entry.slot = slot_word (place_of g.entry.slot) g.entry.slot at.1 at.0.0 in
      let x = is.granted m g low (stood m g st) (subst (λ (y : Kept). IsOf (λ _. y) (place_of g.entry.slot) g) (remade.kept g.entry.slot is_word untouched) at) in
      (x.0, x.1, grant_on m g x.0 is_word untouched x.2)

  stands_by : (a : ℕ) (x : Granting) → IsDoubleword a → Contains s.grants x → (x.standing ≡ Bound) ⊎ (x.standing ≡ Open) → IsSlotAt (step s e) a x.owner x.slot → Was a
      → (m : ℕ) × (g : Grant) × (m < harts_at_most) × Stands (row_of l m) g × IsOf (kept_at l) (place_of a) g × (number m g ≡ x.number) × IsGrantOf (step s e) l m g x
  stands_by a x is_word there standing at (Was.came r inside on) =
      let slot : role_at s a ≡ Slot = role_is s now begins a (fits a is_word) x.owner x.slot (slot_back a (fits a is_word) x.owner x.slot (good.grants_low x there) at) in
      absurd (let no : NoRole ≡ Slot = sym (changes.reserved_before r a inside on) ∙ slot in cc)
  stands_by a x is_word there standing at (Was.went r inside on) =
      absurd (let no : NoRole ≡ Slot = sym (changes.taken_after r a inside on) ∙ role_is (step s e) new begins_new a (fits a is_word) x.owner x.slot at in cc)
  stands_by a x is_word there standing at (Was.stayed untouched) =
      let y = is.stands a x is_word there standing (slot_back a (fits a is_word) x.owner x.slot (good.grants_low x there) at) in
      let same : y.1.entry.slot ≡ a = place_slot y.1.entry.slot a y.4.1 is_word in (
        y.0,
        y.1,
        y.2,
        stands_on y.0 y.1 y.3,
        subst (λ (z : Kept). IsOf (λ _. z) (place_of a) y.1) (sym (remade.kept a is_word untouched)) y.4,
        y.5,
        grant_on y.0 y.1 x (subst IsDoubleword (sym same) is_word) (subst (StandsApart s e) (sym same) untouched) y.6,
      )

  pub remade_stays : IsOfState (step s e) l number
  remade_stays = record {
    role = λ a is_word. role_by a is_word (was a);
    word = λ a is_word roles. word_by a is_word (was a) roles;
    lazy = λ a is_word slot. lazy_by a is_word (was a) slot;
    granted = λ m g low st at. granted_by m g low st at (was g.entry.slot);
    stands = λ a x is_word there standing at. stands_by a x is_word (subst (λ (all : List Granting). Contains all x) grants there) standing at (was a);
    one = λ m n g p low_m low_n st_g st_p same. is.one m n g p low_m low_n (stood m g st_g) (stood n p st_p) same;
  }
