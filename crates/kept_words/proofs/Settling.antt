-- How a grant may be settled, by what the keeper found.
use Rattle.std.proofs.Common.{◌≡◌, ◌≢◌, ◌⊎◌, ⊎_elim, inl, inr, ℕ, ◌%◌, ◌^◌, ◌≤◌, ◌<◌, eqb, [], ◌∷◌, ◌++◌, Option, Some, None, length, refl, sym, ap, subst, ◌∙◌, arith, lt_of_not-le}
use mathlib.Core.Logic.{dite}
use native.Mathlib.Decide.{ℕ_discrete, dec_le}
use Rattle.std.specs.List.{Contains, slice_get}
use Rattle.std.proofs.lemmas.Bool.{and_from, and_parts, eq-eqb, eqb-true}
use Rattle.std.proofs.lemmas.List.{get_or_past}
use Rattle.std.proofs.lemmas.List.Elements.{Contains-append_cases, Contains-append_right}
use Rattle.ld_base.specs.declared.linking.Role.TheVariants.{Slot}
use Rattle.history_event.specs.declared.state.Granting.{Granting}
use Rattle.history_event.specs.declared.state.Standing.TheVariants.{Bound, Lost, Open}
use Rattle.seg_image.specs.Pages.{own_address}
use Rattle.word_rule.specs.declared.entry.Grant.{Grant}
use Rattle.word_rule.specs.declared.view.Fate.TheVariants.{Won as FateWon, Lost as FateLost}
use Rattle.word_rule.specs.declared.view.KeeperView.{KeeperView}
use Rattle.word_rule.specs.declared.view.Row.{Row}
use Rattle.word_rule.specs.declared.view.Settled.{Settled}
use Rattle.word_rule.specs.Allowed.{IsLost, IsOf, IsWon, Stands}
use Rattle.word_rule.specs.KeeperSteps.{TellsAsk, TellsSlot, settled_as}
use Rattle.word_rule.specs.Layout.{address_of, doublewords, harts_at_most, place_of}
use Rattle.word_rule.specs.Lemmas.Heeding.{row_else, row_here}
use Rattle.word_rule.specs.Views.{IsLong, kept_at, no_row, row_of}
use Rattle.history_state.specs.State.{Linked, State}
use Rattle.history_state.specs.Laws.{ImagesAreMapped, NoneIsLazy, SlotsBegin}
use Rattle.history_state.specs.Memory.{role_at, first_word_at}
use Rattle.history_state.specs.Slots.{HasBound, IsOthers, MayBind, MayLose, value_at_load}
use Rattle.history_state.specs.Lemmas.Lists.{here, none_in, only_in}
use Rattle.history_state.specs.Lemmas.Map.{Mapped}
use Rattle.history_state.specs.Lemmas.Tidy.{Tidy, one_number}
use Rattle.history_memory.specs.Holds.{IsSlotAt, lazy_at}
use Rattle.history_memory.specs.Memory.{IsDoubleword}
use Rattle.history_memory.specs.Lemmas.Distinct.{one_slot}
use Rattle.history_memory.specs.Lemmas.Exchanged.{fits}
use Rattle.history_memory.specs.Lemmas.Settled.{LoadFits, first_bound, first_lazy}
use Rattle.history_memory.specs.Lemmas.Slots.{image_in, loaded_at, one_image_at}
use Rattle.word_holds.specs.Shared.{IsGrantOf, IsOfState}
use Rattle.kept_words.specs.Settling.{lost_in}

pub record StateLaws (s : State) : Type 0 where
  pub mapped : Mapped s
  pub begins : SlotsBegin s
  pub images : ImagesAreMapped s
  pub lazy : NoneIsLazy s
  pub tidy : Tidy s.grants
  pub fits : (owner slot : ℕ) → LoadFits s owner slot

-- ---- addresses

pub slot_word : (known_place n : ℕ) → n ≡ address_of known_place → known_place < doublewords → IsDoubleword n
unfolding doublewords
slot_word d n at low = record { low = omega (arith, at, low); high = omega (arith, at, low); whole = omega (arith, at, low) }

pub place_back : (d n : ℕ) → n ≡ address_of d → place_of n ≡ d
unfolding place_of
place_back d n at = omega (arith, at)

-- ---- one slot

module _ (s : State) (laws : StateLaws s) (a owner slot : ℕ) (place : IsDoubleword a) (of : IsSlotAt s a owner slot) where
  low : a < 2 ^ 64
  low = fits a place

  -- a slot whose first word is the lazy one got no value at load
  unbound : first_word_at s a ≡ lazy_at s a → (value : Option ℕ) → value_at_load s owner slot ≡ value → value_at_load s owner slot ≡ None
  unbound is None got = got
  unbound is (Some value) got =
      let at = loaded_at s laws.mapped laws.begins laws.images a low owner slot of in
      let same : value ≡ lazy_at s a = sym (first_bound s laws.mapped laws.begins a low owner slot (laws.fits owner slot) of value got) ∙ is in
      absurd (laws.lazy.at_load at.namespace at.object slot value at.reloc at.inside (subst (λ (n : ℕ). value_at_load s n slot ≡ Some value) (sym at.serial) got) at.at (same ∙ at.lazy))

  -- one whose first word isn't, got that word
  pub loaded : first_word_at s a ≢ lazy_at s a → (value : Option ℕ) → value_at_load s owner slot ≡ value → value_at_load s owner slot ≡ Some (first_word_at s a)
  loaded other None got = absurd (other (first_lazy s laws.mapped laws.begins a low owner slot of got))
  loaded other (Some value) got = got ∙ ap (λ (v : ℕ). Some v) (sym (first_bound s laws.mapped laws.begins a low owner slot (laws.fits owner slot) of value got))

  -- two grants of one address are of one slot
  pub same_slot : (other index : ℕ) → IsSlotAt s a other index → (other ≡ owner) × (index ≡ slot)
  same_slot other index at =
      let image : at.image ≡ of.image = one_image_at s a other index owner slot at of in
      let got : slice_get of.image.object.plt_relocs index ≡ Some at.reloc = subst (λ (i : Linked). slice_get i.object.plt_relocs index ≡ Some at.reloc) image at.at in
      let places : at.reloc.place ≡ of.reloc.place = sym at.place ∙ ap (λ (i : Linked). own_address i.base a) image ∙ of.place in (
        sym at.serial ∙ ap (λ (i : Linked). i.serial) image ∙ of.serial,
        one_slot of.image.object (laws.mapped.accepted of.image (image_in s laws.mapped laws.begins a low owner slot of)).image index slot at.reloc of.reloc got of.at places,
      )

-- ---- the keeper's view

module _ (s : State) (laws : StateLaws s) (k : KeeperView) (number : ℕ → Grant → ℕ) (is : IsOfState s k number) (h : ℕ) (low : h < harts_at_most) (g : Grant)
    (pending : (row_of k h).pending ≡ Some g) (n : ℕ) (tells : TellsAsk k h n) where
  slot_of : IsOf (kept_at k) (place_of g.entry.slot) g
  slot_of = tells.of_slot g pending

  a : ℕ
  a = g.entry.slot

  place : IsDoubleword g.entry.slot
  place = slot_word (place_of g.entry.slot) g.entry.slot slot_of.1 slot_of.0.0

  role : role_at s g.entry.slot ≡ Slot
  role = sym (is.role g.entry.slot place) ∙ slot_of.0.1

  x : (x : Granting) × (x.number ≡ number h g) × IsGrantOf s k h g x
  x = is.granted h g low (inl pending) slot_of

  open_yet : x.0.standing ≡ Open
  open_yet = x.2.open_yet pending

  value_is : (kept_at k (place_of g.entry.slot)).value ≡ first_word_at s g.entry.slot
  value_is = is.word g.entry.slot place (inr (inr role))

  lazy_is : (kept_at k (place_of g.entry.slot)).lazy ≡ lazy_at s g.entry.slot
  lazy_is = is.lazy g.entry.slot place role

  not_open : (b : Granting) → Contains s.grants b → b.standing ≡ Bound → b.number ≡ x.0.number → ⊥
  not_open b there bound same =
      let one : b ≡ x.0 = one_number s.grants laws.tidy b x.0 there x.2.there same in
      let no : Bound ≡ Open = sym bound ∙ ap (λ (q : Granting). q.standing) one ∙ open_yet in
      cc

  -- ---- won

  module _ (won : n % 8 ≡ 4) where
    first_word : first_word_at s g.entry.slot ≡ lazy_at s g.entry.slot
    first_word = sym value_is ∙ (tells.won g pending won).0 ∙ lazy_is

    -- no bound grant of the slot is another
    bound_is : (b : Granting) → Contains s.grants b → b.standing ≡ Bound → IsSlotAt s g.entry.slot b.owner b.slot → b.number ≡ x.0.number
    bound_is b there bound at = by (is.stands g.entry.slot b place there (inl bound) at)
      where
        by : ((m : ℕ) × (p : Grant) × (m < harts_at_most) × Stands (row_of k m) p × IsOf (kept_at k) (place_of g.entry.slot) p × (number m p ≡ b.number) × IsGrantOf s k m p b) → b.number ≡ x.0.number
        by q = ⊎_elim
            (λ (waits : (row_of k q.0).pending ≡ Some q.1). let no : Bound ≡ Open = sym bound ∙ q.6.open_yet waits in absurd (cc))
            (λ (done : IsWon (row_of k q.0) q.1).
            let same = (tells.won g pending won).1 q.0 q.1 q.2 done q.4 in
            sym q.5 ∙ ap (λ (m : ℕ). number m q.1) same.0 ∙ ap (λ (p : Grant). number h p) same.1 ∙ sym x.1)
            q.3

    pub won_may_bind : MayBind s (number h g)
    won_may_bind = subst (MayBind s) x.1 (record {
      grant = x.0;
      is = record { there = x.2.there; numbered = refl; open_yet = open_yet };
      lazy = unbound s laws g.entry.slot x.0.owner x.0.slot place x.2.slot first_word (value_at_load s x.0.owner x.0.slot) refl;
      first = λ b. not_open b.grant b.there b.bound (bound_is b.grant b.there b.bound (at_slot b));
    })
      where
        at_slot : (b : HasBound s x.0.owner x.0.slot) → IsSlotAt s g.entry.slot b.grant.owner b.grant.slot
        at_slot b =
            let parts = and_parts (eqb b.grant.owner x.0.owner) (eqb b.grant.slot x.0.slot) b.of in
            let owner : b.grant.owner ≡ x.0.owner = eqb-true b.grant.owner x.0.owner parts.0 in
            let index : b.grant.slot ≡ x.0.slot = eqb-true b.grant.slot x.0.slot parts.1 in
            subst (λ (i : ℕ). IsSlotAt s g.entry.slot i b.grant.slot) (sym owner) (subst (λ (i : ℕ). IsSlotAt s g.entry.slot x.0.owner i) (sym index) x.2.slot)

  -- ---- lost

  module _ (long : IsLong k) (saw : ℕ) (seen : TellsSlot (lost_in h k) (place_of g.entry.slot) saw) where
    lost_row : Row
    lost_row = settled_as FateLost (row_of k h).pending (row_of k h)

    inside : h < length k.rows
    inside = subst (λ (m : ℕ). h < m) (sym long.1) low

    row_is : row_of (lost_in h k) h ≡ settled_as FateLost (Some g) (row_of k h)
    row_is = row_here k h (settled_as FateLost (row_of k h).pending (row_of k h)) inside ∙ ap (λ (p : Option Grant). settled_as FateLost p (row_of k h)) pending

    -- a grant that stands then stood before, and is another
    not_won : IsWon (row_of k h) g → ⊥
    not_won done = let no : Bound ≡ Open = sym (x.2.bound done) ∙ open_yet in cc

    won_before : (p : Grant) → Contains ((row_of k h).settled ++ record { grant = g; fate = FateLost } ∷ []) (record { grant = p; fate = FateWon }) → IsWon (row_of k h) p
    won_before p there = ⊎_elim
        (λ (old : Contains (row_of k h).settled (record { grant = p; fate = FateWon })). old)
        (λ (new : Contains (record { grant = g; fate = FateLost } ∷ []) (record { grant = p; fate = FateWon })).
        let no : record { grant = g; fate = FateLost } ≡ record { grant = p; fate = FateWon } = only_in (record { grant = g; fate = FateLost }) (record { grant = p; fate = FateWon }) new in
        let fates : FateLost ≡ FateWon = ap (λ (q : Settled). q.fate) no in
        absurd (cc))
        (Contains-append_cases (row_of k h).settled (record { grant = g; fate = FateLost } ∷ []) (record { grant = p; fate = FateWon }) there)

    stood : (j : ℕ) (p : Grant) → Stands (row_of (lost_in h k) j) p → Stands (row_of k j) p × ((j ≡ h) × (p ≡ g) → ⊥)
    stood j p st = dite (ℕ_discrete j h)
        (λ (same : j ≡ h). own same (subst (λ (r : Row). Stands r p) (ap (λ (i : ℕ). row_of (lost_in h k) i) same ∙ row_is) st))
        (λ (apart : j ≢ h). (subst (λ (r : Row). Stands r p) (row_else k h (settled_as FateLost (row_of k h).pending (row_of k h)) inside j apart) st, λ both. apart both.0))
      where
        own : j ≡ h → Stands (settled_as FateLost (Some g) (row_of k h)) p → Stands (row_of k j) p × ((j ≡ h) × (p ≡ g) → ⊥)
        own same st = ⊎_elim
            (λ (waits : None ≡ Some p). absurd (let no : None ≡ Some p = waits in cc))
            (λ (done : Contains ((row_of k h).settled ++ record { grant = g; fate = FateLost } ∷ []) (record { grant = p; fate = FateWon })).
            (inr (subst (λ (i : ℕ). IsWon (row_of k i) p) (sym same) (won_before p done)), λ both. not_won (subst (IsWon (row_of k h)) both.1 (won_before p done))))
            st

    is_lost : IsLost (row_of (lost_in h k) h) g
    is_lost = subst (λ (r : Row). IsLost r g) (sym row_is) (Contains-append_right (row_of k h).settled (record { grant = g; fate = FateLost } ∷ []) (record { grant = g; fate = FateLost }) (here (record { grant = g; fate = FateLost }) []))

    not_lazy : saw ≢ lazy_at s g.entry.slot
    not_lazy same = seen.lost h g low is_lost slot_of (same ∙ sym lazy_is ∙ sym (tells.lazy_is g pending))

    others : (j : ℕ) (p : Grant) → j < harts_at_most → Stands (row_of (lost_in h k) j) p → IsOf (kept_at k) (place_of g.entry.slot) p → saw ≡ p.entry.value → IsOthers s x.0 saw
    others j p high st at value =
        let before = stood j p st in
        let address : p.entry.slot ≡ g.entry.slot = at.1 ∙ sym slot_of.1 in
        let y = is.granted j p high before.0 (subst (λ (d : ℕ). IsOf (kept_at k) d p) (ap place_of (sym address)) at) in
        let slots = same_slot s laws g.entry.slot x.0.owner x.0.slot place x.2.slot y.0.owner y.0.slot (subst (λ (b : ℕ). IsSlotAt s b y.0.owner y.0.slot) address y.2.slot) in
        record {
          other = y.0;
          there = y.2.there;
          of = and_from (eqb y.0.owner x.0.owner) (eqb y.0.slot x.0.slot) (eq-eqb y.0.owner x.0.owner slots.0) (eq-eqb y.0.slot x.0.slot slots.1);
          differs = λ same. before.1 (is.one j h p g high low before.0 (inl pending) (sym y.1 ∙ same ∙ x.1));
          kept = λ word lost. kept y.0 (IsGrantOf s k j p y.0) y.2 before.0 word lost;
          value = value ∙ sym y.2.value;
        }
      where
        kept : (y : Granting) (T : Type 0) → IsGrantOf s k j p y → Stands (row_of k j) p → (word : ℕ) → y.standing ≡ Lost word → ⊥
        kept y T of st word lost = ⊎_elim
            (λ (waits : (row_of k j).pending ≡ Some p). let no : Open ≡ Lost word = sym (of.open_yet waits) ∙ lost in cc)
            (λ (done : IsWon (row_of k j) p). let no : Bound ≡ Lost word = sym (of.bound done) ∙ lost in cc)
            st

    found : (value_at_load s x.0.owner x.0.slot ≡ Some saw) ⊎ IsOthers s x.0 saw
    found = ⊎_elim
        (λ (first : saw ≡ (kept_at k (place_of g.entry.slot)).value).
        let word : saw ≡ first_word_at s g.entry.slot = first ∙ value_is in
        inl (loaded s laws g.entry.slot x.0.owner x.0.slot place x.2.slot (λ same. not_lazy (word ∙ same)) (value_at_load s x.0.owner x.0.slot) refl ∙ ap (λ (v : ℕ). Some v) (sym word)))
        (λ (grant : (j : ℕ) × (p : Grant) × Stands (row_of (lost_in h k) j) p × IsOf (kept_at k) (place_of g.entry.slot) p × (saw ≡ p.entry.value)).
        inr (others grant.0 grant.1 (reach grant.0 grant.1 grant.2) grant.2 grant.3 grant.4))
        seen.allowed
      where
        -- beyond the last row there is none
        reach : (j : ℕ) (p : Grant) → Stands (row_of (lost_in h k) j) p → j < harts_at_most
        reach j p st = go (dec_le harts_at_most j)
          where
            none : Stands no_row p → ⊥
            none (inl waits) = let no : None ≡ Some p = waits in cc
            none (inr done) = none_in (record { grant = p; fate = FateWon }) done

            go : Dec (harts_at_most ≤ j) → j < harts_at_most
            go (yes high) = absurd (none (subst (λ (r : Row). Stands r p) (get_or_past k.rows j no_row (subst (λ (m : ℕ). m ≤ j) (sym long.1) high)) (stood j p st).0))
            go (no below) = lt_of_not-le below

    pub lost_may_lose : MayLose s (number h g) saw
    lost_may_lose = subst (λ (i : ℕ). MayLose s i saw) x.1 (record {
      grant = x.0;
      is = record { there = x.2.there; numbered = refl; open_yet = open_yet };
      found = found;
    })
