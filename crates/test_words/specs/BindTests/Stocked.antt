-- The words of the tests: a slot that is lazy, and the code that it may lead to.
use Rattle.std.specs.Prelude.{◌≡◌, ◌≢◌, ◌⊎◌, ℕ, ◌+◌, true, false, length, None, Some}
use Rattle.ld_base.specs.declared.linking.Role.TheVariants.{None as NoRole, Rx, Slot as SlotRole}
use Rattle.history_event.specs.declared.handed.Offer.{Offer}
use Rattle.word_rule.specs.declared.entry.Grant.{Grant}
use Rattle.word_rule.specs.declared.view.HartView.{HartView}
use Rattle.word_rule.specs.declared.view.KeeperView.{KeeperView}
use Rattle.word_rule.specs.declared.view.Kept.{Kept}
use Rattle.word_rule.specs.Allowed.{IsSlot}
use Rattle.word_rule.specs.Layout.{place_of}
use Rattle.word_rule.specs.Views.{kept_at, row_of}

-- the one slot is at 0x37010, and its lazy word is 0x35000; there is code there, at 0x39000 and at 0x3c000
pub record IsStocked (known : ℕ → Kept) : Type 0 where
  pub role : (known (place_of 0x37010)).role ≡ SlotRole
  pub lazy : (known (place_of 0x37010)).lazy ≡ 0x35000
  pub since : (known (place_of 0x37010)).since ≡ 0
  pub lazy_code : (known (place_of 0x35000)).role ≡ Rx
  pub first_code : (known (place_of 0x39000)).role ≡ Rx
  pub second_code : (known (place_of 0x3c000)).role ≡ Rx
  pub only : (d : ℕ) → IsSlot known d → d ≡ place_of 0x37010

-- the slot is gone, so that nothing leads to the code, which is there still
pub record IsUnslotted (known : ℕ → Kept) : Type 0 where
  pub slot : (known (place_of 0x37010)).role ≡ NoRole
  pub none : (d : ℕ) → ¬ (IsSlot known d)
  pub lazy_code : (known (place_of 0x35000)).role ≡ Rx
  pub first_code : (known (place_of 0x39000)).role ≡ Rx
  pub second_code : (known (place_of 0x3c000)).role ≡ Rx

-- none of these words has a role any more
pub record IsUnmapped (known : ℕ → Kept) : Type 0 where
  pub slot : (known (place_of 0x37010)).role ≡ NoRole
  pub lazy_code : (known (place_of 0x35000)).role ≡ NoRole
  pub first_code : (known (place_of 0x39000)).role ≡ NoRole
  pub second_code : (known (place_of 0x3c000)).role ≡ NoRole

-- there are these words at the start, when nothing was handed to a hart
pub record IsReady (k : KeeperView) : Type 0 where
  pub stocked : IsStocked (kept_at k)
  pub rows : (m : ℕ) → (row_of k m).pending ≡ None
  pub events : length k.events ≡ 0

-- a grant of the slot, with this number
pub record IsFor (x : Offer) (number : ℕ) : Type 0 where
  pub event : x.event ≡ number
  pub slot : x.slot ≡ 0x37010
  pub lazy : x.lazy ≡ 0x35000
  pub value : (x.value ≡ 0x39000) ⊎ (x.value ≡ 0x3c000)

-- the hart's grant is posted, and counted
pub record HasPosted (k now : KeeperView) (m : ℕ) : Type 0 where
  pub pending : (g : Grant) × ((row_of now m).pending ≡ Some g)
  pub others : (j : ℕ) → j ≢ m → (row_of now j).pending ≡ (row_of k j).pending
  pub known : kept_at now ≡ kept_at k
  pub count : length now.events ≡ length k.events + 1

-- the fate of the hart's grant is known
pub record HasAsked (k now : KeeperView) (m : ℕ) : Type 0 where
  pub pending : (row_of now m).pending ≡ None
  pub others : (j : ℕ) → j ≢ m → (row_of now j).pending ≡ (row_of k j).pending
  pub stocked : IsStocked (kept_at now)

-- a hart that hasn't called
pub record IsNew (h : HartView) : Type 0 where
  pub idle : h.lane.calling ≡ false
  pub no_offer : h.lane.offer ≡ None
  pub untried : h.lane.tried ≡ None

-- a hart that has called, and hasn't looked at its row
pub record IsCalling (h : HartView) : Type 0 where
  pub calling : h.lane.calling ≡ true
  pub no_offer : h.lane.offer ≡ None
  pub untried : h.lane.tried ≡ None
