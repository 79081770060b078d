-- What the keeper's view says of slots: where they lead, and which values may stand in one.
use Rattle.std.specs.Prelude.{◌≡◌, ◌≢◌, ◌⊎◌, ℕ, ◌<◌, Some, Contains}
use Rattle.ld_base.specs.declared.linking.Role.TheVariants.{Rx, Slot as SlotRole}
use Rattle.word_rule.specs.declared.entry.Grant.{Grant}
use Rattle.word_rule.specs.declared.view.Fate.TheVariants.{Won, Lost}
use Rattle.word_rule.specs.declared.view.Kept.{Kept}
use Rattle.word_rule.specs.declared.view.Row.{Row}
use Rattle.word_rule.specs.Layout.{address_of, doublewords, harts_at_most, place_of, IsInMemory}

-- where a value of a slot may lead: nowhere, which is 0, or into a word that may be run
abbrev pub LeadsTo : (ℕ → Kept) → ℕ → Type 0
LeadsTo known v = (v ≡ 0) ⊎ (IsInMemory v × ((known (place_of v)).role ≡ Rx))

abbrev pub IsSlot : (ℕ → Kept) → ℕ → Type 0
IsSlot known d = (d < doublewords) × ((known d).role ≡ SlotRole)

-- a grant of a slot that is there: it has the slot's address, and is newer than the slot's role
abbrev pub IsOf : (ℕ → Kept) → ℕ → Grant → Type 0
IsOf known d g = IsSlot known d × (g.entry.slot ≡ address_of d) × ((known d).since < g.entry.number)

-- a grant of a hart is known as won, or as lost
abbrev pub IsWon : Row → Grant → Type 0
IsWon row g = Contains row.settled (record { grant = g; fate = Won })

abbrev pub IsLost : Row → Grant → Type 0
IsLost row g = Contains row.settled (record { grant = g; fate = Lost })

-- a grant of a hart was posted, and isn't known as lost
abbrev pub Stands : Row → Grant → Type 0
Stands row g = (row.pending ≡ Some g) ⊎ IsWon row g

-- the values that may stand in a slot: that of the image, and those of its grants
abbrev pub IsAllowed : (ℕ → Kept) → (ℕ → Row) → ℕ → ℕ → Type 0
IsAllowed known row d v = (v ≡ (known d).value) ⊎ ((hart : ℕ) × (g : Grant) × Stands (row hart) g × IsOf known d g × (v ≡ g.entry.value))

-- of a slot that was lazy at first, once a grant of it is known as lost: another one stands. One at most is known as won, and it
-- has the value that was seen of the slot, whichever grant that was seen for
pub record IsDecided (known : ℕ → Kept) (row : ℕ → Row) (d : ℕ) : Type 0 where
  pub lost : (m : ℕ) (g : Grant) → m < harts_at_most → IsLost (row m) g → IsOf known d g → (known d).value ≡ (known d).lazy
      → (i : ℕ) × (p : Grant) × (i < harts_at_most) × Stands (row i) p × IsOf known d p
  pub won : (m : ℕ) (g : Grant) (x : ℕ) → m < harts_at_most → IsWon (row m) g → IsOf known d g → (known d).fixed ≡ Some x → g.entry.value ≡ x
  pub one : (m n : ℕ) (g p : Grant) → m < harts_at_most → n < harts_at_most → IsWon (row m) g → IsWon (row n) p
      → IsOf known d g → IsOf known d p → (m ≡ n) × (g ≡ p)

-- a grant may be posted
pub record IsPostable (known : ℕ → Kept) (g : Grant) : Type 0 where
  pub of_slot : IsOf known (place_of g.entry.slot) g
  pub lazy_is : g.lazy ≡ (known (place_of g.entry.slot)).lazy
  pub other : g.entry.value ≢ g.lazy
  pub leads : LeadsTo known g.entry.value

-- no allowed value of a slot lies in the doubleword
abbrev pub NothingEnters : (ℕ → Kept) → (ℕ → Row) → ℕ → Type 0
NothingEnters known row d = (e v : ℕ) → IsSlot known e → IsAllowed known row e v → (v ≡ 0) ⊎ (place_of v ≢ d)
