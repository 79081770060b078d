-- Slots and grants.
use Rattle.std.specs.Prelude.{◌≡◌, ◌≢◌, ◌⊎◌, ℕ, ◌%◌, ◌≤◌, ◌<◌, List, [], ◌∷◌, Option, Some, None, Contains}
use Rattle.word_rule.specs.declared.entry.Exchange.{Exchange}
use Rattle.word_rule.specs.declared.entry.Grant.{Grant}
use Rattle.word_rule.specs.declared.view.Fate.{Fate}
use Rattle.word_rule.specs.declared.view.Kept.{Kept}
use Rattle.word_rule.specs.declared.view.Loss.{Loss}
use Rattle.word_rule.specs.declared.view.Row.{Row}
use Rattle.word_rule.specs.Layout.{harts_at_most, place_of, state_at, value_at}
use Rattle.word_rule.specs.Views.{grant_in}
use Rattle.word_rule.specs.Allowed.{IsAllowed, IsLost, IsOf, IsSlot, IsWon, LeadsTo, Stands}

-- the exchange of a grant stands in a hart's trail, and found the lazy word, or another one
abbrev pub HasWon : List Exchange → Grant → Type 0
HasWon exchanges g = Contains exchanges (record { grant = g; found = g.lazy })

abbrev pub HasLost : List Exchange → Grant → Type 0
HasLost exchanges g = (found : ℕ) × (found ≢ g.lazy) × Contains exchanges (record { grant = g; found = found })

-- what was seen of lost grants is what their exchanges found, which stand in their harts' trails
abbrev pub AreLosses : List Loss → (ℕ → List Exchange) → Type 0
AreLosses losses exchanges = (x : Loss) → Contains losses x → Contains (exchanges x.hart) x.exchange

-- of a doubleword: the hart and the grant that won it, if one did
abbrev pub Winner : Type 0
Winner = Option (ℕ × Grant)

-- a slot holds its image's word, or the value of the grant that won it, which isn't the lazy word; and each value that may stand
-- in it leads nowhere or into a word that may be run
pub record SlotIs (value : ℕ) (known : ℕ → Kept) (count : ℕ) (row : ℕ → Row) (exchanges : ℕ → List Exchange) (winner : Winner) (d : ℕ) : Type 0 where
  pub since : (known d).since ≤ count
  pub image : winner ≡ None → value ≡ (known d).value
  pub bound : (m : ℕ) (g : Grant) → winner ≡ Some (m, g) → (value ≡ g.entry.value) × (g.entry.value ≢ g.lazy) × (g.lazy ≡ (known d).lazy)
  pub by : (m : ℕ) (g : Grant) → winner ≡ Some (m, g) → IsOf known d g × Stands (row m) g × HasWon (exchanges m) g
  -- a slot that was won had the lazy word from the start
  pub lazy : (m : ℕ) (g : Grant) → winner ≡ Some (m, g) → (known d).value ≡ (known d).lazy
  pub leads : (v : ℕ) → IsAllowed known row d v → LeadsTo known v
  -- what a look found stays, since it isn't the lazy word
  pub fixed : (x : ℕ) → (known d).fixed ≡ Some x → (value ≡ x) × (x ≢ (known d).lazy)

-- what an exchange leaves for as long as its slot is there: its slot isn't lazy any more
pub record Did (value lazy : ℕ) (winner : Winner) (m : ℕ) (x : Exchange) : Type 0 where
  pub lazy_is : x.grant.lazy ≡ lazy
  pub not_lazy : value ≢ lazy
  pub won : x.found ≡ x.grant.lazy → winner ≡ Some (m, x.grant)
  pub lost : x.found ≢ x.grant.lazy → (winner ≢ Some (m, x.grant)) × (value ≡ x.found)

-- a grant in a row that its hart hasn't given back
pub record IsOpen (winner : Winner) (m : ℕ) (tried : Option Exchange) (exchanges : List Exchange) (g : Grant) : Type 0 where
  pub untried : tried ≡ None → winner ≢ Some (m, g)
  pub new : tried ≡ None → (x : Exchange) → Contains exchanges x → x.grant.entry.number < g.entry.number
  pub made : (x : Exchange) → tried ≡ Some x → (x.grant ≡ g) × Contains exchanges x

-- what came of a grant: its row is open, or says won, or says lost; and so it is
abbrev pub Fated : ℕ → ℕ → Winner → ℕ → Option Exchange → List Exchange → Grant → Type 0
Fated value state winner m tried exchanges g =
    ((state ≡ 3) × IsOpen winner m tried exchanges g)
    ⊎ ((state % 8 ≡ 4) × (winner ≡ Some (m, g)))
    ⊎ ((state % 8 ≡ 5) × (winner ≢ Some (m, g)) × (value ≢ g.lazy) × HasLost exchanges g)

-- a grant whose fate the keeper doesn't know: it is the row's, its slot is there, and the keeper hasn't locked it
pub record IsPending (known : ℕ → Kept) (locked : Option ℕ) (value state : ℕ) (winner : Winner) (m : ℕ) (row : Row)
    (tried : Option Exchange) (exchanges : List Exchange) (g : Grant) : Type 0 where
  pub in_row : g ≡ grant_in row
  pub of_slot : IsOf known (place_of g.entry.slot) g
  pub free : locked ≢ Some (place_of g.entry.slot)
  pub lazy_is : g.lazy ≡ (known (place_of g.entry.slot)).lazy
  pub other : g.entry.value ≢ g.lazy
  pub fate : Fated value state winner m tried exchanges g

-- a grant was posted to the row's hart
abbrev pub IsGrant : Row → Grant → Type 0
IsGrant row g = (row.pending ≡ Some g) ⊎ ((f : Fate) × Contains row.settled (record { grant = g; fate = f }))

-- numbers rise
abbrev pub Rising : List Exchange → Type 0
Rising [] = Unit {0}
Rising (x ∷ xs) = ((y : Exchange) → Contains xs y → x.grant.entry.number < y.grant.entry.number) × Rising xs

-- the grants of a hart
pub record GrantsAre (known : ℕ → Kept) (locked : Option ℕ) (count : ℕ) (word : ℕ → ℕ) (winner : ℕ → Winner) (m : ℕ) (row : Row)
    (tried : Option Exchange) (exchanges : List Exchange) : Type 0 where
  -- a row is open only with a grant whose fate isn't known
  pub closed : row.pending ≡ None → word (state_at m) ≢ 3
  pub pending : (g : Grant) → row.pending ≡ Some g → let d = place_of g.entry.slot in
      IsPending known locked (word (value_at d)) (word (state_at m)) (winner d) m row tried exchanges g
  pub won : (g : Grant) → IsWon row g → HasWon exchanges g
  pub lost : (g : Grant) → IsLost row g → HasLost exchanges g
  -- grants are older than a call that came to be known later
  pub counted : (g : Grant) → IsGrant row g → (g.entry.number ≤ count) × ((c : ℕ) → row.since ≡ Some c → g.entry.number ≤ c)
  pub granted : (x : Exchange) → Contains exchanges x → IsGrant row x.grant
  pub rising : Rising exchanges

pub record Slots (word : ℕ → ℕ) (known : ℕ → Kept) (locked : Option ℕ) (count : ℕ) (row : ℕ → Row) (tried : ℕ → Option Exchange)
    (exchanges : ℕ → List Exchange) : Type 0 where
  pub winner : ℕ → Winner
  pub each_slot : (d : ℕ) → IsSlot known d → SlotIs (word (value_at d)) known count row exchanges (winner d) d
  pub each_hart : (m : ℕ) → m < harts_at_most → GrantsAre known locked count word winner m (row m) (tried m) (exchanges m)
  pub each_exchange : (m : ℕ) → m < harts_at_most → (x : Exchange) → Contains (exchanges m) x → let d = place_of x.grant.entry.slot in IsOf known d x.grant
      → Did (word (value_at d)) (known d).lazy (winner d) m x
  -- beyond the last row there is no grant
  pub no_more : (m : ℕ) (g : Grant) → harts_at_most ≤ m → ¬ (Stands (row m) g)
