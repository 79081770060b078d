-- What the calls of a bus leave, for whoever keeps a trail of them. A call that its address alone refuses finds nothing in
-- memory, so nothing is left of it: a step may leave less than its calls.
use Rattle.std.specs.Prelude.{◌≡◌, ℕ, ◌%◌, Bool, false, not, List, [], ◌∷◌, Result, Err, flat_map, ◌==◌, ◌&&◌, if◌then◌else◌}
use Rattle.ld_base.specs.declared.linking.Role.TheVariants.{None as NoRole}
use Rattle.rv_hart.specs.declared.bus.BusFault.{BusFault}
use Rattle.rv_hart.specs.declared.bus.BusFault.TheVariants.{Role as RoleFault, Misaligned}
use Rattle.rv_hart.specs.declared.bus.Item.{Item}
use Rattle.rv_hart.specs.declared.bus.Item.TheVariants.{Fetch, Read, Write, Amo, Reserve, Conditional}
use Rattle.rv_hart.specs.Registers.{Registers}
use Rattle.rv_hart.specs.Trail.{Place, IsStep}

-- the address alone shows why a call of so many bytes is refused: it is no multiple of them, or it is one and memory has no
-- doubleword there
abbrev pub is_shown : {T : Type 0} → (ℕ → Bool) → ℕ → ℕ → Result T BusFault → Bool
is_shown has_word address size (Err Misaligned) = not (address % size == 0)
is_shown has_word address size (Err (RoleFault NoRole)) = (address % size == 0) && not (has_word address)
is_shown has_word address size _ = false

-- what a call leaves
abbrev pub left_by : (ℕ → Bool) → Item → List Item
left_by has_word (Fetch address answer) = if is_shown has_word address 4 answer then [] else Fetch address answer ∷ []
left_by has_word (Read address size answer) = if is_shown has_word address size answer then [] else Read address size answer ∷ []
left_by has_word (Write address size value answer) = if is_shown has_word address size answer then [] else Write address size value answer ∷ []
left_by has_word (Amo address size op value answer) = if is_shown has_word address size answer then [] else Amo address size op value answer ∷ []
left_by has_word (Reserve address size answer) = if is_shown has_word address size answer then [] else Reserve address size answer ∷ []
left_by has_word (Conditional address size value version answer) =
    if is_shown has_word address size answer then [] else Conditional address size value version answer ∷ []

abbrev pub items_left : (ℕ → Bool) → List Item → List Item
items_left has_word calls = flat_map (left_by has_word) calls

-- one step of a hart, and the items that it left
abbrev pub StepLeaves : (ℕ → Bool) → Registers → List Item → Place → Type 0
StepLeaves has_word r items end = (calls : List Item) × IsStep r calls end × (items ≡ items_left has_word calls)
