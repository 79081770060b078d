-- What a call of the bus leaves in the view of a hart's seat.
use Rattle.std.specs.Prelude.{◌≡◌, ◌≢◌, ℕ, ◌%◌, Bool, false, List, ◌++◌, map, nat_le, nat_lt, ◌&&◌}
use Rattle.ld_base.specs.declared.linking.Role.TheVariants.{None as NoRole}
use Rattle.rv_hart.specs.declared.bus.BusFault.{BusFault}
use Rattle.rv_hart.specs.declared.bus.BusFault.TheVariants.{Role as RoleFault, Misaligned}
use Rattle.rv_hart.specs.declared.bus.Item.{Item}
use Rattle.rv_hart.specs.Items.{left_by}
use Rattle.word_rule.specs.declared.view.HartView.{HartView}
use Rattle.word_rule.specs.declared.view.TrailItem.{TrailItem}
use Rattle.word_rule.specs.declared.view.TrailItem.TheVariants.{Call}
use Rattle.word_rule.specs.Layout.{doublewords, first_address, place_of}

-- guest memory has a doubleword there
abbrev pub in_memory : ℕ → Bool
in_memory address = nat_le first_address address && nat_lt (place_of address) doublewords

-- the address alone shows why an access is refused: it is no multiple of the size, or lies outside guest memory
abbrev pub IsUnasked : ℕ → ℕ → BusFault → Type 0
IsUnasked address size Misaligned = address % size ≢ 0
IsUnasked address size (RoleFault NoRole) = (address % size ≡ 0) × (in_memory address ≡ false)
IsUnasked address size _ = ⊥

-- the view with more at the end of its trail
abbrev pub with_items : List TrailItem → HartView → HartView
with_items items h = record h { trail = h.trail ++ items }

-- a call appends what it leaves to the trail, and the rest of the view stays
abbrev pub Calls : HartView → Item → HartView → Type 0
Calls before item now = now ≡ with_items (map Call (left_by in_memory item)) before
