-- What an Again shows.
use Rattle.std.specs.Prelude.{◌≡◌, ◌≢◌, ◌⊎◌}
use Rattle.ld_base.specs.declared.fault.Shown.{Shown}
use Rattle.ld_base.specs.declared.fault.Shown.TheVariants.{Locked, Initialising, Closing, OpenGrant}
use Rattle.word_rule.specs.Layout.{lock_bit}

-- a control word with another seat's lock, or two control words that differ
abbrev pub IsShown : Shown → Type 0
IsShown (Locked a b) = ((a ≡ b) × (lock_bit a ≡ 1)) ⊎ (a ≢ b)
IsShown (Initialising serial) = ⊥
IsShown (Closing serial) = ⊥
IsShown (OpenGrant g) = ⊥
