-- How far a hart is, in the code, as the definition has it, and bounds.
use Rattle.std.specs.Prelude.{◌≡◌, ℕ, ◌+◌, ◌-◌, ◌*◌, ◌/◌, ◌%◌, ◌^◌, ◌≤◌, List, map, length, slice_index}
use Rattle.std.specs.List.{range_with_len}
use Rattle.seg_image.specs.Words.{word_of}
use Rattle.hart_moves.specs.Harts.{Phase, Resolving}
use Rattle.hart_seat.specs.HartParts.Views.{naming_of, offered_of}
use Rattle.hart_seat.specs.declared.phase.Phase.{Phase as code_phase}
use Rattle.hart_seat.specs.declared.phase.Phase.TheVariants as phase
use Rattle.hart_seat.specs.declared.phase.Resolving.{Resolving as code_resolving}
use Rattle.hart_seat.specs.declared.phase.Resolving.TheVariants as resolving

-- a doubleword of a text, in which zeros fill the last one
abbrev pub text_word : List ℕ → ℕ → ℕ
text_word text k = word_of (slice_index text) (8 * k)

abbrev pub phase_of : (bytes version message : List ℕ) → code_phase → Phase
phase_of bytes version message phase.AtPc = Phase.at_pc
phase_of bytes version message (phase.Naming taker) = Phase.naming (naming_of taker) bytes
phase_of bytes version message phase.Versioning = Phase.versioning bytes version
phase_of bytes version message (phase.Named taker) = Phase.named (naming_of taker) bytes version
phase_of bytes version message (phase.Waiting taker for) = Phase.waiting (naming_of taker) bytes version for
phase_of bytes version message phase.Pairing = Phase.pairing bytes
phase_of bytes version message phase.Writing = Phase.writing bytes
phase_of bytes version message (phase.Storing text stored) =
    Phase.storing text stored (text_word message stored) (map (text_word message) (range_with_len (stored + 1) (length message / 8 - stored)))

abbrev pub resolving_of : code_resolving → Resolving
resolving_of resolving.Idle = Resolving.idle
resolving_of (resolving.ToExchange o) = Resolving.to_exchange (offered_of o)
resolving_of (resolving.ToFinish o found) = Resolving.to_finish (offered_of o) found
resolving_of (resolving.ToSettle o found) = Resolving.to_settle (offered_of o) found

-- the turns of a granted slot don't ask for fuel: how many more a hart may have taken before its next one
abbrev pub beyond_fuel : code_resolving → ℕ
beyond_fuel resolving.Idle = 2
beyond_fuel (resolving.ToExchange o) = 0
beyond_fuel (resolving.ToFinish o found) = 1
beyond_fuel (resolving.ToSettle o found) = 2

-- a text that is stored is aligned and ends below 2 ^ 64, and a doubleword of it is left
abbrev pub IsInside : List ℕ → code_phase → Type 0
IsInside message phase.AtPc = Unit {0}
IsInside message (phase.Naming taker) = Unit {0}
IsInside message phase.Versioning = Unit {0}
IsInside message (phase.Named taker) = Unit {0}
IsInside message (phase.Waiting taker for) = Unit {0}
IsInside message phase.Pairing = Unit {0}
IsInside message phase.Writing = Unit {0}
IsInside message (phase.Storing text stored) = (text % 8 ≡ 0) × (text + length message + 8 ≤ 2 ^ 64) × (stored ≤ length message / 8)
