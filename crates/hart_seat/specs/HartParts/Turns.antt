-- What a hart has of its next turn.
use Rattle.std.specs.Prelude.{◌≡◌, ◌⊎◌, ℕ, Bool, true, false, ◌&&◌, not, List, ◌+◌, ◌*◌, ◌%◌, ◌^◌, ◌<◌, ◌≤◌, [], ◌∷◌}
use Rattle.std.specs.Option.{is_some}
use Rattle.ld_base.specs.declared.fault.Shown.{Shown}
use Rattle.hart_moves.specs.Harts.{HartState, Naming, Phase, Resolving}
use Rattle.hart_seat.specs.HartParts.Queues.{below}
use Rattle.hart_seat.specs.HartParts.Views.{more_of, offered_of, purpose_of}
use Rattle.hart_seat.specs.declared.hart_parts.due.Due.{Due as code_due}
use Rattle.hart_seat.specs.declared.hart_parts.due.Due.TheVariants as due

-- it has the name of an opening, or of a look-up with its version, whole
abbrev pub HasName : Phase → Naming → (name version : List ℕ) → Type 0
HasName phase n name version = (phase ≡ Phase.named n name version) ⊎ ((for : Shown) × (phase ≡ Phase.waiting n name version for))

-- it has fuel for a turn of its own; the turns of a granted slot don't ask for it
abbrev pub HasFuel : HartState → code_due → Type 0
HasFuel b due.Nothing = Unit {0}
HasFuel b (due.Exchange o) = Unit {0}
HasFuel b (due.Finish o found) = Unit {0}
HasFuel b due.FuelOut = Unit {0}
HasFuel b due.Instruction = b.turns < b.fuel
HasFuel b (due.Copy what start bytes) = b.turns < b.fuel
HasFuel b (due.Serve asked) = b.turns < b.fuel
HasFuel b (due.Wait for asked) = b.turns < b.fuel
HasFuel b (due.Store text stored word) = b.turns < b.fuel
HasFuel b (due.Enter function) = b.turns < b.fuel
HasFuel b (due.Complete purpose object behind) = b.turns < b.fuel

-- a slot is the one that it was granted; a doubleword is the next of its text, is aligned, and ends below 2 ^ 64; an object whose functions have
-- run is the first of its innermost frame, and those behind it follow there
abbrev pub HasParts : HartState → code_due → Type 0
HasParts b due.Nothing = Unit {0}
HasParts b (due.Exchange o) = b.resolving ≡ Resolving.to_exchange (offered_of o)
HasParts b (due.Finish o found) = b.resolving ≡ Resolving.to_finish (offered_of o) found
HasParts b due.FuelOut = Unit {0}
HasParts b due.Instruction = Unit {0}
HasParts b (due.Copy what start bytes) = Unit {0}
HasParts b (due.Serve asked) = Unit {0}
HasParts b (due.Wait for asked) = Unit {0}
HasParts b (due.Store text stored word) = (b.phase ≡ Phase.storing text stored word (more_of b.phase)) × (text % 8 ≡ 0) × (text + 8 * stored + 8 ≤ 2 ^ 64)
HasParts b (due.Enter function) = Unit {0}
HasParts b (due.Complete purpose object behind) =
    b.frames ≡ record { purpose = purpose_of purpose.now; queue = record { object = object; addresses = [] } ∷ behind.now } ∷ below b.frames

-- ---- for the code of this crate alone

-- a granted slot's turns come first
abbrev pub has_slot_turn : Resolving → Bool
has_slot_turn r = elim r [ Resolving.to_exchange o ↦ true | Resolving.to_finish o found ↦ true | _ ↦ false ]

abbrev pub passes_nothing : Phase → Bool
passes_nothing phase = elim phase [ Phase.at_pc ↦ true | _ ↦ false ]

-- where it has fuel, its next turn is an instruction, or a service
abbrev pub is_at_pc : HartState → Bool
is_at_pc b = not (is_some b.«end») && (not (has_slot_turn b.resolving) && passes_nothing b.phase)
