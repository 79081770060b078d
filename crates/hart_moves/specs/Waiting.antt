-- An opening that came to an object that another hart starts or closes waits until it is no longer so (dlopen(3), dlmopen(3)).
use Rattle.std.specs.Prelude.{Bool, true, false, Option, Some, None}
use Rattle.ld_base.specs.declared.fault.Shown.{Shown}
use Rattle.ld_base.specs.declared.fault.Shown.TheVariants as shown
use Rattle.ld_base.specs.declared.linking.Loaded.{Loaded}
use Rattle.ld_base.specs.declared.linking.State.TheVariants as states
use Rattle.history_state.specs.Objects.{object_at}
use Rattle.history_state.specs.State.{State}
use Rattle.hart_moves.specs.Harts.{HartState, Phase}

-- ---- what is waited for

-- the constructors of an object run, or its destructors
abbrev pub is_initialising : Loaded → Bool
is_initialising o = elim o.state [ states.Initialising hart ↦ true | _ ↦ false ]

abbrev pub is_dying : Loaded → Bool
is_dying o = elim o.state [ states.Dying hart ↦ true | _ ↦ false ]

-- of a mapped object
abbrev pub holds : (Loaded → Bool) → Option Loaded → Bool
holds is (Some o) = is o
holds is None = false

-- the object that the opening came to is still started, or closed. One hart starts an object and one closes it, so while it is so, another does
abbrev pub is_still : State → Shown → Bool
is_still s (shown.Initialising serial) = holds is_initialising (object_at s serial)
is_still s (shown.Closing serial) = holds is_dying (object_at s serial)
is_still s (shown.OpenGrant grant) = false
is_still s (shown.Locked one other) = false

-- ---- a hart that waits

-- an opening keeps what it waits for. Other calls that have to wait are made again in the next turn
abbrev pub awaiting_phase : Shown → Phase → Phase
awaiting_phase for (Phase.named n name version) = Phase.waiting n name version for
awaiting_phase for (Phase.waiting n name version before) = Phase.waiting n name version for
awaiting_phase for Phase.at_pc = Phase.at_pc
awaiting_phase for (Phase.naming n bytes) = Phase.naming n bytes
awaiting_phase for (Phase.versioning name bytes) = Phase.versioning name bytes
awaiting_phase for (Phase.pairing bytes) = Phase.pairing bytes
awaiting_phase for (Phase.writing bytes) = Phase.writing bytes
awaiting_phase for (Phase.storing text stored word more) = Phase.storing text stored word more

abbrev pub awaiting : Shown → HartState → HartState
awaiting for b = record b { phase = awaiting_phase for b.phase }
