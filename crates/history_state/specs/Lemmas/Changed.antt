-- Changes of mapped objects in their places: what they do is all that an event changes of them.
use Rattle.std.proofs.Common.{◌≡◌, ℕ, Bool, true, false, eqb, List, refl}
use Rattle.std.specs.Prelude.{if◌then◌else◌}
use Rattle.ld_base.specs.declared.linking.Loaded.{Loaded}
use Rattle.ld_base.specs.declared.linking.State.{State as Doing}
use Rattle.ld_base.specs.declared.linking.State.TheVariants as states
use Rattle.history_state.specs.Objects.{has}
use Rattle.history_state.specs.Step.{dying_object, ready_object, ready_state}

-- nothing but what an object does changes
abbrev pub Leaves : (Loaded → Loaded) → Type 0
Leaves each = (q : Loaded) → (doing : Doing) × (each q ≡ record q { state = doing })

pub leaves_dying : (hart : ℕ) (set : List ℕ) → Leaves (dying_object hart set)
leaves_dying hart set q = at (has set q.serial)
  where
    at : (t : Bool) → (doing : Doing) × ((if t then record q { state = states.Dying hart } else q) ≡ record q { state = doing })
    at true = (states.Dying hart, refl)
    at false = (q.state, refl)

pub leaves_ready : (object : ℕ) → Leaves (ready_object object)
leaves_ready object q = at (eqb q.serial object)
  where
    made : (doing : Doing) → (to : Doing) × ((elim doing [ states.Initialising k ↦ record q { state = states.Ready } | other ↦ q ]) ≡ record q { state = to })
    made (states.Initialising k) = (states.Ready, refl)
    made states.Ready = (q.state, refl)
    made (states.Dying k) = (q.state, refl)

    at : (t : Bool) → (doing : Doing) × ((if t then ready_state q else q) ≡ record q { state = doing })
    at true = made q.state
    at false = (q.state, refl)
