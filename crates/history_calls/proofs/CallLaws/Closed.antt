-- What a closing keeps.
use Rattle.std.proofs.Common.{◌≡◌, ℕ, List, refl}
use Rattle.history_event.specs.declared.event.CloseAnswer.TheVariants as closings
use Rattle.history_event.specs.declared.event.Event.TheVariants.{Close}
use Rattle.history_state.specs.Links.{finis_of}
use Rattle.history_state.specs.Memory.{image_of}
use Rattle.history_state.specs.State.{State}
use Rattle.history_state.specs.Step.{die, lower, step}

pub images_kept : (s : State) (h handle serial : ℕ) (set : List ℕ) → image_of (step s (Close h handle (closings.Done set))) serial ≡ image_of s serial
unfolding die lower
images_kept s h handle serial set = refl

pub order_kept : (s : State) (h handle : ℕ) (set objects : List ℕ) → finis_of (step s (Close h handle (closings.Done set))) objects ≡ finis_of s objects
unfolding die lower
order_kept s h handle set objects = refl
