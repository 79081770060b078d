-- What a closing gives.
use Rattle.std.specs.Prelude.{◌≡◌, ℕ, IfSome, map}
use Rattle.std.specs.Option.{option_to_list}
use Rattle.close_mark.specs.ClosingPlans.Plans.{IsRoomy}
use Rattle.close_mark.specs.declared.closing_plans.planning.ClosingPlan.{ClosingPlan}
use Rattle.ld_base.specs.declared.fault.DlFault.TheVariants as refusals
use Rattle.history_state.specs.Allowed.{Closes, IsBadHandle}
use Rattle.history_state.specs.Objects.{mapped, serial_of}
use Rattle.history_state.specs.State.{State}
use Rattle.history_state.specs.Step.{closing_of as waiting_of}
use Rattle.link_spaces.specs.PendingClosingsPart.Pending.{closing_of}
use Rattle.link_state.specs.declared.faults.CloseFault.{CloseFault}
use Rattle.link_state.specs.declared.faults.CloseFault.TheVariants as faults

-- why nothing is closed: the handle is of no opening that may be closed
abbrev pub IsNotClosed : State → ℕ → CloseFault → Type 0
IsNotClosed s handle (faults.BadHandle number) = (number ≡ handle) × IsBadHandle s handle (refusals.BadHandle handle)
IsNotClosed s handle faults.Memory = Unit {0}

-- the plan has what dies, and with room for its unmapping what waits
pub record IsPlanOf (s : State) (hart handle : ℕ) (plan : ClosingPlan) : Type 0 where
  pub closes : Closes s handle plan.list
  pub dying : plan.dying.list ≡ plan.list
  pub waits : map closing_of (option_to_list plan.pending) ≡ waiting_of hart plan.list
  pub roomy : IfSome plan.pending (IsRoomy (map serial_of (mapped s)) s.ranges)
