-- The plan of a closing.
use Rattle.std.proofs.Common.{◌≡◌, ℕ, List, map, sym, ap, subst, ◌∙◌}
use Rattle.std.specs.Prelude.{IfSome}
use Rattle.std.specs.List.{flat_map}
use Rattle.std.specs.Option.{option_to_list}
use Rattle.close_mark.specs.ClosingPlans.Plans.{IsRoomy}
use Rattle.close_mark.specs.declared.closing_plans.planning.ClosingPlan.{ClosingPlan}
use Rattle.history_event.specs.declared.event.Range.{Range}
use Rattle.history_state.specs.Allowed.{IsOpened}
use Rattle.history_state.specs.Links.{IsUnneeded}
use Rattle.history_state.specs.Objects.{mapped, serial_of}
use Rattle.history_state.specs.State.{State}
use Rattle.history_state.specs.Step.{closing_of as waiting_of, lower}
use Rattle.link_spaces.specs.PendingClosingsPart.Pending.{closing_of}
use Rattle.scope_rule.specs.declared.namespace.Namespace.{Namespace}
use Rattle.link_state.specs.Closing.{IsPlanOf}
use Rattle.link_holds.specs.Holding.{HoldsAll, Lists}

-- ---- the plan

pub plan_of : (s : State) (hart handle : ℕ) (l : Lists) (nss : List Namespace) (ns : Namespace) (set : List ℕ) (plan : ClosingPlan) → HoldsAll s l → nss ≡ s.namespaces
    → IsOpened s handle ns → IsUnneeded (lower handle s) (map serial_of ns.objects) set → plan.list ≡ set → plan.dying.list ≡ set
    → map closing_of (option_to_list plan.pending) ≡ waiting_of hart set
    → IfSome plan.pending (IsRoomy (map serial_of (flat_map (λ (m : Namespace). m.objects) nss)) l.reserved.ranges) → IsPlanOf s hart handle plan
plan_of s hart handle l nss ns set plan holds are opened exactly list dying waits roomy = record {
  closes = record { namespace = ns; opened = opened; exactly = subst (IsUnneeded (lower handle s) (map serial_of ns.objects)) (sym list) exactly };
  dying = dying ∙ sym list;
  waits = waits ∙ ap (waiting_of hart) (sym list);
  roomy = subst (λ (rs : List Range). IfSome plan.pending (IsRoomy (map serial_of (mapped s)) rs)) holds.memory.ranges
      (subst (λ (all : List Namespace). IfSome plan.pending (IsRoomy (map serial_of (flat_map (λ (m : Namespace). m.objects) all)) l.reserved.ranges)) are roomy);
}
