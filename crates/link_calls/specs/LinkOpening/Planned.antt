-- What an opening comes to before anything changes (dlopen(3), dlmopen(3)).
use Rattle.std.specs.Prelude.{◌≡◌, ℕ, [], map, Result, Ok, Err}
use Rattle.history_calls.specs.CallLaws.Laws.{AreNumberedFrom}
use Rattle.history_event.specs.declared.event.OpenAsk.{OpenAsk}
use Rattle.history_state.specs.Opening.{IsAbsent, IsRefused, Opens}
use Rattle.history_state.specs.Setting.{Setting}
use Rattle.history_state.specs.State.{State}
use Rattle.history_state.specs.Step.{binds, seen_after}
use Rattle.history_calls.specs.Waiting.{Waits}
use Rattle.history_calls.specs.LoadChoices.Choices.{choices_of}
use Rattle.link_open_plan.specs.declared.planning.NewObjects.{NewObjects}
use Rattle.link_open_plan.specs.declared.planning.Planned.{Planned}
use Rattle.link_open_plan.specs.declared.planning.Planned.TheVariants as plans
use Rattle.link_open_plan.specs.declared.planning.Unopened.{Unopened}
use Rattle.link_open_plan.specs.declared.planning.Unopened.TheVariants as unopened
use Rattle.link_calls.specs.declared.link_opening.planning.OpenPlan.{OpenPlan}

-- these objects may be opened; their serials follow one another, and this is what their relocations choose
pub record OpensNew (w : Setting) (s : State) (hart : ℕ) (ask : OpenAsk) (id : ℕ) (n : NewObjects) : Type 0 where
  pub opens : Opens w s hart ask id n.root n.added n.ranges
  pub choices : n.choices ≡ map (choices_of (seen_after s ask id n.root n.added) (binds s ask)) n.added
  pub numbered : AreNumberedFrom s.next n.added

-- in the namespace with this number the opening is absent, has a root that is there, or brings new objects
abbrev pub IsPlanIn : Setting → State → ℕ → OpenAsk → ℕ → Planned → Type 0
IsPlanIn w s hart ask id plans.Absent = IsAbsent w s hart ask
IsPlanIn w s hart ask id (plans.There root) = Opens w s hart ask id root [] []
IsPlanIn w s hart ask id (plans.New news) = OpensNew w s hart ask id news

abbrev pub IsOpenPlan : Setting → State → ℕ → OpenAsk → OpenPlan → Type 0
IsOpenPlan w s hart ask p = IsPlanIn w s hart ask p.ns p.planned

-- or it is refused, or has to wait, or memory is wanted
abbrev pub IsUnplanned : Setting → State → ℕ → OpenAsk → Unopened → Type 0
IsUnplanned w s hart ask (unopened.Refused fault) = IsRefused w s hart ask fault
IsUnplanned w s hart ask (unopened.Wait shown) = Waits w s hart ask shown
IsUnplanned w s hart ask unopened.Memory = Unit {0}

-- there is a plan, or memory is wanted
abbrev pub HasPlan : Result OpenPlan Unopened → Type 0
HasPlan (Ok plan) = Unit {0}
HasPlan (Err (unopened.Refused fault)) = ⊥
HasPlan (Err (unopened.Wait shown)) = ⊥
HasPlan (Err unopened.Memory) = Unit {0}
