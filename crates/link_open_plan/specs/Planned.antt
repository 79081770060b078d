-- What an opening by name comes to before anything changes (dlopen(3)).
use Rattle.std.specs.Prelude.{◌≡◌, ℕ, List, [], map, Option, Some, None, Result, Ok, Err}
use Rattle.history_calls.specs.CallLaws.Laws.{AreNumberedFrom}
use Rattle.ld_base.specs.declared.fault.DlFault.{DlFault}
use Rattle.ld_base.specs.declared.fault.DlFault.TheVariants as dl
use Rattle.ld_base.specs.declared.linking.Loaded.{Loaded}
use Rattle.history_event.specs.declared.event.OpenAsk.{OpenAsk}
use Rattle.history_state.specs.Opening.{IsNowhere, Loads, Refuses}
use Rattle.history_state.specs.Setting.{Setting}
use Rattle.history_state.specs.State.{State}
use Rattle.history_state.specs.Step.{binds, seen_after}
use Rattle.history_calls.specs.Waiting.{Waits}
use Rattle.load_walk.specs.declared.ask.LoadFault.{LoadFault}
use Rattle.load_walk.specs.declared.ask.LoadFault.TheVariants as loads
use Rattle.history_calls.specs.LoadChoices.Choices.{choices_of}
use Rattle.link_open_plan.specs.declared.object_choices.choosing.ChoiceFault.{ChoiceFault}
use Rattle.link_open_plan.specs.declared.object_choices.choosing.ChoiceFault.TheVariants as choosing
use Rattle.link_open_plan.specs.declared.object_places.placing.PlaceFault.{PlaceFault}
use Rattle.link_open_plan.specs.declared.object_places.placing.PlaceFault.TheVariants as placing
use Rattle.link_open_plan.specs.declared.planning.NewObjects.{NewObjects}
use Rattle.link_open_plan.specs.declared.planning.Planned.{Planned}
use Rattle.link_open_plan.specs.declared.planning.Planned.TheVariants as plans
use Rattle.link_open_plan.specs.declared.planning.Unopened.{Unopened}
use Rattle.link_open_plan.specs.declared.planning.Unopened.TheVariants as unopened

-- the load brings these objects, which stand at their places, with serials that follow one another, and no relocation of them is refused
pub record PlansNew (w : Setting) (s : State) (hart : ℕ) (ask : OpenAsk) (name : List ℕ) (id : ℕ) (n : NewObjects) : Type 0 where
  pub loads : Loads w s hart ask name id n.root n.added n.ranges
  pub choices : n.choices ≡ map (choices_of (seen_after s ask id n.root n.added) (binds s ask)) n.added
  pub numbered : AreNumberedFrom s.next n.added

-- the new objects of a plan
abbrev pub objects_of : Planned → List Loaded
objects_of plans.Absent = []
objects_of (plans.There root) = []
objects_of (plans.New news) = news.added

abbrev pub IsPlanned : Setting → State → ℕ → OpenAsk → List ℕ → ℕ → Planned → Type 0
IsPlanned w s hart ask name id plans.Absent = IsNowhere w s hart ask name id
IsPlanned w s hart ask name id (plans.There root) = Loads w s hart ask name id root [] []
IsPlanned w s hart ask name id (plans.New news) = PlansNew w s hart ask name id news

abbrev pub IsUnopened : Setting → State → ℕ → OpenAsk → Unopened → Type 0
IsUnopened w s hart ask (unopened.Refused fault) = Refuses w s hart ask fault
IsUnopened w s hart ask (unopened.Wait shown) = Waits w s hart ask shown
IsUnopened w s hart ask unopened.Memory = Unit {0}

-- which refusal it is, if it is one
abbrev pub fault_in : Unopened → Option DlFault
fault_in (unopened.Refused fault) = Some fault
fault_in (unopened.Wait shown) = None
fault_in unopened.Memory = None

abbrev pub refusal_in : {X : Type 0} → Result X Unopened → Option DlFault
refusal_in (Ok plan) = None
refusal_in (Err why) = fault_in why

-- neither a failed read nor a missing file is the cause of it
abbrev pub ShowsInNoCount : Unopened → Type 0
ShowsInNoCount (unopened.Refused (dl.ReadFault path)) = ⊥
ShowsInNoCount (unopened.Refused (dl.MissingLibrary name)) = ⊥
ShowsInNoCount why = Unit {0}

-- why nothing is opened, where nothing is found, has places or is chosen
abbrev pub load_fault : LoadFault → Unopened
load_fault (loads.Refused fault) = unopened.Refused fault
load_fault (loads.Wait shown) = unopened.Wait shown
load_fault loads.Memory = unopened.Memory

abbrev pub place_fault : PlaceFault → Unopened
place_fault (placing.Full pages) = unopened.Refused (dl.AddressSpaceFull pages)
place_fault placing.Memory = unopened.Memory

abbrev pub choice_fault : ChoiceFault → Unopened
choice_fault (choosing.Refused fault) = unopened.Refused fault
choice_fault choosing.Memory = unopened.Memory
