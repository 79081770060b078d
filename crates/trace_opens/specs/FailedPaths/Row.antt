-- What a plan over an empty file says of a failed read. For the code of this crate alone.
use Rattle.std.specs.Prelude.{◌≡◌, ◌≢◌, ℕ, false, List, [], ◌∷◌, Result, Ok, Err}
use Rattle.ld_base.specs.declared.fault.DlFault.TheVariants as faults
use Rattle.history_event.specs.declared.event.Event.{Event}
use Rattle.history_event.specs.declared.event.OpenAsk.{OpenAsk}
use Rattle.history_state.specs.Setting.{Setting}
use Rattle.history_calls.specs.Answer.{Answer}
use Rattle.history_calls.specs.Call.{opens}
use Rattle.history_calls.specs.Gives.{Gives}
use Rattle.history_calls.specs.Laws.{is_chance, is_read_fault}
use Rattle.link_open_plan.specs.declared.planning.Unopened.{Unopened}
use Rattle.link_open_plan.specs.declared.planning.Unopened.TheVariants as unopened
use Rattle.trace_opens.specs.FailedPaths.Emptied.{first_rule, is_broken}

-- neither chance nor the refusal of an empty file at the path
abbrev pub IsSure : List ℕ → Unopened → Type 0
IsSure path (unopened.Refused fault) = (is_read_fault fault ≡ false) × (fault ≢ faults.NotAccepted path first_rule)
IsSure path (unopened.Wait shown) = Unit {0}
IsSure path unopened.Memory = ⊥

abbrev pub IsSureOf : {X : Type 0} → List ℕ → Result X Unopened → Type 0
IsSureOf path (Ok plan) = Unit {0}
IsSureOf path (Err why) = IsSure path why

-- an opening gives something else than that refusal
pub record GivesOther (w : Setting) (past : List Event) (hart : ℕ) (ask : OpenAsk) (path : List ℕ) : Type 0 where
  pub given : List Event
  pub answer : Answer
  pub gives : Gives w past hart (opens ask) given answer
  pub sure : is_chance answer ≡ false
  pub other : given ≢ is_broken hart ask path first_rule ∷ []
