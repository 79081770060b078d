-- An opening that finds all that it needs has a plan, or memory is wanted.
use Rattle.std.proofs.Common.{ℕ, List, [], ◌∷◌, Some, Err}
use Rattle.history_calls.specs.CallLaws.Coming.{IsOver}
use Rattle.history_calls.specs.CallLaws.Counts.{ShowsInCounts}
use Rattle.history_calls.specs.CallLaws.Laws.{OpensUnlessFaultsShow}
use Rattle.ld_base.specs.declared.linking.File.{File}
use Rattle.ld_base.specs.declared.linking.Loaded.{Loaded}
use Rattle.library_source.specs.Count.{Rises}
use Rattle.history_event.specs.declared.event.Event.{Event}
use Rattle.history_event.specs.declared.event.Event.TheVariants.{Open}
use Rattle.history_event.specs.declared.event.OpenAnswer.TheVariants as openings
use Rattle.history_event.specs.declared.event.OpenAsk.{OpenAsk}
use Rattle.history_event.specs.declared.event.Range.{Range}
use Rattle.history_state.specs.After.{after}
use Rattle.history_state.specs.Opening.{Opens}
use Rattle.history_state.specs.Setting.{Machine, Setting}
use Rattle.history_calls.specs.declared.link_served.served.Served.TheVariants as served
use Rattle.history_calls.specs.Gives.EventAnswers.{is_not_opened}
use Rattle.history_calls.specs.Gives.Gives.{by_event, to_again}
use Rattle.history_calls.specs.Waiting.Shows.{by_load}
use Rattle.link_open_plan.specs.Planned.{fault_in}
use Rattle.link_open_plan.specs.declared.planning.Unopened.{Unopened}
use Rattle.link_open_plan.specs.declared.planning.Unopened.TheVariants as unopened
use Rattle.link_calls.specs.LinkOpening.Planned.{HasPlan, IsUnplanned}

module _ (law : OpensUnlessFaultsShow) (m : Machine) (folders : List (List ℕ)) (files : List File) (past : List Event) (hart : ℕ) (ask : OpenAsk)
    (Are : List ℕ → List (List ℕ) → Type 0) (failures failures' misses misses' : ℕ) (none_fails : ¬ (Rises failures failures')) where
  -- why there is none is what no run over these files has
  pub has_plan : (why : Unopened) → ((w : Setting) → IsOver m folders (Some files) w → IsUnplanned w (after past) hart ask why)
      → ShowsInCounts Are (fault_in why) failures failures' misses misses'
      → (w : Setting) (id root : ℕ) (added : List Loaded) (ranges : List Range) → IsOver m folders (Some files) w → Opens w (after past) hart ask id root added ranges
      → HasPlan (Err why)
  has_plan (unopened.Refused fault) is counts =
      law m folders files past (Open hart ask (openings.Refused fault) ∷ []) hart ask (served.Refused fault) failures failures'
      (λ w over. by_event _ _ _ (is_not_opened ask fault) (is w over)) counts.failed none_fails
  has_plan (unopened.Wait shown) is counts =
      law m folders files past [] hart ask (served.Again shown) failures failures' (λ w over. to_again _ _ (by_load ask shown (is w over))) counts.failed none_fails
  has_plan unopened.Memory is counts = λ w id root added ranges over may. tt
