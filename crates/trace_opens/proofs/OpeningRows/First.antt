-- Startup's opening, over the lists of a history in which nothing was loaded.
use Rattle.std.proofs.Common.{◌≡◌, ◌⊎◌, inl, inr, ⊎_elim, ℕ, List, [], Option, Some, None, refl, sym, ap, subst, ◌∙◌}
use Rattle.std.specs.Prelude.{IfSome, IsTrue}
use Rattle.ld_base.specs.declared.fault.DlFault.TheVariants as faults
use Rattle.ld_base.specs.declared.linking.Choice.{Choice}
use Rattle.ld_base.specs.declared.linking.File.{File}
use Rattle.history_event.specs.declared.event.Event.{Event}
use Rattle.history_event.specs.declared.event.Event.TheVariants.{Open}
use Rattle.history_event.specs.declared.event.OpenAnswer.{OpenAnswer}
use Rattle.history_event.specs.declared.event.OpenAnswer.TheVariants as opens
use Rattle.history_event.specs.declared.event.OpenAsk.{OpenAsk}
use Rattle.history_event.specs.declared.event_line.OpenLine.{OpenLine}
use Rattle.history_event.specs.declared.handed.Opening.{Opening}
use Rattle.history_state.specs.After.{after, after_from}
use Rattle.history_state.specs.Allowed.{Allowed}
use Rattle.history_state.specs.Asking.{IsStartupAsk}
use Rattle.history_state.specs.Legal.{Lawful}
use Rattle.history_state.specs.Objects.{is_startup}
use Rattle.history_state.specs.Read.{IsUntouched}
use Rattle.history_state.specs.Setting.{Machine, Setting}
use Rattle.history_state.specs.State.{State}
use Rattle.history_state.specs.Step.{binds, seen_after}
use Rattle.history_calls.specs.Laws.{OneOpening}
use Rattle.history_calls.specs.Startup.{program_ask}
use Rattle.history_calls.specs.declared.link_served.startup.Setup.{Setup}
use Rattle.link_open_images.specs.Relocated.{AreChoices}
use Rattle.link_open_plan.specs.Planned.{IsUnopened, PlansNew}
use Rattle.link_open_plan.specs.Startup.{run_of}
use Rattle.link_open_plan.specs.declared.planning.NewObjects.{NewObjects}
use Rattle.link_open_plan.specs.declared.planning.Planned.TheVariants as plans
use Rattle.link_open_plan.specs.declared.planning.Unopened.{Unopened}
use Rattle.trace_opens.specs.OpeningRows.Expected.{FindsEach, IsCertain, IsExpectedOpening, IsFound, LacksFiles, MayFailSo, MayOpenSo, brought, failed_path, trace_run, unplanned}
use Rattle.trace_opens.specs.OpeningRows.Startup.{IsExpectedFirst, IsSetupOf, StartupNeedsNoPast}
use Rattle.trace_opens.specs.declared.failed_paths.judging.Doubt.{Doubt}
use Rattle.trace_opens.specs.declared.failed_paths.judging.Doubt.TheVariants as doubts
use Rattle.trace_opens.proofs.FailedPaths.Plans.{start_ask, start_named}
use Rattle.trace_opens.proofs.OpeningRows.Answered.{expects_none, expects_plan}
use Rattle.trace_opens.proofs.OpeningRows.Begun.{begun_is, named_behind}
use Rattle.trace_replay.specs.Taken.{ChosenFor}

-- the run of the setup
pub run_is : (harts : ℕ) (folders : List (List ℕ)) (files : Option (List File)) (ask : OpenAsk) (setup : Setup) → IsSetupOf harts ask folders setup → trace_run harts folders files ≡ run_of setup files
run_is harts folders files ask setup s =
    ap (λ h. trace_run h folders files) s.harts_are
    ∙ ap (λ x. record (run_of setup files) { folders = x; preload = [] }) (sym s.folders_are)
    ∙ ap (λ x. record (run_of setup files) { preload = x }) (sym s.preload)

-- what new objects choose, whatever is kept and whichever harts have ended
chosen_behind : (s : State) → IsTrue (is_startup s) → IsUntouched s → (ask : OpenAsk) (id root : ℕ) (choices : List (List Choice)) (answer : OpenAnswer)
    → (past : List Event) → after past ≡ s → ChosenFor [] ask choices answer → ChosenFor past ask choices answer
unfolding after_from
chosen_behind s is u ask _ _ choices (opens.Done id root added ranges) past are x =
    subst (λ (t : State). AreChoices (seen_after t ask id root added) (binds t ask) added choices) (sym (are ∙ begun_is s is u)) x
chosen_behind s is u ask _ _ choices opens.Absent past are x = tt
chosen_behind s is u ask _ _ choices (opens.Refused fault) past are x = tt

module _ (law : StartupNeedsNoPast) (m : Machine) (w : Setting) (past : List Event) (lawful : Lawful m past) (begins : IsTrue (is_startup (after past)))
    (untouched : IsUntouched (after past)) where
  come_behind : (o : Opening) → MayOpenSo w [] o → MayOpenSo w past o
  come_behind o x = record {
    may = (law m w past o.hart o.ask o.answer lawful begins).1 x.may;
    chosen = chosen_behind (after past) begins untouched o.ask 0 0 o.choices o.answer past refl x.chosen;
  }

  some_behind : (found : Option Opening) → IfSome found (MayOpenSo w []) → IfSome found (MayOpenSo w past)
  some_behind (Some o) x = come_behind o x
  some_behind None x = tt

  all_behind : (hart : ℕ) (ask : OpenAsk) (line : OpenLine) (found : Option Opening) → hart ≡ 0 → FindsEach w [] 0 ask line found → FindsEach w past hart ask line found
  all_behind hart ask line found first all answer said allowed =
      subst (λ (h : ℕ). IsFound found (Open h ask answer)) (sym first)
      (all answer said ((law m w past 0 ask answer lawful begins).0 (subst (λ (h : ℕ). Allowed w past (Open h ask answer)) first allowed)))

  lacks_behind : (hart : ℕ) (ask : OpenAsk) → hart ≡ 0 → LacksFiles w [] 0 ask → LacksFiles w past hart ask
  unfolding after_from
  lacks_behind hart ask first u = record {
    loads = record {
      may = λ is. subst (λ (h : ℕ). IsStartupAsk h ask) (sym first) (u.loads.may refl);
      name = u.loads.name;
      id = u.loads.id;
      named = named_behind w (after past) hart ask u.loads.name u.loads.id begins untouched u.loads.named;
    };
    none = u.none;
  }

  pub expects_behind : (hart : ℕ) (ask : OpenAsk) (line : OpenLine) (found : Option Opening) → hart ≡ 0 → IsExpectedOpening w [] 0 ask line found → IsExpectedOpening w past hart ask line found
  expects_behind hart ask line found first x = record {
    may = some_behind found x.may;
    only = ⊎_elim (λ (all : FindsEach w [] 0 ask line found). inl (all_behind hart ask line found first all)) (λ (u : LacksFiles w [] 0 ask). inr (lacks_behind hart ask first u)) x.only;
  }

  pub fails_behind : (hart : ℕ) (ask : OpenAsk) → hart ≡ 0 → (doubt : Doubt) → MayFailSo w [] 0 ask doubt → MayFailSo w past hart ask doubt
  fails_behind hart ask first (doubts.ReadFault path) may =
      subst (λ (h : ℕ). Allowed w past (Open h ask (opens.Refused (faults.ReadFault path)))) (sym first) ((law m w past 0 ask (opens.Refused (faults.ReadFault path)) lawful begins).1 may)
  fails_behind hart ask first doubts.Memory may = tt

  -- nothing else may be asked for
  may_ask : (hart : ℕ) (ask : OpenAsk) (answer : OpenAnswer) → Allowed w past (Open hart ask answer) → IsStartupAsk hart ask
  may_ask hart ask (opens.Done id root added ranges) x = x.may begins
  may_ask hart ask opens.Absent x = x.may begins
  may_ask hart ask (opens.Refused fault) x = x.may begins

-- what the program's plan gives
module _ (one : OneOpening) (w : Setting) (setup : Setup) (line : OpenLine) (read : failed_path line ≡ None) where
  pub first_plan : (n : NewObjects) → PlansNew w (after []) 0 (program_ask setup) setup.program 0 n → IsExpectedFirst w (program_ask setup) line (Some (brought 0 (program_ask setup) 0 n))
  first_plan n is = expects_plan w [] 0 (program_ask setup) setup.program 0 (λ begins. start_ask setup) (start_named setup) one line read (plans.New n) is

  pub first_none : (why : Unopened) → IsCertain why → IsUnopened w (after []) 0 (program_ask setup) why → IsExpectedFirst w (program_ask setup) line (unplanned 0 (program_ask setup) why)
  first_none why certain is = expects_none w [] 0 (program_ask setup) setup.program 0 (λ begins. start_ask setup) (start_named setup) one line read why certain is
