-- Openings that a failed read refuses.
use Rattle.std.proofs.Common.{◌≡◌, ℕ, false, List, [], ◌∷◌, ◌++◌, Some, refl, ap}
use Rattle.std.specs.Option.{option_map}
use Rattle.ld_base.specs.declared.fault.DlFault.{DlFault}
use Rattle.ld_base.specs.declared.fault.DlFault.TheVariants as faults
use Rattle.ld_base.specs.declared.fault.NotAccepted.{NotAccepted}
use Rattle.ld_base.specs.declared.linking.File.{File}
use Rattle.history_event.specs.declared.event.Event.{Event}
use Rattle.history_event.specs.declared.event.OpenAsk.{OpenAsk}
use Rattle.history_state.specs.After.{after}
use Rattle.history_state.specs.Allowed.{Allowed}
use Rattle.history_state.specs.Opening.{IsStopped, Refuses, refused, there}
use Rattle.history_state.specs.Opening.Refuses.{name_too_long, bad_flags, bad_namespace, namespaces_full, stopped, lacks_version, has_no_pages, unrelocated}
use Rattle.history_state.specs.Setting.{Setting}
use Rattle.history_state.specs.State.{State}
use Rattle.history_calls.specs.Answer.{Answer}
use Rattle.history_calls.specs.Answer as came
use Rattle.history_calls.specs.Call.{opens}
use Rattle.history_calls.specs.Gives.{Gives}
use Rattle.history_calls.specs.Gives.EventAnswers.{is_not_opened}
use Rattle.history_calls.specs.Gives.Gives.{by_event}
use Rattle.history_calls.specs.Laws.{OneOpening, is_chance}
use Rattle.trace_opens.specs.FailedPaths.Emptied.{RefusesEmpty, emptied, is_broken, reads_badly, with_empty}
use Rattle.trace_opens.proofs.FailedPaths.Others.{IsOther, relocation_is, version_is}
use Rattle.trace_opens.proofs.FailedPaths.Stopped.{LoadLaws, emptied_fails, fails_anyway, fails_as_emptied}

-- what stops a load, where a refusal is of a file
pub record IsStop (w : Setting) (s : State) (hart : ℕ) (ask : OpenAsk) (fault : DlFault) : Type 0 where
  pub name : List ℕ
  pub id : ℕ
  pub is : IsStopped w s hart ask name id fault

stop_of : (w : Setting) (s : State) (hart : ℕ) (ask : OpenAsk) (fault : DlFault) → (IsOther fault → ⊥) → Refuses w s hart ask fault → IsStop w s hart ask fault
stop_of w s hart ask _ file (stopped name id fault x) = record { name = name; id = id; is = x }
stop_of w s hart ask _ file (lacks_version name id fault x) = absurd (file (version_is (there s id ++ x.news) x.news fault x.lacks))
stop_of w s hart ask _ file (unrelocated name id fault x) = absurd (file (relocation_is _ _ _ _ fault x.is))
stop_of w s hart ask _ file (name_too_long name named long too) = absurd (file tt)
stop_of w s hart ask _ file (bad_flags short bad) = absurd (file tt)
stop_of w s hart ask _ file (bad_namespace number short flags bad) = absurd (file tt)
stop_of w s hart ask _ file (namespaces_full short flags full) = absurd (file tt)
stop_of w s hart ask _ file (has_no_pages name id pages x) = absurd (file tt)

pub reads : LoadLaws → (w : Setting) (past : List Event) (hart : ℕ) (ask : OpenAsk) (path : List ℕ) (broken : NotAccepted) → Allowed (with_empty w path) past (is_broken hart ask path broken) → Allowed w past (reads_badly hart ask path)
reads laws w past hart ask path broken x =
    let stop : IsStop (with_empty w path) (after past) hart ask (faults.NotAccepted path broken) = stop_of (with_empty w path) (after past) hart ask (faults.NotAccepted path broken) (λ no. no) x.refuses in
    record { may = x.may; refuses = stopped stop.name stop.id (faults.ReadFault path) (emptied_fails laws w (after past) hart ask stop.name stop.id path broken stop.is) }

pub emptied_at : LoadLaws → (w : Setting) (past : List Event) (hart : ℕ) (ask : OpenAsk) (path : List ℕ) (broken : NotAccepted) → RefusesEmpty w broken
    → Allowed w past (reads_badly hart ask path) → Allowed (with_empty w path) past (is_broken hart ask path broken)
emptied_at laws w past hart ask path broken refuses_it x =
    let stop : IsStop w (after past) hart ask (faults.ReadFault path) = stop_of w (after past) hart ask (faults.ReadFault path) (λ no. no) x.refuses in
    record { may = x.may; refuses = stopped stop.name stop.id (faults.NotAccepted path broken) (fails_as_emptied laws w (after past) hart ask stop.name stop.id path broken refuses_it stop.is) }

pub anyway : LoadLaws → (w : Setting) (past : List Event) (hart : ℕ) (ask : OpenAsk) (path : List ℕ) (broken : NotAccepted) (failed : List ℕ) → RefusesEmpty w broken
    → Allowed (with_empty w path) past (reads_badly hart ask failed) → Allowed w past (reads_badly hart ask failed)
anyway laws w past hart ask path broken failed refuses_it x =
    let stop : IsStop (with_empty w path) (after past) hart ask (faults.ReadFault failed) = stop_of (with_empty w path) (after past) hart ask (faults.ReadFault failed) (λ no. no) x.refuses in
    record { may = x.may; refuses = stopped stop.name stop.id (faults.ReadFault failed) (fails_anyway laws w (after past) hart ask stop.name stop.id path broken failed refuses_it stop.is) }

pub only : LoadLaws → OneOpening → (w : Setting) (files : List File) (past : List Event) (hart : ℕ) (ask : OpenAsk) (path : List ℕ) (broken : NotAccepted) (given : List Event) (answer : Answer)
    → w.files ≡ Some files → RefusesEmpty w broken → Gives (with_empty w path) past hart (opens ask) given answer → is_chance answer ≡ false
    → Allowed w past (reads_badly hart ask path) → given ≡ is_broken hart ask path broken ∷ []
only laws one w files past hart ask path broken given answer are refuses_it gives sure may =
    (one (with_empty w path) past hart ask (emptied path files) given (is_broken hart ask path broken ∷ []) answer (came.refused (faults.NotAccepted path broken)) (ap (option_map (emptied path)) are) gives
    (by_event (opens ask) (is_broken hart ask path broken) (came.refused (faults.NotAccepted path broken)) (is_not_opened ask (faults.NotAccepted path broken)) (emptied_at laws w past hart ask path broken refuses_it may))
    sure refl).0
