-- What a library counts while a run goes on (dlopen(3)): a read that failed and a file that isn't there have no other cause than the library.
use Rattle.std.specs.Prelude.{◌≡◌, ◌≤◌, ℕ, Bool, true, false, List, ◌++◌, Some}
use Rattle.std.specs.List.{AllByRecursion, list_any}
use Rattle.ld_base.specs.declared.fault.DlFault.{DlFault}
use Rattle.history_event.specs.declared.event.Event.{Event}
use Rattle.history_event.specs.declared.event.Event.TheVariants.{Open}
use Rattle.history_event.specs.declared.event.OpenAnswer.TheVariants.{Refused}
use Rattle.history_event.specs.declared.event.OpenAsk.{OpenAsk}
use Rattle.history_state.specs.Setting.{Setting}
use Rattle.history_calls.specs.CallLaws.Counts.{ArePaths, ShowsInCounts}
use Rattle.world_turns.specs.Counts.{Counts, ShowInCounts}
use Rattle.world_turns.specs.Turn.{Turn}
use Rattle.world_turns.specs.World.{World}
use Rattle.world_answers.specs.GuestsPart.Next.{NextRefusalIsCounted}

-- a library's counts at a moment
abbrev pub counts_at : {L : Type 0} → (L → ℕ) → (L → ℕ) → L → Counts
counts_at faults misses library = record { faults = faults library; misses = misses library }

-- they only go up
pub record Rise (before after : Counts) : Type 0 where
  pub faults : before.faults ≤ after.faults
  pub misses : before.misses ≤ after.misses

-- ---- openings that were refused

abbrev pub is_refusal : Event → Bool
is_refusal e = elim e [ Open hart ask answer ↦ elim answer [ Refused fault ↦ true | _ ↦ false ] | _ ↦ false ]

-- the journal has grown, and by no such event
pub record RefusesNone (old new : World) : Type 0 where
  pub appended : List Event
  pub are : new.journal ≡ old.journal ++ appended
  pub none : list_any is_refusal appended ≡ false

-- one that was refused for a read that failed, or for a library that is missing, shows that in the counts
abbrev pub IsShown : List (List ℕ) → (before after : Counts) → Event → Type 0
IsShown folders before after e = (h : ℕ) (ask : OpenAsk) (fault : DlFault) → e ≡ Open h ask (Refused fault)
    → ShowsInCounts (ArePaths folders) (Some fault) before.faults after.faults before.misses after.misses

-- the journal has grown: each of its new refusals shows in the counts, and so do all of them together
pub record IsCounted (folders : List (List ℕ)) (old new : World) (before after : Counts) : Type 0 where
  pub appended : List Event
  pub are : new.journal ≡ old.journal ++ appended
  pub each : AllByRecursion (IsShown folders before after) appended
  pub all : ShowInCounts folders appended before after

-- ---- a turn

-- a turn refuses nothing but the opening that it is, so that what is shown of that is shown of all its events
abbrev pub TurnsAreCounted : Type 0
TurnsAreCounted = (w : Setting) (h : ℕ) (folders : List (List ℕ)) (old new : World) (before after : Counts) → Rise before after → Turn w h old new
    → NextRefusalIsCounted folders old new.journal h before.faults after.faults before.misses after.misses → IsCounted folders old new before after
