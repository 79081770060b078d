-- What a library counts of the turns of a run: a read that failed, and a file that isn't there, have no other cause than the library.
use Rattle.std.specs.Prelude.{◌≡◌, ℕ, Bool, true, false, nat_lt, List, [], ◌∷◌, ◌++◌, length, drop, count_by}
use Rattle.ld_base.specs.declared.fault.DlFault.{DlFault}
use Rattle.ld_base.specs.declared.fault.DlFault.TheVariants as faults
use Rattle.history_event.specs.declared.event.Event.{Event}
use Rattle.history_event.specs.declared.event.Event.TheVariants.{Open}
use Rattle.history_event.specs.declared.event.OpenAnswer.TheVariants.{Refused}
use Rattle.library_source.specs.Count.{RisesBy}
use Rattle.scope_rule.specs.Finding.{candidates}
use Rattle.history_state.specs.Setting.{Setting}
use Rattle.history_calls.specs.Laws.{is_read_fault}
use Rattle.world_turns.specs.World.{World}

-- ---- lines of a journal

abbrev pub is_refused_for : (DlFault → Bool) → Event → Bool
is_refused_for of e = elim e [
  | Open hart ask answer ↦ elim answer [ Refused fault ↦ of fault | _ ↦ false ]
  | _ ↦ false
]

-- a library of this name is looked for at some path
abbrev pub has_candidate : List (List ℕ) → List ℕ → Bool
has_candidate folders name = nat_lt 0 (length (candidates folders name))

abbrev pub is_missed : List (List ℕ) → DlFault → Bool
is_missed folders fault = elim fault [ faults.MissingLibrary name ↦ has_candidate folders name | _ ↦ false ]

-- how many openings were refused for a read that failed, and how many for a library that is missing, though its name has a path
abbrev pub read_faults : List Event → ℕ
read_faults events = count_by (is_refused_for is_read_fault) events

abbrev pub missing_libraries : List (List ℕ) → List Event → ℕ
missing_libraries folders events = count_by (is_refused_for (is_missed folders)) events

-- ---- a library's counts

-- reads that failed, and files that weren't there
pub record Counts : Type 0 where
  pub faults : ℕ
  pub misses : ℕ

-- while these events were appended both rose at least as often as the events tell of them
pub record ShowInCounts (folders : List (List ℕ)) (appended : List Event) (old new : Counts) : Type 0 where
  pub faults : RisesBy (read_faults appended) old.faults new.faults
  pub misses : RisesBy (missing_libraries folders appended) old.misses new.misses

-- of a turn, and of a run from a moment on, the events are those that the journal has more
abbrev pub WorldShowsInCounts : Setting → (before after : World) → (old new : Counts) → Type 0
WorldShowsInCounts w before after old new = ShowInCounts w.folders (drop (length before.journal) after.journal) old new

-- ---- laws

-- counts of one turn after another are counts of both
abbrev pub CountsJoin : Type 0
CountsJoin = (folders : List (List ℕ)) (one other : List Event) (old between new : Counts) → ShowInCounts folders one old between
    → ShowInCounts folders other between new → ShowInCounts folders (one ++ other) old new

-- so they are of a run
abbrev pub RunsShowInCounts : Type 0
RunsShowInCounts = (w : Setting) (begun between ended : World) (one other : List Event) (old middle new : Counts) → between.journal ≡ begun.journal ++ one
    → ended.journal ≡ between.journal ++ other → WorldShowsInCounts w begun between old middle → WorldShowsInCounts w between ended middle new
    → WorldShowsInCounts w begun ended old new

-- who appends nothing has nothing to show
abbrev pub NothingShows : Type 0
NothingShows = (folders : List (List ℕ)) (counts : Counts) → ShowInCounts folders [] counts counts

-- a read fault that no count shows isn't one
abbrev pub NoneIsInvented : Type 0
NoneIsInvented = (folders : List (List ℕ)) (e : Event) (old new : Counts) → is_refused_for is_read_fault e ≡ true → old.faults ≡ 3 → new.faults ≡ 3
    → ShowInCounts folders (e ∷ []) old new → ⊥
