-- What an opening shows beside its answer: that it opens where it can, and in the library's counts why it doesn't (dlopen(3), dlmopen(3)).
use Rattle.std.specs.Prelude.{◌≡◌, ℕ, List, [], ◌∷◌, ◌++◌, Option, Some}
use Rattle.history_calls.specs.CallLaws.Coming.{IsOver, NeedsNoRead}
use Rattle.history_calls.specs.CallLaws.Counts.{ArePaths, ShowsInCounts}
use Rattle.hart_moves.specs.Due.{Due, Return}
use Rattle.history_journal.specs.Following.{machine_of}
use Rattle.ld_base.specs.declared.fault.DlFault.{DlFault}
use Rattle.ld_base.specs.declared.linking.File.{File}
use Rattle.ld_base.specs.declared.linking.Loaded.{Loaded}
use Rattle.library_source.specs.Count.{Rises}
use Rattle.link_calls.specs.Opening.{asked}
use Rattle.history_event.specs.declared.event.Event.{Event}
use Rattle.history_event.specs.declared.event.Event.TheVariants.{Open}
use Rattle.history_event.specs.declared.event.OpenAnswer.TheVariants.{Refused}
use Rattle.history_event.specs.declared.event.OpenAsk.{OpenAsk}
use Rattle.history_event.specs.declared.event.Range.{Range}
use Rattle.history_event.specs.declared.hart_end.HartEnd.TheVariants as ends
use Rattle.history_state.specs.After.{after}
use Rattle.history_state.specs.Opening.{Opens}
use Rattle.history_state.specs.Setting.{Setting}
use Rattle.history_state.specs.State.{State}
use Rattle.history_calls.specs.Call.{asked_namespace, caller_namespace, opens}
use Rattle.link_state.specs.Table.{LinkTable}
use Rattle.world_memory.specs.declared.turn_answers.answered.Answered.{Answered}
use Rattle.world_memory.specs.declared.turn_answers.answered.Answered.TheVariants as answered

-- ---- what is asked for

-- by a caller that the call returns to
abbrev pub dlopen_ask : State → ℕ → Option (List ℕ) → ℕ → OpenAsk
dlopen_ask s ra = asked (Some (caller_namespace s ra))

abbrev pub dlmopen_ask : ℕ → Option (List ℕ) → ℕ → OpenAsk
dlmopen_ask ns = asked (asked_namespace ns)

-- ---- reading

-- no other call than an opening reads files, and not each opening does
abbrev pub TurnReadsNothing : State → Due → Type 0
TurnReadsNothing s d = (ask : OpenAsk) (return : Return) → d ≡ Due.serve (opens ask) return → NeedsNoRead s ask

-- ---- success

-- the call answers this root's handle, or memory is wanted
abbrev pub Reaches : ℕ → Answered → Type 0
Reaches root (answered.Returns value does) = value ≡ root
Reaches root (answered.Loading handle installs functions) = handle ≡ root
Reaches root (answered.Closing dying functions) = ⊥
Reaches root (answered.Granted offered) = ⊥
Reaches root (answered.Told text message) = ⊥
Reaches root (answered.Again for) = ⊥
Reaches root (answered.Over reason) = reason ≡ ends.Memory

-- where the library tells its files and no read failed, an opening that finds all that it needs opens
abbrev pub AnswersUnlessReadsFail : LinkTable → List (List ℕ) → Option (List File) → ℕ → ℕ → ℕ → OpenAsk → Answered → Type 0
AnswersUnlessReadsFail old folders files failures failures' h ask came =
    (told : List File) → files ≡ Some told → ¬ (Rises failures failures') → (w : Setting) (id root : ℕ) (added : List Loaded) (ranges : List Range)
    → IsOver (machine_of old.harts) folders (Some told) w → Opens w (after old.events) h ask id root added ranges → Reaches root came

abbrev pub TurnAnswersUnlessReadsFail : LinkTable → List (List ℕ) → Option (List File) → ℕ → ℕ → ℕ → Due → Answered → Type 0
TurnAnswersUnlessReadsFail old folders files failures failures' h d came =
    (ask : OpenAsk) (return : Return) → d ≡ Due.serve (opens ask) return → AnswersUnlessReadsFail old folders files failures failures' h ask came

-- ---- refusals

-- an opening that was refused for a read that failed, or for a missing library, shows that in the library's counts
abbrev pub RefusalIsCounted : List (List ℕ) → (past events : List Event) → ℕ → (failures failures' misses misses' : ℕ) → Type 0
RefusalIsCounted folders past events h failures failures' misses misses' =
    (ask : OpenAsk) (fault : DlFault) → events ≡ past ++ Open h ask (Refused fault) ∷ []
    → ShowsInCounts (ArePaths folders) (Some fault) failures failures' misses misses'

abbrev pub TurnRefusalIsCounted : List (List ℕ) → (past events : List Event) → ℕ → Due → (failures failures' misses misses' : ℕ) → Type 0
TurnRefusalIsCounted folders past events h d failures failures' misses misses' =
    (ask : OpenAsk) (return : Return) → d ≡ Due.serve (opens ask) return → RefusalIsCounted folders past events h failures failures' misses misses'
