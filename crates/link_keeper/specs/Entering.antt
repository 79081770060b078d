-- The events of a turn, and what the linker answers by each. For the code of this crate alone.
use Rattle.std.specs.Prelude.{◌≡◌, ℕ, true, List, [], ◌∷◌, ◌++◌, length, Option, Some, None}
use Rattle.std.specs.List.{AllByRecursion}
use Rattle.ld_base.specs.declared.fault.DlFault.{DlFault}
use Rattle.history_event.specs.declared.event.Event.{Event}
use Rattle.history_event.specs.declared.event.Event.TheVariants.{Tls, Told}
use Rattle.history_event.specs.declared.event.Range.{Range}
use Rattle.history_event.specs.declared.state.Module.{Module}
use Rattle.word_rule.specs.declared.entry.Entry.{Entry}
use Rattle.history_state.specs.State.{State}
use Rattle.hart_moves.specs.Moves.{stack_start}
use Rattle.hart_trails.specs.Entries.{answered, entry_behind, module_of}
use Rattle.kept_words.specs.Staying.{leaves_memory}

-- none of these events brings or takes an object, a block or a grant
abbrev pub AreQuiet : List Event → Type 0
AreQuiet events = AllByRecursion (λ e. leaves_memory e ≡ true) events

-- those of a turn: none behind the first one does
pub data AreOneTurns : List Event → Type 0 where
  none : AreOneTurns []
  some : (e : Event) (rest : List Event) → AreQuiet rest → AreOneTurns (e ∷ rest)

-- where the text of dlerror stands
abbrev pub of_telling : State → ℕ → Option DlFault → ℕ
of_telling s hart None = 0
of_telling s hart (Some fault) = stack_start s hart

-- what an event answers its hart, by the pages that are reserved
abbrev pub AnswersBy : List Range → Event → ℕ → Type 0
AnswersBy ranges e value = (s : State) → ((hart : ℕ) (fault : DlFault) → e ≡ Told hart (Some fault) → ranges ≡ s.ranges) → value ≡ answered s e

-- the module of a new block, by the modules that are there
abbrev pub ModuleBy : List Module → Event → ℕ → Type 0
ModuleBy modules e number = (s : State) → ((hart owner address : ℕ) → e ≡ Tls hart owner address → modules ≡ s.modules) → number ≡ module_of s e

-- the entry of the event at a place of a journal, where those behind it are quiet
abbrev pub EntersAt : List Event → ℕ → Entry → Type 0
EntersAt journal index entry = (past : List Event) (e : Event) (rest : List Event) → journal ≡ past ++ e ∷ rest → length past ≡ index → AreQuiet rest
    → entry ≡ entry_behind past e
