-- A failed read, and an empty file in its place. For the code of this crate alone.
use Rattle.std.specs.Prelude.{◌≡◌, ℕ, Bool, false, List, [], ◌∷◌, Some, Err}
use Rattle.std.specs.Option.{option_map}
use Rattle.elf_object.specs.Verdict.{object_verdict}
use Rattle.ld_base.specs.declared.fault.DlFault.TheVariants as faults
use Rattle.ld_base.specs.declared.fault.NotAccepted.{NotAccepted}
use Rattle.ld_base.specs.declared.linking.File.{File}
use Rattle.history_event.specs.declared.event.Event.{Event}
use Rattle.history_event.specs.declared.event.Event.TheVariants.{Open}
use Rattle.history_event.specs.declared.event.OpenAnswer.TheVariants.{Refused}
use Rattle.history_event.specs.declared.event.OpenAsk.{OpenAsk}
use Rattle.history_state.specs.Allowed.{Allowed}
use Rattle.history_state.specs.Setting.{Setting}
use Rattle.history_calls.specs.Answer.{Answer}
use Rattle.history_calls.specs.Call.{opens}
use Rattle.history_calls.specs.Gives.{Gives}
use Rattle.history_calls.specs.Laws.{is_chance}

-- the same files, but that the one at a path is empty
abbrev pub emptied : List ℕ → List File → List File
emptied path files = record { path = path; bytes = [] } ∷ files

abbrev pub with_empty : Setting → List ℕ → Setting
with_empty w path = record w { files = option_map (emptied path) w.files }

-- the rule that an empty file breaks
abbrev pub first_rule : NotAccepted
first_rule = record { rule = 1; number = 0 }

abbrev pub EmptyIsRefused : Type 0
EmptyIsRefused = (program : Bool) → object_verdict [] program ≡ Err first_rule

-- an empty file is no object, since it breaks this rule
abbrev pub RefusesEmpty : Setting → NotAccepted → Type 0
RefusesEmpty w broken = (program : Bool) → w.machine.verdict [] program ≡ Err broken

abbrev pub reads_badly : ℕ → OpenAsk → List ℕ → Event
reads_badly hart ask path = Open hart ask (Refused (faults.ReadFault path))

abbrev pub is_broken : ℕ → OpenAsk → List ℕ → NotAccepted → Event
is_broken hart ask path broken = Open hart ask (Refused (faults.NotAccepted path broken))

-- an opening that a failed read refuses may come where it may be refused for the empty file
abbrev pub ReadsAsEmptied : Type 0
ReadsAsEmptied = (w : Setting) (past : List Event) (hart : ℕ) (ask : OpenAsk) (path : List ℕ) (broken : NotAccepted)
    → Allowed (with_empty w path) past (is_broken hart ask path broken) → Allowed w past (reads_badly hart ask path)

-- and where files are told and it may come, no answer that the opening gives over the empty file is another than that refusal
abbrev pub OnlyAsEmptied : Type 0
OnlyAsEmptied = (w : Setting) (files : List File) (past : List Event) (hart : ℕ) (ask : OpenAsk) (path : List ℕ) (broken : NotAccepted)
    (given : List Event) (answer : Answer) → w.files ≡ Some files → RefusesEmpty w broken
    → Gives (with_empty w path) past hart (opens ask) given answer → is_chance answer ≡ false
    → Allowed w past (reads_badly hart ask path) → given ≡ is_broken hart ask path broken ∷ []

-- a read that may fail over the empty file may fail without it, whichever it is
abbrev pub FailsAnyway : Type 0
FailsAnyway = (w : Setting) (past : List Event) (hart : ℕ) (ask : OpenAsk) (path : List ℕ) (broken : NotAccepted) (failed : List ℕ)
    → RefusesEmpty w broken → Allowed (with_empty w path) past (reads_badly hart ask failed) → Allowed w past (reads_badly hart ask failed)
