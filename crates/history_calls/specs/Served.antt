-- What a hart's calls of dl functions answer, as their caller gets it (dlopen(3), dlsym(3), dlclose(3)).
use Rattle.std.specs.Prelude.{◌≡◌, ℕ, ◌+◌, ◌*◌, ◌<◌, Bool, not, List, [], ◌∷◌, ◌++◌, length, map, filter, flat_map, take, Option, Some}
use Rattle.std.specs.List.{slice_get}
use Rattle.std.specs.Option.{option_map}
use Rattle.ld_base.specs.FaultText.{fault_text}
use Rattle.ld_base.specs.declared.fault.DlFault.{DlFault}
use Rattle.ld_base.specs.declared.linking.Loaded.{Loaded}
use Rattle.ld_base.specs.declared.object.Reloc.{Reloc}
use Rattle.history_event.specs.declared.event.Event.{Event}
use Rattle.history_event.specs.declared.event.Event.TheVariants.{Open, Sym, Tls}
use Rattle.history_event.specs.declared.event.OpenAnswer.TheVariants.{Done as Loads}
use Rattle.history_event.specs.declared.event.OpenAsk.{OpenAsk}
use Rattle.history_event.specs.declared.event.Range.{Range}
use Rattle.history_event.specs.declared.event.SymAnswer.{SymAnswer}
use Rattle.history_event.specs.declared.event.SymAsk.{SymAsk}
use Rattle.history_event.specs.declared.handed.Function.{Function}
use Rattle.history_calls.specs.declared.link_served.installs.Installs.{Installs}
use Rattle.history_calls.specs.declared.link_served.installs.SlotWord.{SlotWord}
use Rattle.history_calls.specs.declared.link_served.served.Served.{Served}
use Rattle.history_calls.specs.declared.link_served.served.Served.TheVariants as served
use Rattle.seg_image.specs.Pages.{guest_address}
use Rattle.seg_image.specs.declared.image.Image.{Image}
use Rattle.history_state.specs.After.{after}
use Rattle.history_state.specs.Bound.{lazy_word}
use Rattle.history_state.specs.Memory.{is_data_purpose, role_at, first_word_at}
use Rattle.history_state.specs.Objects.{serial_of}
use Rattle.history_state.specs.Setting.{Setting}
use Rattle.history_state.specs.State.{State}
use Rattle.history_state.specs.Step.{block_ranges}
use Rattle.history_calls.specs.Answer.{returns, loading, closing, refused, told, again}
use Rattle.history_calls.specs.Call.{Call, asks_fault}
use Rattle.history_calls.specs.Functions.{AreConstructors, AreDestructors}
use Rattle.history_calls.specs.Gives.{Gives}

-- ---- what guest memory gets

-- the words of a range's pages are those of memory, with their roles
pub record AreWordsOf (s : State) (r : Range) (image : Image) : Type 0 where
  pub start : image.start ≡ r.address
  pub all : length image.words ≡ 512 * r.pages
  pub each : (k : ℕ) → k < 512 * r.pages
      → slice_get image.words k ≡ Some (record { value = first_word_at s (r.address + 8 * k); role = role_at s (r.address + 8 * k) })

-- an image a range, in their order
abbrev pub AreImages : State → List Range → List Image → Type 0
AreImages s [] [] = Unit {0}
AreImages s [] (image ∷ images) = ⊥
AreImages s (r ∷ ranges) [] = ⊥
AreImages s (r ∷ ranges) (image ∷ images) = AreWordsOf s r image × AreImages s ranges images

-- the pages of stacks, static areas and blocks
abbrev pub is_area : Range → Bool
is_area r = is_data_purpose r.purpose

-- where the slots of an object stand, and what they hold until they are bound
abbrev pub slot_word : Loaded → Reloc → SlotWord
slot_word o r = record { address = guest_address o.base r.place; lazy = lazy_word o r }

abbrev pub slots_of : Loaded → List SlotWord
slots_of o = map (slot_word o) o.object.plt_relocs

-- what new objects with these ranges put into memory, in the state with them
pub record AreInstalls (s : State) (added : List Loaded) (ranges : List Range) (installs : Installs) : Type 0 where
  pub images : AreImages s (filter (λ r. not (is_area r)) ranges) installs.images
  pub slots : installs.slots ≡ flat_map slots_of added
  pub areas : AreImages s (filter is_area ranges) installs.areas

-- what a hart's new block of an object's module puts there
abbrev pub AreBlockInstalls : State → ℕ → ℕ → ℕ → Installs → Type 0
AreBlockInstalls s hart serial address installs = AreInstalls s [] (block_ranges s hart serial address) installs

-- nothing is put there
pub record InstallsNothing (installs : Installs) : Type 0 where
  pub images : installs.images ≡ []
  pub slots : installs.slots ≡ []
  pub areas : installs.areas ≡ []

-- what a look-up, or a request of a block, that appended these events made, in the state after them: the words of the block, where its event is
-- one of them, and else nothing
pub data Makes (s : State) : List Event → Installs → Type 0 where
  a_block : (hart serial address : ℕ) (rest : List Event) (made : Installs) → AreBlockInstalls s hart serial address made
      → Makes s (Tls hart serial address ∷ rest) made
  no_block : (hart : ℕ) (ask : SymAsk) (answer : SymAnswer) (made : Installs) → InstallsNothing made → Makes s (Sym hart ask answer ∷ []) made
  no_event : (made : Installs) → InstallsNothing made → Makes s [] made

-- ---- what a call answers

-- new objects are loaded: what memory gets, and their constructors
pub record IsOpened (w : Setting) (past : List Event) (h : ℕ) (call : Call) (root : ℕ) (installs : Installs)
    (functions : List Function) (given : List Event) : Type 0 where
  pub ask : OpenAsk
  pub id : ℕ
  pub added : List Loaded
  pub ranges : List Range
  pub is : given ≡ Open h ask (Loads id root added ranges) ∷ []
  pub gives : Gives w past h call given (loading root added)
  pub installed : AreInstalls (after (past ++ given)) added ranges installs
  pub constructed : AreConstructors (after (past ++ given)) (map serial_of added) functions

-- objects die: their destructors
pub record IsClosing (w : Setting) (past : List Event) (h : ℕ) (call : Call) (set : List ℕ) (functions : List Function) (given : List Event) : Type 0 where
  pub gives : Gives w past h call given (closing set)
  pub finalised : AreDestructors (after (past ++ given)) set functions

-- the text that dlerror answers: its first 511 bytes
abbrev pub answer_text : DlFault → List ℕ
answer_text fault = take 511 (fault_text fault)

-- dlerror tells the fault that is kept for the hart, where there is one
pub record IsTold (w : Setting) (past : List Event) (h : ℕ) (text : Option (List ℕ)) (given : List Event) : Type 0 where
  pub fault : Option DlFault
  pub gives : Gives w past h asks_fault given (told fault)
  pub is : text ≡ option_map answer_text fault

-- what came of a call of the hart, which appended these events; want of memory leaves all as it was. Where no files are told this says that each
-- path that was read may have held what was found there, and no more: that a read failed, or that a path had no file, the library's counts show
abbrev pub IsServed : Setting → List Event → ℕ → Call → Served → List Event → Type 0
IsServed w past h call (served.Done value) given = Gives w past h call given (returns value)
IsServed w past h call (served.Opened root installs functions) given = IsOpened w past h call root installs functions given
IsServed w past h call (served.Closing dying functions) given = IsClosing w past h call dying.list functions given
IsServed w past h call (served.Refused fault) given = Gives w past h call given (refused fault)
IsServed w past h call (served.Again for) given = Gives w past h call given (again for)
IsServed w past h call served.Memory given = given ≡ []
