-- What a run is given, and what its library may say (dlopen(3)).
use Rattle.std.specs.Prelude.{◌≡◌, ℕ, Bool, true, false, ◌&&◌, nat_le, ◌==◌, List, length, take, Option, Some, None, Result, Ok, Err}
use Rattle.std.specs.List.{list_all}
use Rattle.std.specs.Str.{bytes_eq}
use Rattle.ld_base.specs.declared.fault.NotAccepted.{NotAccepted}
use Rattle.ld_base.specs.declared.linking.File.{File}
use Rattle.ld_base.specs.declared.object.Object.{Object}
use Rattle.ld_base.specs.declared.parts.HashTable.{HashTable}
use Rattle.library_source.specs.Files.{file_at}
use Rattle.history_event.specs.declared.event.OpenAsk.{OpenAsk}
use Rattle.history_event.specs.declared.hart_end.HartEnd.{HartEnd}
use Rattle.history_event.specs.declared.hart_end.HartEnd.TheVariants as ends
use Rattle.history_event.specs.declared.state.Ending.{Ending}
use Rattle.scope_rule.specs.Finding.{Reading, here, unaccepted, absent, failed}
use Rattle.scope_rule.specs.Load.{Load}
use Rattle.history_state.specs.State.{State}
use Rattle.history_state.specs.Flags.{is_noload}
use Rattle.history_state.specs.Objects.{is_startup}
use Rattle.history_state.specs.Step.{namespace_before}

-- what a linker itself knows: how many harts run, and what bytes are, as the program's or as another object's: an object with its
-- hash table, or the rule that they break
pub record Machine : Type 0 where
  pub harts : ℕ
  pub verdict : List ℕ → Bool → Result (Object × HashTable) NotAccepted

-- and what it is given: where libraries are looked for, which names the program needs before its own, and what the files are, where
-- the library tells them
pub record Setting : Type 0 where
  pub machine : Machine
  pub folders : List (List ℕ)
  pub preload : List (List ℕ)
  pub files : Option (List File)

-- ---- readings

-- the bytes at a path may be these, or there may be none: those of the files, where they are told
abbrev pub MayHold : Option (List File) → List ℕ → Option (List ℕ) → Type 0
MayHold None path bytes = Unit {0}
MayHold (Some files) path bytes = file_at files path ≡ bytes

-- reading a path may give this: what some bytes are that may be there, no file where there may be none, or at any path a failed read
abbrev pub MayRead : Setting → Bool → List ℕ → Reading → Type 0
MayRead w program path (here o table) = (bytes : List ℕ) × MayHold w.files path (Some bytes) × (w.machine.verdict bytes program ≡ Ok (o, table))
MayRead w program path (unaccepted broken) = (bytes : List ℕ) × MayHold w.files path (Some bytes) × (w.machine.verdict bytes program ≡ Err broken)
MayRead w program path absent = MayHold w.files path None
MayRead w program path failed = Unit {0}

-- one answer for each path, for a load by this name. The program's own path is read as a program.
abbrev pub AreReadings : Setting → State → List ℕ → (List ℕ → Reading) → Type 0
AreReadings w s name reading = (path : List ℕ) → MayRead w (is_startup s && bytes_eq name path) path (reading path)

-- with RTLD_NOLOAD nothing is read
abbrev pub ReadingsBy : Bool → Setting → State → List ℕ → (List ℕ → Reading) → Type 0
ReadingsBy true w s name reading = (path : List ℕ) → reading path ≡ absent
ReadingsBy false w s name reading = AreReadings w s name reading

abbrev pub Readings : Setting → State → OpenAsk → List ℕ → (List ℕ → Reading) → Type 0
Readings w s ask name reading = ReadingsBy (is_noload ask.flags) w s name reading

-- the load of a name into a namespace
abbrev pub load_of : Setting → State → ℕ → ℕ → List ℕ → (List ℕ → Reading) → Load
load_of w s hart id name reading = record {
  name = name;
  folders = w.folders;
  preload = w.preload;
  program = is_startup s;
  hart = hart;
  next = s.next;
  there = (namespace_before s id).objects;
  reading = reading;
}

-- ---- ends

abbrev pub is_exit : HartEnd → Bool
is_exit e = elim e [ ends.Exit code ↦ true | _ ↦ false ]

abbrev pub exited : Ending → Bool
exited e = is_exit e.«end»

-- as many harts as there are have ended, and each by exit: the final destructors run, or have run
abbrev pub have_exited : Setting → State → Bool
have_exited w s = nat_le w.machine.harts (length s.endings) && list_all exited (take w.machine.harts s.endings)

-- no hart has ended since
abbrev pub are_finals : Setting → State → Bool
are_finals w s = length s.endings == w.machine.harts && have_exited w s
