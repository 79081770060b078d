-- What the name of an opening leads to (dlopen(3)).
use Rattle.std.specs.Prelude.{◌≡◌, ℕ, false, List, [], Option, None, Ok}
use Rattle.elf_object.specs.Verdict.{object_verdict}
use Rattle.ld_base.specs.declared.linking.File.{File}
use Rattle.ld_base.specs.declared.linking.Loaded.{Loaded}
use Rattle.history_event.specs.declared.event.OpenAsk.{OpenAsk}
use Rattle.history_state.specs.Flags.{is_deepbind}
use Rattle.history_state.specs.Objects.{is_startup}
use Rattle.history_state.specs.Opening.{Finds, IsNamed, IsNowhere, Refuses, there}
use Rattle.history_state.specs.Setting.{Setting}
use Rattle.history_state.specs.State.{State}
use Rattle.history_state.specs.Step.{namespace_before}
use Rattle.history_calls.specs.Waiting.{Waits}
use Rattle.load_walk.specs.declared.ask.LoadAsk.{LoadAsk}
use Rattle.load_walk.specs.declared.ask.LoadFault.{LoadFault}
use Rattle.load_walk.specs.declared.ask.LoadFault.TheVariants as faults
use Rattle.scope_rule.specs.Needed.{version_fault}
use Rattle.scope_rule.specs.declared.namespace.Namespace.{Namespace}
use Rattle.link_open_plan.specs.declared.opening_load.finding.Found.{Found}
use Rattle.link_open_plan.specs.declared.opening_load.finding.Found.TheVariants.{Absent, There, New}

-- the load that an opening by name asks for, once startup is over: preload names are the program's
abbrev pub ask_of : ℕ → ℕ → OpenAsk → List ℕ → List (List ℕ) → LoadAsk
ask_of next hart ask name folders = record {
  name = name;
  folders = folders;
  preload = [];
  hart = hart;
  next = next;
  program = false;
  deep = is_deepbind ask.flags;
}

-- an opening by name, once startup is over, which is to be made in this namespace: the next new object gets this serial, and the run reads these files
-- as objects, in these folders
pub record IsMade (w : Setting) (s : State) (ask : OpenAsk) (name : List ℕ) (id : ℕ) (ns : Namespace) (next : ℕ) (folders : List (List ℕ))
    (files : Option (List File)) : Type 0 where
  pub started : is_startup s ≡ false
  pub named : IsNamed s ask name id
  pub namespace : ns ≡ namespace_before s id
  pub next_is : next ≡ s.next
  pub verdict : w.machine.verdict ≡ object_verdict
  pub folders_are : w.folders ≡ folders
  pub files_are : w.files ≡ files

-- all names are found, and the versions that new objects need are there
pub record FindsAll (w : Setting) (s : State) (hart : ℕ) (ask : OpenAsk) (name : List ℕ) (id root : ℕ) (news : List Loaded) : Type 0 where
  pub finds : Finds w s hart ask name id root news
  pub versions : version_fault (there s id) news ≡ None

-- the new objects, where a load brings some
abbrev pub news_of : Found → List Loaded
news_of Absent = []
news_of (There root) = []
news_of (New plan) = plan.added

-- an object was read of some bytes, as a library
pub record WasLibrary (o : Loaded) : Type 0 where
  pub bytes : List ℕ
  pub is : object_verdict bytes false ≡ Ok (o.object, o.table)

-- it leads to no object that is there, to one that is there alone, or to what a load brings
abbrev pub LeadsTo : Setting → State → ℕ → OpenAsk → List ℕ → ℕ → Found → Type 0
LeadsTo w s hart ask name id Absent = IsNowhere w s hart ask name id
LeadsTo w s hart ask name id (There root) = Finds w s hart ask name id root []
LeadsTo w s hart ask name id (New plan) = FindsAll w s hart ask name id plan.root plan.added

-- or the load is refused, or has to wait, or memory is wanted
abbrev pub StopsAt : Setting → State → ℕ → OpenAsk → LoadFault → Type 0
StopsAt w s hart ask (faults.Refused fault) = Refuses w s hart ask fault
StopsAt w s hart ask (faults.Wait shown) = Waits w s hart ask shown
StopsAt w s hart ask faults.Memory = Unit {0}
