-- When an opening succeeds, when its object is absent, and when it is refused (dlopen(3), dlmopen(3)).
use Rattle.std.specs.Prelude.{◌≡◌, ℕ, false, List, [], length, map, Option, Some, None, Contains, IsTrue}
use Rattle.ld_base.specs.declared.fault.DlFault.{DlFault}
use Rattle.ld_base.specs.declared.fault.DlFault.TheVariants as faults
use Rattle.ld_base.specs.declared.linking.Loaded.{Loaded}
use Rattle.history_event.specs.declared.event.OpenAnswer.{OpenAnswer}
use Rattle.history_event.specs.declared.event.OpenAnswer.TheVariants as opens
use Rattle.history_event.specs.declared.event.OpenAsk.{OpenAsk}
use Rattle.history_event.specs.declared.event.Range.{Range}
use Rattle.scope_rule.specs.Finding.{Reading, absent}
use Rattle.scope_rule.specs.Load.{Brings, IsRoot, Stops, Walk, find_opened, nowhere, records_of, refuses}
use Rattle.scope_rule.specs.Loading.{is_dying}
use Rattle.scope_rule.specs.Needed.{version_fault}
use Rattle.history_state.specs.State.{State}
use Rattle.history_state.specs.Objects.{is_startup}
use Rattle.history_state.specs.Flags.{are_flags, is_deepbind, is_noload}
use Rattle.history_state.specs.Storage.{HaveModules, statics_with}
use Rattle.history_state.specs.Areas.{Area, AreBased, AreGiven, LacksRoom, areas, free_pages}
use Rattle.history_state.specs.Asking.{AreNamespacesFull, IsAsked, IsBadNamespace, MayAsk, asks_too_long}
use Rattle.history_state.specs.Step.{binds, loaded, namespace_before, seen_after}
use Rattle.history_state.specs.Relocating.{relocation_fault}
use Rattle.history_state.specs.Setting.{Readings, Setting, load_of}

-- ---- the stages of an opening

-- all names are found: what the load brings, its root, and the new objects, not placed yet
pub record Finds (w : Setting) (s : State) (hart : ℕ) (ask : OpenAsk) (name : List ℕ) (id root : ℕ) (news : List Loaded) : Type 0 where
  pub reading : List ℕ → Reading
  pub read : Readings w s ask name reading
  pub walk : Walk
  pub brings : Brings (load_of w s hart id name reading) walk
  pub root_is : IsRoot walk root
  pub are : news ≡ records_of (load_of w s hart id name reading) (is_deepbind ask.flags) walk

-- a new object as it was found
abbrev pub unplaced : Loaded → Loaded
unplaced o = record o { base = 0; «module» = None }

-- the objects that were there
abbrev pub there : State → ℕ → List Loaded
there s id = (namespace_before s id).objects

-- the new objects are those that were found, with their modules
pub record HaveStorage (s : State) (news added : List Loaded) : Type 0 where
  pub same : map unplaced added ≡ news
  pub modules : HaveModules (is_startup s) s.modules s.statics added

-- what is reserved for them and, at startup, beside them
abbrev pub wanted : Setting → State → List Loaded → List Area
wanted w s added = areas (is_startup s) (statics_with added s.statics) w.machine.harts added

-- they have pages, and their bases
pub record ArePlaced (w : Setting) (s : State) (added : List Loaded) (ranges : List Range) : Type 0 where
  pub left : List ℕ
  pub given : AreGiven (free_pages s.ranges) (wanted w s added) ranges left
  pub based : AreBased added ranges

-- the first relocation that is refused
abbrev pub refused : State → ℕ → OpenAsk → ℕ → ℕ → List Loaded → List Range → Option DlFault
refused s hart ask id root added ranges =
    relocation_fault (loaded s hart ask id root added ranges) (seen_after s ask id root added) (binds s ask) added

-- ---- success

-- an opening by name: one stage after another
pub record Loads (w : Setting) (s : State) (hart : ℕ) (ask : OpenAsk) (name : List ℕ) (id root : ℕ) (added : List Loaded) (ranges : List Range) : Type 0 where
  pub news : List Loaded
  pub finds : Finds w s hart ask name id root news
  pub versions : version_fault (there s id) news ≡ None
  pub storage : HaveStorage s news added
  pub placed : ArePlaced w s added ranges
  pub relocated : refused s hart ask id root added ranges ≡ None

-- the program is there
pub record HasProgram (s : State) : Type 0 where
  pub object : Loaded
  pub inside : Contains (there s 0) object
  pub is : object.serial ≡ 1
  pub stays : is_dying object ≡ false

-- the null name is the program's: nothing is loaded
pub record OpensProgram (s : State) (root : ℕ) (added : List Loaded) (ranges : List Range) : Type 0 where
  pub program : root ≡ 1
  pub none : added ≡ []
  pub no_pages : ranges ≡ []
  pub stands : HasProgram s

abbrev pub OpensName : Setting → State → ℕ → OpenAsk → Option (List ℕ) → ℕ → ℕ → List Loaded → List Range → Type 0
OpensName w s hart ask (Some name) id root added ranges = Loads w s hart ask name id root added ranges
OpensName w s hart ask None id root added ranges = OpensProgram s root added ranges

pub record Opens (w : Setting) (s : State) (hart : ℕ) (ask : OpenAsk) (id root : ℕ) (added : List Loaded) (ranges : List Range) : Type 0 where
  pub may : MayAsk s hart ask
  pub asked : IsAsked s ask id
  pub name : OpensName w s hart ask ask.name id root added ranges

-- ---- absence

-- with RTLD_NOLOAD, the name leads to no object that is there
pub record IsNowhere (w : Setting) (s : State) (hart : ℕ) (ask : OpenAsk) (name : List ℕ) (id : ℕ) : Type 0 where
  pub noload : IsTrue (is_noload ask.flags)
  pub none : find_opened (load_of w s hart id name (λ path. absent)) [] name ≡ nowhere

pub record IsAbsent (w : Setting) (s : State) (hart : ℕ) (ask : OpenAsk) : Type 0 where
  pub may : MayAsk s hart ask
  pub id : ℕ
  pub asked : IsAsked s ask id
  pub name : List ℕ
  pub named : ask.name ≡ Some name
  pub nowhere : IsNowhere w s hart ask name id

-- ---- refusals, in their order: each holds that the stages before it pass

-- a name that the load can be asked for
pub record IsNamed (s : State) (ask : OpenAsk) (name : List ℕ) (id : ℕ) : Type 0 where
  pub asked : IsAsked s ask id
  pub named : ask.name ≡ Some name

-- a name or a path stops the load
pub record IsStopped (w : Setting) (s : State) (hart : ℕ) (ask : OpenAsk) (name : List ℕ) (id : ℕ) (fault : DlFault) : Type 0 where
  pub named : IsNamed s ask name id
  pub reading : List ℕ → Reading
  pub read : Readings w s ask name reading
  pub loads : ¬ (IsNowhere w s hart ask name id)
  pub stops : Stops (load_of w s hart id name reading) (refuses fault)

-- a needed version isn't there
pub record LacksVersion (w : Setting) (s : State) (hart : ℕ) (ask : OpenAsk) (name : List ℕ) (id : ℕ) (fault : DlFault) : Type 0 where
  pub named : IsNamed s ask name id
  pub root : ℕ
  pub news : List Loaded
  pub finds : Finds w s hart ask name id root news
  pub lacks : version_fault (there s id) news ≡ Some fault

-- there are no pages for an object, a stack or a static area
pub record HasNoPages (w : Setting) (s : State) (hart : ℕ) (ask : OpenAsk) (name : List ℕ) (id pages : ℕ) : Type 0 where
  pub named : IsNamed s ask name id
  pub root : ℕ
  pub news : List Loaded
  pub finds : Finds w s hart ask name id root news
  pub versions : version_fault (there s id) news ≡ None
  pub added : List Loaded
  pub storage : HaveStorage s news added
  pub lacks : LacksRoom (free_pages s.ranges) (wanted w s added) pages

-- a relocation is refused
pub record IsUnrelocated (w : Setting) (s : State) (hart : ℕ) (ask : OpenAsk) (name : List ℕ) (id : ℕ) (fault : DlFault) : Type 0 where
  pub named : IsNamed s ask name id
  pub root : ℕ
  pub news : List Loaded
  pub finds : Finds w s hart ask name id root news
  pub versions : version_fault (there s id) news ≡ None
  pub added : List Loaded
  pub storage : HaveStorage s news added
  pub ranges : List Range
  pub placed : ArePlaced w s added ranges
  pub is : refused s hart ask id root added ranges ≡ Some fault

pub data Refuses (w : Setting) (s : State) (hart : ℕ) (ask : OpenAsk) : DlFault → Type 0 where
  name_too_long : (name : List ℕ) → ask.name ≡ Some name → length name ≡ 256 → IsTrue (asks_too_long s ask.name)
      → Refuses w s hart ask faults.NameTooLong
  bad_flags : asks_too_long s ask.name ≡ false → are_flags ask.flags ≡ false → Refuses w s hart ask (faults.BadFlags ask.flags)
  bad_namespace : (number : ℕ) → asks_too_long s ask.name ≡ false → IsTrue (are_flags ask.flags) → IsBadNamespace s ask.ns ask.name number
      → Refuses w s hart ask (faults.BadNamespace number)
  namespaces_full : asks_too_long s ask.name ≡ false → IsTrue (are_flags ask.flags) → AreNamespacesFull s ask.ns ask.name
      → Refuses w s hart ask faults.NamespacesFull
  stopped : (name : List ℕ) (id : ℕ) (fault : DlFault) → IsStopped w s hart ask name id fault → Refuses w s hart ask fault
  lacks_version : (name : List ℕ) (id : ℕ) (fault : DlFault) → LacksVersion w s hart ask name id fault → Refuses w s hart ask fault
  has_no_pages : (name : List ℕ) (id pages : ℕ) → HasNoPages w s hart ask name id pages → Refuses w s hart ask (faults.AddressSpaceFull pages)
  unrelocated : (name : List ℕ) (id : ℕ) (fault : DlFault) → IsUnrelocated w s hart ask name id fault → Refuses w s hart ask fault

pub record IsRefused (w : Setting) (s : State) (hart : ℕ) (ask : OpenAsk) (fault : DlFault) : Type 0 where
  pub may : MayAsk s hart ask
  pub refuses : Refuses w s hart ask fault

-- ---- an opening

abbrev pub MayOpen : Setting → State → ℕ → OpenAsk → OpenAnswer → Type 0
MayOpen w s hart ask (opens.Done id root added ranges) = Opens w s hart ask id root added ranges
MayOpen w s hart ask opens.Absent = IsAbsent w s hart ask
MayOpen w s hart ask (opens.Refused fault) = IsRefused w s hart ask fault
