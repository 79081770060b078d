-- Each call that a hart may make has an answer other than want of memory, and an opening that nothing refuses opens.
use Rattle.std.specs.Prelude.{◌≡◌, ◌⊎◌, ℕ, ◌≤◌, false, List, length, Some, None, IsTrue}
use Rattle.ld_base.specs.declared.fault.DlFault.{DlFault}
use Rattle.ld_base.specs.declared.linking.Loaded.{Loaded}
use Rattle.history_event.specs.declared.event.Event.{Event}
use Rattle.history_event.specs.declared.event.OpenAsk.{OpenAsk}
use Rattle.history_event.specs.declared.event.Range.{Range}
use Rattle.history_event.specs.declared.event.SymAsk.{SymAsk}
use Rattle.scope_rule.specs.Finding.{Reading}
use Rattle.scope_rule.specs.Load.{Brings, Stop, Stops, Walk}
use Rattle.scope_rule.specs.Needed.{version_fault}
use Rattle.history_state.specs.Accepted.{AcceptsOnly}
use Rattle.history_state.specs.After.{after}
use Rattle.history_state.specs.Allowed.{MayWrite}
use Rattle.history_state.specs.Asking.{MayAsk, asks_too_long, is_too_long}
use Rattle.history_state.specs.Legal.{Lawful}
use Rattle.history_state.specs.Objects.{has_namespace}
use Rattle.history_state.specs.Opening.{Finds, HasNoPages, IsNamed, IsUnrelocated, Opens, there}
use Rattle.history_state.specs.Setting.{Machine, Readings, Setting, load_of}
use Rattle.history_state.specs.Slots.{HasNoGrant}
use Rattle.history_state.specs.State.{State}
use Rattle.history_calls.specs.declared.link_served.served.Served.{Served}
use Rattle.history_calls.specs.declared.link_served.served.Served.TheVariants as served
use Rattle.history_calls.specs.Answer.{Answer}
use Rattle.history_calls.specs.Call.{Call, caller_namespace, dlsym, dlvsym, resolves, opens, looks_up, closes, unmaps, asks_fault, locates, writes, stops}
use Rattle.history_calls.specs.Gives.{Gives}
use Rattle.history_calls.specs.Ends.{is_own_end}
use Rattle.history_calls.specs.Laws.{is_want}
use Rattle.history_calls.specs.Waiting.{HasFinished}

-- what a look-up is asked: of a caller's namespace, by a name and a version of which 256 bytes at most are known
pub record FitsSymbol (s : State) (ask : SymAsk) : Type 0 where
  pub namespace : IsTrue (has_namespace s ask.ns)
  pub name : length ask.name ≤ 256
  pub alone : IsTrue (is_too_long ask.name) → ask.version ≡ None
  pub version : (text : List ℕ) → ask.version ≡ Some text → length text ≤ 256

-- the load of a name comes to an end, by some answers that the library may give: it brings its objects, or it stops
pub record ComesToEnd (w : Setting) (s : State) (h : ℕ) (ask : OpenAsk) (name : List ℕ) (id : ℕ) : Type 0 where
  pub reading : List ℕ → Reading
  pub read : Readings w s ask name reading
  pub comes : ((walk : Walk) × Brings (load_of w s h id name reading) walk) ⊎ ((stop : Stop) × Stops (load_of w s h id name reading) stop)

-- what an opening asks for: at startup what startup does, by a name of which 256 bytes are known where it has more, and whose load comes to an end
pub record FitsOpening (w : Setting) (s : State) (h : ℕ) (ask : OpenAsk) : Type 0 where
  pub may : MayAsk s h ask
  pub known : (name : List ℕ) → ask.name ≡ Some name → IsTrue (asks_too_long s ask.name) → length name ≡ 256
  pub comes : (name : List ℕ) (id : ℕ) → IsNamed s ask name id → ComesToEnd w s h ask name id

-- what holds where a hart makes the call
abbrev pub MayMake : Setting → State → ℕ → Call → Type 0
MayMake w s h (resolves owner eights) = HasNoGrant s h
MayMake w s h (opens ask) = FitsOpening w s h ask
MayMake w s h (looks_up ask) = FitsSymbol s ask
MayMake w s h (closes handle) = Unit {0}
MayMake w s h (unmaps set) = HasFinished s h set
MayMake w s h asks_fault = Unit {0}
MayMake w s h (locates number offset) = Unit {0}
MayMake w s h (writes bytes) = MayWrite bytes
MayMake w s h (stops reason) = IsTrue (is_own_end reason)

pub record HasAnswer (w : Setting) (past : List Event) (h : ℕ) (call : Call) : Type 0 where
  pub given : List Event
  pub answer : Answer
  pub gives : Gives w past h call given answer
  pub ample : is_want answer ≡ false

abbrev pub Complete : Type 0
Complete = (m : Machine) (w : Setting) (past : List Event) (h : ℕ) (call : Call) → w.machine ≡ m → AcceptsOnly m → Lawful m past
    → MayMake w (after past) h call → HasAnswer w past h call

-- an opening whose names are all found and whose versions are there opens, unless there is no room or a relocation is refused
abbrev pub OpensUnlessRefused : Type 0
OpensUnlessRefused = (w : Setting) (past : List Event) (h : ℕ) (ask : OpenAsk) (name : List ℕ) (id root : ℕ) (news : List Loaded) → MayAsk (after past) h ask
    → IsNamed (after past) ask name id → Finds w (after past) h ask name id root news → version_fault (there (after past) id) news ≡ None
    → ((pages : ℕ) → ¬ (HasNoPages w (after past) h ask name id pages)) → ((fault : DlFault) → ¬ (IsUnrelocated w (after past) h ask name id fault))
    → (added : List Loaded) × (ranges : List Range) × Opens w (after past) h ask id root added ranges

-- the call answers this root's handle, or memory is wanted
abbrev pub OpensOr : ℕ → Served → Type 0
OpensOr root (served.Done value) = value ≡ root
OpensOr root (served.Opened handle installs functions) = handle ≡ root
OpensOr root (served.Closing dying functions) = ⊥
OpensOr root (served.Refused fault) = ⊥
OpensOr root (served.Again for) = ⊥
OpensOr root served.Memory = Unit {0}

-- what dlsym and dlvsym ask fits, where the caller's namespace is there
abbrev pub DlsymFits : Type 0
DlsymFits = (s : State) (ra handle : ℕ) (name : List ℕ) → IsTrue (has_namespace s (caller_namespace s ra))
    → (ask : SymAsk) → dlsym s ra handle name ≡ looks_up ask → FitsSymbol s ask

abbrev pub DlvsymFits : Type 0
DlvsymFits = (s : State) (ra handle : ℕ) (name version : List ℕ) → IsTrue (has_namespace s (caller_namespace s ra))
    → (ask : SymAsk) → dlvsym s ra handle name version ≡ looks_up ask → FitsSymbol s ask
