-- Which event may come next.
use Rattle.std.specs.Prelude.{◌≡◌, ◌≢◌, ℕ, ◌+◌, ◌-◌, ◌≤◌, ◌⊎◌, false, ◌==◌, if◌then◌else◌, List, [], ◌++◌, length, map, find, Option, Some, Contains, IsTrue}
use Rattle.std.specs.List.{slice_get}
use Rattle.std.specs.Option.{option_map}
use Rattle.ld_base.specs.declared.fault.DlFault.{DlFault}
use Rattle.ld_base.specs.declared.fault.DlFault.TheVariants as faults
use Rattle.ld_base.specs.declared.linking.Choice.{Choice}
use Rattle.history_event.specs.declared.event.CloseAnswer.{CloseAnswer}
use Rattle.history_event.specs.declared.event.CloseAnswer.TheVariants as closes
use Rattle.history_event.specs.declared.event.Event.{Event}
use Rattle.history_event.specs.declared.event.Event.TheVariants as events
use Rattle.history_event.specs.declared.state.Closing.{Closing}
use Rattle.history_event.specs.declared.state.Granting.{Granting}
use Rattle.history_event.specs.declared.state.Loading.{Loading}
use Rattle.history_event.specs.declared.state.Standing.TheVariants.{Open}
use Rattle.scope_rule.specs.declared.namespace.Namespace.{Namespace}
use Rattle.scope_rule.specs.declared.namespace.OpenRec.{OpenRec}
use Rattle.history_state.specs.State.{State}
use Rattle.history_state.specs.Objects.{IsMapped, has, mapped, serial_of}
use Rattle.history_state.specs.Addresses.{address}
use Rattle.history_state.specs.Grants.{target_of}
use Rattle.history_state.specs.Links.{IsInitNext, IsUnneeded, finis_of}
use Rattle.history_state.specs.Slots.{HasNoGrant, MayBeBound, MayBind, MayLose, MayNotBeBound}
use Rattle.history_state.specs.Lookup.{MayAnswer, MayHaveBlock}
use Rattle.history_state.specs.Opening.{MayOpen}
use Rattle.history_state.specs.Setting.{Setting, are_finals, have_exited}
use Rattle.history_state.specs.Step.{lower}
use Rattle.history_state.specs.After.{after}

-- ---- closing

-- how often dlclose may still close it: startup's own opening, of the program, doesn't count
abbrev pub closable : OpenRec → ℕ
closable r = if r.root == 1 then r.count - 1 else r.count

-- the namespace has an opening of the handle that may be closed
pub record IsOpened (s : State) (handle : ℕ) (ns : Namespace) : Type 0 where
  pub there : Contains s.namespaces ns
  pub opening : OpenRec
  pub inside : Contains ns.opens opening
  pub of : opening.root ≡ handle
  pub counts : 1 ≤ closable opening

-- once one opening less counts, exactly these objects of its namespace nothing needs
pub record Closes (s : State) (handle : ℕ) (dying : List ℕ) : Type 0 where
  pub namespace : Namespace
  pub opened : IsOpened s handle namespace
  pub exactly : IsUnneeded (lower handle s) (map serial_of namespace.objects) dying

-- the handle isn't of an opening that may be closed
pub record IsBadHandle (s : State) (handle : ℕ) (fault : DlFault) : Type 0 where
  pub none : (ns : Namespace) → ¬ (IsOpened s handle ns)
  pub is : fault ≡ faults.BadHandle handle

abbrev pub MayClose : State → ℕ → CloseAnswer → Type 0
MayClose s handle (closes.Done dying) = Closes s handle dying
MayClose s handle (closes.Refused fault) = IsBadHandle s handle fault

-- ---- unmapping

-- neither owner nor target of an open grant is one of the set
abbrev pub IsUngranted : State → List ℕ → Type 0
IsUngranted s set = (g : Granting) (d : ℕ) → Contains s.grants g → g.standing ≡ Open → Contains set d → (g.owner ≢ d) × ¬ (Contains (target_of g.choice) d)

-- the objects of a closing of this hart, whose destructors have run
pub record MayUnmap (s : State) (hart : ℕ) (set : List ℕ) : Type 0 where
  pub some : set ≢ []
  pub closing : Closing
  pub there : Contains s.closings closing
  pub by : closing.hart ≡ hart
  pub whole : closing.set ≡ set
  pub done : finis_of s set ≡ []
  pub free : IsUngranted s set

-- ---- granting

-- the next number, by a hart without an open grant, for a slot that may be bound to what it chooses now
pub record MayGrant (s : State) (number hart owner slot : ℕ) (choice : Choice) (value : ℕ) : Type 0 where
  pub numbered : number ≡ length s.grants + 1
  pub free : HasNoGrant s hart
  pub may : MayBeBound s owner slot choice
  pub is : value ≡ address s choice

-- the hart asked for a slot that may not be bound
pub record IsUnresolved (s : State) (hart owner slot : ℕ) (choice : Choice) : Type 0 where
  pub free : HasNoGrant s hart
  pub may_not : MayNotBeBound s owner slot choice

-- ---- constructors and destructors

-- the hart loaded the object, which is next of those of its loading
pub record MayInitialise (s : State) (hart object : ℕ) : Type 0 where
  pub loading : Loading
  pub there : Contains s.loadings loading
  pub by : loading.hart ≡ hart
  pub next : IsInitNext s loading object

-- it stands first
abbrev pub IsFirst : List ℕ → ℕ → Type 0
IsFirst finis object = slice_get finis 0 ≡ Some object

-- it is the next of a closing of this hart
pub record ByClosing (s : State) (hart object : ℕ) : Type 0 where
  pub closing : Closing
  pub there : Contains s.closings closing
  pub by : closing.hart ≡ hart
  pub next : IsFirst (finis_of s closing.set) object

-- it was the next of all mapped objects at a moment since every hart ended by exit
pub record WasNext (w : Setting) (past : List Event) (object : ℕ) : Type 0 where
  pub before : List Event
  pub since : List Event
  pub are : past ≡ before ++ since
  pub over : IsTrue (have_exited w (after before))
  pub next : IsFirst (finis_of (after before) (map serial_of (mapped (after before)))) object

-- the final destructors: hart 0 runs those of all mapped objects
pub record AtTheEnd (w : Setting) (past : List Event) (s : State) (hart object : ℕ) : Type 0 where
  pub first_hart : hart ≡ 0
  pub mapped : IsMapped s object
  pub initialised : IsTrue (has s.inits object)
  pub unfinished : has s.finis object ≡ false
  pub was : WasNext w past object

-- ---- what a hart writes, is told, and ends as

pub record MayWrite (bytes : List ℕ) : Type 0 where
  pub some : 1 ≤ length bytes
  pub few : length bytes ≤ 256

abbrev pub kept_for : State → ℕ → Option DlFault
kept_for s hart = option_map (λ k. k.fault) (find (λ k. k.hart == hart) s.kept)

-- the hart hasn't ended, or it is hart 0 in the final destructors
abbrev pub MayEnd : Setting → State → ℕ → Type 0
MayEnd w s hart = (has (map (λ e. e.hart) s.endings) hart ≡ false) ⊎ ((hart ≡ 0) × IsTrue (are_finals w s))

-- ---- events

-- the event may come in this state, after these events
abbrev pub AllowedIn : Setting → List Event → State → Event → Type 0
AllowedIn w past s (events.Open hart ask answer) = MayOpen w s hart ask answer
AllowedIn w past s (events.Close hart handle answer) = MayClose s handle answer
AllowedIn w past s (events.Unmapped hart set) = MayUnmap s hart set
AllowedIn w past s (events.Grant number hart owner slot choice value) = MayGrant s number hart owner slot choice value
AllowedIn w past s (events.Bound number) = MayBind s number
AllowedIn w past s (events.Lost number saw) = MayLose s number saw
AllowedIn w past s (events.Unresolved hart owner slot choice) = IsUnresolved s hart owner slot choice
AllowedIn w past s (events.Sym hart ask answer) = MayAnswer s hart ask answer
AllowedIn w past s (events.Tls hart owner address) = MayHaveBlock s hart owner address
AllowedIn w past s (events.Init hart object) = MayInitialise s hart object
AllowedIn w past s (events.Fini hart object) = ByClosing s hart object ⊎ AtTheEnd w past s hart object
AllowedIn w past s (events.Wrote hart bytes) = MayWrite bytes
AllowedIn w past s (events.Told hart fault) = fault ≡ kept_for s hart
AllowedIn w past s (events.Ended hart reason) = MayEnd w s hart

abbrev pub Allowed : Setting → List Event → Event → Type 0
Allowed w past e = AllowedIn w past (after past) e
