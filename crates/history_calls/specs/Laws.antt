-- What holds of every call.
use Rattle.std.specs.Prelude.{◌≡◌, ◌≢◌, ◌⊎◌, ℕ, ◌^◌, ◌<◌, ◌≤◌, Bool, true, false, List, [], ◌∷◌, ◌++◌, length, map, Contains, Option, Some, None, IsTrue}
use Rattle.std.specs.Option.{option_map}
use Rattle.ld_base.specs.declared.fault.DlFault.{DlFault}
use Rattle.ld_base.specs.declared.fault.DlFault.TheVariants as faults
use Rattle.ld_base.specs.declared.fault.Shown.{Shown}
use Rattle.ld_base.specs.declared.linking.File.{File}
use Rattle.ld_base.specs.declared.linking.Loaded.{Loaded}
use Rattle.history_event.specs.declared.event.Event.{Event}
use Rattle.history_event.specs.declared.event.Event.TheVariants.{Fini, Init, Open}
use Rattle.history_event.specs.declared.event.Event.TheVariants as event
use Rattle.history_event.specs.declared.event.OpenAnswer.TheVariants.{Done}
use Rattle.history_event.specs.declared.event.OpenAsk.{OpenAsk}
use Rattle.history_event.specs.declared.event.Range.{Range}
use Rattle.history_event.specs.declared.event.SymAsk.{SymAsk}
use Rattle.history_event.specs.declared.hart_end.HartEnd.{HartEnd}
use Rattle.history_event.specs.declared.hart_end.HartEnd.TheVariants as ends
use Rattle.history_event.specs.declared.state.Closing.{Closing}
use Rattle.history_event.specs.declared.state.Loading.{Loading}
use Rattle.scope_rule.specs.declared.namespace.Namespace.{Namespace}
use Rattle.scope_rule.specs.Load.{Brings, Load, Stop, Stops, Walk}
use Rattle.history_state.specs.Accepted.{AcceptsOnly}
use Rattle.history_state.specs.After.{after}
use Rattle.history_state.specs.Laws.{IsIn}
use Rattle.history_state.specs.Allowed.{Allowed, kept_for}
use Rattle.history_state.specs.Asking.{AreNamespacesFull, IsBadNamespace, asks_too_long}
use Rattle.history_state.specs.Flags.{are_flags}
use Rattle.history_state.specs.Legal.{Lawful, Legal}
use Rattle.history_state.specs.Lookup.{RefusesSymbol}
use Rattle.history_state.specs.Memory.{holds, role_at, first_word_at}
use Rattle.history_state.specs.Links.{finis_of}
use Rattle.history_state.specs.Objects.{has_namespace, serial_of}
use Rattle.history_state.specs.Opening.{Opens, Refuses}
use Rattle.history_state.specs.Setting.{Machine, Setting}
use Rattle.history_state.specs.State.{State}
use Rattle.history_state.specs.Step.{keep}
use Rattle.history_calls.specs.Answer.{Answer, returns, loading, closing, refused, granted, told, again, over}
use Rattle.history_calls.specs.Call.{Call, resolves, opens, looks_up, closes, unmaps, asks_fault, locates, writes, stops, caller_namespace}
use Rattle.history_event.specs.declared.handed.Function.{Function}
use Rattle.history_calls.specs.Functions.{AreConstructors, AreDestructors, AreLeft, AreStartConstructors, left, object_of, passed}
use Rattle.history_calls.specs.Gives.{Gives, Serves}
use Rattle.history_calls.specs.Served.{IsServed, IsTold, answer_text}
use Rattle.history_calls.specs.Startup.{FailsToStart, FindHarts, Starts, harts_of, opening}
use Rattle.history_calls.specs.declared.link_served.served.Served.{Served}
use Rattle.history_calls.specs.declared.link_served.startup.Setup.{Setup}
use Rattle.history_calls.specs.declared.link_served.startup.Started.{Started}

-- ---- legality

abbrev pub GivesLegal : Type 0
GivesLegal = (w : Setting) (past : List Event) (h : ℕ) (call : Call) (given : List Event) (answer : Answer) → Legal w past
    → Gives w past h call given answer → Legal w (past ++ given)

abbrev pub GivesLawful : Type 0
GivesLawful = (m : Machine) (w : Setting) (past : List Event) (h : ℕ) (call : Call) (given : List Event) (answer : Answer) → w.machine ≡ m
    → Lawful m past → Gives w past h call given answer
    → Lawful m (past ++ given)

abbrev pub ServesLegal : Type 0
ServesLegal = (w : Setting) (past : List Event) (h : ℕ) (call : Call) (appended : List Event) (answer : Answer) → Legal w past
    → Serves w past h call appended answer → Legal w (past ++ appended)

-- ---- what stays

-- a refused call changes the refusal that is kept for its hart, and nothing else
abbrev pub RefusedKeeps : Type 0
RefusedKeeps = (w : Setting) (past : List Event) (h : ℕ) (call : Call) (given : List Event) (fault : DlFault) → Gives w past h call given (refused fault)
    → after (past ++ given) ≡ keep h fault (after past)

-- memory is as it was
abbrev pub RefusedLeavesMemory : Type 0
RefusedLeavesMemory = (w : Setting) (past : List Event) (h : ℕ) (call : Call) (given : List Event) (fault : DlFault) (a : ℕ)
    → Gives w past h call given (refused fault)
    → (role_at (after (past ++ given)) a ≡ role_at (after past) a) × (first_word_at (after (past ++ given)) a ≡ first_word_at (after past) a)

-- a hart that tries again has appended nothing
abbrev pub AgainAppendsNothing : Type 0
AgainAppendsNothing = (w : Setting) (past : List Event) (h : ℕ) (call : Call) (given : List Event) (for : Shown)
    → Gives w past h call given (again for) → given ≡ []

-- a call that ends its hart changes nothing else
abbrev pub EndsKeep : Type 0
EndsKeep = (w : Setting) (past : List Event) (h : ℕ) (call : Call) (given : List Event) (reason : HartEnd)
    → Gives w past h call given (over reason) → after (past ++ given) ≡ after past

-- ---- refusals are told

abbrev pub RefusalIsKept : Type 0
RefusalIsKept = (w : Setting) (past : List Event) (h : ℕ) (call : Call) (given : List Event) (fault : DlFault) → Gives w past h call given (refused fault)
    → kept_for (after (past ++ given)) h ≡ Some fault

abbrev pub RefusalIsTold : Type 0
RefusalIsTold = (w : Setting) (past : List Event) (h : ℕ) (given : List Event) (fault : Option DlFault) → Gives w past h asks_fault given (told fault)
    → (fault ≡ kept_for (after past) h) × (kept_for (after (past ++ given)) h ≡ None)

-- what dlerror answers is the text of the fault that is kept
abbrev pub TextIsOfKept : Type 0
TextIsOfKept = (w : Setting) (past : List Event) (h : ℕ) (text : Option (List ℕ)) (given : List Event) → IsTold w past h text given
    → text ≡ option_map answer_text (kept_for (after past) h)

-- ---- one answer

abbrev pub is_read_fault : DlFault → Bool
is_read_fault fault = elim fault [ faults.ReadFault path ↦ true | _ ↦ false ]

abbrev pub is_memory : HartEnd → Bool
is_memory reason = elim reason [ ends.Memory ↦ true | _ ↦ false ]

-- want of memory may come in place of any answer
abbrev pub is_want : Answer → Bool
is_want (returns value) = false
is_want (loading root added) = false
is_want (closing set) = false
is_want (refused fault) = false
is_want (granted grant) = false
is_want (told fault) = false
is_want (again for) = false
is_want (over reason) = is_memory reason

-- so may a read that fails
abbrev pub is_chance : Answer → Bool
is_chance (returns value) = false
is_chance (loading root added) = false
is_chance (closing set) = false
is_chance (refused fault) = is_read_fault fault
is_chance (granted grant) = false
is_chance (told fault) = false
is_chance (again for) = false
is_chance (over reason) = is_memory reason

-- the state settles the call: it isn't an opening, which reads files
abbrev pub IsPlain : Call → Type 0
IsPlain (resolves owner eights) = Unit {0}
IsPlain (opens ask) = ⊥
IsPlain (looks_up ask) = Unit {0}
IsPlain (closes handle) = Unit {0}
IsPlain (unmaps set) = Unit {0}
IsPlain asks_fault = Unit {0}
IsPlain (locates number offset) = Unit {0}
IsPlain (writes bytes) = Unit {0}
IsPlain (stops reason) = Unit {0}

-- chance apart, such a call has one answer after one history, and appends the same events
abbrev pub OneAnswer : Type 0
OneAnswer = (m : Machine) (w : Setting) (past : List Event) (h : ℕ) (call : Call) (given others : List Event) (answer other : Answer)
    → w.machine ≡ m → Lawful m past → IsPlain call
    → Gives w past h call given answer → Gives w past h call others other → is_chance answer ≡ false → is_chance other ≡ false
    → (given ≡ others) × (answer ≡ other)

-- so has an opening, where the files are told
abbrev pub OneOpening : Type 0
OneOpening = (w : Setting) (past : List Event) (h : ℕ) (ask : OpenAsk) (files : List File) (given others : List Event) (answer other : Answer)
    → w.files ≡ Some files → Gives w past h (opens ask) given answer → Gives w past h (opens ask) others other → is_chance answer ≡ false
    → is_chance other ≡ false
    → (given ≡ others) × (answer ≡ other)

-- ---- one startup

-- where the files are told, a run whose program loads and whose harts are all found doesn't fail to start, but for reads that fail
abbrev pub StartsOrFails : Type 0
StartsOrFails = (w : Setting) (setup : Setup) (files : List File) (root : ℕ) (added : List Loaded) (ranges : List Range)
    (found failed : List Event) (addresses : List ℕ)
    (fault : DlFault) → w.files ≡ Some files → Allowed w [] (opening setup root added ranges)
    → FindHarts w (opening setup root added ranges ∷ []) 1 setup.harts found addresses → FailsToStart w setup fault failed → IsTrue (is_read_fault fault)

-- and one that starts or fails does so in one way
abbrev pub StartsOneWay : Type 0
StartsOneWay = (w : Setting) (setup : Setup) (files : List File) (journal others : List Event) (started other : Started) → w.files ≡ Some files
    → Starts w setup journal started → Starts w setup others other
    → (journal ≡ others) × (started.functions ≡ other.functions) × (started.entries ≡ other.entries)

abbrev pub FailsOneWay : Type 0
FailsOneWay = (w : Setting) (setup : Setup) (files : List File) (journal others : List Event) (fault other : DlFault) → w.files ≡ Some files
    → FailsToStart w setup fault journal → FailsToStart w setup other others → is_read_fault fault ≡ false → is_read_fault other ≡ false
    → (fault ≡ other) × (journal ≡ others)

-- ---- preload names

-- the names that a program needs before its own are nothing to the load of another object
abbrev pub BringsWithPreload : Type 0
BringsWithPreload = (load : Load) (names : List (List ℕ)) (walk : Walk) → load.program ≡ false → Brings load walk
    → Brings (record load { preload = names }) walk

abbrev pub StopsWithPreload : Type 0
StopsWithPreload = (load : Load) (names : List (List ℕ)) (why : Stop) → load.program ≡ false → Stops load why → Stops (record load { preload = names }) why

-- ---- the order of refusals

-- an opening is refused for what it asks, before anything is looked for: for its name, then its flags, then its namespace
pub data RefusesAsk (s : State) (ask : OpenAsk) : DlFault → Type 0 where
  long : IsTrue (asks_too_long s ask.name) → RefusesAsk s ask faults.NameTooLong
  flags : asks_too_long s ask.name ≡ false → are_flags ask.flags ≡ false → RefusesAsk s ask (faults.BadFlags ask.flags)
  space : (number : ℕ) → asks_too_long s ask.name ≡ false → IsTrue (are_flags ask.flags) → IsBadNamespace s ask.ns ask.name number
      → RefusesAsk s ask (faults.BadNamespace number)
  full : asks_too_long s ask.name ≡ false → IsTrue (are_flags ask.flags) → AreNamespacesFull s ask.ns ask.name
      → RefusesAsk s ask faults.NamespacesFull

-- then it is given this refusal, whatever else would stand
abbrev pub AskFirst : Type 0
AskFirst = (w : Setting) (past : List Event) (h : ℕ) (ask : OpenAsk) (given : List Event) (answer : Answer) (fault : DlFault)
    → RefusesAsk (after past) ask fault → Gives w past h (opens ask) given answer
    → is_want answer ≡ false → answer ≡ refused fault

-- where the files are told it is given the refusal of its first stage that doesn't pass
abbrev pub StagesInOrder : Type 0
StagesInOrder = (w : Setting) (past : List Event) (h : ℕ) (ask : OpenAsk) (files : List File) (given : List Event) (answer : Answer)
    (fault : DlFault) → w.files ≡ Some files → is_read_fault fault ≡ false
    → Refuses w (after past) h ask fault → Gives w past h (opens ask) given answer → is_chance answer ≡ false → answer ≡ refused fault

-- and of a look-up's refusals the first is given
abbrev pub SymbolsInOrder : Type 0
SymbolsInOrder = (w : Setting) (past : List Event) (h : ℕ) (ask : SymAsk) (given : List Event) (answer : Answer) (fault : DlFault)
    → RefusesSymbol (after past) h ask fault
    → Gives w past h (looks_up ask) given answer → is_want answer ≡ false → answer ≡ refused fault

-- ---- success

-- an opening whose stages all pass loads its objects, unless a read fails or memory is wanted
abbrev pub PassedOpens : Type 0
PassedOpens = (w : Setting) (past : List Event) (h : ℕ) (ask : OpenAsk) (files : List File) (id root : ℕ) (added : List Loaded)
    (ranges : List Range) (given : List Event) (answer : Answer)
    → w.files ≡ Some files → Opens w (after past) h ask id root added ranges → Gives w past h (opens ask) given answer → is_chance answer ≡ false
    → given ≡ Open h ask (Done id root added ranges) ∷ []

-- ---- callers

-- a caller's namespace is there
abbrev pub CallersAreThere : Type 0
CallersAreThere = (m : Machine) (events : List Event) → Lawful m events → (ra : ℕ)
    → IsTrue (has_namespace (after events) (caller_namespace (after events) ra))

-- it is that of the object whose pages hold the return address, and the base where none does
abbrev pub CallersAreHolders : Type 0
CallersAreHolders = (m : Machine) (events : List Event) → AcceptsOnly m → Lawful m events → (ns : Namespace) (o : Loaded) (ra : ℕ) → ra < 2 ^ 64
    → IsIn (after events) ns o → IsTrue (holds o ra) → caller_namespace (after events) ra ≡ ns.id

abbrev pub OthersAreBase : Type 0
OthersAreBase = (m : Machine) (events : List Event) → AcceptsOnly m → Lawful m events → (ra : ℕ)
    → ((ns : Namespace) (o : Loaded) → IsIn (after events) ns o → holds o ra ≡ false) → caller_namespace (after events) ra ≡ 0

-- ---- what is appended

-- the hart whose event it is; a settling is of its grant's
abbrev pub hart_of : Event → Option ℕ
hart_of (event.Open hart ask answer) = Some hart
hart_of (event.Close hart handle answer) = Some hart
hart_of (event.Unmapped hart set) = Some hart
hart_of (event.Grant number hart owner slot choice value) = Some hart
hart_of (event.Bound number) = None
hart_of (event.Lost number saw) = None
hart_of (event.Unresolved hart owner slot choice) = Some hart
hart_of (event.Sym hart ask answer) = Some hart
hart_of (event.Tls hart owner address) = Some hart
hart_of (event.Init hart object) = Some hart
hart_of (event.Fini hart object) = Some hart
hart_of (event.Wrote hart bytes) = Some hart
hart_of (event.Told hart fault) = Some hart
hart_of (event.Ended hart reason) = Some hart

-- a call appends events of its own hart alone
abbrev pub EventsAreOwn : Type 0
EventsAreOwn = (w : Setting) (past : List Event) (h : ℕ) (call : Call) (given : List Event) (answer : Answer) → Gives w past h call given answer
    → (e : Event) → Contains given e → hart_of e ≡ Some h

-- and one at most, but for a look-up, which may give its hart a block before
abbrev pub FewEvents : Type 0
FewEvents = (w : Setting) (past : List Event) (h : ℕ) (call : Call) (given : List Event) (answer : Answer) → Gives w past h call given answer
    → (length given ≤ 1) ⊎ ((ask : SymAsk) × (call ≡ looks_up ask) × (length given ≡ 2))

-- ---- functions

abbrev pub OneInitialisation : Type 0
OneInitialisation = (s : State) (news : List ℕ) (functions others : List Function) → AreConstructors s news functions
    → AreConstructors s news others → functions ≡ others

abbrev pub OneStart : Type 0
OneStart = (s : State) (news : List ℕ) (functions others : List Function) → AreStartConstructors s news functions
    → AreStartConstructors s news others → functions ≡ others

abbrev pub OneFinalisation : Type 0
OneFinalisation = (s : State) (set : List ℕ) (functions others : List Function) → AreDestructors s set functions
    → AreDestructors s set others → functions ≡ others

-- ---- one object after another

-- with its opening the constructors of new objects are left
abbrev pub OpeningBegins : Type 0
OpeningBegins = (m : Machine) (w : Setting) (past : List Event) (h id root : ℕ) (ask : OpenAsk) (first : Loaded) (rest : List Loaded) (ranges : List Range)
    (functions : List Function) → w.machine ≡ m → Lawful m past → Allowed w past (Open h ask (Done id root (first ∷ rest) ranges))
    → AreConstructors (after (past ++ Open h ask (Done id root (first ∷ rest) ranges) ∷ [])) (map serial_of (first ∷ rest)) functions
    → AreLeft (after (past ++ Open h ask (Done id root (first ∷ rest) ranges) ∷ [])) (record { hart = h; serials = map serial_of (first ∷ rest) })
    (map object_of functions)

-- the first of those that are left may be initialised, and the others are left then
abbrev pub NextStarts : Type 0
NextStarts = (m : Machine) (w : Setting) (past : List Event) (loading : Loading) (o : ℕ) (rest : List ℕ) → w.machine ≡ m → Lawful m past
    → Contains (after past).loadings loading → AreLeft (after past) loading (o ∷ rest)
    → Allowed w past (Init loading.hart o) × AreLeft (after (past ++ Init loading.hart o ∷ [])) loading rest

-- no event changes which are left, but the initialisation of one of the loading's own objects
abbrev pub StartsStay : Type 0
StartsStay = (m : Machine) (w : Setting) (past : List Event) (e : Event) (loading : Loading) (rest : List ℕ) → w.machine ≡ m → Lawful m past
    → Allowed w past e → Contains (after past).loadings loading → ((h d : ℕ) → e ≡ Init h d → ¬ (Contains loading.serials d))
    → AreLeft (after past) loading rest → AreLeft (after (past ++ e ∷ [])) loading rest

-- the first of a closing's objects that are left may be finalised, and the others are left then
abbrev pub NextFinishes : Type 0
NextFinishes = (m : Machine) (w : Setting) (past : List Event) (closing : Closing) (o : ℕ) (rest : List ℕ) → Lawful m past
    → Contains (after past).closings closing → finis_of (after past) closing.set ≡ o ∷ rest
    → Allowed w past (Fini closing.hart o) × (finis_of (after (past ++ Fini closing.hart o ∷ [])) closing.set ≡ rest)

-- no event changes which are left, but that one of its own objects is finalised
abbrev pub FinishesStay : Type 0
FinishesStay = (m : Machine) (w : Setting) (past : List Event) (e : Event) (closing : Closing) → w.machine ≡ m → Lawful m past → Allowed w past e
    → Contains (after past).closings closing → ((h d : ℕ) → e ≡ Fini h d → ¬ (Contains closing.set d))
    → finis_of (after (past ++ e ∷ [])) closing.set ≡ finis_of (after past) closing.set

-- those that pass stand first, and the others behind them, the first of which has a function
abbrev pub PassedComeFirst : Type 0
PassedComeFirst = (functions : List Function) → map object_of functions ≡ passed functions ++ map object_of (left functions)

abbrev pub RunsAFunction : Type 0
RunsAFunction = (functions rest : List Function) (f : Function) → left functions ≡ f ∷ rest → f.addresses ≢ []

-- ---- as callers get it

-- a history that is legal before a call is legal with what came of it
abbrev pub ServedLegal : Type 0
ServedLegal = (w : Setting) (past : List Event) (h : ℕ) (call : Call) (served : Served) (given : List Event) → Legal w past
    → IsServed w past h call served given → Legal w (past ++ given)

-- startup's journal is legal, of a run that starts and of one that doesn't
abbrev pub StartsLegal : Type 0
StartsLegal = (w : Setting) (setup : Setup) (journal : List Event) (started : Started) → Starts w setup journal started → Legal w journal

abbrev pub FailsLegal : Type 0
FailsLegal = (w : Setting) (setup : Setup) (fault : DlFault) (journal : List Event) → FailsToStart w setup fault journal → Legal w journal

-- each hart has its place to start
abbrev pub HartsHaveEntries : Type 0
HartsHaveEntries = (w : Setting) (setup : Setup) (journal : List Event) (started : Started) → Starts w setup journal started
    → length started.entries ≡ harts_of setup
