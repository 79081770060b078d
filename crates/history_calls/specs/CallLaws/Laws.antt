-- What the calls of a linker stand on.
use Rattle.std.specs.Prelude.{◌≡◌, ℕ, ◌+◌, ◌^◌, ◌<◌, ◌≤◌, false, List, [], ◌∷◌, ◌++◌, length, map, flat_map, Some, None, IsTrue}
use Rattle.std.specs.List.{range_with_len, slice_get}
use Rattle.ld_base.specs.declared.fault.DlFault.{DlFault}
use Rattle.ld_base.specs.declared.linking.File.{File}
use Rattle.ld_base.specs.declared.linking.Loaded.{Loaded}
use Rattle.library_source.specs.Count.{Rises}
use Rattle.history_event.specs.declared.event.CloseAnswer.TheVariants as closings
use Rattle.history_event.specs.declared.event.Event.{Event}
use Rattle.history_event.specs.declared.event.Event.TheVariants.{Close, Open}
use Rattle.history_event.specs.declared.event.OpenAnswer.TheVariants.{Done}
use Rattle.history_event.specs.declared.event.OpenAsk.{OpenAsk}
use Rattle.history_event.specs.declared.event.Range.{Range}
use Rattle.history_graph.specs.Initialised.{InitOrder, program_last}
use Rattle.history_calls.specs.declared.link_served.served.Served.{Served}
use Rattle.history_calls.specs.declared.link_served.startup.Setup.{Setup}
use Rattle.scope_rule.specs.Load.{Load, find_opened, nowhere}
use Rattle.scope_rule.specs.Loading.{with_serial}
use Rattle.scope_rule.specs.Loads.{ReadsNothing, named_there}
use Rattle.scope_rule.specs.declared.namespace.Namespace.{Namespace}
use Rattle.seg_image.specs.Pages.{own_address}
use Rattle.seg_image.specs.Roles.{role_of}
use Rattle.history_state.specs.Accepted.{AcceptsOnly}
use Rattle.history_state.specs.Addresses.{is_linkers_page, is_rx}
use Rattle.history_state.specs.After.{after}
use Rattle.history_state.specs.Allowed.{Allowed}
use Rattle.history_state.specs.Laws.{IsIn}
use Rattle.history_state.specs.Legal.{Lawful}
use Rattle.history_state.specs.Links.{finis_of, found_edges}
use Rattle.history_state.specs.Memory.{holds, image_of}
use Rattle.history_state.specs.Objects.{mapped, object_at, serial_of}
use Rattle.history_state.specs.Opening.{Refuses}
use Rattle.history_state.specs.Setting.{Machine, Setting}
use Rattle.history_state.specs.State.{State}
use Rattle.history_state.specs.Step.{loaded, step}
use Rattle.history_calls.specs.Call.{opens}
use Rattle.history_calls.specs.Laws.{RefusesAsk}
use Rattle.history_calls.specs.Served.{IsServed}
use Rattle.history_calls.specs.Startup.{FailsToStart, FindHarts, is_executable, opening}
use Rattle.history_calls.specs.CallLaws.Coming.{IsOver, OpensWhereItCan, refusal_of}
use Rattle.history_calls.specs.CallLaws.Counts.{FaultsShow}

-- ---- openings

-- what is refused for what it asks is refused so by the history, where no more than 256 bytes of its name are known
abbrev pub RefusedByAsking : Type 0
RefusedByAsking = (w : Setting) (s : State) (hart : ℕ) (ask : OpenAsk) (fault : DlFault) → RefusesAsk s ask fault
    → ((name : List ℕ) → ask.name ≡ Some name → length name ≤ 256) → Refuses w s hart ask fault

-- where nothing is read and no object that is there has the name, it leads nowhere
abbrev pub LeadsNowhere : Type 0
LeadsNowhere = (load : Load) → load.program ≡ false → ReadsNothing load → named_there load ≡ None → find_opened load [] load.name ≡ nowhere

-- a call whose failed reads show in the counts of the library opens what it can where the counts show none
abbrev pub OpensUnlessFaultsShow : Type 0
OpensUnlessFaultsShow = (m : Machine) (folders : List (List ℕ)) (files : List File) (past given : List Event) (h : ℕ)
    (ask : OpenAsk) (came : Served) (failures failures' : ℕ)
    → ((w : Setting) → IsOver m folders (Some files) w → IsServed w past h (opens ask) came given)
    → FaultsShow (refusal_of came) failures failures' → ¬ (Rises failures failures')
    → OpensWhereItCan m folders files past h ask came

-- and a run whose program opens and whose harts are all found starts: it fails only where a read failed
abbrev pub StartsUnlessReadsFail : Type 0
StartsUnlessReadsFail = (w : Setting) (setup : Setup) (files : List File) (root : ℕ) (added : List Loaded)
    (ranges : List Range) (found failed : List Event) (addresses : List ℕ) (fault : DlFault) (failures failures' : ℕ) → w.files ≡ Some files
    → Allowed w [] (opening setup root added ranges) → FindHarts w (opening setup root added ranges ∷ []) 1 setup.harts found addresses
    → FailsToStart w setup fault failed → FaultsShow (Some fault) failures failures' → Rises failures failures'

-- ---- new objects

-- the serials of these objects follow one another from this one on
abbrev pub AreNumberedFrom : ℕ → List Loaded → Type 0
AreNumberedFrom next objects = map serial_of objects ≡ range_with_len next (length objects)

abbrev pub NumberedByPlace : Type 0
NumberedByPlace = (next k : ℕ) (objects : List Loaded) (o : Loaded) → AreNumberedFrom next objects → slice_get objects k ≡ Some o → o.serial ≡ next + k

-- in the state with new objects in it a serial leads to an object that was there, or else to a new one
abbrev pub NewStandBehind : Type 0
NewStandBehind = (m : Machine) (past : List Event) (h id root serial : ℕ) (ask : OpenAsk) (added : List Loaded) (ranges : List Range) → Lawful m past
    → AreNumberedFrom (after past).next added
    → object_at (loaded (after past) h ask id root added ranges) serial ≡ with_serial (mapped (after past) ++ added) serial

-- ---- the order of constructors

-- an order of new objects by what they themselves found is one by what all objects found: no older object leads to a new one
abbrev pub NewEdgesSuffice : Type 0
NewEdgesSuffice = (m : Machine) (w : Setting) (past : List Event) (h id root : ℕ) (ask : OpenAsk) (added : List Loaded) (ranges : List Range) (order : List ℕ)
    → w.machine ≡ m → Lawful m past → Allowed w past (Open h ask (Done id root added ranges))
    → InitOrder (flat_map found_edges added) (program_last (Some 1) (map serial_of added)) order
    → InitOrder (flat_map found_edges (mapped (after (past ++ Open h ask (Done id root added ranges) ∷ []))))
    (program_last (Some 1) (map serial_of added)) order

-- ---- closings

-- a closing leaves images, and which objects are to be finalised in which order
abbrev pub ClosingKeepsImages : Type 0
ClosingKeepsImages = (s : State) (h handle serial : ℕ) (set : List ℕ) → image_of (step s (Close h handle (closings.Done set))) serial ≡ image_of s serial

abbrev pub ClosingKeepsOrder : Type 0
ClosingKeepsOrder = (s : State) (h handle : ℕ) (set objects : List ℕ) → finis_of (step s (Close h handle (closings.Done set))) objects ≡ finis_of s objects

-- ---- where harts start

-- an address in the pages of a mapped object is executable where the object's segments say so
abbrev pub HeldByCode : Type 0
HeldByCode = (m : Machine) (events : List Event) → AcceptsOnly m → Lawful m events → (ns : Namespace) (o : Loaded) (a : ℕ) → a < 2 ^ 64
    → IsIn (after events) ns o → IsTrue (holds o a) → is_executable (after events) a ≡ is_rx (role_of o.object (own_address o.base a))

-- and elsewhere it is so in the linker's own page alone
abbrev pub ElsewhereByLinker : Type 0
ElsewhereByLinker = (m : Machine) (events : List Event) → AcceptsOnly m → Lawful m events → (a : ℕ)
    → ((ns : Namespace) (o : Loaded) → IsIn (after events) ns o → holds o a ≡ false) → is_executable (after events) a ≡ is_linkers_page a
