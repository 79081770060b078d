-- An opening that finds all that it needs opens, unless a read fails; and a run starts.
use Rattle.std.proofs.Common.{◌≡◌, ℕ, Bool, true, false, List, [], ◌∷◌, Some, refl, sym, ap}
use Rattle.std.proofs.lemmas.Bool.{true≢false}
use Rattle.ld_base.specs.declared.fault.DlFault.{DlFault}
use Rattle.ld_base.specs.declared.fault.DlFault.TheVariants as faults
use Rattle.ld_base.specs.declared.fault.Shown.{Shown}
use Rattle.ld_base.specs.declared.linking.File.{File}
use Rattle.ld_base.specs.declared.linking.Loaded.{Loaded}
use Rattle.library_source.specs.Count.{Rises}
use Rattle.history_event.specs.declared.event.Event.{Event}
use Rattle.history_event.specs.declared.event.Event.TheVariants.{Open}
use Rattle.history_event.specs.declared.event.OpenAnswer.TheVariants as openings
use Rattle.history_event.specs.declared.event.OpenAsk.{OpenAsk}
use Rattle.history_event.specs.declared.event.Range.{Range}
use Rattle.history_calls.specs.declared.link_served.served.Served.{Served}
use Rattle.history_calls.specs.declared.link_served.served.Served.TheVariants as served
use Rattle.history_calls.specs.declared.link_served.startup.Setup.{Setup}
use Rattle.history_state.specs.Allowed.{Allowed}
use Rattle.history_state.specs.Setting.{Machine, Setting}
use Rattle.history_calls.specs.Answer.{Answer, returns, loading, closing, refused, again}
use Rattle.history_calls.specs.Call.{opens}
use Rattle.history_calls.specs.Complete.{OpensOr}
use Rattle.history_calls.specs.Gives.{Gives}
use Rattle.history_calls.specs.Gives.EventAnswers.{is_loaded, is_there}
use Rattle.history_calls.specs.Gives.Gives.{by_event}
use Rattle.history_calls.specs.Laws.{OneOpening, StartsOrFails, is_chance, is_read_fault}
use Rattle.history_calls.specs.Served.{IsServed}
use Rattle.history_calls.specs.Startup.{FailsToStart, FindHarts, opening}
use Rattle.history_calls.specs.CallLaws.Coming.{IsOver, OpensWhereItCan, refusal_of}
use Rattle.history_calls.specs.CallLaws.Counts.{FaultsShow}
use Rattle.history_calls.proofs.OneStartup.{no_chance}

-- which path a failed read is of
is_of_read : (fault : DlFault) → is_read_fault fault ≡ true → (path : List ℕ) × (fault ≡ faults.ReadFault path)
is_of_read (faults.MissingLibrary name) e = absurd (true≢false (sym e))
is_of_read (faults.ReadFault path) e = (path, refl)
is_of_read (faults.NotAccepted path rule) e = absurd (true≢false (sym e))
is_of_read (faults.MissingVersion object file version) e = absurd (true≢false (sym e))
is_of_read (faults.MissingSymbol object name version) e = absurd (true≢false (sym e))
is_of_read (faults.NotCode object name) e = absurd (true≢false (sym e))
is_of_read (faults.NeedsStaticTls object) e = absurd (true≢false (sym e))
is_of_read (faults.AddressSpaceFull pages) e = absurd (true≢false (sym e))
is_of_read faults.NamespacesFull e = absurd (true≢false (sym e))
is_of_read (faults.BadHandle handle) e = absurd (true≢false (sym e))
is_of_read (faults.BadFlags flags) e = absurd (true≢false (sym e))
is_of_read (faults.ClosingHere path) e = absurd (true≢false (sym e))
is_of_read faults.NameTooLong e = absurd (true≢false (sym e))
is_of_read (faults.BadNamespace number) e = absurd (true≢false (sym e))

pub starts_unless : StartsOrFails → (w : Setting) (setup : Setup) (files : List File) (root : ℕ) (added : List Loaded)
    (ranges : List Range) (found failed : List Event) (addresses : List ℕ) (fault : DlFault) (failures failures' : ℕ) → w.files ≡ Some files
    → Allowed w [] (opening setup root added ranges) → FindHarts w (opening setup root added ranges ∷ []) 1 setup.harts found addresses
    → FailsToStart w setup fault failed → FaultsShow (Some fault) failures failures' → Rises failures failures'
starts_unless law w setup files root added ranges found failed addresses fault failures failures' told may finds fails shows =
    let read = is_of_read fault (law w setup files root added ranges found failed addresses fault told may finds fails) in
    shows read.0 (ap (λ (x : DlFault). Some x) read.1)

-- ---- an opening

-- its answer
abbrev open_answer : ℕ → List Loaded → Answer
open_answer root [] = returns root
open_answer root (first ∷ rest) = loading root (first ∷ rest)

gives_open : (w : Setting) (past : List Event) (h id root : ℕ) (ask : OpenAsk) (added : List Loaded) (ranges : List Range) → Allowed w past (Open h ask (openings.Done id root added ranges))
    → Gives w past h (opens ask) (Open h ask (openings.Done id root added ranges) ∷ []) (open_answer root added)
gives_open w past h id root ask [] ranges may = by_event _ _ _ (is_there ask id root ranges) may
gives_open w past h id root ask (first ∷ rest) ranges may = by_event _ _ _ (is_loaded ask id root first rest ranges) may

returned : (root : ℕ) (added : List Loaded) (value : ℕ) → returns value ≡ open_answer root added → value ≡ root
returned root [] value e = let d : returns value ≡ returns root = e in cc
returned root (first ∷ rest) value e = absurd (let d : returns value ≡ loading root (first ∷ rest) = e in cc)

loaded_by : (root : ℕ) (added : List Loaded) (handle : ℕ) (news : List Loaded) → loading handle news ≡ open_answer root added → handle ≡ root
loaded_by root [] handle news e = absurd (let d : loading handle news ≡ returns root = e in cc)
loaded_by root (first ∷ rest) handle news e = let d : loading handle news ≡ loading root (first ∷ rest) = e in cc

none_closes : (root : ℕ) (added : List Loaded) (set : List ℕ) → closing set ≡ open_answer root added → ⊥
none_closes root [] set e = let d : closing set ≡ returns root = e in cc
none_closes root (first ∷ rest) set e = let d : closing set ≡ loading root (first ∷ rest) = e in cc

none_refused : (root : ℕ) (added : List Loaded) (fault : DlFault) → refused fault ≡ open_answer root added → ⊥
none_refused root [] fault e = let d : refused fault ≡ returns root = e in cc
none_refused root (first ∷ rest) fault e = let d : refused fault ≡ loading root (first ∷ rest) = e in cc

none_again : (root : ℕ) (added : List Loaded) (for : Shown) → again for ≡ open_answer root added → ⊥
none_again root [] for e = let d : again for ≡ returns root = e in cc
none_again root (first ∷ rest) for e = let d : again for ≡ loading root (first ∷ rest) = e in cc

module _ (law : OneOpening) (files : List File) (past given : List Event) (h : ℕ) (ask : OpenAsk)
    (failures failures' : ℕ) (none : Rises failures failures' → ⊥) (w : Setting) (told : w.files ≡ Some files) (id root : ℕ) (added : List Loaded) (ranges : List Range)
    (may : Allowed w past (Open h ask (openings.Done id root added ranges))) where
  one : (answer : Answer) → Gives w past h (opens ask) given answer → is_chance answer ≡ false → answer ≡ open_answer root added
  one answer gives ample = (law w past h ask files given _ answer _ told gives (gives_open w past h id root ask added ranges may) ample (no_chance root added)).1

  no_read : (fault : DlFault) → FaultsShow (Some fault) failures failures' → (b : Bool) → is_read_fault fault ≡ b → b ≡ false
  no_read fault shows false e = refl
  no_read fault shows true e = let read = is_of_read fault e in absurd (none (shows read.0 (ap (λ (x : DlFault). Some x) read.1)))

  whole : (came : Served) → FaultsShow (refusal_of came) failures failures' → IsServed w past h (opens ask) came given → OpensOr root came
  whole (served.Done value) shows is = returned root added value (one (returns value) is refl)
  whole (served.Opened handle installs functions) shows is = loaded_by root added handle is.added (one (loading handle is.added) is.gives refl)
  whole (served.Closing dying functions) shows is = none_closes root added dying.list (one (closing dying.list) is.gives refl)
  whole (served.Refused fault) shows is = none_refused root added fault (one (refused fault) is (no_read fault shows (is_read_fault fault) refl))
  whole (served.Again for) shows is = none_again root added for (one (again for) is refl)
  whole served.Memory shows is = tt

pub whole_unless : OneOpening → (m : Machine) (folders : List (List ℕ)) (files : List File) (past given : List Event) (h : ℕ)
    (ask : OpenAsk) (came : Served) (failures failures' : ℕ)
    → ((w : Setting) → IsOver m folders (Some files) w → IsServed w past h (opens ask) came given)
    → FaultsShow (refusal_of came) failures failures' → (Rises failures failures' → ⊥) → OpensWhereItCan m folders files past h ask came
whole_unless law m folders files past given h ask came failures failures' is shows none w id root added ranges over opens_all =
    whole law files past given h ask failures failures' none w over.files_are id root added ranges opens_all came shows (is w over)
