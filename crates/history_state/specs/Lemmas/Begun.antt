-- Before startup's opening nothing is mapped, reserved or granted.
use Rattle.std.proofs.Common.{◌≡◌, ⊎_elim, ℕ, Bool, true, false, List, [], ◌∷◌, ◌++◌, map, length, Option, Some, None, refl, sym, ap, subst, ◌∙◌}
use Rattle.std.specs.Prelude.{◌==◌, if◌then◌else◌, find, IsSome}
use Rattle.std.specs.List.{Contains, range_with_len, slice_get}
use Rattle.ld_base.specs.declared.linking.Loaded.{Loaded}
use Rattle.history_event.specs.declared.event.CloseAnswer.{CloseAnswer}
use Rattle.history_event.specs.declared.event.CloseAnswer.TheVariants as closes
use Rattle.history_event.specs.declared.event.Event.{Event}
use Rattle.history_event.specs.declared.event.Event.TheVariants as events
use Rattle.history_event.specs.declared.event.OpenAnswer.{OpenAnswer}
use Rattle.history_event.specs.declared.event.OpenAnswer.TheVariants as opens
use Rattle.history_event.specs.declared.event.OpenAsk.{OpenAsk}
use Rattle.history_event.specs.declared.event.Range.{Range}
use Rattle.history_event.specs.declared.event.SymAnswer.TheVariants as syms
use Rattle.history_event.specs.declared.state.Ending.{Ending}
use Rattle.history_event.specs.declared.state.Kept.{Kept}
use Rattle.history_event.specs.declared.state.Loading.{Loading}
use Rattle.history_event.specs.declared.state.Module.{Module}
use Rattle.scope_rule.specs.Finding.{with_path}
use Rattle.scope_rule.specs.Load.{records_of}
use Rattle.scope_rule.specs.declared.arrival.Arrival.{Arrival}
use Rattle.scope_rule.specs.declared.namespace.Namespace.{Namespace}
use Rattle.history_state.specs.State.{State, empty_namespace}
use Rattle.history_state.specs.After.{after}
use Rattle.history_state.specs.Allowed.{AllowedIn, AtTheEnd, ByClosing, MayClose}
use Rattle.history_state.specs.Asking.{HasName}
use Rattle.history_state.specs.Flags.{is_deepbind}
use Rattle.history_state.specs.Legal.{Lawful}
use Rattle.history_state.specs.Objects.{has_id, is_none_loaded, is_startup, serial_of}
use Rattle.history_state.specs.Opening.{Loads as LoadsName, MayOpen, Opens, OpensName, there, unplaced}
use Rattle.history_state.specs.Read.{BeginsUntouched, IsUntouched}
use Rattle.history_state.specs.Setting.{Machine, Setting, load_of}
use Rattle.history_state.specs.Step.{die, initialise, loaded, loading_of, lower, step, unmap}
use Rattle.history_state.specs.Storage.{module_of}
use Rattle.history_state.specs.Lemmas.History.{by_lawful}
use Rattle.history_state.specs.Lemmas.Lists.{none_in, only_in}
use Rattle.history_state.specs.Lemmas.Brought.{LoadLaws}
use Rattle.history_state.specs.Lemmas.Offsets.{none_loaded}
use Rattle.history_state.specs.Lemmas.Program.{begins_itself}

-- what isn't kept or ended
told : (kept : List Kept) (endings : List Ending) (s : State) → IsUntouched s → IsUntouched (record s { kept = kept; endings = endings })
told kept endings s u = record {
  namespaces = u.namespaces;
  next = u.next;
  ranges = u.ranges;
  modules = u.modules;
  statics = u.statics;
  generation = u.generation;
  blocks = u.blocks;
  grants = u.grants;
  chosen = u.chosen;
  images = u.images;
  pinned = u.pinned;
  closings = u.closings;
  inits = u.inits;
  finis = u.finis;
}

nothing_in : {X : Type 0} (xs : List X) (x : X) → xs ≡ [] → Contains xs x → ⊥
nothing_in xs x none h = none_in x (subst (λ ys. Contains ys x) none h)

nothing_mapped : (s : State) → IsUntouched s → (ns : Namespace) (o : Loaded) → Contains s.namespaces ns → Contains ns.objects o → ⊥
nothing_mapped s u ns o at h =
    let same : empty_namespace 0 ≡ ns = only_in (empty_namespace 0) ns (subst (λ (all : List Namespace). Contains all ns) u.namespaces at) in
    none_in o (subst (λ (n : Namespace). Contains n.objects o) (sym same) h)

-- ---- startup's opening loads something

-- the namespace of a number, an empty one where there is none
abbrev or_empty : ℕ → Option Namespace → Namespace
or_empty id found = elim found [ Some ns ↦ ns | None ↦ empty_namespace id ]

nothing_there : (s : State) → IsUntouched s → (id : ℕ) → there s id ≡ []
nothing_there s u id = subst (λ (all : List Namespace). (or_empty id (find (has_id id) all)).objects ≡ []) (sym u.namespaces) (by (has_id id (empty_namespace 0)))
  where
    by : (t : Bool) → (or_empty id (if t then Some (empty_namespace 0) else None)).objects ≡ []
    by true = refl
    by false = refl

none_arrived : (next : ℕ) (arrivals : List Arrival) (path : List ℕ) → [] ≡ range_with_len next (length arrivals) → (a : Arrival) → slice_get arrivals 0 ≡ Some a → ⊥
none_arrived next [] path e a at = let d : None ≡ Some a = at in absurd cc
none_arrived next (b ∷ arrivals) path e a at = absurd cc

loads_some : LoadLaws → (w : Setting) (s : State) → IsUntouched s → is_startup s ≡ true → (hart : ℕ) (ask : OpenAsk) (name : List ℕ) (id root : ℕ) (added : List Loaded) (ranges : List Range)
    → LoadsName w s hart ask name id root added ranges → added ≡ [] → ⊥
loads_some laws w s u startup hart ask name id root added ranges loads none =
    let load = load_of w s hart id name loads.finds.reading in
    let unknown : with_path load.there load.name ≡ None = ap (λ (os : List Loaded). with_path os name) (nothing_there s u id) in
    let begins = begins_itself load startup unknown loads.finds.walk loads.finds.brings in
    let placed : map unplaced added ≡ records_of load (is_deepbind ask.flags) loads.finds.walk = loads.storage.same ∙ loads.finds.are in
    let empty : [] ≡ records_of load (is_deepbind ask.flags) loads.finds.walk = ap (λ (os : List Loaded). map unplaced os) (sym none) ∙ placed in
    none_arrived s.next loads.finds.walk.arrivals name (ap (λ (os : List Loaded). map serial_of os) empty ∙ laws.serials load (is_deepbind ask.flags) loads.finds.walk) begins.0 begins.1

opens_some : LoadLaws → (w : Setting) (s : State) → IsUntouched s → is_startup s ≡ true → (hart : ℕ) (ask : OpenAsk) (id root : ℕ) (added : List Loaded) (ranges : List Range)
    → Opens w s hart ask id root added ranges → added ≡ [] → ⊥
opens_some laws w s u startup hart ask id root added ranges may none = by ask.name (may.may startup).named may.name
  where
    by : (name : Option (List ℕ)) → HasName name → OpensName w s hart ask name id root added ranges → ⊥
    by (Some name) named loads = loads_some laws w s u startup hart ask name id root added ranges loads none
    by None named loads = named

before_it : (loadings : List Loading) (hart : ℕ) (added : List Loaded) → is_none_loaded (loadings ++ loading_of hart added) ≡ true → (is_none_loaded loadings ≡ true) × (added ≡ [])
before_it [] hart [] e = (refl, refl)
before_it [] hart (a ∷ added) e = absurd cc
before_it (l ∷ rest) hart added e = absurd cc

-- ---- each event

open_begun : LoadLaws → (w : Setting) (s : State) (hart : ℕ) (ask : OpenAsk) (answer : OpenAnswer) → MayOpen w s hart ask answer → BeginsUntouched s → BeginsUntouched (step s (events.Open hart ask answer))
unfolding loaded
open_begun laws w s hart ask (opens.Done id root added ranges) may begun startup =
    let first = before_it s.loadings hart added startup in
    absurd (opens_some laws w s (begun first.0) first.0 hart ask id root added ranges may first.1)
open_begun laws w s hart ask opens.Absent may begun startup = begun startup
open_begun laws w s hart ask (opens.Refused fault) may begun startup = told _ _ s (begun startup)

close_begun : (s : State) (hart handle : ℕ) (answer : CloseAnswer) → MayClose s handle answer → is_startup s ≡ true → IsUntouched s → IsUntouched (step s (events.Close hart handle answer))
close_begun s hart handle (closes.Done set) may startup u =
    let same : empty_namespace 0 ≡ may.namespace = only_in (empty_namespace 0) may.namespace (subst (λ (all : List Namespace). Contains all may.namespace) u.namespaces may.opened.there) in
    absurd (none_in may.opened.opening (subst (λ (n : Namespace). Contains n.opens may.opened.opening) (sym same) may.opened.inside))
close_begun s hart handle (closes.Refused fault) may startup u = told _ _ s u

-- where nothing is loaded, that is what no event changes but those of what is there
begun_step : LoadLaws → (w : Setting) (past : List Event) (s : State) (e : Event) → AllowedIn w past s e → BeginsUntouched s → BeginsUntouched (step s e)
unfolding die lower unmap initialise
begun_step laws w past s (events.Open hart ask answer) may begun = open_begun laws w s hart ask answer may begun
begun_step laws w past s (events.Close hart handle answer) may begun = close_later answer may
  where
    close_later : (answer : CloseAnswer) → MayClose s handle answer → BeginsUntouched (step s (events.Close hart handle answer))
    close_later (closes.Done set) may startup = close_begun s hart handle (closes.Done set) may startup (begun startup)
    close_later (closes.Refused fault) may startup = close_begun s hart handle (closes.Refused fault) may startup (begun startup)
begun_step laws w past s (events.Unmapped hart set) may begun = λ startup. absurd (nothing_in s.closings may.closing (begun startup).closings may.there)
begun_step laws w past s (events.Grant number hart owner slot choice value) may begun = λ startup.
    absurd (nothing_mapped s (begun startup) may.may.is_slot.namespace may.may.is_slot.object may.may.is_slot.there may.may.is_slot.inside)
begun_step laws w past s (events.Bound number) may begun = λ startup. absurd (nothing_in s.grants may.grant (begun startup).grants may.is.there)
begun_step laws w past s (events.Lost number saw) may begun = λ startup. absurd (nothing_in s.grants may.grant (begun startup).grants may.is.there)
begun_step laws w past s (events.Unresolved hart owner slot choice) may begun = begun
begun_step laws w past s (events.Sym hart ask (syms.Found serial index value)) may begun = begun
begun_step laws w past s (events.Sym hart ask (syms.Refused fault)) may begun = λ startup. told _ _ s (begun startup)
begun_step laws w past s (events.Tls hart owner address) may begun = λ startup. absurd (is_none (module_of s owner) (ap (λ (ms : List Module). find (λ m. m.serial == owner) ms) (begun startup).modules) may.wants.has_module)
  where
    is_none : (m : Option Module) → m ≡ None → IsSome m → ⊥
    is_none (Some m) e some = absurd cc
    is_none None e some = absurd cc
begun_step laws w past s (events.Init hart object) may begun = λ startup. absurd (none_loaded s.loadings startup may.loading may.there)
begun_step laws w past s (events.Fini hart object) may begun = λ startup. ⊎_elim
    (λ (c : ByClosing s hart object). absurd (nothing_in s.closings c.closing (begun startup).closings c.there))
    (λ (e : AtTheEnd w past s hart object). absurd (nothing_mapped s (begun startup) e.mapped.namespace e.mapped.object e.mapped.there e.mapped.inside))
    may
begun_step laws w past s (events.Wrote hart bytes) may begun = begun
begun_step laws w past s (events.Told hart fault) may begun = λ startup. told _ _ s (begun startup)
begun_step laws w past s (events.Ended hart reason) may begun = λ startup. told _ _ s (begun startup)

pub begins_untouched : LoadLaws → (m : Machine) (journal : List Event) → Lawful m journal → BeginsUntouched (after journal)
begins_untouched laws m journal lawful = by_lawful m BeginsUntouched
    (λ startup. record {
      namespaces = refl;
      next = refl;
      ranges = refl;
      modules = refl;
      statics = refl;
      generation = refl;
      blocks = refl;
      grants = refl;
      chosen = refl;
      images = refl;
      pinned = refl;
      closings = refl;
      inits = refl;
      finis = refl;
    })
    (λ w past e same lawful begun may. begun_step laws w past (after past) e may begun) journal lawful
