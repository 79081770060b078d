-- Once startup has loaded something, the program is there and isn't dying.
use Rattle.std.proofs.Common.{◌≡◌, ℕ, ◌+◌, Bool, true, false, List, [], ◌∷◌, ◌++◌, map, length, Option, Some, None, refl, sym, ap, subst, ◌∙◌}
use Rattle.std.specs.Prelude.{find}
use Rattle.std.specs.List.{Contains, range_with_len}
use Rattle.std.proofs.lemmas.Bool.{eq-eqb, eqb-true, true≢false}
use Rattle.ld_base.specs.declared.linking.Loaded.{Loaded}
use Rattle.history_event.specs.declared.event.CloseAnswer.TheVariants as closes
use Rattle.history_event.specs.declared.event.Event.{Event}
use Rattle.history_event.specs.declared.event.Event.TheVariants as events
use Rattle.history_event.specs.declared.event.OpenAnswer.TheVariants as opens
use Rattle.history_event.specs.declared.event.OpenAsk.{OpenAsk}
use Rattle.history_event.specs.declared.event.Range.{Range}
use Rattle.history_event.specs.declared.event.SymAnswer.TheVariants as syms
use Rattle.history_event.specs.declared.state.Loading.{Loading}
use Rattle.scope_rule.specs.declared.namespace.Namespace.{Namespace}
use Rattle.history_state.specs.State.{State, empty_namespace}
use Rattle.history_state.specs.After.{after}
use Rattle.history_state.specs.Allowed.{AllowedIn}
use Rattle.history_state.specs.Legal.{Lawful}
use Rattle.history_state.specs.Objects.{has_id, first_serials, is_none_loaded, is_startup, serial_of, startup_serials}
use Rattle.history_state.specs.Opening.{HasProgram, Opens}
use Rattle.history_state.specs.Setting.{Machine, Setting}
use Rattle.history_state.specs.Step.{die, initialise, loaded, loading_of, lower, step, unmap}
use Rattle.history_state.specs.Lemmas.History.{by_lawful}
use Rattle.history_state.specs.Lemmas.Lists.{found_in, here, not_found}
use Rattle.history_state.specs.Lemmas.Alone.{apart}
use Rattle.history_state.specs.Lemmas.Begun.{begins_untouched}
use Rattle.history_state.specs.Lemmas.Brought.{LoadLaws}
use Rattle.history_state.specs.Lemmas.Offsets.{first_stay}
use Rattle.history_state.specs.Lemmas.Serials.{new_serials}
use Rattle.history_state.specs.Lemmas.Startup.{startup_stays}
use Rattle.history_state.specs.Lemmas.Steps.{good_after}

abbrev ProgramFirst : State → Type 0
ProgramFirst s = is_startup s ≡ false → Contains (startup_serials s) 1

-- the serials of the first loading
first_of : (hart : ℕ) (added : List Loaded) (next : ℕ) → map serial_of added ≡ range_with_len next (length added) → is_none_loaded (loading_of hart added) ≡ false → Contains (first_serials (loading_of hart added)) next
first_of hart [] next e some = absurd (true≢false some)
first_of hart (a ∷ rest) next e some = subst (λ (xs : List ℕ). Contains xs next) (sym e) (here next (range_with_len (next + 1) (length rest)))

program_open : LoadLaws → (m : Machine) (w : Setting) (past : List Event) → Lawful m past → (hart : ℕ) (ask : OpenAsk) (id root : ℕ) (added : List Loaded) (ranges : List Range)
    → Opens w (after past) hart ask id root added ranges → ProgramFirst (after past) → ProgramFirst (step (after past) (events.Open hart ask (opens.Done id root added ranges)))
unfolding loaded
program_open laws m w past lawful hart ask id root added ranges may first = by (is_startup (after past)) refl
  where
    serials : map serial_of added ≡ range_with_len (after past).next (length added)
    serials = new_serials laws w (after past) (good_after laws m past lawful) hart ask id root added ranges ask.name may.name

    begun : is_startup (after past) ≡ true → (loadings : List Loading) → is_none_loaded loadings ≡ true → is_none_loaded (loadings ++ loading_of hart added) ≡ false → Contains (first_serials (loadings ++ loading_of hart added)) 1
    begun startup [] none some = subst (Contains (first_serials (loading_of hart added))) (begins_untouched laws m past lawful startup).next (first_of hart added (after past).next serials some)
    begun startup (l ∷ rest) none some = absurd (true≢false (sym none))

    by : (t : Bool) → is_startup (after past) ≡ t → is_none_loaded ((after past).loadings ++ loading_of hart added) ≡ false → Contains (first_serials ((after past).loadings ++ loading_of hart added)) 1
    by true startup some = begun startup (after past).loadings startup some
    by false later some = subst (λ (xs : List ℕ). Contains xs 1) (sym (first_stay (after past).loadings (loading_of hart added) later)) (first later)

program_step : LoadLaws → (m : Machine) (w : Setting) (past : List Event) (e : Event) → Lawful m past → AllowedIn w past (after past) e → ProgramFirst (after past) → ProgramFirst (step (after past) e)
unfolding die lower unmap initialise
program_step laws m w past (events.Open hart ask (opens.Done id root added ranges)) lawful may first = program_open laws m w past lawful hart ask id root added ranges may first
program_step laws m w past (events.Open hart ask opens.Absent) lawful may first = first
program_step laws m w past (events.Open hart ask (opens.Refused fault)) lawful may first = first
program_step laws m w past (events.Close hart handle (closes.Done set)) lawful may first = first
program_step laws m w past (events.Close hart handle (closes.Refused fault)) lawful may first = first
program_step laws m w past (events.Unmapped hart set) lawful may first = first
program_step laws m w past (events.Grant number hart owner slot choice value) lawful may first = first
program_step laws m w past (events.Bound number) lawful may first = first
program_step laws m w past (events.Lost number saw) lawful may first = first
program_step laws m w past (events.Unresolved hart owner slot choice) lawful may first = first
program_step laws m w past (events.Sym hart ask (syms.Found serial index value)) lawful may first = first
program_step laws m w past (events.Sym hart ask (syms.Refused fault)) lawful may first = first
program_step laws m w past (events.Tls hart owner address) lawful may first = first
program_step laws m w past (events.Init hart object) lawful may first = first
program_step laws m w past (events.Fini hart object) lawful may first = first
program_step laws m w past (events.Wrote hart bytes) lawful may first = first
program_step laws m w past (events.Told hart fault) lawful may first = first
program_step laws m w past (events.Ended hart reason) lawful may first = first

pub program_stays : LoadLaws → (m : Machine) (journal : List Event) → Lawful m journal → is_startup (after journal) ≡ false → HasProgram (after journal)
program_stays laws m journal lawful later =
    let first = by_lawful m ProgramFirst (λ some. absurd (true≢false some)) (λ w past e same past_lawful first may. program_step laws m w past e past_lawful may first) journal lawful later in
    let base = startup_stays laws m journal lawful 1 first in
    record {
      object = base.object;
      inside = subst (λ (ns : Namespace). Contains ns.objects base.object) (at base.namespace base.inside.there base.base (find (has_id 0) (after journal).namespaces) refl) base.inside.inside;
      is = base.is;
      stays = base.alive;
    }
  where
    at : (ns : Namespace) → Contains (after journal).namespaces ns → ns.id ≡ 0 → (found : Option Namespace) → find (has_id 0) (after journal).namespaces ≡ found
        → ns ≡ (elim (find (has_id 0) (after journal).namespaces) [ Some n ↦ n | None ↦ empty_namespace 0 ])
    at ns inside base (Some n) e =
        let found = found_in (has_id 0) (after journal).namespaces n e in
        let one : ns ≡ n = (apart laws m journal lawful).namespaces ns n inside found.0 (base ∙ sym (eqb-true n.id 0 found.1)) in
        one ∙ sym (ap (λ (f : Option Namespace). elim f [ Some k ↦ k | None ↦ empty_namespace 0 ]) e)
    at ns inside base None e = absurd (true≢false (sym (eq-eqb ns.id 0 base) ∙ not_found (has_id 0) (after journal).namespaces ns e inside))
