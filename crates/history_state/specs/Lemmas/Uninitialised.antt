-- What was loaded and isn't initialised yet is mapped, and is being initialised by the hart that loaded it.
use Rattle.std.proofs.Common.{◌≡◌, ⊎_elim, ℕ, Bool, true, false, not, eqb, List, [], ◌∷◌, ◌++◌, map, refl, sym, ap, subst, ◌∙◌}
use Rattle.std.specs.Prelude.{if◌then◌else◌}
use Rattle.std.specs.List.{Contains}
use Rattle.std.proofs.lemmas.Bool.{eqb-true, or_right}
use Rattle.std.proofs.lemmas.List.Elements.{Contains-append_cases, Contains-append_left, Contains-push}
use Rattle.ld_base.specs.declared.linking.Loaded.{Loaded}
use Rattle.ld_base.specs.declared.linking.State.{State as Doing}
use Rattle.ld_base.specs.declared.linking.State.TheVariants as states
use Rattle.history_event.specs.declared.event.CloseAnswer.TheVariants as closes
use Rattle.history_event.specs.declared.event.Event.{Event}
use Rattle.history_event.specs.declared.event.Event.TheVariants as events
use Rattle.history_event.specs.declared.event.OpenAnswer.TheVariants as opens
use Rattle.history_event.specs.declared.event.OpenAsk.{OpenAsk}
use Rattle.history_event.specs.declared.event.Range.{Range}
use Rattle.history_event.specs.declared.event.SymAnswer.TheVariants as syms
use Rattle.history_event.specs.declared.state.Loading.{Loading}
use Rattle.scope_rule.specs.declared.namespace.Namespace.{Namespace}
use Rattle.history_state.specs.State.{State}
use Rattle.history_state.specs.After.{after}
use Rattle.history_state.specs.Allowed.{AllowedIn, Closes, MayInitialise, MayUnmap}
use Rattle.history_state.specs.Flags.{is_global}
use Rattle.history_state.specs.Laws.{IsInitialising, UninitialisedStay}
use Rattle.history_state.specs.Legal.{Lawful}
use Rattle.history_state.specs.Links.{stays}
use Rattle.history_state.specs.Objects.{has, is_ready, serial_of}
use Rattle.history_state.specs.Opening.{Opens}
use Rattle.history_state.specs.Setting.{Machine, Setting}
use Rattle.history_state.specs.Step.{die, dying_in, dying_object, gone_in, initialise, is_left, loaded, loading_of, lower, lowered_in, ready_in, ready_object, ready_state, step, unmap}
use Rattle.history_state.specs.Lemmas.History.{by_lawful}
use Rattle.history_state.specs.Lemmas.Lists.{from_map, has_in, in_filter, in_map, none_in, only_in}
use Rattle.history_state.specs.Lemmas.Alone.{apart}
use Rattle.history_state.specs.Lemmas.Brought.{LoadLaws}
use Rattle.history_state.specs.Lemmas.Closed.{Dies, closes_dies, dies_node}
use Rattle.history_state.specs.Lemmas.Dangling.{left_nonempty}
use Rattle.history_state.specs.Lemmas.Dying.{staying_root}
use Rattle.history_state.specs.Lemmas.Imaged.{reached_open}
use Rattle.history_state.specs.Lemmas.Initialised.{new_doing, of_loading}
use Rattle.history_state.specs.Lemmas.Once.{dies_once}

-- an object of the serial is being initialised by the hart
abbrev Doing_in : List Namespace → ℕ → ℕ → Type 0
Doing_in all d hart = (ns : Namespace) × (o : Loaded) × Contains all ns × Contains ns.objects o × (o.serial ≡ d) × (o.state ≡ states.Initialising hart)

abbrev AllDoing : State → Type 0
AllDoing s = (l : Loading) (d : ℕ) → Contains s.loadings l → Contains l.serials d → (Contains s.inits d → ⊥) → Doing_in s.namespaces d l.hart

-- ---- each event

new_serial : (hart : ℕ) (added : List Loaded) (l : Loading) (d : ℕ) → Contains (loading_of hart added) l → Contains l.serials d → (a : Loaded) × Contains added a × (a.serial ≡ d) × (l.hart ≡ hart)
new_serial hart [] l d h i = absurd (none_in l h)
new_serial hart (a ∷ rest) l d h i =
    let same = only_in _ l h in
    let at = from_map serial_of (a ∷ rest) d (subst (λ (k : Loading). Contains k.serials d) (sym same) i) in
    (at.0, at.1, at.2, sym (ap (λ (k : Loading). k.hart) same))

doing_open : (w : Setting) (s : State) (hart : ℕ) (ask : OpenAsk) (id root : ℕ) (added : List Loaded) (ranges : List Range) → Opens w s hart ask id root added ranges → AllDoing s
    → AllDoing (step s (events.Open hart ask (opens.Done id root added ranges)))
unfolding loaded
doing_open w s hart ask id root added ranges may doing = λ l d there inside out. ⊎_elim
    (λ (old : Contains s.loadings l).
    let was = doing l d old inside out in
    let at = (reached_open id added root (is_global ask.flags) s.namespaces).0 was.0 was.1 was.2 was.3 in
    (at.0, was.1, at.1, at.2, was.4, was.5))
    (λ (new : Contains (loading_of hart added) l).
    let by = new_serial hart added l d new inside in
    let at = (reached_open id added root (is_global ask.flags) s.namespaces).1 by.0 by.1 in
    (at.0, by.0, at.1, at.2, by.2, new_doing w s hart ask id root added ranges ask.name may.name by.0 by.1 ∙ ap (λ (h : ℕ). states.Initialising h) (sym by.3)))
    (Contains-append_cases s.loadings (loading_of hart added) l there)

doing_lower : (handle : ℕ) (all : List Namespace) (d hart : ℕ) → Doing_in all d hart → Doing_in (map (lowered_in handle) all) d hart
doing_lower handle all d hart was = (lowered_in handle was.0, was.1, in_map (lowered_in handle) all was.0 was.2, was.3, was.4, was.5)

doing_die : (s : State) (by : ℕ) (home : Namespace) (set : List ℕ) → Dies s home set → (d hart : ℕ) → Doing_in s.namespaces d hart → Doing_in (map (dying_in by set) s.namespaces) d hart
doing_die s by home set dies d hart was = (
  dying_in by set was.0,
  dying_object by set was.1,
  in_map (dying_in by set) s.namespaces was.0 was.2,
  in_map (dying_object by set) was.0.objects was.1 was.3,
  ap serial_of same ∙ was.4,
  ap (λ (q : Loaded). q.state) same ∙ was.5,
)
  where
    busy : (q : Loaded) → q.state ≡ states.Initialising hart → stays q ≡ true
    busy q e = or_right q.object.flags.nodelete (not (is_ready q)) (ap (λ (d : Doing). not (elim d [ states.Ready ↦ true | _ ↦ false ])) e)

    at : (t : Bool) → has set was.1.serial ≡ t → (if t then record was.1 { state = states.Dying by } else was.1) ≡ was.1
    at true of = absurd ((dies_node s home set dies was.1.serial (has_in set was.1.serial of)).1 (staying_root s was.0 was.1 (was.2, was.3) (busy was.1 was.5)))
    at false of = refl

    same : dying_object by set was.1 ≡ was.1
    same = at (has set was.1.serial) refl

doing_close : (s : State) (hart handle : ℕ) (set : List ℕ) → Closes s handle set → AllDoing s → AllDoing (die hart set (lower handle s))
unfolding die lower
doing_close s hart handle set may doing = λ l d there inside out.
    doing_die (lower handle s) hart (lowered_in handle may.namespace) set (closes_dies s handle set may) d l.hart (doing_lower handle s.namespaces d l.hart (doing l d there inside out))

doing_unmap : LoadLaws → (m : Machine) (past : List Event) → Lawful m past → (hart : ℕ) (set : List ℕ) → MayUnmap (after past) hart set → AllDoing (after past) → AllDoing (unmap hart set (after past))
unfolding unmap
doing_unmap laws m past lawful hart set may doing = λ l d there inside out.
    let was = doing l d there inside out in
    let stays = in_filter (λ (q : Loaded). not (has set q.serial)) was.0.objects was.1 was.3 (at was.0 was.1 l.hart was.2 was.3 was.5 (has set was.1.serial) refl) in (
      gone_in set was.0,
      was.1,
      in_filter is_left (map (gone_in set) (after past).namespaces) (gone_in set was.0) (in_map (gone_in set) (after past).namespaces was.0 was.2) (left_nonempty (gone_in set was.0) d (was.1, stays, was.4)),
      stays,
      was.4,
      was.5,
    )
  where
    at : (ns : Namespace) (o : Loaded) (by : ℕ) → Contains (after past).namespaces ns → Contains ns.objects o → o.state ≡ states.Initialising by → (t : Bool) → has set o.serial ≡ t → not t ≡ true
    at ns o by there inside e true of =
        let dies = (dies_once laws m past lawful).dying may.closing o.serial may.there (subst (λ (xs : List ℕ). Contains xs o.serial) (sym may.whole) (has_in set o.serial of)) in
        let one : dies.object ≡ o = (apart laws m past lawful).records dies.namespace ns dies.object o dies.inside (record { there = there; inside = inside }) dies.is in
        absurd (let d : states.Dying may.closing.hart ≡ states.Initialising by = sym dies.dying ∙ ap (λ (q : Loaded). q.state) one ∙ e in cc)
    at ns o by there inside e false of = refl

doing_ready : (s : State) (object : ℕ) → AllDoing s → AllDoing (initialise object s)
unfolding initialise
doing_ready s object doing = λ l d there inside out.
    let was = doing l d there inside (λ (h : Contains s.inits d). out (Contains-append_left s.inits (object ∷ []) d h)) in
    let other = λ (e : was.1.serial ≡ object). out (subst (Contains (s.inits ++ object ∷ [])) (sym e ∙ was.4) (Contains-push s.inits object)) in
    let same : ready_object object was.1 ≡ was.1 = at was.1 other (eqb was.1.serial object) refl in (
      ready_in object was.0,
      ready_object object was.1,
      in_map (ready_in object) s.namespaces was.0 was.2,
      in_map (ready_object object) was.0.objects was.1 was.3,
      ap serial_of same ∙ was.4,
      ap (λ (q : Loaded). q.state) same ∙ was.5,
    )
  where
    at : (o : Loaded) → (o.serial ≡ object → ⊥) → (t : Bool) → eqb o.serial object ≡ t → (if t then ready_state o else o) ≡ o
    at o other true e = absurd (other (eqb-true o.serial object e))
    at o other false e = refl

doing_step : LoadLaws → (m : Machine) (w : Setting) (past : List Event) (e : Event) → Lawful m past → AllowedIn w past (after past) e → AllDoing (after past) → AllDoing (step (after past) e)
doing_step laws m w past (events.Open hart ask (opens.Done id root added ranges)) lawful may doing = doing_open w (after past) hart ask id root added ranges may doing
doing_step laws m w past (events.Open hart ask opens.Absent) lawful may doing = doing
doing_step laws m w past (events.Open hart ask (opens.Refused fault)) lawful may doing = doing
doing_step laws m w past (events.Close hart handle (closes.Done set)) lawful may doing = doing_close (after past) hart handle set may doing
doing_step laws m w past (events.Close hart handle (closes.Refused fault)) lawful may doing = doing
doing_step laws m w past (events.Unmapped hart set) lawful may doing = doing_unmap laws m past lawful hart set may doing
doing_step laws m w past (events.Grant number hart owner slot choice value) lawful may doing = doing
doing_step laws m w past (events.Bound number) lawful may doing = doing
doing_step laws m w past (events.Lost number saw) lawful may doing = doing
doing_step laws m w past (events.Unresolved hart owner slot choice) lawful may doing = doing
doing_step laws m w past (events.Sym hart ask (syms.Found serial index value)) lawful may doing = doing
doing_step laws m w past (events.Sym hart ask (syms.Refused fault)) lawful may doing = doing
doing_step laws m w past (events.Tls hart owner address) lawful may doing = doing
doing_step laws m w past (events.Init hart object) lawful may doing = doing_ready (after past) object doing
doing_step laws m w past (events.Fini hart object) lawful may doing = doing
doing_step laws m w past (events.Wrote hart bytes) lawful may doing = doing
doing_step laws m w past (events.Told hart fault) lawful may doing = doing
doing_step laws m w past (events.Ended hart reason) lawful may doing = doing

pub uninitialised_stay : LoadLaws → (m : Machine) (journal : List Event) → Lawful m journal → UninitialisedStay (after journal)
uninitialised_stay laws m journal lawful l d there inside out =
    let doing = by_lawful m AllDoing (λ k n h. absurd (none_in k h)) (λ w past e same past_lawful doing may. doing_step laws m w past e past_lawful may doing) journal lawful in
    let at = doing l d there inside out in
    record { namespace = at.0; object = at.1; inside = record { there = at.2; inside = at.3 }; is = at.4; doing = at.5 }

-- an object that may be initialised is being initialised
pub next_initialising : LoadLaws → (m : Machine) (past : List Event) → Lawful m past → (hart object : ℕ) → MayInitialise (after past) hart object → IsInitialising (after past) object hart
next_initialising laws m past lawful hart object may =
    subst (IsInitialising (after past) object) may.by (uninitialised_stay laws m past lawful may.loading object may.there (of_loading (after past) hart object may) may.next.may.undone)
