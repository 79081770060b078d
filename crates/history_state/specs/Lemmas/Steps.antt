-- What holds of the core of each state of a lawful journal: only seven kinds of steps change it.
use Rattle.std.proofs.Common.{◌≡◌, ℕ, ◌<◌, false, List, length, refl, sym, subst, ◌∙◌, arith}
use Rattle.std.specs.List.{Contains}
use Rattle.std.proofs.lemmas.List.{take_all}
use Rattle.ld_base.specs.declared.linking.Choice.{Choice}
use Rattle.ld_base.specs.declared.linking.Loaded.{Loaded}
use Rattle.history_event.specs.declared.event.CloseAnswer.{CloseAnswer}
use Rattle.history_event.specs.declared.event.CloseAnswer.TheVariants as closes
use Rattle.history_event.specs.declared.event.Event.{Event}
use Rattle.history_event.specs.declared.event.Event.TheVariants as events
use Rattle.history_event.specs.declared.event.OpenAnswer.{OpenAnswer}
use Rattle.history_event.specs.declared.event.OpenAnswer.TheVariants as opens
use Rattle.history_event.specs.declared.event.OpenAsk.{OpenAsk}
use Rattle.history_event.specs.declared.event.Range.{Range}
use Rattle.history_event.specs.declared.event.SymAnswer.{SymAnswer}
use Rattle.history_event.specs.declared.event.SymAnswer.TheVariants as syms
use Rattle.history_event.specs.declared.event.SymAsk.{SymAsk}
use Rattle.history_event.specs.declared.state.Standing.{Standing}
use Rattle.history_event.specs.declared.state.Standing.TheVariants as standings
use Rattle.scope_rule.specs.Relocation.{choice_at}
use Rattle.scope_rule.specs.Seen.{seen_in}
use Rattle.scope_rule.specs.declared.namespace.Namespace.{Namespace}
use Rattle.history_state.specs.State.{State, empty_state}
use Rattle.history_state.specs.Grants.{is_open_standing, target_of}
use Rattle.history_state.specs.Slots.{IsSlot}
use Rattle.history_state.specs.Step.{die, grant, initialise, lower, open_done, namespace_before, settle, step, unmap}
use Rattle.history_state.specs.After.{after}
use Rattle.history_state.specs.Allowed.{AllowedIn, Closes, MayClose, MayGrant, MayUnmap}
use Rattle.history_state.specs.Legal.{Lawful}
use Rattle.history_state.specs.Opening.{MayOpen, Opens}
use Rattle.history_state.specs.Setting.{Machine, Setting}
use Rattle.history_state.specs.Lemmas.History.{by_history}
use Rattle.history_state.specs.Lemmas.Lists.{none_in, only_in}
use Rattle.history_state.specs.Lemmas.Good.{Core, Good, Inside, Safe, core, safe_choice, sound_of}
use Rattle.history_state.specs.Lemmas.Granted.{good_granted, good_settled}
use Rattle.history_state.specs.Lemmas.Closed.{good_close, good_initialise, good_unmap}
use Rattle.history_state.specs.Lemmas.Arrived.{Arrived}
use Rattle.history_state.specs.Lemmas.Brought.{LoadLaws, arrived_by, good_open}

-- ---- the invariant itself

good_start : Good (core empty_state)
good_start = record {
  leads = λ ns o d inside leads. absurd (none_in o (subst (λ (n : Namespace). Contains n.objects o) (sym (only_in _ ns inside.0)) inside.1));
  global = λ ns d there h. absurd (none_in d (subst (λ (n : Namespace). Contains n.global d) (sym (only_in _ ns there)) h));
  opens = λ ns r there h. absurd (none_in r (subst (λ (n : Namespace). Contains n.opens r) (sym (only_in _ ns there)) h));
  dies = λ ns o k inside closing set. absurd (none_in k closing);
  some = λ ns o inside. absurd (none_in o (subst (λ (n : Namespace). Contains n.objects o) (sym (only_in _ ns inside.0)) inside.1));
  low = λ ns o inside. absurd (none_in o (subst (λ (n : Namespace). Contains n.objects o) (sym (only_in _ ns inside.0)) inside.1));
  set_low = λ k d closing set. absurd (none_in k closing);
  chosen_low = λ k h. absurd (none_in k h);
  grants_low = λ g h. absurd (none_in g h);
  one_home = λ ns ms o q first second same. sym (only_in _ ns first.0) ∙ only_in _ ms second.0;
  one_id = λ ns ms first second same. sym (only_in _ ns first) ∙ only_in _ ms second;
  positive = omega arith;
}

good_grant : (s : State) (number hart owner slot : ℕ) (choice : Choice) (value : ℕ) → Good (core s) → MayGrant s number hart owner slot choice value
    → Good (core (grant number hart owner slot choice value s))
good_grant s number hart owner slot choice value good may =
    good_granted (core s) (record { number = number; hart = hart; owner = owner; slot = slot; choice = choice; value = value; standing = standings.Open }) good low safe
  where
    low : owner < s.next
    low = subst (λ (n : ℕ). n < s.next) may.may.is_slot.is (good.low may.may.is_slot.namespace may.may.is_slot.object (may.may.is_slot.there, may.may.is_slot.inside))

    safe : (ns : Namespace) (o : Loaded) (d : ℕ) → Inside s.namespaces ns o → o.serial ≡ owner → Contains (target_of choice) d → Safe s.closings ns o.serial d
    safe ns o d inside is h =
        let sl : IsSlot s owner slot choice = may.may.is_slot in
        let same : ns ≡ sl.namespace = good.one_home ns sl.namespace o sl.object inside (sl.there, sl.inside) (is ∙ sym sl.is) in
        let chosen : Contains (target_of (choice_at (seen_in sl.namespace) sl.object sl.reloc)) d = subst (λ (q : Choice). Contains (target_of q) d) sl.chooses h in
        let here : Safe s.closings sl.namespace sl.object.serial d = safe_choice s.closings sl.namespace (sound_of (core s) good sl.namespace sl.there) sl.object sl.inside sl.reloc d chosen in
        subst (λ (n : ℕ). Safe s.closings ns n d) (sl.is ∙ sym is) (subst (λ (n : Namespace). Safe s.closings n sl.object.serial d) (sym same) here)

-- ---- laws

-- a law of the core: it holds in the empty state, and each step that changes the core keeps it
pub record Law (Q : Core → Type 0) : Type 0 where
  pub starts : Q (core empty_state)
  pub opens : (w : Setting) (s : State) (hart : ℕ) (ask : OpenAsk) (id root : ℕ) (added : List Loaded) (ranges : List Range) → Good (core s) → Q (core s)
      → Opens w s hart ask id root added ranges → Arrived (core s) (namespace_before s id) added root → Q (core (open_done s hart ask id root added ranges))
  pub closes : (s : State) (hart handle : ℕ) (set : List ℕ) → Good (core s) → Q (core s) → Closes s handle set → Q (core (die hart set (lower handle s)))
  pub unmaps : (s : State) (hart : ℕ) (set : List ℕ) → Good (core s) → Q (core s) → MayUnmap s hart set → Q (core (unmap hart set s))
  pub grants : (s : State) (number hart owner slot : ℕ) (choice : Choice) (value : ℕ) → Good (core s) → Q (core s)
      → MayGrant s number hart owner slot choice value → Q (core (grant number hart owner slot choice value s))
  pub settles : (s : State) (number : ℕ) (standing : Standing) → Good (core s) → Q (core s) → is_open_standing standing ≡ false → Q (core (settle number standing s))
  pub initialises : (s : State) (object : ℕ) → Good (core s) → Q (core s) → Q (core (initialise object s))

module _ (laws : LoadLaws) where
  good_law : Law Good
  good_law = record {
    starts = good_start;
    opens = λ w s hart ask id root added ranges good same opens came. good_open laws w s hart ask id root added ranges good opens;
    closes = λ s hart handle set good same closes. good_close s hart handle set good closes;
    unmaps = λ s hart set good same may. good_unmap s hart set may.closing may.there may.whole good;
    grants = λ s number hart owner slot choice value good same may. good_grant s number hart owner slot choice value good may;
    settles = λ s number standing good same shut. good_settled (core s) number standing good;
    initialises = λ s object good same. good_initialise s object good;
  }

  module _ (Q : Core → Type 0) (law : Law Q) where
    open_keeps : (w : Setting) (s : State) (hart : ℕ) (ask : OpenAsk) (answer : OpenAnswer) → Good (core s) → Q (core s) → MayOpen w s hart ask answer
        → Q (core (step s (events.Open hart ask answer)))
    open_keeps w s hart ask (opens.Done id root added ranges) good q may =
        law.opens w s hart ask id root added ranges good q may (arrived_by laws w s good hart ask id root added ranges may)
    open_keeps w s hart ask opens.Absent good q may = q
    open_keeps w s hart ask (opens.Refused fault) good q may = q

    close_keeps : (s : State) (hart handle : ℕ) (answer : CloseAnswer) → Good (core s) → Q (core s) → MayClose s handle answer → Q (core (step s (events.Close hart handle answer)))
    close_keeps s hart handle (closes.Done set) good q may = law.closes s hart handle set good q may
    close_keeps s hart handle (closes.Refused fault) good q may = q

    sym_keeps : (s : State) (hart : ℕ) (ask : SymAsk) (answer : SymAnswer) → Q (core s) → Q (core (step s (events.Sym hart ask answer)))
    sym_keeps s hart ask (syms.Found serial index value) q = q
    sym_keeps s hart ask (syms.Refused fault) q = q

    keeps : (w : Setting) (past : List Event) (s : State) (e : Event) → Good (core s) → Q (core s) → AllowedIn w past s e → Q (core (step s e))
    keeps w past s (events.Open hart ask answer) good q may = open_keeps w s hart ask answer good q may
    keeps w past s (events.Close hart handle answer) good q may = close_keeps s hart handle answer good q may
    keeps w past s (events.Unmapped hart set) good q may = law.unmaps s hart set good q may
    keeps w past s (events.Grant number hart owner slot choice value) good q may = law.grants s number hart owner slot choice value good q may
    keeps w past s (events.Bound number) good q may = law.settles s number standings.Bound good q refl
    keeps w past s (events.Lost number saw) good q may = law.settles s number (standings.Lost saw) good q refl
    keeps w past s (events.Unresolved hart owner slot choice) good q may = q
    keeps w past s (events.Sym hart ask answer) good q may = sym_keeps s hart ask answer q
    keeps w past s (events.Tls hart owner address) good q may = q
    keeps w past s (events.Init hart object) good q may = law.initialises s object good q
    keeps w past s (events.Fini hart object) good q may = q
    keeps w past s (events.Wrote hart bytes) good q may = q
    keeps w past s (events.Told hart fault) good q may = q
    keeps w past s (events.Ended hart reason) good q may = q

  -- the invariant, and a law beside it, in each state
  pub by_law : (Q : Core → Type 0) → Law Q → (m : Machine) (journal : List Event) → Lawful m journal → Good (core (after journal)) × Q (core (after journal))
  by_law Q law m journal lawful =
      subst (λ (es : List Event). Good (core (after es)) × Q (core (after es))) (take_all (length journal) journal (omega arith))
      (by_history m (λ s. Good (core s) × Q (core s)) (good_start, law.starts)
      (λ w past e same both may. (keeps Good good_law w past (after past) e both.0 both.0 may, keeps Q law w past (after past) e both.0 both.1 may))
      journal lawful (length journal))

  pub good_after : (m : Machine) (journal : List Event) → Lawful m journal → Good (core (after journal))
  good_after m journal lawful = (by_law Good good_law m journal lawful).0
