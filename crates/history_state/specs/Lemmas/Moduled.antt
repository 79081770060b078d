-- Modules are in the order of their numbers, each is that of a mapped object, and each mapped object with thread-local storage has its module.
use Rattle.std.proofs.Common.{◌≡◌, ◌⊎◌, inl, inr, ⊎_elim, ℕ, ◌<◌, ◌≤◌, Bool, not, ltb, List, [], ◌∷◌, map, length, Option, Some, None, refl, sym, ap, subst, ◌∙◌, arith, ◌++◌}
use Rattle.std.specs.List.{Contains, filter}
use Rattle.std.specs.Option.{is_some}
use Rattle.std.proofs.lemmas.Bool.{cases_lt, lt-ltb}
use Rattle.std.proofs.lemmas.List.{take_all}
use Rattle.std.proofs.lemmas.List.Elements.{All-nil, Contains-append_cases, Contains-append_left, Contains-append_right}
use Rattle.ld_base.specs.declared.linking.Loaded.{Loaded}
use Rattle.ld_base.specs.declared.linking.TlsPlace.{TlsPlace}
use Rattle.ld_base.specs.declared.object.TlsSeg.{TlsSeg}
use Rattle.history_event.specs.declared.event.CloseAnswer.{CloseAnswer}
use Rattle.history_event.specs.declared.event.CloseAnswer.TheVariants as closes
use Rattle.history_event.specs.declared.event.Event.{Event}
use Rattle.history_event.specs.declared.event.Event.TheVariants as events
use Rattle.history_event.specs.declared.event.OpenAnswer.{OpenAnswer}
use Rattle.history_event.specs.declared.event.OpenAnswer.TheVariants as opens
use Rattle.history_event.specs.declared.event.OpenAsk.{OpenAsk}
use Rattle.history_event.specs.declared.event.Range.{Range}
use Rattle.history_event.specs.declared.event.SymAnswer.{SymAnswer}
use Rattle.history_event.specs.declared.event.SymAnswer.TheVariants as syms
use Rattle.history_event.specs.declared.event.SymAsk.{SymAsk}
use Rattle.history_event.specs.declared.state.Module.{Module}
use Rattle.scope_rule.specs.Opening.{opened}
use Rattle.scope_rule.specs.declared.namespace.Namespace.{Namespace}
use Rattle.tls_blocks.specs.Numbers.{AreNumbered, IsLeastFree, number_of, with_module}
use Rattle.history_state.specs.State.{State, Statics, empty_namespace}
use Rattle.history_state.specs.After.{after}
use Rattle.history_state.specs.Allowed.{AllowedIn}
use Rattle.history_state.specs.Flags.{is_global}
use Rattle.history_state.specs.Laws.{TakesLeast}
use Rattle.history_state.specs.Legal.{Lawful}
use Rattle.history_state.specs.Objects.{has, is_startup}
use Rattle.history_state.specs.Opening.{MayOpen, Opens, OpensName}
use Rattle.history_state.specs.Setting.{Machine, Setting}
use Rattle.history_state.specs.Step.{die, dying_in, dying_object, gone_in, initialise, is_left, loaded, lower, lowered_in, ready_in, ready_object, step, unmap, with_namespace}
use Rattle.history_state.specs.Storage.{HaveModules, IsPlaceOf, module_of_place, with_modules, with_place}
use Rattle.history_state.specs.Lemmas.History.{by_history}
use Rattle.history_state.specs.Lemmas.Lists.{first_or_later, from_filter, here, in_filter, in_map, from_map, later, none_in, only_in}
use Rattle.history_state.specs.Lemmas.Changed.{Leaves, leaves_dying, leaves_ready}
use Rattle.history_state.specs.Lemmas.Closed.{each_left, stayed}
use Rattle.history_state.specs.Lemmas.Dangling.{left_nonempty}
use Rattle.history_state.specs.Lemmas.Good.{each_mapped}
use Rattle.history_state.specs.Lemmas.Imaged.{objects_open, reached_open}

-- what holds of modules by their numbers
pub record NumberLaws : Type 0 where
  pub more : (modules : List Module) (m : Module) → AreNumbered modules → 1 ≤ number_of m → AreNumbered (with_module m modules)
  pub fewer : (keep : Module → Bool) (modules : List Module) → AreNumbered modules → AreNumbered (filter keep modules)

-- ---- one module more

from_with : (m x : Module) (modules : List Module) → Contains (with_module m modules) x → (m ≡ x) ⊎ Contains modules x
from_with m x modules h = ⊎_elim
    (λ (i : Contains (filter (λ y. ltb y.number m.number) modules) x). inr (from_filter (λ y. ltb y.number m.number) modules x i).0)
    (λ (i : Contains (m ∷ filter (λ y. ltb m.number y.number) modules) x). ⊎_elim
    (λ (e : m ≡ x). inl e)
    (λ (j : Contains (filter (λ y. ltb m.number y.number) modules) x). inr (from_filter (λ y. ltb m.number y.number) modules x j).0)
    (first_or_later m (filter (λ y. ltb m.number y.number) modules) x i))
    (Contains-append_cases (filter (λ y. ltb y.number m.number) modules) (m ∷ filter (λ y. ltb m.number y.number) modules) x h)

with_itself : (m : Module) (modules : List Module) → Contains (with_module m modules) m
with_itself m modules = Contains-append_right (filter (λ y. ltb y.number m.number) modules) (m ∷ filter (λ y. ltb m.number y.number) modules) m (here m _)

-- whose number is another stays
with_others : (m x : Module) (modules : List Module) → Contains modules x → (number_of x ≡ number_of m → ⊥) → Contains (with_module m modules) x
with_others m x modules h other = ⊎_elim
    (λ (lt : number_of x < number_of m). Contains-append_left lows highs x (in_filter (λ y. ltb y.number m.number) modules x h (lt-ltb (number_of x) (number_of m) lt)))
    (λ (le : number_of m ≤ number_of x). Contains-append_right lows highs x (later m _ x (in_filter (λ y. ltb m.number y.number) modules x h (lt-ltb (number_of m) (number_of x) (more (number_of m) (number_of x) le other)))))
    (cases_lt (number_of x) (number_of m))
  where
    lows : List Module
    lows = filter (λ y. ltb y.number m.number) modules

    highs : List Module
    highs = m ∷ filter (λ y. ltb m.number y.number) modules

    more : (a b : ℕ) → a ≤ b → (b ≡ a → ⊥) → a < b
    more a b le ne = ⊎_elim (λ (lt : a < b). lt) (λ (ge : b ≤ a). absurd (ne (omega (arith, le, ge)))) (cases_lt a b)

-- ---- the modules of new objects, one after another

-- an object has a module where it has a segment
same_some : (startup : Bool) (modules : List Module) (st : Statics) (serial : ℕ) (seg : Option TlsSeg) (place : Option TlsPlace) → IsPlaceOf startup modules st serial seg place → is_some place ≡ is_some seg
same_some startup modules st serial None None h = refl
same_some startup modules st serial None (Some place) h = absurd h
same_some startup modules st serial (Some seg) None h = absurd h
same_some startup modules st serial (Some seg) (Some place) h = refl

least_of : (startup : Bool) (modules : List Module) (st : Statics) (serial : ℕ) (seg : Option TlsSeg) (place : TlsPlace) → IsPlaceOf startup modules st serial seg (Some place) → IsLeastFree modules place.number
least_of startup modules st serial None place h = absurd h
least_of startup modules st serial (Some seg) place h = h.0

module _ (startup : Bool) where
  new_some : (modules : List Module) (st : Statics) (added : List Loaded) → HaveModules startup modules st added → (a : Loaded) → Contains added a → is_some a.«module» ≡ is_some a.object.tls
  new_some modules st [] have a h = absurd (none_in a h)
  new_some modules st (o ∷ rest) have a h = ⊎_elim
      (λ (e : o ≡ a). subst (λ (q : Loaded). is_some q.«module» ≡ is_some q.object.tls) e (same_some startup modules st o.serial o.object.tls o.«module» have.0))
      (λ (i : Contains rest a). new_some (with_place o modules) _ rest have.1 a i)
      (first_or_later o rest a h)

  -- one object's place
  place_keeps : (modules : List Module) (st : Statics) (o : Loaded) (place : Option TlsPlace) → o.«module» ≡ place → IsPlaceOf startup modules st o.serial o.object.tls place
      → (x : Module) → Contains modules x → Contains (with_place o modules) x
  place_keeps modules st o (Some place) e is x h =
      subst (λ (p : Option TlsPlace). Contains (with_place (record o { «module» = p }) modules) x) (sym e)
      (with_others (module_of_place o.serial place) x modules h (λ (same : number_of x ≡ place.number). (least_of startup modules st o.serial o.object.tls place is).free (x, h, same)))
  place_keeps modules st o None e is x h = subst (λ (p : Option TlsPlace). Contains (with_place (record o { «module» = p }) modules) x) (sym e) h

  place_from : (modules : List Module) (o : Loaded) (p : Option TlsPlace) → o.«module» ≡ p → (x : Module) → Contains (with_place (record o { «module» = p }) modules) x
      → Contains modules x ⊎ ((place : TlsPlace) × (o.«module» ≡ Some place) × (module_of_place o.serial place ≡ x))
  place_from modules o (Some place) e x h = ⊎_elim
      (λ (is : module_of_place o.serial place ≡ x). inr (place, e, is))
      (λ (i : Contains modules x). inl i)
      (from_with (module_of_place o.serial place) x modules h)
  place_from modules o None e x h = inl h

  all_keep : (modules : List Module) (st : Statics) (added : List Loaded) → HaveModules startup modules st added → (x : Module) → Contains modules x → Contains (with_modules added modules) x
  all_keep modules st [] have x h = h
  all_keep modules st (o ∷ rest) have x h = all_keep (with_place o modules) _ rest have.1 x (place_keeps modules st o o.«module» refl have.0 x h)

  all_new : (modules : List Module) (st : Statics) (added : List Loaded) → HaveModules startup modules st added → (a : Loaded) (place : TlsPlace) → Contains added a → a.«module» ≡ Some place
      → Contains (with_modules added modules) (module_of_place a.serial place)
  all_new modules st [] have a place h e = absurd (none_in a h)
  all_new modules st (o ∷ rest) have a place h e = ⊎_elim
      (λ (is : o ≡ a). all_keep (with_place o modules) _ rest have.1 (module_of_place a.serial place)
      (subst (λ (q : Loaded). Contains (with_place q modules) (module_of_place a.serial place)) (sym is)
      (subst (λ (p : Option TlsPlace). Contains (with_place (record a { «module» = p }) modules) (module_of_place a.serial place)) (sym e) (with_itself (module_of_place a.serial place) modules))))
      (λ (i : Contains rest a). all_new (with_place o modules) _ rest have.1 a place i e)
      (first_or_later o rest a h)

  pub all_from : (modules : List Module) (added : List Loaded) (x : Module) → Contains (with_modules added modules) x
      → Contains modules x ⊎ ((a : Loaded) × Contains added a × ((place : TlsPlace) × (a.«module» ≡ Some place) × (module_of_place a.serial place ≡ x)))
  all_from modules [] x h = inl h
  all_from modules (o ∷ rest) x h = ⊎_elim
      (λ (i : Contains (with_place o modules) x). ⊎_elim
      (λ (j : Contains modules x). inl j)
      (λ (j : (place : TlsPlace) × (o.«module» ≡ Some place) × (module_of_place o.serial place ≡ x)). inr (o, here o rest, j))
      (place_from modules o o.«module» refl x i))
      (λ (i : (a : Loaded) × Contains rest a × ((place : TlsPlace) × (a.«module» ≡ Some place) × (module_of_place a.serial place ≡ x))). inr (i.0, later o rest i.0 i.1, i.2))
      (all_from (with_place o modules) rest x h)

  -- each new number is the least that is free then
  least_in_order : (modules : List Module) (st : Statics) (before behind : List Loaded) (o : Loaded) (place : TlsPlace) → HaveModules startup modules st (before ++ o ∷ behind) → o.«module» ≡ Some place
      → IsLeastFree (with_modules before modules) place.number
  least_in_order modules st [] behind o place have e = least_of startup modules st o.serial o.object.tls place (subst (IsPlaceOf startup modules st o.serial o.object.tls) e have.0)
  least_in_order modules st (x ∷ before) behind o place have e = least_in_order (with_place x modules) _ before behind o place have.1 e

  all_numbered : NumberLaws → (modules : List Module) (st : Statics) (added : List Loaded) → HaveModules startup modules st added → AreNumbered modules → AreNumbered (with_modules added modules)
  all_numbered laws modules st [] have numbered = numbered
  all_numbered laws modules st (o ∷ rest) have numbered = all_numbered laws (with_place o modules) _ rest have.1 (one o.«module» refl have.0)
    where
      one : (p : Option TlsPlace) → o.«module» ≡ p → IsPlaceOf startup modules st o.serial o.object.tls p → AreNumbered (with_place o modules)
      one (Some place) e is = subst (λ (q : Option TlsPlace). AreNumbered (with_place (record o { «module» = q }) modules)) (sym e)
          (laws.more modules (module_of_place o.serial place) numbered (least_of startup modules st o.serial o.object.tls place is).positive)
      one None e is = subst (λ (q : Option TlsPlace). AreNumbered (with_place (record o { «module» = q }) modules)) (sym e) numbered

-- ---- the invariant

pub record Moduled (all : List Namespace) (modules : List Module) : Type 0 where
  pub numbered : AreNumbered modules
  pub mapped : (x : Module) → Contains modules x → (ns : Namespace) × (o : Loaded) × Contains all ns × Contains ns.objects o × ((place : TlsPlace) × (o.«module» ≡ Some place) × (module_of_place o.serial place ≡ x))
  pub there : (ns : Namespace) (o : Loaded) (place : TlsPlace) → Contains all ns → Contains ns.objects o → o.«module» ≡ Some place → Contains modules (module_of_place o.serial place)
  pub some : (ns : Namespace) (o : Loaded) → Contains all ns → Contains ns.objects o → is_some o.«module» ≡ is_some o.object.tls

moduled_open : NumberLaws → (startup : Bool) (st : Statics) (id root : ℕ) (g : Bool) (added : List Loaded) (all : List Namespace) (modules : List Module) → HaveModules startup modules st added → Moduled all modules
    → Moduled (with_namespace id (λ n. opened n added root g) all) (with_modules added modules)
moduled_open laws startup st id root g added all modules have moduled = record {
  numbered = all_numbered startup laws modules st added have moduled.numbered;
  mapped = λ x h. ⊎_elim
      (λ (old : Contains modules x).
      let at = moduled.mapped x old in
      let to = (reached_open id added root g all).0 at.0 at.1 at.2 at.3 in
      (to.0, at.1, to.1, to.2, at.4))
      (λ (new : (a : Loaded) × Contains added a × ((place : TlsPlace) × (a.«module» ≡ Some place) × (module_of_place a.serial place ≡ x))).
      let to = (reached_open id added root g all).1 new.0 new.1 in
      (to.0, new.0, to.1, to.2, new.2))
      (all_from startup modules added x h);
  there = λ ns o place at inside e. ⊎_elim
      (λ (old : (ms : Namespace) × Contains all ms × Contains ms.objects o). all_keep startup modules st added have (module_of_place o.serial place) (moduled.there old.0 o place old.1 old.2 e))
      (λ (new : Contains added o). all_new startup modules st added have o place new e)
      (objects_open id added root g all ns o at inside);
  some = λ ns o at inside. ⊎_elim
      (λ (old : (ms : Namespace) × Contains all ms × Contains ms.objects o). moduled.some old.0 o old.1 old.2)
      (λ (new : Contains added o). new_some startup modules st added have o new)
      (objects_open id added root g all ns o at inside);
}

moduled_map : (change : Namespace → Namespace) (each : Loaded → Loaded) → Leaves each → ((ns : Namespace) → (change ns).objects ≡ map each ns.objects) → (all : List Namespace) (modules : List Module)
    → Moduled all modules → Moduled (map change all) modules
moduled_map change each leaves is all modules moduled = record {
  numbered = moduled.numbered;
  mapped = λ x h.
      let at = moduled.mapped x h in (
        change at.0,
        each at.1,
        in_map change all at.0 at.2,
        subst (λ (os : List Loaded). Contains os (each at.1)) (sym (is at.0)) (in_map each at.0.objects at.1 at.3),
        subst (λ (q : Loaded). (place : TlsPlace) × (q.«module» ≡ Some place) × (module_of_place q.serial place ≡ x)) (sym (leaves at.1).1) at.4,
      );
  there = λ ms o place there inside. back ms o there inside (λ q. q.«module» ≡ Some place → Contains modules (module_of_place q.serial place)) (λ ns q at i. subst (λ (p : Loaded). p.«module» ≡ Some place → Contains modules (module_of_place p.serial place)) (sym (leaves q).1) (moduled.there ns q place at i));
  some = λ ms o there inside. back ms o there inside (λ q. is_some q.«module» ≡ is_some q.object.tls) (λ ns q at i. subst (λ (p : Loaded). is_some p.«module» ≡ is_some p.object.tls) (sym (leaves q).1) (moduled.some ns q at i));
}
  where
    back : (ms : Namespace) (o : Loaded) → Contains (map change all) ms → Contains ms.objects o → (P : Loaded → Type 0) → ((ns : Namespace) (q : Loaded) → Contains all ns → Contains ns.objects q → P (each q)) → P o
    back ms o there inside P f = each_mapped change all (λ n. Contains n.objects o → P o)
        (λ ns at h. let q = from_map each ns.objects o (subst (λ (os : List Loaded). Contains os o) (is ns) h) in subst P q.2 (f ns q.0 at q.1)) ms there inside

moduled_lower : (handle : ℕ) (all : List Namespace) (modules : List Module) → Moduled all modules → Moduled (map (lowered_in handle) all) modules
moduled_lower handle all modules moduled = record {
  numbered = moduled.numbered;
  mapped = λ x h. let at = moduled.mapped x h in (lowered_in handle at.0, at.1, in_map (lowered_in handle) all at.0 at.2, at.3, at.4);
  there = λ ms o place there inside. each_mapped (lowered_in handle) all (λ n. Contains n.objects o → o.«module» ≡ Some place → Contains modules (module_of_place o.serial place)) (λ ns at h. moduled.there ns o place at h) ms there inside;
  some = λ ms o there inside. each_mapped (lowered_in handle) all (λ n. Contains n.objects o → is_some o.«module» ≡ is_some o.object.tls) (λ ns at h. moduled.some ns o at h) ms there inside;
}

moduled_unmap : NumberLaws → (set : List ℕ) (all : List Namespace) (modules : List Module) → Moduled all modules
    → Moduled (filter is_left (map (gone_in set) all)) (filter (λ m. not (has set m.serial)) modules)
moduled_unmap laws set all modules moduled = record {
  numbered = laws.fewer (λ m. not (has set m.serial)) modules moduled.numbered;
  mapped = λ x h.
      let kept = from_filter (λ (m : Module). not (has set m.serial)) modules x h in
      let at = moduled.mapped x kept.0 in
      let stays : Contains (gone_in set at.0).objects at.1 =
      in_filter (λ (o : Loaded). not (has set o.serial)) at.0.objects at.1 at.3 (ap (λ (m : Module). not (has set m.serial)) at.4.2 ∙ kept.1) in
      (gone_in set at.0, at.1, in_filter is_left (map (gone_in set) all) (gone_in set at.0) (in_map (gone_in set) all at.0 at.2) (left_nonempty (gone_in set at.0) at.1.serial (at.1, stays, refl)), stays, at.4);
  there = λ ms o place there inside e. each_left set all (λ n. Contains n.objects o → Contains (filter (λ (m : Module). not (has set m.serial)) modules) (module_of_place o.serial place))
      (λ ns at h.
      let was = from_filter (λ (q : Loaded). not (has set q.serial)) ns.objects o h in
      in_filter (λ (m : Module). not (has set m.serial)) modules (module_of_place o.serial place) (moduled.there ns o place at was.0 e) was.1)
      ms there inside;
  some = λ ms o there inside. each_left set all (λ n. Contains n.objects o → is_some o.«module» ≡ is_some o.object.tls) (λ ns at h. moduled.some ns o at (stayed set ns o h).0) ms there inside;
}

-- ---- each event

abbrev ModuledIn : State → Type 0
ModuledIn s = Moduled s.namespaces s.modules

pub have_modules : (w : Setting) (s : State) (hart : ℕ) (ask : OpenAsk) (id root : ℕ) (added : List Loaded) (ranges : List Range) (name : Option (List ℕ)) → OpensName w s hart ask name id root added ranges
    → HaveModules (is_startup s) s.modules s.statics added
have_modules w s hart ask id root added ranges (Some name) loads = loads.storage.modules
have_modules w s hart ask id root added ranges None program = subst (HaveModules (is_startup s) s.modules s.statics) (sym program.none) tt

module _ (laws : NumberLaws) where
  open_moduled : (w : Setting) (s : State) (hart : ℕ) (ask : OpenAsk) (answer : OpenAnswer) → MayOpen w s hart ask answer → ModuledIn s → ModuledIn (step s (events.Open hart ask answer))
  unfolding loaded
  open_moduled w s hart ask (opens.Done id root added ranges) may moduled =
      moduled_open laws (is_startup s) s.statics id root (is_global ask.flags) added s.namespaces s.modules (have_modules w s hart ask id root added ranges ask.name may.name) moduled
  open_moduled w s hart ask opens.Absent may moduled = moduled
  open_moduled w s hart ask (opens.Refused fault) may moduled = moduled

  close_moduled : (s : State) (hart handle : ℕ) (answer : CloseAnswer) → ModuledIn s → ModuledIn (step s (events.Close hart handle answer))
  unfolding die lower
  close_moduled s hart handle (closes.Done set) moduled =
      moduled_map (dying_in hart set) (dying_object hart set) (leaves_dying hart set) (λ ns. refl) (map (lowered_in handle) s.namespaces) s.modules (moduled_lower handle s.namespaces s.modules moduled)
  close_moduled s hart handle (closes.Refused fault) moduled = moduled

  sym_moduled : (s : State) (hart : ℕ) (ask : SymAsk) (answer : SymAnswer) → ModuledIn s → ModuledIn (step s (events.Sym hart ask answer))
  sym_moduled s hart ask (syms.Found serial index value) moduled = moduled
  sym_moduled s hart ask (syms.Refused fault) moduled = moduled

  moduled_step : (w : Setting) (past : List Event) (s : State) (e : Event) → AllowedIn w past s e → ModuledIn s → ModuledIn (step s e)
  unfolding unmap initialise
  moduled_step w past s (events.Open hart ask answer) may moduled = open_moduled w s hart ask answer may moduled
  moduled_step w past s (events.Close hart handle answer) may moduled = close_moduled s hart handle answer moduled
  moduled_step w past s (events.Unmapped hart set) may moduled = moduled_unmap laws set s.namespaces s.modules moduled
  moduled_step w past s (events.Grant number hart owner slot choice value) may moduled = moduled
  moduled_step w past s (events.Bound number) may moduled = moduled
  moduled_step w past s (events.Lost number saw) may moduled = moduled
  moduled_step w past s (events.Unresolved hart owner slot choice) may moduled = moduled
  moduled_step w past s (events.Sym hart ask answer) may moduled = sym_moduled s hart ask answer moduled
  moduled_step w past s (events.Tls hart owner address) may moduled = moduled
  moduled_step w past s (events.Init hart object) may moduled = moduled_map (ready_in object) (ready_object object) (leaves_ready object) (λ ns. refl) s.namespaces s.modules moduled
  moduled_step w past s (events.Fini hart object) may moduled = moduled
  moduled_step w past s (events.Wrote hart bytes) may moduled = moduled
  moduled_step w past s (events.Told hart fault) may moduled = moduled
  moduled_step w past s (events.Ended hart reason) may moduled = moduled

  pub moduled_after : (m : Machine) (journal : List Event) → Lawful m journal → ModuledIn (after journal)
  moduled_after m journal lawful =
      subst (λ (es : List Event). ModuledIn (after es)) (take_all (length journal) journal (omega arith))
      (by_history m ModuledIn
      (record {
        numbered = record { positive = All-nil (λ x. 1 ≤ number_of x); rising = λ i j d lt less. absurd (omega (arith, less)) };
        mapped = λ x h. absurd (none_in x h);
        there = λ ns o place there inside. absurd (none_in o (subst (λ (n : Namespace). Contains n.objects o) (sym (only_in (empty_namespace 0) ns there)) inside));
        some = λ ns o there inside. absurd (none_in o (subst (λ (n : Namespace). Contains n.objects o) (sym (only_in (empty_namespace 0) ns there)) inside));
      })
      (λ w past e same moduled may. moduled_step w past (after past) e may moduled) journal lawful (length journal))

-- ---- new modules

pub new_numbers : (w : Setting) (s : State) (hart : ℕ) (ask : OpenAsk) (id root : ℕ) (added : List Loaded) (ranges : List Range) → Opens w s hart ask id root added ranges → TakesLeast s added
new_numbers w s hart ask id root added ranges may before behind o place are e =
    least_in_order (is_startup s) s.modules s.statics before behind o place
    (subst (HaveModules (is_startup s) s.modules s.statics) are (have_modules w s hart ask id root added ranges ask.name may.name)) e
