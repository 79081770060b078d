-- The modules that have a static offset are those of the objects that startup loaded.
use Rattle.std.proofs.Common.{◌≡◌, ◌⊎◌, inl, inr, ⊎_elim, ℕ, ◌<◌, ◌≤◌, Bool, true, false, not, List, [], ◌∷◌, ◌++◌, map, Option, Some, None, refl, sym, ap, subst, ◌∙◌, arith}
use Rattle.history_state.specs.Lemmas.Good.{core}
use Rattle.std.specs.Prelude.{IsSomeAnd}
use Rattle.history_state.specs.Lemmas.Alone.{alone_after, one_object}
use Rattle.history_state.specs.Laws.{ModulesAreTidy}
use Rattle.std.specs.List.{Contains}
use Rattle.std.specs.Option.{is_some}
use Rattle.std.proofs.lemmas.Bool.{cases_Bool, true≢false}
use Rattle.ld_base.specs.declared.linking.Loaded.{Loaded}
use Rattle.ld_base.specs.declared.linking.TlsPlace.{TlsPlace}
use Rattle.ld_base.specs.declared.object.TlsSeg.{TlsSeg}
use Rattle.history_event.specs.declared.event.CloseAnswer.TheVariants as closes
use Rattle.history_event.specs.declared.event.Event.{Event}
use Rattle.history_event.specs.declared.event.Event.TheVariants as events
use Rattle.history_event.specs.declared.event.OpenAnswer.TheVariants as opens
use Rattle.history_event.specs.declared.event.OpenAsk.{OpenAsk}
use Rattle.history_event.specs.declared.event.Range.{Range}
use Rattle.history_event.specs.declared.event.SymAnswer.TheVariants as syms
use Rattle.history_event.specs.declared.state.Loading.{Loading}
use Rattle.history_event.specs.declared.state.Module.{Module}
use Rattle.history_state.specs.State.{State, Statics}
use Rattle.history_state.specs.After.{after}
use Rattle.history_state.specs.Allowed.{AllowedIn}
use Rattle.history_state.specs.Legal.{Lawful}
use Rattle.history_state.specs.Objects.{first_serials, has, is_none_loaded, is_startup, serial_of, startup_serials}
use Rattle.history_state.specs.Opening.{Opens}
use Rattle.history_state.specs.Setting.{Machine, Setting}
use Rattle.history_state.specs.Step.{die, initialise, loaded, loading_of, lower, step, unmap}
use Rattle.history_state.specs.Storage.{HaveModules, IsPlaceOf, module_of_place, statics_with_one, with_modules, with_place}
use Rattle.history_state.specs.Lemmas.History.{by_lawful}
use Rattle.history_state.specs.Lemmas.Lists.{first_or_later, from_filter, has_in, here, in_has, in_map, none_in}
use Rattle.history_state.specs.Lemmas.Brought.{LoadLaws, arrived_by}
use Rattle.history_state.specs.Lemmas.Moduled.{NumberLaws, all_from, have_modules, moduled_after}
use Rattle.history_state.specs.Lemmas.Serials.{InOrder, in_order_after}
use Rattle.history_state.specs.Lemmas.Steps.{good_after}

-- a new module has an offset at startup
offset_of : (startup : Bool) (modules : List Module) (st : Statics) (serial : ℕ) (seg : Option TlsSeg) (place : TlsPlace) → IsPlaceOf startup modules st serial seg (Some place) → is_some place.offset ≡ startup
offset_of startup modules st serial None place h = absurd h
offset_of true modules st serial (Some seg) place h = by _ place.offset h.1
  where
    by : (P : ℕ → Type 0) (offset : Option ℕ) → IsSomeAnd offset P → is_some offset ≡ true
    by P (Some n) i = refl
    by P None i = absurd i
offset_of false modules st serial (Some seg) place h = ap is_some h.1

new_offset : (startup : Bool) (modules : List Module) (st : Statics) (added : List Loaded) → HaveModules startup modules st added → (a : Loaded) (place : TlsPlace) → Contains added a → a.«module» ≡ Some place
    → is_some place.offset ≡ startup
new_offset startup modules st [] have a place h e = absurd (none_in a h)
new_offset startup modules st (o ∷ rest) have a place h e = ⊎_elim
    (λ (is : o ≡ a). offset_of startup modules st o.serial o.object.tls place (subst (IsPlaceOf startup modules st o.serial o.object.tls) (ap (λ (q : Loaded). q.«module») is ∙ e) have.0))
    (λ (i : Contains rest a). new_offset startup (with_place o modules) (statics_with_one st o.serial o.object.tls o.«module») rest have.1 a place i e)
    (first_or_later o rest a h)

abbrev Offsets : State → Type 0
Offsets s = (x : Module) → Contains s.modules x → is_some x.offset ≡ has (startup_serials s) x.serial

-- startup's serials stay
pub first_stay : (loadings more : List Loading) → is_none_loaded loadings ≡ false → first_serials (loadings ++ more) ≡ first_serials loadings
first_stay [] more some = absurd (true≢false some)
first_stay (l ∷ rest) more some = refl

first_come : (loadings : List Loading) (hart : ℕ) (added : List Loaded) → is_none_loaded loadings ≡ true → (a : Loaded) → Contains added a → has (first_serials (loadings ++ loading_of hart added)) a.serial ≡ true
first_come [] hart [] none a h = absurd (none_in a h)
first_come [] hart (o ∷ rest) none a h = in_has (map serial_of (o ∷ rest)) a.serial (in_map serial_of (o ∷ rest) a h)
first_come (l ∷ loadings) hart added none a h = absurd (true≢false (sym none))

pub none_loaded : (loadings : List Loading) → is_none_loaded loadings ≡ true → (l : Loading) → Contains loadings l → ⊥
none_loaded [] none l h = none_in l h
none_loaded (k ∷ loadings) none l h = true≢false (sym none)

first_low : (loadings : List Loading) (n d : ℕ) → ((l : Loading) → Contains loadings l → Contains l.serials d → d < n) → n ≤ d → has (first_serials loadings) d ≡ false
first_low [] n d low high = refl
first_low (l ∷ rest) n d low high = ⊎_elim
    (λ (t : has l.serials d ≡ true). absurd (let under : d < n = low l (here l rest) (has_in l.serials d t) in omega (arith, under, high)))
    (λ (f : has l.serials d ≡ false). f)
    (cases_Bool (has l.serials d))

module _ (numbers : NumberLaws) (loads : LoadLaws) (m : Machine) (w : Setting) (past : List Event) (lawful : Lawful m past) (hart : ℕ) (ask : OpenAsk) (id root : ℕ) (added : List Loaded) (ranges : List Range)
    (may : Opens w (after past) hart ask id root added ranges) where
  abbrev s : State
  s = after past

  have : HaveModules (is_startup s) s.modules s.statics added
  have = have_modules w s hart ask id root added ranges ask.name may.name

  order : InOrder (core s)
  order = in_order_after loads m past lawful

  offsets_open : Offsets s → (x : Module) → Contains (with_modules added s.modules) x → is_some x.offset ≡ has (first_serials (s.loadings ++ loading_of hart added)) x.serial
  offsets_open offsets x there = by (is_startup s) refl (all_from (is_startup s) s.modules added x there)
    where
      by : (t : Bool) → is_startup s ≡ t → Contains s.modules x ⊎ ((a : Loaded) × Contains added a × ((place : TlsPlace) × (a.«module» ≡ Some place) × (module_of_place a.serial place ≡ x)))
          → is_some x.offset ≡ has (first_serials (s.loadings ++ loading_of hart added)) x.serial
      by true e (inl old) =
          let home = (moduled_after numbers m past lawful).mapped x old in
          let l = order.of home.0 home.1 home.2 home.3 in
          absurd (none_loaded s.loadings e l.0 l.1)
      by false e (inl old) = offsets x old ∙ ap (λ (ds : List ℕ). has ds x.serial) (sym (first_stay s.loadings (loading_of hart added) e))
      by true e (inr new) =
          subst (λ (y : Module). is_some y.offset ≡ has (first_serials (s.loadings ++ loading_of hart added)) y.serial) new.2.2
          (new_offset (is_startup s) s.modules s.statics added have new.0 new.2.0 new.1 new.2.1 ∙ e ∙ sym (first_come s.loadings hart added e new.0 new.1))
      by false e (inr new) =
          let high = (arrived_by loads w s (good_after loads m past lawful) hart ask id root added ranges may).fresh new.0 new.1 in
          subst (λ (y : Module). is_some y.offset ≡ has (first_serials (s.loadings ++ loading_of hart added)) y.serial) new.2.2
          (new_offset (is_startup s) s.modules s.statics added have new.0 new.2.0 new.1 new.2.1 ∙ e
          ∙ sym (ap (λ (ds : List ℕ). has ds new.0.serial) (first_stay s.loadings (loading_of hart added) e) ∙ first_low s.loadings s.next new.0.serial (λ l i j. order.low l new.0.serial i j) high.0))

offsets_step : NumberLaws → LoadLaws → (m : Machine) (w : Setting) (past : List Event) (e : Event) → Lawful m past → AllowedIn w past (after past) e → Offsets (after past) → Offsets (step (after past) e)
unfolding loaded die lower unmap initialise
offsets_step numbers loads m w past (events.Open hart ask (opens.Done id root added ranges)) lawful may offsets = offsets_open numbers loads m w past lawful hart ask id root added ranges may offsets
offsets_step numbers loads m w past (events.Open hart ask opens.Absent) lawful may offsets = offsets
offsets_step numbers loads m w past (events.Open hart ask (opens.Refused fault)) lawful may offsets = offsets
offsets_step numbers loads m w past (events.Close hart handle (closes.Done set)) lawful may offsets = offsets
offsets_step numbers loads m w past (events.Close hart handle (closes.Refused fault)) lawful may offsets = offsets
offsets_step numbers loads m w past (events.Unmapped hart set) lawful may offsets = λ x there. offsets x (from_filter (λ (y : Module). not (has set y.serial)) (after past).modules x there).0
offsets_step numbers loads m w past (events.Grant number hart owner slot choice value) lawful may offsets = offsets
offsets_step numbers loads m w past (events.Bound number) lawful may offsets = offsets
offsets_step numbers loads m w past (events.Lost number saw) lawful may offsets = offsets
offsets_step numbers loads m w past (events.Unresolved hart owner slot choice) lawful may offsets = offsets
offsets_step numbers loads m w past (events.Sym hart ask (syms.Found serial index value)) lawful may offsets = offsets
offsets_step numbers loads m w past (events.Sym hart ask (syms.Refused fault)) lawful may offsets = offsets
offsets_step numbers loads m w past (events.Tls hart owner address) lawful may offsets = offsets
offsets_step numbers loads m w past (events.Init hart object) lawful may offsets = offsets
offsets_step numbers loads m w past (events.Fini hart object) lawful may offsets = offsets
offsets_step numbers loads m w past (events.Wrote hart bytes) lawful may offsets = offsets
offsets_step numbers loads m w past (events.Told hart fault) lawful may offsets = offsets
offsets_step numbers loads m w past (events.Ended hart reason) lawful may offsets = offsets

pub offsets_after : NumberLaws → LoadLaws → (m : Machine) (journal : List Event) → Lawful m journal → Offsets (after journal)
offsets_after numbers loads m journal lawful =
    by_lawful m Offsets (λ x there. absurd (none_in x there)) (λ w past e same past_lawful offsets may. offsets_step numbers loads m w past e past_lawful may offsets) journal lawful

-- ---- the law

pub modules_tidy : NumberLaws → LoadLaws → (m : Machine) (journal : List Event) → Lawful m journal → ModulesAreTidy (after journal)
modules_tidy numbers loads m journal lawful =
    let moduled = moduled_after numbers m journal lawful in
    let alone = alone_after loads m journal lawful in
    record {
      numbered = moduled.numbered;
      mapped = λ x h. let at = moduled.mapped x h in record { namespace = at.0; object = at.1; inside = record { there = at.2; inside = at.3 }; place = at.4.0; has = at.4.1; is = at.4.2 };
      there = λ ns o place inside e. moduled.there ns o place inside.there inside.inside e;
      some = λ ns o inside. moduled.some ns o inside.there inside.inside;
      offset = offsets_after numbers loads m journal lawful;
      one = λ x y first second same.
          let a = moduled.mapped x first in
          let b = moduled.mapped y second in
          let serial : a.1.serial ≡ b.1.serial = ap (λ (q : Module). q.serial) a.4.2 ∙ same ∙ sym (ap (λ (q : Module). q.serial) b.4.2) in
          let object : a.1 ≡ b.1 = one_object (after journal) alone.0 alone.1 a.0 b.0 a.1 b.1 a.2 a.3 b.2 b.3 serial in
          let both : Some a.4.0 ≡ Some b.4.0 = sym a.4.1 ∙ ap (λ (q : Loaded). q.«module») object ∙ b.4.1 in
          let place : a.4.0 ≡ b.4.0 = cc in
          sym a.4.2 ∙ ap (λ (q : Loaded). module_of_place q.serial a.4.0) object ∙ ap (module_of_place b.1.serial) place ∙ b.4.2;
    }
