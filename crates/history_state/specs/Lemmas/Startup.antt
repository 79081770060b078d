-- What startup loaded stays, in the base namespace.
use Rattle.std.proofs.Common.{◌≡◌, ◌⊎◌, inl, inr, ⊎_elim, ℕ, ◌<◌, ◌≤◌, Bool, true, false, List, [], ◌∷◌, ◌++◌, map, Option, Some, None, refl, sym, ap, subst, ◌∙◌, arith}
use Rattle.std.specs.Prelude.{if◌then◌else◌}
use Rattle.std.specs.List.{Contains, filter, list_any}
use Rattle.std.proofs.lemmas.Bool.{cases_Bool, eqb-true}
use Rattle.std.proofs.lemmas.List.Elements.{Contains-append_right, Contains-push}
use Rattle.ld_base.specs.declared.linking.Loaded.{Loaded}
use Rattle.history_event.specs.declared.event.Event.{Event}
use Rattle.history_event.specs.declared.event.OpenAsk.{OpenAsk}
use Rattle.history_event.specs.declared.event.Range.{Range}
use Rattle.history_event.specs.declared.state.Closing.{Closing}
use Rattle.history_event.specs.declared.state.Loading.{Loading}
use Rattle.scope_rule.specs.Opening.{opened}
use Rattle.scope_rule.specs.declared.namespace.Namespace.{Namespace}
use Rattle.history_state.specs.State.{State, empty_namespace}
use Rattle.history_state.specs.Objects.{first_serials, has_id, is_none_loaded, is_startup, serial_of}
use Rattle.history_state.specs.Flags.{is_global}
use Rattle.history_state.specs.Step.{changed_at, die, dying_in, gone_in, initialise, is_left, loaded, loading_of, lower, lowered_in, ready_in, unmap, with_namespace}
use Rattle.history_state.specs.After.{after}
use Rattle.history_state.specs.Asking.{IsNamespace}
use Rattle.history_state.specs.Laws.{StartupStays}
use Rattle.history_state.specs.Legal.{Lawful}
use Rattle.history_state.specs.Opening.{Opens}
use Rattle.history_state.specs.Setting.{Machine, Setting}
use Rattle.history_state.specs.Lemmas.Lists.{any_in, from_map, in_filter, in_map, none_in}
use Rattle.history_state.specs.Lemmas.Good.{core, Core, Free, Has, Keeps, closing_by, closing_cases, has_kept}
use Rattle.history_state.specs.Lemmas.Dying.{keeps_dying, keeps_lowered, keeps_ready, startup_root}
use Rattle.history_state.specs.Lemmas.Closed.{closes_dies, dies_node, fewer_closings, stays_there}
use Rattle.history_state.specs.Lemmas.Brought.{LoadLaws}
use Rattle.history_state.specs.Lemmas.LeftOut.{by_whom}
use Rattle.history_state.specs.Lemmas.Once.{Once, once_after}
use Rattle.history_state.specs.Lemmas.Steps.{Law, by_law}
use Rattle.scope_rule.specs.Loading.{is_dying}
use Rattle.history_state.specs.Lemmas.Dangling.{kept_namespace, left_nonempty}

-- an object of the base namespace
abbrev Based : List Namespace → ℕ → Type 0
Based all d = (ns : Namespace) × Contains all ns × (ns.id ≡ 0) × Has ns d

-- each object that startup loaded is one of the base namespace, and isn't dying
abbrev Steady : Core → Type 0
Steady c = (d : ℕ) → Contains (first_serials c.loadings) d → Based c.namespaces d × Free c.closings d

based_by : (change : Namespace → Namespace) → Keeps change → (all : List Namespace) (d : ℕ) → Based all d → Based (map change all) d
based_by change keeps all d h = (change h.0, in_map change all h.0 h.1, keeps.id h.0 ∙ h.2, has_kept change keeps h.0 d h.3)

based_unmap : (set : List ℕ) (all : List Namespace) (d : ℕ) → Based all d → (Contains set d → ⊥) → Based (filter is_left (map (gone_in set) all)) d
based_unmap set all d h out =
    let has_it : Has (gone_in set h.0) d = stays_there set h.0 d h.3 out in
    (gone_in set h.0, in_filter is_left (map (gone_in set) all) (gone_in set h.0) (in_map (gone_in set) all h.0 h.1) (left_nonempty (gone_in set h.0) d has_it), h.2, has_it)

based_open : (id : ℕ) (added : List Loaded) (root : ℕ) (g : Bool) (all : List Namespace) (d : ℕ) → Based all d → Based (with_namespace id (λ n. opened n added root g) all) d
based_open id added root g all d h = let m = kept_namespace id added root g all h.0 h.1 in (m.0, m.1, m.2 ∙ h.2, m.3 d h.3)

-- the changed namespace is there
pub changed_there : (id : ℕ) (added : List Loaded) (root : ℕ) (g : Bool) (all : List Namespace)
    → (ns : Namespace) × Contains (with_namespace id (λ n. opened n added root g) all) ns × (ns.id ≡ id) × ((a : Loaded) → Contains added a → Has ns a.serial)
changed_there id added root g all = by (list_any (has_id id) all) refl
  where
    brings : (n : Namespace) (a : Loaded) → Contains added a → Has (opened n added root g) a.serial
    brings n a h = (a, Contains-append_right n.objects added a h, refl)

    by : (t : Bool) → list_any (has_id id) all ≡ t
        → (ns : Namespace) × Contains (if t then map (changed_at id (λ n. opened n added root g)) all else all ++ opened (empty_namespace id) added root g ∷ []) ns × (ns.id ≡ id) × ((a : Loaded) → Contains added a → Has ns a.serial)
    by true e =
        let at = any_in (has_id id) all e in
        let is : changed_at id (λ n. opened n added root g) at.0 ≡ opened at.0 added root g = ap (λ (t : Bool). if t then opened at.0 added root g else at.0) at.2 in (
          opened at.0 added root g,
          subst (λ (n : Namespace). Contains (map (changed_at id (λ n. opened n added root g)) all) n) is (in_map (changed_at id (λ n. opened n added root g)) all at.0 at.1),
          eqb-true at.0.id id at.2,
          brings at.0,
        )
    by false e = (opened (empty_namespace id) added root g, Contains-push all (opened (empty_namespace id) added root g), refl, brings (empty_namespace id))

-- startup's opening is in the base namespace
startup_base : (w : Setting) (s : State) (hart : ℕ) (ask : OpenAsk) (id root : ℕ) (added : List Loaded) (ranges : List Range) → Opens w s hart ask id root added ranges
    → is_startup s ≡ true → id ≡ 0
startup_base w s hart ask id root added ranges opens startup =
    by ask.name (subst (λ ns. IsNamespace s ns ask.name id) (opens.may startup).base opens.asked.namespace)
  where
    by : (name : Option (List ℕ)) → IsNamespace s (Some 0) name id → id ≡ 0
    by (Some name) h = h.0
    by None h = h.0

-- those that startup loaded, once an opening was added
loaded_first : (loadings : List Loading) (hart : ℕ) (added : List Loaded) (d : ℕ) → Contains (first_serials (loadings ++ loading_of hart added)) d
    → Contains (first_serials loadings) d ⊎ ((is_none_loaded loadings ≡ true) × Contains (map serial_of added) d)
loaded_first [] hart [] d h = absurd (none_in d h)
loaded_first [] hart (a ∷ added) d h = inr (refl, h)
loaded_first (l ∷ rest) hart added d h = inl h

startup_law : Law Steady
unfolding loaded die lower unmap initialise
startup_law = record {
  starts = λ d h. absurd (none_in d h);
  opens = λ w s hart ask id root added ranges good steady opens came d h. ⊎_elim
      (λ (i : Contains (first_serials s.loadings) d). (based_open id added root (is_global ask.flags) s.namespaces d (steady d i).0, (steady d i).1))
      (λ (i : (is_none_loaded s.loadings ≡ true) × Contains (map serial_of added) d).
      let at = from_map serial_of added d i.1 in
      let m = changed_there id added root (is_global ask.flags) s.namespaces in
      let base : id ≡ 0 = startup_base w s hart ask id root added ranges opens i.0 in
      let from : s.next ≤ at.0.serial = (came.fresh at.0 at.1).0 in
      let is : at.0.serial ≡ d = at.2 in
      ((m.0, m.1, m.2 ∙ base, subst (Has m.0) at.2 (m.3 at.0 at.1)), λ k there set. let low : d < s.next = good.set_low k d there set in omega (arith, low, from, is)))
      (loaded_first s.loadings hart added d h);
  closes = λ s hart handle set good steady closes d h.
      let old = steady d h in (
        based_by (dying_in hart set) (keeps_dying hart set) (map (lowered_in handle) s.namespaces) d (based_by (lowered_in handle) (keeps_lowered handle) s.namespaces d old.0),
        λ k there. ⊎_elim
            (λ (i : Contains s.closings k). old.1 k i)
            (λ (e : closing_by hart set ≡ k). subst (λ (q : Closing). Contains q.set d → ⊥) e
            (λ (i : Contains set d). (dies_node (lower handle s) (lowered_in handle closes.namespace) set (closes_dies s handle set closes) d i).1 (startup_root (lower handle s) d h)))
            (closing_cases s.closings hart set k there),
      );
  unmaps = λ s hart set good steady may d h.
      let old = steady d h in (
        based_unmap set s.namespaces d old.0 (λ (i : Contains set d). old.1 may.closing may.there (subst (λ (xs : List ℕ). Contains xs d) (sym may.whole) i)),
        λ k there. old.1 k (fewer_closings s.closings hart set k there),
      );
  grants = λ s number hart owner slot choice value good steady may. steady;
  settles = λ s number standing good steady shut. steady;
  initialises = λ s object good steady d h. (based_by (ready_in object) (keeps_ready object) s.namespaces d (steady d h).0, (steady d h).1);
}

-- what no closing has isn't dying
alive_free : (s : State) → Once (core s) → (ns : Namespace) (o : Loaded) → Contains s.namespaces ns → Contains ns.objects o → Free s.closings o.serial → is_dying o ≡ false
alive_free s once ns o there inside free = ⊎_elim
    (λ (dying : is_dying o ≡ true).
    let by = by_whom o.state dying in
    let k = once.only ns o by.0 there inside by.1 in
    absurd (free k.0 k.1 k.3))
    (λ (alive : is_dying o ≡ false). alive)
    (cases_Bool (is_dying o))

pub startup_stays : LoadLaws → (m : Machine) (journal : List Event) → Lawful m journal → StartupStays (after journal)
startup_stays laws m journal lawful d h =
    let both = by_law laws Steady startup_law m journal lawful in
    let at = (both.1 d h).0 in
    let free : Free (after journal).closings at.3.0.serial = subst (Free (after journal).closings) (sym at.3.2) (both.1 d h).1 in
    record {
      namespace = at.0;
      object = at.3.0;
      inside = record { there = at.1; inside = at.3.1 };
      is = at.3.2;
      base = at.2;
      alive = alive_free (after journal) (once_after laws m journal lawful).1 at.0 at.3.0 at.1 at.3.1 free;
    }
