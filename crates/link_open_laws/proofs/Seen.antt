-- Bindings of new objects, by what is seen in their namespace.
use Rattle.std.proofs.Common.{◌≡◌, ◌⊎◌, inl, inr, ⊎_elim, ℕ, ◌≤◌, Bool, true, false, List, [], ◌∷◌, ◌++◌, map, Option, Some, None, refl, sym, ap, subst, ◌∙◌, arith}
use Rattle.std.specs.Prelude.{◌==◌, if◌then◌else◌}
use Rattle.std.specs.List.{Contains}
use Rattle.std.specs.Option.{option_and_then, option_map_or}
use Rattle.std.proofs.lemmas.Bool.{eq-eqb, eqb-true, true≢false}
use Rattle.std.proofs.lemmas.List.Elements.{Contains-append_right}
use Rattle.ld_base.specs.declared.linking.Choice.{Choice}
use Rattle.ld_base.specs.declared.linking.Choice.TheVariants.{Def, WeakZero, Missing}
use Rattle.ld_base.specs.declared.linking.Loaded.{Loaded}
use Rattle.ld_base.specs.declared.object.Reloc.{Reloc}
use Rattle.history_event.specs.declared.event.Event.{Event}
use Rattle.history_event.specs.declared.event.Event.TheVariants.{Open}
use Rattle.history_event.specs.declared.event.OpenAnswer.TheVariants.{Done}
use Rattle.history_event.specs.declared.event.OpenAsk.{OpenAsk}
use Rattle.history_event.specs.declared.event.Range.{Range}
use Rattle.history_state.specs.Addresses.{address, definition_address, linker_function, symbol_at}
use Rattle.history_state.specs.After.{after}
use Rattle.history_state.specs.Bound.{binding_of, binds_now, is_storage, no_binding, slot_bindings, uncopied}
use Rattle.history_state.specs.Bound.{slot_binding as slot_bound}
use Rattle.history_state.specs.Flags.{is_global}
use Rattle.history_state.specs.Grants.{target_of}
use Rattle.history_state.specs.Laws.{AreApart}
use Rattle.history_state.specs.Legal.{Lawful}
use Rattle.history_state.specs.Objects.{mapped, object_at}
use Rattle.history_state.specs.Opening.{Opens}
use Rattle.history_state.specs.Setting.{Machine, Setting}
use Rattle.history_state.specs.State.{State}
use Rattle.history_state.specs.Step.{binds, loaded, namespace_before, open_done, seen_after}
use Rattle.history_state.specs.Lemmas.Alone.{apart}
use Rattle.history_state.specs.Lemmas.Brought.{LoadLaws}
use Rattle.history_state.specs.Lemmas.Good.{Good, Has, core, safe_choice, sound_of}
use Rattle.history_state.specs.Lemmas.History.{after_push, lawful_push}
use Rattle.history_state.specs.Lemmas.Lists.{found_in, from_flat, here, not_found}
use Rattle.history_state.specs.Lemmas.Opened.{before_of, members}
use Rattle.history_state.specs.Lemmas.Startup.{changed_there}
use Rattle.history_state.specs.Lemmas.Steps.{good_after}
use Rattle.link_open_images.specs.ObjectBindings.Bindings.{binding_in, bindings_in, copied_by, none_copied, rela_binding, slot_binding}
use Rattle.relocator.specs.Bindings.{is_copy}
use Rattle.relocator.specs.declared.binding.Binding.{Binding}
use Rattle.scope_rule.specs.Loading.{object_of, with_serial}
use Rattle.scope_rule.specs.Opening.{opened}
use Rattle.scope_rule.specs.Relocation.{choice_at}
use Rattle.scope_rule.specs.Seen.{Seen, seen_in}
use Rattle.scope_rule.specs.declared.namespace.Namespace.{Namespace}

map_same_in : {X Y : Type 0} (f g : X → Y) (xs : List X) → ((x : X) → f x ≡ g x) → map f xs ≡ map g xs
map_same_in f g [] same = refl
map_same_in {X} {Y} f g (x ∷ xs) same = ap (λ (y : Y). y ∷ map f xs) (same x) ∙ ap (λ (ys : List Y). g x ∷ ys) (map_same_in f g xs same)

-- no object has serial 0
none_zero : (objects : List Loaded) → ((o : Loaded) → Contains objects o → 1 ≤ o.serial) → with_serial objects 0 ≡ None
none_zero objects some = by (with_serial objects 0) refl
  where
    by : (found : Option Loaded) → with_serial objects 0 ≡ found → with_serial objects 0 ≡ None
    by None is = is
    by (Some o) is =
        let at = found_in (λ (q : Loaded). q.serial == 0) objects o is in
        absurd (let low : 1 ≤ o.serial = some o at.0 in let zero_is : o.serial ≡ 0 = eqb-true o.serial 0 at.1 in omega (arith, low, zero_is))

-- what a binding takes of the object that a definition is of
abbrev binding_from : Reloc → ℕ → ℕ → Option Loaded → Binding
binding_from r d index found = record {
  bound = true;
  choice = Def d index;
  value = if is_storage r then (if d == 0 then linker_function index else option_map_or (λ symbol. symbol.value) (option_and_then (λ o. symbol_at o.object index) found) 0)
      else (if d == 0 then linker_function index else definition_address found index);
  size = option_map_or (λ symbol. symbol.size) (option_and_then (λ o. symbol_at o.object index) found) 0;
  object = Some d;
  copied = [];
}

binding_same : (t : State) (ns : Seen) (r : Reloc) (c : Choice) → ((d : ℕ) → Contains (target_of c) d → object_of ns d ≡ object_at t d) → binding_of t r c ≡ binding_in ns r c
unfolding address
binding_same t ns r (Def d index) same = sym (ap (binding_from r d index) (same d (here d [])))
binding_same t ns r WeakZero same = refl
binding_same t ns r Missing same = refl

module _ (laws : LoadLaws) (m : Machine) (w : Setting) (same : w.machine ≡ m) (past : List Event) (lawful : Lawful m past)
    (hart : ℕ) (ask : OpenAsk) (id root : ℕ) (added : List Loaded) (ranges : List Range) (may : Opens w (after past) hart ask id root added ranges) where
  abbrev opening : Event
  opening = Open hart ask (Done id root added ranges)

  abbrev t : State
  t = loaded (after past) hart ask id root added ranges

  abbrev end_state : State
  end_state = open_done (after past) hart ask id root added ranges

  abbrev changed : Namespace
  changed = opened (namespace_before (after past) id) added root (is_global ask.flags)

  lawful_next : Lawful m (past ++ opening ∷ [])
  lawful_next = lawful_push m w past opening same lawful may

  good_next : Good (core end_state)
  good_next = subst (λ (x : State). Good (core x)) (after_push past opening) (good_after laws m (past ++ opening ∷ []) lawful_next)

  apart_next : AreApart end_state
  apart_next = subst AreApart (after_push past opening) (apart laws m (past ++ opening ∷ []) lawful_next)

  there : Contains end_state.namespaces changed
  unfolding loaded
  there =
      let change : Namespace → Namespace = λ n. opened n added root (is_global ask.flags) in
      let found = changed_there id added root (is_global ask.flags) (after past).namespaces in
      ⊎_elim
      (λ (is : found.0 ≡ change (namespace_before (after past) id)). subst (λ (n : Namespace). Contains end_state.namespaces n) is found.1)
      (λ (other : Contains (after past).namespaces found.0 × (found.0.id ≡ id → ⊥)). absurd (other.1 found.2))
      (members (after past).namespaces id (namespace_before (after past) id) (before_of (after past) id (good_after laws m past lawful)) change found.0 found.1)

  -- an object that is seen is the mapped one with its serial
  same_object : (d : ℕ) → (d ≡ 0) ⊎ Has changed d → object_of (seen_in changed) d ≡ object_at end_state d
  same_object d where_is = ⊎_elim
      (λ (zero_is : d ≡ 0). subst (λ (n : ℕ). object_of (seen_in changed) n ≡ object_at end_state n) (sym zero_is)
      (none_zero changed.objects (λ o inside. good_next.some changed o (there, inside))
      ∙ sym (none_zero (mapped end_state) (λ o inside. let at = from_flat (λ (ns : Namespace). ns.objects) end_state.namespaces o inside in good_next.some at.0 o (at.1, at.2)))))
      (λ (has : Has changed d). by has (with_serial changed.objects d) refl)
      where_is
    where
      by : Has changed d → (found : Option Loaded) → with_serial changed.objects d ≡ found → object_of (seen_in changed) d ≡ object_at end_state d
      by has None is = absurd (true≢false (sym (eq-eqb has.0.serial d has.2) ∙ not_found (λ (q : Loaded). q.serial == d) changed.objects has.0 is has.1))
      by has (Some q) is =
          let at = found_in (λ (x : Loaded). x.serial == d) changed.objects q is in
          let serial : q.serial ≡ d = eqb-true q.serial d at.1 in
          is ∙ sym (ap (object_at end_state) (sym serial) ∙ apart_next.found changed q (record { there = there; inside = at.0 }))

  new_inside : (o : Loaded) → Contains added o → Contains changed.objects o
  new_inside o new = Contains-append_right (namespace_before (after past) id).objects added o new

  targets_same : (o : Loaded) → Contains added o → (r : Reloc) (d : ℕ) → Contains (target_of (choice_at (seen_in changed) o r)) d → object_of (seen_in changed) d ≡ object_at t d
  targets_same o new r d target = same_object d (⊎_elim
      (λ (e : d ≡ 0). inl e)
      (λ h. inr h.0)
      (safe_choice (core end_state).closings changed (sound_of (core end_state) good_next changed there) o (new_inside o new) r d target))

  pub new_bindings : (o : Loaded) → Contains added o
      → (uncopied t (seen_after (after past) ask id root added) (binds (after past) ask) o).bindings ≡ bindings_in none_copied (seen_after (after past) ask id root added) (binds (after past) ask) o
  unfolding bindings_in
  new_bindings o new =
      ap (λ (bs : List Binding). bs ++ slot_bindings t ns now o) (map_same_in (λ r. binding_of t r (choice_at ns o r)) (rela_binding none_copied ns o) o.object.relocs rela)
      ∙ ap (λ (bs : List Binding). map (rela_binding none_copied ns o) o.object.relocs ++ bs) (map_same_in _ (slot_binding ns now o) o.object.plt_relocs (λ r. slot r (binds_now now o.object)))
    where
      ns : Seen
      ns = seen_after (after past) ask id root added

      now : Bool
      now = binds (after past) ask

      rela : (r : Reloc) → binding_of t r (choice_at (seen_in changed) o r) ≡ copied_by none_copied o.object r (binding_in (seen_in changed) r (choice_at (seen_in changed) o r))
      rela r = binding_same t (seen_in changed) r (choice_at (seen_in changed) o r) (targets_same o new r) ∙ plain (is_copy r) (binding_in (seen_in changed) r (choice_at (seen_in changed) o r)) refl
        where
          plain : (b : Bool) (x : Binding) → x.copied ≡ [] → x ≡ (if b then record x { copied = [] } else x)
          plain true x e = ap (λ (bs : List ℕ). record x { copied = bs }) e
          plain false x e = refl

      slot : (r : Reloc) (b : Bool) → slot_bound t (r, if b then Some (choice_at (seen_in changed) o r) else None) ≡ (if b then binding_in (seen_in changed) r (choice_at (seen_in changed) o r) else no_binding)
      slot r true = binding_same t (seen_in changed) r (choice_at (seen_in changed) o r) (targets_same o new r)
      slot r false = refl
