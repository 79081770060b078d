-- In the state with new objects each object that is seen in their namespace is there.
use Rattle.std.proofs.Common.{◌≡◌, ℕ, ◌<◌, ◌≤◌, List, ◌++◌, length, map, Option, Some, None, refl, sym, ap, subst, ◌∙◌, arith}
use Rattle.std.specs.Prelude.{◌==◌, find}
use Rattle.std.specs.List.{Contains}
use Rattle.std.specs.Option.{option_or}
use Rattle.std.proofs.lemmas.Bool.{eqb-true, ne_eqb}
use Rattle.std.proofs.lemmas.List.Folds.{find-append}
use Rattle.history_calls.specs.CallLaws.Laws.{AreNumberedFrom, NewStandBehind}
use Rattle.ld_base.specs.declared.linking.Loaded.{Loaded}
use Rattle.history_event.specs.declared.event.Event.{Event}
use Rattle.history_event.specs.declared.event.OpenAsk.{OpenAsk}
use Rattle.history_event.specs.declared.event.Range.{Range}
use Rattle.history_state.specs.After.{after}
use Rattle.history_state.specs.Bound.{place_of}
use Rattle.history_state.specs.Laws.{AreApart, IsIn, SerialsAreInOrder}
use Rattle.history_state.specs.Legal.{Lawful}
use Rattle.history_state.specs.Objects.{has_id, mapped, serial_of}
use Rattle.history_state.specs.Setting.{Machine}
use Rattle.history_state.specs.State.{State, empty_namespace}
use Rattle.history_state.specs.Step.{loaded, namespace_before, seen_after}
use Rattle.history_state.specs.Storage.{with_modules}
use Rattle.history_state.specs.Lemmas.Brought.{in_range}
use Rattle.history_state.specs.Lemmas.Lists.{found_in, from_flat, in_map}
use Rattle.history_state.specs.Lemmas.Lookups.{find_behind}
use Rattle.link_open_plan.specs.ObjectChoices.Sight.{Shows}
use Rattle.scope_rule.specs.Loading.{with_serial}
use Rattle.scope_rule.specs.declared.namespace.Namespace.{Namespace}

abbrev or_empty : ℕ → Option Namespace → Namespace
or_empty id f = elim f [ Some ns ↦ ns | None ↦ empty_namespace id ]

-- who was there in the namespace is there
there_before : (s : State) (id d : ℕ) (o : Loaded) → AreApart s → with_serial (namespace_before s id).objects d ≡ Some o → with_serial (mapped s) d ≡ Some o
there_before s id d o apart found = by (find (has_id id) s.namespaces) refl found
  where
    by : (f : Option Namespace) → find (has_id id) s.namespaces ≡ f → with_serial (or_empty id f).objects d ≡ Some o → with_serial (mapped s) d ≡ Some o
    by None e at = absurd (let x : None ≡ Some o = at in cc)
    by (Some ns) e at =
        let inside = found_in (λ (q : Loaded). q.serial == d) ns.objects o at in
        let is_in : IsIn s ns o = record { there = (found_in (has_id id) s.namespaces ns e).0; inside = inside.0 } in
        subst (λ n. with_serial (mapped s) n ≡ Some o) (eqb-true o.serial d inside.1) (apart.found ns o is_in)

-- a new object's serial is none that was there
new_behind : (s : State) (d : ℕ) (o : Loaded) (added : List Loaded) → SerialsAreInOrder s → AreNumberedFrom s.next added → with_serial added d ≡ Some o → with_serial (mapped s ++ added) d ≡ Some o
new_behind s d o added order numbered found =
    let at = found_in (λ (q : Loaded). q.serial == d) added o found in
    let late : s.next ≤ o.serial = (in_range s.next (length added) o.serial (subst (λ (ns : List ℕ). Contains ns o.serial) numbered (in_map serial_of added o at.0))).0 in
    let is : o.serial ≡ d = eqb-true o.serial d at.1 in
    find_behind (λ (q : Loaded). q.serial == d) (mapped s) added (λ q inside.
    let of = from_flat (λ (ns : Namespace). ns.objects) s.namespaces q inside in
    let early : q.serial < s.next = order.below of.0 q (record { there = of.1; inside = of.2 }) in
    ne_eqb q.serial d (λ same. omega (arith, late, is, early, same)))
    ∙ found

pub shown : NewStandBehind → (m : Machine) (past : List Event) (hart id root : ℕ) (ask : OpenAsk) (added : List Loaded) (ranges : List Range) → Lawful m past → AreApart (after past)
    → SerialsAreInOrder (after past) → AreNumberedFrom (after past).next added
    → Shows (loaded (after past) hart ask id root added ranges) (seen_after (after past) ask id root added) (map place_of (with_modules added (after past).modules))
unfolding loaded
shown stand m past hart id root ask added ranges lawful apart order numbered = record {
  objects = λ d o is. stand m past hart id root d ask added ranges lawful numbered ∙ each d o is;
  modules = refl;
}
  where
    s : State
    s = after past

    each : (d : ℕ) (o : Loaded) → with_serial ((namespace_before s id).objects ++ added) d ≡ Some o → with_serial (mapped s ++ added) d ≡ Some o
    each d o is = by (with_serial (namespace_before s id).objects d) refl (sym (find-append (λ (q : Loaded). q.serial == d) (namespace_before s id).objects added) ∙ is)
      where
        by : (f : Option Loaded) → with_serial (namespace_before s id).objects d ≡ f → option_or f (with_serial added d) ≡ Some o → with_serial (mapped s ++ added) d ≡ Some o
        by None e at = new_behind s d o added order numbered at
        by (Some q) e at =
            find-append (λ (x : Loaded). x.serial == d) (mapped s) added
            ∙ ap (λ (f : Option Loaded). option_or f (with_serial added d)) (there_before s id d q apart e) ∙ at
