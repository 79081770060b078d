-- The handle of an opening that may be closed.
use Rattle.std.proofs.Common.{◌≡◌, ℕ, ◌-◌, ◌≤◌, ◌<◌, Bool, true, false, eqb, ltb, Some, None, refl, sym, ◌∙◌, arith}
use Rattle.std.specs.Prelude.{if◌then◌else◌}
use Rattle.std.specs.List.{find}
use Rattle.std.proofs.lemmas.Bool.{and_from, and_parts, eq-eqb, eqb-true, lt-ltb, ltb-true, true≢false}
use Rattle.close_mark.specs.ClosingGraph.Graphs.{has_closable, is_closable}
use Rattle.ld_base.specs.declared.fault.DlFault.TheVariants.{BadHandle}
use Rattle.history_state.specs.Allowed.{IsBadHandle, IsOpened, closable}
use Rattle.history_state.specs.State.{State}
use Rattle.history_state.specs.Lemmas.Lists.{any_in, found_in, in_any, not_found}
use Rattle.scope_rule.specs.declared.namespace.Namespace.{Namespace}
use Rattle.scope_rule.specs.declared.namespace.OpenRec.{OpenRec}

counts : (r : OpenRec) → ltb (if eqb r.root 1 then 1 else 0) r.count ≡ true → 1 ≤ closable r
counts r more = by (eqb r.root 1) (ltb-true (if eqb r.root 1 then 1 else 0) r.count more)
  where
    by : (b : Bool) → (if b then 1 else 0) < r.count → 1 ≤ (if b then r.count - 1 else r.count)
    by true lt = omega (arith, lt)
    by false lt = omega (arith, lt)

more : (r : OpenRec) → 1 ≤ closable r → ltb (if eqb r.root 1 then 1 else 0) r.count ≡ true
more r le = lt-ltb (if eqb r.root 1 then 1 else 0) r.count (by (eqb r.root 1) le)
  where
    by : (b : Bool) → 1 ≤ (if b then r.count - 1 else r.count) → (if b then 1 else 0) < r.count
    by true le = omega (arith, le)
    by false le = omega (arith, le)

pub first_opened : (s : State) (handle : ℕ) (ns : Namespace) → find (has_closable handle) s.namespaces ≡ Some ns → IsOpened s handle ns
first_opened s handle ns is =
    let at = found_in (has_closable handle) s.namespaces ns is in
    let r = any_in (is_closable handle) ns.opens at.1 in
    let parts = and_parts (eqb r.0.root handle) (ltb (if eqb r.0.root 1 then 1 else 0) r.0.count) r.2 in
    record {
      there = at.0;
      opening = r.0;
      inside = r.1;
      of = eqb-true r.0.root handle parts.0;
      counts = counts r.0 parts.1;
    }

pub none_opened : (s : State) (handle : ℕ) → find (has_closable handle) s.namespaces ≡ None → IsBadHandle s handle (BadHandle handle)
none_opened s handle none = record {
  none = λ ns o. true≢false
      (sym (in_any (is_closable handle) ns.opens o.opening o.inside
      (and_from (eqb o.opening.root handle) (ltb (if eqb o.opening.root 1 then 1 else 0) o.opening.count) (eq-eqb o.opening.root handle o.of) (more o.opening o.counts)))
      ∙ not_found (has_closable handle) s.namespaces ns none o.there);
  is = refl;
}
