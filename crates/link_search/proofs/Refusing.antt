-- Why a look-up finds nothing.
use Rattle.std.proofs.Common.{◌≡◌, ℕ, Bool, true, false, eqb, Option, Some, None, refl, sym, subst, ◌∙◌}
use Rattle.std.specs.Prelude.{IsTrue}
use Rattle.std.specs.Option.{option_map}
use Rattle.std.proofs.lemmas.Bool.{true≢false}
use Rattle.ld_base.specs.declared.fault.DlFault.{DlFault}
use Rattle.ld_base.specs.declared.fault.DlFault.TheVariants as faults
use Rattle.history_event.specs.declared.event.SymAsk.{SymAsk}
use Rattle.history_state.specs.Lookup.{IsShort, RefusesSymbol, bad_handle, missing, opened_in, search, searched_object}
use Rattle.history_state.specs.Objects.{has_id, has_namespace, namespace_of}
use Rattle.history_state.specs.State.{State}
use Rattle.history_state.specs.Lemmas.Lists.{any_in, not_found}
use Rattle.link_search.proofs.Searched.{by_default, on_handle}

none_mapped : {X Y : Type 0} (f : X → Y) (o : Option X) → option_map f o ≡ None → o ≡ None
none_mapped f None is = refl
none_mapped f (Some x) is = absurd (let e : Some (f x) ≡ None = is in cc)

-- nothing to search, for a caller whose namespace is there
pub nowhere : (s : State) (hart : ℕ) (ask : SymAsk) → IsShort ask → IsTrue (has_namespace s ask.ns) → None ≡ search s ask → RefusesSymbol s hart ask (faults.BadHandle ask.handle)
nowhere s hart ask short caller none = by (eqb ask.handle 0) refl
  where
    by : (b : Bool) → eqb ask.handle 0 ≡ b → RefusesSymbol s hart ask (faults.BadHandle ask.handle)
    by true e =
        let its = any_in (has_id ask.ns) s.namespaces caller in
        let no : namespace_of s ask.ns ≡ None = none_mapped _ (namespace_of s ask.ns) (sym (none ∙ by_default s ask e)) in
        absurd (true≢false (sym its.2 ∙ not_found (has_id ask.ns) s.namespaces its.0 no its.1))
    by false e = bad_handle short e (none_mapped _ (opened_in s ask.handle) (sym (none ∙ on_handle s ask e)))

pub undefined : (s : State) (hart : ℕ) (ask : SymAsk) (fault : DlFault) → IsShort ask → Some None ≡ search s ask → fault ≡ faults.MissingSymbol (searched_object s ask.handle) ask.name ask.version
    → RefusesSymbol s hart ask fault
undefined s hart ask fault short none is = subst (RefusesSymbol s hart ask) (sym is) (missing short (sym none))
