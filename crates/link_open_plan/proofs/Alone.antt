-- Before the first event nobody is there to wait for.
use Rattle.std.proofs.Common.{◌≡◌, ◌≢◌, ℕ, Bool, true, false, if◌then◌else◌, [], Option, Some, None, Result, Ok, Err, IfErr, refl, subst}
use Rattle.ld_base.specs.declared.fault.Shown.{Shown}
use Rattle.history_event.specs.declared.event.OpenAsk.{OpenAsk}
use Rattle.history_state.specs.After.{after}
use Rattle.history_state.specs.Objects.{has_id}
use Rattle.history_state.specs.Setting.{Setting, load_of}
use Rattle.history_state.specs.State.{empty_namespace, empty_state}
use Rattle.history_state.specs.Step.{namespace_before}
use Rattle.history_calls.specs.Waiting.{Waits}
use Rattle.scope_rule.specs.Load.{Load, Stops, waits}
use Rattle.scope_rule.specs.declared.namespace.Namespace.{Namespace}
use Rattle.link_open_plan.specs.Planned.{IsUnopened}
use Rattle.link_open_plan.specs.declared.planning.Unopened.{Unopened}
use Rattle.link_open_plan.specs.declared.planning.Unopened.TheVariants as unopened
use Rattle.link_open_plan.proofs.Starting.{nothing_yet}

abbrev pub NeverWaits : Type 0
NeverWaits = (load : Load) (shown : Shown) → load.there ≡ [] → Stops load (waits shown) → ⊥

abbrev picked : ℕ → Option Namespace → Namespace
picked id o = elim o [ Some ns ↦ ns | None ↦ empty_namespace id ]

none_there : (id : ℕ) → (namespace_before empty_state id).objects ≡ []
none_there id = by (has_id id (empty_namespace 0))
  where
    by : (b : Bool) → (picked id (if b then Some (empty_namespace 0) else None)).objects ≡ []
    by true = refl
    by false = refl

pub alone : NeverWaits → (w : Setting) (ask : OpenAsk) (why : Unopened) → IsUnopened w (after []) 0 ask why → (shown : Shown) → why ≢ unopened.Wait shown
alone never w ask why is shown same =
    let first : IsUnopened w empty_state 0 ask why = subst (λ s. IsUnopened w s 0 ask why) nothing_yet is in
    let has_to : Waits w empty_state 0 ask shown = subst (λ (y : Unopened). IsUnopened w empty_state 0 ask y) same first in
    never (load_of w empty_state 0 has_to.id has_to.name has_to.reading) shown (none_there has_to.id) has_to.stops

pub all_alone : NeverWaits → (w : Setting) (ask : OpenAsk) {X : Type 0} (r : Result X Unopened) → IfErr r (IsUnopened w (after []) 0 ask)
    → IfErr r (λ why. (shown : Shown) → why ≢ unopened.Wait shown)
all_alone never w ask (Ok x) is = is
all_alone never w ask (Err why) is = alone never w ask why is
